use Rattle.replay.proofs.Text.Numbers.{HasRead}
use Rattle.replay.proofs.file.reading.number_of.Given as goal

abbrev pub invariant-loop-digit : goal.invariant-loop-digit
invariant-loop-digit l = HasRead l.text l.digit-index l.value l.most
