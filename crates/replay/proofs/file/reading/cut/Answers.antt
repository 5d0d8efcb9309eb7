use Rattle.std.proofs.Common.{◌≡◌, ◌≢◌, ◌+◌, arith, take}
use Rattle.std.proofs.lemmas.List.{take_all, take_rest}
use Rattle.replay.proofs.Text.Cuts.{all_more, split_at}
use Rattle.replay.proofs.file.reading.cut.Goals as goal

pub returns-then-bytes-i-clause-found : goal.returns-then-bytes-i-clause-found
returns-then-bytes-i-clause-found c =
    let bytes = c.args.bytes.now in (
      rw (take_rest bytes (c.loop-i.i + 1))
          (split_at bytes c.loop-i.i c.args.at 0 c.loop-i-test.true c.if-bytes-i.true),
      c.loop-i.invariant,
    )

pub loop-i-preserved : goal.loop-i-preserved
loop-i-preserved c =
    all_more (λ b. b ≢ c.args.at) c.args.bytes.now c.loop-i.i 0 c.loop-i-test.true c.loop-i.invariant c.if-bytes-i.false

pub returns-clause-none : goal.returns-clause-none
returns-clause-none c =
    let whole : take c.loop-i.i c.args.bytes.now ≡ c.args.bytes.now =
    take_all c.loop-i.i c.args.bytes.now (omega arith) in
    rw whole at c.loop-i.invariant
