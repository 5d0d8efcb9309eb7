-- It owns nothing, so it may go to any thread.
use denote.RattleType.{RattleType}
use denote.Param.Send.{IsSend}
use Rattle.book.proofs.ShownSent.{shown_send}
use Rattle.book.specs.contracts.shown.Shown.{the_row}

pub send : (Y : RattleType) → IsSend (the_row Y)
send = shown_send
