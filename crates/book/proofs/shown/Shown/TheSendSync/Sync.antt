-- It owns nothing, so any thread may share it.
use denote.RattleType.{RattleType}
use denote.Param.Send.{IsSync}
use Rattle.book.proofs.ShownSent.{shown_sync}
use Rattle.book.specs.contracts.shown.Shown.{the_row}

pub sync : (Y : RattleType) → IsSync (the_row Y)
sync = shown_sync
