use Rattle.book.specs.Books.{machine_in}
use Rattle.replay.proofs.Stopping.{stopped}
use Rattle.reports.proofs.reading.is_full_at.Goals as goal

pub returns-in-Err-NotEnabled-clause-yes : goal.returns-in-Err-NotEnabled-clause-yes
returns-in-Err-NotEnabled-clause-yes g c =
    let m = machine_in g.M.Machine.rules c.args.book.now in
    let stops =
    rw (c.in-Err-NotEnabled.field-0-is, c.machine.ensures, c.requires.program) at
    c.in-Err-NotEnabled.ensures.not_enabled
    in
    let none = stopped m m.start c.args.schedule.now c.in-Err-NotEnabled.field-0-0 stops.3 in
    λ _. cc (c.requires.way.2, none)

pub is_full_for-requires-clause-own : goal.is_full_for-requires-clause-own
is_full_for-requires-clause-own g c κs within =
    let way = c.requires.way in
    let end = rw (c.machine.ensures, c.requires.program) at c.in-Ok.ensures.state in
    (way.0, way.1, cc (way.2, end))

pub is_full_for-requires-clause-fits : goal.is_full_for-requires-clause-fits
is_full_for-requires-clause-fits g c κs within = rw (c.machine.ensures, c.requires.program) at c.in-Ok.ensures.fits
