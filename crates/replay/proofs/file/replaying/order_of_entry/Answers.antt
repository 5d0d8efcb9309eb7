-- The order of an entry's line shows its state, and each entry behind the start has a line.
use Rattle.std.proofs.Common.{◌≡◌, ◌<◌, ◌-◌, suc, arith, length}
use Rattle.std.proofs.lemmas.Option.{slice_get-get_or}
use Rattle.replay.proofs.BookFile.Recalled.{line_shown, start_shown}
use Rattle.replay.proofs.file.replaying.order_of_entry.Goals as goal

pub returns-then-index-eq0 : goal.returns-then-index-eq0
returns-then-index-eq0 g c states state so at =
    start_shown (g.M.Machine.rules c.args.input.now.machine) c.args.input.now.program.now c.args.input.now.lines.now
    states so state (rw c.if-index-eq0.true at at)

pub returns : goal.returns
returns g c states state so at =
    let lines = c.args.input.now.lines.now in
    let behind : c.args.index ≡ suc (c.args.index - 1) = omega (arith, c.if-index-eq0.false) in
    let within : c.args.index - 1 < length lines = omega (arith, c.requires, c.if-index-eq0.false) in
    rw c.as_slice.ensures (line_shown (g.M.Machine.rules c.args.input.now.machine) c.args.input.now.program.now lines
    states so (c.args.index - 1) _ (slice_get-get_or lines (c.args.index - 1) c.index-input-index.result within) state
    (rw behind at at))
