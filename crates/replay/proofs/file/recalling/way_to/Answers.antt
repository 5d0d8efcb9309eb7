use Rattle.std.proofs.Common.{◌-◌, ◌<◌, arith, length, reverse, rules}
use Rattle.std.proofs.lemmas.Option.{slice_get-get_or}
use Rattle.replay.proofs.BookFile.Recalled.{from_start, has_line, leads_nowhere, one_back}
use Rattle.replay.proofs.BookFile.Replayed.{same_count}
use Rattle.replay.proofs.file.recalling.way_to.Goals as goal

pub back-init : goal.back-init
back-init g c states so =
    let input = c.args.input.now in
    let within : c.args.index < length c.args.labels.now = c.requires.within in
    rw c.new-way.ensures.items (leads_nowhere (g.M.Machine.rules input.machine) input.program.now states c.args.index
    (omega (arith, same_count c.requires.kept states so)))

pub bounds-input-at : goal.bounds-input-at
bounds-input-at g c =
    let kept = c.requires.kept in
    has_line c.args.input.now.lines.now kept.replayed c.back-test.true (c.back.invariant kept.states kept.replayed)

pub offset_bounds-input-at : goal.offset_bounds-input-at
offset_bounds-input-at g c =
    let below : c.back.at - 1 < length c.args.input.now.lines.now = bounds-input-at g c in search rules

pub back-smaller : goal.back-smaller
back-smaller g c =
    let lines = c.args.input.now.lines.now in
    let kept = c.requires.kept in
    let leads = c.back.invariant kept.states kept.replayed in
    let within = has_line lines kept.replayed c.back-test.true leads in
    (one_back lines kept.replayed c.back-test.true c.back.way.items leads _
    (slice_get-get_or lines (c.back.at - 1) c.index-input-at.result within)).0

pub back-preserved : goal.back-preserved
back-preserved g c states so =
    let lines = c.args.input.now.lines.now in
    let leads = c.back.invariant states so in
    let within = has_line lines so c.back-test.true leads in
    rw c.in_ok-push.ensures.items (one_back lines so c.back-test.true c.back.way.items leads _
    (slice_get-get_or lines (c.back.at - 1) c.index-input-at.result within)).1

pub returns : goal.returns
returns g c states so =
    rw c.reverse.ensures.items (from_start c.args.input.now.lines.now so c.back-test.false (reverse c.back.way.items)
    (c.back.invariant states so))
