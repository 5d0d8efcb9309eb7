use Rattle.std.proofs.Common.{◌++◌, ◌∙◌, ap}
use Rattle.std.proofs.lemmas.Result.{on_ok_weaker}
use Rattle.tree_machine.specs.Canonical.{canonical_front, canonical_parts, cut_front}
use Rattle.tree_machine.specs.Flat.{behind_code}
use Rattle.tree_machine.specs.Laws.Fronts.{behind_all, front_is}
use Rattle.tree_machine.proofs.HeldWalks.{taken}
use Rattle.tree_machine.proofs.part_code.write_canonical_behind.Goals as goal

pub returns-then-front_records-records : goal.returns-then-front_records-records
returns-then-front_records-records g c =
    let s = g.P.Parts.parts c.args.parts.now in
    let most = c.least-front_nodes.ensures in
    let more = c.least-front_records.ensures in
    let nodes = taken s.nodes most.at_most most.one c.from.ensures c.node_count-nodes.ensures in
    let records = taken s.records more.at_most more.one c.from-2.ensures c.record_count-records.ensures in
    rw (← behind_all c.args.fixed c.args.front s c.requires.in_range c.requires.met (cc) (cc)) c.write_own_held.ensures

pub returns : goal.returns
returns g c =
    let s = g.P.Parts.parts c.args.parts.now in
    on_ok_weaker c.visit_behind.result
    (λ behind. behind
    ∙ ap (λ l. l ++ behind_code (canonical_front c.args.fixed s) (canonical_parts c.args.fixed s)) c.buffer.view_is
    ∙ ap (λ f. c.args.buffer.now ++ behind_code f (canonical_parts c.args.fixed s))
    (front_is c.args.fixed (cut_front c.args.front s) s c.requires.in_range c.requires.met))
    c.visit_behind.ensures
