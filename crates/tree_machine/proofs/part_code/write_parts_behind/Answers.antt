use Rattle.std.proofs.Common.{◌≡◌, List, ℕ, ◌++◌, append_assoc}
use Rattle.std.proofs.lemmas.Result.{on_ok_weaker}
use Rattle.tree_machine.specs.Laws.Fronts.{canonical_completes, own_completes, read_in_order}
use Rattle.tree_machine.proofs.part_code.write_parts_behind.Goals as goal

-- what completes a front completes it behind what was there before
completed : {old new whole : List ℕ} (front rest : List ℕ) → front ++ rest ≡ whole → new ≡ old ++ rest
    → (before : List ℕ) → old ≡ before ++ front → new ≡ before ++ whole
completed front rest whole put before e = rw (put, e, ← whole) (append_assoc before front rest)

pub returns-in-Own : goal.returns-in-Own
returns-in-Own g c =
    let s = g.P.Parts.parts c.args.parts.now in
    let read = c.requires.read in
    let same = own_completes c.args.front s read.other read.twins read.many (rw c.in-Own.is at read.same) in
    rw c.in-Own.is (on_ok_weaker c.write_own_held.result (completed _ _ same) c.write_own_held.ensures)

pub write_canonical_behind-requires-clause-met : goal.write_canonical_behind-requires-clause-met
write_canonical_behind-requires-clause-met g c =
    let read = c.requires.read in
    read_in_order c.args.fixed c.args.front _ read.other read.twins read.in_range read.many
    (rw c.in-Canonical.is at read.same)

pub returns-in-Canonical : goal.returns-in-Canonical
returns-in-Canonical g c =
    let s = g.P.Parts.parts c.args.parts.now in
    let read = c.requires.read in
    let met = read_in_order c.args.fixed c.args.front s read.other read.twins read.in_range read.many
    (rw c.in-Canonical.is at read.same) in
    let same = canonical_completes c.args.fixed c.args.front s c.requires.in_range met in
    rw c.in-Canonical.is
    (on_ok_weaker c.write_canonical_behind.result (completed _ _ same) c.write_canonical_behind.ensures)
