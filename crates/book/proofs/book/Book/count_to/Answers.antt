use Rattle.std.proofs.Common.{leb, le-leb}
use Rattle.tree_machine.specs.declared.state.State.{State}
use Rattle.book.specs.Books.{machine_in, right_in}
use Rattle.book.specs.Entries.{Entry}
use Rattle.std.proofs.lemmas.Bool.{lt-leb}
use Rattle.replay.specs.Schedule.{AreOneBy}
use Rattle.book.proofs.Agreeing.{book_back, count_as}
use Rattle.book.proofs.Counts.{count_to_is, count_upto}
use Rattle.book.proofs.Ways.{steps_after}
use Rattle.book.proofs.book.Book.count_to.Goals as goal

pub returns-clause-value : goal.returns-clause-value
returns-clause-value g c =
    count_upto
    (λ (e : Entry (State g.row.M.Denot g.row.M-Mem.Denot g.row.M-Loc.Denot g.row.M-Form.Denot)). leb e.state.steps
    c.args.steps) c.args.self.now.entries c.first_above.result c.first_above.ensures.within
    (λ i e at less. le-leb e.state.steps c.args.steps (c.first_above.ensures.below i e at less))
    (λ i e at le. lt-leb e.state.steps c.args.steps (c.first_above.ensures.above i e at le))

pub returns-clause-count : goal.returns-clause-count
returns-clause-count g c =
    let b = c.args.self.now in
    let law = c.law.ensures in
    let m = machine_in g.M.Machine.rules b in
    let tested = book_back _ law.machine (AreOneBy law.test.0) _ law.test.2 _ _ law.law in
    λ done. rw (returns-clause-value g c) (count_as m law.machine (AreOneBy law.test.0) _ law.test.2 c.args.steps _
    (count_to_is m law.test.0 (right_in g.M.Machine.rules b) law.machine law.test.1 b.entries tested.law c.args.steps
    done (λ r h leads. steps_after m law.machine h r leads)))
