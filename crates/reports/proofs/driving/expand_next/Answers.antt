use Rattle.std.proofs.Common.{◌∙◌}
use Rattle.book.specs.Books.{machine_in, right_in}
use Rattle.replay.specs.Schedule.{AreOneBy}
use Rattle.book.proofs.Agreeing.{book_back}
use Rattle.book.proofs.Growth.{one_is_next}
use Rattle.reports.proofs.Drives.{IsNext, there_it_is, its_own, ledger_of_refused, cut_of_full, one_more, in_layer}
use Rattle.reports.proofs.Drives.{ledger_of_entered}
use Rattle.reports.proofs.driving.expand_next.Given.{Over}
use Rattle.reports.proofs.driving.expand_next.Goals.{After-enter}
use Rattle.reports.proofs.driving.expand_next.Goals as goal

pub unreachable-requires : goal.unreachable-requires
unreachable-requires g c =
    let b = c.args.book.now in
    let law = c.law.ensures in
    let tested = book_back (machine_in g.M.Machine.rules b) law.machine (AreOneBy law.test.0) _ law.test.2
    (right_in g.M.Machine.rules b) b law.law in
    one_is_next (machine_in g.M.Machine.rules b) law.test.0 (right_in g.M.Machine.rules b) law.machine b.entries
    tested.law c.requires.in_layer.none_taken c.args.depth c.requires.left
    (rw c.in_default.is at c.in_ok-id.ensures.none)

-- the entry that is taken, and its steps
next : (g : Over) (c : After-enter g)
    → IsNext g.M.Machine.rules c.args.book.now c.take.new.self c.args.depth c.in-Some.id c.in_ok-expansion.expansion
next g c = record {
  machine = c.law.ensures.machine;
  test = c.law.ensures.test;
  law = c.law-2.ensures.law;
  same = c.in_ok-id.ensures.same;
  layer = c.requires.in_layer;
  left = c.requires.left;
  state = c.in-Some.state.value;
  takes = rw c.in-Some.is at c.in_ok-id.ensures.taken;
  own = c.in_ok-expansion.ensures.machine ∙ c.machine.ensures;
  program = c.in_ok-expansion.ensures.program ∙ c.requires.program;
  source = c.in_ok-expansion.ensures.source ∙ c.deref.ensures;
  holds = c.law-3.ensures;
}

pub returns-in-Ok-clause-ledger : goal.returns-in-Ok-clause-ledger
returns-in-Ok-clause-ledger g c =
    ledger_of_entered (next g (goal.at.returns-in-Ok-clause-ledger g c).After-enter) c.in-Ok.ensures.entered
    c.args.share.now c.add.new.self c.requires.ledger c.add.ensures

pub returns-in-Ok-clause-next : goal.returns-in-Ok-clause-next
returns-in-Ok-clause-next g c =
    in_layer (next g (goal.at.returns-in-Ok-clause-next g c).After-enter) c.in-Ok.ensures.entered

pub returns-in-Ok-clause-more : goal.returns-in-Ok-clause-more
returns-in-Ok-clause-more g c =
    one_more (next g (goal.at.returns-in-Ok-clause-more g c).After-enter) c.in-Ok.ensures.entered

pub returns-in-Err-Full-clause-ledger : goal.returns-in-Err-Full-clause-ledger
returns-in-Err-Full-clause-ledger g c =
    ledger_of_refused (next g (goal.at.returns-in-Err-Full-clause-ledger g c).After-enter) c.enter.new.self
    c.in-Err-Full.ensures.err c.args.share.now c.requires.ledger

pub returns-in-Err-Full-clause-cut : goal.returns-in-Err-Full-clause-cut
returns-in-Err-Full-clause-cut g c =
    let refused = rw c.in-Err-Full.field-0-is at c.in-Err-Full.ensures.refused in
    cut_of_full (next g (goal.at.returns-in-Err-Full-clause-cut g c).After-enter) c.enter.new.self
    c.in-Err-Full.ensures.err refused.2

pub unreachable-requires-in-Err-NotTaken : goal.unreachable-requires-in-Err-NotTaken
unreachable-requires-in-Err-NotTaken g c =
    let refused = rw c.in-Err-NotTaken.field-0-is at c.in-Err-NotTaken.ensures.refused in
    refused (there_it_is (next g (goal.at.unreachable-requires-in-Err-NotTaken g c).After-enter))

pub unreachable-requires-in-Err-Stranger : goal.unreachable-requires-in-Err-Stranger
unreachable-requires-in-Err-Stranger g c =
    let refused = rw c.in-Err-Stranger.field-0-is at c.in-Err-Stranger.ensures.refused in
    refused.1 (its_own (next g (goal.at.unreachable-requires-in-Err-Stranger g c).After-enter))
