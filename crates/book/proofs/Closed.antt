-- The states of a book with no entry left are closed, so they stand for every state that a schedule reaches.
use Rattle.std.proofs.Common.{◌≡◌, ℕ, Bool, true, not, Some, None, List, position}
use Rattle.book.specs.Entries.{Finding, Entry, is_expanded, states}
use Rattle.replay.specs.Schedule.{AreOneBy, StepMachine, IsMachine, Merges}
use Rattle.book.specs.Law.{IsLawful}
use Rattle.replay.specs.Findings.{IsSound}
use Rattle.replay.specs.Closed.{AreClosed, HoldsForEvery}
use Rattle.replay.specs.Laws.Schedules.{covered}
use Rattle.book.specs.Closed.{IsWorkedOut, AreSound}
use Rattle.book.proofs.Marks.{expanded_from, not_expanded_from}
use Rattle.book.proofs.Next.{first_passes, none_passes}
use Rattle.book.proofs.Unknown.{at-states, states-at}
use Rattle.book.proofs.Ways.{fits_after}

-- the first entry that is left shows whether one is
pub worked_out : {S : Type 0} (es : List (Entry S)) → position (λ e. not (is_expanded e.mark)) es ≡ None
    → IsWorkedOut es
worked_out es none i e at =
    expanded_from e.mark (none_passes (λ (r : Entry _). not (is_expanded r.mark)) es none i e at)

pub left_out : {S : Type 0} (es : List (Entry S)) (i : ℕ) → position (λ e. not (is_expanded e.mark)) es ≡ Some i
    → IsWorkedOut es → ⊥
left_out {S} es i first out =
    let f = first_passes (λ (r : Entry S). not (is_expanded r.mark)) es i first in
    not_expanded_from f.0.mark f.2 (out i f.0 f.1)

-- the states of a book with no entry left are closed
pub worked_out_closed : {S : Type 0} (m : StepMachine S) (Same : S → S → Type 0) (right : S → Finding → Type 0)
    (es : List (Entry S)) → IsLawful m Same right es → Same m.start m.start → IsWorkedOut es
    → AreClosed m Same (states es)
worked_out_closed m Same right es law itself out = record {
  fit = (λ i s at. let e = at-states es i s at in rw (← e.2) (law.fit i e.0 e.1));
  start = (0, law.start.0.state, states-at es 0 law.start.0 law.start.1, rw law.start.2 itself);
  steps = (λ i t s r at step.
      let e = at-states es i s at in
      let stood = law.stands i t e.0 r e.1 (out i e.0 e.1) (rw e.2 step) in
      (stood.0, stood.1.state, states-at es stood.0 stood.1 stood.2, stood.3));
}

-- where each of them is sound, every schedule of any length reaches a sound state
pub closed_holds : {S : Type 0} (m : StepMachine S) (same : S → S → Bool) (right : S → Finding → Type 0) → IsMachine m
    → Merges m same → ((a b : S) → m.Fits a → m.Fits b → same a b ≡ true → IsSound right a → IsSound right b)
    → (es : List (Entry S)) → IsLawful m (AreOneBy same) right es → IsWorkedOut es → AreSound es → HoldsForEvery m right
closed_holds m same right machine merges alike es law out sound c s leads =
    let w = covered m machine (AreOneBy same) (λ r s u _ _ _. merges.joined r s u) merges.steps_alike (states es)
    (worked_out_closed m (AreOneBy same) right es law (merges.itself m.start) out) c s leads in
    let e = at-states es w.0 w.1 w.2 in
    alike e.0.state s (law.fit w.0 e.0 e.1) (fits_after m machine c s leads) (rw e.2 w.3)
    (e.0.finding, law.findings w.0 e.0 e.1, sound w.0 e.0 e.1)
