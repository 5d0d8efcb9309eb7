-- The lines that a closed and sound book writes pass.
use Rattle.std.proofs.Common.{rules, ◌≡◌, ℕ, zero, suc, ◌+◌, ◌≤◌, true, None, Some, List, [], ◌∷◌, ◌++◌, length, map}
use Rattle.std.proofs.Common.{replicate, refl, sym, ap, ◌∙◌, arith, append_assoc, add-zero, append-nil, true≢false}
use Rattle.std.specs.List.{AllZip}
use Rattle.std.proofs.lemmas.List.{map-append, length_push}
use Rattle.sched_program.specs.Program.{Program}
use Rattle.sched_program.specs.declared.operation.OpId.{OpId}
use Rattle.tree_machine.specs.Rules.{Rules}
use Rattle.tree_machine.specs.Alike.{AreStatesAlike}
use Rattle.tree_machine.specs.History.{all_named, history_of}
use Rattle.tree_machine.specs.Step.{start}
use Rattle.tree_machine.specs.declared.state.State.{State}
use Rattle.lin.specs.Linearization.{IsLinearization}
use Rattle.tree_machine.proofs.Lists.{get-append_right}
use Rattle.book.proofs.EntryLemmas.{get-front}
use Rattle.book.specs.Entries.{Finding, Entry, Contents, At, states}
use Rattle.replay.specs.declared.finding.Finding.TheVariants as found
use Rattle.book.specs.Law.{IsLawful}
use Rattle.replay.specs.Findings.{machine_of, IsFindingOf, is_sound}
use Rattle.book.proofs.Closed.{worked_out_closed}
use Rattle.replay.specs.Closed.{AreClosed}
use Rattle.book.specs.Closed.{IsClosed, AreSound}
use Rattle.book.specs.Books.{CountsAsOne, machine_in, right_in, IsLawfulIn}
use Rattle.book.proofs.Unknown.{states-at}
use Rattle.replay.specs.declared.file.line.BookLine.{BookLine}
use Rattle.replay.specs.BookFile.Replays.{IsWell, IsShown, Tells, Continues}
use Rattle.replay.specs.BookFile.Checks.{Pass}
use Rattle.book.specs.BookFile.Writing.{FindsOrder, IsLineOf, AreLinesOf}

-- threads that began nothing have no names
none_named : {X A : Type 0} (f : X → List A) (n : ℕ) (x : X) → f x ≡ [] → (t : ℕ)
    → all_named t (map f (replicate n x)) ≡ []
none_named f zero x none t = refl
none_named f (suc n) x none t = rw none (none_named f n x none (t + 1))

-- the empty list explains the history of nothing
none_explained : (program : Program) → IsLinearization program (record { begun = []; finished = [] }) []
none_explained program = record {
  begun = (λ k d below. absurd (omega arith));
  distinct = search rules;
  complete = (λ a some. absurd (true≢false (sym some)));
  in_time = (λ i j a b at_i at_j h. absurd (let q : None ≡ Some a = at_i in cc));
  replies = tt;
}

module _ (Machine Form : Type 0) {Memory Place : Type 0} (rules : Rules Memory Place) (program : Program) where
  abbrev S : Type 0
  S = State Machine Memory Place Form

  start_explained : IsLinearization program (history_of (start {Machine = Machine} {Form = Form} rules program)) []
  start_explained = simp none_named (none_explained program)

  -- the linearization that was found of a state shows it
  found_shown : (s : S) (f : Finding) (order : List OpId) → IsFindingOf rules program s f → FindsOrder f order
      → IsShown rules program s order
  found_shown s (found.Sound linearization) order right finds = ((right.0, right.1), rw finds at right.2)
  found_shown s _ order right finds = absurd finds

  sound_well : (s : S) (f : Finding) → IsFindingOf rules program s f → is_sound f ≡ true → IsWell rules program s
  sound_well s (found.Sound order) right sound = (right.0, right.1)
  sound_well s _ right sound = absurd (true≢false (sym sound))

  module _ (Same : S → S → Type 0) (es : List (Entry S))
      (law : IsLawful (machine_of rules program) Same (IsFindingOf rules program) es) where
    -- the line of the entry after some describes its state
    line_tells : (front rest : List (Entry S)) (e : Entry S) (line : BookLine) → es ≡ front ++ e ∷ rest
        → 1 ≤ length front → IsLineOf e.origin e.finding line → Tells rules program (states front) line e.state
    line_tells front rest e line whole some of_e =
        let at : At es (length front) e =
        rw whole (rw add-zero at (get-append_right front (e ∷ rest) 0 e refl)) in
        let from = law.origins (length front) e at some in
        let number : line.parent ≡ from.origin.parent = cc (from.recorded, of_e.step) in
        let thread : line.thread ≡ from.origin.thread = cc (from.recorded, of_e.step) in
        let parent =
        get-front front (e ∷ rest) from.origin.parent from.parent (rw whole at from.entered) from.earlier in (
          record {
            parent = from.parent.state;
            at = rw number (states-at front from.origin.parent from.parent parent);
            step = rw thread from.step;
          },
          found_shown e.state e.finding line.order (law.findings (length front) e at) of_e.order,
        )

    written_continues : (front rest : List (Entry S)) (lines : List BookLine) → es ≡ front ++ rest → 1 ≤ length front
        → AllZip (λ entry line. IsLineOf entry.origin entry.finding line) rest lines
        → Continues rules program (states front) lines (states es)
    written_continues front [] [] whole some z = ap states (whole ∙ append-nil front)
    written_continues front [] (line ∷ lines) whole some z = absurd z
    written_continues front (e ∷ rest) [] whole some z = absurd z
    written_continues front (e ∷ rest) (line ∷ lines) whole some z = (
      e.state,
      line_tells front rest e line whole some z.0,
      rw (← map-append (λ (e : Entry S). e.state) front (e ∷ []))
          (written_continues (front ++ e ∷ []) rest lines (whole ∙ sym (append_assoc front (e ∷ []) rest))
          (omega (arith, length_push front e)) z.1),
    )

    -- the lines of a closed and sound book pass
    lines_pass : (lines : List BookLine) (xs : List (Entry S)) → es ≡ xs → AreLinesOf xs lines → AreSound es
        → AreClosed (machine_of rules program) (AreStatesAlike rules) (states es)
        → Pass Machine Form rules program lines
    lines_pass lines [] whole of_xs sound closed =
        absurd (let q : None ≡ Some law.start.0 = rw whole at law.start.1 in cc)
    lines_pass lines (e ∷ rest) whole of_xs sound closed =
        let at : At es 0 e = rw whole refl in
        let first : e ≡ law.start.0 = cc (at, law.start.1) in
        let starts : e.state ≡ start rules program = rw first law.start.2 in (
          states es,
          (
            (rw starts at (sound_well e.state e.finding (law.findings 0 e at) (sound 0 e at)), start_explained),
            rw starts at (written_continues (e ∷ []) rest lines whole (omega arith) of_xs),
          ),
          closed,
        )

-- the lines of a closed and sound book of a machine and a program pass
pub written_pass : {Machine Memory Place Form : Type 0} (rules : Machine → Rules Memory Place)
    (book : Contents Machine (State Machine Memory Place Form)) → IsLawfulIn rules book
    → CountsAsOne (rules book.machine) book.merge (machine_in rules book).start (machine_in rules book).start
    → IsClosed book → AreSound book.entries → (lines : List BookLine) → AreLinesOf book.entries lines
    → Pass Machine Form (rules book.machine) book.program lines
written_pass rules book law itself (names, out) sound lines of_book =
    let m = machine_in rules book in
    let Same = CountsAsOne (rules book.machine) book.merge in
    let closed = worked_out_closed m Same (right_in rules book) book.entries law.law itself out in
    lines_pass _ _ (rules book.machine) book.program Same book.entries law.law lines book.entries refl of_book sound
    (rw names at closed)
