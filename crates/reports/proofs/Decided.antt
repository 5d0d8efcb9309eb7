-- What a test that decides which states count as one finds new is what is new.
use Rattle.std.proofs.Common.{◌≡◌, ℕ, suc, ◌+◌, ◌<◌, inl, inr, true, Some, List, [], ◌∷◌, ◌++◌, length, map}
use Rattle.std.proofs.Common.{refl, sym, ap, ◌∙◌, slice_get, Bool}
use Rattle.std.specs.Prelude.{◌↔◌}
use Rattle.std.proofs.lemmas.Bool.{false_from_ne_true, true_from_ne_false, true≢false, cases_Bool}
use Rattle.replay.proofs.BookFile.Replayed.{last_item_or}
use Rattle.book.specs.declared.successor.Successor.{Successor}
use Rattle.book.specs.declared.entry.Mark.TheVariants.{Expanded}
use Rattle.replay.specs.declared.finding.Finding.{Finding}
use Rattle.replay.specs.Schedule.{AreOneBy, StepMachine, IsDecided}
use Rattle.book.specs.Entries.{AreNew, Contents, Enters, IsFullFor, Knows, Steps, opened, states, with_mark}
use Rattle.book.specs.Law.{IsExpansion, IsLawfulBook}
use Rattle.book.specs.Unknown.{knows, unknown, with_successors}
use Rattle.book.proofs.Unknown.{at-states, list_any-false, list_any-true}

module _ {S : Type 0} {m : StepMachine S} {Same : S → S → Type 0} (test : IsDecided m Same) where
  -- every one of the states fits
  abbrev AllFit : List S → Type 0
  AllFit known = (k : ℕ) (s : S) → slice_get known k ≡ Some s → m.Fits s

  abbrev StepsFit : List (Successor S) → Type 0
  StepsFit xs = (k : ℕ) (x : Successor S) → slice_get xs k ≡ Some x → m.Fits x.state

  knows_it : (known : List S) (s : S) → AllFit known → m.Fits s
      → (knows test.0 known s ≡ true) ↔ Knows Same known s
  knows_it known s fit fits = (
    (λ yes.
        let there = list_any-true (λ (r : S). test.0 r s) known yes in
        (there.0, there.1, there.2, (test.2 there.1 s (fit there.0 there.1 there.2) fits).0 there.3)),
    (λ there. true_from_ne_false (knows test.0 known s) (λ no. true≢false
        (sym ((test.2 there.1 s (fit there.0 there.1 there.2) fits).1 there.3)
        ∙ list_any-false (λ (r : S). test.0 r s) known no there.0 there.1 there.2))),
  )

  pub unknown_of : (known : List S) (xs added : List (Successor S)) → AllFit known → StepsFit xs
      → AreNew Same known xs added → added ≡ unknown test.0 known xs
  unknown_of known [] added fit fits new = new
  unknown_of known (x ∷ xs) added fit fits (inl old) =
      rw ((knows_it known x.state fit (fits 0 x refl)).1 old.0)
      (unknown_of known xs added fit (λ k y at. fits (suc k) y at) old.1)
  unknown_of known (x ∷ xs) added fit fits (inr new) =
      rw (false_from_ne_true (knows test.0 known x.state)
      (λ yes. new.0 ((knows_it known x.state fit (fits 0 x refl)).0 yes)))
      (new.1.1 ∙ ap (λ rest. x ∷ rest)
      (unknown_of (known ++ x.state ∷ []) xs new.1.0
      (last_item_or (λ _ s. m.Fits s) known x.state fit (fits 0 x refl))
      (λ k y at. fits (suc k) y at) new.1.2))

  module _ {X : Type 0} {right : S → Finding → Type 0} {b : Contents X S}
      (law : IsLawfulBook m (AreOneBy test.0) right b) where
    entries_fit : AllFit (states b.entries)
    entries_fit k s at =
        let e = at-states b.entries k s at in
        rw e.2 at (law.law.fit k e.0 e.1)

    module _ {s : S} {xs : List (Successor S)} (expansion : IsExpansion m right s xs) where
      -- where the book has no room for the new ones of a state's steps, it has none by the test
      pub full_by_test : IsFullFor Same b xs
          → b.limit < length b.entries + length (unknown test.0 (states b.entries) xs)
      full_by_test full =
          rw (unknown_of (states b.entries) xs full.0 entries_fit expansion.fit full.1) at full.2

      -- what was entered is what is new by the test
      module _ {new : Contents X S} {i : ℕ} {x : Steps X S} {entered met : ℕ} (steps : x.successors ≡ xs)
          (enters : Enters Same b new i x entered met) where
        added_by_test : enters.added ≡ unknown test.0 (states b.entries) xs
        added_by_test =
            unknown_of (states b.entries) xs enters.added entries_fit expansion.fit
            (rw steps at enters.are_new)

        pub entered_by_test : new.entries ≡ with_successors test.0 b.entries i xs
        entered_by_test =
            enters.entries ∙ ap (λ ys. with_mark b.entries i Expanded ++ map (opened i) ys) added_by_test

        pub count_by_test : entered ≡ length (unknown test.0 (states b.entries) xs)
        count_by_test = enters.count ∙ ap length added_by_test

-- ---- two expansions of a state

module _ {S : Type 0} (m : StepMachine S) (s : S) (same : S → S → Bool) where
  -- steps of the same threads are the same, so as many of their states are not known
  as_many : (known : List S) (xs ys : List (Successor S))
      → map (λ (x : Successor S). x.thread) xs ≡ map (λ (x : Successor S). x.thread) ys
      → ((k : ℕ) (x : Successor S) → slice_get xs k ≡ Some x → m.step s x.thread ≡ Some x.state)
      → ((k : ℕ) (x : Successor S) → slice_get ys k ≡ Some x → m.step s x.thread ≡ Some x.state)
      → length (unknown same known xs) ≡ length (unknown same known ys)
  as_many known [] [] threads left right = refl
  as_many known (x ∷ xs) (y ∷ ys) threads left right =
      let thread : x.thread ≡ y.thread = cc in
      let others : map (λ (z : Successor S). z.thread) xs ≡ map (λ (z : Successor S). z.thread) ys = cc in
      let state : x.state ≡ y.state = cc (left 0 x refl, right 0 y refl) in
      let rest : (seen : List S) → length (unknown same seen xs) ≡ length (unknown same seen ys) =
      λ seen. as_many seen xs ys others (λ k z at. left (suc k) z at) (λ k z at. right (suc k) z at) in
      elim (cases_Bool (knows same known y.state)) [
        | inl old ↦ rw (state, old) (rest known)
        | inr new ↦ rw (state, new) (ap suc (rest (known ++ y.state ∷ [])))
      ]
  as_many known _ _ threads left right = cc

-- two expansions of a state have as many states that are not known
pub same_unknown : {S : Type 0} {m : StepMachine S} {s : S} {right : S → Finding → Type 0} {xs ys : List (Successor S)}
    (same : S → S → Bool) (known : List S) → IsExpansion m right s xs → IsExpansion m right s ys
    → length (unknown same known xs) ≡ length (unknown same known ys)
same_unknown {S} {m} {s} {right} {xs} {ys} same known a b =
    as_many m s same known xs ys (a.threads ∙ sym b.threads) a.steps b.steps
