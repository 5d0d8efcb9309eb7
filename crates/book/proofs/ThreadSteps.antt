-- The steps of a state are taken thread by thread.
use Rattle.std.proofs.Common.{◌≡◌, ℕ, ◌+◌, cond, Option, Some, None, is_some, List, [], ◌∷◌, ◌++◌, refl, arith}
use Rattle.std.proofs.Common.{append-nil, map-id}
use Rattle.std.specs.List.{range_with_len}
use Rattle.std.proofs.lemmas.List.{map_push}
use Rattle.std.proofs.lemmas.List.FromFn.{map-range_with_len_more}
use Rattle.std.proofs.lemmas.List.Elements.{filter-append}
use Rattle.book.specs.Entries.{Finding, Successor}
use Rattle.replay.specs.Schedule.{StepMachine, enabled_threads}
use Rattle.book.specs.Law.{IsExpansion}
use Rattle.book.specs.Labels.{steps_of}
use Rattle.book.specs.ByLabel.{AreStepsOf}
use Rattle.book.specs.Expanding.{Puts}
use Rattle.book.proofs.Lists.{all_pushed}

pub range-more : (a n j : ℕ) → a + n ≡ j → range_with_len a (n + 1) ≡ range_with_len a n ++ j ∷ []
range-more a n j is = simp map-id at (map-range_with_len_more (λ (x : ℕ). x) a n j is)

module _ {S : Type 0} (m : StepMachine S) (right : S → Finding → Type 0) (s : S) where
  -- without threads there are no steps
  pub front_none : m.threads ≡ 0 → IsExpansion m right s []
  front_none none = record {
    threads = rw none refl;
    steps = (λ k x h. cc);
    findings = (λ k x h. cc);
    fit = (λ k x h. cc);
  }

  pub front_by_none : (label_of : S → List ℕ) → m.threads ≡ 0 → AreStepsOf m right label_of s []
  front_by_none label_of none = record { expansion = front_none none; labels = refl }

  -- the machine with one thread more
  abbrev wider : StepMachine S
  wider = record m { threads = m.threads + 1 }

  filter_more : enabled_threads wider s
      ≡ enabled_threads m s ++ cond (is_some (m.step s m.threads)) (m.threads ∷ []) []
  filter_more =
      rw (range-more 0 m.threads m.threads (omega arith))
      (filter-append (λ t. is_some (m.step s t)) (range_with_len 0 m.threads) (m.threads ∷ []))

  -- a thread that is not enabled adds none
  front_same : (xs : List (Successor S)) → IsExpansion m right s xs → m.step s m.threads ≡ None
      → IsExpansion wider right s xs
  front_same xs front none = record {
    threads = rw (filter_more, none, append-nil) front.threads;
    steps = front.steps;
    findings = front.findings;
    fit = front.fit;
  }

  -- one that is enabled adds its step
  front_more : (xs : List (Successor S)) (x : Successor S) → IsExpansion m right s xs → x.thread ≡ m.threads
      → m.step s m.threads ≡ Some x.state → right x.state x.finding → m.Fits x.state
      → IsExpansion wider right s (xs ++ x ∷ [])
  front_more xs x front is_thread leads is fits = record {
    threads =
        rw (map_push (λ (y : Successor S). y.thread) xs x, filter_more, leads, front.threads, is_thread) refl;
    steps = all_pushed (λ y. m.step s y.thread ≡ Some y.state) xs x front.steps (rw is_thread leads);
    findings = all_pushed (λ y. right y.state y.finding) xs x front.findings is;
    fit = all_pushed (λ y. m.Fits y.state) xs x front.fit fits;
  }

  -- the step of the next thread, as far as it has one
  pub front_put : (old new : List (Successor S)) (o : Option S) → m.step s m.threads ≡ o → IsExpansion m right s old
      → Puts m right (λ r. r) m.threads old new o → IsExpansion wider right s new
  front_put old new None none front same = rw same (front_same old front none)
  front_put old new (Some next) leads front (x, pushed, is_thread, is_state, is, fits) =
      rw pushed (front_more old x front is_thread (rw is_state leads) (rw is_state is) (rw is_state fits))

  -- and by the labels of where they lead
  pub front_by_put : (label_of : S → List ℕ) (old new : List (Successor (List ℕ))) (o : Option S)
      → m.step s m.threads ≡ o → AreStepsOf m right label_of s old → Puts m right label_of m.threads old new o
      → AreStepsOf wider right label_of s new
  front_by_put label_of old new None none by same =
      rw same (record { expansion = front_same (steps_of m.step s old) by.expansion none; labels = by.labels })
  front_by_put label_of old new (Some next) leads by (x, pushed, is_thread, is_label, is, fits) =
      let z : Successor S = record { thread = x.thread; state = next; finding = x.finding } in
      let goes : m.step s x.thread ≡ Some next = rw is_thread leads in
      let more : steps_of m.step s new ≡ steps_of m.step s old ++ z ∷ [] = rw (pushed, map_push, goes) refl in
      record {
        expansion = rw more (front_more (steps_of m.step s old) z by.expansion is_thread leads is fits);
        labels = rw (more, map_push, ← by.labels, ← is_label) pushed;
      }
