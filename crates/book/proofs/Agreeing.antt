-- What holds by one relation of states holds by another that agrees with it on the states of the machine.
use Rattle.std.proofs.Common.{ℕ, List, ◌↔◌}
use Rattle.book.specs.Entries.{Finding, At, Contents, Entry}
use Rattle.book.specs.Counts.{IsCount}
use Rattle.book.specs.Law.{FindsAlike, IsLawfulBook, StandsFor, StandsForReached}
use Rattle.replay.specs.Schedule.{StepMachine, IsMachine, IsReachableWithin}
use Rattle.book.proofs.Ways.{along, fits_after}

-- relations that are so of the same pairs of states of the machine
abbrev pub Agree : {S : Type 0} → StepMachine S → (S → S → Type 0) → (S → S → Type 0) → Type 0
Agree {S} m R Q = (r s : S) → m.Fits r → m.Fits s → R r s ↔ Q r s

module _ {S : Type 0} (m : StepMachine S) (machine : IsMachine m) (R Q : S → S → Type 0) (agree : Agree m R Q) where
  pub turned : Agree m Q R
  turned r s r_fits s_fits = let both = agree r s r_fits s_fits in (both.1, both.0)

  -- such relations count as many states
  pub count_as : (n k : ℕ) → IsCount m R n k → IsCount m Q n k
  count_as n k count =
      let fits = λ (s : S) (way : IsReachableWithin m n s). fits_after m machine way.0 s way.2 in
      record {
        states = count.states;
        many = count.many;
        apart = (λ i j x y at_i at_j h.
            count.apart i j x y at_i at_j
            ((agree x y (fits x (count.reached i x at_i)) (fits y (count.reached j y at_j))).1 h));
        reached = count.reached;
        all = (λ s r.
            let w = count.all s r in
            (w.0, w.1, w.2, (agree w.1 s (fits w.1 (count.reached w.0 w.1 w.2)) (fits s r)).0 w.3));
      }

  module _ (es : List (Entry S)) (fit : (i : ℕ) (e : Entry S) → At es i e → m.Fits e.state) where
    stands_as : (s : S) → m.Fits s → StandsFor m R es s → StandsFor m Q es s
    stands_as s fits (i, e, at, one, bounded) = (i, e, at, (agree e.state s (fit i e at) fits).0 one, bounded)

    -- and entries that stand for what is reached by one relation do so by the other
    pub reached_as : StandsForReached m R es → StandsForReached m Q es
    reached_as reached n done c r s fits (i, e, at, one, bounded) leads short =
        stands_as s (along m machine c r s fits leads).0
        (reached n done c r s fits (i, e, at, (agree e.state r (fit i e at) fits).1 one, bounded) leads short)

  module _ (right : S → Finding → Type 0) where
    pub finds_as : FindsAlike m R right → FindsAlike m Q right
    finds_as alike r s r_fits s_fits same = alike r s r_fits s_fits ((agree r s r_fits s_fits).1 same)

    -- a book that is lawful by the one is lawful by the other
    pub book_as : {X : Type 0} (b : Contents X S) → IsLawfulBook m R right b → IsLawfulBook m Q right b
    book_as b book = record {
      law = record {
        start = book.law.start;
        origins = book.law.origins;
        distinct = (λ i j e f at_i at_j h. book.law.distinct i j e f at_i at_j
            ((agree e.state f.state (book.law.fit i e at_i) (book.law.fit j f at_j)).1 h));
        findings = book.law.findings;
        fit = book.law.fit;
        stands = (λ i t e s at out leads.
            stands_as b.entries book.law.fit s (machine.step_fits e.state s t (book.law.fit i e at) leads)
            (book.law.stands i t e s at out leads));
        ordered = book.law.ordered;
        least = book.law.least;
        near = book.law.near;
      };
      within = book.within;
      limit = book.limit;
      counted = book.counted;
    }

-- and the other way round
pub book_back : {X S : Type 0} (m : StepMachine S) → IsMachine m → (R Q : S → S → Type 0) → Agree m R Q
    → (right : S → Finding → Type 0) (b : Contents X S) → IsLawfulBook m Q right b → IsLawfulBook m R right b
book_back m machine R Q agree right b book = book_as m machine Q R (turned m machine R Q agree) right b book
