-- The new ones among successors, by a test that counts two states as one.
use Rattle.std.specs.Prelude.{ℕ, Bool, if◌then◌else◌, List, [], ◌∷◌, ◌++◌, map}
use Rattle.std.specs.List.{list_any}
use Rattle.book.specs.Entries.{Expanded, Successor, Entry, opened, states, with_mark}

module _ {S : Type 0} where
  -- whether one of the states counts as the same
  abbrev pub knows : (S → S → Bool) → List S → S → Bool
  knows same known s = list_any (λ r. same r s) known

  -- the successors, in order, whose states are neither known nor those of earlier ones
  abbrev pub unknown : (S → S → Bool) → List S → List (Successor S) → List (Successor S)
  unknown same known [] = []
  unknown same known (x ∷ xs) =
      if knows same known x.state
      then unknown same known xs
      else x ∷ unknown same (known ++ x.state ∷ []) xs

  -- the entries once those of entry i's successors that are new are entered, in their order, and i is expanded
  abbrev pub with_successors : (S → S → Bool) → List (Entry S) → ℕ → List (Successor S) → List (Entry S)
  with_successors same entries i xs = with_mark entries i Expanded ++ map (opened i) (unknown same (states entries) xs)
