-- The recorded way from one entry to another.
use Rattle.std.specs.Prelude.{◌≡◌, ℕ, Some, List, [], ◌∷◌}
use Rattle.book.specs.Entries.{Entry, At}

module _ {S : Type 0} (entries : List (Entry S)) where
  -- The threads lead from entry i to entry j by recorded steps: an empty list from an entry to itself, and a thread t
  -- with a list c after it from i to j where some entry's origin is thread t of entry i, and c leads from that entry to
  -- j
  abbrev pub IsWay : ℕ → List ℕ → ℕ → Type 0
  IsWay i [] j = i ≡ j
  IsWay i (t ∷ c) j = (k : ℕ) × (e : Entry S) × At entries k e × (e.origin ≡ Some (record { parent = i; thread = t }))
      × IsWay k c j
