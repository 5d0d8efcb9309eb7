-- Labels, where equal ones are stored once.
use Rattle.std.specs.Prelude.{◌≡◌, ℕ, ◌<◌, ◌≤◌, Some, List, [], Contains, get_or, length, map, slice_get}

-- the labels at these places of the distinct ones
abbrev pub labels_at : List (List ℕ) → List ℕ → List (List ℕ)
labels_at distinct places = map (λ place. get_or distinct place []) places

-- each place is one of a label, and each label has a place
pub record ArePlaced (distinct : List (List ℕ)) (places : List ℕ) : Type 0 where
  pub within : (i place : ℕ) → slice_get places i ≡ Some place → place < length distinct
  pub used : (label : List ℕ) → Contains distinct label → Contains (labels_at distinct places) label
  pub bounded : length distinct ≤ length places
