-- Cells that refer to each other, and their canonical form: renumbered in the order in which a walk from the roots
-- meets them.
use Rattle.std.specs.Prelude.{◌≡◌, ℕ, zero, suc, ◌<◌, ⊤, if◌then◌else◌, ◌==◌, nat_eq, List, [], ◌∷◌, ◌++◌, map, length}
use Rattle.std.specs.Prelude.{slice_get, Option, Some, None, unwrap_or, IfSome}
use Rattle.std.specs.List.{list_any, AllZip, All, IsDistinct}
use Rattle.std.specs.Option.{option_map, option_and_then}
use Rattle.tree_machine.specs.Pairing.{IsOneToOne, IsAmong}

-- what a contract sees of a cell
pub record Content : Type 0 where
  pub facts : List ℕ
  pub refs : List (Option ℕ)

-- the content of cell x
abbrev pub content_at : List Content → ℕ → Content
content_at cells x = unwrap_or (slice_get cells x) (record { facts = []; refs = [] })

-- each root is a cell, no two roots are equal, and each ref is none or a cell
pub record IsRooted (cells : List Content) (roots : List ℕ) : Type 0 where
  pub roots_in_range : All (λ x. x < length cells) roots
  pub roots_distinct : IsDistinct nat_eq roots
  pub refs_in_range : All (λ c. All (λ r. IfSome r (λ x. x < length cells)) c.refs) cells

-- two refs are paired, or none in both
abbrev pub IsPairedOrNone : (ℕ → ℕ → Type 0) → Option ℕ → Option ℕ → Type 0
IsPairedOrNone P None None = ⊤
IsPairedOrNone P None (Some y) = ⊥
IsPairedOrNone P (Some x) None = ⊥
IsPairedOrNone P (Some x) (Some y) = P x y

-- P pairs the roots place by place, and cells of equal facts whose refs it pairs place by place
pub record IsPairing (P : ℕ → ℕ → Type 0) (cells : List Content) (roots : List ℕ) (others : List Content)
    (targets : List ℕ) : Type 0 where
  pub one_to_one : IsOneToOne P
  pub in_range : (x y : ℕ) → P x y → (x < length cells) × (y < length others)
  pub roots_paired : AllZip P roots targets
  pub facts_equal : (x y : ℕ) → P x y → (content_at cells x).facts ≡ (content_at others y).facts
  pub refs_paired : (x y : ℕ) → P x y → AllZip (IsPairedOrNone P) (content_at cells x).refs (content_at others y).refs

-- some set of pairs is a pairing
abbrev pub CanBePaired : List Content → List ℕ → List Content → List ℕ → Type 0
CanBePaired cells roots others targets = (pairs : List (ℕ × ℕ)) × IsPairing (IsAmong pairs) cells roots others targets

-- the place of x in a list, if it is there
abbrev pub place_in : List ℕ → ℕ → Option ℕ
place_in [] x = None
place_in (y ∷ ys) x = if x == y then Some 0 else option_map suc (place_in ys x)

-- the cells met, once x is met too
abbrev pub met : List ℕ → ℕ → List ℕ
met order x = if list_any (nat_eq x) order then order else order ++ x ∷ []

-- the cells met, once the cells that refs name are met too, in their order
abbrev pub met_all : List ℕ → List (Option ℕ) → List ℕ
met_all order [] = order
met_all order (None ∷ refs) = met_all order refs
met_all order (Some x ∷ refs) = met_all (met order x) refs

-- the cells met, once this cell, if there is one, is visited
abbrev pub visited : List Content → List ℕ → Option ℕ → List ℕ
visited cells order None = order
visited cells order (Some x) = met_all order (content_at cells x).refs

-- the cells met from the roots in n visits, in the order met; they are visited in this order too
abbrev pub met_in : List Content → List ℕ → ℕ → List ℕ
met_in cells roots zero = roots
met_in cells roots (suc n) = visited cells (met_in cells roots n) (slice_get (met_in cells roots n) n)

-- the cells that are reached, in the order met: there is a visit for each
abbrev pub order_of : List Content → List ℕ → List ℕ
order_of cells roots = met_in cells roots (length cells)

-- a cell whose refs go by places in the order
abbrev pub renamed : List ℕ → Content → Content
renamed order c = record { facts = c.facts; refs = map (option_and_then (place_in order)) c.refs }

-- the cells that are reached, in the order met and renamed
abbrev pub canonical : List Content → List ℕ → List Content
canonical cells roots = map (λ x. renamed (order_of cells roots) (content_at cells x)) (order_of cells roots)

-- each cell has its place in the order as its number
abbrev pub HasPlaces : List ℕ → List (Option ℕ) → Type 0
HasPlaces order numbers = (x : ℕ) → x < length numbers → slice_get numbers x ≡ Some (place_in order x)
