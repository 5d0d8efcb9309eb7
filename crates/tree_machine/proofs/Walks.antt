-- A walk, visit by visit.
use Rattle.std.proofs.Common.{◌≡◌, ℕ, zero, suc, ◌+◌, ◌-◌, ◌<◌, ◌≤◌, cond, List, [], ◌∷◌, ◌++◌, map, length}
use Rattle.std.proofs.Common.{inl, inr, sym, ◌∙◌, ap, arith, get_or, take, add-suc, add-zero, add-one}
use Rattle.std.specs.Prelude.{slice_get, Some, None, nat_eq}
use Rattle.std.specs.List.{All, IsDistinct}
use Rattle.std.proofs.lemmas.Option.{slice_get_cases, slice_get_past, slice_get-get_or}
use Rattle.std.proofs.lemmas.Map.Keys.{apart_from_distinct}
use Rattle.std.proofs.lemmas.List.Folds.{list_any_none}
use Rattle.std.proofs.lemmas.List.{get_or-take, get_or_default, length-take-le, take_more, map_more}
use Rattle.tree_machine.specs.Cells.{Content, content_at, met, met_all, met_in, order_of, renamed, IsRooted}
use Rattle.tree_machine.specs.Laws.CellOrder.{met_in_order, nat_equivalence}
use Rattle.tree_machine.specs.Laws.CellPlaces.{has_at}

-- a root that is met after those before it is behind them
pub root_next : (roots : List ℕ) (i d : ℕ) → IsDistinct nat_eq roots → i < length roots
    → met (take i roots) (get_or roots i d) ≡ take (i + 1) roots
root_next roots i d h l =
    let other = list_any_none (nat_eq (get_or roots i d)) (take i roots) (λ k e g.
    let before : k < i = omega (arith, length-take-le i roots (omega arith)) in
    rw (get_or-take i roots k e before, get_or_default roots k e d (omega arith))
    (nat_equivalence.symm _ _ ∙ apart_from_distinct nat_eq roots k i d h before l)) in
    ap (λ t. cond t (take i roots) (take i roots ++ get_or roots i d ∷ [])) other ∙ sym (take_more roots i d l)

-- what has no element at n has at most n
pub past_none : (xs : List ℕ) (n : ℕ) → slice_get xs n ≡ None → length xs ≤ n
past_none xs n e = elim (slice_get_cases xs n).1 [ inl r ↦ cc | inr r ↦ r.0 ]

-- where there is nothing to visit, no later visit meets more
pub met_in_done : (cells : List Content) (roots : List ℕ) (n m : ℕ) → slice_get (met_in cells roots n) n ≡ None
    → met_in cells roots (n + m) ≡ met_in cells roots n
met_in_done cells roots n zero e = ap (met_in cells roots) (add-zero n)
met_in_done cells roots n (suc m) e =
    let past = slice_get_past (met_in cells roots n) (n + m) (omega (arith, past_none (met_in cells roots n) n e)) in
    rw (add-suc n m, met_in_done cells roots n m e, past)

-- so the walk has met all
pub met_in_end : (cells : List Content) (roots : List ℕ) {order : List ℕ} {n : ℕ} → order ≡ met_in cells roots n
    → n < length cells → slice_get order n ≡ None → order ≡ order_of cells roots
met_in_end cells roots {n = n} e l h =
    let rest : n + (length cells - n) ≡ length cells = omega arith in
    e ∙ sym (met_in_done cells roots n (length cells - n) (rw e at h)) ∙ ap (met_in cells roots) rest

-- what is visited is a cell
pub visit_in_range : {cells : List Content} {roots order : List ℕ} (n : ℕ) {x : ℕ} → IsRooted cells roots
    → order ≡ met_in cells roots n → slice_get order n ≡ Some x → x < length cells
visit_in_range {order = order} n h e at = (met_in_order _ _ h n).below _ (rw e at (has_at order _ _ at))

-- one visit more
pub met_in_next : (cells : List Content) (roots : List ℕ) {order after : List ℕ} (n : ℕ) {x : ℕ}
    → order ≡ met_in cells roots n → slice_get order n ≡ Some x → after ≡ met_all order (content_at cells x).refs
    → after ≡ met_in cells roots (n + 1)
met_in_next cells roots n e at h = rw (add-one n, ← e, at) h

-- the content of a cell is what is at its number
pub content_is : (cells : List Content) (x : ℕ) (c : Content) → x < length cells → c ≡ get_or cells x c
    → content_at cells x ≡ c
content_is cells x c l e = rw (slice_get-get_or cells x c l) (sym e)

-- the step of a loop that renames cells
pub rename_next : (cells : List Content) {done after : List Content} {order seen : List ℕ} {i : ℕ} {c r : Content}
    → All (λ x. x < length cells) order → seen ≡ order → i < length seen → c ≡ get_or cells (get_or seen i 0) c
    → r ≡ renamed order c → done ≡ map (λ x. renamed order (content_at cells x)) (take i order) → after ≡ done ++ r ∷ []
    → after ≡ map (λ x. renamed order (content_at cells x)) (take (i + 1) order)
rename_next cells {order = order} {i = i} {c = c} range see l e f h g =
    let within : i < length order = omega (arith, ap length see) in
    let same = f ∙ ap (renamed order) (sym (content_is cells (get_or order i 0) c (range i 0 within) (rw see at e))) in
    g ∙ (λ i. h i ++ same i ∷ []) ∙ sym (map_more (λ x. renamed order (content_at cells x)) order i 0 within)

-- the walk meets cells alone
pub order_in_range : (cells : List Content) (roots order : List ℕ) → IsRooted cells roots → order ≡ order_of cells roots
    → All (λ x. x < length cells) order
order_in_range cells roots order h e =
    rw e (λ k d l. (met_in_order cells roots h (length cells)).below _ (has_at _ k _ (slice_get-get_or _ k d l)))

-- the steps of a walk
pub ruleset walked = (visit_in_range, met_in_next)
