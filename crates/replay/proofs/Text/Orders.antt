-- What has been read of an order's text, and what is left of it.
use Rattle.std.proofs.Common.{◌≡◌, ◌≢◌, ℕ, ◌+◌, ◌≤◌, List, [], ◌∷◌, ◌++◌, ◌∙◌, length, get_or, refl, sym, ap, arith}
use Rattle.std.proofs.lemmas.List.{append_assoc, append-nil, length-append}
use Rattle.std.specs.List.{AllByRecursion}
use Rattle.sched_program.specs.declared.operation.OpId.{OpId}
use Rattle.replay.specs.Text.Files.{IsName, name_text, commaed, order_text, IsOrder}
use Rattle.replay.proofs.Text.Cuts.{all_append}

-- the text is these names, at least one, and the rest
pub record HasOrder (text : List ℕ) (order : List OpId) (rest : List ℕ) : Type 0 where
  pub names : AllByRecursion IsName order
  pub some : 1 ≤ length order
  pub whole : text ≡ order_text order ++ rest

commaed_push : (order : List OpId) (id : OpId) → commaed (order ++ id ∷ []) ≡ commaed order ++ 44 ∷ name_text id
commaed_push [] id = refl
commaed_push (first ∷ order) id = ap (λ (l : List ℕ). 44 ∷ name_text first ++ l) (commaed_push order id)

order_text_push : (order : List OpId) (id : OpId) → 1 ≤ length order
    → order_text (order ++ id ∷ []) ≡ order_text order ++ 44 ∷ name_text id
order_text_push [] id some = absurd (omega arith)
order_text_push (first ∷ order) id some = ap (λ (l : List ℕ). name_text first ++ l) (commaed_push order id)

pub order_push : {text rest tail later : List ℕ} {order : List OpId} {id : OpId} → HasOrder text order rest
    → rest ≡ 44 ∷ tail → tail ≡ name_text id ++ later → IsName id → HasOrder text (order ++ id ∷ []) later
order_push {later = later} {order = order} {id = id} has comma e is = record {
  names = all_append IsName order (id ∷ []) has.names (is, tt);
  some = omega (arith, length-append order (id ∷ []));
  whole = rw (
    order_text_push order id has.some,
    append_assoc (order_text order) (44 ∷ name_text id) later,
    ← e,
    ← comma,
  )
      has.whole;
}

-- an order goes on after another with some names, which are the rest of the text
abbrev pub GoesOn : List OpId → List OpId → List ℕ → Type 0
GoesOn order other rest = (more : List OpId) × (other ≡ order ++ more) × (rest ≡ commaed more)

pub same_id : (a b : OpId) → 48 + a.thread ≡ 48 + b.thread → 48 + a.index ≡ 48 + b.index → a ≡ b
same_id a b e f =
    let threads : a.thread ≡ b.thread = omega arith in
    let indices : a.index ≡ b.index = omega arith in
    λ j. record { thread = threads j; index = indices j }

commaed_left : (order other : List OpId) (rest : List ℕ) → commaed other ≡ commaed order ++ rest
    → GoesOn order other rest
commaed_left [] other rest e = (other, refl, sym e)
commaed_left (id ∷ order) [] rest e = cc
commaed_left (id ∷ order) (first ∷ other) rest e =
    let same = same_id id first (cc) (cc) in
    let (more, split, left) = commaed_left order other rest (cc) in
    (more, cc, left)

order_left : (order other : List OpId) (rest : List ℕ) → order_text other ≡ order_text order ++ rest
    → GoesOn order other rest
order_left [] [] rest e = ([], refl, cc)
order_left [] (first ∷ other) rest e = absurd (omega (arith, ap (λ (l : List ℕ). get_or l 0 0) e))
order_left (id ∷ order) [] rest e = absurd (omega (arith, ap (λ (l : List ℕ). get_or l 0 0) e))
order_left (id ∷ order) (first ∷ other) rest e =
    commaed_left (id ∷ order) (first ∷ other) rest (ap (λ (l : List ℕ). 44 ∷ l) e)

-- a text is that of one order
pub same_order : (order other : List OpId) → order_text order ≡ order_text other → other ≡ order
same_order order other e =
    let (more, split, left) = order_left order other [] (sym (append-nil (order_text order) ∙ e)) in
    go more split left
  where
    go : (more : List OpId) → other ≡ order ++ more → [] ≡ commaed more → other ≡ order
    go [] split left = split ∙ append-nil order
    go (id ∷ more) split left = cc

among : (order : List OpId) (id : OpId) (more : List OpId) → AllByRecursion IsName (order ++ id ∷ more) → IsName id
among [] id more all = all.0
among (first ∷ order) id more all = among order id more all.1

-- where no name follows a comma, the text is no order
pub no_name : {text rest tail : List ℕ} {order : List OpId} → HasOrder text order rest → rest ≡ 44 ∷ tail
    → ((id : OpId) (later : List ℕ) → IsName id → tail ≢ name_text id ++ later) → (other : List OpId)
    → ¬ IsOrder text other
no_name {rest = rest} {tail = tail} {order = order} has comma none other is =
    let (more, split, left) = order_left order other rest (sym is.whole ∙ has.whole) in
    go more split (sym comma ∙ left)
  where
    go : (more : List OpId) → other ≡ order ++ more → 44 ∷ tail ≡ commaed more → ⊥
    go [] split left = cc
    go (id ∷ more) split left = none id (commaed more) (among order id more (rw split at is.names)) (cc)

-- nor is one that goes on and not with a comma
pub no_comma : {text rest : List ℕ} {order : List OpId} → HasOrder text order rest → length rest ≢ 0
    → ((tail : List ℕ) → rest ≢ 44 ∷ tail) → (other : List OpId) → ¬ IsOrder text other
no_comma {rest = rest} {order = order} has some none other is =
    let (more, split, left) = order_left order other rest (sym is.whole ∙ has.whole) in
    go more left
  where
    go : (more : List OpId) → rest ≡ commaed more → ⊥
    go [] left = some (ap length left)
    go (id ∷ more) left = none (name_text id ++ commaed more) left
