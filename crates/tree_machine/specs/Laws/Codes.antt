-- Bytes determine what they are of: nodes, records and what threads hold, and states.
use Rattle.std.proofs.Common.{◌≡◌, ℕ, List, [], ◌∷◌, ◌++◌, map, length, take, drop}
use Rattle.std.proofs.Common.{refl, sym, ap, arith, append_assoc, append-nil, length-append}
use Rattle.std.specs.Prelude.{Option}
use Rattle.std.proofs.lemmas.List.{length-map, take-append-drop}
use Rattle.tree_machine.specs.Cells.{Content}
use Rattle.tree_machine.specs.Parts.{Part, Parts}
use Rattle.tree_machine.specs.Flat.{cell_code, graph_code, left_code, number_code, part_codes, part_content}
use Rattle.tree_machine.specs.Flat.{parts_code, reference_number}
use Rattle.tree_machine.specs.Laws.Flat.{each_readable, facts_split, number_read, number_split}
use Rattle.tree_machine.specs.declared.front.Front.{Front}
use Rattle.tree_machine.specs.Alike.{FormContent, places_of, replies_of, notes_of}
use Rattle.tree_machine.specs.FormCode.{IsInjective, TellsWholly, cut_code, state_code}
use Rattle.tree_machine.specs.Laws.FormCode.{halves, state_content, state_pieces}
use Rattle.tree_machine.specs.declared.state.Thread.{Thread}
use Rattle.tree_machine.specs.declared.state.State.{State}

-- under a one-to-one map, the values of a list determine the list
pub map_tells : {X Y : Type 0} (f : X → Y) → ((x y : X) → f x ≡ f y → x ≡ y) → (xs ys : List X) → map f xs ≡ map f ys
    → xs ≡ ys
map_tells f tells [] [] e = refl
map_tells f tells (x ∷ xs) (y ∷ ys) e = cc (tells x y (cc), map_tells f tells xs ys (cc))
map_tells f tells _ _ e = cc

-- ---- cells

reference_same : (r s : Option ℕ) → reference_number r ≡ reference_number s → r ≡ s
reference_same r s e = grind arith

cell_split : (c d : Content) (xs ys : List ℕ) → cell_code c ++ xs ≡ cell_code d ++ ys → (c ≡ d) × (xs ≡ ys)
cell_split c d xs ys e =
    let facts = facts_split c.facts d.facts (length c.refs) (length d.refs) _ _ (simp append_assoc at e) in
    let refs = each_readable number_code number_split (map reference_number c.refs) (map reference_number d.refs) xs ys
    (simp length-map facts.1) facts.2 in
    grind (arith, map_tells reference_number reference_same c.refs d.refs)

-- ---- parts

same_part : (p q : Part) → part_content p ≡ part_content q → p ≡ q
same_part p q e = grind (arith, ap (λ (c : Content). c.facts) e, halves)

-- equally many parts in front of other bytes
parts_split : (ps qs : List Part) (xs ys : List ℕ) → length ps ≡ length qs → part_codes ps ++ xs ≡ part_codes qs ++ ys
    → (ps ≡ qs) × (xs ≡ ys)
parts_split ps qs xs ys l e =
    let cells =
    each_readable cell_code cell_split (map part_content ps) (map part_content qs) xs ys (simp length-map l) e in
    (map_tells part_content same_part ps qs cells.0, cells.1)

-- nodes and records in front of other bytes
graph_split : (ns rs ms ss : List Part) (xs ys : List ℕ) → graph_code ns rs ++ xs ≡ graph_code ms ss ++ ys
    → (ns ≡ ms) × (rs ≡ ss) × (xs ≡ ys)
graph_split ns rs ms ss xs ys e =
    grind (arith, append_assoc, number_read, parts_split (ns ++ rs) (ms ++ ss), halves ns ms rs ss, length-append)

graph_is_some : (ns rs : List Part) → [] ≡ graph_code ns rs → ⊥
graph_is_some ns rs e = omega (arith, simp length-append at (ap length e))

left_tells : (ns rs ms ss : List Part) → left_code ns rs ≡ left_code ms ss → (ns ≡ ms) × (rs ≡ ss)
left_tells [] [] [] [] e = (refl, refl)
left_tells [] [] ms ss e = absurd (graph_is_some ms ss e)
left_tells ns rs [] [] e = absurd (graph_is_some ns rs (sym e))
left_tells ns rs ms ss e = let split = graph_split ns rs ms ss [] [] (simp append-nil e) in (split.0, split.1)

-- equal bytes are of equal parts, cut alike
pub parts_code_tells : (f g : Front) (s t : Parts) → length s.held ≡ length t.held → parts_code f s ≡ parts_code g t
    → (s ≡ t) × (take f.nodes s.nodes ≡ take g.nodes t.nodes) × (take f.records s.records ≡ take g.records t.records)
parts_code_tells f g s t l e =
    let front =
    graph_split (take f.nodes s.nodes) (take f.records s.records) (take g.nodes t.nodes) (take g.records t.records) _ _
    e in
    let held = parts_split s.held t.held _ _ l front.2 in
    let left =
    left_tells (drop f.nodes s.nodes) (drop f.records s.records) (drop g.nodes t.nodes) (drop g.records t.records)
    held.1 in
    let nodes : s.nodes ≡ t.nodes =
    cc (take-append-drop f.nodes s.nodes, take-append-drop g.nodes t.nodes, front.0, left.0) in
    let records : s.records ≡ t.records =
    cc (take-append-drop f.records s.records, take-append-drop g.records t.records, front.1, left.1) in
    (λ i. record { nodes = nodes i; records = records i; held = held.0 i }, front.0, front.1)

-- ---- states

same_threads : {Place : Type 0} (a b : List (Thread Place)) → places_of a ≡ places_of b → replies_of a ≡ replies_of b
    → notes_of a ≡ notes_of b → a ≡ b
same_threads [] [] places replies notes = refl
same_threads (t ∷ a) (u ∷ b) places replies notes = grind (arith, same_threads a b)
same_threads _ _ places replies notes = cc

-- equal bytes are of equal states, where those of memories and places held are of equal ones
pub state_codes_tell : {Machine Memory Place Form : Type 0} (code twin_code : Memory → List (Option Place) → List ℕ)
    → TellsWholly code twin_code → (s t : State Machine Memory Place Form)
    → state_code code s ≡ state_code twin_code t → s ≡ t
state_codes_tell code twin_code tells s t e =
    let pieces = state_pieces code s t.steps (state_content twin_code t) e in
    let many : length (places_of s.threads) ≡ length (places_of t.threads) =
    simp length-map (simp length-map at (ap (λ (c : FormContent (List ℕ)). length c.replies) pieces.1)) in
    grind (arith, same_threads s.threads t.threads)

pub state_code_tells : {Machine Memory Place Form : Type 0} (code : Memory → List (Option Place) → List ℕ)
    → TellsWholly code code → IsInjective (state_code {Machine = Machine} {Form = Form} code)
state_code_tells code tells = state_codes_tell code code tells

-- own codes are each cut at some front
module _ {Memory Place : Type 0} (front_code : Front → Memory → List ℕ)
    (behind_code : Front → Memory → List (Option Place) → List ℕ) (own_code : Memory → List (Option Place) → List ℕ)
    (tells : (front other : Front)
    → TellsWholly (cut_code front_code behind_code front) (cut_code front_code behind_code other))
    (own_cut : (memory : Memory) (held : List (Option Place))
    → (front : Front) × (own_code memory held ≡ cut_code front_code behind_code front memory held)) where
  pub cut_tells : (front : Front) → TellsWholly (cut_code front_code behind_code front) own_code
  cut_tells front memory other held others many e = grind (arith, own_cut other others)

  pub own_tells : TellsWholly own_code own_code
  own_tells memory other held others many e = grind (arith, own_cut memory held, cut_tells)
