-- Names of nodes and of records that a walk meets: what is new among them comes behind what was met.
use Rattle.std.proofs.Common.{◌≡◌, ℕ, ◌+◌, ◌<◌, true, false, cond, List, [], ◌∷◌, ◌++◌, map, sym, ◌∙◌, ap, arith}
use Rattle.std.proofs.Common.{append_assoc, append-nil, Option, Some, None, nat_eq, nat_lt, map-id}
use Rattle.std.specs.List.{All, list_any}
use Rattle.std.specs.Option.{option_map}
use Rattle.std.proofs.Math.Seq.{drop-append_seam}
use Rattle.std.proofs.lemmas.Iterator.Adapters.{option_map_id}
use Rattle.std.proofs.lemmas.List.{map-append}
use Rattle.std.proofs.lemmas.List.Elements.{All-append, All-cons, All-map, All-nil, All-weaker, filter-append}
use Rattle.std.proofs.lemmas.List.Elements.{recursion_from_All}
use Rattle.std.proofs.lemmas.List.Folds.{list_any-append}
use Rattle.tree_machine.specs.Canonical.{as_cells, nodes_met, records_met}
use Rattle.tree_machine.specs.Cells.{met_all}
use Rattle.tree_machine.specs.Coding.{newly}
use Rattle.tree_machine.specs.Parts.{Part, IsPartBelow, part_cell}
use Rattle.tree_machine.specs.Laws.CellOrder.{Extends, RefsBelow}
use Rattle.tree_machine.specs.Laws.CellSteps.{same_tests}
use Rattle.tree_machine.specs.Laws.MetLists.{node_has, has_node, record_has, has_record, nodes_first, records_first}
use Rattle.tree_machine.specs.Laws.StateExact.{same_answer}
use Rattle.tree_machine.proofs.Codings.{met_newly, met_all_append}

-- ---- names that are raised

-- xs has a number below b where m has what f makes of it
abbrev AreAlike : (ℕ → ℕ) → ℕ → List ℕ → List ℕ → Type 0
AreAlike f b m xs = (y : ℕ) → y < b → list_any (nat_eq (f y)) m ≡ list_any (nat_eq y) xs

module _ (f : ℕ → ℕ) (one : (x y : ℕ) → f x ≡ f y → x ≡ y) (b : ℕ) where
  alike_more : (m xs : List ℕ) (x : ℕ) → AreAlike f b m xs → AreAlike f b (m ++ f x ∷ []) (xs ++ x ∷ [])
  alike_more m xs x h y l = grind (arith, list_any-append, same_tests)

  -- from now and then on, refs add the same numbers to xs, and raised to m
  abbrev AddNew : (xs now m then : List ℕ) → List (Option ℕ) → Type 0
  AddNew xs now m then refs = (new : List ℕ) × (All (λ x. x < b) new × (met_all now refs ≡ xs ++ new)
      × (met_all then (map (option_map f) refs) ≡ m ++ map f new))

  add_new : (refs : List (Option ℕ)) (xs m : List ℕ) → RefsBelow b refs → AreAlike f b m xs
      → AddNew xs xs m m refs
  add_new [] xs m l h = ([], (All-nil (λ x. x < b), sym (append-nil xs), sym (append-nil m)))
  add_new (None ∷ refs) xs m l h = add_new refs xs m l.1 h
  add_new (Some x ∷ refs) xs m l h =
      rw (h x l.0)
      (elim (list_any (nat_eq x) xs) as (λ t. AddNew xs (cond t xs (xs ++ x ∷ [])) m (cond t m (m ++ f x ∷ [])) refs) [
        | true ↦ add_new refs xs m l.1 h
        | false ↦
            let more = add_new refs (xs ++ x ∷ []) (m ++ f x ∷ []) l.1 (alike_more m xs x h) in (
              x ∷ more.0,
              (
                All-cons (λ y. y < b) x more.0 l.0 more.1.0,
                more.1.1 ∙ append_assoc xs (x ∷ []) more.0,
                more.1.2 ∙ append_assoc m (f x ∷ []) (map f more.0),
              ),
            )
      ])

  -- what is new is below, and is met where names are raised
  met_raised : (refs : List (Option ℕ)) (xs m : List ℕ) → RefsBelow b refs → AreAlike f b m xs
      → All (λ x. x < b) (newly xs refs) × (met_all m (map (option_map f) refs) ≡ m ++ map f (newly xs refs))
  met_raised refs xs m l h =
      let added = add_new refs xs m l h in
      rw (added.1.1, drop-append_seam xs added.0) (added.1.0, added.1.2)

-- ---- the nodes and the records among what is met

-- what is met in two pieces
pub nodes_append : (n : ℕ) (xs ys : List ℕ) → nodes_met n (xs ++ ys) ≡ nodes_met n xs ++ nodes_met n ys
nodes_append n xs ys = filter-append (λ x. nat_lt x n) xs ys

pub records_append : (n r : ℕ) (xs ys : List ℕ)
    → records_met n r (xs ++ ys) ≡ records_met n r xs ++ records_met n r ys
records_append n r xs ys = simp (filter-append, map-append)

-- nodes and records that come first
module _ (n r : ℕ) (nodes records : List ℕ) (below : All (λ x. x < n) nodes) where
  pub nodes_of : nodes_met n (as_cells n nodes records) ≡ nodes
  nodes_of = simp append-nil at (nodes_first n r nodes records [] (recursion_from_All _ _ below))

  pub records_of : All (λ y. y < r) records → records_met n r (as_cells n nodes records) ≡ records
  records_of h =
      simp append-nil
      at (records_first n r nodes records [] (recursion_from_All _ _ below) (recursion_from_All _ _ h))

-- what is met later comes behind
pub extends_by : {xs ys : List ℕ} (keep : List ℕ → List ℕ)
    → ((old new : List ℕ) → keep (old ++ new) ≡ keep old ++ keep new) → Extends xs ys → Extends (keep xs) (keep ys)
extends_by {xs} keep append e = record { rest = keep e.rest; is = ap keep e.is ∙ append xs e.rest }

-- ---- what a part names

-- the nodes and the records that are new behind m, as cells
abbrev pub new_cells : ℕ → ℕ → Part → List ℕ → List ℕ
new_cells n r p m = as_cells n (newly (nodes_met n m) p.nodes) (newly (records_met n r m) p.records)

-- a part adds its new cells to what is met, its new nodes to the nodes, and its new records to the records
pub record IsPartMet (n r : ℕ) (p : Part) (m : List ℕ) : Type 0 where
  pub cells : met_all m (part_cell n p).refs ≡ m ++ new_cells n r p m
  pub nodes : met_all (nodes_met n m) p.nodes ≡ nodes_met n (m ++ new_cells n r p m)
  pub records : met_all (records_met n r m) p.records ≡ records_met n r (m ++ new_cells n r p m)
  pub below : All (λ x. x < n + r) (new_cells n r p m)

-- that is what the names of a part do that names what there is
pub part_met : (n r : ℕ) (p : Part) (m : List ℕ) → IsPartBelow n r p → IsPartMet n r p m
part_met n r p m h = record {
  cells =
      met_all_append m p.nodes raised ∙ ap (λ o. met_all o raised) nodes_first ∙ others.1
      ∙ append_assoc m new (map (λ x. n + x) more);
  nodes =
      cc (met_newly (nodes_met n m) p.nodes, nodes_of n r new more nodes.0, nodes_append n m (as_cells n new more));
  records =
      cc (
        met_newly (records_met n r m) p.records,
        records_of n r new more nodes.0 others.0,
        records_append n r m (as_cells n new more),
      );
  below =
      All-append (λ x. x < n + r) new (map (λ x. n + x) more)
      (All-weaker (λ x. x < n) (λ x. x < n + r) (λ x l. omega arith) new nodes.0)
      (All-map (λ x. x < n + r) (λ x. n + x) more
      (All-weaker (λ x. x < r) (λ x. n + x < n + r) (λ x l. omega arith) more others.0));
}
  where
    new : List ℕ
    new = newly (nodes_met n m) p.nodes

    more : List ℕ
    more = newly (records_met n r m) p.records

    raised : List (Option ℕ)
    raised = map (option_map (λ x. n + x)) p.records

    nodes : All (λ x. x < n) new × (met_all m (map (option_map (λ x. x)) p.nodes) ≡ m ++ map (λ x. x) new)
    nodes =
        met_raised (λ x. x) (λ x y e. e) n p.nodes (nodes_met n m) m (recursion_from_All _ _ h.nodes)
        (λ y l. same_answer _ _ (λ g. has_node n m y g l) (λ g. (node_has n m y g).0))

    nodes_first : met_all m p.nodes ≡ m ++ new
    nodes_first =
        ap (met_all m) (sym ((λ i. map (λ o. option_map_id o i) p.nodes) ∙ map-id p.nodes)) ∙ nodes.1
        ∙ ap (λ l. m ++ l) (map-id new)

    same : records_met n r (m ++ new) ≡ records_met n r m
    same =
        cc (
          records_append n r m new,
          append-nil new,
          append-nil (records_met n r m),
          records_of n r new [] nodes.0 (All-nil (λ x. x < r)),
        )

    others : All (λ x. x < r) more × (met_all (m ++ new) raised ≡ (m ++ new) ++ map (λ x. n + x) more)
    others =
        met_raised (λ x. n + x) (λ x y e. omega (arith, e)) r p.records (records_met n r m) (m ++ new)
        (recursion_from_All _ _ h.records)
        (λ y l. same_answer _ _ (λ g. has_record n (m ++ new) r y g l) (λ g. (record_has n (m ++ new) r y g).0)
        ∙ ap (list_any (nat_eq y)) same)
