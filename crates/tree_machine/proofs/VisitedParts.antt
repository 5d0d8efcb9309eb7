-- Parts that are visited one behind the other: their names are in range, and what is left makes the coding that all of
-- them make. Where each node and each record has its own number, parts are written as they are.
use Rattle.std.proofs.Common.{◌≡◌, ℕ, ◌+◌, ◌<◌, ◌≤◌, List, ◌++◌, map, length, get_or, ◌∙◌, arith}
use Rattle.std.proofs.Common.{[], ◌∷◌, drop, refl, sym, ap, append_assoc, append-nil, zero-add}
use Rattle.std.specs.Prelude.{Option, Some, None, IfSome, slice_get, nat_eq}
use Rattle.std.specs.List.{All, IsDistinct}
use Rattle.std.proofs.lemmas.List.{drop_all, drop_more}
use Rattle.std.proofs.lemmas.List.Elements.{All-drop, All-nil, All-head, All-tail, All-take, All-weaker}
use Rattle.std.proofs.lemmas.List.Elements.{recursion_from_All}
use Rattle.std.proofs.lemmas.Option.{IfSome_then, unwrap_or-slice_get}
use Rattle.std.specs.Option.{option_and_then}
use Rattle.std.proofs.Math.Seq.{drop-append_seam, drop-length, take-append_seam}
use Rattle.tree_machine.specs.Parts.{Part, IsPartBelow, no_part, part_at, Parts}
use Rattle.tree_machine.specs.Coding.{Coding, IsVisited, coded_parts, with_part, with_parts, IsOwn, coded_by}
use Rattle.tree_machine.specs.Cells.{met_all, place_in}
use Rattle.tree_machine.specs.Flat.{all_front, cell_code, part_codes, part_content, parts_code}
use Rattle.tree_machine.specs.Graphs.{numbers_from}
use Rattle.tree_machine.specs.Laws.CellLists.{distinct_in_row}
use Rattle.tree_machine.specs.Laws.CellOrder.{RefsBelow}
use Rattle.tree_machine.specs.Laws.CellPlaces.{has_at, place_at}
use Rattle.tree_machine.specs.Laws.Fronts.{own_parts_code}
use Rattle.tree_machine.specs.Laws.MetLists.{number_at}
use Rattle.tree_machine.specs.Laws.SmallCodes.{small_code}
use Rattle.tree_machine.proofs.Lists.{at_all}
use Rattle.tree_machine.proofs.ValueParts.{from_map}
use Rattle.tree_machine.proofs.Codings.{codes_append, met_old}

module _ (P Q : ℕ → Type 0) (refs : List (Option ℕ)) (stack : List ℕ) (f : (x : ℕ) → P x → Q x)
    (h : All (λ r. IfSome r P) (refs ++ map Some stack)) where
  -- what holds of the names before a stack and of those in it holds of the stack
  pub stack_all : All Q stack
  stack_all =
      from_map Some Q (λ r. IfSome r P) f stack (rw drop-append_seam at (All-drop (λ r. IfSome r P) (length refs) _ h))

  -- and of those before it
  pub names_all : All (λ r. IfSome r Q) refs
  names_all =
      All-weaker (λ r. IfSome r P) _ (λ r k. IfSome_then r k f) refs
      (rw take-append_seam at (All-take (λ r. IfSome r P) (length refs) _ h))

-- each part names nodes and records that there are, also where there may be more
pub part_within : {n m i j : ℕ} (parts : List Part) (x : ℕ) → n ≤ i → m ≤ j → All (IsPartBelow n m) parts
    → IsPartBelow i j (part_at parts x)
part_within {n} {m} parts x l k h =
    let b = at_all (IsPartBelow n m) parts x no_part h (record { nodes = All-nil _; records = All-nil _ }) in
    let p = part_at parts x in
    record {
      nodes = λ q d w. IfSome_then (get_or p.nodes q d) (b.nodes q d w) (λ y g. omega arith);
      records = λ q d w. IfSome_then (get_or p.records q d) (b.records q d w) (λ y g. omega arith);
    }

-- ---- one part behind the other

-- no visit changes how many nodes and records may be numbered
pub same_below : (c : Coding) (ps : List Part)
    → ((with_parts c ps).nodes_below ≡ c.nodes_below) × ((with_parts c ps).records_below ≡ c.records_below)
same_below c [] = (refl, refl)
same_below c (p ∷ ps) = same_below (with_part c p) ps

-- what is left to visit makes the coding and the bytes that all parts make
pub record AreLeft (start : Coding) (bytes : List ℕ) (parts : List Part) (k : ℕ) (now : Coding) (put : List ℕ) : Type 0
  where
    pub coding : with_parts now (drop k parts) ≡ with_parts start parts
    pub written : put ++ coded_parts now (drop k parts) ≡ bytes ++ coded_parts start parts

module _ {start now : Coding} {bytes put : List ℕ} {parts : List Part} {k : ℕ}
    (left : AreLeft start bytes parts k now put) where
  -- the next part names nodes and records that may be numbered
  pub next_named : {n r : ℕ} → n ≤ start.nodes_below → r ≤ start.records_below → All (IsPartBelow n r) parts
      → IsPartBelow now.nodes_below now.records_below (part_at parts k)
  next_named l m h =
      let begun = same_below start parts in
      let behind = same_below now (drop k parts) in
      part_within parts k (omega (arith, begun.0, behind.0, ap (λ (c : Coding). c.nodes_below) left.coding))
      (omega (arith, begun.1, behind.1, ap (λ (c : Coding). c.records_below) left.coding)) h

  -- one part more is visited
  pub left_next : {next : Coding} {end : List ℕ} → k < length parts → IsVisited (part_at parts k) now put next end
      → AreLeft start bytes parts (k + 1) next end
  left_next {next} {end} l e =
      let rest = drop (k + 1) parts in
      let more : drop k parts ≡ part_at parts k ∷ rest =
      drop_more parts k no_part l ∙ ap (λ p. p ∷ rest) (sym (unwrap_or-slice_get parts k no_part)) in
      record {
        coding = ap (λ c. with_parts c rest) e.0 ∙ sym (ap (with_parts now) more) ∙ left.coding;
        written =
            rw (e.1, e.0)
            (append_assoc put _ _ ∙ sym (ap (λ ps. put ++ coded_parts now ps) more) ∙ left.written);
      }

  -- none are left
  pub left_none : length parts ≤ k → (now ≡ with_parts start parts) × (put ≡ bytes ++ coded_parts start parts)
  left_none l = grind (arith, drop_all, append-nil)

-- ---- own numbers

-- names below n, among the numbers below k: nothing new is met, and each has its own place
module _ (n k : ℕ) (l : n ≤ k) where
  abbrev order : List ℕ
  order = numbers_from 0 k

  distinct : IsDistinct nat_eq order
  distinct = (distinct_in_row 0 k).distinct

  own_names : (refs : List (Option ℕ)) → RefsBelow n refs
      → (met_all order refs ≡ order) × (map (option_and_then (place_in order)) refs ≡ refs)
  own_names [] h = (refl, refl)
  own_names (None ∷ refs) h = let rest = own_names refs h.1 in (rest.0, ap (λ r. None ∷ r) rest.1)
  own_names (Some x ∷ refs) h =
      let rest = own_names refs h.1 in
      let at : slice_get order x ≡ Some x = number_at 0 k x (omega (arith, h.0)) ∙ ap Some (zero-add x) in (
        ap (λ o. met_all o refs) (met_old order x (has_at order x x at)) ∙ rest.0,
        λ i. place_at order distinct x x at i ∷ rest.1 i,
      )

-- a coder in which each node and each record has its own number
module _ {n r : ℕ} {own : Coding} (is : IsOwn n r own) where
  -- nothing gets another number, and a part is written as it is
  own_part : (p : Part) → IsPartBelow n r p → (with_part own p ≡ own) × (coded_by own p ≡ cell_code (part_content p))
  own_part p h =
      let nodes = own_names n own.nodes_below is.nodes_bounded p.nodes (recursion_from_All _ _ h.nodes) in
      let records = own_names r own.records_below is.records_bounded p.records (recursion_from_All _ _ h.records) in
      let met : met_all own.nodes p.nodes ≡ own.nodes = rw is.nodes nodes.0 in
      let others : met_all own.records p.records ≡ own.records = rw is.records records.0 in (
        rw (met, others) (simp (drop-length, append-nil)),
        simp (is.nodes, is.records, nodes.1, records.1),
      )

  -- and so is one part behind the other
  pub own_parts : (ps : List Part) → All (IsPartBelow n r) ps
      → (with_parts own ps ≡ own) × (coded_parts own ps ≡ part_codes ps)
  own_parts [] h = (refl, refl)
  own_parts (p ∷ ps) h =
      let first = own_part p (All-head (IsPartBelow n r) p ps h) in
      let rest = own_parts ps (All-tail (IsPartBelow n r) p ps h) in (
        ap (λ c. with_parts c ps) first.0 ∙ rest.0,
        λ i. (ap (λ c. coded_by c p) first.0 ∙ first.1) i ++ (ap (λ c. coded_parts c ps) first.0 ∙ rest.1) i,
      )

-- all parts, behind their counts, where these are bytes
pub own_written : (s : Parts) (old : List ℕ) {n r : ℕ} {counted nodes records held : List ℕ} → n ≡ length s.nodes
    → r ≡ length s.records → n < 255 → r < 255 → counted ≡ old ++ n ∷ r ∷ [] → nodes ≡ counted ++ part_codes s.nodes
    → records ≡ nodes ++ part_codes s.records → held ≡ records ++ part_codes s.held
    → held ≡ old ++ parts_code (all_front s) s
own_written s old {n} {r} en er l g c h k e = grind (arith, small_code, own_parts_code, codes_append, append_assoc)
