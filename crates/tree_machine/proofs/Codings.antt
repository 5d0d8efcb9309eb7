-- What a coder numbers keeps its numbers, what has numbers gets no others, and parts are written name by name.
use Rattle.std.proofs.Common.{◌≡◌, ℕ, suc, ◌+◌, ◌<◌, cond, List, [], ◌∷◌, ◌++◌, drop, map, length, refl, sym, ◌∙◌, ap}
use Rattle.std.proofs.Common.{inl, inr, arith, append_assoc, append-nil, length-append, zero-add}
use Rattle.std.specs.Prelude.{Option, Some, None}
use Rattle.std.specs.List.{flat_map}
use Rattle.std.specs.Option.{option_and_then, option_map}
use Rattle.std.proofs.Math.Seq.{drop-append_seam}
use Rattle.std.proofs.lemmas.Bool.Decides.{eqb_tells}
use Rattle.std.proofs.lemmas.Grind.{flat_map-append}
use Rattle.std.proofs.lemmas.List.{length-map, map-append, map-id}
use Rattle.std.proofs.lemmas.List.Folds.{flat_map-map}
use Rattle.tree_machine.specs.Canonical.{renamed_part}
use Rattle.tree_machine.specs.Cells.{met, met_all, place_in}
use Rattle.tree_machine.specs.Coding.{Coding, IsVisited, coded_parts, name_code, newly, with_part, with_parts}
use Rattle.tree_machine.specs.Flat.{cell_code, facts_code, graph_code, left_code, number_code, part_codes, part_content}
use Rattle.tree_machine.specs.Flat.{reference_number}
use Rattle.tree_machine.specs.Parts.{Part}
use Rattle.tree_machine.specs.Laws.CellOrder.{Extends, Has, HasAll, extends_itself, extends_more, met_all_extends}
use Rattle.tree_machine.specs.Laws.CellOrder.{met_all_has}
use Rattle.tree_machine.specs.Laws.Graphs.{numbers_more}

-- ---- what is met

-- what is met stays where it is
pub met_old : (order : List ℕ) (x : ℕ) → Has order x → met order x ≡ order
met_old order x h = ap (λ t. cond t order (order ++ x ∷ [])) h

-- cells that are met one after the other
pub met_all_append : (order : List ℕ) (refs sefs : List (Option ℕ))
    → met_all order (refs ++ sefs) ≡ met_all (met_all order refs) sefs
met_all_append order [] sefs = refl
met_all_append order (None ∷ refs) sefs = met_all_append order refs sefs
met_all_append order (Some x ∷ refs) sefs = met_all_append (met order x) refs sefs

-- what is met is what was met, and what is new
pub met_newly : (order : List ℕ) (refs : List (Option ℕ)) → met_all order refs ≡ order ++ newly order refs
met_newly order refs =
    let e = met_all_extends refs order in
    e.is ∙ ap (λ l. order ++ l) (sym (ap (drop (length order)) e.is ∙ drop-append_seam order e.rest))

-- what is new of names is what is new of the first of them, and then of the rest
newly_append : (order : List ℕ) (refs sefs : List (Option ℕ))
    → newly order (refs ++ sefs) ≡ newly order refs ++ newly (met_all order refs) sefs
newly_append order refs sefs = grind (arith, met_all_append, met_newly, append_assoc, drop-append_seam)

-- ---- numbers stay

-- what is in a list has the same place in a longer one
place_kept : (xs ys : List ℕ) (x : ℕ) → Has xs x → place_in (xs ++ ys) x ≡ place_in xs x
place_kept [] ys x h = cc
place_kept (y ∷ xs) ys x h =
    elim (eqb_tells x y) [
      | inl e ↦ rw e.0 refl
      | inr e ↦ rw e.0 (ap (option_map suc) (place_kept xs ys x (rw e.0 at h)))
    ]

-- names that a list has
names_kept : {xs ys : List ℕ} → Extends xs ys → (refs : List (Option ℕ)) → HasAll xs refs
    → map (option_and_then (place_in ys)) refs ≡ map (option_and_then (place_in xs)) refs
names_kept e [] h = refl
names_kept e (None ∷ refs) h = ap (λ l. None ∷ l) (names_kept e refs h)
names_kept {xs} e (Some x ∷ refs) h = grind (arith, place_kept, names_kept e refs h.1)

-- a part whose names have numbers is written alike by more numbers
pub renamed_kept : {nodes records others targets : List ℕ} (p : Part) → Extends nodes others → Extends records targets
    → HasAll nodes p.nodes → HasAll records p.records
    → renamed_part others targets p ≡ renamed_part nodes records p
renamed_kept p e f h g =
    λ i. record { facts = p.facts; nodes = names_kept e p.nodes h i; records = names_kept f p.records g i }

-- numbers stay, whatever is visited
pub numbers_extend : (c : Coding) (ps : List Part) → Extends c.nodes (with_parts c ps).nodes
    × Extends c.records (with_parts c ps).records
numbers_extend c [] = (extends_itself c.nodes, extends_itself c.records)
numbers_extend c (p ∷ ps) =
    let more = numbers_extend (with_part c p) ps in
    (extends_more (met_all_extends p.nodes c.nodes) more.0, extends_more (met_all_extends p.records c.records) more.1)

-- ---- parts in bytes

-- one list behind the other
pub codes_append : (ps qs : List Part) → part_codes (ps ++ qs) ≡ part_codes ps ++ part_codes qs
codes_append ps qs = simp (map-append, flat_map-append)

-- where some parts are left, they are written as a graph
pub left_some : (ns rs : List Part) → 0 < length ns + length rs → left_code ns rs ≡ graph_code ns rs
left_some [] [] l = absurd (omega arith)
left_some [] (r ∷ rs) l = refl
left_some (n ∷ ns) rs l = refl

-- by the numbers that there are at the end, or by more
pub parts_written : (c : Coding) (ps : List Part) (nodes records : List ℕ) → Extends (with_parts c ps).nodes nodes
    → Extends (with_parts c ps).records records
    → coded_parts c ps ≡ part_codes (map (renamed_part nodes records) ps)
parts_written c [] nodes records e f = refl
parts_written c (p ∷ ps) nodes records e f =
    let more = numbers_extend (with_part c p) ps in
    let here = renamed_kept p (extends_more more.0 e) (extends_more more.1 f) (met_all_has p.nodes c.nodes)
    (met_all_has p.records c.records) in
    λ i. cell_code (part_content (sym here i)) ++ parts_written (with_part c p) ps nodes records e f i

-- ---- names that are numbered and written one behind the other

-- names in bytes
names_coded : (order : List ℕ) (refs : List (Option ℕ)) → flat_map (λ r. name_code order r) refs
    ≡ flat_map number_code (map reference_number (map (option_and_then (place_in order)) refs))
names_coded order refs = grind (arith, flat_map-map)

-- names are numbered behind old, what is new among them is put into the queue, and they are written behind bytes
pub record AreNamed (first : ℕ) (refs : List (Option ℕ)) (old queue bytes now then put : List ℕ) : Type 0 where
  pub order : now ≡ met_all old refs
  pub queued : then ≡ queue ++ map (λ x. first + x) (newly old refs)
  pub written : put ≡ bytes ++ flat_map (λ r. name_code now r) refs

module _ {first : ℕ} {refs : List (Option ℕ)} {old queue bytes now then put : List ℕ}
    (a : AreNamed first refs old queue bytes now then put) where
  -- and more names behind them
  named_more : {sefs : List (Option ℕ)} {next last end : List ℕ} → AreNamed first sefs now then put next last end
      → AreNamed first (refs ++ sefs) old queue bytes next last end
  named_more {sefs} {next} b =
      let f : ℕ → ℕ = λ x. first + x in
      let more : Extends now next = rw b.order (met_all_extends sefs now) in
      let had : HasAll now refs = rw a.order (met_all_has refs old) in
      let kept : flat_map (λ r. name_code next r) refs ≡ flat_map (λ r. name_code now r) refs =
      rw (names_coded next refs, names_coded now refs, names_kept more refs had) refl in
      record {
        order = b.order ∙ ap (λ o. met_all o sefs) a.order ∙ sym (met_all_append old refs sefs);
        queued =
            rw (
              newly_append old refs sefs,
              map-append f (newly old refs) (newly (met_all old refs) sefs),
              ← append_assoc,
              ← a.queued,
              ← a.order,
            ) b.queued;
        written = rw (flat_map-append, kept, ← append_assoc, ← a.written) b.written;
      }

  -- and one name more
  pub named_next : (name : Option ℕ) (byte : ℕ) (next last end : List ℕ) → next ≡ met_all now (name ∷ [])
      → last ≡ then ++ map (λ x. first + x) (newly now (name ∷ [])) → byte ∷ [] ≡ name_code next name
      → end ≡ put ++ byte ∷ [] → AreNamed first (refs ++ name ∷ []) old queue bytes next last end
  named_next name byte next last end e q n p =
      named_more (record {
        order = e;
        queued = q;
        written = p ∙ ap (λ l. put ++ l) (n ∙ sym (append-nil (name_code next name)));
      })

-- a part, in the pieces in which it is written
part_written : (nodes records : List ℕ) (p : Part)
    → facts_code (length p.nodes ∷ p.facts) (length p.nodes + length p.records)
    ++ (flat_map (λ r. name_code nodes r) p.nodes ++ flat_map (λ r. name_code records r) p.records)
    ≡ cell_code (part_content (renamed_part nodes records p))
part_written nodes records p = grind (arith, names_coded, length-append, length-map, map-append, flat_map-append)

-- once the nodes, the records and the stack of a part are numbered and written, it is visited
pub part_visited : {n r : ℕ} {nodes records queue front : List ℕ} (bytes : List ℕ) (old : Coding)
    → record { nodes_below = n; records_below = r; nodes = nodes; records = records; queue = queue } ≡ old
    → (facts : List ℕ) (ns rs : List (Option ℕ)) (stack : List ℕ)
    → front ≡ bytes ++ facts_code (length ns ∷ facts) (length ns + length rs + length stack)
    → {m k f : ℕ} → m ≡ n → k ≡ r → f ≡ n → {then first second queue_1 queue_2 queue_3 put_1 put_2 put_3 : List ℕ}
    → AreNamed 0 ns nodes queue front then queue_1 put_1 → AreNamed f rs records queue_1 put_1 first queue_2 put_2
    → AreNamed f (map Some stack) first queue_2 put_2 second queue_3 put_3
    → IsVisited (record { facts = facts; nodes = ns; records = rs ++ map Some stack }) old bytes
    (record { nodes_below = m; records_below = k; nodes = then; records = second; queue = queue_3 }) put_3
part_visited bytes old view facts ns rs stack fe em ek ef {then} {second = second} a b c =
    let p : Part = record { facts = facts; nodes = ns; records = rs ++ map Some stack } in
    let d = named_more b c in
    let named : length ns + length rs + length stack ≡ length ns + length (rs ++ map Some stack) =
    omega (arith, length-append rs (map Some stack), length-map stack (λ x. Some x)) in (
      rw (← view, d.queued, a.queued, ef, em, ek, a.order, d.order) (simp (zero-add, map-id)),
      rw (← part_written then second p, d.written, a.written, fe, named) (simp append_assoc),
    )

-- numbers in a row
pub ruleset numbered_in_row = (numbers_more, zero-add, append_assoc)
