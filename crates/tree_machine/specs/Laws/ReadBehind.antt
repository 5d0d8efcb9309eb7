-- Nodes, records and what the threads hold, read behind a front that stays.
use Rattle.std.proofs.Common.{◌≡◌, ℕ, ◌≤◌, List, ◌++◌, length, map, take, drop, sym, ◌∙◌, arith}
use Rattle.std.specs.Prelude.{Option}
use Rattle.std.specs.List.{flat_map}
use Rattle.std.proofs.lemmas.List.{drop_at, length-map, length-take-le, map-append, take_at, take-map}
use Rattle.tree_machine.specs.Alike.{places_of}
use Rattle.tree_machine.specs.Flat.{behind_code, cell_code, front_code, graph_code, left_code, part_content}
use Rattle.tree_machine.specs.Parts.{Part}
use Rattle.tree_machine.specs.Laws.ReadParts.{places_coded}
use Rattle.tree_machine.specs.declared.front.Front.{Front}
use Rattle.tree_machine.specs.declared.state.Thread.{Thread}

-- values of which the first n stayed, and the others were read
module _ {A : Type 0} (part : A → Part) (n : ℕ) (old more now : List A) (bounded : n ≤ length old)
    (e : now ≡ take n old ++ more) where
  kept_count : length (map part (take n old)) ≡ n
  kept_count = simp length-map (length-take-le n old bounded)

  pub drop_read : drop n (map part now) ≡ map part more
  drop_read = rw (e, map-append) (drop_at _ _ n kept_count)

  pub take_kept : take n (map part now) ≡ take n (map part old)
  take_kept = rw (e, map-append) (take_at _ _ n kept_count ∙ sym (take-map part n old))

-- what comes behind the front
pub behind_read : {Place : Type 0} (part : Option Place → Part) (front : Front) (nodes records more others : List Part)
    (threads : List (Thread Place)) (bytes rest : List ℕ) → drop front.nodes nodes ≡ more
    → drop front.records records ≡ others
    → bytes ≡ flat_map (λ thread. cell_code (part_content (part thread.place))) threads ++ rest
    → rest ≡ left_code more others
    → bytes ≡ behind_code front (record { nodes = nodes; records = records; held = map part (places_of threads) })
behind_read part front nodes records more others threads bytes rest e f b r = grind (arith, places_coded)

pub front_kept : (front : Front) (nodes records old kept held : List Part) → take front.nodes nodes
    ≡ take front.nodes old
    → take front.records records ≡ take front.records kept
    → front_code front (record { nodes = nodes; records = records; held = held })
    ≡ front_code front (record { nodes = old; records = kept; held = held })
front_kept front nodes records old kept held e f = λ i. graph_code (e i) (f i)
