use Rattle.std.proofs.Common.{◌≤◌, [], ◌++◌, take, length, map, ◌∙◌, ap, arith, refl, rules}
use Rattle.std.proofs.lemmas.Result.{IfOk-weaker}
use Rattle.tree_machine.specs.Laws.ReadBehind.{behind_read, drop_read, front_kept, take_kept}
use Rattle.tree_machine.specs.Laws.ReadParts.{drop_none}
use Rattle.natmit.specs.Parts.{held_part, natmit_front_code, node_part}
use Rattle.natmit.proofs.reading.read_behind.Goals as goal

pub returns : goal.returns
returns c =
    let front = c.args.front in
    let old = c.as_mut_vec-nodes.result.now in
    let nodes = c.read_left.new.nodes.items in
    let bounded : front.nodes ≤ length old.items =
    omega (arith, c.if-len-from.false, c.len.ensures, c.from.ensures, old.ok.0) in
    let cut = c.truncate.ensures.items ∙ ap (λ n. take n old.items) c.from-2.ensures in
    record {
      read = IfOk-weaker c.read_left.result _ _
          (λ stated read is.
          let left = read is in
          let now = left.1 ∙ ap (λ l. l ++ left.0) cut in
          behind_read held_part front (map node_part nodes) [] (map node_part left.0) [] c.read_places.new.threads
          c.args.bytes.now c.in-Some.rest.now (drop_read node_part front.nodes old.items left.0 nodes bounded now)
          (drop_none front.records) c.in-Some.ensures.read left.2)
          c.read_left.ensures;
      front = IfOk-weaker c.read_left.result _ _
          (λ stated read is.
          let left = read is in
          let now = left.1 ∙ ap (λ l. l ++ left.0) cut in
          front_kept front (map node_part nodes) [] (map node_part old.items) [] []
          (take_kept node_part front.nodes old.items left.0 nodes bounded now) refl
          ∙ ap (λ nodes. natmit_front_code front (record { nodes = nodes })) c.as_mut_vec-nodes.ensures.value)
          c.read_left.ensures;
      replies = search rules;
      notes = search rules;
    }
