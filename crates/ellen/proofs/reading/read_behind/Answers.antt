use Rattle.std.proofs.Common.{◌≤◌, [], ◌++◌, take, length, map, ◌∙◌, ap, arith, rules}
use Rattle.std.proofs.lemmas.Result.{IfOk-weaker}
use Rattle.tree_machine.specs.Laws.ReadBehind.{behind_read, drop_read, front_kept, take_kept}
use Rattle.ellen.specs.Parts.{held_part, node_part, record_part}
use Rattle.ellen.proofs.reading.read_behind.Goals as goal

pub returns : goal.returns
returns c =
    let front = c.args.front in
    let old = c.args.memory.now in
    let new = c.read_left.new.memory in
    let bounded : front.nodes ≤ length old.nodes =
    omega (arith, c.if-len-nodes.false, c.len.ensures, c.from-nodes.ensures) in
    let less : front.records ≤ length old.records =
    omega (arith, c.if-len-records.false, c.len-else-len-nodes.ensures, c.from-records.ensures) in
    let cut = c.keep_first.ensures ∙ ap (λ n. take n old.nodes) c.from-nodes.ensures in
    let short = c.keep_first-2.ensures ∙ ap (λ n. take n old.records) c.from-records.ensures in
    let places = rw c.in-Some.is at c.in_ok-rest.ensures.read in
    record {
      read = IfOk-weaker c.read_left.result _ _
          (λ stated read is.
          let left = read is in
          behind_read held_part front (map node_part new.nodes) (map record_part new.records) (map node_part left.0)
          (map record_part left.1) c.read_each.new.threads c.args.bytes.now c.in-Some.rest.now
          (drop_read node_part front.nodes old.nodes left.0 new.nodes bounded (left.2 ∙ ap (λ l. l ++ left.0) cut))
          (drop_read record_part front.records old.records left.1 new.records less
          (left.3 ∙ ap (λ l. l ++ left.1) short)) places left.4)
          c.read_left.ensures;
      front = IfOk-weaker c.read_left.result _ _
          (λ stated read is.
          let left = read is in
          front_kept front (map node_part new.nodes) (map record_part new.records) (map node_part old.nodes)
          (map record_part old.records) []
          (take_kept node_part front.nodes old.nodes left.0 new.nodes bounded (left.2 ∙ ap (λ l. l ++ left.0) cut))
          (take_kept record_part front.records old.records left.1 new.records less
          (left.3 ∙ ap (λ l. l ++ left.1) short)))
          c.read_left.ensures;
      replies = search rules;
      notes = search rules;
    }
