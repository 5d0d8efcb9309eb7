use Rattle.std.proofs.Common.{◌∷◌, [], ◌++◌, ◌∙◌, ap, arith, rules}
use Rattle.tree_machine.specs.Flat.{cell_code, part_content}
use Rattle.tree_machine.specs.Laws.ReadParts.{one_read}
use Rattle.tree_machine.proofs.coded_part.read_values.Goals as goal

pub loop-each-preserved : goal.loop-each-preserved
loop-each-preserved g c =
    let read = c.loop-each.invariant.read in
    let value = c.in-Some.value in
    record {
      read = one_read g.V.CodedPart.part _ read.0 value _ _ _ _ _ _ read.1 read.2 read.3
          (c.push_reserved.ensures.items ∙ ap (λ x. c.loop-each.values.items ++ x ∷ []) (search rules))
          (c.in-Some.ensures ∙ ap (λ l. cell_code (part_content (g.V.CodedPart.part value)) ++ l) (search rules));
      len = omega (arith, c.push_reserved.ensures.len, c.loop-each.invariant.len);
      place = omega (arith, c.push_reserved.ensures.capacity, c.loop-each.invariant.place);
    }
