use Rattle.std.proofs.Common.{◌∙◌, ap, arith, get_or, take, Some}
use Rattle.std.proofs.lemmas.List.{map_more}
use Rattle.tree_machine.proofs.Codings.{named_next}
use Rattle.tree_machine.proofs.coder.put_stack.Goals as goal

pub loop-index-preserved : goal.loop-index-preserved
loop-index-preserved c =
    let stack = c.args.stack.now in
    let i = c.loop-index.index-index in
    let here = c.loop-index.invariant in
    let number = c.in_ok-number.ensures in
    record {
      named =
          rw (map_more Some stack i 0 c.loop-index-test.true)
          (named_next here.named (Some (get_or stack i 0)) c.in_ok-number.number _ _ _ number.order number.queue
          number.number
          (ap (λ k. take k c.put_byte-at.new.bytes) c.put_byte-at.ensures.place ∙ c.put_byte-at.ensures.written));
      cells = c.number_of.ensures.cells ∙ here.cells;
      at = omega (arith, c.put_byte-at.ensures.place, here.at);
      length = c.put_byte-at.ensures.length ∙ here.length;
    }
