use Rattle.std.proofs.Common.{◌∙◌, ap, arith, get_or, take, None}
use Rattle.std.proofs.lemmas.List.{take_more}
use Rattle.tree_machine.proofs.Codings.{named_next}
use Rattle.tree_machine.proofs.coder.put_names.Goals as goal

pub loop-name-preserved : goal.loop-name-preserved
loop-name-preserved c =
    let names = c.args.names.now in
    let i = c.loop-name.name-index in
    let here = c.loop-name.invariant in
    let number = c.in_ok-number.ensures in
    record {
      named =
          rw (take_more names i None c.loop-name-test.true)
          (named_next here.named (get_or names i None) c.in_ok-number.number _ _ _ number.order number.queue
          number.number
          (ap (λ k. take k c.put_byte-at.new.bytes) c.put_byte-at.ensures.place ∙ c.put_byte-at.ensures.written));
      cells = c.number_of.ensures.cells ∙ here.cells;
      at = omega (arith, c.put_byte-at.ensures.place, here.at);
      length = c.put_byte-at.ensures.length ∙ here.length;
    }
