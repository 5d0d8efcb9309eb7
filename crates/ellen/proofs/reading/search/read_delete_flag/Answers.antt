-- The place at which a delete flags the grandparent is read.
use Rattle.std.proofs.Common.{◌∷◌, refl, ap, ◌∙◌, arith}
use Rattle.tree_machine.specs.Laws.FirstBytes.{first_seven}
use Rattle.ellen.proofs.ReadBytes.{word_is}
use Rattle.ellen.proofs.reading.search.read_delete_flag.Goals as goal

pub returns : goal.returns
returns c =
    let above = c.in_ok-word_of in
    let update = c.in_ok-word_of-2 in
    ap (λ l. 168 ∷ 4 ∷ l) (first_seven c.args.bytes.now (omega arith))
    ∙ rw (
      word_is above.field-0 _ above.ensures.kind,
      word_is update.field-0 _ update.ensures.kind,
      c.in_ok-name_of.ensures.coded,
      c.in_ok-name_of-2.ensures.coded,
      c.in_ok-name_of-3.ensures.coded,
      above.ensures.named,
      update.ensures.named,
    ) refl
