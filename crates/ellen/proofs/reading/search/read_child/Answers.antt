-- The place at which a search reads a child is read.
use Rattle.std.proofs.Common.{◌∷◌, refl, ap, ◌∙◌, arith}
use Rattle.tree_machine.specs.Laws.FirstBytes.{first_six}
use Rattle.ellen.proofs.ReadBytes.{word_is, above_is}
use Rattle.ellen.proofs.reading.search.read_child.Goals as goal

pub returns : goal.returns
returns c =
    let above = c.in_ok-above in
    let update = c.in_ok-update in
    ap (λ l. 133 ∷ 1 ∷ l) (first_six c.args.bytes.now (omega arith))
    ∙ rw (
      above_is above.above _ above.ensures.kind,
      word_is update.update _ update.ensures.kind,
      above.ensures.node,
      c.in_ok-parent.ensures.coded,
      above.ensures.named,
      update.ensures.named,
    ) refl
