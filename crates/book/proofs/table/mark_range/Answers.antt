use Rattle.std.proofs.Common.{refl, ◌∙◌}
use Rattle.book.proofs.Ranges.{marks_more}
use Rattle.book.proofs.table.mark_range.Goals as goal

pub loop-index-preserved : goal.loop-index-preserved
loop-index-preserved g c = (
  marks_more _ _ _ c.args.start c.loop-index.index _ c.args.mark c.loop-index.invariant.0 c.mark_at.ensures.entries
      c.loop-index.auto.index refl,
  c.mark_at.ensures.labels ∙ c.loop-index.invariant.1,
)
