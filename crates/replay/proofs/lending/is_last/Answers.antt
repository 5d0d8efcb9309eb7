use Rattle.std.proofs.Common.{◌≤◌, All, refl}
use Rattle.std.specs.Prelude.{slice_index}
use Rattle.std.proofs.lemmas.List.{take_all}
use Rattle.std.proofs.lemmas.List.Elements.{All-more}
use Rattle.tree_machine.specs.declared.state.Thread.{Thread}
use Rattle.replay.proofs.lending.is_last.Goals as goal

pub loop-thread-preserved : goal.loop-thread-preserved
loop-thread-preserved g c =
    All-more (λ (thread : Thread g.row.M-Loc.Denot).
    All (λ note. slice_index note c.args.name.thread ≤ c.args.name.index) thread.notes)
    c.as_slice-thread-items.result.now c.loop-thread.thread-index c.thread-item.result c.loop-thread-test.true
    c.loop-thread.invariant
    (rw (c.as_slice.ensures, c.thread-item.is) at (c.is_in_no_note.ensures.0 c.if-not-is_in_no_note.false))

pub returns : goal.returns
returns g c = (
  λ yes. rw (
    take_all c.loop-thread.thread-index c.as_slice-thread-items.result.now c.loop-thread-test.false,
    c.as_slice-thread-items.ensures,
  )
      at c.loop-thread.invariant,
  λ all. refl,
)
