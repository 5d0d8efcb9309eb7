use Rattle.std.proofs.Common.{◌≤◌, ℕ, List, refl}
use Rattle.std.specs.Prelude.{slice_index}
use Rattle.std.proofs.lemmas.List.{take_all}
use Rattle.std.proofs.lemmas.List.Elements.{All-more}
use Rattle.replay.proofs.lending.is_in_no_note.Goals as goal

pub loop-note-preserved : goal.loop-note-preserved
loop-note-preserved c =
    All-more (λ (note : List ℕ). slice_index note c.args.name.thread ≤ c.args.name.index) c.args.notes.now
    c.loop-note.note-index c.note-item.result c.loop-note-test.true c.loop-note.invariant
    (rw (c.count_of.ensures, c.note-item.is) at c.if-count_of-name.false)

pub returns : goal.returns
returns c = (
  λ yes. rw (take_all c.loop-note.note-index c.args.notes.now c.loop-note-test.false) at c.loop-note.invariant,
  λ all. refl,
)
