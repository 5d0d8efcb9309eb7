use Rattle.std.proofs.lemmas.List.{append_assoc}
use Rattle.replay.specs.Text.Written.{head_text}
use Rattle.replay.proofs.file.printing.push_head.Goals as goal

pub returns : goal.returns
unfolding head_text
returns c =
    let last = c.in_ok-extend_from_slice-2.ensures.items in
    rw (last, c.in_ok-push_number.ensures, c.in_ok-extend_from_slice.ensures.items) (simp append_assoc)
