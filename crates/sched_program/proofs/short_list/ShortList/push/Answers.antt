-- After a push the values in use are one more, and blank cells follow them.
use Rattle.std.proofs.Common.{◌≡◌, ℕ, suc, ◌+◌, ◌-◌, ◌<◌, List, ◌∷◌, [], ◌++◌, length, take, ap, sym, ◌∙◌, arith}
use Rattle.std.specs.Prelude.{replicate, slice_set}
use Rattle.std.proofs.lemmas.List.{length-append, append_assoc}
use Rattle.std.proofs.Math.Seq.{set-append_seam, take-append_seam}
use Rattle.sched_program.proofs.short_list.ShortList.push.Goals as goal

module _ {A : Type 0} (filler value : A) (items : List A) (count cap : ℕ) (long : length (take count items) ≡ count)
    (blanks : items ≡ take count items ++ replicate (cap - count) filler) (room : count < cap) where
  written : slice_set items count value ≡ (take count items ++ value ∷ []) ++ replicate (cap - (count + 1)) filler
  written =
      let left : cap - count ≡ suc (cap - (count + 1)) = omega arith in
      let rest = replicate (cap - (count + 1)) filler in
      ap (λ xs. slice_set xs count value) (blanks ∙ ap (λ n. take count items ++ replicate n filler) left)
      ∙ rw long at (set-append_seam (take count items) filler rest value)
      ∙ sym (append_assoc (take count items) (value ∷ []) rest)

  one_more : length (take count items ++ value ∷ []) ≡ count + 1
  one_more = length-append (take count items) (value ∷ []) ∙ ap (λ n. n + 1) long

  pushed : take (count + 1) (slice_set items count value) ≡ take count items ++ value ∷ []
  pushed = ap (take (count + 1)) written
      ∙ (rw one_more at (take-append_seam (take count items ++ value ∷ []) (replicate (cap - (count + 1)) filler)))

  push_keeps : (length (take (count + 1) (slice_set items count value)) ≡ count + 1)
      × (slice_set items count value ≡ take (count + 1) (slice_set items count value)
      ++ replicate (cap - (count + 1)) filler)
  push_keeps = (ap length pushed ∙ one_more, rw pushed written)

pub invariant_of-self : goal.invariant_of-self
invariant_of-self g c =
    push_keeps g.T.Blank.filler c.args.value c.self.inside.items c.self.inside.count g.row.CAP c.self.invariant.0
    c.self.invariant.1
    (omega (arith, c.requires.room, c.self.invariant.0, ap length c.self.view_is))
