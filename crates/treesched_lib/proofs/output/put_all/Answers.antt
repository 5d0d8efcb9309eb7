use Rattle.std.proofs.Common.{◌≡◌, ℕ, ◌-◌, List, ◌++◌, arith, length, take, drop, append_assoc, take-append-drop}
use Rattle.std.proofs.lemmas.List.{take_rest}
use Rattle.std.proofs.lemmas.Grind.{common_steps}
use Rattle.std.proofs.KnownBytes.{Appends-trans}
use Rattle.treesched_lib.proofs.output.put_all.Goals as goal

moves_front : (all done rest : List ℕ) (n : ℕ) → all ≡ done ++ rest
    → all ≡ (done ++ take n rest) ++ take (length rest - n) (drop n rest)
moves_front all done rest n e =
    rw (take_rest rest n, append_assoc done (take n rest) (drop n rest), take-append-drop n rest) e

pub loop-preserved : goal.loop-preserved
loop-preserved g c =
    let (gone, split, appended) = c.loop.invariant.out in
    let rest = c.loop.rest.now in
    let n = c.in_ok-count.count in
    record {
      out = (
        gone ++ take n rest,
        moves_front _ gone rest n split,
        Appends-trans _ _ _ _ _ appended c.in_ok-count.ensures.bytes,
      );
      left = grind (arith, common_steps);
      none_failed = grind (arith, common_steps);
    }
