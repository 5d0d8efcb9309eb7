-- Where the standard output was cut off, the status says so.
use Rattle.std.proofs.Common.{◌≡◌, ◌+◌, ◌∙◌, ℕ, Result, Ok, Err, true, ap, inr, refl, sym}
use Rattle.std.specs.Result.{is_err}
use Rattle.treesched_lib.specs.Devices.{failed_writes}
use Rattle.treesched_lib.proofs.printing.print.Goals as goal

failed : {T E : Type 0} (r : Result T E) → is_err r ≡ true → failed_writes r ≡ 1
failed (Ok x) e = absurd cc
failed (Err x) e = refl

pub returns-then-is_err : goal.returns-then-is_err
returns-then-is_err g c =
    let one = failed c.put_all.result (sym c.is_err.ensures.value ∙ c.if-is_err.true) in
    let count = c.put_all.ensures.count ∙ ap (λ (n : ℕ). c.args.out.now.failures + n) one in
    inr ((count, rw c.as_bytes.ensures.value at c.put_all.ensures.beginning), c.tell.ensures, refl)
