-- Each operation of a program has a place, and so has each one of a linearization, and each one whose reply after an
-- order is known.
use Rattle.std.proofs.Common.{◌≡◌, inl, inr, Bool, List, [], ◌∷◌, Some, All, arith}
use Rattle.std.proofs.lemmas.Option.{option_and_then_some}
use Rattle.std.proofs.lemmas.Bool.{cases_Bool}
use Rattle.sched_program.specs.declared.operation.OpId.{OpId}
use Rattle.sched_program.specs.declared.operation.Op.{Op}
use Rattle.sched_program.specs.Name.{same_name}
use Rattle.sched_program.specs.Program.{Program, IsWithinLimits, op_at}
use Rattle.sched_program.specs.History.{History}
use Rattle.sched_program.proofs.Histories.{op_limited}
use Rattle.lin.specs.Keys.{Keys, keys_of, keys_after}
use Rattle.lin.specs.Linearization.{IsLinearization}
use Rattle.lin.specs.Timeline.{HasPlace}
use Rattle.lin.specs.Reply.{reply_in}
use Rattle.lin.proofs.Bounds.{all_given}
use Rattle.lin.proofs.Replies.{op_of_reply}

module _ (program : Program) (limits : IsWithinLimits program) where
  pub named_placed : (a : OpId) (o : Op) → op_at program a.thread a.index ≡ Some o → HasPlace a
  named_placed a o is = let small = op_limited program limits a.thread a.index o is in (small.0, omega arith)

  pub linearization_placed : (history : History) (order : List OpId) → IsLinearization program history order
      → All HasPlace order
  linearization_placed history order is =
      all_given program HasPlace named_placed history (keys_of program.initial) order is.replies

  -- it replies at its own place, or in what comes behind
  pub reply_placed : (keys : Keys) (order : List OpId) (a : OpId) (r : Bool) → reply_in program keys order a ≡ Some r
      → HasPlace a
  reply_placed keys [] a r is =
      let op = op_of_reply (op_at program a.thread a.index) keys r is in named_placed a op.0 op.1
  reply_placed keys (b ∷ rest) a r is = elim (cases_Bool (same_name b a)) [
    | inl same ↦
        let op = op_of_reply (op_at program a.thread a.index) keys r (rw same at is) in named_placed a op.0 op.1
    | inr other ↦ option_and_then_some _ (op_at program b.thread b.index) r (rw other at is)
        (λ o at later. reply_placed (keys_after o keys) rest a r later)
  ]
