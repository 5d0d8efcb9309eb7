-- A machine that runs a program is a step machine.
use Rattle.std.proofs.Common.{◌≡◌, ℕ, ◌+◌, ◌<◌, ◌≤◌, Some, length, refl, ap, ◌∙◌, arith, slice_get}
use Rattle.std.proofs.lemmas.Option.{option_and_then_some, slice_get_within}
use Rattle.sched_program.specs.Program.{Program, IsWithinLimits}
use Rattle.tree_machine.specs.Rules.{Rules, AreLawful}
use Rattle.tree_machine.specs.Step.{start, step, after_access}
use Rattle.tree_machine.specs.declared.machine.Outcome.{Outcome}
use Rattle.tree_machine.specs.declared.machine.Outcome.TheVariants.{Goes, Replies, Astray}
use Rattle.tree_machine.specs.declared.state.Thread.{Thread}
use Rattle.tree_machine.specs.declared.state.State.{State}
use Rattle.tree_machine.proofs.States.{step_parts, start_fits, step_fits}
use Rattle.replay.specs.Schedule.{IsMachine}
use Rattle.replay.specs.Findings.{machine_of}

module _ {Machine Memory Place Form : Type 0} (rules : Rules Memory Place) (program : Program) where
  access_counts : (state : State Machine Memory Place Form) (t : ℕ) (thread : Thread Place)
      (acted : Memory × Outcome Place) → (after_access state t thread acted).steps ≡ state.steps + 1
  access_counts state t thread (memory, Goes place) = refl
  access_counts state t thread (memory, Replies reply) = refl
  access_counts state t thread (memory, Astray) = refl

  -- a step is counted
  pub step_counts : (state next : State Machine Memory Place Form) (t : ℕ) → step rules program state t ≡ Some next
      → next.steps ≡ state.steps + 1
  step_counts state next t is =
      step_parts rules program (next.steps ≡ state.steps + 1) state next t is (λ thread there op op_is same.
      ap (λ (s : State Machine Memory Place Form). s.steps) same ∙ access_counts state t _ _)

  -- only a thread takes a step
  step_of_thread : (state next : State Machine Memory Place Form) (t : ℕ) → step rules program state t ≡ Some next
      → t < length program.threads
  step_of_thread state next t is =
      step_parts rules program (t < length program.threads) state next t is (λ thread there op op_is same.
      option_and_then_some _ (slice_get program.threads t) op op_is
      (λ ops at_t _. slice_get_within program.threads t ops at_t))

  -- the machine that runs the program is one
  pub is_machine : AreLawful rules → IsWithinLimits program
      → IsMachine (machine_of {Machine = Machine} {Form = Form} rules program)
  is_machine lawful limits = record {
    from_zero = refl;
    one_more = (λ s r t leads. step_counts s r t leads);
    threads_bounded = (let bounded : length program.threads ≤ 4 = limits.thread_count in omega arith);
    is_thread = (λ s r t leads. step_of_thread s r t leads);
    start_fits = start_fits rules program (start rules program) refl lawful limits.initial;
    step_fits = (λ s r t fits leads. step_fits rules program s fits lawful t r leads);
  }
