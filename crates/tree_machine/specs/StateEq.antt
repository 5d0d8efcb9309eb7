-- How threads, states and contents of forms are compared.
use Rattle.std.specs.Prelude.{Bool, nat_eq, ◌&&◌}
use Rattle.std.specs.Option.{option_eq}
use Rattle.std.specs.Cmp.Lexicographic.{pointwise}
use mathlib.Core.Bool.{beq}
use Rattle.tree_machine.specs.declared.state.Thread.{Thread}
use Rattle.tree_machine.specs.declared.state.State.{State}
use Rattle.tree_machine.specs.Alike.{FormContent}

module _ {Place : Type 0} (place_eq : Place → Place → Bool) where
  abbrev pub thread_eq : Thread Place → Thread Place → Bool
  thread_eq a b =
      pointwise beq a.replies b.replies
      && (option_eq place_eq a.place b.place && pointwise (pointwise nat_eq) a.notes b.notes)

  module _ {Machine Memory Form : Type 0} (memory_eq : Memory → Memory → Bool) where
    abbrev pub state_eq : State Machine Memory Place Form → State Machine Memory Place Form → Bool
    state_eq a b =
        memory_eq a.memory b.memory
        && (pointwise thread_eq a.threads b.threads && (nat_eq a.steps b.steps && option_eq nat_eq a.astray b.astray))

module _ {Form : Type 0} (form_eq : Form → Form → Bool) where
  abbrev pub state_form_eq : FormContent Form → FormContent Form → Bool
  state_form_eq a b =
      form_eq a.form b.form
      && (pointwise (pointwise beq) a.replies b.replies
      && (pointwise (pointwise (pointwise nat_eq)) a.notes b.notes && option_eq nat_eq a.astray b.astray))
