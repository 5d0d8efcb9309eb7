-- Operations, what they wait for, and trees are one and the same where they compare as equal.
use Rattle.std.specs.Prelude.{nat_eq}
use Rattle.std.proofs.Common.{ap}
use Rattle.std.proofs.lemmas.Bool.{and_parts}
use denote.Enum.Bare.{same_true}
use Rattle.sched_program.specs.Exact.{IsExact}
use Rattle.sched_program.specs.Laws.Exact.{nat_exact}
use Rattle.sched_program.specs.declared.operation.Op.TheVariants.{Insert, Delete, Find}
use Rattle.sched_program.specs.contracts.operation.OpPartialEq.TheImpl.{eq-value as op_eq}
use Rattle.sched_program.specs.contracts.operation.Tree.{the_type}
use Rattle.sched_program.specs.contracts.operation.TurnPartialEq.TheImpl.{eq-value as turn_eq}
use Rattle.sched_program.specs.contracts.operation.TreePartialEq.TheImpl.{eq-value as tree_eq}

pub op_exact : IsExact op_eq.it
op_exact (Insert a) (Insert b) h = ap Insert (nat_exact a b h)
op_exact (Delete a) (Delete b) h = ap Delete (nat_exact a b h)
op_exact (Find a) (Find b) h = ap Find (nat_exact a b h)
op_exact a b h = cc

pub turn_exact : IsExact turn_eq.it
turn_exact a b h =
    let pieces = and_parts (nat_eq a.thread b.thread) (nat_eq a.count b.count) h in
    λ j. record { thread = nat_exact _ _ pieces.0 j; count = nat_exact _ _ pieces.1 j }

pub tree_exact : IsExact tree_eq.it
tree_exact = same_true the_type tt
