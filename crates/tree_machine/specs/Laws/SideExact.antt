-- Sides are one and the same where they compare as equal.
use Rattle.std.specs.Prelude.{refl}
use Rattle.sched_program.specs.Exact.{IsExact}
use Rattle.tree_machine.specs.contracts.search_order.SidePartialEq.TheImpl.{eq-value as side_eq}
use Rattle.tree_machine.specs.declared.search_order.Side.TheVariants.{Left, Right}

pub side_exact : IsExact side_eq.it
side_exact Left Left h = refl
side_exact Left Right h = cc
side_exact Right Left h = cc
side_exact Right Right h = refl
