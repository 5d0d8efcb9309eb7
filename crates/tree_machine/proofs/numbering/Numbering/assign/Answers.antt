use Rattle.std.proofs.Common.{rules}
use Rattle.tree_machine.proofs.Numbers.{next_numbers, next_order, next_known}
use Rattle.tree_machine.proofs.numbering.Numbering.assign.Goals as goal

pub invariant_of-self : goal.invariant_of-self
invariant_of-self c = search (rules, next_numbers, next_order, next_known)
