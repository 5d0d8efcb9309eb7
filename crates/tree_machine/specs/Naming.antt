-- Codes by own numbers, and canonical ones.
use Rattle.tree_machine.specs.declared.naming.Naming.{Naming}
use Rattle.tree_machine.specs.declared.naming.Naming.TheVariants.{Own, Canonical}

-- what is own, or what is canonical
abbrev pub code_by : {A : Type 0} → Naming → A → A → A
code_by Own own canonical = own
code_by Canonical own canonical = canonical
