-- Nodes, places and memories are one and the same where they compare as equal.
use Rattle.std.specs.Prelude.{◌≡◌, refl}
use Rattle.std.proofs.Common.{ap, arith}
use Rattle.std.proofs.lemmas.Bool.Decides.{nat_tests}
use Rattle.sched_program.specs.Exact.{IsExact}
use Rattle.sched_program.specs.Laws.Exact.{nat_exact, bool_exact, list_exact}
use Rattle.tree_machine.specs.Laws.FieldsExact.{two_fields, three_fields, four_fields, five_fields}
use Rattle.tree_machine.specs.Laws.SideExact.{side_exact}
use Rattle.natmit.specs.contracts.memory.WordPartialEq.TheImpl.{eq-value as word_eq}
use Rattle.natmit.specs.contracts.memory.NodePartialEq.TheImpl.{eq-value as node_eq}
use Rattle.natmit.specs.contracts.memory.NatMitMemPartialEq.TheImpl.{eq-value as memory_eq}
use Rattle.natmit.specs.contracts.place.ModePartialEq.TheImpl.{eq-value as mode_eq}
use Rattle.natmit.specs.contracts.place.PathPartialEq.TheImpl.{eq-value as path_eq}
use Rattle.natmit.specs.contracts.place.NatMitLocPartialEq.TheImpl.{eq-value as place_eq}
use Rattle.natmit.specs.contracts.machine.NatMitPartialEq.TheImpl.{eq-value as machine_eq}
use Rattle.natmit.specs.Types.{Leaf, Internal, Plain, Begin, Down, Put, Flag, Look, CleanRead, Tag, Sibling}
use Rattle.natmit.specs.Types.{Swing}
use Rattle.natmit.specs.Table.{path_of}

pub word_exact : IsExact word_eq.it
word_exact a b h =
    three_fields bool_exact bool_exact nat_exact (λ flag tag node. record { flag = flag; tag = tag; node = node })
    a.flag b.flag a.tag b.tag a.node b.node h

pub node_exact : IsExact node_eq.it
node_exact (Leaf k) (Leaf j) h = ap Leaf (nat_exact k j h)
node_exact (Internal k l r) (Internal j m s) h = three_fields nat_exact word_exact word_exact Internal k j l m r s h
node_exact a b h = cc

pub memory_exact : IsExact memory_eq.it
memory_exact a b h = let nodes : a.nodes ≡ b.nodes = list_exact node_exact a.nodes b.nodes h in
    λ i. record { nodes = nodes i }

pub mode_exact : IsExact mode_eq.it
mode_exact Plain Plain h = refl
mode_exact a b h = grind (arith, nat_tests)

pub machine_exact : IsExact machine_eq.it
machine_exact a b h = let tag : a.tag ≡ b.tag = bool_exact a.tag b.tag h in λ i. record { tag = tag i }

path_exact : IsExact path_eq.it
path_exact a b h =
    three_fields nat_exact nat_exact nat_exact path_of a.ancestor b.ancestor a.successor b.successor a.parent b.parent h

pub place_exact : IsExact place_eq.it
place_exact (Begin m) (Begin o) h = ap Begin (mode_exact m o h)
place_exact (Down p l t m) (Down q k v o) h =
    four_fields path_exact nat_exact bool_exact mode_exact Down p q l k t v m o h
place_exact (Put p l) (Put q k) h = two_fields path_exact nat_exact Put p q l k h
place_exact (Flag p l) (Flag q k) h = two_fields path_exact nat_exact Flag p q l k h
place_exact (Look p l) (Look q k) h = two_fields path_exact nat_exact Look p q l k h
place_exact (CleanRead p m) (CleanRead q o) h = two_fields path_exact mode_exact CleanRead p q m o h
place_exact (Tag p d m) (Tag q c o) h = three_fields path_exact side_exact mode_exact Tag p q d c m o h
place_exact (Sibling p d m) (Sibling q c o) h = three_fields path_exact side_exact mode_exact Sibling p q d c m o h
place_exact (Swing a s f n m) (Swing b t g k o) h =
    five_fields nat_exact nat_exact bool_exact nat_exact mode_exact Swing a b s t f g n k m o h
place_exact a b h = cc
