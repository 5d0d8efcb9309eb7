-- Machines, memories and places are one and the same where they compare as equal.
use Rattle.std.specs.Prelude.{refl}
use Rattle.std.proofs.Common.{ap, arith}
use Rattle.std.proofs.lemmas.Bool.Decides.{nat_tests}
use Rattle.sched_program.specs.Exact.{IsExact}
use Rattle.sched_program.specs.Laws.Exact.{nat_exact, bool_exact, list_exact, option_exact}
use Rattle.tree_machine.specs.Laws.FieldsExact.{two_fields, three_fields, four_fields}
use Rattle.tree_machine.specs.Laws.SideExact.{side_exact}
use Rattle.ellen.specs.contracts.machine.EllenPartialEq.TheImpl.{eq-value as machine_eq}
use Rattle.ellen.specs.contracts.memory.UpdateWordPartialEq.TheImpl.{eq-value as word_eq}
use Rattle.ellen.specs.contracts.memory.NodePartialEq.TheImpl.{eq-value as node_eq}
use Rattle.ellen.specs.contracts.memory.InsertRecordPartialEq.TheImpl.{eq-value as insert_eq}
use Rattle.ellen.specs.contracts.memory.DeleteRecordPartialEq.TheImpl.{eq-value as delete_eq}
use Rattle.ellen.specs.contracts.memory.RecordPartialEq.TheImpl.{eq-value as record_eq}
use Rattle.ellen.specs.contracts.memory.EllenMemPartialEq.TheImpl.{eq-value as memory_eq}
use Rattle.ellen.specs.contracts.place.AbovePartialEq.TheImpl.{eq-value as above_eq}
use Rattle.ellen.specs.contracts.place.BasePartialEq.TheImpl.{eq-value as base_eq}
use Rattle.ellen.specs.contracts.place.ResumePartialEq.TheImpl.{eq-value as resume_eq}
use Rattle.ellen.specs.contracts.place.SearchLocPartialEq.TheImpl.{eq-value as search_eq}
use Rattle.ellen.specs.contracts.place.HelpLocPartialEq.TheImpl.{eq-value as help_eq}
use Rattle.ellen.specs.contracts.place.EllenLocPartialEq.TheImpl.{eq-value as place_eq}
use Rattle.ellen.specs.declared.memory.UpdateWord.TheVariants as word
use Rattle.ellen.specs.Types.{Leaf, Internal, Ins, Del, Update, Child, IFlag, InsOnly, DFlag, InsChild}
use Rattle.ellen.specs.Types.{Other, Search, Help}
use Rattle.ellen.specs.declared.place.Base.TheVariants.{Again}

pub machine_exact : IsExact machine_eq.it
machine_exact a b h =
    two_fields bool_exact bool_exact (λ mark iflag. record { mark = mark; iflag = iflag }) a.mark b.mark a.iflag
    b.iflag h

pub word_exact : IsExact word_eq.it
word_exact word.Untouched word.Untouched h = refl
word_exact a b h = grind (arith, nat_tests)

pub node_exact : IsExact node_eq.it
node_exact (Leaf k) (Leaf j) h = ap Leaf (nat_exact k j h)
node_exact (Internal k u l r) (Internal j v x y) h =
    four_fields nat_exact word_exact nat_exact nat_exact Internal k j u v l x r y h
node_exact a b h = cc

pub insert_exact : IsExact insert_eq.it
insert_exact a b h =
    three_fields nat_exact nat_exact nat_exact (λ parent leaf new. record { parent = parent; leaf = leaf; new = new })
    a.parent b.parent a.leaf b.leaf a.new b.new h

pub delete_exact : IsExact delete_eq.it
delete_exact a b h =
    four_fields nat_exact nat_exact nat_exact word_exact
    (λ grandparent parent leaf update. record {
      grandparent = grandparent;
      parent = parent;
      leaf = leaf;
      parent_update = update;
    })
    a.grandparent b.grandparent a.parent b.parent a.leaf b.leaf a.parent_update b.parent_update h

pub record_exact : IsExact record_eq.it
record_exact (Ins a) (Ins b) h = ap Ins (insert_exact a b h)
record_exact (Del a) (Del b) h = ap Del (delete_exact a b h)
record_exact a b h = cc

pub memory_exact : IsExact memory_eq.it
memory_exact a b h =
    two_fields (list_exact node_exact) (list_exact record_exact)
    (λ nodes records. record { nodes = nodes; records = records }) a.nodes b.nodes a.records b.records h

pub above_exact : IsExact above_eq.it
above_exact a b h =
    two_fields nat_exact word_exact (λ node update. record { node = node; update = update }) a.node b.node a.update
    b.update h

pub base_exact : IsExact base_eq.it
base_exact Again Again h = refl
base_exact a b h = grind arith

pub resume_exact : IsExact resume_eq.it
resume_exact a b h =
    two_fields (list_exact nat_exact) base_exact (λ stack base. record { stack = stack; base = base }) a.stack b.stack
    a.base b.base h

pub search_exact : IsExact search_eq.it
search_exact (Update a p) (Update b q) h = two_fields (option_exact above_exact) nat_exact Update a b p q h
search_exact (Child a p u) (Child b q v) h =
    three_fields (option_exact above_exact) nat_exact word_exact Child a b p q u v h
search_exact (IFlag p u l) (IFlag q v k) h = three_fields nat_exact word_exact nat_exact IFlag p q u v l k h
search_exact (InsOnly p l) (InsOnly q k) h = two_fields nat_exact nat_exact InsOnly p q l k h
search_exact (DFlag a p u l) (DFlag b q v k) h =
    four_fields above_exact nat_exact word_exact nat_exact DFlag a b p q u v l k h
search_exact a b h = cc

pub help_exact : IsExact help_eq.it
help_exact (InsChild r) (InsChild s) h = ap InsChild (nat_exact r s h)
help_exact (Other r d) (Other s e) h = two_fields nat_exact side_exact Other r s d e h
help_exact a b h = grind (arith, nat_tests)

pub place_exact : IsExact place_eq.it
place_exact (Search a) (Search b) h = ap Search (search_exact a b h)
place_exact (Help a r) (Help b s) h = two_fields help_exact resume_exact Help a b r s h
place_exact a b h = cc
