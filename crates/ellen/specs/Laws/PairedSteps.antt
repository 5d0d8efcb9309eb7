-- Accesses of paired places to paired memories keep a pairing, row by row of the place table.
use Rattle.std.specs.Prelude.{◌≡◌, ℕ, Bool, true, false, nat_eq, List, [], ◌∷◌, ◌++◌, length, Option, Some, None}
use Rattle.std.specs.Prelude.{refl, if◌then◌else◌}
use Rattle.std.specs.List.{AllZip}
use Rattle.std.proofs.Common.{ap, arith, inl, inr}
use Rattle.sched_program.specs.Program.{key_of}
use Rattle.ellen.specs.Types.{Op, Outcome, Ellen, UpdateWord, Node, Leaf, Internal, Record, Ins, Del, EllenMem, Above}
use Rattle.ellen.specs.Types.{Base, Resume, SearchLoc, Update, Child, IFlag, InsOnly, DFlag, HelpLoc, InsChild}
use Rattle.ellen.specs.Types.{InsClean, Mark, Right, Other, Splice, DelClean, Back, EllenLoc, Search, Help}
use Rattle.sched_program.specs.declared.operation.Op.TheVariants.{Insert, Delete, Find}
use Rattle.tree_machine.specs.Pairing.{IsAmong, Pairing, AreOutcomesPaired}
use Rattle.tree_machine.specs.Laws.PairedRange.{fresh_covers}
use Rattle.tree_machine.specs.SearchOrder.{side_of}
use Rattle.tree_machine.specs.declared.search_order.Side.TheVariants as side
use Rattle.ellen.specs.declared.memory.UpdateWord.TheVariants as word
use Rattle.ellen.specs.declared.place.Base.TheVariants as base
use Rattle.ellen.specs.Memory.{is_word, is_clean, new_internal}
use Rattle.ellen.specs.Table.{with_base, settled, top_taken, unwound, returned, marking, help, help_first}
use Rattle.ellen.specs.Table.{flagging, decide, arrived, search_act, unflagged, help_act, act}
use Rattle.ellen.specs.Pairs.{AreBoth, AreWordsPaired, AreNodesPaired, AreAbovesPaired, AreSearchesPaired}
use Rattle.ellen.specs.Pairs.{AreHelpsPaired, AreResumesPaired, ellen_pairs}
use Rattle.tree_machine.proofs.FreshPairs.{choices_paired, same_number}
use Rattle.ellen.specs.Laws.PairedAccesses.{words_compared, key_paired, with_pairs, read_update_keeps}
use Rattle.ellen.specs.Laws.PairedAccesses.{read_child_keeps, exchange_update_keeps, exchange_child_keeps}
use Rattle.ellen.specs.Laws.PairedAccesses.{insert_keeps, delete_keeps, Steps}
use Rattle.ellen.specs.Laws.PairedAppends.{records_weaker, append_record, fresh_nodes, internal_grown}

-- ---- where operations go, from paired places

module _ (p : Pairing) (root : IsAmong p.nodes 0 0) where
  abbrev P : ℕ → ℕ → Type 0
  P = IsAmong p.nodes

  abbrev R : ℕ → ℕ → Type 0
  R = IsAmong p.records

  abbrev Outcomes : Outcome EllenLoc → Outcome EllenLoc → Type 0
  Outcomes a b = AreOutcomesPaired (ellen_pairs.places p) a b

  settled_paired : (done : Bool) (b : Base) → Outcomes (settled done b) (settled done b)
  settled_paired done base.Again = (tt, root)
  settled_paired done base.Insert = refl
  settled_paired true base.Delete = refl
  settled_paired false base.Delete = (tt, root)

  tops_paired : (r s : ℕ) (y z : List ℕ) → R r s → AllZip R y z → AllZip R (top_taken r y).0 (top_taken s z).0
      × R (top_taken r y).1 (top_taken s z).1
  tops_paired r s [] [] h k = (tt, h)
  tops_paired r s (a ∷ y) (b ∷ z) h k = let t = tops_paired a b y z k.0 k.1 in ((h, t.0), t.1)
  tops_paired r s _ _ h k = absurd k

  unwound_paired : (done : Bool) (b : Base) (y z : List ℕ) → AllZip R y z
      → Outcomes (unwound done b y) (unwound done b z)
  unwound_paired done b [] [] k = settled_paired done b
  unwound_paired done b (r ∷ y) (s ∷ z) k = let t = tops_paired r s y z k.0 k.1 in (t.1, (t.0, refl))
  unwound_paired done b _ _ k = absurd k

  returned_paired : (done : Bool) (y z : Resume) → AreResumesPaired P R y z
      → Outcomes (returned done y) (returned done z)
  returned_paired done y z k =
      rw (← k.1) (unwound_paired done y.base y.stack z.stack k.0)

  stacks_paired : (r s : ℕ) (y z : List ℕ) → R r s → AllZip R y z → AllZip R (y ++ r ∷ []) (z ++ s ∷ [])
  stacks_paired r s [] [] h k = (h, tt)
  stacks_paired r s (a ∷ y) (b ∷ z) h k = (k.0, stacks_paired r s y z h k.1)
  stacks_paired r s _ _ h k = absurd k

  marking_paired : (machine : Ellen) (r s : ℕ) → R r s → AreHelpsPaired P R (marking machine r) (marking machine s)
  marking_paired machine r s h =
      choices_paired (AreHelpsPaired P R) machine.mark machine.mark _ _ _ _ refl h h

  help_paired : (machine : Ellen) (u v : UpdateWord) (y z : Resume) → AreWordsPaired R u v → AreResumesPaired P R y z
      → Outcomes (help machine u y) (help machine v z)
  help_paired machine word.Untouched word.Untouched y z h k = returned_paired true y z k
  help_paired machine (word.Clean r) (word.Clean s) y z h k = returned_paired true y z k
  help_paired machine (word.InsertFlag r) (word.InsertFlag s) y z h k = (h, k)
  help_paired machine (word.DeleteFlag r) (word.DeleteFlag s) y z h k = (marking_paired machine r s h, k)
  help_paired machine (word.Mark r) (word.Mark s) y z h k = (h, k)
  help_paired machine _ _ y z h k = absurd h

  help_first_paired : (machine : Ellen) (u v : UpdateWord) → AreWordsPaired R u v
      → Outcomes (help_first machine u) (help_first machine v)
  help_first_paired machine u v h = help_paired machine u v (with_base base.Again) (with_base base.Again) h (tt, refl)

  clean_paired : (u v : UpdateWord) → AreWordsPaired R u v → is_clean u ≡ is_clean v
  clean_paired word.Untouched word.Untouched h = refl
  clean_paired u v h = search arith

  flagging_paired : (machine : Ellen) (x y : Above) (l n : ℕ) → AreAbovesPaired P R x y → P l n
      → AreSearchesPaired P R (flagging machine x l) (flagging machine y n)
  flagging_paired machine x y l n h k =
      choices_paired (AreSearchesPaired P R) machine.iflag machine.iflag _ _ _ _ refl (h.0, h.1, k) (h.0, k)

  decide_paired : (machine : Ellen) (op : Op) (a b : Option Above) (x y : Above) (l n j i : ℕ)
      → AreBoth (AreAbovesPaired P R) a b → AreAbovesPaired P R x y → P l n → j ≡ i →
      Outcomes (decide machine op a x l j) (decide machine op b y n i)
  decide_paired machine (Find k) a b x y l n j i ha h hl e = ap (λ z. nat_eq z k) e
  decide_paired machine (Insert k) a b x y l n j i ha h hl e =
      choices_paired Outcomes (nat_eq j k) (nat_eq i k) _ _ _ _ (ap (λ z. nat_eq z k) e) refl
      (choices_paired Outcomes (is_clean x.update) (is_clean y.update) _ _ _ _ (clean_paired x.update y.update h.1)
      (flagging_paired machine x y l n h hl) (help_first_paired machine x.update y.update h.1))
  decide_paired machine (Delete k) None None x y l n j i ha h hl e =
      choices_paired Outcomes (nat_eq j k) (nat_eq i k) _ _ _ _ (ap (λ z. nat_eq z k) e) tt refl
  decide_paired machine (Delete k) (Some a) (Some b) x y l n j i ha h hl e =
      choices_paired Outcomes (nat_eq j k) (nat_eq i k) _ _ _ _ (ap (λ z. nat_eq z k) e)
      (choices_paired Outcomes (is_clean a.update) (is_clean b.update) _ _ _ _ (clean_paired a.update b.update ha.1)
      (choices_paired Outcomes (is_clean x.update) (is_clean y.update) _ _ _ _ (clean_paired x.update y.update h.1)
      (ha, h.0, h.1, hl) (help_first_paired machine x.update y.update h.1))
      (help_first_paired machine a.update b.update ha.1))
      refl
  decide_paired machine (Delete k) _ _ x y l n j i ha h hl e = absurd ha

  arrived_paired : (machine : Ellen) (op : Op) (a b : Option Above) (x y : Above) (l n : ℕ) (c d : Node)
      → AreBoth (AreAbovesPaired P R) a b → AreAbovesPaired P R x y → P l n → AreNodesPaired P R c d →
      Outcomes (arrived machine op a x l c) (arrived machine op b y n d)
  arrived_paired machine op a b x y l n (Leaf j) (Leaf i) ha h hl k = decide_paired machine op a b x y l n j i ha h hl k
  arrived_paired machine op a b x y l n (Internal j s c d) (Internal i t e f) ha h hl k = (h, hl)
  arrived_paired machine op a b x y l n _ _ ha h hl k = absurd k

-- ---- the rows

module _ (machine : Ellen) (op : Op) (p : Pairing) (m o : EllenMem) (h : ellen_pairs.memories p m o) where
  abbrev Nodes : ℕ → ℕ → Type 0
  Nodes = IsAmong p.nodes

  abbrev Records : ℕ → ℕ → Type 0
  Records = IsAmong p.records

  abbrev fresh_record : List (ℕ × ℕ)
  fresh_record = (length m.records, length o.records) ∷ []

  search_keeps : (at twin : SearchLoc) → AreSearchesPaired Nodes Records at twin
      → Steps p m o h (search_act machine op at m) (search_act machine op twin o)
  search_keeps (Update a x) (Update b y) g = read_update_keeps p m o h x y _ _ g.1 (λ u v w. (g.0, g.1, w))
  search_keeps (Child a x u) (Child b y v) g =
      read_child_keeps p m o h x y _ _ _ _ g.1
      (ap (side_of (key_of op)) (key_paired Nodes Records _ _ (h.nodes x y g.1)))
      (λ c d w. arrived_paired p h.root machine op a b _ _ c d _ _ g.0 (g.1, g.2) w (h.nodes c d w))
  -- the exchange of an insert's flag: three nodes and a record are new
  search_keeps (IFlag x u l) (IFlag y v n) g =
      let grown = internal_grown p m o (key_of op) l n h g.2 in
      let left : Record = Ins (record { parent = x; leaf = l; new = new_internal m }) in
      let right : Record = Ins (record { parent = y; leaf = n; new = new_internal o }) in
      exchange_update_keeps p m o h (fresh_nodes m o) fresh_record _ _
      (append_record (fresh_nodes m o ++ p.nodes) p.records _ _ left right grown.paired
      (inr (inr (inr g.0)), inr (inr (inr g.2)), inl (refl, refl)))
      (λ w. (grown.whole w.0, fresh_covers p.records m.records left (length o.records) w.1))
      x y u v _ _ _ _ _ _ g.0 g.1 (inl (refl, refl)) (inl (refl, refl), (tt, refl))
      (help_first_paired p h.root machine)
  search_keeps (InsOnly x l) (InsOnly y n) g =
      let grown = internal_grown p m o (key_of op) l n h g.1 in
      exchange_child_keeps p m o h (fresh_nodes m o) [] _ _ grown.paired (λ w. (grown.whole w.0, w.1))
      x y l n (new_internal m) (new_internal o) _ _ _ _ g.0 g.1 (inl (refl, refl)) refl (tt, h.root)
  -- the exchange of a delete's flag: a record is new, which the grandparent's update word names
  search_keeps (DFlag a x u l) (DFlag b y v n) g =
      let left : Record = Del (record { grandparent = a.node; parent = x; leaf = l; parent_update = u }) in
      let right : Record = Del (record { grandparent = b.node; parent = y; leaf = n; parent_update = v }) in
      let more =
      records_weaker Nodes Nodes Records (IsAmong (fresh_record ++ p.records)) (λ x y k. k) (λ x y k. inr k) left right
      (g.0.0, g.1, g.3, g.2) in
      exchange_update_keeps p m o h [] fresh_record _ _ (append_record p.nodes p.records m o left right h more)
      (λ w. (w.0, fresh_covers p.records m.records left (length o.records) w.1))
      a.node b.node a.update b.update _ _ _ _ _ _ g.0.0 g.0.1 (inl (refl, refl)) (
        marking_paired (with_pairs [] fresh_record p) h.root machine _ _ (inl (refl, refl)),
        (tt, refl),
      )
      (help_first_paired p h.root machine)
  search_keeps _ _ g = absurd g

  module _ (y z : Resume) (rest : AreResumesPaired Nodes Records y z) where
    unflagged_keeps : (done : Bool) (r s : ℕ) → Records r s
        → Steps p m o h (unflagged done r y m) (unflagged done s z o)
    unflagged_keeps done r s g =
        delete_keeps p m o h _ _ _ _ (h.records r s g)
        (λ i j k. exchange_update_keeps p m o h [] [] m o h (λ w. w) i.grandparent j.grandparent _ _ _ _ _ _ _ _ k.0 g g
        (returned_paired p h.root done y z rest) (λ u v w. returned_paired p h.root done y z rest))

    help_keeps : (at twin : HelpLoc) → AreHelpsPaired Nodes Records at twin
        → Steps p m o h (help_act machine at y m) (help_act machine twin z o)
    help_keeps (InsChild r) (InsChild s) g =
        insert_keeps p m o h _ _ _ _ (h.records r s g)
        (λ i j k. exchange_child_keeps p m o h [] [] m o h (λ w. w)
        i.parent j.parent i.leaf j.leaf i.new j.new _ _ _ _ k.0
        k.1 k.2 (g, rest) (g, rest))
    help_keeps (InsClean r) (InsClean s) g =
        insert_keeps p m o h _ _ _ _ (h.records r s g)
        (λ i j k. exchange_update_keeps p m o h [] [] m o h (λ w. w) i.parent j.parent _ _ _ _ _ _ _ _ k.0 g g
        (returned_paired p h.root true y z rest) (λ u v w. returned_paired p h.root true y z rest))
    help_keeps (Mark r) (Mark s) g =
        delete_keeps p m o h _ _ _ _ (h.records r s g)
        (λ i j k. exchange_update_keeps p m o h [] [] m o h (λ w. w)
        i.parent j.parent _ _ _ _ _ _ _ _ k.1 k.3 g (g, rest)
        (λ u v w. choices_paired (Outcomes p h.root) (is_word u (word.Mark r)) (is_word v (word.Mark s)) _ _ _ _
        (words_compared Records h.records_one_to_one u v (word.Mark r) (word.Mark s) w g) (g, rest)
        (help_paired p h.root machine u v _ _ w (stacks_paired p h.root r s y.stack z.stack g rest.0, rest.1))))
    help_keeps (Right r) (Right s) g =
        delete_keeps p m o h _ _ _ _ (h.records r s g)
        (λ i j k. read_child_keeps p m o h i.parent j.parent side.Right side.Right _ _ k.1 refl
        (λ c d w. let same = same_number Nodes h.nodes_one_to_one c d i.leaf j.leaf w k.2 in
        ((g, ap (λ b. if b then side.Left else side.Right) same), rest)))
    help_keeps (Other r c) (Other s d) g =
        delete_keeps p m o h _ _ _ _ (h.records r s g.0)
        (λ i j k. read_child_keeps p m o h i.parent j.parent c d _ _ k.1 g.1 (λ a b w. ((g.0, w), rest)))
    help_keeps (Splice r x) (Splice s t) g =
        delete_keeps p m o h _ _ _ _ (h.records r s g.0)
        (λ i j k. exchange_child_keeps p m o h [] [] m o h (λ w. w)
        i.grandparent j.grandparent i.parent j.parent x t _ _ _ _
        k.0 k.1 g.1 (g.0, rest) (g.0, rest))
    help_keeps (DelClean r) (DelClean s) g = unflagged_keeps true r s g
    help_keeps (Back r) (Back s) g = unflagged_keeps false r s g
    help_keeps _ _ g = absurd g

  -- accesses of paired places keep a pairing
  pub act_keeps : (place twin : EllenLoc) → ellen_pairs.places p place twin
      → Steps p m o h (act machine op place m) (act machine op twin o)
  act_keeps (Search at) (Search twin) g = search_keeps at twin g
  act_keeps (Help at y) (Help twin z) g = help_keeps y z g.1 at twin g.0
  act_keeps _ _ g = absurd g
