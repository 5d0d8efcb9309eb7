-- Accesses of paired places to paired memories keep a pairing, row by row of the place table.
use Rattle.std.specs.Prelude.{◌≡◌, ℕ, true, false, ◌&&◌, nat_eq, refl, Bool, ◌||◌}
use Rattle.std.proofs.Common.{ap}
use Rattle.natmit.specs.Types.{Op, Side, Left, NatMit, Word, Node, Leaf, Internal, NatMitMem, Mode, Plain, Owner, Path}
use Rattle.natmit.specs.Types.{NatMitLoc, Begin, Down, Put, Flag, Look, CleanRead, Tag, Sibling, Swing}
use Rattle.tree_machine.specs.Pairing.{Pairing, IsAmong, IsOneToOne}
use Rattle.tree_machine.proofs.FreshPairs.{choices_paired, same_number}
use Rattle.natmit.specs.Memory.{plain, node_at, side_at, with_internal, new_internal}
use Rattle.natmit.specs.Pairs.{AreWordsPaired, AreNodesPaired, AreMemoriesPaired, AreModesPaired, ArePathsPaired}
use Rattle.natmit.specs.Pairs.{ArePlacesPaired}
use Rattle.sched_program.specs.Program.{key_of}
use Rattle.sched_program.specs.declared.operation.Op.TheVariants.{Insert, Delete, Find}
use Rattle.natmit.specs.Table.{other_side, path_of, path_below, arrived, went_down, looked, tagging, clean_read, swung}
use Rattle.natmit.specs.Table.{act}
use Rattle.natmit.specs.Laws.PairedAccesses.{AreGoingAlike, AreAccessesPaired, unchanged, side_paired, read_keeps}
use Rattle.natmit.specs.Laws.PairedAccesses.{exchange_keeps, tag_keeps}
use Rattle.natmit.specs.Laws.PairedAppends.{with_two_new, internals_paired, two_new}

-- ---- where the operations go

module _ (P : ℕ → ℕ → Type 0) where
  swung_paired : (m o : Mode) → AreModesPaired P m o → AreGoingAlike P (swung m) (swung o)
  swung_paired Plain Plain h = tt
  swung_paired (Owner x) (Owner y) h = refl
  swung_paired _ _ h = absurd h

  tagging_paired : (machine : NatMit) (p q : Path) (d e : Side) (m o : Mode) → ArePathsPaired P p q
      → d ≡ e → AreModesPaired P m o → ArePlacesPaired P (tagging machine p d m) (tagging machine q e o)
  tagging_paired machine p q d e m o h same hm =
      choices_paired (ArePlacesPaired P) machine.tag machine.tag _ _ _ _ refl (h, same, hm) (h, same, hm)

  below_paired : (p q : Path) (l k : ℕ) (t v : Bool) → ArePathsPaired P p q → P l k → t ≡ v
      → ArePathsPaired P (path_below p l t) (path_below q k v)
  below_paired p q l k true true h hl e = (h.0, h.1, hl)
  below_paired p q l k false false h hl e = (h.2, hl, hl)
  below_paired p q l k _ _ h hl e = cc

  module _ (one : IsOneToOne P) where
    arrived_paired : (op : Op) (p q : Path) (l k : ℕ) (t v : Bool) (m o : Mode) (node node_twin : Node)
        → ArePathsPaired P p q → P l k → t ≡ v → AreModesPaired P m o → AreNodesPaired P node node_twin
        → AreGoingAlike P (arrived op p l t m node) (arrived op q k v o node_twin)
    arrived_paired op p q l k t v m o (Internal i x y) (Internal j z w) hp hl ht hm h = (hp, hl, ht, hm)
    arrived_paired (Find n) p q l k t v m o (Leaf i) (Leaf j) hp hl ht hm h = ap (λ z. nat_eq z n) h
    arrived_paired (Insert n) p q l k t v m o (Leaf i) (Leaf j) hp hl ht hm h =
        choices_paired (AreGoingAlike P) (nat_eq i n) (nat_eq j n) _ _ _ _ (ap (λ z. nat_eq z n) h) refl (hp, hl)
    arrived_paired (Delete n) p q l k t v Plain Plain (Leaf i) (Leaf j) hp hl ht hm h =
        choices_paired (AreGoingAlike P) (nat_eq i n) (nat_eq j n) _ _ _ _ (ap (λ z. nat_eq z n) h) (hp, hl) refl
    arrived_paired (Delete n) p q l k t v (Owner x) (Owner y) (Leaf i) (Leaf j) hp hl ht hm h =
        choices_paired (AreGoingAlike P) (nat_eq l x) (nat_eq k y) _ _ _ _ (same_number P one l k x y hl hm) (hp, hm)
        refl
    arrived_paired (Delete n) p q l k t v _ _ (Leaf i) (Leaf j) hp hl ht hm h = absurd hm
    arrived_paired op p q l k t v m o _ _ hp hl ht hm h = absurd h

    looked_paired : (p q : Path) (l k : ℕ) (v w : Word) → ArePathsPaired P p q → P l k
        → AreWordsPaired P v w → AreGoingAlike P (looked p l v) (looked q k w)
    looked_paired p q l k v w hp hl h =
        let node : nat_eq v.node l ≡ nat_eq w.node k = same_number P one v.node w.node l k h.2 hl in
        choices_paired (AreGoingAlike P) (nat_eq v.node l && (v.flag || v.tag)) (nat_eq w.node k && (w.flag || w.tag))
        _ _ _ _ (cc) (hp, tt) tt

-- ---- each place

module _ (p : Pairing) (memory twin : NatMitMem) (h : AreMemoriesPaired (IsAmong p.nodes) memory twin) where
  abbrev P : ℕ → ℕ → Type 0
  P = IsAmong p.nodes

  sides : (k x y : ℕ) → P x y → side_at k memory x ≡ side_at k twin y
  sides k x y at = side_paired P memory twin h k x y at

  down_keeps : (op : Op) (q r : Path) (m o : Mode) → ArePathsPaired P q r → AreModesPaired P m o
      → (v w : Word) → AreWordsPaired P v w
      → AreGoingAlike P (went_down op q m memory v) (went_down op r o twin w)
  down_keeps op q r m o hq hm v w words =
      arrived_paired P h.one_to_one op q r v.node w.node v.tag w.tag m o (node_at memory v.node)
      (node_at twin w.node) hq words.2 words.1 hm (h.nodes_paired v.node w.node words.2)

  clean_keeps : (machine : NatMit) (q r : Path) (d e : Side) (m o : Mode) → d ≡ e
      → ArePlacesPaired P (CleanRead q m) (CleanRead r o) → (v w : Word) → AreWordsPaired P v w
      → AreGoingAlike P (clean_read machine q d m v) (clean_read machine r e o w)
  clean_keeps machine q r d e m o agree g v w words =
      choices_paired (AreGoingAlike P) v.flag w.flag _ _ _ _ words.0
      (tagging_paired P machine q r (other_side d) (other_side e) m o g.0 (ap other_side agree) g.1)
      (tagging_paired P machine q r d e m o g.0 agree g.1)

  -- accesses of paired places keep a pairing
  pub act_keeps : (machine : NatMit) (op : Op) (place place_twin : NatMitLoc) → ArePlacesPaired P place place_twin
      → AreAccessesPaired p memory twin h (act machine op place memory) (act machine op place_twin twin)
  act_keeps machine op (Begin m) (Begin o) g =
      let first = path_of 0 1 1 in
      read_keeps p memory twin h 1 1 Left Left _ _ h.begin_paired refl
      (down_keeps op first first m o (h.root_paired, h.begin_paired, h.begin_paired) g)
  act_keeps machine op (Down q l t m) (Down r k c o) g =
      read_keeps p memory twin h l k _ _ _ _ g.1 (sides (key_of op) l k g.1)
      (down_keeps op (path_below q l t) (path_below r k c) m o (below_paired P q r l k t c g.0 g.1 g.2) g.3)
  act_keeps machine op (Put q l) (Put r k) g =
      let n = key_of op in
      exchange_keeps p memory twin h (with_two_new p memory twin n) (with_internal memory n l) (with_internal twin n k)
      (two_new p memory twin h n l k g.1) q.parent r.parent _ _ l k (plain (new_internal memory))
      (plain (new_internal twin)) _ _ _ _
      g.0.2 (sides n q.parent r.parent g.0.2) g.1 (refl, refl, internals_paired p memory twin n) refl g
  act_keeps machine op (Flag q l) (Flag r k) g =
      exchange_keeps p memory twin h p memory twin (unchanged p memory twin h) q.parent r.parent _ _ l k _ _ _ _ _ _
      g.0.2 (sides (key_of op) q.parent r.parent g.0.2) g.1 (refl, refl, g.1) g g
  act_keeps machine op (Look q l) (Look r k) g =
      read_keeps p memory twin h q.parent r.parent _ _ _ _ g.0.2 (sides (key_of op) q.parent r.parent g.0.2)
      (λ v w. looked_paired P h.one_to_one q r l k v w g.0 g.1)
  act_keeps machine op (CleanRead q m) (CleanRead r o) g =
      let same = sides (key_of op) q.parent r.parent g.0.2 in
      read_keeps p memory twin h q.parent r.parent _ _ _ _ g.0.2 same (clean_keeps machine q r _ _ m o same g)
  act_keeps machine op (Tag q d m) (Tag r e o) g =
      tag_keeps p memory twin h q.parent r.parent d e _ _ g.0.2 g.1 g
  act_keeps machine op (Sibling q d m) (Sibling r e o) g =
      read_keeps p memory twin h q.parent r.parent d e _ _ g.0.2 g.1
      (λ v w words. (g.0.0, g.0.1, words.0, words.2, g.2))
  act_keeps machine op (Swing a s f x m) (Swing b u c y o) g =
      exchange_keeps p memory twin h p memory twin (unchanged p memory twin h) a b _ _ s u _ _ _ _ _ _
      g.0 (sides (key_of op) a b g.0) g.1 (g.2, refl, g.3) (swung_paired P m o g.4) g.4
  act_keeps machine op _ _ g = absurd g
