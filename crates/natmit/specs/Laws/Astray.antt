-- An access that goes astray leaves the memory as it was.
use Rattle.std.specs.Prelude.{◌≡◌, Bool, true, false, if◌then◌else◌, refl, Option, Some, None}
use Rattle.natmit.specs.Types.{Op, Outcome, Goes, Replies, Astray, NatMit, Word, NatMitMem, Mode, Plain, Owner}
use Rattle.natmit.specs.Types.{NatMitLoc, Begin, Down, Put, Flag, Look, CleanRead, Tag, Sibling, Swing}
use Rattle.natmit.specs.Memory.{is_plain}
use Rattle.natmit.specs.Table.{After, found, swung, act}

goes_sure : (place : NatMitLoc) → Goes place ≡ Astray → ⊥
goes_sure place e = cc

replies_sure : (reply : Bool) → Path (Outcome NatMitLoc) (Replies reply) Astray → ⊥
replies_sure reply e = cc

swung_sure : (mode : Mode) → swung mode ≡ Astray → ⊥
swung_sure Plain e = cc
swung_sure (Owner o) e = cc

abbrev LeavesMemory : NatMitMem → After → Type 0
LeavesMemory memory after = after.1 ≡ Astray → after.0 ≡ memory

module _ (memory : NatMitMem) where
  found_leaves : (o : Option Word) (goes : Word → After) → ((w : Word) → LeavesMemory memory (goes w))
      → LeavesMemory memory (found memory o goes)
  found_leaves None goes f = λ _. refl
  found_leaves (Some w) goes f = f w

  cond_leaves : (b : Bool) (changed : NatMitMem) (success failure : Outcome NatMitLoc) → (success ≡ Astray → ⊥)
      → LeavesMemory memory (if b then (changed, success) else (memory, failure))
  cond_leaves true changed success failure sure = λ e. absurd (sure e)
  cond_leaves false changed success failure sure = λ _. refl

  -- an access that goes astray leaves the memory
  pub act_leaves : (machine : NatMit) (op : Op) (place : NatMitLoc) → (act machine op place memory).1 ≡ Astray
      → (act machine op place memory).0 ≡ memory
  act_leaves machine op (Begin mode) = found_leaves _ _ (λ w _. refl)
  act_leaves machine op (Down p l t mode) = found_leaves _ _ (λ w _. refl)
  act_leaves machine op (Put p l) = found_leaves _ _ (λ w. cond_leaves (is_plain l w) _ _ _ (replies_sure _))
  act_leaves machine op (Flag p l) = found_leaves _ _ (λ w. cond_leaves (is_plain l w) _ _ _ (goes_sure _))
  act_leaves machine op (Look p l) = found_leaves _ _ (λ w _. refl)
  act_leaves machine op (CleanRead p mode) = found_leaves _ _ (λ w _. refl)
  act_leaves machine op (Tag p d mode) = found_leaves _ _ (λ w e. absurd (goes_sure _ e))
  act_leaves machine op (Sibling p d mode) = found_leaves _ _ (λ w _. refl)
  act_leaves machine op (Swing a s f x mode) =
      found_leaves _ _ (λ w. cond_leaves (is_plain s w) _ _ _ (swung_sure mode))
