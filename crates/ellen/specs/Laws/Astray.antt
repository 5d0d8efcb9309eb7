-- An access that goes astray leaves the memory as it was.
use Rattle.std.specs.Prelude.{◌≡◌, ℕ, Bool, true, false, if◌then◌else◌, nat_eq, List, [], ◌∷◌, refl, Option, Some, None}
use Rattle.std.proofs.Common.{arith}
use Rattle.ellen.specs.Types.{Op, Outcome, Goes, Replies, Astray, Ellen, UpdateWord, EllenMem, Base, Resume, SearchLoc}
use Rattle.ellen.specs.Types.{Update, Child, IFlag, InsOnly, DFlag, HelpLoc, InsChild, InsClean, Mark, Right, Other}
use Rattle.ellen.specs.Types.{Splice, DelClean, Back, EllenLoc, Search, Help}
use Rattle.ellen.specs.declared.place.Base.TheVariants as base
use Rattle.tree_machine.specs.declared.search_order.Side.TheVariants as side
use Rattle.ellen.specs.Memory.{child_on, is_word, node_at, record_at, insert_of, delete_of}
use Rattle.ellen.specs.Table.{After, found, exchange_update, exchange_child, settled, unwound, search_act, help_act}
use Rattle.ellen.specs.Table.{act}

-- where the access went astray, the memory is the one before
abbrev IsCalm : EllenMem → After → Type 0
IsCalm memory after = after.1 ≡ Astray → after.0 ≡ memory

goes_sure : (place : EllenLoc) → Goes place ≡ Astray → ⊥
goes_sure place e = cc

replies_sure : (reply : Bool) → Path (Outcome EllenLoc) (Replies reply) Astray → ⊥
replies_sure reply e = cc

settled_sure : (done : Bool) (b : Base) → settled done b ≡ Astray → ⊥
settled_sure true base.Delete e = cc
settled_sure done b e = search arith

returned_sure : (done : Bool) (b : Base) (stack : List ℕ) → unwound done b stack ≡ Astray → ⊥
returned_sure done b [] e = settled_sure done b e
returned_sure done b (r ∷ stack) e = cc

module _ (memory : EllenMem) where
  found_calm : {A : Type 0} (o : Option A) (goes : A → After) → ((a : A) → IsCalm memory (goes a))
      → IsCalm memory (found memory o goes)
  found_calm None goes f = λ e. refl
  found_calm (Some a) goes f = f a

  -- where what succeeds does not go astray, and what fails leaves the memory
  cond_calm : (b : Bool) (other : EllenMem) (success failure : Outcome EllenLoc) → (success ≡ Astray → ⊥)
      → IsCalm memory (if b then (other, success) else (memory, failure))
  cond_calm true other success failure sure = λ e. absurd (sure e)
  cond_calm false other success failure sure = λ e. refl

  exchange_update_calm : (x : ℕ) (expected desired : UpdateWord) (appended : EllenMem) (success : Outcome EllenLoc)
      (failure : UpdateWord → Outcome EllenLoc) → (success ≡ Astray → ⊥)
      → IsCalm memory (exchange_update memory x expected desired appended success failure)
  exchange_update_calm x expected desired appended success failure sure =
      found_calm _ _ (λ w. cond_calm (is_word w expected) _ success (failure w) sure)

  exchange_child_calm : (x a b : ℕ) (appended : EllenMem) (success failure : Outcome EllenLoc) → (success ≡ Astray → ⊥)
      → IsCalm memory (exchange_child memory x a b appended success failure)
  exchange_child_calm x a b appended success failure sure =
      found_calm _ _ (λ c. cond_calm (nat_eq c a) _ success failure sure)

  search_calm : (machine : Ellen) (op : Op) (at : SearchLoc) → IsCalm memory (search_act machine op at memory)
  search_calm machine op (Update above p) = found_calm _ _ (λ u e. refl)
  search_calm machine op (Child above p u) = found_calm _ _ (λ c e. refl)
  search_calm machine op (IFlag p u l) = found_calm _ _ (λ w. cond_calm (is_word w u) _ _ _ (goes_sure _))
  search_calm machine op (InsOnly p l) = found_calm _ _ (λ c. cond_calm (nat_eq c l) _ _ _ (replies_sure _))
  search_calm machine op (DFlag above p u l) =
      found_calm _ _ (λ w. cond_calm (is_word w above.update) _ _ _ (goes_sure _))

  help_calm : (machine : Ellen) (at : HelpLoc) (resume : Resume) → IsCalm memory (help_act machine at resume memory)
  help_calm machine (InsChild r) resume =
      found_calm (insert_of (record_at memory r)) _
      (λ i. exchange_child_calm i.parent i.leaf i.new memory _ _ (goes_sure _))
  help_calm machine (InsClean r) resume =
      found_calm (insert_of (record_at memory r)) _
      (λ i. exchange_update_calm i.parent _ _ memory _ _ (returned_sure true resume.base resume.stack))
  help_calm machine (Mark r) resume =
      found_calm (delete_of (record_at memory r)) _
      (λ d. exchange_update_calm d.parent d.parent_update _ memory _ _ (goes_sure _))
  help_calm machine (Right r) resume =
      found_calm (delete_of (record_at memory r)) _
      (λ d. found_calm (child_on side.Right (node_at memory d.parent)) _ (λ c e. refl))
  help_calm machine (Other r s) resume =
      found_calm (delete_of (record_at memory r)) _
      (λ d. found_calm (child_on s (node_at memory d.parent)) _ (λ o e. refl))
  help_calm machine (Splice r o) resume =
      found_calm (delete_of (record_at memory r)) _
      (λ d. exchange_child_calm d.grandparent d.parent o memory _ _ (goes_sure _))
  help_calm machine (DelClean r) resume =
      found_calm (delete_of (record_at memory r)) _
      (λ d. exchange_update_calm d.grandparent _ _ memory _ _ (returned_sure true resume.base resume.stack))
  help_calm machine (Back r) resume =
      found_calm (delete_of (record_at memory r)) _
      (λ d. exchange_update_calm d.grandparent _ _ memory _ _ (returned_sure false resume.base resume.stack))

-- an access that goes astray leaves the memory
pub astray_unchanged : (machine : Ellen) (op : Op) (place : EllenLoc) (memory : EllenMem)
    → IsCalm memory (act machine op place memory)
astray_unchanged machine op (Search at) memory = search_calm memory machine op at
astray_unchanged machine op (Help at resume) memory = help_calm memory machine at resume
