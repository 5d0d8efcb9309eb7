-- The place table: what each place's access does, and where the operation goes then.
use Rattle.std.specs.Prelude.{ℕ, Bool, true, false, if◌then◌else◌, nat_eq, List, [], ◌∷◌, ◌++◌, length, Option, Some}
use Rattle.std.specs.Prelude.{None}
use Rattle.sched_program.specs.Program.{key_of}
use Rattle.ellen.specs.Types.{Op, Insert, Delete, Find, Outcome, Goes, Replies, Astray, Side, Ellen, UpdateWord, Node}
use Rattle.ellen.specs.Types.{Leaf, Internal, Ins, Del, EllenMem, Above, Base, Resume, SearchLoc, Update, Child, IFlag}
use Rattle.ellen.specs.Types.{InsOnly, DFlag, HelpLoc, InsChild, InsClean, Mark, Right, Other, Splice, DelClean, Back}
use Rattle.ellen.specs.Types.{EllenLoc, Search, Help}
use Rattle.ellen.specs.declared.memory.UpdateWord.TheVariants as word
use Rattle.tree_machine.specs.declared.search_order.Side.TheVariants as side
use Rattle.tree_machine.specs.SearchOrder.{side_of}
use Rattle.ellen.specs.declared.place.Base.TheVariants as base
use Rattle.ellen.specs.Memory.{update_of, child_on, is_word, is_clean, node_at, record_at, key_at, set_update}
use Rattle.ellen.specs.Memory.{set_child, with_internal, new_internal, add_record, insert_of, delete_of}

-- the memory after an access, and what comes of it
abbrev pub After : Type 0
After = EllenMem × Outcome EllenLoc

-- ---- kinds of access; where there is nothing to access, the machine goes astray

abbrev pub found : {A : Type 0} → EllenMem → Option A → (A → After) → After
found memory None goes = (memory, Astray)
found memory (Some a) goes = goes a

-- reads the update word of node x
abbrev pub read_update : EllenMem → ℕ → (UpdateWord → Outcome EllenLoc) → After
read_update memory x goes = found memory (update_of (node_at memory x)) (λ u. (memory, goes u))

-- reads the child of node x on a side
abbrev pub read_child : EllenMem → ℕ → Side → (ℕ → Outcome EllenLoc) → After
read_child memory x s goes = found memory (child_on s (node_at memory x)) (λ c. (memory, goes c))

-- exchanges the update word of node x; what is new is appended only if it succeeds
abbrev pub exchange_update : EllenMem → ℕ → UpdateWord → UpdateWord → EllenMem → Outcome EllenLoc
    → (UpdateWord → Outcome EllenLoc) → After
exchange_update memory x expected desired appended success failure =
    found memory (update_of (node_at memory x))
    (λ w. if is_word w expected then (set_update appended x desired, success) else (memory, failure w))

-- exchanges the child of node x from a to b, on the side of b's key; what is new is appended only if it succeeds
abbrev pub exchange_child : EllenMem → ℕ → ℕ → ℕ → EllenMem → Outcome EllenLoc → Outcome EllenLoc → After
exchange_child memory x a b appended success failure =
    let s = side_of (key_at appended b) (key_at memory x) in
    found memory (child_on s (node_at memory x))
    (λ c. if nat_eq c a then (set_child appended x s b, success) else (memory, failure))

-- ---- where the operation goes, with no access of its own

abbrev pub first_place : EllenLoc
first_place = Search (Update None 0)

-- an empty stack, and what is done behind it
abbrev pub with_base : Base → Resume
with_base b = record { stack = []; base = b }

-- a record is pushed on the stack
abbrev pub awaiting : ℕ → Resume → Resume
awaiting r resume = record { stack = resume.stack ++ r ∷ []; base = resume.base }

-- what is done where the stack is empty
abbrev pub settled : Bool → Base → Outcome EllenLoc
settled done base.Again = Goes first_place
settled done base.Insert = Replies true
settled done base.Delete = if done then Replies true else Goes first_place

-- the stack that begins with r, without its top; and the top
abbrev pub top_taken : ℕ → List ℕ → List ℕ × ℕ
top_taken r [] = ([], r)
top_taken r (s ∷ stack) = (r ∷ (top_taken s stack).0, (top_taken s stack).1)

-- Return(b): the top of the stack is taken off and its flag is taken back; or, where the stack is empty, what is done
-- behind it
abbrev pub unwound : Bool → Base → List ℕ → Outcome EllenLoc
unwound done b [] = settled done b
unwound done b (r ∷ stack) =
    Goes (Help (Back (top_taken r stack).1) (record { stack = (top_taken r stack).0; base = b }))

abbrev pub returned : Bool → Resume → Outcome EllenLoc
returned done resume = unwound done resume.base resume.stack

-- Mark(r), or Right(r) in the variant without the mark
abbrev pub marking : Ellen → ℕ → HelpLoc
marking machine r = if machine.mark then Mark r else Right r

-- the side on which leaf l is not, where c is the right child
abbrev pub side_apart : ℕ → ℕ → Side
side_apart c l = if nat_eq c l then side.Left else side.Right

-- Help(w)
abbrev pub help : Ellen → UpdateWord → Resume → Outcome EllenLoc
help machine (word.InsertFlag r) resume = Goes (Help (InsChild r) resume)
help machine (word.DeleteFlag r) resume = Goes (Help (marking machine r) resume)
help machine (word.Mark r) resume = Goes (Help (Right r) resume)
help machine word.Untouched resume = returned true resume
help machine (word.Clean r) resume = returned true resume

-- Help(w) in the way of a search, which begins again then
abbrev pub help_first : Ellen → UpdateWord → Outcome EllenLoc
help_first machine w = help machine w (with_base base.Again)

-- where Mark(r) finds w: the mark itself, or what is helped first
abbrev pub unmarked : Ellen → ℕ → Resume → UpdateWord → Outcome EllenLoc
unmarked machine r resume w =
    if is_word w (word.Mark r) then Goes (Help (Right r) resume) else help machine w (awaiting r resume)

-- IFlag, or InsOnly in the variant without the flag
abbrev pub flagging : Ellen → Above → ℕ → SearchLoc
flagging machine p l = if machine.iflag then IFlag p.node p.update l else InsOnly p.node l

-- Decide, at leaf l of key j
abbrev pub decide : Ellen → Op → Option Above → Above → ℕ → ℕ → Outcome EllenLoc
decide machine (Find k) above p l j = Replies (nat_eq j k)
decide machine (Insert k) above p l j =
    if nat_eq j k then Replies false
    else if is_clean p.update then Goes (Search (flagging machine p l))
    else help_first machine p.update
decide machine (Delete k) None p l j = if nat_eq j k then Astray else Replies false
decide machine (Delete k) (Some above) p l j =
    if nat_eq j k then (
    if is_clean above.update then (
    if is_clean p.update then Goes (Search (DFlag above p.node p.update l)) else help_first machine p.update
    ) else help_first machine above.update
    ) else Replies false

-- at the child c
abbrev pub arrived : Ellen → Op → Option Above → Above → ℕ → Node → Outcome EllenLoc
arrived machine op above p c (Internal j v l r) = Goes (Search (Update (Some p) c))
arrived machine op above p c (Leaf j) = decide machine op above p c j

-- ---- the table

abbrev pub search_act : Ellen → Op → SearchLoc → EllenMem → After
search_act machine op (Update above p) m = read_update m p (λ u. Goes (Search (Child above p u)))
search_act machine op (Child above p u) m =
    read_child m p (side_of (key_of op) (key_at m p))
    (λ c. arrived machine op above (record { node = p; update = u }) c (node_at m c))
search_act machine op (IFlag p u l) m =
    let r = length m.records in
    exchange_update m p u (word.InsertFlag r)
    (add_record (with_internal m (key_of op) l) (Ins (record { parent = p; leaf = l; new = new_internal m })))
    (Goes (Help (InsChild r) (with_base base.Insert)))
    (λ w. help_first machine w)
search_act machine op (InsOnly p l) m =
    exchange_child m p l (new_internal m) (with_internal m (key_of op) l) (Replies true) (Goes first_place)
search_act machine op (DFlag above p u l) m =
    let r = length m.records in
    exchange_update m above.node above.update (word.DeleteFlag r)
    (add_record m (Del (record { grandparent = above.node; parent = p; leaf = l; parent_update = u })))
    (Goes (Help (marking machine r) (with_base base.Delete)))
    (λ w. help_first machine w)

-- the flag of a delete that is done, or not, is taken back
abbrev pub unflagged : Bool → ℕ → Resume → EllenMem → After
unflagged done r resume m = found m (delete_of (record_at m r)) (λ d.
    exchange_update m d.grandparent (word.DeleteFlag r) (word.Clean r) m (returned done resume)
    (λ w. returned done resume))

abbrev pub help_act : Ellen → HelpLoc → Resume → EllenMem → After
help_act machine (InsChild r) resume m = found m (insert_of (record_at m r)) (λ i.
    exchange_child m i.parent i.leaf i.new m (Goes (Help (InsClean r) resume)) (Goes (Help (InsClean r) resume)))
help_act machine (InsClean r) resume m = found m (insert_of (record_at m r)) (λ i.
    exchange_update m i.parent (word.InsertFlag r) (word.Clean r) m (returned true resume) (λ w. returned true resume))
help_act machine (Mark r) resume m = found m (delete_of (record_at m r)) (λ d.
    exchange_update m d.parent d.parent_update (word.Mark r) m
    (Goes (Help (Right r) resume))
    (λ w. unmarked machine r resume w))
help_act machine (Right r) resume m = found m (delete_of (record_at m r)) (λ d.
    read_child m d.parent side.Right
    (λ c. Goes (Help (Other r (side_apart c d.leaf)) resume)))
help_act machine (Other r s) resume m = found m (delete_of (record_at m r)) (λ d.
    read_child m d.parent s (λ o. Goes (Help (Splice r o) resume)))
help_act machine (Splice r o) resume m = found m (delete_of (record_at m r)) (λ d.
    exchange_child m d.grandparent d.parent o m (Goes (Help (DelClean r) resume)) (Goes (Help (DelClean r) resume)))
help_act machine (DelClean r) resume m = unflagged true r resume m
help_act machine (Back r) resume m = unflagged false r resume m

abbrev pub act : Ellen → Op → EllenLoc → EllenMem → After
act machine op (Search at) m = search_act machine op at m
act machine op (Help at resume) m = help_act machine at resume m
