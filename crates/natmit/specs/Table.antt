-- The place table: what each place's access does, and where the operation goes then. The names are those of the
-- paper of Natarajan and Mittal; p and l stand for the path and the leaf.
use Rattle.std.specs.Prelude.{ℕ, Bool, true, false, ◌&&◌, ◌||◌, if◌then◌else◌, nat_eq, Option, Some, None}
use Rattle.sched_program.specs.Program.{key_of}
use Rattle.natmit.specs.Types.{Op, Insert, Delete, Find, Outcome, Goes, Replies, Astray, Side, Left, Right, NatMit}
use Rattle.natmit.specs.Types.{Word, Node, Leaf, Internal, NatMitMem, Mode, Plain, Owner, Path, NatMitLoc, Begin, Down}
use Rattle.natmit.specs.Types.{Put, Flag, Look, CleanRead, Tag, Sibling, Swing}
use Rattle.natmit.specs.Memory.{plain, is_plain, word_on, node_at, side_at, set_word, with_internal, new_internal}

-- the memory after an access, and what comes of it
abbrev pub After : Type 0
After = NatMitMem × Outcome NatMitLoc

-- ---- kinds of access; a leaf has no word to access, and there the machine goes astray

abbrev pub found : NatMitMem → Option Word → (Word → After) → After
found memory None goes = (memory, Astray)
found memory (Some w) goes = goes w

-- reads the word of node x on side d
abbrev pub after_read : NatMitMem → ℕ → Side → (Word → Outcome NatMitLoc) → After
after_read memory x d goes = found memory (word_on d (node_at memory x)) (λ w. (memory, goes w))

-- exchanges the word of node x on side d, from the plain word of l to another; what is new is appended only if it
-- succeeds
abbrev pub after_exchange : NatMitMem → ℕ → Side → ℕ → NatMitMem → Word → Outcome NatMitLoc → Outcome NatMitLoc → After
after_exchange memory x d l appended desired success failure =
    found memory (word_on d (node_at memory x))
    (λ w. if is_plain l w then (set_word appended x d desired, success) else (memory, failure))

-- sets the tag of the word of node x on side d
abbrev pub after_tag : NatMitMem → ℕ → Side → Outcome NatMitLoc → After
after_tag memory x d goes =
    found memory (word_on d (node_at memory x))
    (λ w. (set_word memory x d (record { flag = w.flag; tag = true; node = w.node }), goes))

-- ---- where the operation goes, with no access of its own

abbrev pub other_side : Side → Side
other_side Left = Right
other_side Right = Left

-- the path of an ancestor, a successor and a parent
abbrev pub path_of : ℕ → ℕ → ℕ → Path
path_of a s p = record { ancestor = a; successor = s; parent = p }

-- the path to a child of node l, to which a word with tag t led: an untagged word makes a new ancestor
abbrev pub path_below : Path → ℕ → Bool → Path
path_below p l true = path_of p.ancestor p.successor l
path_below p l false = path_of p.parent l l

-- the search has come to node l, by a word with tag t
abbrev pub arrived : Op → Path → ℕ → Bool → Mode → Node → Outcome NatMitLoc
arrived op p l t mode (Internal j left right) = Goes (Down p l t mode)
arrived (Find k) p l t mode (Leaf j) = Replies (nat_eq j k)
arrived (Insert k) p l t mode (Leaf j) = if nat_eq j k then Replies false else Goes (Put p l)
arrived (Delete k) p l t Plain (Leaf j) = if nat_eq j k then Goes (Flag p l) else Replies false
arrived (Delete k) p l t (Owner o) (Leaf j) = if nat_eq l o then Goes (CleanRead p (Owner o)) else Replies true

-- the search has read the word w of the parent
abbrev pub went_down : Op → Path → Mode → NatMitMem → Word → Outcome NatMitLoc
went_down op p mode memory w = arrived op p w.node w.tag mode (node_at memory w.node)

-- an exchange has failed, and found w
abbrev pub looked : Path → ℕ → Word → Outcome NatMitLoc
looked p l w = if nat_eq w.node l && (w.flag || w.tag) then Goes (CleanRead p Plain) else Goes (Begin Plain)

-- Tag, or Sibling in the variant without the tag
abbrev pub tagging : NatMit → Path → Side → Mode → NatMitLoc
tagging machine p d mode = if machine.tag then Tag p d mode else Sibling p d mode

-- the sibling stays that is not flagged; d is the side of the key
abbrev pub clean_read : NatMit → Path → Side → Mode → Word → Outcome NatMitLoc
clean_read machine p d mode w =
    if w.flag then Goes (tagging machine p (other_side d) mode) else Goes (tagging machine p d mode)

abbrev pub swung : Mode → Outcome NatMitLoc
swung Plain = Goes (Begin Plain)
swung (Owner o) = Replies true

abbrev pub not_swung : Mode → Outcome NatMitLoc
not_swung mode = Goes (Begin mode)

-- ---- the table

abbrev pub act : NatMit → Op → NatMitLoc → NatMitMem → After
act machine op (Begin mode) m = after_read m 1 Left (went_down op (path_of 0 1 1) mode m)
act machine op (Down p l t mode) m =
    after_read m l (side_at (key_of op) m l) (went_down op (path_below p l t) mode m)
act machine op (Put p l) m =
    after_exchange m p.parent (side_at (key_of op) m p.parent) l (with_internal m (key_of op) l)
    (plain (new_internal m)) (Replies true) (Goes (Look p l))
act machine op (Flag p l) m =
    after_exchange m p.parent (side_at (key_of op) m p.parent) l m
    (record { flag = true; tag = false; node = l }) (Goes (CleanRead p (Owner l))) (Goes (Look p l))
act machine op (Look p l) m = after_read m p.parent (side_at (key_of op) m p.parent) (looked p l)
act machine op (CleanRead p mode) m =
    after_read m p.parent (side_at (key_of op) m p.parent)
    (clean_read machine p (side_at (key_of op) m p.parent) mode)
act machine op (Tag p d mode) m = after_tag m p.parent d (Goes (Sibling p d mode))
act machine op (Sibling p d mode) m =
    after_read m p.parent d (λ w. Goes (Swing p.ancestor p.successor w.flag w.node mode))
act machine op (Swing a s f n mode) m =
    after_exchange m a (side_at (key_of op) m a) s m (record { flag = f; tag = false; node = n }) (swung mode)
    (not_swung mode)
