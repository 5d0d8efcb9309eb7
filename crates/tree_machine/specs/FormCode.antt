-- The contents of forms of states, and whole states, in bytes.
use Rattle.std.specs.Prelude.{◌≡◌, ℕ, ◌/◌, ◌%◌, Bool, if◌then◌else◌, List, [], ◌∷◌, ◌++◌, length, Option, Some, None}
use Rattle.std.specs.List.{flat_map}
use Rattle.tree_machine.specs.Alike.{FormContent, places_of, replies_of, notes_of, state_form}
use Rattle.tree_machine.specs.Flat.{number_code}
use Rattle.tree_machine.specs.Naming.{code_by}
use Rattle.tree_machine.specs.Packed.{is_short, note_number, replies_number}
use Rattle.tree_machine.specs.declared.front.Front.{Front}
use Rattle.tree_machine.specs.declared.naming.Naming.{Naming}
use Rattle.tree_machine.specs.declared.state.State.{State}

-- a list: how many there are, and each of them
abbrev pub list_code : {A : Type 0} → (A → List ℕ) → List A → List ℕ
list_code code xs = length xs ∷ flat_map code xs

-- the replies of a thread, as a number, which is one byte for six of them
unfoldable pub replies_code : List Bool → List ℕ
replies_code replies = number_code (replies_number replies)

-- a note: its number in two bytes if it is short, and else how many counts there are, and the counts, behind a byte
-- that no such number begins with
unfoldable pub note_code : List ℕ → List ℕ
note_code counts =
    if is_short counts then note_number counts / 256 ∷ note_number counts % 256 ∷ [] else 255 ∷ length counts ∷ counts

abbrev pub astray_code : Option ℕ → List ℕ
astray_code None = 0 ∷ []
astray_code (Some t) = 1 ∷ t ∷ []

-- what the threads did, and who went astray
abbrev pub op_log_code : List (List Bool) → List (List (List ℕ)) → Option ℕ → List ℕ
op_log_code replies notes astray =
    list_code replies_code replies ++ (list_code (list_code note_code) notes ++ astray_code astray)

-- all of it: the machine's form comes last, since nothing shows where its bytes end
abbrev pub content_code : {Form : Type 0} → (Form → List ℕ) → FormContent Form → List ℕ
content_code code content = op_log_code content.replies content.notes content.astray ++ code content.form

-- what counts as one by names, in bytes: no steps, as they play no part, and the form
abbrev pub named_code : {Machine Memory Place Form : Type 0} → (Form → List ℕ) → (Memory → List (Option Place) → Form)
    → State Machine Memory Place Form → List ℕ
named_code form_code form_of state = number_code 0 ++ content_code form_code (state_form form_of state)

-- equal bytes are bytes of equal values
abbrev pub IsInjective : {A : Type 0} → (A → List ℕ) → Type 0
IsInjective {A} code = (a b : A) → code a ≡ code b → a ≡ b

-- equal bytes are bytes of equal memories with equal places held, where equally many threads hold them
abbrev pub TellsWholly : {Memory Place : Type 0} → (Memory → List (Option Place) → List ℕ)
    → (Memory → List (Option Place) → List ℕ) → Type 0
TellsWholly {Memory} {Place} code twin_code =
    (memory other : Memory) (held others : List (Option Place)) → length held ≡ length others
    → code memory held ≡ twin_code other others → (memory ≡ other) × (held ≡ others)

-- a memory with places held, cut at a front: what comes in front, which is of the memory alone, and what comes behind
abbrev pub cut_code : {Memory Place : Type 0} → (Front → Memory → List ℕ)
    → (Front → Memory → List (Option Place) → List ℕ) → Front → Memory → List (Option Place) → List ℕ
cut_code front_code behind_code front memory held = front_code front memory ++ behind_code front memory held

-- a whole state: the number of steps, what the threads did, who went astray, and the memory with the places held
abbrev pub state_code : {Machine Memory Place Form : Type 0} → (Memory → List (Option Place) → List ℕ)
    → State Machine Memory Place Form → List ℕ
state_code code state =
    number_code state.steps
    ++ (op_log_code (replies_of state.threads) (notes_of state.threads) state.astray
    ++ code state.memory (places_of state.threads))

-- the label of a state, by which a book knows it
abbrev pub label_code : {Machine Memory Place Form : Type 0} → Naming → (Memory → List (Option Place) → List ℕ)
    → (Form → List ℕ) → (Memory → List (Option Place) → Form) → State Machine Memory Place Form → List ℕ
label_code naming own_code form_code form_of state =
    code_by naming (state_code own_code state) (named_code form_code form_of state)
