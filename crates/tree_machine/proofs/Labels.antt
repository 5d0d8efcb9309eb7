-- Labels, what is copied from the bytes of a state by their offsets, and states that were read from labels.
use Rattle.std.proofs.Common.{◌≡◌, ◌≤◌, ℕ, List, ◌++◌, length, take, refl, ◌+◌, ◌-◌, Bool, true, false, []}
use Rattle.std.proofs.Common.{drop, Option, sym, ap, ◌∙◌, arith, append_assoc, if◌then◌else◌, length-append}
use Rattle.std.proofs.lemmas.List.{length-map, append-nil}
use Rattle.std.specs.Prelude.{IsTrue}
use Rattle.std.proofs.Math.Seq.{drop-append_seam, take-append_seam}
use Rattle.tree_machine.specs.FormCode.{cut_code, op_log_code, label_code, content_code, state_code}
use Rattle.tree_machine.specs.Alike.{notes_of, places_of, replies_of, FormContent}
use Rattle.tree_machine.specs.Offsets.{AreOffsetsOf, op_log_of, IsReadFrom}
use Rattle.tree_machine.specs.Flat.{number_code}
use Rattle.tree_machine.specs.declared.state.Thread.{Thread}
use Rattle.tree_machine.specs.declared.code_offsets.CodeOffsets.{CodeOffsets}
use Rattle.tree_machine.specs.Naming.{code_by}
use Rattle.tree_machine.specs.declared.front.Front.{Front}
use Rattle.tree_machine.specs.declared.naming.Naming.{Naming}
use Rattle.tree_machine.specs.declared.naming.Naming.TheVariants.{Own, Canonical}
use Rattle.tree_machine.specs.declared.state.State.{State}
use Rattle.tree_machine.specs.InRange.{AreNumbersInRange}
use Rattle.tree_machine.proofs.Forms.{held_in_range}
use Rattle.tree_machine.specs.Rules.{Rules}
use Rattle.tree_machine.specs.Laws.Flat.{number_split}
use Rattle.tree_machine.specs.Laws.FormCode.{content_readable}

-- what is between two places of a list in three pieces
piece_between : {X : Type 0} (a b c : List X) {xs : List X} {from to : ℕ} → xs ≡ a ++ (b ++ c) → from ≡ length a
    → to ≡ from + length b → take (to - from) (drop from xs) ≡ b
piece_between a b c {from = from} {to = to} e f t =
    let count : to - from ≡ length b = omega arith in
    rw (count, e, f, drop-append_seam a (b ++ c)) (take-append_seam b c)

-- where the third of four pieces ends
third_ends : (a b c d : List ℕ) {xs : List ℕ} {p q r : ℕ} → xs ≡ a ++ (b ++ (c ++ d)) → p ≡ length a
    → q ≡ p + length b → r ≡ q + length c → r ≤ length xs
third_ends a b c d e f g h = rw e (simp length-append (omega arith))

-- a label in its pieces
pub label_is : {Machine Memory Place Form : Type 0} (naming : Naming)
    (own_code : Memory → List (Option Place) → List ℕ)
    (form_code : Form → List ℕ) (form_of : Memory → List (Option Place) → Form)
    (state : State Machine Memory Place Form)
    → number_code (code_by naming state.steps 0) ++ (op_log_of state
    ++ code_by naming (own_code state.memory (places_of state.threads))
    (form_code (form_of state.memory (places_of state.threads))))
    ≡ label_code naming own_code form_code form_of state
label_is Own own_code form_code form_of state = refl
label_is Canonical own_code form_code form_of state = refl

module _ {Memory Place : Type 0} (front_code : Front → Memory → List ℕ)
    (behind_code : Front → Memory → List (Option Place) → List ℕ) where
  abbrev cut : Front → Memory → List (Option Place) → List ℕ
  cut = cut_code front_code behind_code

  module _ {Machine Form : Type 0} {stated : List ℕ} (offsets : CodeOffsets)
      (source : State Machine Memory Place Form)
      (are : AreOffsetsOf front_code behind_code stated offsets source) where
    -- the cuts are in order, within the bytes
    held_within : offsets.held ≤ length stated
    held_within = search (arith, third_ends)

    pub offsets_in_order : (same : Bool) (to : ℕ) → to ≡ (if same then offsets.held else offsets.memory)
        → (offsets.op_log ≤ to) × (offsets.memory ≤ to) × (to ≤ length stated)
    offsets_in_order true to e = grind (arith, held_within)
    offsets_in_order false to e = grind (arith, held_within)

    -- the bytes of the memory, if they are asked for
    pub memory_piece : (mem : Memory) (same : Bool) (to : ℕ) → (IsTrue same → mem ≡ source.memory)
        → to ≡ (if same then offsets.held else offsets.memory)
        → take (to - offsets.memory) (drop offsets.memory stated) ≡ (if same then front_code offsets.front mem else [])
    memory_piece mem true to k e =
        rw (k refl) (piece_between (number_code source.steps ++ op_log_of source) _ _
        (are.written ∙ sym (append_assoc (number_code source.steps) (op_log_of source) _))
        (omega (arith, length-append (number_code source.steps) (op_log_of source), are.op_log, are.memory))
        (e ∙ are.held))
    memory_piece mem false to k e = let none : to - offsets.memory ≡ 0 = omega (arith, e) in rw none refl

    -- the bytes of what the threads did, with those of the memory, if they are asked for
    pub op_log_piece : (mem : Memory) (same : Bool) (to : ℕ) → (IsTrue same → mem ≡ source.memory)
        → to ≡ (if same then offsets.held else offsets.memory)
        → take (to - offsets.op_log) (drop offsets.op_log stated)
        ≡ op_log_of source ++ (if same then front_code offsets.front mem else [])
    op_log_piece mem true to k e =
        let front = front_code offsets.front source.memory in
        rw (k refl) (piece_between (number_code source.steps) (op_log_of source ++ front) _
        (are.written ∙ ap (λ l. number_code source.steps ++ l) (sym (append_assoc (op_log_of source) front _)))
        are.op_log (omega (arith, e, are.memory, are.held, length-append (op_log_of source) front)))
    op_log_piece mem false to k e =
        piece_between (number_code source.steps) (op_log_of source) _ are.written are.op_log (e ∙ are.memory)
        ∙ sym (append-nil (op_log_of source))

-- what the code of a state says behind the number of steps
abbrev content : {Machine Memory Place Form : Type 0} → (Memory → List (Option Place) → List ℕ)
    → State Machine Memory Place Form → FormContent (List ℕ)
content code state = record {
  form = code state.memory (places_of state.threads);
  replies = replies_of state.threads;
  notes = notes_of state.threads;
  astray = state.astray;
}

module _ {Machine Memory Place Form : Type 0} (naming : Naming) (own_code : Memory → List (Option Place) → List ℕ)
    (form_code : Form → List ℕ) (form_of : Memory → List (Option Place) → Form)
    (state : State Machine Memory Place Form) where
  -- a label whose pieces were appended one behind the other
  pub label_put : {threads : List (Thread Place)} {steps : ℕ} {none first second third lent copy : List ℕ}
      → threads ≡ state.threads → steps ≡ code_by naming state.steps 0 → none ≡ [] → first ≡ none ++ number_code steps
      → second ≡ first ++ op_log_code (replies_of threads) (notes_of threads) state.astray
      → third ≡ second ++ code_by naming (own_code state.memory (places_of threads))
      (form_code (form_of state.memory (places_of threads)))
      → lent ≡ third → copy ≡ lent → copy ≡ label_code naming own_code form_code form_of state
  label_put h k n f s t l p = grind (arith, append_assoc, label_is)

  -- a state that was read from the label of another has its memory from the code in that
  pub read_from : (rules : Rules Memory Place) (cut : Memory → List (Option Place) → List ℕ)
      (source : State Machine Memory Place Form) (memory : Memory) → AreNumbersInRange rules state
      → state_code cut source ≡ label_code naming own_code form_code form_of state → memory ≡ source.memory
      → IsReadFrom rules (λ memory held. code_by naming (own_code memory held) (form_code (form_of memory held))) cut
      memory
  read_from rules cut source memory range e same =
      let here = content cut source in
      let there =
      content (λ memory held. code_by naming (own_code memory held) (form_code (form_of memory held))) state in
      let steps =
      number_split source.steps (code_by naming state.steps 0) (content_code (λ l. l) here)
      (content_code (λ l. l) there) (e ∙ sym (label_is naming own_code form_code form_of state)) in
      let stated = content_readable (λ l. l) (λ a b h. h) here there steps.1 in
      let replies = ap (λ (c : FormContent (List ℕ)). length c.replies) (sym stated) in
      record {
        other = state.memory;
        held = places_of state.threads;
        twins = places_of source.threads;
        in_range = range.memory;
        places_in_range = range.places;
        many = simp length-map (simp length-map at replies);
        same = ap (λ m. cut m (places_of source.threads)) same ∙ ap (λ (c : FormContent (List ℕ)). c.form) stated;
      }

-- a label, and the places in it
pub ruleset label_pieces = (held_in_range, label_put)
