-- The labels of a book, entry by entry.
use Rattle.std.proofs.Common.{◌≡◌, ℕ, Some, List, sym, slice_get, ◌∙◌}
use Rattle.std.proofs.lemmas.Option.{same_Some}
use Rattle.sched_program.specs.Program.{Program}
use Rattle.tree_machine.proofs.Lists.{map-get}
use Rattle.book.specs.Entries.{Contents, Entry, IsOwn, At}
use Rattle.book.specs.Labels.{AreKnownBy, Kept}

-- the label of an entry is that of its state
pub label_there : {S : Type 0} (label_of : S → List ℕ) (kept : Kept S) → AreKnownBy label_of kept
    → (i : ℕ) (e : Entry S) → At kept.entries i e → (label : List ℕ) → slice_get kept.labels i ≡ Some label
    → label ≡ label_of e.state
label_there {S} label_of kept known i e at label there =
    cc (there, known, map-get (λ (x : Entry S). label_of x.state) kept.entries i e at)

-- an entry's machine and state are its own
pub own_from : {X S : Type 0} (book : Contents X S) (i : ℕ) (e : Entry S) (x : X) (p : Program) (s r : S)
    → At book.entries i e → r ≡ e.state → x ≡ book.machine → p ≡ book.program → s ≡ r → IsOwn book i x p s
own_from book i e x p s r at state same_machine same_program same_state = record {
  machine = same_machine;
  program = same_program;
  source = λ d there. rw (← same_Some e d (sym at ∙ there)) (same_state ∙ state);
}
