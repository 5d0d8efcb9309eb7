-- The lines of the entries of a lawful and sound book can be written.
use Rattle.std.proofs.Common.{◌≡◌, ℕ, ◌+◌, ◌<◌, ◌≤◌, not, false, is_some, Option, None, Some, List, [], ◌∷◌, ◌++◌, ◌∙◌}
use Rattle.std.proofs.Common.{length, position, take, All, true, refl, sym, ap, arith, IfSome, true≢false}
use Rattle.std.proofs.Common.{length-take-le}
use Rattle.std.proofs.lemmas.Bool.{not-false}
use Rattle.std.proofs.lemmas.List.{take_more}
use Rattle.std.proofs.lemmas.List.Elements.{All-nil, All-cons, All-push}
use Rattle.std.proofs.lemmas.Option.{get_or_from_slice_get, slice_get_within}
use Rattle.std.proofs.lemmas.Slice.Zip.{AllZip-long}
use Rattle.indexmap.proofs.SetLemmas.{AllZip-push}
use Rattle.sched_program.specs.declared.operation.OpId.{OpId}
use Rattle.sched_program.specs.declared.operation.Op.{Op}
use Rattle.sched_program.specs.History.{History, reply}
use Rattle.sched_program.specs.Program.{Program, IsWithinLimits, op_at}
use Rattle.sched_program.proofs.Histories.{op_limited}
use Rattle.tree_machine.specs.Rules.{Rules}
use Rattle.tree_machine.specs.History.{history_of}
use Rattle.tree_machine.specs.declared.state.State.{State}
use Rattle.lin.specs.Keys.{Keys, reply_on, keys_after}
use Rattle.lin.specs.Linearization.{GivesReplies}
use Rattle.lin.proofs.Lists.{IsSomeAnd-value}
use Rattle.replay.specs.declared.file.line.BookLine.{BookLine}
use Rattle.replay.specs.Text.Files.{ended, start_text, IsName}
use Rattle.replay.specs.Text.Written.{head_text, IsProper}
use Rattle.replay.proofs.Text.Printing.{text_of, book_text, is_written, written_push, written_start}
use Rattle.book.specs.Entries.{Finding, Entry, At}
use Rattle.replay.specs.declared.finding.Finding.TheVariants as found
use Rattle.book.specs.Closed.{AreSound}
use Rattle.replay.specs.Findings.{machine_of, IsFindingOf, is_sound}
use Rattle.book.specs.Law.{IsLawful}
use Rattle.replay.specs.Schedule.{IsMachine}
use Rattle.book.specs.BookFile.Writing.{FindsOrder, IsLineOf, AreLinesOf}
use Rattle.book.specs.BookFile.Written.{AreWritable, IsFileOf}
use Rattle.book.proofs.Next.{first_passes, none_passes}

-- the operations of an order that gives replies have small names
given_names : (program : Program) → IsWithinLimits program → (history : History) (keys : Keys) (order : List OpId)
    → GivesReplies program history keys order → All IsName order
given_names program limits history keys [] given = All-nil IsName
given_names program limits history keys (a ∷ rest) given =
    let op =
    IsSomeAnd-value (op_at program a.thread a.index)
    (λ (o : Op). IfSome (reply history a) (λ r. r ≡ reply_on o keys)
    × GivesReplies program history (keys_after o keys) rest) given in
    let small = op_limited program limits a.thread a.index op.0 op.1 in
    All-cons IsName a rest (record { thread = omega (arith, small.0); index = omega (arith, small.1) })
    (given_names program limits history (keys_after op.0 keys) rest op.2.1)

module _ {Machine Memory Place Form : Type 0} (rules : Rules Memory Place) (program : Program)
    (limits : IsWithinLimits program) where
  -- a sound finding has an order with such names
  found_names : (s : State Machine Memory Place Form) (f : Finding) → IsFindingOf rules program s f → is_sound f ≡ true
      → (order : List OpId) × FindsOrder f order × All IsName order
  found_names s (found.Sound linearization) right sound =
      (linearization, refl, given_names program limits (history_of s) _ linearization right.2.replies)
  found_names s _ right sound = absurd (true≢false (sym sound))

  pub writable : (Same : State Machine Memory Place Form → State Machine Memory Place Form → Type 0)
      → IsMachine (machine_of {Machine = Machine} {Form = Form} rules program)
      → (es : List (Entry (State Machine Memory Place Form)))
      → IsLawful (machine_of rules program) Same (IsFindingOf rules program) es → length es ≤ 2000000 → AreSound es
      → AreWritable es
  writable Same machine es law bounded sound i e at some =
      let from = law.origins i e at some in
      let named = found_names e.state e.finding (law.findings i e at) (sound i e at) in (
        record { parent = from.origin.parent; thread = from.origin.thread; order = named.0 },
        record { step = from.recorded; order = named.1 },
        record {
          parent = omega (arith, from.earlier, slice_get_within es i e at);
          thread = omega (
            arith,
            limits.thread_count,
            machine.is_thread from.parent.state e.state from.origin.thread from.step,
          );
          names = named.2;
        },
      )

-- one more line
pub lines_push : {S : Type 0} (es : List (Entry S)) (lines : List BookLine) (e : Entry S) (line : BookLine)
    → 1 ≤ length es → AreLinesOf es lines → IsLineOf e.origin e.finding line
    → AreLinesOf (es ++ e ∷ []) (lines ++ line ∷ [])
lines_push [] lines e line some are is = absurd (omega arith)
lines_push {S} (start ∷ es) lines e line some are is =
    AllZip-push (λ (entry : Entry S) line. IsLineOf entry.origin entry.finding line) es lines e line are is

-- there is one line less than entries
pub lines_count : {S : Type 0} (es : List (Entry S)) (lines : List BookLine) → 1 ≤ length es → AreLinesOf es lines
    → length es ≡ length lines + 1
lines_count [] lines some are = absurd (omega arith)
lines_count {S} (start ∷ es) lines some are =
    let e = AllZip-long (λ (entry : Entry S) line. IsLineOf entry.origin entry.finding line) es lines are in omega arith

-- the text is that of a head with this number of entries, and of the lines of the entries
pub record HasWritten {S : Type 0} (count : ℕ) (es : List (Entry S)) (text : List ℕ) : Type 0 where
  pub lines : List BookLine
  pub of_entries : AreLinesOf es lines
  pub proper : All IsProper lines
  pub whole : text ≡ book_text count lines

-- the line of the next entry is added
pub written_next : {S : Type 0} (count : ℕ) (es : List (Entry S)) (i : ℕ) (e : Entry S) (line : BookLine)
    (text more : List ℕ) → At es i e → 0 < i → IsLineOf e.origin e.finding line → IsProper line
    → more ≡ text ++ ended (text_of line ∷ []) → HasWritten count (take i es) text
    → HasWritten count (take (i + 1) es) more
written_next count es i e line text more at some is proper added so =
    let within : i < length es = slice_get_within es i e at in
    let longer = rw (get_or_from_slice_get es i e e at) at (take_more es i e within) in
    record {
      lines = so.lines ++ line ∷ [];
      of_entries = rw longer (lines_push (take i es) so.lines e line
          (omega (arith, length-take-le i es (omega arith))) so.of_entries is);
      proper = All-push IsProper so.lines line so.proper proper;
      whole = rw (added, so.whole) (sym (written_push count so.lines line));
    }

-- a head and the line of the first entry
pub written_none : {S : Type 0} (count : ℕ) (es : List (Entry S)) (empty head text : List ℕ) → empty ≡ []
    → head ≡ empty ++ ended (head_text count ∷ []) → text ≡ head ++ ended (start_text ∷ [])
    → HasWritten count (take 1 es) text
written_none {S} count es empty head text is_empty is_head is = record {
  lines = [];
  of_entries = none es;
  proper = All-nil IsProper;
  whole = rw (is, is_head, is_empty) (sym (written_start count));
}
  where
    none : (fs : List (Entry S)) → AreLinesOf (take 1 fs) []
    none [] = refl
    none (f ∷ fs) = tt

-- all lines are written
pub written_all : {S : Type 0} (es : List (Entry S)) (text : List ℕ) → 1 ≤ length es → length es ≤ 2000000
    → HasWritten (length es) es text → IsFileOf es text
written_all es text some bounded so =
    let count : length es ≡ length so.lines + 1 = lines_count es so.lines some so.of_entries in
    record {
      lines = so.lines;
      of_entries = so.of_entries;
      whole = rw (so.whole, count) (is_written so.lines so.proper (omega arith));
    }

-- where no entry is the first that is not sound, all are sound
pub all_sound : {S : Type 0} (es : List (Entry S)) (o : Option ℕ) → o ≡ position (λ e. not (is_sound e.finding)) es
    → is_some o ≡ false → AreSound es
all_sound es None is none i e at =
    not-false (is_sound e.finding) (none_passes (λ (r : Entry _). not (is_sound r.finding)) es (sym is) i e at)
all_sound es (Some k) is none i e at = absurd (true≢false none)

-- and where one is, not all are
pub one_unsound : {S : Type 0} (es : List (Entry S)) (o : Option ℕ) → o ≡ position (λ e. not (is_sound e.finding)) es
    → is_some o ≡ true → AreSound es → ⊥
one_unsound es None is some sound = true≢false (sym some)
one_unsound {S} es (Some i) is some sound =
    let f = first_passes (λ (r : Entry S). not (is_sound r.finding)) es i (sym is) in
    true≢false (sym f.2 ∙ ap not (sound i f.0 f.1))
