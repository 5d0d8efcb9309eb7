-- What is written line by line is a book's text.
use Rattle.std.proofs.Common.{◌≡◌, ◌≢◌, ℕ, zero, suc, ◌+◌, ◌<◌, ◌≤◌, ◌^◌, List, [], ◌∷◌, ◌++◌, ◌∙◌, length, map, get_or}
use Rattle.std.proofs.Common.{codes, refl, ap, arith}
use Rattle.std.proofs.lemmas.Fmt.{decimal_is_IsNumeral, first_decimal, decimal_digit}
use Rattle.std.proofs.lemmas.List.{map_push, length-map}
use Rattle.std.proofs.lemmas.List.Elements.{recursion_from_All}
use Rattle.std.specs.Fmt.{decimal}
use Rattle.std.specs.List.{All, AllByRecursion, AllZip}
use Rattle.sched_program.specs.declared.operation.OpId.{OpId}
use Rattle.replay.specs.declared.file.line.BookLine.{BookLine}
use Rattle.replay.specs.Text.Files.{ended, IsNumber, IsName, commaed, order_text, IsEntryLine, IsHead}
use Rattle.replay.specs.Text.Files.{start_text, IsBookText}
use Rattle.replay.specs.Text.Written.{head_text, line_text, IsProper}
use Rattle.replay.proofs.Text.Cuts.{all_append, ended_append}
use Rattle.replay.proofs.Text.Heads.{start_bare}
use Rattle.replay.proofs.Text.OneReading.{digits_bare}

abbrev pub text_of : BookLine → List ℕ
text_of line = line_text line.parent line.thread line.order

-- the head of a file with this number of entries, the line of the first, and these lines of entries after it
unfoldable pub book_text : ℕ → List BookLine → List ℕ
book_text entries lines = ended (head_text entries ∷ start_text ∷ map text_of lines)

-- what decimal writes is the number
is_number : (n : ℕ) → n < 2 ^ 64 → IsNumber (decimal n) n
is_number n small =
    let numeral = decimal_is_IsNumeral n small in
    record { digits = numeral.0; no_leading_zero = first n small; value = numeral.1 }
  where
    first : (n : ℕ) → n < 2 ^ 64 → get_or (decimal n) 0 0 ≡ 48 → length (decimal n) ≡ 1
    first zero small zero_first = ap length (decimal_digit 0 (omega arith))
    first (suc n) small zero_first = absurd (omega (arith, first_decimal (suc n) (omega arith) small))

is_head : (entries : ℕ) → 1 ≤ entries → entries ≤ 2000000 → IsHead (head_text entries) entries
unfolding head_text
is_head entries some bounded =
    record {
      number = decimal entries;
      is_number = is_number entries (omega arith);
      some = some;
      bounded = bounded;
      whole = refl;
    }

is_entry_line : (line : BookLine) → IsProper line → IsEntryLine (text_of line) line
unfolding line_text
is_entry_line line is = record {
  parent = decimal line.parent;
  number = line.parent;
  is_number = is_number line.parent (omega (arith, is.parent));
  counted = omega (arith, is.parent);
  thread = is.thread;
  order = order_text line.order;
  is_order = record { names = recursion_from_All IsName line.order is.names; whole = refl };
  whole = refl;
}

-- no digit, and no name, has a line feed
commaed_bare : (ids : List OpId) → AllByRecursion (λ b. b ≢ 10) (commaed ids)
commaed_bare [] = tt
commaed_bare (id ∷ ids) = (omega arith, (omega arith, (omega arith, (omega arith, commaed_bare ids))))

order_bare : (order : List OpId) → AllByRecursion (λ b. b ≢ 10) (order_text order)
order_bare [] = (omega arith, tt)
order_bare (id ∷ ids) = (omega arith, (omega arith, (omega arith, commaed_bare ids)))

entry_bare : (text : List ℕ) (line : BookLine) → IsEntryLine text line → AllByRecursion (λ b. b ≢ 10) text
entry_bare text line is =
    let order : AllByRecursion (λ b. b ≢ 10) is.order = rw is.is_order.whole (order_bare line.order) in
    rw is.whole (all_append (λ b. b ≢ 10) is.parent (32 ∷ (48 + line.thread) ∷ 32 ∷ is.order)
    (digits_bare 10 (omega arith) is.parent is.is_number.digits.1) (omega arith, (omega arith, (omega arith, order))))

head_bare : (entries : ℕ) → entries < 2 ^ 64 → AllByRecursion (λ b. b ≢ 10) (head_text entries)
unfolding head_text
head_bare entries small =
    all_append (λ b. b ≢ 10) (codes "treesched book 1 entries ") (decimal entries) (search arith)
    (digits_bare 10 (omega arith) (decimal entries) (is_number entries small).digits.1)

entries_each : (lines : List BookLine) → AllByRecursion IsProper lines → AllZip IsEntryLine (map text_of lines) lines
entries_each [] all = tt
entries_each (line ∷ lines) all = (is_entry_line line all.0, entries_each lines all.1)

entries_bare : (texts : List (List ℕ)) (lines : List BookLine) → AllZip IsEntryLine texts lines
    → AllByRecursion (AllByRecursion (λ b. b ≢ 10)) texts
entries_bare [] lines are = tt
entries_bare (text ∷ texts) [] are = absurd are
entries_bare (text ∷ texts) (line ∷ lines) are = (entry_bare text line are.0, entries_bare texts lines are.1)

-- the text of a book's lines is what is written of them
pub is_written : (lines : List BookLine) → All IsProper lines → length lines < 2000000
    → IsBookText (book_text (length lines + 1) lines) lines
unfolding book_text
is_written lines proper bounded =
    let each = entries_each lines (recursion_from_All IsProper lines proper) in
    let count : length (start_text ∷ map text_of lines) ≡ length lines + 1 = omega (arith, length-map lines text_of) in
    record {
      texts = map text_of lines;
      has_head = record {
        head = head_text (length lines + 1);
        are_lines = record {
          whole = refl;
          bare = (
            head_bare (length lines + 1) (omega arith),
            (start_bare, entries_bare (map text_of lines) lines each),
          );
        };
        is_head = rw count (is_head (length lines + 1) (omega arith) (omega arith));
      };
      each = each;
    }

-- one more line
pub written_push : (entries : ℕ) (lines : List BookLine) (line : BookLine)
    → book_text entries (lines ++ line ∷ []) ≡ book_text entries lines ++ ended (text_of line ∷ [])
unfolding book_text
written_push entries lines line =
    ap (λ (texts : List (List ℕ)). ended (head_text entries ∷ start_text ∷ texts)) (map_push text_of lines line)
    ∙ ended_append (head_text entries ∷ start_text ∷ map text_of lines) (text_of line ∷ [])

-- the head and the first entry's line
pub written_start : (entries : ℕ) → book_text entries [] ≡ ended (head_text entries ∷ []) ++ ended (start_text ∷ [])
unfolding book_text
written_start entries = ended_append (head_text entries ∷ []) (start_text ∷ [])
