-- Bytes are the text of the lines of one book at most, and one line at most is the first that is not in the form.
use Rattle.std.proofs.Common.{◌≡◌, ◌≢◌, ◌∙◌, ℕ, ◌+◌, ◌<◌, List, [], ◌∷◌, ◌++◌, length, refl, sym, arith, inl, inr}
use Rattle.std.proofs.lemmas.Slice.Zip.{AllZip-long}
use Rattle.std.proofs.lemmas.Str.Parse.{digit_from_value}
use Rattle.std.specs.List.{AllByRecursion, AllZip}
use Rattle.std.specs.Str.Parse.{AllDigits}
use Rattle.replay.specs.declared.file.line.BookLine.{BookLine}
use Rattle.replay.specs.Text.Files.{IsEntryLine, start_text, IsBookText, HasHead}
use Rattle.replay.specs.Text.Files.{IsEntryText, IsEntryMisformed, IsFirstMisformed}
use Rattle.replay.proofs.Either.{AtMostOne, one_of_either}
use Rattle.replay.proofs.Text.Cuts.{no_cut, one_cut, same_cut, same_lines}
use Rattle.replay.proofs.Text.Orders.{same_order}

-- no digit is a byte below 48, as a space or a line feed
pub digits_bare : (at : ℕ) → at < 48 → (text : List ℕ) → AllDigits 10 text → AllByRecursion (λ b. b ≢ at) text
digits_bare at below [] digits = tt
digits_bare at below (c ∷ text) digits = let range = digit_from_value c digits.0 in
    (omega arith, digits_bare at below text digits.1)

-- what comes before the first space of an entry's line is the parent's number, and what follows are the thread and the
-- order
pub entry_pieces : {text parent rest : List ℕ} {line : BookLine} → text ≡ parent ++ 32 ∷ rest
    → AllByRecursion (λ b. b ≢ 32) parent → (is : IsEntryLine text line)
    → (is.parent ≡ parent) × (rest ≡ (48 + line.thread) ∷ 32 ∷ is.order)
entry_pieces {text} {parent} {rest} {line} e none is =
    let same = one_cut 32 is.parent ((48 + line.thread) ∷ 32 ∷ is.order) parent rest (sym is.whole ∙ e)
    (digits_bare 32 (omega arith) is.parent is.is_number.digits.1) none in
    (same.0, sym same.1)

-- a text is that of one entry's line
same_entry_line : (text : List ℕ) (line other : BookLine) → IsEntryLine text line → IsEntryLine text other
    → line ≡ other
same_entry_line text line other is also =
    let same = entry_pieces also.whole (digits_bare 32 (omega arith) also.parent also.is_number.digits.1) is in
    let number : is.number ≡ also.number = cc (same.0, is.is_number.value, also.is_number.value) in
    let parents : line.parent ≡ other.parent = cc (number, is.counted, also.counted) in
    let digits : 48 + line.thread ≡ 48 + other.thread = cc (same.1) in
    let threads : line.thread ≡ other.thread = omega arith in
    let orders = same_order other.order line.order (cc (same.1, is.is_order.whole, also.is_order.whole)) in
    λ j. record { parent = parents j; thread = threads j; order = orders j }

same_entries : (texts : List (List ℕ)) (lines others : List BookLine) → AllZip IsEntryLine texts lines
    → AllZip IsEntryLine texts others → lines ≡ others
same_entries [] [] [] are also = refl
same_entries (text ∷ texts) (line ∷ lines) (other ∷ others) are also =
    cc (same_entry_line text line other are.0 also.0, same_entries texts lines others are.1 also.1)
same_entries _ _ _ are also = search

-- the texts after the head are determined
same_texts : {bytes : List ℕ} {texts others : List (List ℕ)} → HasHead bytes texts → HasHead bytes others
    → texts ≡ others
same_texts has also = cc (same_lines has.are_lines also.are_lines)

-- bytes are the text of the lines of one book at most
pub same_book : (bytes : List ℕ) (lines others : List BookLine)
    → IsBookText bytes lines → IsBookText bytes others
    → lines ≡ others
same_book bytes lines others is also =
    let same : is.texts ≡ also.texts = cc (same_texts is.has_head also.has_head) in
    same_entries also.texts lines others (rw same at is.each) also.each

-- a book has fewer lines after the start's than it may have entries
pub lines_bounded : (bytes : List ℕ) (lines : List BookLine) → IsBookText bytes lines → length lines < 2000000
lines_bounded bytes lines is =
    omega (arith, is.has_head.is_head.bounded, AllZip-long IsEntryLine is.texts lines is.each)

pub entries_formed : (texts : List (List ℕ)) (lines : List BookLine) → AllZip IsEntryLine texts lines
    → AllByRecursion IsEntryText texts
entries_formed [] lines are = tt
entries_formed (text ∷ texts) [] are = absurd are
entries_formed (text ∷ texts) (line ∷ lines) are = ((line, are.0), entries_formed texts lines are.1)

-- the text of a book has no line that is not in the form
pub not_both : (bytes : List ℕ) (lines : List BookLine) (number : ℕ) → IsBookText bytes lines
    → ¬ IsFirstMisformed bytes number
not_both bytes lines number is (inl head) = head.misformed (start_text ∷ is.texts) is.has_head
not_both bytes lines number is (inr (inl start)) =
    start.misformed (cc (same_texts is.has_head start.has_head))
not_both bytes lines number is (inr (inr entry)) =
    let texts : is.texts ≡ entry.earlier ++ entry.text ∷ entry.later =
    cc (same_texts is.has_head entry.has_head) in
    no_cut IsEntryText is.texts entry.earlier entry.text entry.later texts
    (entries_formed is.texts lines is.each) entry.misformed

entry_or_entry : (bytes : List ℕ) → AtMostOne (IsEntryMisformed bytes)
entry_or_entry bytes m n entry other =
    let texts : entry.earlier ++ entry.text ∷ entry.later ≡ other.earlier ++ other.text ∷ other.later =
    cc (same_texts entry.has_head other.has_head) in
    let cut = same_cut IsEntryText entry.earlier entry.text entry.later other.earlier other.text other.later texts
    entry.formed entry.misformed other.formed other.misformed in
    cc (cut.0)

-- one line at most is the first that is not in the form
pub same_misformed : (bytes : List ℕ) → AtMostOne (IsFirstMisformed bytes)
same_misformed bytes =
    one_of_either (λ m n head other. head.place ∙ sym other.place)
    (one_of_either (λ m n start other. start.place ∙ sym other.place) (entry_or_entry bytes)
    (λ m n start entry. start.misformed (cc (same_texts start.has_head entry.has_head))))
    (λ m n head other. elim other [
      | inl start ↦ head.misformed _ start.has_head
      | inr entry ↦ head.misformed _ entry.has_head
    ])
