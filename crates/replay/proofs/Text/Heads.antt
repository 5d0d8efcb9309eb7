-- The head of a book file, and what follows it.
use Rattle.std.proofs.Common.{◌≡◌, ◌≢◌, ℕ, ◌<◌, List, [], ◌∷◌, ◌++◌, ◌∙◌, length, codes, refl, sym, ap, arith}
use Rattle.std.proofs.Common.{◌+◌, ◌⊎◌, inl, inr}
use Rattle.std.proofs.lemmas.List.{append_cancel_left}
use Rattle.std.specs.List.{AllByRecursion, AllZip}
use Rattle.replay.specs.declared.file.fault.CheckFault.{CheckFault}
use Rattle.replay.specs.declared.file.fault.CheckFault.TheVariants.{OutOfMemory}
use Rattle.replay.specs.declared.file.line.BookLine.{BookLine}
use Rattle.replay.specs.Text.Files.{ended, AreLines, IsEntryLine, IsHead, start_text, HasHead, IsBookText}
use Rattle.replay.specs.Text.Files.{IsFirstMisformed, IsEntriesFault, IsFormFault}
use Rattle.replay.proofs.Text.Cuts.{next_line, same_lines}

-- a text is the head for one number of entries only
pub same_head : {text : List ℕ} {m n : ℕ} → IsHead text m → IsHead text n → m ≡ n
same_head is also =
    let same : is.number ≡ also.number =
    append_cancel_left (codes "treesched book 1 entries ") is.number also.number (sym is.whole ∙ also.whole) in
    cc (is.is_number.value, also.is_number.value)

-- the head comes before the first line feed
pub head_pieces : {bytes head rest : List ℕ} {texts : List (List ℕ)} → bytes ≡ head ++ 10 ∷ rest
    → AllByRecursion (λ b. b ≢ 10) head → HasHead bytes texts
    → IsHead head (length texts) × AreLines rest texts
head_pieces {head} {texts} e bare has =
    let (later, split, are) = next_line has.are_lines e bare in
    let same : has.head ≡ head = cc in
    let others : later ≡ texts = cc in
    (rw same at has.is_head, rw others at are)

pub start_bare : AllByRecursion (λ b. b ≢ 10) start_text
start_bare = search arith

-- what follows the start's line are lines, fewer than the most entries
pub after_start : {bytes rest tail : List ℕ} {texts : List (List ℕ)} → HasHead bytes texts → AreLines rest texts
    → rest ≡ start_text ++ 10 ∷ tail
    → (later : List (List ℕ)) × (texts ≡ start_text ∷ later) × AreLines tail later × (length later < 2000000)
after_start has are e =
    let (later, split, left) = next_line are e start_bare in
    (later, split, left, omega (arith, has.is_head.bounded, ap length split))

-- bytes with a head, the start's line and the lines of entries are a book's text
pub is_book : {bytes rest tail : List ℕ} {texts : List (List ℕ)} {lines : List BookLine} → HasHead bytes texts
    → AreLines rest texts → rest ≡ start_text ++ 10 ∷ tail
    → (others : List (List ℕ)) × AreLines tail others × AllZip IsEntryLine others lines → IsBookText bytes lines
is_book {texts} has are e (others, lie, each) =
    let (later, split, left, bounded) = after_start has are e in
    let same : texts ≡ start_text ∷ others = cc (split, same_lines left lie) in
    record { texts = others; has_head = rw same at has; each = each }

-- a fault of the lines after the start's is a fault of the bytes
pub entries_fault : {bytes rest tail : List ℕ} {texts : List (List ℕ)} (stated : CheckFault) → HasHead bytes texts
    → AreLines rest texts → rest ≡ start_text ++ 10 ∷ tail
    → (stated ≡ OutOfMemory) ⊎ IsEntriesFault tail stated → (stated ≡ OutOfMemory) ⊎ IsFormFault bytes stated
entries_fault stated has are e (inl memory) = inl memory
entries_fault {texts} stated has are e (inr (earlier, text, later, lie, formed, not, place)) =
    let (others, split, left, bounded) = after_start has are e in
    let same : texts ≡ start_text ∷ earlier ++ text ∷ later = cc (split, same_lines left lie) in
    inr (
      length earlier + 3,
      place,
      inr (inr (record {
        earlier = earlier;
        text = text;
        later = later;
        has_head = rw same at has;
        formed = formed;
        misformed = not;
        place = refl;
      })),
    )

-- where the start's line doesn't follow the head, the second line is the first that is not in the form
pub start_fault : {bytes rest : List ℕ} (texts : List (List ℕ)) → HasHead bytes texts → AreLines rest texts
    → ((tail : List ℕ) → rest ≢ start_text ++ 10 ∷ tail) → IsFirstMisformed bytes 2
start_fault [] has are none = absurd (omega (arith, has.is_head.some))
start_fault (text ∷ later) has are none =
    let differs : text ≢ start_text = λ same. none (ended later) (rw same at are.whole) in
    inr (inl (record { text = text; later = later; has_head = has; misformed = differs; place = refl }))
