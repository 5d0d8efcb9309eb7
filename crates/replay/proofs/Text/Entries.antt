-- Lines of entries that have been read, and those that are left.
use Rattle.std.proofs.Common.{◌≡◌, ◌≢◌, ℕ, ◌+◌, ◌<◌, List, [], ◌∷◌, ◌++◌, ◌∙◌, length, refl, sym, ap}
use Rattle.std.proofs.lemmas.List.{append_assoc, append-nil}
use Rattle.std.proofs.lemmas.Slice.Zip.{AllZip-long}
use Rattle.std.specs.List.{AllByRecursion, AllZip}
use Rattle.indexmap.proofs.SetLemmas.{AllZip-push}
use Rattle.replay.specs.declared.file.fault.CheckFault.TheVariants.{Form}
use Rattle.replay.specs.declared.file.line.BookLine.{BookLine}
use Rattle.replay.specs.Text.Files.{AreLines, IsEntryLine, IsEntryText, IsEntriesFault}
use Rattle.replay.proofs.Text.Cuts.{no_cut, next_line, no_line}
use Rattle.replay.proofs.Text.OneReading.{entries_formed}

-- a text without a space is no entry's line
pub no_pieces : (text : List ℕ) → AllByRecursion (λ b. b ≢ 32) text → ¬ IsEntryText text
no_pieces text none (line, is) =
    no_cut (λ b. b ≢ 32) text is.parent 32 ((48 + line.thread) ∷ 32 ∷ is.order) is.whole none
    (λ d. d refl)

-- the bytes are lines: first those of these entries, and then the rest
pub record HasReadLines (bytes : List ℕ) (lines : List BookLine) (rest : List ℕ) : Type 0 where
  pub done : List (List ℕ)
  pub ahead : List (List ℕ)
  pub whole : AreLines bytes (done ++ ahead)
  pub left : AreLines rest ahead
  pub each : AllZip IsEntryLine done lines
  pub bounded : length (done ++ ahead) < 2000000

pub lines_push : {bytes rest text tail : List ℕ} {lines : List BookLine} {line : BookLine}
    → HasReadLines bytes lines rest → rest ≡ text ++ 10 ∷ tail
    → AllByRecursion (λ b. b ≢ 10) text → IsEntryLine text line → HasReadLines bytes (lines ++ line ∷ []) tail
lines_push {text = text} {lines = lines} {line = line} has e bare is =
    let (later, split, left) = next_line has.left e bare in
    let same : has.done ++ has.ahead ≡ (has.done ++ text ∷ []) ++ later =
    (λ j. has.done ++ split j) ∙ sym (append_assoc has.done (text ∷ []) later) in
    record {
      done = has.done ++ text ∷ [];
      ahead = later;
      whole = rw same at has.whole;
      left = left;
      each = AllZip-push IsEntryLine has.done lines text line has.each is;
      bounded = rw same at has.bounded;
    }

pub lines_all : {bytes rest : List ℕ} {lines : List BookLine} → HasReadLines bytes lines rest
    → AllByRecursion (λ b. b ≢ 10) rest
    → (texts : List (List ℕ)) × AreLines bytes texts × AllZip IsEntryLine texts lines
lines_all has bare = (has.done, rw (no_line has.left bare, append-nil has.done) at has.whole, has.each)

pub lines_fault : {bytes rest text : List ℕ} {lines : List BookLine} (tail : List ℕ) → HasReadLines bytes lines rest
    → rest ≡ text ++ 10 ∷ tail
    → AllByRecursion (λ b. b ≢ 10) text → ¬ IsEntryText text → IsEntriesFault bytes (Form (length lines + 3))
lines_fault {text = text} {lines = lines} tail has e bare not =
    let (later, split, left) = next_line has.left e bare in (
      has.done,
      text,
      later,
      rw split at has.whole,
      entries_formed has.done lines has.each,
      not,
      ap (λ n. Form (n + 3)) (AllZip-long IsEntryLine has.done lines has.each),
    )
