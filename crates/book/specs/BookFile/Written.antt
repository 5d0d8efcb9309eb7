-- The text that a book writes.
use Rattle.std.specs.Prelude.{ℕ, ◌<◌, List}
use Rattle.replay.specs.declared.file.line.BookLine.{BookLine}
use Rattle.replay.specs.Text.Files.{IsBookText}
use Rattle.replay.specs.Text.Written.{IsProper}
use Rattle.book.specs.Entries.{Entry, At}
use Rattle.book.specs.BookFile.Writing.{IsLineOf, AreLinesOf}

-- each entry after the first has a line that can be written
abbrev pub AreWritable : {S : Type 0} → List (Entry S) → Type 0
AreWritable {S} entries = (i : ℕ) (e : Entry S) → At entries i e → 0 < i
    → (line : BookLine) × IsLineOf e.origin e.finding line × IsProper line

-- the text is that of a book file with the lines of the entries
pub record IsFileOf {S : Type 0} (entries : List (Entry S)) (text : List ℕ) : Type 0 where
  pub lines : List BookLine
  pub of_entries : AreLinesOf entries lines
  pub whole : IsBookText text lines
