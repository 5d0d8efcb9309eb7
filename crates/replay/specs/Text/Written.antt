-- The text that is written of a book file.
use Rattle.std.specs.Prelude.{ℕ, ◌<◌, ◌≤◌, List, ◌∷◌, ◌++◌, codes, All}
use Rattle.std.specs.Fmt.{decimal}
use Rattle.sched_program.specs.declared.operation.OpId.{OpId}
use Rattle.replay.specs.declared.file.line.BookLine.{BookLine}
use Rattle.replay.specs.Text.Files.{space, digit, order_text, IsName}

-- the first line of a file with this number of entries
unfoldable pub head_text : ℕ → List ℕ
head_text entries = codes "treesched book 1 entries " ++ decimal entries

-- the line of an entry after the first
unfoldable pub line_text : ℕ → ℕ → List OpId → List ℕ
line_text parent thread order = decimal parent ++ space ∷ digit thread ∷ space ∷ order_text order

-- a line that a file can have, as it is counted: no parent is greater than the most entries, and each thread and index
-- is one digit
pub record IsProper (line : BookLine) : Type 0 where
  pub parent : line.parent ≤ 2000000
  pub thread : line.thread < 10
  pub names : All IsName line.order
