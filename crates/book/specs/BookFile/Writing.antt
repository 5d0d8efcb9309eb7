-- The lines that a book writes.
use Rattle.std.specs.Prelude.{◌≡◌, List, [], ◌∷◌, Option, Some}
use Rattle.std.specs.List.{AllZip}
use Rattle.sched_program.specs.declared.operation.OpId.{OpId}
use Rattle.book.specs.Entries.{Origin, Finding, Entry}
use Rattle.replay.specs.declared.finding.Finding.TheVariants as found
use Rattle.replay.specs.declared.file.line.BookLine.{BookLine}

-- the finding is sound, with this linearization
abbrev pub FindsOrder : Finding → List OpId → Type 0
FindsOrder (found.Sound linearization) order = linearization ≡ order
FindsOrder _ order = ⊥

-- the line of an entry with this origin and this finding: it has the parent, the thread and the linearization that was
-- found
pub record IsLineOf (origin : Option Origin) (finding : Finding) (line : BookLine) : Type 0 where
  pub step : origin ≡ Some (record { parent = line.parent; thread = line.thread })
  pub order : FindsOrder finding line.order

-- the lines of the entries after the first
abbrev pub AreLinesOf : {S : Type 0} → List (Entry S) → List BookLine → Type 0
AreLinesOf [] lines = lines ≡ []
AreLinesOf (start ∷ entries) lines = AllZip (λ entry line. IsLineOf entry.origin entry.finding line) entries lines
