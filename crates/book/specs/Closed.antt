-- Books in which every entry is expanded, and those whose every entry is sound.
use Rattle.std.specs.Prelude.{◌≡◌, ℕ, true, List}
use Rattle.book.specs.Entries.{Expanded, Entry, Contents, At}
use Rattle.options.specs.declared.options.Merge.TheVariants.{Names}
use Rattle.replay.specs.Findings.{is_sound}

-- no entry is open or taken
abbrev pub IsWorkedOut : {S : Type 0} → List (Entry S) → Type 0
IsWorkedOut {S} entries = (i : ℕ) (e : Entry S) → At entries i e → e.mark ≡ Expanded

-- the book merges by names, and no entry of it is open or taken
abbrev pub IsClosed : {X S : Type 0} → Contents X S → Type 0
IsClosed book = (book.merge ≡ Names) × IsWorkedOut book.entries

-- each entry is sound
abbrev pub AreSound : {S : Type 0} → List (Entry S) → Type 0
AreSound {S} entries = (i : ℕ) (e : Entry S) → At entries i e → is_sound e.finding ≡ true
