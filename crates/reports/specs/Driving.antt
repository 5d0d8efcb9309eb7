-- What an exploration keeps as it goes on.
use Rattle.std.specs.Prelude.{◌≡◌, ℕ, ◌+◌, List, length, count_by}
use Rattle.book.specs.Entries.{Entry, Contents, is_expanded}
use Rattle.book.specs.Layers.{IsShallow, IsThrough, NoneTaken}
use Rattle.reports.specs.declared.answer.Share.{Share}
use Rattle.reports.specs.Reading.{IsFresh}

-- layer d is being expanded: the entries before it are, those up to it are sound, none of the next layer is expanded,
-- and no layer after that is begun
pub record IsInLayer {S : Type 0} (steps : S → ℕ) (entries : List (Entry S)) (d : ℕ) : Type 0 where
  pub none_taken : NoneTaken entries
  pub through : IsThrough steps entries d
  pub fresh : IsFresh steps entries (d + 1)
  pub shallow : IsShallow steps entries (d + 1)

-- the share counts what is in the book
pub record IsLedgerOf {X S : Type 0} (book : Contents X S) (share : Share) : Type 0 where
  pub expanded : share.expanded ≡ count_by (λ e. is_expanded e.mark) book.entries
  pub entered : share.entered + 1 ≡ length book.entries
  pub met : share.met ≡ book.met

-- the book is still of the same machine, program, merge and limit
pub record IsKept {X S : Type 0} (old new : Contents X S) : Type 0 where
  pub machine : new.machine ≡ old.machine
  pub program : new.program ≡ old.program
  pub merge : new.merge ≡ old.merge
  pub limit : new.limit ≡ old.limit
