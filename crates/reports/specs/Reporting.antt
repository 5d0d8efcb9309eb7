-- What a report says.
use Rattle.std.specs.Prelude.{◌≡◌, ℕ, List, length}
use Rattle.sched_program.specs.Program.{Program}
use Rattle.tree_machine.specs.Rules.{Rules}
use Rattle.tree_machine.specs.declared.state.State.{State}
use Rattle.book.specs.declared.book.Totals.{Totals}
use Rattle.book.specs.Entries.{Contents}
use Rattle.book.specs.Books.{CountsAsOne, totals_of}
use Rattle.replay.specs.Findings.{machine_of, IsFindingOf}
use Rattle.reports.specs.declared.answer.Answer.{Answer}
use Rattle.reports.specs.declared.answer.Share.{Share}
use Rattle.reports.specs.Due.{IsDue, IsSameVerdict}
use Rattle.reports.specs.Headline.{IsTrueOf}
use Rattle.reports.specs.Ledger.{ledger}
use Rattle.reports.specs.Reading.{TellsFirst, TellsClosed}
use Rattle.options.specs.Settings.{Settings}

-- the book is of the machine, the program, the limit and the merge that are asked for
pub record IsBookOf {X S : Type 0} (asked : X) (text : Program) (settings : Settings) (book : Contents X S) : Type
    0 where
  pub machine : book.machine ≡ asked
  pub program : book.program ≡ text
  pub limit : book.limit ≡ settings.limit
  pub merge : book.merge ≡ settings.merge

-- The answer is the due one and true of all schedules, and no other verdict is due; a reported fault is the first of
-- the book; the book is the one that is asked for, its totals are reported, and the workers' shares sum to them.
pub record IsReport {X Memory Place Form : Type 0} (rules : X → Rules Memory Place) (machine : X) (program : Program)
    (settings : Settings) (answer : Answer) (counts : Totals) (each : List Share)
    (book : Contents X (State X Memory Place Form)) : Type 0 where
  pub due : IsDue (machine_of {Machine = X} {Form = Form} (rules machine) program)
      (CountsAsOne (rules machine) settings.merge) (IsFindingOf (rules machine) program)
      settings.merge settings.steps settings.limit counts.entries answer
  pub only : (count : ℕ) (other : Answer)
      → IsDue (machine_of {Machine = X} {Form = Form} (rules machine) program)
      (CountsAsOne (rules machine) settings.merge) (IsFindingOf (rules machine) program)
      settings.merge settings.steps settings.limit count other
      → IsSameVerdict counts.entries answer count other
  pub headline : IsTrueOf X Form (rules machine) program answer
  pub first : TellsFirst (machine_of {Machine = X} {Form = Form} (rules machine) program) book.entries answer
  pub closed : TellsClosed book answer
  pub asked : IsBookOf machine program settings book
  pub totals : counts ≡ totals_of book
  pub shares : length each ≡ settings.workers
  pub sums : ledger each ≡ record { expanded = counts.expanded; entered = counts.entered; met = counts.met }
