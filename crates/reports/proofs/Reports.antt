-- A report on a book that its answer was read off.
use Rattle.std.proofs.Common.{◌≡◌, ℕ, List, length, arith}
use Rattle.sched_program.specs.Program.{Program}
use Rattle.tree_machine.specs.Rules.{Rules}
use Rattle.tree_machine.specs.declared.state.State.{State}
use Rattle.book.specs.declared.book.Totals.{Totals}
use Rattle.replay.specs.Schedule.{IsDecided, IsMachine}
use Rattle.book.specs.Entries.{Contents}
use Rattle.book.specs.Books.{CountsAsOne, machine_in, right_in, totals_of}
use Rattle.reports.specs.declared.answer.Answer.{Answer}
use Rattle.reports.specs.declared.answer.Share.{Share}
use Rattle.options.specs.Settings.{Settings}
use Rattle.reports.specs.Driving.{IsLedgerOf}
use Rattle.reports.specs.Due.{IsDue, IsSameVerdict}
use Rattle.reports.specs.Ledger.{ledger}
use Rattle.reports.specs.Reading.{IsReadOff}
use Rattle.reports.specs.Reporting.{IsBookOf, IsReport}
use Rattle.reports.proofs.Verdicts.{one_verdict}

-- shares that count what stands in a book sum to its totals
sums_to : {X S : Type 0} (book : Contents X S) (each : List Share) → IsLedgerOf book (ledger each)
    → ledger each ≡ record {
      expanded = (totals_of book).expanded;
      entered = (totals_of book).entered;
      met = (totals_of book).met;
    }
sums_to book each counts =
    let entered : (ledger each).entered ≡ (totals_of book).entered = omega (arith, counts.entered) in
    rw (counts.expanded, entered, counts.met)

module _ {X Memory Place Form : Type 0} (rules : X → Rules Memory Place) (machine : X) (program : Program)
    (settings : Settings) (book : Contents X (State X Memory Place Form)) (keeps : IsMachine (machine_in rules book))
    (test : IsDecided (machine_in rules book) (CountsAsOne (rules book.machine) book.merge)) where
  -- the answer is due of the book
  abbrev IsDueIn : ℕ → Answer → Type 0
  IsDueIn =
      IsDue (machine_in rules book) (CountsAsOne (rules book.machine) book.merge) (right_in rules book) book.merge
      settings.steps book.limit

  -- and so is no other verdict
  only_here : (answer : Answer) → IsDueIn (length book.entries) answer → (count : ℕ) (other : Answer)
      → IsDueIn count other → IsSameVerdict (length book.entries) answer count other
  only_here answer due count other also =
      one_verdict keeps test (right_in rules book) book.merge settings.steps book.limit (length book.entries) count
      answer other due also

  -- what was read off the book that was asked for makes a report
  pub reported : (read : Contents X (State X Memory Place Form)) (answer : Answer) (counts : Totals)
      (each : List Share)
      → IsBookOf machine program settings book → IsReadOff rules book settings.steps answer
      → read ≡ book → counts ≡ totals_of read → length each ≡ settings.workers → IsLedgerOf book (ledger each)
      → IsReport rules machine program settings answer counts each read
  reported read answer counts each asked off same totals workers sums =
      let all : counts ≡ totals_of book = rw same at totals in
      record {
        due = rw all (rw (asked.machine, asked.program, asked.merge, asked.limit) at off.due);
        only = rw all
            (rw (asked.machine, asked.program, asked.merge, asked.limit) at (only_here answer off.due));
        headline = rw (asked.machine, asked.program) at off.headline;
        first = rw same (rw (asked.machine, asked.program) at off.first);
        closed = rw same off.closed;
        asked = rw same asked;
        totals = totals;
        shares = workers;
        sums = rw all (sums_to book each sums);
      }
