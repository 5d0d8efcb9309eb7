-- When the lines of a book file pass, and what they are refused for.
use Rattle.std.specs.Prelude.{◌≡◌, ℕ, ◌+◌, ◌⊎◌, List, length}
use Rattle.sched_program.specs.Program.{Program}
use Rattle.tree_machine.specs.Rules.{Rules}
use Rattle.tree_machine.specs.Alike.{AreStatesAlike}
use Rattle.tree_machine.specs.declared.state.State.{State}
use Rattle.replay.specs.Closed.{AreClosed}
use Rattle.replay.specs.Findings.{machine_of}
use Rattle.replay.specs.declared.file.line.BookLine.{BookLine}
use Rattle.replay.specs.declared.file.fault.CheckFault.{CheckFault}
use Rattle.replay.specs.Text.Files.{IsBookText, IsFormFault}
use Rattle.replay.specs.BookFile.Replays.{AreReplayed, IsFirstAmiss}
use Rattle.replay.specs.BookFile.Closing.{IsFirstOpen}

module _ (Machine Form : Type 0) {Memory Place : Type 0} (rules : Rules Memory Place) (program : Program) where
  -- the lines describe states, each shown by its order, and no step leads out of them
  abbrev pub Pass : List BookLine → Type 0
  Pass lines = (states : List (State Machine Memory Place Form)) × AreReplayed rules program lines states
      × AreClosed (machine_of rules program) (AreStatesAlike rules) states

  -- something is amiss with an entry, and this is the first such fault; or nothing is, and this names the first entry
  -- with a step that leads out
  abbrev pub AreRefused : List BookLine → CheckFault → Type 0
  AreRefused lines fault =
      IsFirstAmiss Machine Form rules program lines fault
      ⊎ ((states : List (State Machine Memory Place Form)) × AreReplayed rules program lines states
      × IsFirstOpen rules program states fault)

  -- the bytes are a book file with `entries` entries, whose lines pass
  abbrev pub PassAs : List ℕ → ℕ → Type 0
  PassAs bytes entries = (lines : List BookLine) × IsBookText bytes lines × Pass lines × (entries ≡ length lines + 1)

  -- what bytes are refused for: their first line that is not in the form; or they are in it, and what their lines are
  -- refused for
  abbrev pub IsRefusedFor : List ℕ → CheckFault → Type 0
  IsRefusedFor bytes fault =
      IsFormFault bytes fault ⊎ ((lines : List BookLine) × IsBookText bytes lines × AreRefused lines fault)
