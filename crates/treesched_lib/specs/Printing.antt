-- What was printed.
use Rattle.std.specs.Prelude.{◌≡◌, ◌+◌, ◌++◌, ◌⊎◌, ℕ, List, Option, None, IsSomeAnd, codes}
use Rattle.std.specs.Io.KnownBytes.{Appends}
use Rattle.std.specs.String.{string_bytes}
use Rattle.treesched_lib.specs.Devices.{BeginningWentOut}
use Rattle.treesched_lib.specs.Lines.{IsUnwritable, line_end}
use Rattle.treesched_lib.specs.declared.output.CountedWriter.{CountedWriter}
use Rattle.treesched_lib.specs.declared.serving.Output.{Output}

-- A writer, before and after some bytes were put into it: all went out; or a write failed or took no byte, and what
-- went out is a beginning of them.
module _ {W : Type 0} (contents : W → Option (List ℕ)) (before after : CountedWriter W) (bytes : List ℕ) where
  abbrev pub WentOut : Type 0
  WentOut = (after.failures ≡ before.failures) × Appends (contents before.writer) (contents after.writer) bytes

  abbrev pub WasCutOff : Type 0
  WasCutOff = (after.failures ≡ before.failures + 1)
      × BeginningWentOut (contents before.writer) (contents after.writer) bytes

  abbrev pub WasTried : Type 0
  WasTried = WentOut ⊎ WasCutOff

abbrev pub unwritable_text : List ℕ
unwritable_text = codes "treesched: can't write standard output" ++ line_end

-- All of the output went out, then its text for the standard error was tried, and the program ends with its status;
-- or the standard output was cut off, then a text that says so was tried on the standard error, and the status is 6.
abbrev pub IsPrinted : {W V : Type 0} → (W → Option (List ℕ)) → CountedWriter W → CountedWriter W
    → (V → Option (List ℕ)) → CountedWriter V → CountedWriter V → Output → ℕ → Type 0
IsPrinted contents out new_out error_contents err new_err output status =
    (WentOut contents out new_out (string_bytes output.out)
    × WasTried error_contents err new_err (string_bytes output.err) × (status ≡ output.status))
    ⊎ (WasCutOff contents out new_out (string_bytes output.out)
    × WasTried error_contents err new_err unwritable_text × (status ≡ 6))

-- the text went out whole, and there is no refusal; or it was cut off, and the refusal reports it
abbrev pub IsBookPut : {W : Type 0} → (W → Option (List ℕ)) → CountedWriter W → CountedWriter W → List ℕ → List ℕ
    → Option Output → Type 0
IsBookPut contents file new_file text name refusal =
    (WentOut contents file new_file text × (refusal ≡ None))
    ⊎ (WasCutOff contents file new_file text × IsSomeAnd refusal (IsUnwritable name))
