-- How the program ends.
use Rattle.std.specs.Prelude.{◌≡◌, ◌++◌, ℕ, List, Option, Result, Ok, Err, codes}
use Rattle.treesched_lib.specs.Lines.{line_end}
use Rattle.treesched_lib.specs.Printing.{IsPrinted, WasTried}
use Rattle.treesched_lib.specs.declared.output.CountedWriter.{CountedWriter}
use Rattle.treesched_lib.specs.declared.serving.Output.{Output}

abbrev pub out_of_memory_text : List ℕ
out_of_memory_text = codes "treesched: out of memory" ++ line_end

-- The answer's output is printed, and the status is that of printing it; or memory ran out: then a text that says so is
-- tried on the standard error, nothing goes to the standard output, and the status is 5.
abbrev pub IsEnded : {W V E : Type 0} → (W → Option (List ℕ)) → CountedWriter W → CountedWriter W
    → (V → Option (List ℕ)) → CountedWriter V → CountedWriter V → Result Output E → ℕ → Type 0
IsEnded contents out new_out error_contents err new_err (Ok output) status =
    IsPrinted contents out new_out error_contents err new_err output status
IsEnded contents out new_out error_contents err new_err (Err _) status =
    (new_out ≡ out) × WasTried error_contents err new_err out_of_memory_text × (status ≡ 5)
