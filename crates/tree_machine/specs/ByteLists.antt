-- Lists of bytes, hashed.
use Rattle.std.specs.Prelude.{ℕ, List, [], ◌∷◌, ◌++◌, ◌/◌, ◌*◌, length, drop}
use Rattle.std.specs.Simd.{first_chunks}

-- what is fed to a hash function: the bytes eight by eight, each eight in one write, and the rest in one more
abbrev pub bytes_input : List ℕ → List (List ℕ)
bytes_input bytes = first_chunks 8 (length bytes / 8) bytes ++ drop (length bytes / 8 * 8) bytes ∷ []
