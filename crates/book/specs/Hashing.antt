-- Hashes of labels.
use Rattle.std.specs.Prelude.{ℕ, List, fold}
use Rattle.std.specs.Hash.FoldHasher.{initial, write, finish}

-- the hash of what is written into a hasher
unfoldable pub hash_of : List (List ℕ) → ℕ
hash_of input = finish (fold write initial input)
