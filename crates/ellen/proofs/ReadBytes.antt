-- The kinds of update words, in one byte.
use Rattle.std.proofs.Common.{◌≡◌, ℕ, ◌<◌, [], ◌∷◌, ap, sym, ◌∙◌, arith}
use Rattle.std.specs.Prelude.{Option, Some, None}
use Rattle.tree_machine.specs.Flat.{number_code}
use Rattle.tree_machine.specs.Laws.SmallCodes.{small_code}
use Rattle.ellen.specs.Types.{UpdateWord, Above}
use Rattle.ellen.specs.declared.memory.UpdateWord.TheVariants as word
use Rattle.ellen.specs.Parts.{word_number, above_number}

word_small : (u : UpdateWord) → word_number u < 5
word_small word.Untouched = omega arith
word_small u = omega arith

above_small : (a : Option Above) → above_number a < 6
above_small None = omega arith
above_small (Some a) = omega (arith, word_small a.update)

pub word_is : (u : UpdateWord) (byte : ℕ) → byte ≡ word_number u → number_code (word_number u) ≡ byte ∷ []
word_is u byte e = small_code (word_number u) (omega (arith, word_small u)) ∙ ap (λ b. b ∷ []) (sym e)

pub above_is : (a : Option Above) (byte : ℕ) → byte ≡ above_number a → number_code (above_number a) ≡ byte ∷ []
above_is a byte e = small_code (above_number a) (omega (arith, above_small a)) ∙ ap (λ b. b ∷ []) (sym e)
