-- Lists with no number twice.
use Rattle.std.proofs.Common.{◌≢◌, ℕ, ◌<◌, List, length, get_or, arith, AllPairs, ◌∙◌}
use Rattle.std.proofs.lemmas.List.{get_or_default}

pub pairs : (keys : List ℕ) → ((b a : ℕ) → b < length keys → a < b → get_or keys a 0 ≢ get_or keys b 0)
    → AllPairs (λ a b. a ≢ b) keys
pairs keys h a b d before below same =
    h b a below before (get_or_default keys a 0 d (omega arith) ∙ same ∙ get_or_default keys b d 0 below)
