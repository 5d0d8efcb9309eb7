-- What holds at the end of clap's walk over the words where it finds no fault on the way.
use Rattle.std.proofs.Common.{inl, inr, ◌≡◌, ◌&&◌, ℕ, Bool, cond, codes, true, false, not, refl, zero, suc, List, []}
use Rattle.std.proofs.Common.{◌∷◌, length, drop, Option, Some, None, is_some}
use Rattle.std.specs.Prelude.{⊤, IfSome, encode_utf8, fold, slice_get}
use Rattle.std.specs.Option.{option_map_or}
use Rattle.std.specs.Str.{bytes_eq, chars}
use Rattle.std.proofs.lemmas.Bool.{cases_Bool, cond_both}
use Rattle.clap.specs.Faults.{bundle_fault, bundle_step_fault, flag_word_fault, flags_fault, long_fault, option_fault}
use Rattle.clap.specs.Faults.{other_fault, positional_fault, react_fault, settle_fault, short_fault, step_fault}
use Rattle.clap.specs.Faults.{stray_fault, turn_fault, use_fault, walk_fault, word_fault}
use Rattle.clap.specs.Kinds.{Kinds, or_else}
use Rattle.clap.specs.Lexer.{long_of, short_of}
use Rattle.clap.specs.Simple.{Shape}
use Rattle.clap.specs.Walk.{Held, Names, Outcome, Rule, Step, Text, Waiting, Walk, after_flag, after_step, arg_by_id}
use Rattle.clap.specs.Walk.{arg_by_index, arg_by_long, arg_by_short, attached_value, bundle, bundle_met, bundle_step}
use Rattle.clap.specs.Walk.{done, flag_met, has_long, has_short, is_pending, long_met, long_or_other, next}
use Rattle.clap.specs.Walk.{option, option_met, option_word, plain, plain_word, reacted, settled}
use Rattle.clap.specs.Walk.{short_met, short_or_plain, subcommand, subcommand_met, subcommand_or_other, takes_several}
use Rattle.clap.specs.Walk.{takes_values, to_positional, trailing, value, waits, walked, walked_from, word_met}
use Rattle.clap.specs.declared.error.kind.ErrorKind.TheVariants as kind
use Rattle.words.proofs.Accepted.{AreRegular, IsRegular, Keeps, Suit, found, none_of, none_where, settled_suit}
use Rattle.words.proofs.Accepted.{used_suits}

-- ---- one word

-- the step enters no subcommand but one for which the test fails
abbrev pub StepPasses : (Text → Bool) → Step → Type 0
StepPasses p (subcommand name) = p name ≡ false
StepPasses p _ = ⊤

-- what a word is, before it goes to a positional: its rows suit, and its step passes
pub record IsMet (c : List Rule) (p : Text → Bool) (m : Held × Step) : Type 0 where
  pub rows : Suit c m.0.rows
  pub step : StepPasses p m.1

module _ (c : List Rule) (p : Text → Bool) where
  plain_met : (waiting : Waiting) (word : Text) (h : Held) → Suit c h.rows → IsMet c p (plain_word c waiting word h)
  plain_met (option id) word h suit = record { rows = go (arg_by_id c id); step = tt }
    where
      go : (o : Option Rule) → Suit c (option_word o id word h).0.rows
      go None = suit
      go (Some a) = suit
  plain_met waiting word h suit = record { rows = suit; step = tt }

  after_met : (waiting : Waiting) (word : Text) (h : Held) (out : Outcome) → Suit c h.rows
      → IsMet c p (after_flag c waiting word h out)
  after_met waiting word h done suit = record { rows = suit; step = tt }
  after_met waiting word h (waits id) suit = record { rows = suit; step = tt }
  after_met waiting word h out suit = plain_met waiting word h suit

module _ (c : List Rule) (again : Bool) (regular : AreRegular c) where
  react_suits : (a : Rule) → IsRegular c a → (values : List Text) (h : Held)
      → Keeps c (react_fault c again a values h) h.rows (reacted c a values h).rows
  react_suits a own values h none suit =
      let each = none_of (settle_fault c again h) (use_fault again a values (settled c h).rows) none in
      used_suits c again a own values (settled c h).rows each.1 (settled_suit c again regular h each.0 suit)

  option_suits : (a : Rule) → IsRegular c a → (v : Option Text) (h : Held)
      → Keeps c (option_fault c again a v h) h.rows (option_met c a v h).0.rows
  option_suits a own (Some v) h none suit = react_suits a own (v ∷ []) h none suit
  option_suits a own None h none suit = settled_suit c again regular h none suit

  long_suits : (o : Option Rule) → ((a : Rule) → o ≡ Some a → IsRegular c a) → (v : Option Text) (h : Held)
      → Keeps c (long_fault c again o v h) h.rows (long_met c o v h).0.rows
  long_suits None own v h none suit = suit
  long_suits (Some a) own v h none suit = go (takes_values a) v none
    where
      go : (b : Bool) (v : Option Text) → cond b (option_fault c again a v h)
          (cond (is_some v) (kind.TooManyValues ∷ []) (react_fault c again a [] h)) ≡ []
          → Suit c (cond b (option_met c a v h) (flag_met c a v h)).0.rows
      go true v none = option_suits a (own a refl) v h none suit
      go false (Some v) none = suit
      go false None none = react_suits a (own a refl) [] h none suit

  short_suits : (o : Option Rule) → ((a : Rule) → o ≡ Some a → IsRegular c a) → (rest : Text) (h : Held)
      (more : Held → Kinds) (onward : Held → Held × Outcome) → ((g : Held) → Keeps c (more g) g.rows (onward g).0.rows)
      → Keeps c (short_fault c again o rest h more) h.rows (short_met c o rest h onward).0.rows
  short_suits None own rest h more onward later none suit = suit
  short_suits (Some a) own rest h more onward later none suit =
      elim (cases_Bool (takes_values a)) [
        | inl holds ↦ rw holds (option_suits a (own a refl) (attached_value rest) h (rw holds at none) suit)
        | inr fails ↦ (
            let each = none_of (react_fault c again a [] h) (more (reacted c a [] h)) (rw fails at none) in
            rw fails (later (reacted c a [] h) each.1 (react_suits a (own a refl) [] h each.0 suit)))
      ]

  flags_suit : (k : ℕ) (flags : Text) (skip : ℕ) (so_far : Outcome) (h : Held)
      → Keeps c (flags_fault c again k flags skip h) h.rows (bundle_met c k flags skip so_far h).0.rows
  unfolding flags_fault bundle_met
  flags_suit zero flags skip so_far h none suit = suit
  flags_suit (suc k) flags skip so_far h none suit = step (slice_get (chars flags) 0) skip none (flags_suit k)
    where
      step : (o : Option ℕ) (skip : ℕ) → bundle_step_fault c again o flags skip h (flags_fault c again k) ≡ []
          → ((flags : Text) (skip : ℕ) (so_far : Outcome) (h : Held)
          → Keeps c (flags_fault c again k flags skip h) h.rows (bundle_met c k flags skip so_far h).0.rows)
          → Suit c (bundle_step c o flags skip so_far h (bundle_met c k)).0.rows
      step None skip none later = suit
      step (Some x) zero none later =
          let rest = drop (length (encode_utf8 x)) flags in
          short_suits (arg_by_short c x) (found c regular (λ r. not (is_some r.index) && has_short r x)) rest h
          (flags_fault c again k rest 0) (bundle_met c k rest 0 done) (later rest 0 done) none suit
      step (Some x) (suc skip) none later = later (drop (length (encode_utf8 x)) flags) skip so_far h none suit

  -- a word that is no subcommand and no `--`
  other_met : (p : Text → Bool) (o : Option (Text × Option Text)) (waiting : Waiting) (word : Text) (h : Held)
      → flag_word_fault c again o word h ≡ [] → Suit c h.rows → IsMet c p (long_or_other c waiting word o h)
  other_met p (Some q) waiting word h none suit =
      after_met c p waiting word _ (long_met c (arg_by_long c q.0) q.1 h).1 (long_suits (arg_by_long c q.0)
      (found c regular (λ r. not (is_some r.index) && has_long r q.0)) q.1 h none suit)
  other_met p None waiting word h none suit = go (short_of word) none
    where
      go : (o : Option Text) → option_map_or (λ flags. bundle_fault c again flags h) o [] ≡ []
          → IsMet c p (short_or_plain c waiting word o h)
      go None none = plain_met c p waiting word h suit
      go (Some flags) none =
          after_met c p waiting word _ (bundle c flags h).1
          (flags_suit (length flags) flags h.skip plain (record h { skip = 0 }) none suit)

-- ---- the walk

-- the word calls for help, as a subcommand
abbrev pub is_help : Shape → Text → Bool
is_help s name = bytes_eq name (codes "help") && not s.disable_help_subcommand

module _ (s : Shape) (regular : AreRegular s.rules) where
  -- the rows suit, and the subcommand that was met is not `help`
  pub record Stands (w : Walk) : Type 0 where
    pub rows : Suit s.rules w.held.rows
    pub stopped : IfSome w.stopped (λ q. is_help s q.0 ≡ false)

  word_stands : (o : Option Text) (waiting : Waiting) (position : ℕ) (word : Text) (h : Held)
      → other_fault s o word h ≡ [] → Suit s.rules h.rows
      → IsMet s.rules (is_help s) (subcommand_or_other s.rules o waiting position word h)
  word_stands (Some name) waiting position word h none suit =
      record { rows = suit; step = none_where (is_help s name) kind.DisplayHelp (kind.InvalidSubcommand ∷ []) none }
  word_stands None waiting position word h none suit =
      elim (cases_Bool (bytes_eq word (45 ∷ 45 ∷ []))) [
        | inl holds ↦ rw holds (record { rows = suit; step = tt })
        | inr fails ↦ rw fails (other_met s.rules s.args_override_self regular (is_help s) (long_of word) waiting word h
            (rw fails at none) suit)
      ]

  step_stands : (w : Walk) (word : Text) → w.stopped ≡ None → (h : Held) (step : Step)
      → step_fault s w.position h step ≡ []
      → Suit s.rules h.rows → StepPasses (is_help s) step → Stands (after_step s.rules word w h step)
  step_stands w word going h (next waiting) none suit passes = record { rows = suit; stopped = rw going tt }
  step_stands w word going h (trailing position) none suit passes = record { rows = suit; stopped = rw going tt }
  step_stands w word going h (subcommand name) none suit passes = record { rows = suit; stopped = passes }
  step_stands w word going h value none suit passes = go (arg_by_index s.rules w.position) none
    where
      go : (o : Option Rule) → option_map_or (λ a. positional_fault s.rules s.args_override_self a h) o (stray_fault s)
          ≡ []
          → Stands (to_positional s.rules o word w h)
      go None none = record { rows = suit; stopped = rw going tt }
      go (Some a) none = record {
        rows = cond_both (is_pending a h.pending && takes_several a) h (settled s.rules h) (λ g. Suit s.rules g.rows)
            (λ _. suit) (λ fails. settled_suit s.rules s.args_override_self regular h (rw fails at none) suit);
        stopped = tt;
      }

  walked_stands : (names : Names) (w : Walk) (word : Text) → turn_fault s names w word ≡ [] → Stands w
      → Stands (walked s.rules names w word)
  unfolding walked
  walked_stands names w word none stands = go w.stopped refl none
    where
      go : (o : Option (Text × List Text)) → w.stopped ≡ o
          → cond (is_some o) [] (or_else (word_fault s names w.is_trailing w.waiting word w.held)
          (step_fault s w.position (word_met s.rules names w.is_trailing w.waiting w.position word w.held).0
          (word_met s.rules names w.is_trailing w.waiting w.position word w.held).1)) ≡ []
          → Stands (walked_from s.rules names o w word)
      go (Some q) is none =
          let was : IfSome (Some q) (λ q. is_help s q.0 ≡ false) = rw is at stands.stopped in
          record { rows = stands.rows; stopped = was }
      go None is none =
          let met = word_met s.rules names w.is_trailing w.waiting w.position word w.held in
          let each = none_of (word_fault s names w.is_trailing w.waiting word w.held) _ none in
          let other = subcommand_met names w.waiting word in
          let m = cond_both w.is_trailing (w.held, value)
          (subcommand_or_other s.rules other w.waiting w.position word w.held) (IsMet s.rules (is_help s))
          (λ _. record { rows = stands.rows; step = tt })
          (λ fails. word_stands other w.waiting w.position word w.held (rw fails at each.0) stands.rows) in
          step_stands w word is met.0 met.1 each.1 m.rows m.step

  pub walk_stands : (names : Names) (words : List Text) (w : Walk) → walk_fault s names w words ≡ [] → Stands w
      → Stands (fold (walked s.rules names) w words)
  unfolding walk_fault
  walk_stands names [] w none stands = stands
  walk_stands names (word ∷ rest) w none stands =
      let each = none_of (turn_fault s names w word) (walk_fault s names (walked s.rules names w word) rest) none in
      walk_stands names rest (walked s.rules names w word) each.1 (walked_stands names w word each.0 stands)
