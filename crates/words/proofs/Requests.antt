-- What is read of the words: the request, or the fault, of the subcommand that clap met, and the values of its matches.
use Rattle.std.proofs.Common.{◌≡◌, ◌∙◌, List, [], refl, sym, true, inl, inr, ◌<◌, ◌^◌, ◌↔◌, ℕ, Bool, ap, subst, codes}
use Rattle.std.proofs.Common.{false}
use Rattle.std.specs.Prelude.{Option, Some, None, Result, Ok, Err, MatchResult, option_map, MatchOption}
use Rattle.clap.specs.Words.{App, HasKind, is_simple_and_free, kind_of, HasMatchesOf, Row, Text, fault_of}
use Rattle.clap.specs.Words.{subcommand_name_of, subcommand_rows_of, ReadsOne, one_of}
use Rattle.clap.specs.declared.error.Error.{Error}
use Rattle.clap.specs.declared.error.kind.ErrorKind.TheVariants as kind
use Rattle.clap.specs.declared.parser.matches.ArgMatches.{ArgMatches}
use Rattle.clap.specs.declared.parser.matches.ArgMatches.TheViews.{out-ArgMatches}
use Rattle.words.specs.Command.{IsCommandLine, command_line}
use Rattle.words.specs.Reading.{AreRead, AreRefused, AskFor, IsFaultOf, IsRequestOf, Tells, IsUsed, NumberIs}
use Rattle.words.specs.declared.request.Request.{Request}
use Rattle.words.specs.declared.request.WordsFault.{WordsFault}
use Rattle.words.specs.declared.request.WordsFault.TheVariants as fault
use Rattle.std.specs.Option.{option_eq}
use mathlib.Core.Bool.{beq}
use Rattle.std.specs.Str.Parse.{ParsesBool, ParsesUnsigned}

both : {B X Y : Type 0} (g : B → X × Y) (o : Option B) {x : X} {y : Y} → Some x ≡ option_map (λ b. (g b).0) o
    → Some y ≡ option_map (λ p. p.1) (option_map g o) → option_map g o ≡ Some (x, y)
both g None n r = cc
both g (Some b) {x} {y} n r = let first : x ≡ (g b).0 = cc in let second : y ≡ (g b).1 = cc in rw (first, second) refl

pub read : (words : List Text) (app : App) → IsCommandLine app → (m : ArgMatches) → HasMatchesOf app words m
    → (is_simple_and_free app ≡ true → fault_of app words ≡ []) → (name : Text) (rows : List Row)
    → Some name ≡ subcommand_name_of m → Some rows ≡ option_map (λ p. p.1) (subcommand_rows_of m)
    → AreRead words name rows
read words app (choices, merges, is) m matches none name rows n r =
    (choices, merges, (rw is at none) refl, sym ((rw is at matches) refl).1 ∙ both _ (out-ArgMatches m).subcommand n r)

-- a request or a fault of the subcommand is one of the words
pub asked_or_refused : (words : List Text) (name : Text) (rows : List Row) → AreRead words name rows → (own : Text)
    → own ≡ name → (r : Result Request WordsFault) → MatchResult r (IsRequestOf own rows) (IsFaultOf own rows)
    → MatchResult r (AskFor words) (AreRefused words)
asked_or_refused words name rows are own named (Ok q) is = (name, (rows, (are, rw (← named) is)))
asked_or_refused words name rows are own named (Err (fault.Usage help text)) is = absurd is
asked_or_refused words name rows are own named (Err fault.OutOfMemory) is = tt
asked_or_refused words name rows are own named (Err f) is =
    (rows, ((are.0, are.1, are.2, rw (sym named ∙ is.0) at are.3), is.1))

pub stated : (words : List Text) (error : Error) (app : App) → IsCommandLine app
    → (is_simple_and_free app ≡ true → HasKind (fault_of app words) error)
    → (e : WordsFault) → Tells (kind_of error) e → (kind_of error ≡ kind.OutOfMemory → e ≡ fault.OutOfMemory)
    → AreRefused words e
stated words error app (choices, merges, is) kinds e tells memory = told ((rw is at kinds) refl) e tells memory
  where
    told : HasKind (fault_of (command_line choices) words) error → (e : WordsFault) → Tells (kind_of error) e
        → (kind_of error ≡ kind.OutOfMemory → e ≡ fault.OutOfMemory) → AreRefused words e
    told (inl out) e tells memory = rw (memory out) tt
    told (inr among) (fault.Usage help text) tells memory = (choices, merges, (kind_of error, among, tells))
    told (inr among) fault.OutOfMemory tells memory = tt
    told (inr among) e tells memory = absurd tells

-- ---- the values that the typed getters of clap's matches read

module _ {E : Type 0} (gives : List ℕ → Result ℕ E → Type 0) (bits : ℕ)
    (parses : (t : List ℕ) (r : Result ℕ E) → gives t r → ParsesUnsigned bits 10 t r)
    (rows : List Row) (id : Text) where
  -- no number was read, so none is written
  unwritten : (o : Option Text) → o ≡ one_of id rows → ((t : Text) → o ≡ Some t → ReadsOne gives t None)
      → (n : ℕ) → n < 2 ^ bits → NumberIs rows id n → ⊥
  unwritten o e value n below is =
      let (error, given) = value is.0 (e ∙ is.1) in
      let refused = parses is.0 (Err error) given in
      refused (is.2, subst (λ (k : ℕ). k < 2 ^ bits) is.3 below)

  pub number_read : (o : Option Text) → o ≡ one_of id rows → (r : Option ℕ) → (o ≡ None → r ≡ None)
      → ((t : Text) → o ≡ Some t → ReadsOne gives t r)
      → MatchOption r ((n : ℕ) → n < 2 ^ bits → NumberIs rows id n → ⊥) (NumberIs rows id)
  number_read o e None none value = unwritten o e value
  number_read None e (Some n) none value = absurd (cc (none refl))
  number_read (Some t) e (Some n) none value =
      let is = parses t (Ok n) (value t refl) in (t, sym e, is.0.0, is.1)

-- the flag was used exactly where it reads as true
pub flag_read : (E : Type 0) (rows : List Row) (id : Text) (o : Option Text) → o ≡ one_of id rows → (r : Option Bool)
    → (o ≡ None → r ≡ None) → ((t : Text) → o ≡ Some t → ReadsOne (ParsesBool {E = E}) t r)
    → (b : Bool) → b ≡ option_eq beq r (Some true) → b ≡ true ↔ IsUsed rows id
flag_read E rows id None e None none value b is = (λ h. absurd (cc), λ u. absurd (cc))
flag_read E rows id None e (Some v) none value b is = absurd (cc (none refl))
flag_read E rows id (Some t) e None none value b is =
    (λ h. cc, λ u. let same : t ≡ codes "true" = cc in absurd ((value t refl).1.0 same))
flag_read E rows id (Some t) e (Some true) none value b is =
    let same : t ≡ codes "true" = value t refl in (λ h. sym e ∙ ap Some same, λ u. is)
flag_read E rows id (Some t) e (Some false) none value b is =
    (λ h. absurd (cc), λ u. let same : t ≡ codes "false" = value t refl in absurd (cc))
