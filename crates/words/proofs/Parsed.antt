-- The subcommand that the words name where clap finds no fault in them, and what its matches hold.
use Rattle.std.proofs.Common.{◌≡◌, ◌∙◌, ◌&&◌, ◌||◌, ◌⊎◌, ◌≤◌, ℕ, Bool, cond, codes, true, false, refl, sym, ap, inl}
use Rattle.std.proofs.Common.{inr, List, [], ◌∷◌, Option, Some, None, is_some, not}
use Rattle.std.specs.Prelude.{IfSome, option_map}
use Rattle.std.specs.Option.{option_map_or}
use Rattle.std.specs.Str.{bytes_eq}
use Rattle.std.specs.Str.Parse.{digits_value, without_leading_plus}
use Rattle.std.proofs.lemmas.Slice.Eq.{bytes_eq-Decides}
use Rattle.clap.specs.Faults.{entered_fault, fault_of, level_fault, check_fault, defaults_fault, settle_fault}
use Rattle.clap.specs.Faults.{walk_fault}
use Rattle.clap.specs.Simple.{App, Shape, argument_words, built, built_leaf, entered, help_shape, inherited}
use Rattle.clap.specs.Simple.{marked_built, names_of, rows_at, subcommand_of, with_leaf_noted}
use Rattle.clap.specs.ValueTests.{accepts}
use Rattle.clap.specs.declared.builder.action.ArgAction.TheVariants.{Set}
use Rattle.std.specs.List.{list_any}
use Rattle.clap.proofs.WalkLemmas.{list_any-map}
use Rattle.clap.proofs.ValueTestLemmas.{accepts-Accepts}
use Rattle.clap.specs.Walk.{Row, Rule, Text, action_of, arg_by_id, nothing_held, rows_after, walk}
use Rattle.clap.specs.Walk.{Held, Names as SubcommandNames, first_of, one_of, has_row, reading_by, settled, walk_from}
use Rattle.clap.specs.declared.builder.value_parser.ValueParser.TheVariants.{Names, Unsigned}
use Rattle.options.specs.declared.options.Merge.{Merge}
use Rattle.options.specs.declared.options.Merge.TheVariants as merge
use Rattle.options.specs.Settings.{Settings}
use Rattle.words.specs.Command as line
use Rattle.words.specs.Command.{AreMerges, Choices, command_line}
use Rattle.words.specs.Reading.{AreRead, HasText, MergeIs, NumberIs, OptionsAre}
use Rattle.words.proofs.Accepted.{AreRegular, has_default, Suit, default_given, defaults_suit, filled}
use Rattle.words.proofs.Accepted.{given_has_row, none_of, required_given, settled_suit}
use Rattle.words.proofs.Entered.{is_help, Stands, walk_stands}
use Rattle.std.proofs.lemmas.Bool.{or_cases, or_right}
use Rattle.std.proofs.Math.Bool.{and-true, or-false}
use Rattle.clap.specs.Kinds.{Kinds, check_kinds}
use Rattle.clap.specs.Takes.{is_given, value_passes}
use Rattle.clap.specs.Values.{read_as}

-- ---- what the matches of a subcommand hold

-- an argument has a value, which its parser takes
pub record HasValue (a : Rule) (id : Text) (rows : List Row) : Type 0 where
  pub text : Text
  pub first : first_of id rows ≡ Some text
  pub one : one_of id rows ≡ Some (read_as (reading_by a) text)
  pub passes : value_passes a text ≡ true

none_wanted : (help subcommand argument : Bool) → check_kinds help subcommand argument ≡ [] → argument ≡ false
none_wanted false false false h = refl
none_wanted help subcommand argument h = absurd (cc)

module _ (s : Shape) (names : SubcommandNames) (words : List Text) (has : Bool) (below : Kinds)
    (none : level_fault s names nothing_held words has below ≡ []) where
  -- what is held at the end of the walk
  abbrev end : Held
  end = (walk s.rules names nothing_held words).held

  -- the walk, the level below, and each test after them have no fault
  parts : (walk_fault s names (walk_from nothing_held) words ≡ []) × (below ≡ [])
      × (settle_fault s.rules s.args_override_self end ≡ [])
      × (defaults_fault (settled s.rules end).rows s.rules ≡ [])
      × (check_fault s (rows_after s.rules names words) has ≡ [])
  parts =
      let walked = none_of (walk_fault s names (walk_from nothing_held) words) _ none in
      let under = none_of below _ walked.1 in
      let ended = none_of (settle_fault s.rules s.args_override_self end) _ under.1 in
      let last = none_of (defaults_fault (settled s.rules end).rows s.rules) _ ended.1 in
      (walked.0, under.0, ended.0, last.0, last.1)

  -- the level below has no fault
  pub below_passed : below ≡ []
  below_passed = parts.1

  module _ (regular : AreRegular s.rules) where
    stands : Stands s regular (walk s.rules names nothing_held words)
    stands = walk_stands s regular names words (walk_from nothing_held) parts.0 (record { rows = tt; stopped = tt })

    -- the subcommand that was met is not `help`
    pub no_help : IfSome (walk s.rules names nothing_held words).stopped (λ q. is_help s q.0 ≡ false)
    no_help = stands.stopped

-- ---- the subcommand that was met

-- the words after the subcommand's name have no fault, and its matches are these
pub record IsPassed (s : Shape) (name : Text) (rows : List Row) : Type 0 where
  pub words : List Text
  pub named : name ≡ s.name
  pub are : rows ≡ rows_after s.rules [] words
  pub none : level_fault s [] nothing_held words false [] ≡ []

passed : (s : Shape) (words : List Text) (name : Text) (rows : List Row) → Some (rows_at s words) ≡ Some (name, rows)
    → level_fault s [] nothing_held words false [] ≡ [] → IsPassed s name rows
passed s words name rows is none =
    let same : rows_at s words ≡ (name, rows) = cc in
    record { words = words; named = sym (ap (λ p. p.0) same); are = sym (ap (λ p. p.1) same); none = none }

-- what the matches of such a subcommand hold of an argument that is set
module _ {s : Shape} {name : Text} {rows : List Row} (is : IsPassed s name rows) (regular : AreRegular s.rules)
    (id : Text) (a : Rule) (found : arg_by_id s.rules id ≡ Some a) (set : action_of a ≡ Set) where
  abbrev last : List Row
  last = rows_after s.rules [] is.words

  -- it has a value, if it has a row,
  has_value : has_row id last ≡ true → HasValue a id rows
  has_value has =
      let tests = parts s [] is.words false [] is.none in
      let ended = (walk s.rules [] nothing_held is.words).held in
      let suit : Suit s.rules last = defaults_suit s.rules s.args_override_self regular s.rules
      (settled s.rules ended).rows regular tests.3 (settled_suit s.rules s.args_override_self regular ended tests.2
      (stands s [] is.words false [] is.none regular).rows) in
      let (r, there, (reading, (text, first, passes))) = filled s.rules last id a suit has found set in
      rw is.are (record {
        text = text;
        first = rw there first;
        one = rw there (rw (first, reading) refl);
        passes = passes;
      })

  -- and so if it is required, or has a default
  required : s.subcommand_negates_reqs ≡ false → a.required ≡ true → HasValue a id rows
  required kept needed =
      let argument = none_wanted _ s.subcommand_required _ (parts s [] is.words false [] is.none).4 in
      let missing : list_any (λ x. x.required && not (is_given x.id last)) s.rules ≡ false = rw kept at argument in
      has_value (given_has_row id last (required_given last s.rules id a missing found needed))

  defaulted : has_default id s.rules ≡ true → HasValue a id rows
  defaulted default = has_value (default_given id s.rules _ (or_right (has_row id _) (has_default id s.rules) default))

  text : s.subcommand_negates_reqs ≡ false → a.required ≡ true → HasText rows id
  text kept needed = let v = required kept needed in (v.text, v.first)

number : (low high : ℕ) (a : Rule) (id : Text) (rows : List Row) → a.parser ≡ Some (Unsigned low high)
    → HasValue a id rows → (n : ℕ) × NumberIs rows id n × (low ≤ n) × (n ≤ high)
number low high a id rows parser v =
    let in_range = accepts-Accepts a.ignore_case (Unsigned low high) v.text (rw parser at v.passes) in (
      digits_value 10 (without_leading_plus v.text),
      (v.text, rw parser at v.one, in_range.0, refl),
      in_range.2,
      in_range.3,
    )

module _ (choices : Choices) where
  -- the command line as it is read
  abbrev all : App
  all = built (command_line choices)

  -- a subcommand of it
  abbrev leaf : Shape → Shape
  leaf s = built_leaf (inherited (with_leaf_noted (marked_built (command_line choices).top)) s)

  abbrev explore_leaf : Shape
  explore_leaf = leaf (line.explore choices).top

  abbrev replay_leaf : Shape
  replay_leaf = leaf line.replay.top

  abbrev check_leaf : Shape
  check_leaf = leaf line.check.top

  regular : AreRegular all.top.rules
  regular = ((refl, λ set. cc), tt)

  one_more : {A B : Type 0} → A → B → A × B
  one_more a b = (a, b)

  explore_regular : AreRegular explore_leaf.rules
  explore_regular =
      one_more (refl, λ set. refl) (one_more (refl, λ set. refl) (one_more (refl, λ set. refl)
      (one_more (refl, λ set. refl) (one_more (refl, λ set. refl)
      ((refl, λ set. cc), ((refl, λ set. refl), ((refl, λ set. cc), tt)))))))

  replay_regular : AreRegular replay_leaf.rules
  replay_regular = ((refl, λ set. refl), ((refl, λ set. refl), ((refl, λ set. cc), tt)))

  check_regular : AreRegular check_leaf.rules
  check_regular = ((refl, λ set. refl), ((refl, λ set. refl), ((refl, λ set. cc), tt)))

  -- ---- the subcommand that the words name

  -- the words after the name of one of the subcommands have no fault
  abbrev AreNamed : Text → List Row → Type 0
  AreNamed name rows = IsPassed explore_leaf name rows ⊎ IsPassed replay_leaf name rows ⊎ IsPassed check_leaf name rows

  -- the first of the four whose name is the word
  abbrev leaf_of : Bool → Bool → Bool → Bool → Option Shape
  leaf_of e r c h = cond (e || false) (Some explore_leaf) (cond (r || false) (Some replay_leaf)
      (cond (c || false) (Some check_leaf) (cond (h || false) (Some (leaf help_shape)) None)))

  by_name : (name : Text) (rows : List Row) (p : Text × List Text) → bytes_eq p.0 (codes "help") ≡ false
      → entered all (Some p) ≡ Some (name, rows) → entered_fault all (Some p) ≡ []
      → AreNamed name rows
  by_name name rows p other is none =
      go (bytes_eq (codes "explore") p.0) (bytes_eq (codes "replay") p.0) (bytes_eq (codes "check") p.0)
      (bytes_eq (codes "help") p.0) refl is none
    where
      go : (e r c h : Bool) → bytes_eq (codes "help") p.0 ≡ h
          → option_map (λ s. rows_at s p.1) (leaf_of e r c h) ≡ Some (name, rows)
          → option_map_or (λ s. level_fault s [] nothing_held p.1 false []) (leaf_of e r c h) [] ≡ []
          → AreNamed name rows
      go true r c h said is none = inl (passed explore_leaf p.1 name rows is none)
      go false true c h said is none = inr (inl (passed replay_leaf p.1 name rows is none))
      go false false true h said is none = inr (inr (passed check_leaf p.1 name rows is none))
      go false false false true said is none =
          let same = (bytes_eq-Decides p.0 (codes "help")).1 (sym ((bytes_eq-Decides (codes "help") p.0).0 said)) in
          absurd (cc)
      go false false false false said is none = absurd (cc)

  module _ (words : List Text) (none : fault_of (command_line choices) words ≡ []) where
    stop : Option (Text × List Text)
    stop = (walk all.top.rules (names_of all) nothing_held (argument_words (command_line choices) words)).stopped

    level : level_fault all.top (names_of all) nothing_held (argument_words (command_line choices) words)
        (is_some (subcommand_of (command_line choices) words)) (entered_fault all stop) ≡ []
    unfolding stop
    level = none

    pub which : (name : Text) (rows : List Row) → subcommand_of (command_line choices) words ≡ Some (name, rows)
        → AreNamed name rows
    unfolding stop
    which name rows is =
        go stop (no_help all.top (names_of all) _ _ _ level regular) is
        (below_passed all.top (names_of all) _ _ _ level)
      where
        go : (o : Option (Text × List Text)) → IfSome o (λ q. is_help all.top q.0 ≡ false)
            → entered all o ≡ Some (name, rows) → entered_fault all o ≡ [] → AreNamed name rows
        go None other is none = absurd (cc)
        go (Some p) other is none = by_name name rows p (rw and-true at other) is none

  -- ---- what the matches of `explore` hold

  merge_of_value : AreMerges choices → (a : Rule) (rows : List Row) → a.parser ≡ Some (Names choices)
      → a.ignore_case ≡ false → HasValue a (codes "merge") rows → (m : Merge) × MergeIs rows m
  merge_of_value merges a rows parser cased v =
      let passes : accepts false (Names choices) v.text ≡ true = rw (parser, cased) at v.passes in
      let among : list_any (λ t. bytes_eq t v.text) (codes "exact" ∷ codes "names" ∷ []) ≡ true =
      ap (list_any (λ t. bytes_eq t v.text)) (sym merges)
      ∙ (sym (list_any-map (λ t. bytes_eq t v.text) (λ c. c.now) choices.now) ∙ passes) in
      elim (or_cases (bytes_eq (codes "exact") v.text) (bytes_eq (codes "names") v.text || false) among) [
        | inl exact ↦ (merge.Exact, cc (v.first, (bytes_eq-Decides (codes "exact") v.text).0 exact))
        | inr rest ↦ (
            let names : bytes_eq (codes "names") v.text ≡ true = rw or-false at rest in
            (merge.Names, cc (v.first, (bytes_eq-Decides (codes "names") v.text).0 names)))
      ]

  explore_options : {name : Text} (rows : List Row) → IsPassed explore_leaf name rows → AreMerges choices
      → (settings : Settings) × OptionsAre rows settings
  explore_options rows is merges =
      let steps = number 0 400 _ (codes "steps") rows refl (required is explore_regular _ _ refl refl refl refl) in
      let workers = number 1 8 _ (codes "workers") rows refl (defaulted is explore_regular _ _ refl refl refl) in
      let states = number 1 2000000 _ (codes "states") rows refl (defaulted is explore_regular _ _ refl refl refl) in
      let merge = merge_of_value merges _ rows refl refl (defaulted is explore_regular _ _ refl refl refl) in (
        record { steps = steps.0; limit = states.0; merge = merge.0; workers = workers.0 },
        record {
          steps = steps.1;
          workers = workers.1;
          limit = states.1;
          merge = merge.1;
          range = record {
            steps = steps.3;
            some = states.2;
            limit = states.3;
            worker = workers.2;
            workers = workers.3;
          };
        },
      )

module _ (words : List Text) (name : Text) (rows : List Row) (are : AreRead words name rows) where
  pub exploring : codes "explore" ≡ name → HasText rows (codes "file")
      × ((settings : Settings) × OptionsAre rows settings)
  exploring named = elim (which are.0 words are.2 name rows are.3) [
    | inl is ↦ (text is (explore_regular are.0) _ _ refl refl refl refl, explore_options are.0 rows is are.1)
    | inr (inl is) ↦ absurd (cc (named, is.named))
    | inr (inr is) ↦ absurd (cc (named, is.named))
  ]

  pub replaying : codes "replay" ≡ name → HasText rows (codes "file") × HasText rows (codes "schedule")
  replaying named = elim (which are.0 words are.2 name rows are.3) [
    | inl is ↦ absurd (cc (named, is.named))
    | inr (inl is) ↦ let texts = text is (replay_regular are.0) in
        (texts (codes "file") _ refl refl refl refl, texts (codes "schedule") _ refl refl refl refl)
    | inr (inr is) ↦ absurd (cc (named, is.named))
  ]

  pub checking : codes "check" ≡ name → HasText rows (codes "file") × HasText rows (codes "book")
  checking named = elim (which are.0 words are.2 name rows are.3) [
    | inl is ↦ absurd (cc (named, is.named))
    | inr (inl is) ↦ absurd (cc (named, is.named))
    | inr (inr is) ↦ let texts = text is (check_regular are.0) in
        (texts (codes "file") _ refl refl refl refl, texts (codes "book") _ refl refl refl refl)
  ]

  pub no_other : (codes "explore" ≡ name → ⊥) → (codes "replay" ≡ name → ⊥) → (codes "check" ≡ name → ⊥) → ⊥
  no_other not_explore not_replay not_check = elim (which are.0 words are.2 name rows are.3) [
    | inl is ↦ not_explore (sym is.named)
    | inr (inl is) ↦ not_replay (sym is.named)
    | inr (inr is) ↦ not_check (sym is.named)
  ]
