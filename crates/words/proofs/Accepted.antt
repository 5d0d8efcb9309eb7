-- What clap's matches hold where it finds no fault: an argument that is set has a value, which its parser takes.
use Rattle.std.proofs.Common.{◌≡◌, ◌∙◌, ◌&&◌, ◌||◌, ℕ, Bool, cond, true, false, not, refl, ap, List, [], ◌∷◌}
use Rattle.std.proofs.Common.{◌++◌, ◌+◌, arith, min, length, Option, Some, None, inl, inr, is_some, sym}
use Rattle.std.specs.Prelude.{fold, find, slice_get}
use Rattle.std.specs.List.{AllByRecursion, list_any}
use Rattle.std.specs.Option.{option_map_or}
use Rattle.std.specs.Str.{bytes_eq}
use Rattle.std.proofs.ByRecursion.{All-append}
use Rattle.std.proofs.lemmas.List.Folds.{list_any-append}
use Rattle.clap.specs.Matches.{count_text}
use Rattle.std.proofs.lemmas.Bool.{and_parts, cases_Bool, cond_both, not-false, or_cases, or_parts}
use Rattle.std.proofs.lemmas.Bool.Decides.{nat_tests}
use Rattle.std.proofs.lemmas.Slice.Eq.{bytes_eq-Decides}
use Rattle.clap.specs.Faults.{action_fault, default_fault, defaults_fault, given_default_fault, settle_fault, use_fault}
use Rattle.clap.specs.Faults.{values_fault}
use Rattle.clap.specs.Facts.{explicit_source, parser_of_value, unwrap_or_range}
use Rattle.clap.specs.Kinds.{Kinds, or_else, range_kinds, request_kinds, value_kinds}
use Rattle.clap.specs.Takes.{is_given, value_passes}
use Rattle.clap.specs.Walk.{Held, Row, Rule, Text, action_of, arg_by_id, at_row, count_of, counted, default_rows}
use Rattle.clap.specs.Walk.{has_row, is_empty, more_values, most_values, new_count, reading_by, settled, settled_rows}
use Rattle.clap.specs.Walk.{stronger, used, used_as, used_by_id, values_or_missing, with_count, with_default}
use Rattle.clap.specs.Walk.{with_values, without}
use Rattle.clap.specs.declared.builder.action.ArgAction.{ArgAction}
use Rattle.clap.specs.declared.builder.action.ArgAction.TheVariants as action
use Rattle.clap.specs.declared.error.kind.ErrorKind.{ErrorKind}
use Rattle.clap.specs.declared.parser.matches.ValueSource.{ValueSource}
use Rattle.clap.specs.declared.parser.matches.ValueSource.TheVariants.{DefaultValue, CommandLine}

-- the values begin with one that the argument's parser takes
abbrev pub Begins : Rule → List Text → Type 0
Begins a values = (text : Text) × (slice_get values 0 ≡ Some text) × (value_passes a text ≡ true)

-- the row holds such values of the argument
abbrev pub IsFilled : Rule → Row → Type 0
IsFilled a r = (r.reading ≡ reading_by a) × Begins a r.values

-- if the row is of an argument that is set, it is filled
abbrev pub Suits : List Rule → Row → Type 0
Suits c r = (a : Rule) → arg_by_id c r.id ≡ Some a → action_of a ≡ action.Set → IsFilled a r

abbrev pub Suit : List Rule → List Row → Type 0
Suit c rows = AllByRecursion (Suits c) rows

-- where there is no fault, the rows suit if they did
abbrev pub Keeps : List Rule → Kinds → List Row → List Row → Type 0
Keeps c fault old new = fault ≡ [] → Suit c old → Suit c new

-- the argument is the first of its id, and where it is set, a use of it has a value
abbrev pub IsRegular : List Rule → Rule → Type 0
IsRegular c a = (arg_by_id c a.id ≡ Some a)
    × (action_of a ≡ action.Set → (unwrap_or_range a.range).start_inclusive ≡ 1)

abbrev pub AreRegular : List Rule → Type 0
AreRegular c = AllByRecursion (IsRegular c) c

-- ---- the first that passes a test

-- what is true of each is true of the first that passes
find_is : {X : Type 0} (P : X → Type 0) (p : X → Bool) (xs : List X) (x : X) → AllByRecursion P xs
    → find p xs ≡ Some x → P x × (p x ≡ true)
find_is P p [] x all is = absurd (cc)
find_is P p (y ∷ ys) x all is =
    elim (cases_Bool (p y)) [
      | inl holds ↦ (let one : y ≡ x = cc (rw holds at is) in rw (← one) (all.0, holds))
      | inr fails ↦ find_is P p ys x all.1 (rw fails at is)
    ]

pub found : (c : List Rule) → AreRegular c → (p : Rule → Bool) (a : Rule) → find p c ≡ Some a → IsRegular c a
found c regular p a is = (find_is (IsRegular c) p c a regular is).0

-- there is one just where some pass
any_is_found : {X : Type 0} (p : X → Bool) (xs : List X) → list_any p xs ≡ is_some (find p xs)
any_is_found p [] = refl
any_is_found p (x ∷ xs) = elim (cases_Bool (p x)) [ inl holds ↦ rw holds | inr fails ↦ rw fails (any_is_found p xs) ]

none_pass : {X : Type 0} (p : X → Bool) (xs : List X) → list_any p xs ≡ false
    → AllByRecursion (λ x. p x ≡ false) xs
none_pass p [] none = tt
none_pass p (x ∷ xs) none = let each = or_parts (p x) (list_any p xs) none in (each.0, none_pass p xs each.1)

-- ---- tests of kinds and flags

pub none_of : (a b : Kinds) → or_else a b ≡ [] → (a ≡ []) × (b ≡ [])
none_of [] b h = (refl, h)
none_of (k ∷ ks) b h = absurd (cc)

pub none_where : (b : Bool) (k : ErrorKind) (ks : Kinds) → cond b (k ∷ ks) [] ≡ [] → b ≡ false
none_where true k ks h = absurd (cc)
none_where false k ks h = refl

none_unless : (b : Bool) (k : ErrorKind) → cond b [] (k ∷ []) ≡ [] → b ≡ true
none_unless true k h = refl
none_unless false k h = absurd (cc)

begins : (a : Rule) (v : Text) (vs : List Text) → values_fault a (v ∷ vs) ≡ [] → Begins a (v ∷ vs)
begins a v vs h = (v, refl, none_unless _ _ (none_of (value_kinds a.ignore_case (parser_of_value a.parser) v) _ h).0)

-- ---- a change of one row

changed : (c : List Rule) (id : Text) (change : Row → List Row) (missing rows : List Row)
    → ((r : Row) → Suits c r → Suit c (change r)) → Suit c missing → Suit c rows
    → Suit c (at_row id change missing rows)
changed c id change missing [] on_change new suit = new
changed c id change missing (r ∷ rs) on_change new suit =
    cond_both (bytes_eq r.id id) (change r ++ rs) (r ∷ at_row id change missing rs) (Suit c)
    (λ _. All-append (Suits c) (change r) rs (on_change r suit.0) suit.1)
    (λ _. (suit.0, changed c id change missing rs on_change new suit.1))

first_stays : (xs ys : List Text) (text : Text) → slice_get xs 0 ≡ Some text → slice_get (xs ++ ys) 0 ≡ Some text
first_stays [] ys text is = absurd (cc)
first_stays (x ∷ xs) ys text is = is

more_suits : (c : List Rule) (r : Row) (more : List Text) (count : Option ℕ) (source : Option ValueSource) → Suits c r
    → Suits c (record r { values = r.values ++ more; count = count; source = source })
more_suits c r more count source suits a is set =
    let (reading, (text, first, passes)) = suits a is set in
    (reading, (text, first_stays r.values more text first, passes))

module _ (c : List Rule) (a : Rule) (own : arg_by_id c a.id ≡ Some a) where
  abbrev new_row : ValueSource → List Text → Option ℕ → Row
  new_row s values count = record { id = a.id; values = values; count = count; source = Some s; reading = reading_by a }

  new_row_suits : (s : ValueSource) (values : List Text) (count : Option ℕ)
      → (action_of a ≡ action.Set → Begins a values) → Suits c (new_row s values count)
  new_row_suits s values count value b is set =
      let one : a ≡ b = cc in rw (← one) (refl, value (ap action_of one ∙ set))

  pub values_suit : (s : ValueSource) (values : List Text) (rows : List Row)
      → (action_of a ≡ action.Set → Begins a values) → Suit c rows
      → Suit c (with_values a.id (reading_by a) s values rows)
  values_suit s values rows value suit =
      changed c a.id (more_values s values) (new_row s values None ∷ []) rows
      (λ r suits. (more_suits c r values r.count (Some (stronger r.source s)) suits, tt {0}))
      (new_row_suits s values None value, tt {0}) suit

  pub count_suits : (s : ValueSource) (n : ℕ) (rows : List Row) → (action_of a ≡ action.Set → ⊥)
      → Suit c rows → Suit c (with_count a.id (reading_by a) s n rows)
  count_suits s n rows none suit =
      changed c a.id (new_count s n) (new_row s (count_text n ∷ []) (Some n) ∷ []) rows
      (λ r suits. (more_suits c r (count_text n ∷ []) (Some n) (Some (stronger r.source s)) suits, tt {0}))
      (new_row_suits s (count_text n ∷ []) (Some n) (λ set. absurd (none set)), tt {0}) suit

  pub without_suits : (rows : List Row) → Suit c rows → Suit c (without a.id rows)
  without_suits rows suit = changed c a.id (λ _. []) [] rows (λ r suits. tt {0}) (tt {0}) suit

module _ (c : List Rule) (again : Bool) (a : Rule) (regular : IsRegular c a) where
  -- a use of an argument that is set has a first value, which passes
  set_begins : (values : List Text) (rows : List Row) → action_of a ≡ action.Set → use_fault again a values rows ≡ []
      → Begins a (values_or_missing a values)
  set_begins [] rows set none =
      let range = (none_of (range_kinds (unwrap_or_range a.range).start_inclusive (most_values a) 0) _ none).0 in
      let bad = rw (regular.1 set) at range in absurd (cc)
  set_begins (v ∷ vs) rows set none =
      let range = range_kinds (unwrap_or_range a.range).start_inclusive (most_values a) (length (v ∷ vs)) in
      let acts : action_fault action.Set again a (v ∷ vs) rows ≡ [] = rw set at (none_of range _ none).1 in
      begins a v vs (none_of _ (values_fault a (v ∷ vs)) acts).1

  -- a use that takes the place of the earlier ones
  used_once : (values : List Text) (rows : List Row) → (action_of a ≡ action.Set → Begins a values) → Suit c rows
      → Suit c (with_values a.id (reading_by a) CommandLine values (without a.id rows))
  used_once values rows begins suit =
      values_suit c a regular.0 CommandLine values (without a.id rows) begins
      (without_suits c a regular.0 rows suit)

  counted_suits : (values : List Text) (rows : List Row) → (action_of a ≡ action.Set → ⊥) → Suit c rows
      → Suit c (counted a.id (reading_by a) values rows)
  counted_suits [] rows not_set suit =
      count_suits c a regular.0 CommandLine (min (count_of a.id rows + 1) 255) (without a.id rows) not_set
      (without_suits c a regular.0 rows suit)
  counted_suits (v ∷ vs) rows not_set suit = used_once (v ∷ vs) rows (λ set. absurd (not_set set)) suit

  used_as_suits : (x : ArgAction) → action_of a ≡ x → (values : List Text) (rows : List Row)
      → (x ≡ action.Set → Begins a values) → Suit c rows → Suit c (used_as x a.id (reading_by a) values rows)
  used_as_suits action.Set is values rows value suit = used_once values rows (λ set. value refl) suit
  used_as_suits action.SetTrue is values rows value suit = used_once values rows (λ set. absurd (cc)) suit
  used_as_suits action.SetFalse is values rows value suit = used_once values rows (λ set. absurd (cc)) suit
  used_as_suits action.Append is values rows value suit =
      values_suit c a regular.0 CommandLine values rows (λ set. absurd (cc)) suit
  used_as_suits action.Count is values rows value suit = counted_suits values rows (λ set. (cc)) suit
  used_as_suits x is values rows value suit = suit

  pub used_suits : (values : List Text) (rows : List Row)
      → Keeps c (use_fault again a values rows) rows (used a values rows)
  used_suits values rows none suit =
      used_as_suits (action_of a) refl (values_or_missing a values) rows (λ set. set_begins values rows set none) suit

not_empty : (v : Text) (vs : List Text) → is_empty (v ∷ vs) ≡ false
not_empty v vs = grind (arith, nat_tests)

-- ---- what is pending, and the defaults

module _ (c : List Rule) (again : Bool) (regular : AreRegular c) where
  pub settled_suit : (h : Held) → Keeps c (settle_fault c again h) h.rows (settled c h).rows
  settled_suit h none suit = go h.pending none
    where
      by_id : (o : Option Rule) (id : Text) (values : List Text) → arg_by_id c id ≡ o
          → option_map_or (λ a. use_fault again a values h.rows) o [] ≡ [] → Suit c (used_by_id o values h.rows)
      by_id None id values is none = suit
      by_id (Some a) id values is none =
          used_suits c again a (found c regular (λ x. bytes_eq x.id id) a is) values h.rows none suit

      go : (p : Option (Text × List Text))
          → option_map_or (λ q. option_map_or (λ a. use_fault again a q.1 h.rows) (arg_by_id c q.0) []) p [] ≡ []
          → Suit c (settled_rows c p h.rows)
      go None none = suit
      go (Some q) none = by_id (arg_by_id c q.0) q.0 q.1 refl none

  default_suits : (a : Rule) (rows : List Row) → IsRegular c a
      → Keeps c (default_fault rows a) rows (with_default rows a)
  default_suits a rows own none suit =
      cond_both (has_row a.id rows) rows (default_rows a.id (reading_by a) a.defaults rows) (Suit c) (λ _. suit)
      (λ missing. given a.defaults (rw missing at none))
    where
      given : (values : List Text) → cond (is_empty values) [] (given_default_fault a values) ≡ []
          → Suit c (default_rows a.id (reading_by a) values rows)
      given [] none = suit
      given (v ∷ vs) fault =
          let none : given_default_fault a (v ∷ vs) ≡ [] = rw (not_empty v vs) at fault in
          let first = begins a v vs (none_of (request_kinds (action_of a)) (values_fault a (v ∷ vs)) none).1 in
          values_suit c a own.0 DefaultValue (v ∷ vs) rows (λ set. first) suit

  pub defaults_suit : (rules : List Rule) (rows : List Row) → AllByRecursion (IsRegular c) rules
      → Keeps c (defaults_fault rows rules) rows (fold with_default rows rules)
  unfolding defaults_fault
  defaults_suit [] rows own none suit = suit
  defaults_suit (a ∷ rest) rows own none suit =
      let each = none_of (default_fault rows a) (defaults_fault (with_default rows a) rest) none in
      defaults_suit rest (with_default rows a) own.1 each.1 (default_suits a rows own.0 each.0 suit)

-- ---- the row of an id

-- where no row has the id, a new one comes last
at_row_last : (id : Text) (change : Row → List Row) (missing rows : List Row) → has_row id rows ≡ false
    → at_row id change missing rows ≡ rows ++ missing
at_row_last id change missing [] none = refl
at_row_last id change missing (r ∷ rs) none =
    let each = or_parts (bytes_eq r.id id) (has_row id rs) none in
    rw each.0 (ap (λ l. r ∷ l) (at_row_last id change missing rs each.1))

-- the argument has this id, and default values
abbrev pub defaults_to : Text → Rule → Bool
defaults_to i a = bytes_eq a.id i && not (is_empty a.defaults)

-- an id has a row with the defaults of an argument if it has one without, or they are its own
default_row : (i : Text) (a : Rule) (rows : List Row) → (has_row i rows || defaults_to i a) ≡ true
    → has_row i (with_default rows a) ≡ true
default_row i a rows has =
    cond_both (has_row a.id rows) rows (default_rows a.id (reading_by a) a.defaults rows) (λ l. has_row i l ≡ true)
    (λ there. elim (or_cases (has_row i rows) (defaults_to i a) has) [
      | inl here ↦ here
      | inr own ↦ rw (← (bytes_eq-Decides a.id i).0 (and_parts (bytes_eq a.id i) _ own).0) there
    ])
    (λ none. made none a.defaults has)
  where
    made : has_row a.id rows ≡ false → (values : List Text)
        → (has_row i rows || (bytes_eq a.id i && not (is_empty values))) ≡ true
        → has_row i (default_rows a.id (reading_by a) values rows) ≡ true
    made none [] has = grind (arith, cases_Bool (has_row i rows), cases_Bool (bytes_eq a.id i))
    made none (v ∷ vs) has =
        rw (
          at_row_last a.id (more_values DefaultValue (v ∷ vs)) _ rows none,
          list_any-append (λ r. bytes_eq r.id i) rows,
        )
        (grind (arith, cases_Bool (has_row i rows), cases_Bool (bytes_eq a.id i)))

-- an argument of this id has default values
abbrev pub has_default : Text → List Rule → Bool
has_default i rules = list_any (defaults_to i) rules

pub default_given : (i : Text) (rules : List Rule) (rows : List Row) → (has_row i rows || has_default i rules) ≡ true
    → has_row i (fold with_default rows rules) ≡ true
default_given i [] rows has = elim (or_cases (has_row i rows) false has) [ inl here ↦ here | inr none ↦ cc ]
default_given i (a ∷ rest) rows has = default_given i rest (with_default rows a) (grind (arith, default_row i a rows))

pub given_has_row : (i : Text) (rows : List Row) → is_given i rows ≡ true → has_row i rows ≡ true
given_has_row i rows given =
    any_is_found (λ r. bytes_eq r.id i) rows ∙ is_there (find (λ r. bytes_eq r.id i) rows) given
  where
    is_there : (o : Option Row) → option_map_or (λ r. explicit_source r.source) o false ≡ true → is_some o ≡ true
    is_there None given = cc
    is_there (Some r) given = refl

-- where no required argument is missing, each one is given
pub required_given : (rows : List Row) (rules : List Rule) (i : Text) (a : Rule)
    → list_any (λ x. x.required && not (is_given x.id rows)) rules ≡ false
    → find (λ x. bytes_eq x.id i) rules ≡ Some a → a.required ≡ true → is_given i rows ≡ true
required_given rows rules i a none is required =
    let first = find_is (λ x. (x.required && not (is_given x.id rows)) ≡ false) (λ x. bytes_eq x.id i) rules a
    (none_pass (λ x. x.required && not (is_given x.id rows)) rules none) is in
    let same : a.id ≡ i = (bytes_eq-Decides a.id i).0 first.1 in
    not-false (is_given i rows) (rw (required, same) at first.0)

-- the row of an argument that is set holds a value of it
pub filled : (c : List Rule) (rows : List Row) (i : Text) (a : Rule) → Suit c rows → has_row i rows ≡ true
    → arg_by_id c i ≡ Some a → action_of a ≡ action.Set
    → (r : Row) × (find (λ x. bytes_eq x.id i) rows ≡ Some r) × IsFilled a r
filled c rows i a suit has is set =
    there (find (λ x. bytes_eq x.id i) rows) refl (sym (any_is_found (λ x. bytes_eq x.id i) rows) ∙ has)
  where
    there : (o : Option Row) → find (λ x. bytes_eq x.id i) rows ≡ o → is_some o ≡ true
        → (r : Row) × (o ≡ Some r) × IsFilled a r
    there None first some = absurd (cc)
    there (Some r) first some =
        let own = find_is (Suits c) (λ x. bytes_eq x.id i) rows r suit first in
        (r, refl, own.0 a (ap (arg_by_id c) ((bytes_eq-Decides r.id i).0 own.1) ∙ is) set)
