-- The command line, as clap reads it: what each argument and subcommand is.
use Rattle.std.specs.Prelude.{◌≡◌, List, [], ◌∷◌, Some, codes, map, true}
use Rattle.std.specs.Borrow.{Bor}
use Rattle.clap.specs.Words.{App, Rule, Text, new_app, new_rule, with_rule, with_subcommand}
use Rattle.clap.specs.declared.builder.ArgAction.TheVariants.{SetTrue}
use Rattle.clap.specs.declared.builder.value_parser.ValueParser.TheVariants.{Names, Unsigned}

-- an option with one value
abbrev pub option : Text → Rule
option id = record (new_rule id) { long = Some id; value_names = 1 }

abbrev pub file : Rule
file = record (new_rule (codes "file")) { value_names = 1; required = true }

abbrev pub steps : Rule
steps = record (option (codes "steps")) { required = true; parser = Some (Unsigned 0 400) }

abbrev pub workers : Rule
workers = record (option (codes "workers")) { defaults = codes "1" ∷ []; parser = Some (Unsigned 1 8) }

abbrev pub states : Rule
states = record (option (codes "states")) { defaults = codes "200000" ∷ []; parser = Some (Unsigned 1 2000000) }

-- a list of words, as the command line holds it
abbrev pub Choices : Type 0
Choices = Bor (List (Bor Text))

-- the words are those for the two ways to merge states
abbrev pub AreMerges : Choices → Type 0
AreMerges choices = map (λ c. c.now) choices.now ≡ codes "exact" ∷ codes "names" ∷ []

abbrev pub merge : Choices → Rule
merge choices = record (option (codes "merge")) { defaults = codes "exact" ∷ []; parser = Some (Names choices) }

abbrev pub IsMerge : Rule → Type 0
IsMerge rule = (choices : Choices) × AreMerges choices × (rule ≡ merge choices)

abbrev pub ledger : Rule
ledger = record (new_rule (codes "ledger")) { long = Some (codes "ledger"); action = Some SetTrue }

abbrev pub schedule : Rule
schedule = record (option (codes "schedule")) { required = true }

-- where the book file goes
abbrev pub book_out : Rule
book_out = option (codes "book")

-- the book file to check
abbrev pub book_file : Rule
book_file = record (new_rule (codes "book")) { value_names = 1; required = true }

-- explore FILE --steps N [--workers W] [--states M] [--merge exact|names] [--ledger] [--book OUT]
abbrev pub explore : Choices → App
explore choices =
    with_rule (with_rule (with_rule (with_rule (with_rule (with_rule (with_rule (new_app (codes "explore"))
    file) steps) workers) states) (merge choices)) ledger) book_out

abbrev pub IsExplore : App → Type 0
IsExplore app = (choices : Choices) × AreMerges choices × (app ≡ explore choices)

-- replay FILE --schedule LIST
abbrev pub replay : App
replay = with_rule (with_rule (new_app (codes "replay")) file) schedule

-- check FILE BOOK
abbrev pub check : App
check = with_rule (with_rule (new_app (codes "check")) file) book_file

-- a command that wants one of its subcommands
abbrev pub wanting_subcommand : App → App
wanting_subcommand a = record a { top = record a.top { subcommand_required = true } }

-- the command line of the program
abbrev pub command_line : Choices → App
command_line choices = with_subcommand (with_subcommand (with_subcommand
    (wanting_subcommand (new_app (codes "treesched"))) (explore choices).top) replay.top) check.top

-- the command line with some list of the words for the two merges
abbrev pub IsCommandLine : App → Type 0
IsCommandLine app = (choices : Choices) × AreMerges choices × (app ≡ command_line choices)
