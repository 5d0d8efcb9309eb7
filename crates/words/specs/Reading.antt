-- What the words ask for, by clap's exact reading of them.
use Rattle.std.specs.Prelude.{◌≡◌, ◌↔◌, ℕ, Bool, true, List, [], Option, Some, None, IfSome, codes, option_map}
use Rattle.std.specs.Borrow.{Bor}
use Rattle.std.specs.Str.Parse.{IsNumeral, digits_value, without_leading_plus}
use Rattle.clap.specs.Words.{IsAmong, Row, Text, fault_of, first_of, one_of, subcommand_of}
use Rattle.clap.specs.declared.error.kind.ErrorKind.{ErrorKind}
use Rattle.clap.specs.declared.error.kind.ErrorKind.TheVariants.{DisplayHelp}
use Rattle.options.specs.declared.options.Merge.{Merge}
use Rattle.options.specs.declared.options.Merge.TheVariants as merge
use Rattle.options.specs.Settings.{AreInRange, Settings}
use Rattle.words.specs.Command.{AreMerges, Choices, command_line}
use Rattle.words.specs.Schedule.{IsSchedule}
use Rattle.words.specs.declared.request.Request.{Request}
use Rattle.words.specs.declared.request.Request.TheVariants as request
use Rattle.words.specs.declared.request.WordsFault.{WordsFault}
use Rattle.words.specs.declared.request.WordsFault.TheVariants as fault

-- the text of the option is decimal digits of n; a plus may come before them
abbrev pub NumberIs : List Row → Text → ℕ → Type 0
NumberIs rows id n = (text : Text) × (one_of id rows ≡ Some text)
    × IsNumeral 10 (without_leading_plus text) × (n ≡ digits_value 10 (without_leading_plus text))

abbrev pub text_of : Option (Bor Text) → Option Text
text_of = option_map (λ s. s.now)

-- the flag was used
abbrev pub IsUsed : List Row → Text → Type 0
IsUsed rows id = one_of id rows ≡ Some (codes "true")

-- the text of the option names the way to merge states
abbrev pub MergeIs : List Row → Merge → Type 0
MergeIs rows merge.Exact = first_of (codes "merge") rows ≡ Some (codes "exact")
MergeIs rows merge.Names = first_of (codes "merge") rows ≡ Some (codes "names")

-- the bounds are those that the options of `explore` write, and in range: 0 to 400 steps, 1 to 8 workers, 1 to
-- 2,000,000 states
pub record OptionsAre (rows : List Row) (settings : Settings) : Type 0 where
  pub steps : NumberIs rows (codes "steps") settings.steps
  pub workers : NumberIs rows (codes "workers") settings.workers
  pub limit : NumberIs rows (codes "states") settings.limit
  pub merge : MergeIs rows settings.merge
  pub range : AreInRange settings

-- the argument has a value
abbrev pub HasText : List Row → Text → Type 0
HasText rows id = (text : Text) × (first_of id rows ≡ Some text)

abbrev pub file_of : Request → Text
file_of (request.Explore file options ledger book) = file.now
file_of (request.Replay file schedule) = file.now
file_of (request.Check file book) = file.now

-- the book file to check
abbrev pub book_of : Request → Option Text
book_of (request.Check file book) = Some book.now
book_of _ = None

-- the file that the book is written to
abbrev pub out_of : Request → Option Text
out_of (request.Explore file options ledger book) = text_of book
out_of _ = None

-- the request is that of the subcommand with these matches; a book file is asked for with merging by names alone
abbrev pub IsRequestOf : Text → List Row → Request → Type 0
IsRequestOf name rows (request.Explore file options ledger book) = (name ≡ codes "explore")
    × (first_of (codes "file") rows ≡ Some file.now) × OptionsAre rows options
    × (ledger ≡ true ↔ IsUsed rows (codes "ledger"))
    × (text_of book ≡ first_of (codes "book") rows) × IfSome book (λ _. options.merge ≡ merge.Names)
IsRequestOf name rows (request.Replay file schedule) = (name ≡ codes "replay")
    × (first_of (codes "file") rows ≡ Some file.now)
    × ((text : Text) × (first_of (codes "schedule") rows ≡ Some text) × IsSchedule text schedule.items)
IsRequestOf name rows (request.Check file book) = (name ≡ codes "check")
    × (first_of (codes "file") rows ≡ Some file.now) × (first_of (codes "book") rows ≡ Some book.now)

-- clap takes the words, and its exact reading of them is this subcommand with these matches
abbrev pub AreRead : List Text → Text → List Row → Type 0
AreRead words name rows = (choices : Choices) × AreMerges choices × (fault_of (command_line choices) words ≡ [])
    × (subcommand_of (command_line choices) words ≡ Some (name, rows))

-- the words ask for the request
abbrev pub AskFor : List Text → Request → Type 0
AskFor words r = (name : Text) × ((rows : List Row) × (AreRead words name rows × IsRequestOf name rows r))

-- a replay is asked for whose schedule is no schedule
abbrev pub IsBadSchedule : List Row → Type 0
IsBadSchedule rows = (text : Text) × (first_of (codes "schedule") rows ≡ Some text)
    × ((threads : List ℕ) → IsSchedule text threads → ⊥)

-- a book file is asked for with exact merging
abbrev pub IsBadBook : List Row → Type 0
IsBadBook rows = HasText rows (codes "book") × MergeIs rows merge.Exact

-- the words ask for a replay of what is no schedule
abbrev pub HaveBadSchedule : List Text → Type 0
HaveBadSchedule words = (rows : List Row) × (AreRead words (codes "replay") rows × IsBadSchedule rows)

-- the words ask for a book file with exact merging
abbrev pub HaveBadBook : List Text → Type 0
HaveBadBook words = (rows : List Row) × (AreRead words (codes "explore") rows × IsBadBook rows)

-- clap finds a fault in the words, which is a call for help or not
abbrev pub HaveFault : List Text → Bool → Type 0
HaveFault words help = (choices : Choices) × AreMerges choices
    × ((kind : ErrorKind) × IsAmong kind (fault_of (command_line choices) words) × (help ≡ true ↔ kind ≡ DisplayHelp))

-- why the words make no request
abbrev pub AreRefused : List Text → WordsFault → Type 0
AreRefused words (fault.Usage help text) = HaveFault words help
AreRefused words fault.Schedule = HaveBadSchedule words
AreRefused words fault.BookMerge = HaveBadBook words
AreRefused words fault.OutOfMemory = Unit {0}

-- why the matches of a subcommand make no request
abbrev pub IsFaultOf : Text → List Row → WordsFault → Type 0
IsFaultOf name rows (fault.Usage help text) = ⊥
IsFaultOf name rows fault.Schedule = (name ≡ codes "replay") × IsBadSchedule rows
IsFaultOf name rows fault.BookMerge = (name ≡ codes "explore") × IsBadBook rows
IsFaultOf name rows fault.OutOfMemory = Unit {0}

-- the fault reports an error of clap's of this kind
abbrev pub Tells : ErrorKind → WordsFault → Type 0
Tells kind (fault.Usage help text) = help ≡ true ↔ kind ≡ DisplayHelp
Tells kind fault.Schedule = ⊥
Tells kind fault.BookMerge = ⊥
Tells kind fault.OutOfMemory = Unit {0}
