-- The text of a book file: its lines, and which line is the first that is not in the form.
use Rattle.std.specs.Prelude.{◌≡◌, ◌≢◌, ℕ, ◌+◌, ◌<◌, ◌≤◌, ◌⊎◌, min, List, [], ◌∷◌, ◌++◌, codes, length, slice_index}
use Rattle.std.specs.List.{AllByRecursion, AllZip, flat_map}
use Rattle.std.specs.Str.Parse.{IsNumeral, digits_value}
use Rattle.sched_program.specs.declared.operation.OpId.{OpId}
use Rattle.replay.specs.declared.file.fault.CheckFault.{CheckFault}
use Rattle.replay.specs.declared.file.fault.CheckFault.TheVariants.{Form}
use Rattle.replay.specs.declared.file.line.BookLine.{BookLine}

abbrev pub line_feed : ℕ
line_feed = 10

abbrev pub space : ℕ
space = 32

abbrev pub comma : ℕ
comma = 44

abbrev pub point : ℕ
point = 46

abbrev pub digit : ℕ → ℕ
digit n = 48 + n

-- the texts, a line feed after each
abbrev pub ended : List (List ℕ) → List ℕ
ended [] = []
ended (text ∷ texts) = text ++ line_feed ∷ ended texts

-- the bytes are these lines, each ended by a line feed, and nothing more
pub record AreLines (bytes : List ℕ) (texts : List (List ℕ)) : Type 0 where
  pub whole : bytes ≡ ended texts
  pub bare : AllByRecursion (AllByRecursion (λ b. b ≢ line_feed)) texts

-- the text is the number in decimal without leading zeros. It may have any number of digits
pub record IsNumber (text : List ℕ) (number : ℕ) : Type 0 where
  pub digits : IsNumeral 10 text
  pub no_leading_zero : slice_index text 0 ≡ digit 0 → length text ≡ 1
  pub value : digits_value 10 text ≡ number

-- the name of an operation: one digit, a point, one digit
abbrev pub name_text : OpId → List ℕ
name_text id = digit id.thread ∷ point ∷ digit id.index ∷ []

-- the names, a comma before each
abbrev pub commaed : List OpId → List ℕ
commaed ids = flat_map (λ id. comma ∷ name_text id) ids

-- the names joined by commas, or a dash if there are none
abbrev pub order_text : List OpId → List ℕ
order_text [] = codes "-"
order_text (id ∷ ids) = name_text id ++ commaed ids

-- each number of the name is one digit
pub record IsName (id : OpId) : Type 0 where
  pub thread : id.thread < 10
  pub index : id.index < 10

-- the text is the names of this order
pub record IsOrder (text : List ℕ) (order : List OpId) : Type 0 where
  pub names : AllByRecursion IsName order
  pub whole : text ≡ order_text order

-- the text of the line of an entry after the first. A parent's number from 2,000,000 on counts as that, since no entry
-- has it
pub record IsEntryLine (text : List ℕ) (line : BookLine) : Type 0 where
  pub parent : List ℕ
  pub number : ℕ
  pub is_number : IsNumber parent number
  pub counted : line.parent ≡ min number 2000000
  pub thread : line.thread < 10
  pub order : List ℕ
  pub is_order : IsOrder order line.order
  pub whole : text ≡ parent ++ space ∷ digit line.thread ∷ space ∷ order

-- the first line of a file with `entries` entries
pub record IsHead (text : List ℕ) (entries : ℕ) : Type 0 where
  pub number : List ℕ
  pub is_number : IsNumber number entries
  pub some : 1 ≤ entries
  pub bounded : entries ≤ 2000000
  pub whole : text ≡ codes "treesched book 1 entries " ++ number

-- the line of the first entry
abbrev pub start_text : List ℕ
start_text = codes "- - -"

-- the bytes are a head and these texts, a line each: the head states how many texts there are, and nothing follows the
-- last line
pub record HasHead (bytes : List ℕ) (texts : List (List ℕ)) : Type 0 where
  pub head : List ℕ
  pub are_lines : AreLines bytes (head ∷ texts)
  pub is_head : IsHead head (length texts)

-- the bytes are the text of these lines of the entries after the first
pub record IsBookText (bytes : List ℕ) (lines : List BookLine) : Type 0 where
  pub texts : List (List ℕ)
  pub has_head : HasHead bytes (start_text ∷ texts)
  pub each : AllZip IsEntryLine texts lines

-- the text is an entry's line
abbrev pub IsEntryText : List ℕ → Type 0
IsEntryText text = (line : BookLine) × IsEntryLine text line

-- the first line is not in the form
pub record IsHeadMisformed (bytes : List ℕ) (number : ℕ) : Type 0 where
  pub misformed : (texts : List (List ℕ)) → ¬ HasHead bytes texts
  pub place : number ≡ 1

-- the first line is in the form, and the second is not
pub record IsStartMisformed (bytes : List ℕ) (number : ℕ) : Type 0 where
  pub text : List ℕ
  pub later : List (List ℕ)
  pub has_head : HasHead bytes (text ∷ later)
  pub misformed : text ≢ start_text
  pub place : number ≡ 2

-- the first two lines are in the form and so are some after them, and the next one is not
pub record IsEntryMisformed (bytes : List ℕ) (number : ℕ) : Type 0 where
  pub earlier : List (List ℕ)
  pub text : List ℕ
  pub later : List (List ℕ)
  pub has_head : HasHead bytes (start_text ∷ earlier ++ text ∷ later)
  pub formed : AllByRecursion IsEntryText earlier
  pub misformed : ¬ IsEntryText text
  pub place : number ≡ length earlier + 3

-- line `number`, counted from 1, is the first that is not in the form
abbrev pub IsFirstMisformed : List ℕ → ℕ → Type 0
IsFirstMisformed bytes number =
    IsHeadMisformed bytes number ⊎ IsStartMisformed bytes number ⊎ IsEntryMisformed bytes number

-- the fault names that line
abbrev pub IsFormFault : List ℕ → CheckFault → Type 0
IsFormFault bytes fault = (number : ℕ) × (fault ≡ Form number) × IsFirstMisformed bytes number

-- the bytes from the third line on are lines, and the fault names the first that is not an entry's
abbrev pub IsEntriesFault : List ℕ → CheckFault → Type 0
IsEntriesFault bytes fault = (earlier : List (List ℕ)) × (text : List ℕ) × (later : List (List ℕ))
    × AreLines bytes (earlier ++ text ∷ later) × AllByRecursion IsEntryText earlier × ¬ IsEntryText text
    × (fault ≡ Form (length earlier + 3))
