-- The due answer.
use Rattle.std.specs.Prelude.{◌≡◌, ℕ, ◌+◌, ◌<◌, ◌≤◌, length}
use Rattle.replay.specs.declared.finding.Finding.{Finding}
use Rattle.options.specs.declared.options.Merge.{Merge}
use Rattle.options.specs.declared.options.Merge.TheVariants.{Names}
use Rattle.replay.specs.Schedule.{StepMachine}
use Rattle.book.specs.Counts.{IsCount}
use Rattle.reports.specs.declared.answer.Answer.{Answer}
use Rattle.reports.specs.declared.answer.Answer.TheVariants as answer
use Rattle.reports.specs.Faults.{LeadsToFault, IsLeastFault}

module _ {S : Type 0} (m : StepMachine S) (Same : S → S → Type 0) where
  -- the number of states that j steps reach is above the limit
  abbrev pub IsAbove : ℕ → ℕ → Type 0
  IsAbove limit j = (k : ℕ) × IsCount m Same j k × (limit < k)

  -- j is the least number of steps, up to n, by which more states are reached than the limit
  pub record IsFirstAbove (n limit j : ℕ) : Type 0 where
    pub within : j ≤ n
    pub above : IsAbove limit j
    pub first : (i : ℕ) → IsAbove limit i → j ≤ i

-- The answer that is due for schedules of at most n steps and a limit of states, with the number of states that it
-- reports; those that are the same count as one. Let F be the least length of a schedule that reaches a fault, and J
-- the least number of steps, up to n, by which more states are reached than the limit; either may not exist. The first
-- case that fits decides.
module _ {S : Type 0} (m : StepMachine S) (Same : S → S → Type 0) (right : S → Finding → Type 0) (merge : Merge)
    (n limit : ℕ) where
  abbrev pub IsDue : ℕ → Answer → Type 0
  -- J exists, and F does not or J is at most F: stopped, one step before J
  IsDue count (answer.Stopped at holds_to) =
      (at ≡ limit) × IsFirstAbove m Same n limit (holds_to + 1) × ((F : ℕ) → IsLeastFault m right F → holds_to + 1 ≤ F)
  -- F exists and is at most n: the answer is a schedule of F steps that reaches a fault, with the number of states that
  -- F steps reach
  IsDue count (answer.Fault finding schedule) =
      LeadsToFault m right schedule.items finding × IsLeastFault m right (length schedule.items)
      × (length schedule.items ≤ n)
      × ((J : ℕ) → IsFirstAbove m Same n limit J → length schedule.items < J)
      × IsCount m Same (length schedule.items) count
  -- else, states being merged by names, n steps reach no more states than one step fewer: every schedule holds
  IsDue count answer.Every =
      ((F : ℕ) → IsLeastFault m right F → n < F) × ((J : ℕ) → IsFirstAbove m Same n limit J → ⊥)
      × IsCount m Same n count
      × (merge ≡ Names) × ((before : ℕ) × (n ≡ before + 1) × IsCount m Same before count)
  -- otherwise: holds, with the number of states that n steps reach
  IsDue count (answer.Holds steps) =
      (steps ≡ n) × ((F : ℕ) → IsLeastFault m right F → n < F) × ((J : ℕ) → IsFirstAbove m Same n limit J → ⊥)
      × IsCount m Same n count
      × (merge ≡ Names → (before : ℕ) → n ≡ before + 1 → IsCount m Same before count → ⊥)

-- One verdict, with equal numbers and state counts; a fault's finding and schedule may differ, but not its length.
abbrev pub IsSameVerdict : ℕ → Answer → ℕ → Answer → Type 0
IsSameVerdict count (answer.Stopped limit holds_to) other (answer.Stopped other_limit other_holds_to) =
    (limit ≡ other_limit) × (holds_to ≡ other_holds_to)
IsSameVerdict count (answer.Fault finding schedule) other (answer.Fault other_finding other_schedule) =
    (length schedule.items ≡ length other_schedule.items) × (count ≡ other)
IsSameVerdict count (answer.Holds steps) other (answer.Holds other_steps) = (steps ≡ other_steps) × (count ≡ other)
IsSameVerdict count answer.Every other answer.Every = count ≡ other
IsSameVerdict count _ other _ = ⊥
