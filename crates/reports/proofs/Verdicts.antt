-- One verdict is due.
use Rattle.std.proofs.Common.{◌≡◌, ℕ, ◌≤◌, sym, ◌∙◌, arith}
use Rattle.replay.specs.declared.finding.Finding.{Finding}
use Rattle.options.specs.declared.options.Merge.{Merge}
use Rattle.replay.specs.Schedule.{AreOneBy, StepMachine, IsMachine, IsDecided}
use Rattle.book.specs.Counts.{IsCount, IsMoreThan}
use Rattle.book.proofs.Agreeing.{count_as, turned}
use Rattle.reports.specs.declared.answer.Answer.{Answer}
use Rattle.reports.specs.declared.answer.Answer.TheVariants as answer
use Rattle.reports.specs.Faults.{IsLeastFault}
use Rattle.reports.specs.Due.{IsAbove, IsDue, IsSameVerdict}
use Rattle.reports.proofs.Reaching.{at_most, count_of}

module _ {S : Type 0} {m : StepMachine S} {Same : S → S → Type 0} (machine : IsMachine m) (test : IsDecided m Same)
  where
    -- a number of states by the test that decides which count as one is their number, and the other way round
    pub of_test : {n k : ℕ} → IsCount m (AreOneBy test.0) n k → IsCount m Same n k
    of_test {n} {k} count = count_as m machine (AreOneBy test.0) Same test.2 n k count

    by_test : {n k : ℕ} → IsCount m Same n k → IsCount m (AreOneBy test.0) n k
    by_test {n} {k} count =
        count_as m machine Same (AreOneBy test.0) (turned m machine (AreOneBy test.0) Same test.2) n k count

    no_less : {n k l : ℕ} → IsCount m Same n k → IsCount m Same n l → k ≤ l
    no_less count other =
        let a = by_test count in omega (arith, at_most test.1 (by_test other) a.states a.apart a.reached, a.many)

    -- n steps reach one number of states only
    pub one_count : {n k l : ℕ} → IsCount m Same n k → IsCount m Same n l → k ≡ l
    one_count count other = omega (arith, no_less count other, no_less other count)

    -- where more than `limit` states are reached, their number is above `limit`
    pub more_above : {limit n : ℕ} → IsMoreThan m (AreOneBy test.0) n limit → IsAbove m Same limit n
    more_above {limit} {n} more =
        let count = count_of machine test.1 n in
        (_, of_test count, omega (arith, at_most test.1 count more.states more.apart more.reached, more.many))

    module _ (right : S → Finding → Type 0) (merge : Merge) (n limit : ℕ) where
      one_fault : {F G : ℕ} → IsLeastFault m right F → IsLeastFault m right G → F ≡ G
      one_fault least other =
          let a = least.least other.schedule other.faulty in
          let b = other.least least.schedule least.faulty in
          omega (arith, a, b, least.long, other.long)

      pub one_verdict : (c d : ℕ) (a b : Answer) → IsDue m Same right merge n limit c a
          → IsDue m Same right merge n limit d b → IsSameVerdict c a d b
      one_verdict c d (answer.Stopped at to) (answer.Stopped other_at other_to) due also =
          (due.0 ∙ sym also.0, omega (arith, due.1.first _ also.1.above, also.1.first _ due.1.above))
      one_verdict c d (answer.Fault finding schedule) (answer.Fault other_finding other) due also =
          let e = one_fault due.1 also.1 in (e, one_count (rw e at due.4) also.4)
      one_verdict c d (answer.Holds steps) (answer.Holds other) due also =
          (due.0 ∙ sym also.0, one_count due.3 also.3)
      one_verdict c d answer.Every answer.Every due also = one_count due.2 also.2
      one_verdict c d (answer.Stopped at to) (answer.Fault finding schedule) due also =
          omega (arith, due.2 _ also.1, also.3 _ due.1)
      one_verdict c d (answer.Fault finding schedule) (answer.Stopped at to) due also =
          omega (arith, also.2 _ due.1, due.3 _ also.1)
      one_verdict c d (answer.Stopped at to) (answer.Holds steps) due also = also.2 _ due.1
      one_verdict c d (answer.Holds steps) (answer.Stopped at to) due also = due.2 _ also.1
      one_verdict c d (answer.Fault finding schedule) (answer.Holds steps) due also =
          omega (arith, also.1 _ due.1, due.2)
      one_verdict c d (answer.Holds steps) (answer.Fault finding schedule) due also =
          omega (arith, due.1 _ also.1, also.2)
      one_verdict c d answer.Every (answer.Holds steps) due also =
          also.4 due.3 due.4.0 due.4.1 (rw (one_count due.2 also.3) at due.4.2)
      one_verdict c d (answer.Holds steps) answer.Every due also =
          due.4 also.3 also.4.0 also.4.1 (rw (one_count also.2 due.3) at also.4.2)
      one_verdict c d (answer.Stopped at to) answer.Every due also = also.1 _ due.1
      one_verdict c d answer.Every (answer.Stopped at to) due also = due.1 _ also.1
      one_verdict c d (answer.Fault finding schedule) answer.Every due also = omega (arith, also.0 _ due.1, due.2)
      one_verdict c d answer.Every (answer.Fault finding schedule) due also = omega (arith, due.0 _ also.1, also.2)
