use Rattle.std.proofs.Common.{codes, sym}
use Rattle.std.proofs.ByRecursion.{All-push}
use Rattle.serde_json.specs.View.{view}
use Rattle.sched_program.specs.declared.fault.ProgramFault.TheVariants as fault
use Rattle.sched_program.specs.Text.{IsListOf, IsOp}
use Rattle.sched_program.specs.Faults.{HasKeys, HasWords, HasOpCounts, Passes, earlier}
use Rattle.sched_program.proofs.Values.{of_member}
use Rattle.sched_program.proofs.Members.{within, thread_counts, no_keys}
use Rattle.sched_program.proofs.text.threads_of.Goals as goal

pub returns-in-Some-2-clause-ok : goal.returns-in-Some-2-clause-ok
returns-in-Some-2-clause-ok c =
    let threads = view c.in-Some.threads.now in
    let list = rw c.in-Some-2.is at c.in_ok-threads.ensures.found in
    let bounded = within (IsListOf IsOp) threads c.in-Some-2.threads 1 4 list c.in-Some.ensures.found.1 in
    let counts : HasOpCounts threads = rw c.if-not-branch.false at c.in_ok-has_op_counts.ensures in (
      (threads, c.in-Some.ensures.found.0, list),
      bounded.0,
      bounded.1,
      thread_counts threads c.in-Some-2.threads list counts,
    )

pub returns-in-None-clause-err : goal.returns-in-None-clause-err
returns-in-None-clause-err c =
    let value = view c.args.value.now in
    let threads = view c.in-Some.threads.now in
    let at_threads = c.in-Some.ensures.found.0 in
    let counts : HasOpCounts threads = rw c.if-not-branch.false at c.in_ok-has_op_counts.ensures in
    let words : HasWords threads = rw c.if-not-branch-2.false at c.in_ok-has_words.ensures in
    let before_ops =
    All-push (Passes value) (earlier fault.Threads) fault.Threads c.requires
    (threads, at_threads, c.in-Some.ensures.found.1) in
    let before_op = All-push (Passes value) (earlier fault.Ops) fault.Ops before_ops (threads, at_threads, counts) in
    record {
      stands =
          λ has. no_keys threads words (rw c.in-None.is at c.in_ok-threads.ensures.none)
          (of_member HasKeys (codes "threads") value threads (sym at_threads) has);
      first = All-push (Passes value) (earlier fault.Op) fault.Op before_op (threads, at_threads, words);
    }
