use Rattle.std.proofs.Common.{rules, ◌≢◌, ◌∷◌, [], AllPairs}
use Rattle.serde_json.specs.View.{view}
use Rattle.sched_program.specs.declared.fault.ProgramFault.TheVariants as fault
use Rattle.sched_program.specs.Faults.{Passes}
use Rattle.sched_program.proofs.Members.{not_distinct, limits_met, passes_to_threads, threads_pass}
use Rattle.sched_program.proofs.text.program_of.Goals as goal

pub returns-then-not-is_distinct-clause-err : goal.returns-then-not-is_distinct-clause-err
returns-then-not-is_distinct-clause-err c =
    let value = view c.args.value.now in
    let initial = c.in_ok-initial.ensures.ok in
    record {
      stands = not_distinct value c.in_ok-initial.initial initial.0 (search rules);
      first =
          let short : Passes value fault.Initial =
          (initial.0.0, initial.0.1, (c.in_ok-initial.initial, initial.0.2, initial.1)) in
          let version : Passes value fault.Version = (c.in-Some.version, c.in-Some.ensures.found) in
          let tree : Passes value fault.Tree = (c.in-Some-tree_of.tree, c.in-Some-tree_of.ensures.found) in
          (search rules, (version, (tree, (short, tt))));
    }

pub returns-in_default-2-clause-err : goal.returns-in_default-2-clause-err
returns-in_default-2-clause-err c =
    let value = view c.args.value.now in
    let keys = c.in_ok-initial.initial in
    let initial = c.in_ok-initial.ensures.ok in
    let distinct : AllPairs (λ a b. a ≢ b) keys = search rules in
    let threads = c.in_ok-threads.ensures.ok in
    let pass = threads_pass value c.in_ok-threads.threads threads.0 threads.1 threads.2 threads.3 in
    let more = fault.Threads ∷ fault.Ops ∷ fault.Op ∷ fault.Key ∷ [] in
    record {
      stands = rw c.in_default-2.is at c.in_ok-turns.ensures.none;
      first = passes_to_threads value c.in-Some.version c.in-Some-tree_of.tree keys (search rules)
          c.in-Some.ensures.found c.in-Some-tree_of.ensures.found initial.0 initial.1 distinct more
          (pass.0, (pass.1, (pass.2, (pass.3, tt))));
    }

pub new-requires : goal.new-requires
new-requires c =
    let initial = c.in_ok-initial.ensures.ok in
    let threads = c.in_ok-threads.ensures.ok in
    let turns = rw c.in-Some-2.is at c.in_ok-turns.ensures.found in
    limits_met (view c.args.value.now) c.in-Some.version c.in-Some-tree_of.tree c.in_ok-initial.initial
    c.in_ok-threads.threads c.in-Some-2.turns initial.0 initial.1 (search rules) threads.0 threads.1 threads.2
    threads.3 turns.0 (rw c.as_slice-2.ensures at turns.1)

pub threads_of-requires : goal.threads_of-requires
threads_of-requires c =
    let value = view c.args.value.now in
    let keys = c.in_ok-initial.initial in
    let initial = c.in_ok-initial.ensures.ok in
    let distinct : AllPairs (λ a b. a ≢ b) keys = search rules in
    passes_to_threads value c.in-Some.version c.in-Some-tree_of.tree keys (search rules) c.in-Some.ensures.found
    c.in-Some-tree_of.ensures.found initial.0 initial.1 distinct [] tt
