use Rattle.std.proofs.Common.{subst, refl}
use Rattle.sched_program.specs.Program.{IsWithinLimits}
use Rattle.tree_machine.specs.Laws.Codes.{state_code_tells, own_tells}
use Rattle.book.proofs.Machines.{first_book}
use Rattle.book.proofs.book.Book.open.Goals as goal

pub invariant_of-result : goal.invariant_of-result
invariant_of-result g c =
    let bound = g.met.M.Machine g.world.𝓛 g.world.𝓜 g.world.𝓡 ((λ s x. x), (λ x. x), (λ x. x), λ x. x) in
    let coding = g.met.M.Encode g.world.𝓛 g.world.𝓜 g.world.𝓡 ((λ s x. x), (λ x. x), (λ x. x), λ x. x) in
    let tells = own_tells g.M.Encode.front_code g.M.Encode.behind_code g.M.Encode.own_code coding.tells
    coding.own_cut in
    let first = c.in_ok-table.ensures in
    rw (first.3, first.4) (
      first_book g.M.Machine.rules g.M.Machine.form_of g.M.Encode.own_code g.M.Encode.form_code
          (state_code_tells g.M.Encode.own_code tells) coding.form_tells c.args.machine c.args.program
          (bound.lawful c.args.machine) (bound.forms c.args.machine)
          (subst IsWithinLimits c.program.view_is c.program.invariant) c.args.merge c.args.limit first.0 first.1 first.2
          first.5 first.6 c.requires.some c.requires.bounded,
      refl,
    )

pub returns-clause-start : goal.returns-clause-start
returns-clause-start g c = let first = c.in_ok-table.ensures in (_, first.3, first.2, refl)

pub returns-clause-limit : goal.returns-clause-limit
returns-clause-limit g c = refl
