-- What is read from the label of a state that fits the program fits it too.
use Rattle.std.proofs.Common.{◌≡◌, ℕ, List, sym, ◌∙◌, subst}
use Rattle.std.proofs.lemmas.Option.{IfSome_then}
use Rattle.sched_program.specs.Program.{Program}
use Rattle.tree_machine.specs.FormCode.{cut_code, named_code, state_code}
use Rattle.tree_machine.specs.Naming.{code_by}
use Rattle.tree_machine.specs.Rules.{Rules}
use Rattle.tree_machine.specs.Step.{Fits}
use Rattle.tree_machine.specs.declared.naming.Naming.{Naming}
use Rattle.tree_machine.specs.declared.naming.Naming.TheVariants.{Own, Canonical}
use Rattle.tree_machine.specs.declared.state.State.{State}
use Rattle.tree_machine.proofs.Forms.{numbers_fit}
use Rattle.machine_tests.proofs.machine.labels.read_label.Goals as goal

fits_too : {Machine Memory Place Form : Type 0} (rules : Rules Memory Place) (program : Program)
    (state twin : State Machine Memory Place Form) (naming : Naming) (read whole named : List ℕ)
    → Fits rules program state → read ≡ code_by naming whole named → (read ≡ whole → twin ≡ state)
    → (read ≡ named → Fits rules program twin) → Fits rules program twin
fits_too rules program state twin Own read whole named fits is own canonical =
    subst (Fits rules program) (sym (own is)) fits
fits_too rules program state twin Canonical read whole named fits is own canonical = canonical is

pub returns-clause-fits : goal.returns-clause-fits
returns-clause-fits g c =
    let how = c.args.how.now in
    let rules = g.M.Machine.rules how.machine in
    let some = c.requires.labelled in
    let twin = c.decode.new.self in
    IfSome_then c.in_ok-read.read c.in_ok-read.ensures (λ offsets cut.
    fits_too rules how.program.now some.0 twin how.naming
    (state_code (cut_code g.M.Encode.front_code g.M.Encode.behind_code offsets.front) twin)
    (state_code g.M.Encode.own_code some.0)
    (named_code g.M.Encode.form_code (g.M.Machine.form_of how.machine) some.0) some.1
    (sym cut.written ∙ some.2) (c.decoded_law.ensures.own offsets.front some.0)
    (λ same. (c.decoded_law.ensures.named offsets.front some.0
    (numbers_fit rules how.program.now some.0 some.1) same).1 how.program.now some.1))
