use Rattle.serde_json.specs.View.{view}
use Rattle.sched_program.proofs.Texts.{only_program, no_program}
use Rattle.sched_program.proofs.program.Program.from_json.Goals as goal

pub returns-in-Ok-clause-only : goal.returns-in-Ok-clause-only
returns-in-Ok-clause-only c =
    only_program c.args.text.now (view c.in-Ok.value) c.in-Ok.ensures.ok.1 c.program_of.result c.program_of.ensures.ok

pub returns-in-Ok-clause-refused : goal.returns-in-Ok-clause-refused
returns-in-Ok-clause-refused c =
    no_program c.args.text.now (view c.in-Ok.value) c.in-Ok.ensures.ok.1 c.program_of.result c.program_of.ensures.err
