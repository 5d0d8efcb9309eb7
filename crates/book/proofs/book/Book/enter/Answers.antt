use Rattle.book.proofs.OwnSteps.{entered_own, own_steps, refused_own}
use Rattle.book.proofs.book.Book.enter.Goals as goal

pub enter_steps-requires-clause-taken : goal.enter_steps-requires-clause-taken
enter_steps-requires-clause-taken g c = λ κs within. c.in_default.ensures.admitted.0

pub enter_steps-requires-clause-steps : goal.enter_steps-requires-clause-steps
enter_steps-requires-clause-steps g c =
    λ κs within e at. own_steps g.M.Machine.rules g.M.Encode.own_code g.M.Encode.form_code g.M.Machine.form_of
    c.args.self.now c.args.id e at c.args.expansion c.in_default.ensures.admitted.1 c.law.ensures
    c.in-Ok.steps.items (rw (← c.self.view_is) c.in-Ok.ensures)

pub returns-clause-entered : goal.returns-clause-entered
returns-clause-entered g c =
    let admitted = c.in_default.ensures.admitted in
    entered_own g.M.Machine.rules g.M.Encode.own_code g.M.Encode.form_code g.M.Machine.form_of c.args.self.now
    c.args.id admitted.0.0 admitted.0.1 c.args.expansion admitted.1 c.law.ensures
    c.in-Ok.steps.items (rw (← c.self.view_is) c.in-Ok.ensures)
    c.enter_steps.new.self c.enter_steps.result c.enter_steps.ensures.entered

pub returns-clause-refused : goal.returns-clause-refused
returns-clause-refused g c =
    let admitted = c.in_default.ensures.admitted in
    refused_own g.M.Machine.rules g.M.Encode.own_code g.M.Encode.form_code g.M.Machine.form_of c.args.self.now
    c.args.id admitted.0.0 admitted.0.1 c.args.expansion admitted.1 c.law.ensures
    c.in-Ok.steps.items (rw (← c.self.view_is) c.in-Ok.ensures)
    admitted.0 c.enter_steps.result c.enter_steps.ensures.refused
