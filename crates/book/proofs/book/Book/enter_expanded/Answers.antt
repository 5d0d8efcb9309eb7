use Rattle.std.proofs.Common.{refl}
use Rattle.book.proofs.OwnSteps.{entered_keyed, keyed_steps, refused_keyed}
use Rattle.book.proofs.book.Book.enter_expanded.Goals as goal

pub enter_steps-requires-clause-taken : goal.enter_steps-requires-clause-taken
enter_steps-requires-clause-taken g c = λ κs within. (rw (← c.entry.view_is) at c.in_default.ensures.admitted).0

pub enter_steps-requires-clause-steps : goal.enter_steps-requires-clause-steps
enter_steps-requires-clause-steps g c =
    let id = c.entry.inside.key.id in
    let admitted = rw (← c.entry.view_is) at c.in_default.ensures.admitted in
    λ κs within e at. keyed_steps g.M.Machine.rules g.M.Encode.own_code g.M.Encode.form_code g.M.Machine.form_of
    c.args.self.now id e at _ admitted.1 c.entry.invariant (c.law.ensures.law.law.fit id e at) refl

pub returns-clause-entered : goal.returns-clause-entered
returns-clause-entered g c =
    let id = c.entry.inside.key.id in
    let admitted = rw (← c.entry.view_is) at c.in_default.ensures.admitted in
    let taken = admitted.0 in
    rw (← c.entry.view_is) (entered_keyed g.M.Machine.rules g.M.Encode.own_code g.M.Encode.form_code
    g.M.Machine.form_of c.args.self.now id taken.0 taken.1 _ admitted.1 c.entry.invariant
    (c.law.ensures.law.law.fit id taken.0 taken.1) refl c.enter_steps.new.self c.enter_steps.result
    c.enter_steps.ensures.entered)

pub returns-clause-refused : goal.returns-clause-refused
returns-clause-refused g c =
    let id = c.entry.inside.key.id in
    let admitted = rw (← c.entry.view_is) at c.in_default.ensures.admitted in
    let taken = admitted.0 in
    rw (← c.entry.view_is) (refused_keyed g.M.Machine.rules g.M.Encode.own_code g.M.Encode.form_code
    g.M.Machine.form_of c.args.self.now id taken.0 taken.1 _ admitted.1 c.entry.invariant
    (c.law.ensures.law.law.fit id taken.0 taken.1) refl taken c.enter_steps.result c.enter_steps.ensures.refused)
