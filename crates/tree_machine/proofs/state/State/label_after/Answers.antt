use Rattle.std.proofs.Common.{◌≡◌, ◌++◌, [], if◌then◌else◌, append_assoc, sym, ◌∙◌}
use Rattle.tree_machine.specs.Flat.{number_code}
use Rattle.tree_machine.specs.Offsets.{op_log_of}
use Rattle.tree_machine.proofs.Labels.{label_is}
use Rattle.tree_machine.proofs.state.State.label_after.Goals as goal

pub returns : goal.returns
returns g c =
    let origin = c.args.origin.now in
    let state = c.args.self.now in
    let steps = number_code c.label_steps.result in
    let front = if origin.undo.now.reads then g.M.Encode.front_code origin.offsets.front state.memory else [] in
    let put : c.put_front.new.buffer ≡ (steps ++ op_log_of state) ++ front =
    rw (c.in_ok-put_front.ensures, c.in_ok-put_number.ensures, c.clear.ensures)
    (sym (append_assoc steps (op_log_of state) front)) in
    c.in_ok-copied_in.ensures ∙ c.as_slice.ensures ∙ c.in_ok-put_rest.ensures (steps ++ op_log_of state) put
    ∙ append_assoc steps (op_log_of state) _
    ∙ rw c.label_steps.ensures
    (label_is c.args.naming g.M.Encode.own_code g.M.Encode.form_code (g.M.Machine.form_of c.args.machine) state)
