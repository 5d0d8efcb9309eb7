use Rattle.std.proofs.Common.{◌∙◌, refl, sym, append-nil}
use Rattle.std.proofs.lemmas.Result.{on_ok_weaker}
use Rattle.tree_machine.specs.FormCode.{cut_code}
use Rattle.tree_machine.proofs.Labels.{read_from}
use Rattle.tree_machine.proofs.state.State.put_rest.Goals as goal

pub write_behind-requires-clause-read : goal.write_behind-requires-clause-read
write_behind-requires-clause-read g c =
    let origin = c.args.origin.now in
    read_from c.args.naming g.M.Encode.own_code g.M.Encode.form_code (g.M.Machine.form_of c.args.machine)
    c.requires.coded.0 (g.M.Machine.rules c.args.machine)
    (cut_code g.M.Encode.front_code g.M.Encode.behind_code origin.offsets.front) origin.state.now.value
    c.args.self.now.memory c.requires.coded.1
    (sym c.requires.offsets.written ∙ c.requires.coded.2) (c.requires.memory (sym c.reads.ensures ∙ c.if-reads.true))

pub returns-else-reads : goal.returns-else-reads
returns-else-reads g c =
    on_ok_weaker c.write_code.result
    (λ put before e. put
    ∙ rw (e, sym c.reads.ensures ∙ c.if-reads.false, c.as_slice-threads.ensures, append-nil before)
    refl) c.write_code.ensures
