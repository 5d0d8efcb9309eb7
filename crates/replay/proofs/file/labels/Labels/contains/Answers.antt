use Rattle.std.proofs.Common.{nat_eq, sym, ◌∙◌}
use Rattle.std.proofs.lemmas.Cmp.{nat_list_eq_equiv}
use Rattle.std.specs.Cmp.Lexicographic.{pointwise}
use Rattle.sched_program.specs.Laws.Exact.{nat_exact, list_exact}
use Rattle.replay.proofs.BookFile.Placed.{label_found}
use Rattle.replay.proofs.file.labels.Labels.contains.Goals as goal

pub returns : goal.returns
returns c =
    let found =
    label_found (pointwise nat_eq) nat_list_eq_equiv (list_exact nat_exact) c.self.inside.distinct.keys
    c.self.inside.places.items c.self.invariant c.args.label.now in
    rw (← c.self.view_is) ((λ yes. found.0 (sym c.contains.ensures ∙ yes)), (λ has. c.contains.ensures ∙ found.1 has))
