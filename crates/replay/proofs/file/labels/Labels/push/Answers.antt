use Rattle.std.proofs.Common.{◌++◌, ◌∷◌, [], List, ℕ, Some, ap, nat_eq, sym, ◌∙◌}
use Rattle.std.specs.List.{list_any}
use Rattle.std.specs.Cmp.Lexicographic.{pointwise}
use Rattle.sched_program.specs.Laws.Exact.{nat_exact, list_exact}
use Rattle.replay.proofs.BookFile.Placed.{label_put}
use Rattle.replay.proofs.file.labels.Labels.push.Goals as goal

pub invariant_of-self-2 : goal.invariant_of-self-2
invariant_of-self-2 c =
    let stored = c.in_ok-place.ensures.stored in
    let put =
    label_put c.in_ok-place.place (list_any (pointwise nat_eq c.args.label) c.self.inside.distinct.keys)
    c.in_ok-place.ensures.keys c.self.invariant
    (stored.1 ∙ ap Some (sym (list_exact nat_exact c.args.label stored.0 stored.2))) in
    rw (c.push_reserved.ensures.items, c.in_ok-reserve.ensures.items) put.0

pub returns : goal.returns
returns c =
    let stored = c.in_ok-place.ensures.stored in
    let put =
    label_put c.in_ok-place.place (list_any (pointwise nat_eq c.args.label) c.self.inside.distinct.keys)
    c.in_ok-place.ensures.keys c.self.invariant
    (stored.1 ∙ ap Some (sym (list_exact nat_exact c.args.label stored.0 stored.2))) in
    rw (c.push_reserved.ensures.items, c.in_ok-reserve.ensures.items)
    (put.1 ∙ ap (λ (ls : List (List ℕ)). ls ++ c.args.label ∷ []) c.self.view_is)
