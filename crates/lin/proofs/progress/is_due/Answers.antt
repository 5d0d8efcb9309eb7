use Rattle.std.proofs.Common.{not, true≢false, sym, ◌∙◌, ap}
use Rattle.lin.proofs.Steps.{in_time, in_no_set, none_missing, by_test}
use Rattle.lin.proofs.progress.is_due.Goals as goal

pub returns-then-not-contains : goal.returns-then-not-contains
returns-then-not-contains c =
    let earlier = ap (λ f. f c.args.name) c.union.ensures in
    let sets = ap (λ f. f c.args.name) c.union-2.ensures in
    by_test c.is_within.result
    (λ yes. in_time c.args.timeline.now _ _ _ _ c.requires.place c.requires.barred c.requires.before (cc))
    (λ no program keys rest completes. true≢false (sym (c.is_within.ensures.1 (λ a among.
    none_missing c.args.timeline.now _ _ _ _ c.requires.place c.requires.barred c.requires.before program keys rest
    completes c.finished.ensures.events _ c.finished.ensures.value a
    (sym (ap (λ f. f a) c.intersection.ensures) ∙ among))) ∙ no))

pub returns-else-not-contains : goal.returns-else-not-contains
returns-else-not-contains c =
    let earlier = ap (λ f. f c.args.name) c.union.ensures in
    let sets = ap (λ f. f c.args.name) c.union-2.ensures in
    by_test (not c.contains.result) (λ yes. absurd (cc))
    (λ no program keys rest completes.
    in_no_set c.args.timeline.now _ _ _ _ c.requires.place c.requires.barred c.requires.before program keys
    rest completes (cc))
