use Rattle.std.proofs.Common.{◌≡◌, ap, refl, sym, ◌∙◌}
use Rattle.std.proofs.lemmas.Option.{slice_get_within}
use Rattle.tree_machine.specs.FormCode.{state_code}
use Rattle.tree_machine.specs.Laws.Codes.{state_code_tells, own_tells}
use Rattle.book.specs.Labels.{label_by}
use Rattle.book.proofs.EntryLabels.{label_there, own_from}
use Rattle.book.proofs.book.Book.is_expansion_of.Goals as goal

pub label-requires : goal.label-requires
label-requires g c =
    let taken = rw (← c.self.view_is) at c.requires in
    slice_get_within c.self.inside.table.entries c.args.id taken.0 taken.1

pub returns-in-Exact-clause-answer : goal.returns-in-Exact-clause-answer
returns-in-Exact-clause-answer g c =
    let s = c.self.inside in
    let coding = g.met.M.Encode g.world.𝓛 g.world.𝓜 g.world.𝓡 ((λ s x. x), (λ x. x), (λ x. x), λ x. x) in
    let tells = own_tells g.M.Encode.front_code g.M.Encode.behind_code g.M.Encode.own_code coding.tells
    coding.own_cut in
    let taken = rw (← c.self.view_is) at c.requires in
    let code : c.label.result.now ≡ state_code g.M.Encode.own_code taken.0.state =
    rw c.in-Exact.is at (label_there (label_by g.M.Encode.own_code g.M.Encode.form_code
    (g.M.Machine.form_of s.machine) s.merge) s.table c.self.invariant.1 c.args.id taken.0 taken.1 _ c.label.ensures) in
    rw (← c.self.view_is) (
      (λ yes. let own = c.is_coded.ensures.0 yes in
          own_from {X = g.row.M.Denot} _ _ _ _ _ _ _ taken.1 refl own.0 own.1
          (state_code_tells g.M.Encode.own_code tells _ _ (own.2 ∙ code))),
      (λ own. c.is_coded.ensures.1 (
        own.machine,
        own.program,
        ap (state_code g.M.Encode.own_code) (own.source taken.0 taken.1) ∙ sym code,
      )),
    )

pub returns-in_ok-state-in-Names-clause-answer : goal.returns-in_ok-state-in-Names-clause-answer
returns-in_ok-state-in-Names-clause-answer g c =
    let there = rw (← c.self.view_is) at c.in_ok-state-in-Names.ensures in
    rw (← c.self.view_is) (
      (λ yes. let own = c.is_of.ensures.0 yes in
          own_from {X = g.row.M.Denot} _ _ _ _ _ _ _ there.1 (sym there.2) own.0 own.1 own.2),
      (λ own. c.is_of.ensures.1 (own.machine, own.program, own.source there.0 there.1 ∙ there.2)),
    )
