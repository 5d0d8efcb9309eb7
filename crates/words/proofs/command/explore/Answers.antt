use Rattle.std.proofs.Common.{◌≡◌, ◌∙◌, ap, ap₂, codes}
use Rattle.std.proofs.lemmas.Result.{IfOk-weaker}
use Rattle.clap.specs.Words.{app_of, new_app, with_rule}
use Rattle.clap.specs.Simple.{app_of_fields}
use Rattle.words.proofs.command.explore.Goals as goal

pub returns-clause-app : goal.returns-clause-app
returns-clause-app c =
    let named : app_of c.about.result ≡ new_app (codes "explore") =
    ap app_of_fields c.about.ensures ∙ c.new.ensures.app in
    let file = c.in_ok-arg.ensures.shape c.file.ensures.local ∙ ap₂ with_rule named c.file.ensures.rule in
    let steps = c.in_ok-arg-2.ensures.shape c.steps.ensures.local ∙ ap₂ with_rule file c.steps.ensures.rule in
    let workers = c.in_ok-arg-3.ensures.shape c.workers.ensures.local ∙ ap₂ with_rule steps c.workers.ensures.rule in
    let states = c.in_ok-arg-4.ensures.shape c.states.ensures.local ∙ ap₂ with_rule workers c.states.ensures.rule in
    let choices = c.merge.ensures.rule in
    let merge = c.in_ok-arg-5.ensures.shape c.merge.ensures.local ∙ ap₂ with_rule states choices.2 in
    let ledger = c.in_ok-arg-6.ensures.shape c.ledger.ensures.local ∙ ap₂ with_rule merge c.ledger.ensures.rule in
    IfOk-weaker c.arg-7.result _ _
    (λ m h. (choices.0, choices.1, h.shape c.book_out.ensures.local ∙ ap₂ with_rule ledger c.book_out.ensures.rule))
    c.arg-7.ensures

pub returns-clause-local : goal.returns-clause-local
returns-clause-local c =
    let named = rw c.new.ensures.local at (ap (λ f. f.has_globals) c.about.ensures) in
    let file = rw (named, c.file.ensures.local) at c.in_ok-arg.ensures.globals in
    let steps = rw (file, c.steps.ensures.local) at c.in_ok-arg-2.ensures.globals in
    let workers = rw (steps, c.workers.ensures.local) at c.in_ok-arg-3.ensures.globals in
    let states = rw (workers, c.states.ensures.local) at c.in_ok-arg-4.ensures.globals in
    let merge = rw (states, c.merge.ensures.local) at c.in_ok-arg-5.ensures.globals in
    let ledger = rw (merge, c.ledger.ensures.local) at c.in_ok-arg-6.ensures.globals in
    IfOk-weaker c.arg-7.result _ _ (λ m h. rw (ledger, c.book_out.ensures.local) at h.globals) c.arg-7.ensures
