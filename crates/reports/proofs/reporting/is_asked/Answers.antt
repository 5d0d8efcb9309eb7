-- The book is the one that was asked for if each of its parts is.
use Rattle.std.proofs.Common.{◌≡◌, ◌∙◌, sym, rules}
use Rattle.std.proofs.lemmas.Bool.{eqb-true, false≢true}
use denote.Enum.Bare.{same_true}
use Rattle.options.specs.contracts.options.Merge.{the_type}
use Rattle.reports.proofs.reporting.is_asked.Goals.{then-is_of, else-is_of}
use Rattle.reports.proofs.reporting.is_asked.Goals as goal

pub returns-then-limit : goal.returns-then-limit
returns-then-limit g c = elim c.if-is_of.branch [
  | then-is_of w ↦ (
    (λ h.
        let own = c.is_of.ensures.0 w.if-is_of.true in
        let limits : w.limit.result ≡ w.limit-then-is_of.result =
        eqb-true w.limit.result w.limit-then-is_of.result (sym w.value-is ∙ c.if-limit.true) in
        record {
          machine = own.0;
          program = own.1;
          limit = sym w.limit.ensures ∙ limits ∙ w.limit-then-is_of.ensures;
          merge = sym c.merge.ensures
              ∙ same_true the_type (search rules) _ _ (sym c.eq.ensures ∙ h) ∙ c.merge-then-limit.ensures;
        }),
    (λ is. search rules),
  )
  | else-is_of w ↦ absurd (false≢true (sym w.if-is_of.false ∙ sym w.value-is ∙ c.if-limit.true))
]
