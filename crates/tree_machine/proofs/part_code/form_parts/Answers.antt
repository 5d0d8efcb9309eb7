use Rattle.std.proofs.Common.{◌≡◌, ◌++◌, ap, sym, ◌∙◌}
use Rattle.tree_machine.specs.Canonical.{canonical_code}
use Rattle.tree_machine.specs.Laws.CanonicalCodes.{canonical_codes_exactly}
use Rattle.tree_machine.proofs.part_code.form_parts.Goals as goal

pub returns-clause-exact : goal.returns-clause-exact
returns-clause-exact g c other fits l =
    let s = g.P.Parts.parts c.args.parts.now in
    let is : c.into_bytes.result ≡ canonical_code c.args.fixed s = c.into_bytes.ensures
    ∙ c.in_ok-write_canonical.ensures ∙ ap (λ b. b ++ canonical_code c.args.fixed s) c.new-buffer.ensures in
    let exact = canonical_codes_exactly c.args.fixed s other c.requires fits l in
    (λ e. exact.0 (sym is ∙ e), λ p. is ∙ exact.1 p)
