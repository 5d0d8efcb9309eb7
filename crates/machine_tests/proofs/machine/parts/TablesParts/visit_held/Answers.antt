-- The row at a place is the part there.
use Rattle.std.proofs.Common.{◌≡◌, OnOk, ap, get_or, subst, sym}
use Rattle.std.specs.Prelude.{unwrap_or}
use Rattle.std.proofs.lemmas.Option.{slice_get-get_or}
use Rattle.tree_machine.specs.Coding.{IsVisited}
use Rattle.tree_machine.specs.Parts.{no_part, part_at}
use Rattle.machine_tests.proofs.machine.parts.TablesParts.visit_held.Goals as goal

pub returns : goal.returns
returns c =
    let rows = c.args.self.now.held.now in
    let row = c.index-self-index.result in
    let is : part_at rows c.args.index ≡ get_or rows c.args.index row =
    ap (λ r. unwrap_or r no_part) (slice_get-get_or rows c.args.index row c.requires.in_range) in
    subst (λ p. OnOk c.show.result
    (IsVisited p c.args.coder.now c.args.out.now c.show.new.coder c.show.new.out)) (sym is) c.show.ensures
