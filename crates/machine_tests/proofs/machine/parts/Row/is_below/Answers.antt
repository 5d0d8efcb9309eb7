-- The records of the stack come behind the other ones.
use Rattle.std.proofs.Common.{◌<◌, refl, map, subst}
use Rattle.std.specs.Prelude.{Some, IfSome}
use Rattle.std.proofs.lemmas.List.Elements.{All-append, All-map}
use Rattle.tree_machine.specs.Parts.{IsPartBelow}
use Rattle.machine_tests.proofs.machine.parts.Row.is_below.Goals as goal

pub returns : goal.returns
returns c stated =
    let row = c.self.inside in
    let stack =
    All-map (λ r. IfSome r (λ x. x < c.args.records)) Some row.stack.now (c.are_all_below.ensures stated) in
    subst (IsPartBelow c.args.nodes c.args.records) c.self.view_is
    (record {
      nodes = c.if-not-are_named_below.ensures refl;
      records = All-append (λ r. IfSome r (λ x. x < c.args.records)) row.records.now (map Some row.stack.now)
          (c.if-not-are_named_below-2.ensures refl) stack;
    })
