use Rattle.std.proofs.Common.{◌≡◌, take, append_assoc, arith}
use Rattle.std.proofs.lemmas.List.{take_all}
use Rattle.std.proofs.lemmas.List.Elements.{All-rest, All-get_or}
use Rattle.replay.specs.Text.Files.{IsName}
use Rattle.replay.proofs.file.printing.push_order.Goals as goal

pub push_name-requires-in-loop-id : goal.push_name-requires-in-loop-id
push_name-requires-in-loop-id c =
    rw c.id-item.is
    (All-get_or IsName c.in-Some.rest.now c.loop-id.id-index c.id-item.result c.loop-id-test.true
    (All-rest IsName c.in-Some.first.now c.in-Some.rest.now c.args.order.now c.in-Some.ensures.cases.0 c.requires))

pub returns : goal.returns
returns c =
    let all : take c.loop-id.id-index c.in-Some.rest.now ≡ c.in-Some.rest.now =
    take_all c.loop-id.id-index c.in-Some.rest.now (omega arith) in
    rw (c.loop-id.invariant, all, c.in_ok-push_name.ensures, c.in-Some.ensures.cases.0, append_assoc)
