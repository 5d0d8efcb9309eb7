use Rattle.std.proofs.Common.{map}
use Rattle.words.proofs.Requests.{read, stated}
use Rattle.words.proofs.request.read_words.Goals as goal

pub returns-in-Err : goal.returns-in-Err
returns-in-Err c =
    stated _ c.in-Err.error _ c.in_ok-command.ensures c.in-Err.ensures.kinds _ c.fault_of.ensures.tells
    c.fault_of.ensures.memory

pub request_of-requires : goal.request_of-requires
request_of-requires c =
    let words = map (λ s. s.now) c.args.words.now in (
      words,
      read words _ c.in_ok-command.ensures _ c.in-Ok.ensures.matches c.in-Ok.ensures.kinds _ _
          c.in-Some.ensures.name c.in-Some.ensures.rows,
    )

pub returns : goal.returns
returns c =
    c.request_of.ensures (map (λ s. s.now) c.args.words.now)
    (read _ _ c.in_ok-command.ensures _ c.in-Ok.ensures.matches c.in-Ok.ensures.kinds _ _
    c.in-Some.ensures.name c.in-Some.ensures.rows)
