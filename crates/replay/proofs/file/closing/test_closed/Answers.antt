use Rattle.std.proofs.Common.{◌≡◌, ◌<◌, ◌≤◌, inr, length, arith}
use Rattle.replay.proofs.BookFile.Known.{known_next, open_next, known_closed, stands_closed}
use Rattle.replay.proofs.BookFile.Replayed.{count_labels}
use Rattle.replay.proofs.file.closing.test_closed.Goals as goal

pub overflow_add-result : goal.overflow_add-result
overflow_add-result g c =
    let end : c.len-i-end.result ≡ length c.args.labels.now = c.len-i-end.ensures in
    let less : c.loop-i.i < c.len-i-end.result = c.loop-i-test.true in
    let most : length c.args.input.now.lines.now < 2000000 = c.requires.bounded in
    omega (arith, count_labels c.requires.kept)

pub returns-then-branch-clause-refused : goal.returns-then-branch-clause-refused
returns-then-branch-clause-refused g c =
    let bound = g.met.M.Machine g.world.𝓛 g.world.𝓜 g.world.𝓡 ((λ s x. x), (λ x. x), (λ x. x), λ x. x) in
    let coding = g.met.M.Encode g.world.𝓛 g.world.𝓜 g.world.𝓡 ((λ s x. x), (λ x. x), (λ x. x), λ x. x) in
    let input = c.args.input.now in
    inr (open_next (bound.lawful input.machine) c.initial.ensures.limits (bound.forms input.machine)
    g.M.Encode.form_code c.requires.kept coding.form_tells c.loop-i.i c.recall.new.replayer.state
    c.in_ok-recall.ensures.stands
    (c.in_ok-leads_out.ensures.out c.if-branch.true) c.loop-i.invariant.0)

pub loop-i-preserved-then-is_marked : goal.loop-i-preserved-then-is_marked
loop-i-preserved-then-is_marked g c =
    let bound = g.met.M.Machine g.world.𝓛 g.world.𝓜 g.world.𝓡 ((λ s x. x), (λ x. x), (λ x. x), λ x. x) in
    let input = c.args.input.now in (
      known_next (bound.lawful input.machine) c.initial.ensures.limits (bound.forms input.machine)
          g.M.Encode.form_code input.lines.now c.args.labels.now c.loop-i.i
          (c.requires.marked c.loop-i.i (c.is_marked.ensures c.if-is_marked.true)) c.loop-i.invariant.0,
      c.loop-i.invariant.1,
    )

pub loop-i-preserved : goal.loop-i-preserved
loop-i-preserved g c =
    let bound = g.met.M.Machine g.world.𝓛 g.world.𝓜 g.world.𝓡 ((λ s x. x), (λ x. x), (λ x. x), λ x. x) in
    let input = c.args.input.now in
    let lines = input.lines.now in
    let labels = c.args.labels.now in (
      known_next (bound.lawful input.machine) c.initial.ensures.limits (bound.forms input.machine)
          g.M.Encode.form_code lines labels c.loop-i.i
          (stands_closed (bound.lawful input.machine) c.initial.ensures.limits (bound.forms input.machine)
          g.M.Encode.form_code lines labels c.loop-i.i c.recall.new.replayer.state c.in_ok-recall.ensures.stands
          (c.in_ok-leads_out.ensures.none c.if-branch.false)) c.loop-i.invariant.0,
      c.in_ok-leads_out.ensures.source,
    )

pub returns-clause-pass : goal.returns-clause-pass
returns-clause-pass g c =
    let bound = g.met.M.Machine g.world.𝓛 g.world.𝓜 g.world.𝓡 ((λ s x. x), (λ x. x), (λ x. x), λ x. x) in
    let coding = g.met.M.Encode g.world.𝓛 g.world.𝓜 g.world.𝓡 ((λ s x. x), (λ x. x), (λ x. x), λ x. x) in
    let end : c.len-i-end.result ≡ length c.args.labels.now = c.len-i-end.ensures in
    let past : c.len-i-end.result ≤ c.loop-i.i = c.loop-i-test.false in
    let input = c.args.input.now in
    known_closed (bound.lawful input.machine) c.initial.ensures.limits (bound.forms input.machine)
    g.M.Encode.form_code c.requires.kept coding.form_tells
    (λ states so i less s at. c.loop-i.invariant.0 states so i (omega arith) s at)
