-- The thread is moved on in place, by what came of the access. It stands where it stood, and its place is taken out.
use Rattle.std.proofs.Common.{refl, ◌∙◌, ap, sym, rules, Some}
use Rattle.tree_machine.specs.Step.{stepped}
use Rattle.tree_machine.proofs.States.{held_or, step_made, with_held, ready_pieces, thread_read, next_place_in_range}
use Rattle.tree_machine.proofs.state.State.make_step.Goals as goal

pub act-requires-clause-place_in_range : goal.act-requires-clause-place_in_range
act-requires-clause-place_in_range g c =
    let bound = g.met.M.Machine g.world.𝓛 g.world.𝓜 g.world.𝓡 ((λ s x. x), (λ x. x), (λ x. x), λ x. x) in
    let program = c.requires.ready.0 in
    let state = c.args.self.now in
    let access = c.requires.ready.2.1 in
    let there = c.index_mut-moved.ensures.value
    ∙ thread_read program state c.args.t access.1 _ c.as_mut_vec-threads.ensures.value c.from-at.ensures in
    rw (held_or _ _ _ c.take.ensures.value there c.place_or-place.ensures c.begin-first.ensures)
    (next_place_in_range program state c.args.t access.1 _ access.0 (bound.lawful c.args.machine))

pub returns : goal.returns
returns g c =
    let bound = g.met.M.Machine g.world.𝓛 g.world.𝓜 g.world.𝓡 ((λ s x. x), (λ x. x), (λ x. x), λ x. x) in
    let rules = g.M.Machine.rules c.args.machine in
    let thread = c.requires.ready.1 in
    let access = c.requires.ready.2.1.1 in
    let program = c.requires.ready.0 in
    let state = c.args.self.now in
    let seen = thread_read program state c.args.t access c.index-threads-at.result c.as_slice-threads.ensures
    c.from-at.ensures in
    let there = c.index_mut-moved.ensures.value
    ∙ thread_read program state c.args.t access _ c.as_mut_vec-threads.ensures.value c.from-at.ensures in
    let was = with_held _ thread c.take.result c.take.ensures.value there in
    record {
      was = (ready_pieces program state c.args.t access).0 ∙ ap Some (sym was);
      step = step_made state c.args.t rules c.args.op thread _ c.act.new.mem c.in_ok-outcome.outcome
          c.note_at_step-note.result
          (held_or _ thread c.take.result c.take.ensures.value there c.place_or-place.ensures c.begin-first.ensures)
          c.in_ok-outcome.ensures.ok
          ((bound.lawful c.args.machine).astray_unchanged c.args.op c.place_or-place.result.now state.memory)
          c.in_ok-self.ensures.thread there (rw seen at (c.note_at_step-note.ensures.note thread.notes))
          c.as_slice-threads.ensures refl c.as_mut_vec-threads.ensures.value c.from-at.ensures
          c.in_ok-self.ensures.astray
          ∙ ap (stepped rules state c.args.t c.args.op) (sym was);
    }
