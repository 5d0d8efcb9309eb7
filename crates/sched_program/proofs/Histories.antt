-- What the limits of a program say of its operations, and of the histories of its runs.
use Rattle.std.proofs.Common.{◌≡◌, ℕ, ◌<◌, ◌≤◌, length, Option, Some, None, IsSome, refl, arith}
use Rattle.std.specs.Prelude.{slice_get, slice_index_or}
use Rattle.std.proofs.lemmas.Option.{option_and_then_some, slice_get_within, get_or_from_slice_get}
use Rattle.sched_program.specs.declared.operation.Op.{Op}
use Rattle.sched_program.specs.Program.{Program, IsWithinLimits, IsUserKey, op_at, key_of}
use Rattle.sched_program.specs.History.{History, IsHistory, IsHistoryOf}

module _ (p : Program) (limits : IsWithinLimits p) (t i : ℕ) where
  -- an operation of a program has a small name and a user key
  pub op_limited : (o : Op) → op_at p t i ≡ Some o → (t < 4) × (i < 6) × IsUserKey (key_of o)
  op_limited o h =
      option_and_then_some (λ ops. slice_get ops i) (slice_get p.threads t) o h (λ ops e found.
      let at = slice_get_within p.threads t ops e in
      let is = get_or_from_slice_get p.threads t ops ops e in
      let short : length ops ≤ 6 = (rw is at (limits.op_counts t ops at)).1 in
      let within = slice_get_within ops i o found in
      let key = (rw is at (limits.op_keys t ops at)) i o within in
      (omega (arith, limits.thread_count), omega arith, rw (get_or_from_slice_get ops i o o found) at key))

  named : (o : Option Op) → op_at p t i ≡ o → IsSome o → (t < 4) × (i < 6)
  named None e h = absurd cc
  named (Some o) e h = let l = op_limited o e in (l.0, l.1)

  pub small_name : IsSome (op_at p t i) → (t < 4) × (i < 6)
  small_name h = named (op_at p t i) refl h

-- the history of a program is a history
pub is_history : (p : Program) (history : History) → IsWithinLimits p → IsHistoryOf p history → IsHistory history
is_history p history limits h = record {
  names = λ k d within. small_name p limits (slice_index_or history.begun k d).0.thread
      (slice_index_or history.begun k d).0.index (h.names k d within);
  notes = λ k d within. omega (arith, h.notes k d within, limits.thread_count);
  begun_ascend = h.begun_ascend;
  finished_are_begun = h.finished_are_begun;
  finished_ascend = h.finished_ascend;
}
