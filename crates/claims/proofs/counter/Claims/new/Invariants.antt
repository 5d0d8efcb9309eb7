use Rattle.std.proofs.Common.{◌≡◌, ◌+◌, ◌-◌, ◌≤◌, [], All, vec_len, vec_capacity}
use Rattle.claims.specs.Rule.{fresh}
use Rattle.claims.proofs.Turns.{IsNew}
use Rattle.claims.proofs.counter.Claims.new.Given as goal

abbrev pub invariant-loop : goal.invariant-loop
invariant-loop l = record {
  filled : vec_len l.made + 1 ≡ l.counter;
  room : l.seats ≤ vec_capacity l.made;
  rest : l.rest.me ≡ (fresh (l.seats - vec_len l.made) l.size, []);
  own : l.rest.table_id ≡ l.table.shared.table_id;
  made : All (IsNew (record { counter = l.table.shared.table_id; size = l.size })) l.made.items;
}
