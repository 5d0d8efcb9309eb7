-- A counter may be shared by threads: what it is made of may. A search by a crate above, through all that a worker's
-- layer is made of, would not come to its end.
use denote.Param.Send.{IsSync, sendable}
use Rattle.std.proofs.Crossing.{crosses}
use Rattle.atomic_table.proofs.shared.Shared.TheSendSync as shared
use Rattle.atomic_table.proofs.send_lease.SendLease.TheSendSync as lease
use Rattle.claims.specs.contracts.counter.Claims as Claims

pub claims_sync : IsSync Claims.the_row
claims_sync = search (shared.the_sync, lease.the_sync, sendable, crosses) depth 30 fits 10000
