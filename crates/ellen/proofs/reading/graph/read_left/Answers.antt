-- Where no bytes are left, nothing is.
use Rattle.std.proofs.Common.{[], length, sym, append-nil}
use Rattle.std.proofs.lemmas.Bool.{eqb-true}
use Rattle.std.proofs.lemmas.List.{nil_from_length}
use Rattle.ellen.proofs.reading.graph.read_left.Goals as goal

pub returns-then-is_empty : goal.returns-then-is_empty
returns-then-is_empty c is = (
  [],
  [],
  sym (append-nil _),
  sym (append-nil _),
  nil_from_length c.args.bytes.now (eqb-true (length c.args.bytes.now) 0 (sym c.if-is_empty.ensures)),
)
