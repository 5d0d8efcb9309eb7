-- What was read so far follows what the reader had, and the read that returned no byte is its end.
use Rattle.std.proofs.Common.{take, append-nil, arith, rules}
use Rattle.std.proofs.KnownBytes.{Consumes-trans}
use Rattle.sched_program.proofs.counted.Counted.read_all.Goals as goal

pub returns-then-count-eq0-clause-bytes : goal.returns-then-count-eq0-clause-bytes
returns-then-count-eq0-clause-bytes g c =
    let remaining = g.R.Read.remaining in
    rw (c.if-count-eq0.true, append-nil) at
    (Consumes-trans (remaining c.args.self.now.reader) (remaining c.loop.self.reader)
    (remaining c.read.new.self.reader) c.loop.bytes.items (take c.in_ok-count.count c.read.new.buf)
    c.loop.invariant.1 c.in_ok-count.ensures.bytes.0)

pub returns-then-count-eq0-clause-end : goal.returns-then-count-eq0-clause-end
returns-then-count-eq0-clause-end g c = c.in_ok-count.ensures.bytes.1 c.if-count-eq0.true (omega arith)

pub returns-then-count-eq0-clause-count : goal.returns-then-count-eq0-clause-count
returns-then-count-eq0-clause-count g c = search rules

pub loop-preserved : goal.loop-preserved
loop-preserved g c =
    let remaining = g.R.Read.remaining in (
      omega (arith, c.in_ok-count.ensures.count),
      rw c.in_ok-extend_from_slice.ensures.items
          (Consumes-trans (remaining c.args.self.now.reader) (remaining c.loop.self.reader)
          (remaining c.read.new.self.reader) c.loop.bytes.items (take c.in_ok-count.count c.read.new.buf)
          c.loop.invariant.1 c.in_ok-count.ensures.bytes.0),
    )
