use Rattle.std.proofs.Common.{◌≤◌, length, sym, arith, take_all}
use Rattle.tree_machine.proofs.Lists.{get_at}
use Rattle.book.proofs.BookFile.Writable.{written_none, written_next, written_all}
use Rattle.book.proofs.writing.write_entries.Goals as goal

pub loop-index-init : goal.loop-index-init
loop-index-init g c =
    let entries = c.args.table.now.entries in
    written_none (length entries) entries c.new-text.result.items c.push_head.new.text.items c.push_start.new.text.items
    c.new-text.ensures.items (rw c.len.ensures at c.in_ok-push_head.ensures) c.in_ok-push_start.ensures

pub unreachable-requires : goal.unreachable-requires
unreachable-requires g c =
    let there = get_at c.args.table.now.entries c.loop-index.index
    (omega (arith, c.loop-index-test.true, c.len-index-end.ensures)) in
    cc (c.in_default.ensures, there.1)

pub loop-index-preserved : goal.loop-index-preserved
loop-index-preserved g c =
    let entries = c.args.table.now.entries in
    let w = c.in_ok-push_row.ensures in
    written_next (length entries) entries c.loop-index.index c.in-Some.row.now w.0 c.loop-index.text.items
    c.push_row.new.text.items (sym c.in-Some.ensures) (omega (arith, c.loop-index.auto.index)) w.1 w.2 w.3
    c.loop-index.invariant

pub returns : goal.returns
returns g c =
    let entries = c.args.table.now.entries in
    let done : length entries ≤ c.loop-index.index =
    omega (arith, c.loop-index-test.false, c.len-index-end.ensures) in
    written_all entries c.loop-index.text.items c.requires.some c.requires.bounded
    (rw (take_all c.loop-index.index entries done) at c.loop-index.invariant)
