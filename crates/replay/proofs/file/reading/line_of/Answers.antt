use Rattle.std.proofs.Common.{◌≡◌}
use Rattle.replay.proofs.Text.Entries.{no_pieces}
use Rattle.replay.proofs.Text.OneReading.{entry_pieces}
use Rattle.replay.proofs.file.reading.line_of.Goals as goal

pub returns-in_default-clause-none : goal.returns-in_default-clause-none
returns-in_default-clause-none c = no_pieces c.args.text.now c.in_default.ensures.none

pub returns-in_default-number_of-clause-none : goal.returns-in_default-number_of-clause-none
returns-in_default-number_of-clause-none c (line, is) =
    let pieces = entry_pieces c.in-Some.ensures.found.0 c.in-Some.ensures.found.1 is in
    c.in_default-number_of.ensures.none is.number (rw pieces.0 at is.is_number)

pub returns-in_default-thread_of-clause-none : goal.returns-in_default-thread_of-clause-none
returns-in_default-thread_of-clause-none c (line, is) =
    let pieces = entry_pieces c.in-Some.ensures.found.0 c.in-Some.ensures.found.1 is in
    c.in_default-thread_of.ensures.none line.thread is.order is.thread pieces.1

pub returns-in-None-clause-none : goal.returns-in-None-clause-none
returns-in-None-clause-none c (line, is) =
    let pieces = entry_pieces c.in-Some.ensures.found.0 c.in-Some.ensures.found.1 is in
    let order : is.order ≡ c.in-Some-thread_of.order.now = cc (pieces.1, c.in-Some-thread_of.ensures.found.1) in
    (rw c.in-None.is at c.in_ok-order.ensures.none) line.order (rw order at is.is_order)
