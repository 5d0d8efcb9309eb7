use Rattle.std.proofs.Common.{refl}
use Rattle.treesched_lib.specs.Serving.{IsBookRead}
use Rattle.treesched_lib.proofs.Loaded.{loaded, unloaded}
use Rattle.treesched_lib.proofs.serving.served_from.Goals as goal

pub returns-in_ok-read-in-Ok : goal.returns-in_ok-read-in-Ok
returns-in_ok-read-in-Ok g c =
    loaded g.F.Read.remaining c.args.file.now c.from_reader.new.reader
    (IsBookRead g.B.Read.remaining c.args.book.now c.read_book.new.book) c.args.request.now
    c.served.result c.in-Ok.program c.in-Ok.ensures.read c.in-Ok.ensures.count c.in_ok-read-in-Ok.read
    c.in_ok-read-in-Ok.ensures.read
    c.in_ok-read-in-Ok.ensures.asked c.served.ensures

pub returns-in-Err : goal.returns-in-Err
returns-in-Err g c =
    unloaded g.F.Read.remaining c.args.file.now c.from_reader.new.reader
    (IsBookRead g.B.Read.remaining c.args.book.now c.args.book.now) c.args.request.now
    c.not_loaded.result c.in-Err.fault c.in-Err.ensures.read c.in-Err.ensures.count refl c.not_loaded.ensures
