use Rattle.treesched_lib.specs.Serving.{IsUnopened}
use Rattle.treesched_lib.proofs.Loaded.{loaded, unloaded}
use Rattle.treesched_lib.proofs.serving.served_alone.Goals as goal

pub returns-in-Ok : goal.returns-in-Ok
returns-in-Ok g c =
    loaded g.F.Read.remaining c.args.file.now c.from_reader.new.reader IsUnopened c.args.request.now c.served.result
    c.in-Ok.program c.in-Ok.ensures.read
    c.in-Ok.ensures.count c.unopened.result c.unopened.ensures.unopened c.unopened.ensures.asked c.served.ensures

pub returns-in-Err : goal.returns-in-Err
returns-in-Err g c =
    unloaded g.F.Read.remaining c.args.file.now c.from_reader.new.reader IsUnopened c.args.request.now
    c.not_loaded.result c.in-Err.fault c.in-Err.ensures.read
    c.in-Err.ensures.count tt c.not_loaded.ensures
