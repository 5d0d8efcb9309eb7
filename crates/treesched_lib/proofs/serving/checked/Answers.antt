use Rattle.treesched_lib.proofs.Given.{refused}
use Rattle.treesched_lib.proofs.serving.checked.Goals as goal

pub returns-in-Err : goal.returns-in-Err
returns-in-Err g c =
    refused g.row.M.Denot g.row.M-Form.Denot (g.M.Machine.rules c.args.machine) c.args.program.now c.args.bytes.now
    c.in-Err.fault c.in-Err.ensures.refused
    c.book_refused.result c.book_refused.ensures
