use Rattle.std.proofs.Common.{ap}
use Rattle.std.specs.Option.{option_copied}
use Rattle.reports.proofs.Soundness.{found_at}
use Rattle.reports.proofs.reading.fault_at.Goals as goal

pub returns : goal.returns
returns g c =
    let f = found_at c.args.book.now.entries c.args.id _ c.requires c.finding_of.ensures in
    (f.0, f.1, cc (ap option_copied c.in-Some.is, f.2))

pub unreachable-requires : goal.unreachable-requires
unreachable-requires g c =
    let f = found_at c.args.book.now.entries c.args.id _ c.requires c.finding_of.ensures in
    cc (ap option_copied c.in-None.is, f.2)
