use Rattle.ig_query.proofs.Reporting.{line_number, line_there}
use Rattle.ig_query.proofs.run_report.line_of.Goals as goal

pub unreachable-requires : goal.unreachable-requires
unreachable-requires c = line_there c.args.text.now c.args.position c.line.result c.requires c.line.ensures c.in-None.is

pub returns : goal.returns
returns c = line_number c.args.text.now c.args.position c.in-Some.line c.line.result c.line.ensures c.in-Some.is
