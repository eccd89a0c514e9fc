use Rattle.ig_parse.proofs.Parsing.{runs_of, reached_inside, reported}
use Rattle.ig_parse.proofs.parser.Parser.report.Goals as goal

pub report-requires : goal.report-requires
report-requires c =
    record {
      reachable = reached_inside c.args.self.now c.args.text.now c.self.inside.core
          (runs_of c.args.self.now c.self.inside.grammar.now c.self.inside.core c.self.view_is c.self.invariant
          c.nonterminals-nonterminals.ensures.well_kinded) c.args.items.now c.requires.reachable;
    }

pub returns : goal.returns
returns c =
    reported c.args.self.now c.args.text.now c.self.inside.core
    (runs_of c.args.self.now c.self.inside.grammar.now c.self.inside.core c.self.view_is c.self.invariant
    c.nonterminals-nonterminals.ensures.well_kinded) c.report.result c.report.ensures
