use Rattle.ig_parse.proofs.Parsing.{runs_of, finds}
use Rattle.ig_parse.proofs.parser.Parser.run.Goals as goal

pub returns : goal.returns
returns c =
    finds c.args.self.now c.args.text.now c.args.budget c.self.inside.core
    (runs_of c.args.self.now c.self.inside.grammar.now c.self.inside.core c.self.view_is c.self.invariant
    c.nonterminals-nonterminals.ensures.well_kinded)
    c.run_in.result c.run_in.ensures.core c.run_in.ensures.text c.run_in.ensures.recorded
    c.run_in.ensures.exact c.run_in.ensures.fault
