use Rattle.ig_levels.proofs.Written.{lowered_by}
use Rattle.ig_levels.proofs.lower.lower_grammar.Goals as goal

pub returns : goal.returns
returns c =
    lowered_by c.args.grammar.now c.in_ok-table.table c.as_slice.result.now c.as_slice-2.result.now c.in_ok-decls.decls c.in_ok-start.start c.as_slice.ensures c.as_slice-2.ensures
    c.in_ok-table.ensures c.in_ok-decls.ensures c.in_ok-start.ensures
