use Rattle.ig_verify.proofs.KindTable.{found, no_row}
use Rattle.ig_verify.proofs.kind_table.kinds_at.Goals as goal

pub returns-in_default : goal.returns-in_default
returns-in_default c = λ core well is.
    absurd (no_row c.names_are_at_dots.ensures core well c.args.table.now c.args.nonterminal c.args.alternative c.args.dot
    c.in_ok-rows.rows.now c.as_slice.result.now c.in_ok-row.row.now is c.in_ok-rows.ensures c.as_slice.ensures c.in_ok-row.ensures
    c.in_default.is)

pub returns : goal.returns
returns c = λ core well is.
    found c.names_are_at_dots.ensures core well c.args.table.now c.args.nonterminal c.args.alternative c.args.dot
    c.in_ok-rows.rows.now c.as_slice.result.now c.in_ok-row.row.now is c.in_ok-rows.ensures c.as_slice.ensures c.in_ok-row.ensures
    c.in_ok-names.names.now c.in-Some.kinds c.as_slice-2.result.now c.get.result c.in_ok-names.ensures c.in-Some.is
    c.as_slice-2.ensures c.get.ensures.lookup
