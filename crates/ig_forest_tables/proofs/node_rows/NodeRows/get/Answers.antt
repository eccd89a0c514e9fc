use Rattle.ig_forest_tables.proofs.StoredNodes.{code_got, code_lacks, code_within}
use Rattle.ig_forest_tables.proofs.node_rows.NodeRows.get.Goals as goal

pub returns-in_default : goal.returns-in_default
returns-in_default c =
    code_lacks c.self.inside.choices.items c.self.inside.choices.items c.self.inside.begun.items c.as_slice.result.now c.args.self.now c.args.k
    c.as_slice.ensures.value c.self.view_is c.in_default.ensures

pub range_of-alternatives-requires : goal.range_of-alternatives-requires
range_of-alternatives-requires c =
    let fits =
    code_within c.self.inside.choices.items c.as_slice-choices.result.now c.self.inside.begun.items c.as_slice.result.now c.args.self.now c.args.k
    c.as_slice.ensures.value c.self.view_is c.as_slice-2.result.now c.in-Some.node c.begin_of-end.result c.as_slice-2.ensures.value
    c.as_slice-choices.ensures.value c.in-Some.ensures c.begin_of-end.ensures c.self.invariant in
    record { onward = fits.0; within = fits.1 }

pub returns : goal.returns
returns c =
    code_got c.self.inside.choices.items c.as_slice-choices.result.now c.self.inside.begun.items c.as_slice.result.now c.args.self.now c.args.k
    c.as_slice.ensures.value c.self.view_is c.as_slice-2.result.now c.in-Some.node c.begin_of-end.result c.as_slice-2.ensures.value
    c.as_slice-choices.ensures.value c.in-Some.ensures c.begin_of-end.ensures c.range_of-alternatives.result.now c.range_of-alternatives.ensures
