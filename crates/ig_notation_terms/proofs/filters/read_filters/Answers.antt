use Rattle.ig_notation_terms.proofs.FilterParts.{more_filters, all_filters}
use Rattle.ig_notation_terms.proofs.filters.read_filters.Goals as goal

pub loop-sign-preserved : goal.loop-sign-preserved
loop-sign-preserved c =
    more_filters _ _ _ _ _ _ _ _ c.loop-sign.invariant c.in-Some.ensures c.in_ok-pattern.ensures.ok c.filter_of.ensures c.in_ok-add.ensures.ok

pub returns-clause-ok : goal.returns-clause-ok
returns-clause-ok c = all_filters _ _ _ _ _ c.loop-sign.invariant c.in_default.ensures c.from_vec.ensures
