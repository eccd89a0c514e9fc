use Rattle.ig_notation_terms.specs.declared.parts.BlockMark.TheVariants as marks
use Rattle.ig_notation_terms.proofs.Around.{with_mark}
use Rattle.ig_notation_terms.proofs.parts.marked.Goals as goal

pub returns-in-Offside-clause-ok : goal.returns-in-Offside-clause-ok
returns-in-Offside-clause-ok c = with_mark _ marks.Offside _ _ c.in-Offside.is c.in_ok-symbol.ensures

pub returns-in-Ignore-clause-ok : goal.returns-in-Ignore-clause-ok
returns-in-Ignore-clause-ok c = with_mark _ marks.Ignore _ _ c.in-Ignore.is c.in_ok-symbol.ensures

pub returns-in-Align-clause-ok : goal.returns-in-Align-clause-ok
returns-in-Align-clause-ok c = with_mark _ marks.Align _ _ c.in-Align.is c.in_ok-symbol.ensures
