use Rattle.std.proofs.Common.{◌≡◌, ◌∙◌, arith, ap, sym, Some}
use Rattle.ig_grammar.specs.Checked.{CheckedGrammar}
use Rattle.ig_grammar.specs.Tabs.{tab_width}
use Rattle.ig_grammar.proofs.TabWidths.{width_kept}
use Rattle.ig_grammar.proofs.checked.Checked.tab_width.Goals as goal

pub overflow_cast-result : goal.overflow_cast-result
overflow_cast-result c =
    let w = width_kept c.self.inside.grammar c.self.invariant.0 c.in-Some.tabs c.in-Some.is in
    let few = w.3.few in
    rw w.1 (tt, record { fits = omega (arith, few) })

pub returns-in-Some-clause-width : goal.returns-in-Some-clause-width
returns-in-Some-clause-width c =
    let w = width_kept c.self.inside.grammar c.self.invariant.0 c.in-Some.tabs c.in-Some.is in
    let said : w.0 ≡ tab_width c.self.inside.grammar.tabs = sym (ap tab_width (c.in-Some.is ∙ ap Some w.2)) in
    rw w.1 (said ∙ ap (λ (z : CheckedGrammar). tab_width z.grammar.tabs) c.self.view_is)

pub returns-in-Some-clause-allowed : goal.returns-in-Some-clause-allowed
returns-in-Some-clause-allowed c =
    let w = width_kept c.self.inside.grammar c.self.invariant.0 c.in-Some.tabs c.in-Some.is in
    rw w.1 w.3
