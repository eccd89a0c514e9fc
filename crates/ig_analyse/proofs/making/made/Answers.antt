use Rattle.std.proofs.Common.{◌≡◌, length, subst, sym, ◌∙◌}
use Rattle.ig_analyse.specs.Rules.{AreInside, MarkDerived, rules_from}
use Rattle.ig_analyse.proofs.Ruling.{rules_inside, marks_made}
use Rattle.ig_analyse.proofs.making.made.Goals as goal

pub derived-requires : goal.derived-requires
derived-requires c =
    let is : c.as_slice.result.now ≡ rules_from c.args.bare 0 c.args.core.now = c.as_slice.ensures.value ∙ c.in_ok-rules.ensures in
    subst (λ z. AreInside z c.as_slice.result.now) (sym c.nonterminals-count.ensures.number)
    (subst (AreInside (length c.args.core.now)) (sym is)
    (rules_inside c.args.bare c.args.core.now c.nonterminals-count.ensures.well_kinded))

pub returns : goal.returns
returns c =
    let is : c.as_slice.result.now ≡ rules_from c.args.bare 0 c.args.core.now = c.as_slice.ensures.value ∙ c.in_ok-rules.ensures in
    marks_made c.args.bare c.args.core.now c.in_ok-marks.marks.items
    (subst (λ z. MarkDerived z (rules_from c.args.bare 0 c.args.core.now) c.in_ok-marks.marks.items) c.nonterminals-count.ensures.number
    (subst (λ z. MarkDerived c.nonterminals-count.result z c.in_ok-marks.marks.items) is c.in_ok-marks.ensures))
