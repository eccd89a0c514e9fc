use Rattle.std.proofs.Common.{◌≡◌, ◌++◌, take}
use Rattle.std.specs.Prelude.{flat_map, string_bytes, codes}
use Rattle.ig_expr.specs.View.{expression_of}
use Rattle.ig_show.specs.CanonicalText.{expression_bytes}
use Rattle.ig_show_texts.proofs.core_text.push_formulas.Given as goal

abbrev pub invariant-loop-other : goal.invariant-loop-other
invariant-loop-other l =
    string_bytes l.out ≡
    string_bytes l.initial.out ++ flat_map (λ e. codes "," ++ expression_bytes (expression_of e)) (take l.other-index l.others)
