use Rattle.ig_text.proofs.Booleans.{refuted}
use Rattle.ig_scope.proofs.SymbolCauses.{label_twice, label_once}
use Rattle.ig_scope.proofs.symbols.label_cause.Goals as goal

pub returns-then-sees : goal.returns-then-sees
returns-then-sees c =
    λ x decls within. label_twice decls within c.args.variables.now c.args.name.now x (c.sees.ensures.0 c.if-sees.true)

pub returns-else-sees : goal.returns-else-sees
returns-else-sees c =
    λ x decls within. label_once decls within c.args.variables.now c.args.name.now x
    (refuted c.sees.result c.sees.ensures c.if-sees.false)
