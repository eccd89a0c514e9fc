-- What the last step takes, from the grammar that all passes leave to its core grammar.
use Rattle.ig_grammar.specs.Checked.{FitShapes}
use Rattle.ig_grammar.specs.WellScoped.{IsWellScoped}
use Rattle.ig_grammar.specs.declared.grammar.Grammar.{Grammar}
use Rattle.ig_grammar.specs.declared.place.Shape.{Shape}
use Rattle.ig_pass.specs.Remaining.{IsRemaining}
use Rattle.std.specs.Prelude.{List}

-- a well-scoped grammar of the forms that remain behind all passes, with shapes that fit
pub record IsReady (g : Grammar) (shapes : List Shape) : Type 0 where
  pub scoped : IsWellScoped g
  pub fit : FitShapes g shapes
  pub remaining : IsRemaining g
