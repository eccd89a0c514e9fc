-- The root as the program writes it: what is made is checked.
use Rattle.std.proofs.Common.{◌≡◌, List, [], ◌∷◌, ◌++◌, false, sym, subst}
use Rattle.ig_grammar.specs.Checked.{CheckedGrammar, FitShapes}
use Rattle.ig_grammar.specs.WellScoped.{IsWellScoped}
use Rattle.ig_grammar.specs.declared.declaration.DeclKind.TheVariants.{Syntax}
use Rattle.ig_grammar.specs.declared.grammar.Grammar.{Grammar}
use Rattle.ig_grammar.specs.declared.place.Shape.{Shape}
use Rattle.ig_grammar.specs.declared.place.Shape.TheVariants.{Root}
use Rattle.ig_pass.specs.Added.{root_name, IsFresh}
use Rattle.ig_pass.specs.Rooted.{has_root, rooted_grammar, RootedIsTheSame}

pub fits_with_root : RootedIsTheSame → (c : CheckedGrammar) (g : Grammar) (shapes : List Shape) → IsWellScoped c.grammar →
    FitShapes c.grammar c.shapes → has_root c.shapes ≡ false → (has_root c.shapes ≡ false → IsFresh c.grammar root_name) →
    g ≡ rooted_grammar Syntax c.grammar → shapes ≡ c.shapes ++ Root ∷ [] → FitShapes g shapes
fits_with_root law c g shapes scoped fit rootless fresh e f =
    subst (λ z. FitShapes z shapes) (sym e)
    (subst (FitShapes (rooted_grammar Syntax c.grammar)) (sym f) (law c scoped fit rootless (fresh rootless)).fit)
