-- A grammar that no pass has changed has the shape `Rule` for each declaration.
use Rattle.std.proofs.Common.{◌≡◌, List, [], ◌∷◌, length, map, replicate, refl, ap, ◌∙◌}
use Rattle.ig_grammar.specs.Checked.{CheckedGrammar, rules}
use Rattle.ig_grammar.specs.declared.declaration.Decl.{Decl}
use Rattle.ig_grammar.specs.declared.place.Shape.{Shape}
use Rattle.ig_grammar.specs.declared.place.Shape.TheVariants.{Rule}
use Rattle.ig_core.specs.Notation.{unchanged}

all_rules : (decls : List Decl) → replicate (length decls) Rule ≡ map (λ (decl : Decl). Rule) decls
all_rules [] = refl
all_rules (decl ∷ decls) = ap (λ (z : List Shape). Rule ∷ z) (all_rules decls)

pub checked_written : (c : CheckedGrammar) → c.shapes ≡ rules c.grammar → c ≡ unchanged c.grammar
checked_written c e =
    ap (λ (z : List Shape). record { grammar = c.grammar; shapes = z }) (e ∙ all_rules c.grammar.decls)
