-- A grammar that was read from a text and checked is as it is written, and can be built.
use Rattle.std.proofs.Common.{◌≡◌, ℕ, List, sym, subst, [], ◌∷◌, length, map, replicate, refl, ap, ◌∙◌}
use Rattle.ig_grammar.specs.Checked.{CheckedGrammar, rules}
use Rattle.ig_grammar.specs.declared.grammar.Grammar.{Grammar}
use Rattle.ig_core.specs.Lowered.{IsBuildable}
use Rattle.ig_core.specs.Notation.{unchanged}
use Rattle.ig_command.specs.declared.command.Notation.TheVariants.{Own}
use Rattle.ig_command_sources.specs.Accepted.{IsTextOf}
use Rattle.ig_command_sources.specs.Laws.{ReadGrammarsAreBuildable}
use Rattle.ig_grammar.specs.declared.declaration.Decl.{Decl}
use Rattle.ig_grammar.specs.declared.place.Shape.{Shape}
use Rattle.ig_grammar.specs.declared.place.Shape.TheVariants.{Rule}

-- each declaration has the shape `Rule`
all_rules : (decls : List Decl) → replicate (length decls) Rule ≡ map (λ (decl : Decl). Rule) decls
all_rules [] = refl
all_rules (decl ∷ decls) = ap (λ (z : List Shape). Rule ∷ z) (all_rules decls)

-- so it is the grammar as it is written
checked_written : (c : CheckedGrammar) → c.shapes ≡ rules c.grammar → c ≡ unchanged c.grammar
checked_written c e =
    ap (λ (z : List Shape). record { grammar = c.grammar; shapes = z }) (e ∙ all_rules c.grammar.decls)

-- the same of one that was made of a grammar
pub checked_as_it_is : (g : Grammar) (c : CheckedGrammar) → c.grammar ≡ g → c.shapes ≡ rules g → c ≡ unchanged c.grammar
checked_as_it_is g c grammar shapes = checked_written c (shapes ∙ ap rules (sym grammar))

-- so it can be built, by the law
pub checked_is_buildable : ReadGrammarsAreBuildable → (xs : List ℕ) (g : Grammar) (c : CheckedGrammar) → IsTextOf Own xs g →
    c.grammar ≡ g → c.shapes ≡ rules g → IsBuildable c
checked_is_buildable law xs g c text grammar shapes =
    let is : c ≡ unchanged c.grammar = checked_as_it_is g c grammar shapes in
    subst IsBuildable (sym (is ∙ ap unchanged grammar)) (law Own xs g text)
