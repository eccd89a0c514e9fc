-- The root that is made, where no declaration stands for it.
use Rattle.std.proofs.Common.{◌≡◌, ℕ, List, [], ◌∷◌, ◌++◌, refl, sym, ap, ◌∙◌, Option, Some, None}
use Rattle.std.specs.Prelude.{codes}
use Rattle.ig_text.specs.declared.tag.Tag.TheVariants as tag
use Rattle.ig_expr.specs.declared.kind.Kind.{Kind}
use Rattle.ig_grammar.specs.Symbol.{Call}
use Rattle.ig_grammar.specs.Numbering.{layout_among}
use Rattle.ig_grammar.specs.declared.grammar.Grammar.{Grammar}
use Rattle.ig_grammar.specs.declared.place.Shape.TheVariants.{Root}
use Rattle.ig_meaning.specs.Permitted.{behind_layout}
use Rattle.ig_item.specs.Step.{Step}
use Rattle.ig_item.specs.declared.core_grammar.CoreAlt.{CoreAlt}
use Rattle.ig_core.specs.CoreOf.{shaped, nonterminal_of, written_root, start_symbols, call_of}
use Rattle.ig_core.specs.Steps.{steps_of}

pub start_is : (g : Grammar) → layout_among g.decls ≡ None → start_symbols g g.start ≡ call_of g.start
start_is g none = go g.start
  where
    go : (o : Option (List ℕ)) → start_symbols g o ≡ call_of o
    go None = refl
    go (Some start) = ap (λ z. behind_layout z (Call start [] ∷ [])) none

pub made_is : (number : List ℕ → ℕ) (g : Grammar) (name : List ℕ) (params : List (List ℕ)) (kinds : List Kind) (steps : List Step) (a b alts : List CoreAlt) →
    layout_among g.decls ≡ None → name ≡ codes "$root" → params ≡ [] → kinds ≡ [] → steps ≡ steps_of number (call_of g.start) →
    a ≡ [] → b ≡ a ++ record { tag = tag.Root; steps = steps } ∷ [] → alts ≡ b →
    record { name = name; params = params; kinds = kinds; alternatives = alts } ≡ nonterminal_of number 0 (shaped (written_root g) Root)
made_is number g name params kinds steps a b alts none named no_params no_kinds made empty pushed is =
    let all : alts ≡ record { tag = tag.Root; steps = steps } ∷ [] = is ∙ pushed ∙ ap (λ z. z ++ record { tag = tag.Root; steps = steps } ∷ []) empty in
    let steps_are : steps ≡ steps_of number (start_symbols g g.start) = made ∙ ap (steps_of number) (sym (start_is g none)) in
    let alts_are : alts ≡ record { tag = tag.Root; steps = steps_of number (start_symbols g g.start) } ∷ [] =
    all ∙ ap (λ z. record { tag = tag.Root; steps = z } ∷ []) steps_are in
    rw (named, no_params, no_kinds, alts_are) refl
