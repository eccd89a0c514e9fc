-- Passes by an own rule that keeps integers keep them: those for layout and filters add none.
use Rattle.std.proofs.Common.{ℕ, List, [], ◌∷◌, ◌++◌, map, Bool, true, false, Option, Some, None, if◌then◌else◌}
use Rattle.ig_expr.specs.Expression.{Expression}
use Rattle.ig_grammar.specs.Symbol.{Symbol, Literal, OneOf, Call, Label, Guard, Let, Opt, Star, Plus, SepStar, SepPlus, Group, Offside, Ignore, Align, Filtered, Seq, Entry, gathered}
use Rattle.ig_grammar.specs.Symbol.{Symbols, no_symbols, next_symbol, Alternatives, no_alternatives, next_alternative}
use Rattle.ig_grammar.specs.declared.declaration.Decl.{Decl}
use Rattle.ig_grammar.specs.declared.declaration.DeclKind.{DeclKind}
use Rattle.ig_grammar.specs.declared.declaration.DeclKind.TheVariants.{Lexical, Syntax, Layout, Plain}
use Rattle.ig_grammar.specs.declared.declaration.Level.{Level}
use Rattle.ig_grammar.specs.declared.filter.Filter.{Filter}
use Rattle.ig_grammar.specs.declared.filter.Filter.TheVariants.{NotFollowed, NotPreceded, Not}
use Rattle.ig_grammar.specs.declared.symbol.Alt.{Alt}
use Rattle.ig_pass.specs.Rewriting.{within, rewritten_symbols, rewritten_choices, rewritten, rewritten_alternative, rewritten_level}
use Rattle.ig_lexical.specs.Layout.{is_token, then_layout, laid_inside, laid, laid_in}
use Rattle.ig_lexical.specs.Filters.{befores, afters, exclusions, with_filters, guarded, attached}
use Rattle.ig_verify_laws.proofs.Fitting.{AltsFit, ChoicesFit, Fits, LevelsFit, ListFits, SymbolsFit, list_joined, gathered_fit}

module _ (own : Symbol → Symbol) (keep : (x : Symbol) → Fits x → Fits (own x)) where
  mutual
    within_fits : (x : Symbol) → Fits x → Fits (within own x)
    within_fits (Literal word) a = tt
    within_fits (OneOf class) a = tt
    within_fits (Call name arguments) a = a
    within_fits (Label name x) a = within_fits x a
    within_fits (Guard e) a = a
    within_fits (Let name e) a = a
    within_fits (Opt x) a = keep (within own x) (within_fits x a)
    within_fits (Star x) a = keep (within own x) (within_fits x a)
    within_fits (Plus x) a = keep (within own x) (within_fits x a)
    within_fits (SepStar x s) a = (keep (within own x) (within_fits x a.0), keep (within own s) (within_fits s a.1))
    within_fits (SepPlus x s) a = (keep (within own x) (within_fits x a.0), keep (within own s) (within_fits s a.1))
    within_fits (Group choices) a = choices_fit choices a
    within_fits (Offside x) a = within_fits x a
    within_fits (Ignore x) a = within_fits x a
    within_fits (Align x) a = within_fits x a
    within_fits (Filtered x filters) a = within_fits x a
    within_fits (Seq xs) a = symbols_fit xs a
    within_fits (Entry bindings x) a = (a.0, within_fits x a.1)

    symbols_fit : (xs : Symbols) → SymbolsFit xs → SymbolsFit (rewritten_symbols own xs)
    symbols_fit no_symbols a = tt
    symbols_fit (next_symbol x xs) a = (keep (within own x) (within_fits x a.0), symbols_fit xs a.1)

    choices_fit : (ys : Alternatives) → ChoicesFit ys → ChoicesFit (rewritten_choices own ys)
    choices_fit no_alternatives a = tt
    choices_fit (next_alternative xs ys) a = (symbols_fit xs a.0, choices_fit ys a.1)

  list_fits : (xs : List Symbol) → ListFits xs → ListFits (map (rewritten own) xs)
  list_fits [] a = tt
  list_fits (x ∷ xs) a = (keep (within own x) (within_fits x a.0), list_fits xs a.1)

  alts_rewritten : (alts : List Alt) → AltsFit alts → AltsFit (map (rewritten_alternative own) alts)
  alts_rewritten [] a = tt
  alts_rewritten (x ∷ others) a = (list_fits x.symbols a.0, alts_rewritten others a.1)

  pub levels_rewritten : (levels : List Level) → LevelsFit levels → LevelsFit (map (rewritten_level own) levels)
  levels_rewritten [] a = tt
  levels_rewritten (level ∷ others) a = (alts_rewritten level.alts a.0, levels_rewritten others a.1)

-- layout
inside_fits : (decls : List Decl) (layout : List ℕ) (x : Symbol) → Fits x → Fits (laid_inside decls layout x)
inside_fits decls layout (Label name x) a = inside_fits decls layout x a
inside_fits decls layout (Filtered x filters) a = inside_fits decls layout x a
inside_fits decls layout (Entry bindings x) a = (a.0, go (is_token decls x) (inside_fits decls layout x a.1))
  where
    go : (b : Bool) → Fits (laid_inside decls layout x) →
        Fits (if b then then_layout layout x else laid_inside decls layout x)
    go true inside = (a.1, (tt, tt))
    go false inside = inside
inside_fits decls layout x a = a

laid_fits : (decls : List Decl) (layout : List ℕ) (x : Symbol) → Fits x → Fits (laid decls layout x)
laid_fits decls layout x a = go (is_token decls x)
  where
    go : (b : Bool) → Fits (if b then then_layout layout x else laid_inside decls layout x)
    go true = (a, (tt, tt))
    go false = inside_fits decls layout x a

pub laid_in_fits : (layout : Option (List ℕ)) (decls : List Decl) (kind : DeclKind) (x : Symbol) → Fits x →
    Fits (laid_in layout decls kind x)
laid_in_fits None decls kind x a = a
laid_in_fits (Some layout) decls Syntax x a = laid_fits decls layout x a
laid_in_fits (Some layout) decls Lexical x a = a
laid_in_fits (Some layout) decls Layout x a = a
laid_in_fits (Some layout) decls Plain x a = a

-- filters
befores_fit : (fs : List Filter) → ListFits (map Guard (befores fs))
befores_fit [] = tt
befores_fit (NotPreceded pattern ∷ fs) = (tt, befores_fit fs)
befores_fit (NotFollowed pattern ∷ fs) = befores_fit fs
befores_fit (Not pattern ∷ fs) = befores_fit fs

afters_fit : (fs : List Filter) → ListFits (map Guard (afters fs))
afters_fit [] = tt
afters_fit (NotFollowed pattern ∷ fs) = (tt, afters_fit fs)
afters_fit (NotPreceded pattern ∷ fs) = afters_fit fs
afters_fit (Not pattern ∷ fs) = afters_fit fs

around_fits : (before after : List Expression) (x : Symbol) → ListFits (map Guard before) → ListFits (map Guard after) →
    Fits x → SymbolsFit (gathered (map Guard before ++ x ∷ map Guard after))
around_fits before after x b c a =
    gathered_fit (map Guard before ++ x ∷ map Guard after) (list_joined (map Guard before) (x ∷ map Guard after) b (a, c))

guarded_fits : (before after : List Expression) (x : Symbol) → ListFits (map Guard before) → ListFits (map Guard after) →
    Fits x → Fits (guarded before after x)
guarded_fits [] [] x b c a = a
guarded_fits [] (e ∷ after) x b c a = around_fits [] (e ∷ after) x b c a
guarded_fits (e ∷ before) [] x b c a = around_fits (e ∷ before) [] x b c a
guarded_fits (e ∷ before) (g ∷ after) x b c a = around_fits (e ∷ before) (g ∷ after) x b c a

with_filters_fits : (x : Symbol) (fs : List Filter) → Fits x → Fits (with_filters x fs)
with_filters_fits x [] a = a
with_filters_fits x (f ∷ fs) a = a

pub attached_fits : (x : Symbol) → Fits x → Fits (attached x)
attached_fits (Label name (Filtered x fs)) a =
    guarded_fits (befores fs) (afters fs) (Label name (with_filters x (exclusions fs))) (befores_fit fs) (afters_fit fs)
    (with_filters_fits x (exclusions fs) a)
attached_fits (Filtered x fs) a =
    guarded_fits (befores fs) (afters fs) (with_filters x (exclusions fs)) (befores_fit fs) (afters_fit fs)
    (with_filters_fits x (exclusions fs) a)
attached_fits x a = a
