use Rattle.std.proofs.Common.{◌≡◌, ◌∙◌, List, [], ◌∷◌, ◌++◌, map, refl, sym, ap, subst, append_assoc}
use Rattle.std.proofs.lemmas.Bool.{false≢true}
use Rattle.ig_expr.specs.Expression.{Expression}
use Rattle.ig_grammar.specs.Symbol.{Symbol, Guard, Seq, gathered}
use Rattle.ig_grammar.specs.View.{symbol_of}
use Rattle.ig_lexical.specs.Filters.{befores, afters, guarded}
use Rattle.ig_lexical.proofs.filters.guard.Goals as goal

-- where a guard stands before or behind it, the symbol becomes a sequence
in_sequence : (before after : List Expression) (x : Symbol) → (before ≡ [] × after ≡ [] → ⊥) →
    Seq (gathered (map Guard before ++ x ∷ map Guard after)) ≡ guarded before after x
in_sequence [] [] x h = absurd (h (refl, refl))
in_sequence [] (b ∷ after) x h = refl
in_sequence (a ∷ before) after x h = refl

one_by_one : (before after : List Expression) (x : Symbol) (xs ys zs : List Symbol) → xs ≡ map Guard before →
    ys ≡ xs ++ x ∷ [] → zs ≡ ys ++ map Guard after → zs ≡ map Guard before ++ x ∷ map Guard after
one_by_one before after x xs ys zs e f g =
    g ∙ ap (λ z. z ++ map Guard after) (f ∙ ap (λ z. z ++ x ∷ []) e) ∙ append_assoc (map Guard before) (x ∷ []) (map Guard after)

pub returns : goal.returns
returns c =
    let fs = c.as_slice-filters.result.now in
    let x = symbol_of c.args.symbol in
    subst (λ gs. Seq (gathered c.add_guards.new.symbols) ≡ guarded (befores gs) (afters gs) x) c.as_slice-filters.ensures
    (ap (λ z. Seq (gathered z)) (one_by_one (befores fs) (afters fs) x c.in-Ok.guards c.push_symbol.new.all
    c.add_guards.new.symbols c.in-Ok.ensures c.in_ok-push_symbol.ensures c.in_ok-add_guards.ensures) ∙
    in_sequence (befores fs) (afters fs) x
    (λ none. false≢true (sym c.if-excludes_only.false ∙ c.excludes_only.ensures.1 none)))
