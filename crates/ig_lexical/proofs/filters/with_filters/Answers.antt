use Rattle.std.proofs.Common.{◌≡◌, ◌∙◌, List, [], ◌∷◌, refl, sym, ap}
use Rattle.std.proofs.lemmas.Bool.{false≢true}
use Rattle.ig_grammar.specs.Symbol.{Symbol, Filtered}
use Rattle.ig_grammar.specs.declared.filter.Filter.{Filter}
use Rattle.ig_lexical.specs.Filters.{with_filters}
use Rattle.ig_lexical.proofs.filters.with_filters.Goals as goal

with_some : (x : Symbol) (fs : List Filter) → (fs ≡ [] → ⊥) → Filtered x fs ≡ with_filters x fs
with_some x [] h = absurd (h refl)
with_some x (f ∷ fs) h = refl

pub returns-then-is_empty : goal.returns-then-is_empty
returns-then-is_empty c =
    c.into_symbol.ensures ∙ ap (with_filters c.args.inner) (sym (c.is_empty.ensures.0 c.if-is_empty.true))

pub returns-else-is_empty : goal.returns-else-is_empty
returns-else-is_empty c =
    with_some c.args.inner c.args.kept (λ e. false≢true (sym c.if-is_empty.false ∙ c.is_empty.ensures.1 e))
