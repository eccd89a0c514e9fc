-- What holds of each added declaration, where it holds of those that are added for each alternative.
use Rattle.std.proofs.Common.{◌≡◌, ℕ, zero, suc, ◌+◌, List, [], ◌∷◌, ◌++◌, refl, ◌∙◌, ap, subst, Some}
use Rattle.std.specs.Prelude.{slice_get}
use Rattle.std.proofs.lemmas.Option.{same_Some}
use Rattle.std.proofs.lemmas.List.{append-nil}
use Rattle.ig_grammar.specs.Numbering.{alternatives}
use Rattle.ig_grammar.specs.Symbol.{gathered}
use Rattle.ig_grammar.specs.Visible.{Visible}
use Rattle.ig_grammar.specs.declared.symbol.Alt.{Alt}
use Rattle.ig_grammar.specs.declared.declaration.Level.{Level}
use Rattle.ig_grammar.specs.declared.declaration.Decl.{Decl}
use Rattle.ig_grammar.specs.declared.grammar.Grammar.{Grammar}
use Rattle.ig_grammar.specs.declared.place.Shape.{Shape}
use Rattle.ig_meaning.specs.Laws.{HasNoOperators}
use Rattle.ig_ebnf_variables.specs.Lists.{Made, added_symbols, added_alts, added_levels, added_by, all_added, count_symbols}
use Rattle.ig_ebnf_variables.proofs.Definitions.{AllDeclared}
use Rattle.ig_ebnf_variables.proofs.Elements.{declared_first, declared_second}

module _ (P : Made → Type 0) where
  abbrev pub OfAdded : List Made → Type 0
  OfAdded [] = Unit {0}
  OfAdded (m ∷ ms) = P m × OfAdded ms

  pub of_added_both : (ms ns : List Made) → OfAdded ms → OfAdded ns → OfAdded (ms ++ ns)
  of_added_both [] ns h i = i
  of_added_both (m ∷ ms) ns h i = (h.0, of_added_both ms ns h.1 i)

  pub of_added_at : (ms : List Made) → OfAdded ms → (n : ℕ) (m : Made) → slice_get ms n ≡ Some m → P m
  of_added_at [] h n m e = absurd (cc)
  of_added_at (x ∷ ms) h zero m e = subst P (same_Some x m e) h.0
  of_added_at (x ∷ ms) h (suc n) m e = of_added_at ms h.1 n m e

  module _ (g' : Grammar) (shapes' : List Shape) (of : List ℕ) (v : Visible) where
    -- what is to be shown of an alternative
    abbrev pub ByAlternative : Alt → Type 0
    ByAlternative a = (k : ℕ) → AllDeclared g' shapes' (added_symbols of v k (gathered a.symbols)) →
        OfAdded (added_symbols of v k (gathered a.symbols))

    May : List ℕ → Type 0
    May name = Unit {0}

    by_alts : (alts : List Alt) (k : ℕ) → ((m : ℕ) (a : Alt) → slice_get alts m ≡ Some a → ByAlternative a) →
        AllDeclared g' shapes' (added_alts of v k alts) → OfAdded (added_alts of v k alts)
    by_alts [] k each d = tt
    by_alts (a ∷ alts) k each d =
        let here = added_symbols of v k (gathered a.symbols) in
        let rest = added_alts of v (k + count_symbols (gathered a.symbols)) alts in
        of_added_both here rest (each 0 a refl k (declared_first g' shapes' May here rest d))
        (by_alts alts (k + count_symbols (gathered a.symbols)) (λ m b e. each (suc m) b e)
        (declared_second g' shapes' May here rest d))

    pub by_levels : (levels : List Level) → HasNoOperators levels →
        ((m : ℕ) (a : Alt) → slice_get (alternatives levels) m ≡ Some a → ByAlternative a) →
        AllDeclared g' shapes' (added_levels of v 1 levels) → OfAdded (added_levels of v 1 levels)
    by_levels [] free each d = tt
    by_levels (level ∷ []) free each d =
        of_added_both (added_alts of v 1 level.alts) []
        (by_alts level.alts 1 (λ m a e. each m a (ap (λ z. slice_get z m) (append-nil level.alts) ∙ e))
        (declared_first g' shapes' May (added_alts of v 1 level.alts) [] d)) tt
    by_levels (level ∷ next ∷ others) free each d = absurd free

  pub by_declarations : (ds : List Decl) →
      ((n : ℕ) (decl : Decl) → slice_get ds n ≡ Some decl → OfAdded (added_by decl)) → OfAdded (all_added ds)
  by_declarations [] each = tt
  by_declarations (d ∷ ds) each =
      of_added_both (added_by d) (all_added ds) (each 0 d refl) (by_declarations ds (λ n decl e. each (suc n) decl e))
