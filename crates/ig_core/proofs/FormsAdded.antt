-- No declaration that the pass for lists adds is a rule.
use Rattle.std.proofs.Common.{◌≡◌, ◌∙◌, ℕ, zero, suc, ◌+◌, List, [], ◌∷◌, ◌++◌, Some, slice_get, sym, subst}
use Rattle.std.specs.Prelude.{◌≢◌}
use Rattle.std.proofs.lemmas.Option.{same_Some}
use Rattle.std.proofs.lemmas.List.{map-append}
use Rattle.ig_grammar.specs.Symbol.{Symbol, Label, Opt, Star, Plus, SepStar, SepPlus, Group, Offside, Ignore, Align, Filtered, Seq, Entry, gathered}
use Rattle.ig_grammar.specs.Symbol.{Symbols, no_symbols, next_symbol, Alternatives, no_alternatives, next_alternative}
use Rattle.ig_grammar.specs.Visible.{Visible, binds, replaced, parameters}
use Rattle.ig_grammar.specs.declared.declaration.Decl.{Decl}
use Rattle.ig_grammar.specs.declared.declaration.Level.{Level}
use Rattle.ig_grammar.specs.declared.place.Shape.{Shape}
use Rattle.ig_grammar.specs.declared.place.Shape.TheVariants as shape
use Rattle.ig_grammar.specs.declared.place.Shape.TheVariants.{Rule}
use Rattle.ig_grammar.specs.declared.symbol.Alt.{Alt}
use Rattle.ig_ebnf_variables.specs.Lists.{Made, forms_of, count, count_symbols, count_alts, added, added_symbols, added_alternatives, added_alts, added_levels, added_by, all_added}

-- none of the shapes is that of a rule
abbrev pub HasNoRule : List Shape → Type 0
HasNoRule shapes = (k : ℕ) (s : Shape) → slice_get shapes k ≡ Some s → s ≢ Rule

pub no_rule_joined : (xs ys : List Shape) → HasNoRule xs → HasNoRule ys → HasNoRule (xs ++ ys)
no_rule_joined [] ys a b k s e = b k s e
no_rule_joined (x ∷ xs) ys a b zero s e = a zero s e
no_rule_joined (x ∷ xs) ys a b (suc k) s e = no_rule_joined xs ys (λ j t at. a (suc j) t at) b k s e

abbrev NoRuleAdded : List Made → Type 0
NoRuleAdded ms = HasNoRule (forms_of ms)

none_added : NoRuleAdded []
none_added k s e = absurd (cc)

both : (ms ns : List Made) → NoRuleAdded ms → NoRuleAdded ns → NoRuleAdded (ms ++ ns)
both ms ns a b =
    subst HasNoRule (sym (map-append (λ (m : Made). m.shape) ms ns)) (no_rule_joined (forms_of ms) (forms_of ns) a b)

first : (form : Shape) (forms : List Shape) → form ≢ Rule → HasNoRule forms → HasNoRule (form ∷ forms)
first form forms other rest zero s e = λ is. other (same_Some form s e ∙ is)
first form forms other rest (suc k) s e = rest k s e

module _ (of : List ℕ) where
  mutual
    by_symbol : (v : Visible) (k : ℕ) (x : Symbol) → NoRuleAdded (added of v k x)
    by_symbol v k (Label name x) = by_symbol v k x
    by_symbol v k (Opt x) = first shape.Opt _ (λ e. cc) (by_symbol v (suc k) x)
    by_symbol v k (Star x) = first shape.Star _ (λ e. cc) (by_symbol v (suc k) x)
    by_symbol v k (Plus x) = first shape.Plus _ (λ e. cc) (by_symbol v (suc k) x)
    by_symbol v k (SepStar x separator) =
        let inside = added of v (suc (suc k)) x in
        let behind = added of v (suc (suc k) + count x) separator in
        first shape.SepStar (shape.SepPlus ∷ forms_of (inside ++ behind)) (λ e. cc)
        (first shape.SepPlus (forms_of (inside ++ behind)) (λ e. cc)
        (both inside behind (by_symbol v (suc (suc k)) x) (by_symbol v (suc (suc k) + count x) separator)))
    by_symbol v k (SepPlus x separator) =
        first shape.SepPlus _ (λ e. cc)
        (both (added of v (suc k) x) (added of v (suc k + count x) separator) (by_symbol v (suc k) x)
        (by_symbol v (suc k + count x) separator))
    by_symbol v k (Group choices) = first shape.Group _ (λ e. cc) (by_choices v (suc k) choices)
    by_symbol v k (Offside x) = by_symbol v k x
    by_symbol v k (Ignore x) = by_symbol v k x
    by_symbol v k (Align x) = by_symbol v k x
    by_symbol v k (Filtered x filters) = by_symbol v k x
    by_symbol v k (Seq xs) = by_symbols v k xs
    by_symbol v k (Entry bindings x) = by_symbol (replaced v v bindings) k x
    by_symbol v k x = none_added

    by_symbols : (v : Visible) (k : ℕ) (xs : Symbols) → NoRuleAdded (added_symbols of v k xs)
    by_symbols v k no_symbols = none_added
    by_symbols v k (next_symbol x xs) =
        both (added of v k x) (added_symbols of (v ++ binds v x) (k + count x) xs) (by_symbol v k x)
        (by_symbols (v ++ binds v x) (k + count x) xs)

    by_choices : (v : Visible) (k : ℕ) (choices : Alternatives) → NoRuleAdded (added_alternatives of v k choices)
    by_choices v k no_alternatives = none_added
    by_choices v k (next_alternative xs others) =
        both (added_symbols of v k xs) (added_alternatives of v (k + count_symbols xs) others) (by_symbols v k xs)
        (by_choices v (k + count_symbols xs) others)

  by_alts : (v : Visible) (k : ℕ) (alts : List Alt) → NoRuleAdded (added_alts of v k alts)
  by_alts v k [] = none_added
  by_alts v k (a ∷ others) =
      let next : ℕ = k + count_symbols (gathered a.symbols) in
      both (added_symbols of v k (gathered a.symbols)) (added_alts of v next others) (by_symbols v k (gathered a.symbols))
      (by_alts v next others)

  by_levels : (v : Visible) (k : ℕ) (levels : List Level) → NoRuleAdded (added_levels of v k levels)
  by_levels v k [] = none_added
  by_levels v k (level ∷ others) =
      let next : ℕ = k + count_alts level.alts in
      both (added_alts of v k level.alts) (added_levels of v next others) (by_alts v k level.alts) (by_levels v next others)

pub no_rule_added : (decls : List Decl) → HasNoRule (forms_of (all_added decls))
no_rule_added [] = none_added
no_rule_added (d ∷ ds) =
    both (added_by d) (all_added ds) (by_levels d.name (parameters d.params) 1 d.levels) (no_rule_added ds)
