-- In the source the elements of an alternative get what they ask, each where names differ.
use Rattle.ig_grammar.specs.Visible.{names}
use Rattle.std.proofs.Common.{◌≡◌, ℕ, ◌+◌, Bool, true, false, List, [], ◌∷◌, ◌++◌, refl, sym, ◌∙◌, ap, subst, Option}
use Rattle.std.proofs.Common.{Some, None, append_assoc}
use Rattle.std.specs.Prelude.{◌||◌, Contains}
use Rattle.std.specs.Cmp.Lexicographic.{bytes_decides}
use Rattle.std.proofs.lemmas.List.{append-nil}
use Rattle.ig_ebnf_variables.proofs.LoweredCalm.{Distinct, AreCalm}
use Rattle.ig_ebnf_variables.proofs.Definitions.{has}
use Rattle.ig_ebnf_variables.proofs.Environments.{has_append}
use Rattle.ig_ebnf_variables.proofs.VisibleKinds.{has_named}
use Rattle.ig_ebnf_variables.proofs.Occurrences.{Calm, AllCalm, of_first, of_second}
use Rattle.ig_ebnf_variables.proofs.ClearSymbols.{Clear, SymbolsClear}
use Rattle.ig_ebnf_variables.specs.Lists.{Element, elements, all_elements, count}
use Rattle.ig_expr.specs.declared.kind.Kind.{Kind}
use Rattle.ig_expr.specs.declared.kind.Kind.TheVariants.{Span}
use Rattle.ig_grammar.specs.Regular.{MayHaveLabel}
use Rattle.ig_grammar.specs.Symbol.{Symbol, Literal, OneOf, Call, Label, Guard, Let, Opt, Star, Plus, SepStar}
use Rattle.ig_grammar.specs.Symbol.{SepPlus, Group, Offside, Ignore, Align}
use Rattle.ig_grammar.specs.Symbol.{Filtered, Seq, Entry, Symbols, no_symbols, next_symbol}
use Rattle.ig_grammar.specs.Visible.{Visible, binds, all_bind, bound, kind_at, inside, inside_sequence, at}
use Rattle.ig_grammar.specs.declared.declaration.DeclKind.{DeclKind}
use Rattle.ig_grammar.specs.declared.grammar.Grammar.{Grammar}
use Rattle.ig_text.specs.Words.{is_word}
use Rattle.ig_text.proofs.Characters.{differs}
use Rattle.ig_grammar.specs.Forms.{label_of_filtered}

unlabelled : (x : Symbol) (v : Visible) → MayHaveLabel x → Clear x → binds v x ≡ []
unlabelled (Literal w) v h clear = refl
unlabelled (OneOf w) v h clear = refl
unlabelled (Call m es) v h clear = refl
unlabelled (Label m x) v h clear = absurd h
unlabelled (Guard e) v h clear = absurd h
unlabelled (Let m e) v h clear = absurd h
unlabelled (Opt x) v h clear = refl
unlabelled (Star x) v h clear = refl
unlabelled (Plus x) v h clear = refl
unlabelled (SepStar x s) v h clear = refl
unlabelled (SepPlus x s) v h clear = refl
unlabelled (Group ys) v h clear = refl
unlabelled (Offside x) v h clear = absurd clear
unlabelled (Ignore x) v h clear = absurd clear
unlabelled (Align x) v h clear = absurd clear
unlabelled (Filtered x fs) v h clear = unlabelled x v (label_of_filtered x clear.0) clear.2
unlabelled (Seq xs) v h clear = absurd h
unlabelled (Entry bs x) v h clear = refl

distinct_one : (v : Visible) (n : List ℕ) (k : Kind) → Distinct v → has v n ≡ false → Distinct (v ++ (n, k) ∷ [])
distinct_one [] n k d e = (refl, tt)
distinct_one (p ∷ v) n k d e = go (is_word p.0 n) refl (distinct_one v n k d.1)
  where
    go : (t : Bool) → is_word p.0 n ≡ t → (has v n ≡ false → Distinct (v ++ (n, k) ∷ [])) →
        Distinct (p ∷ (v ++ (n, k) ∷ []))
    go true f below = let bad : true ≡ false = sym (ap (λ z. z || has v n) f) ∙ e in absurd (cc)
    go false f below = (
      has_append v ((n, k) ∷ []) p.0 ∙
          (λ z. d.0
          z || (differs n p.0
          (λ same. let bad : true ≡ false = sym ((bytes_decides p.0 n).1 (sym same)) ∙ f in absurd (cc)) z || false)),
      below (sym (ap (λ z. z || has v n) f) ∙ e),
    )

same_distinct : (v more : Visible) → Distinct v → more ≡ [] → Distinct (v ++ more)
same_distinct v more d e = subst (λ z. Distinct (v ++ z)) (sym e) (subst Distinct (sym (append-nil v)) d)

bound_distinct : (v : Visible) (n : List ℕ) (o : Option Kind) → Distinct v → has v n ≡ false →
    Distinct (v ++ bound n o)
bound_distinct v n None d e = same_distinct v [] d refl
bound_distinct v n (Some k) d e = distinct_one v n k d e

module _ (g : Grammar) (k : DeclKind) where
  unseen : (v : Visible) (n : List ℕ) → (Contains (names v) n → ⊥) → has v n ≡ false
  unseen v n never = go (has v n) refl
    where
      go : (t : Bool) → has v n ≡ t → t ≡ false
      go true e = absurd (never (has_named v n e))
      go false e = refl

  pub calm_append : (es fs : List Element) → AreCalm g k es → AreCalm g k fs → AreCalm g k (es ++ fs)
  calm_append [] fs h i = i
  calm_append (e ∷ es) fs h i = (h.0, h.1, h.2, calm_append es fs h.3 i)

  mutual
    pub source_calm : (x : Symbol) (v : Visible) (m : ℕ) → Distinct v → Calm g k v x → AllCalm g k (inside v x) →
        Clear x →
        AreCalm g k (elements v m x) × Distinct (v ++ binds v x)
    source_calm (Literal w) v m d calm all clear = ((d, calm, all, tt), same_distinct v [] d refl)
    source_calm (OneOf w) v m d calm all clear = ((d, calm, all, tt), same_distinct v [] d refl)
    source_calm (Call n es) v m d calm all clear = ((d, calm, all, tt), same_distinct v [] d refl)
    source_calm (Label n x) v m d calm all clear = (
      (d, calm, all, tt),
      subst (λ z. Distinct (v ++ (z ++ (n, Span) ∷ []))) (sym (unlabelled x v clear.0 clear.1))
          (distinct_one v n Span d (unseen v n calm)),
    )
    source_calm (Guard e) v m d calm all clear = ((d, calm, all, tt), same_distinct v [] d refl)
    source_calm (Let n e) v m d calm all clear = (
      (d, calm, all, tt),
      bound_distinct v n (kind_at v e) d (unseen v n calm.0),
    )
    source_calm (Opt x) v m d calm all clear = ((d, calm, all, tt), same_distinct v [] d refl)
    source_calm (Star x) v m d calm all clear = ((d, calm, all, tt), same_distinct v [] d refl)
    source_calm (Plus x) v m d calm all clear = ((d, calm, all, tt), same_distinct v [] d refl)
    source_calm (SepStar x s) v m d calm all clear = ((d, calm, all, tt), same_distinct v [] d refl)
    source_calm (SepPlus x s) v m d calm all clear = ((d, calm, all, tt), same_distinct v [] d refl)
    source_calm (Group ys) v m d calm all clear = ((d, calm, all, tt), same_distinct v [] d refl)
    source_calm (Offside x) v m d calm all clear = absurd clear
    source_calm (Ignore x) v m d calm all clear = absurd clear
    source_calm (Align x) v m d calm all clear = absurd clear
    source_calm (Filtered x fs) v m d calm all clear =
        ((d, calm, all, tt), same_distinct v (binds v x) d (unlabelled x v (label_of_filtered x clear.0) clear.2))
    source_calm (Seq xs) v m d calm all clear = all_source_calm xs v m d all clear
    source_calm (Entry bs x) v m d calm all clear = ((d, calm, all, tt), same_distinct v [] d refl)

    pub all_source_calm : (xs : Symbols) (v : Visible) (m : ℕ) → Distinct v → AllCalm g k (inside_sequence v xs) →
        SymbolsClear xs →
        AreCalm g k (all_elements v m xs) × Distinct (v ++ all_bind v xs)
    all_source_calm no_symbols v m d all clear = (tt, same_distinct v [] d refl)
    all_source_calm (next_symbol x xs) v m d all clear =
        let u = v ++ binds v x in
        let here = of_first (Calm g k) (at v x ∷ inside v x) (inside_sequence u xs) all in
        let first = source_calm x v m d here.0 here.1 clear.0 in
        let rest =
        all_source_calm xs u (m + count x) first.1
        (of_second (Calm g k) (at v x ∷ inside v x) (inside_sequence u xs) all) clear.1 in (
          calm_append (elements v m x) (all_elements u (m + count x) xs) first.0 rest.0,
          subst Distinct (append_assoc v (binds v x) (all_bind u xs)) rest.1,
        )
