-- The symbols of the declarations that are added get what they ask.
use Rattle.std.proofs.Common.{◌≡◌, ℕ, suc, ◌+◌, Bool, true, false, List, [], ◌∷◌, ◌++◌, map, refl, sym, ◌∙◌, ap}
use Rattle.std.proofs.Common.{subst, cond, Some}
use Rattle.std.specs.Prelude.{◌||◌, option_map}
use Rattle.std.proofs.lemmas.List.{append-nil, map-append}
use Rattle.std.proofs.lemmas.Bool.{or_left, or_right}
use Rattle.ig_ebnf_variables.proofs.LoweredCalm.{Distinct, AreCalm, distinct_replaced, elements_calm}
use Rattle.ig_ebnf_variables.proofs.ClearSymbols.{nothing_bound, Clear, SymbolsClear, AlternativesClear}
use Rattle.ig_ebnf_variables.proofs.Definitions.{Proper, SymbolsProper, AlternativesProper, Ready, AllDeclared}
use Rattle.ig_ebnf_variables.proofs.Environments.{has_keep, has_append}
use Rattle.ig_ebnf_variables.proofs.Definitions.{has}
use Rattle.ig_text.specs.Words.{is_word}
use Rattle.ig_text.proofs.Characters.{itself}
use Rattle.ig_pass.specs.Needs.{is_added}
use Rattle.std.specs.Prelude.{◌&&◌, not, slice_get}
use Rattle.ig_grammar.specs.declared.declaration.Decl.{Decl}
use Rattle.ig_ebnf_variables.specs.Lists.{keep}
use Rattle.ig_ebnf_variables.proofs.VisibleKinds.{narrower, entered_narrow}
use Rattle.ig_ebnf_variables.proofs.Occurrences.{Calm, AllCalm, of_first, of_second}
use Rattle.ig_ebnf_variables.proofs.Elements.{elements_need, elements_want, all_elements_want, elements_need_append}
use Rattle.ig_ebnf_variables.proofs.Elements.{declared_first, declared_second, ready}
use Rattle.ig_ebnf_variables.proofs.Elements.{all_ready, ready_append}
use Rattle.ig_ebnf_variables.proofs.OfAdded.{OfAdded, of_added_both}
use Rattle.ig_ebnf_variables.proofs.SourceCalm.{source_calm, all_source_calm, calm_append}
use Rattle.ig_ebnf_variables.specs.Lists.{Made, params_for, params_of, alts_of, new_symbol, new_element, new_alternatives}
use Rattle.ig_ebnf_variables.specs.Lists.{sep_plus_alternatives, new_declaration, added, added_symbols, added_alternatives}
use Rattle.ig_ebnf_variables.specs.Lists.{Element, element, elements}
use Rattle.ig_ebnf_variables.specs.Lists.{all_elements, count, count_symbols}
use Rattle.ig_grammar.specs.Condition.{IsInLexical, declaration_of}
use Rattle.ig_grammar.specs.Symbol.{Symbol, Literal, OneOf, Call, Label, Guard, Let, Opt, Star, Plus, SepStar}
use Rattle.ig_grammar.specs.Symbol.{SepPlus, Group, Offside, Ignore, Align}
use Rattle.ig_grammar.specs.Symbol.{Filtered, Seq, Entry, gathered, Symbols, no_symbols, next_symbol, Alternatives}
use Rattle.ig_grammar.specs.Symbol.{no_alternatives, next_alternative}
use Rattle.ig_grammar.specs.Visible.{Visible, binds, replaced, parameters, inside, inside_sequence, inside_choices}
use Rattle.ig_grammar.specs.Visible.{at}
use Rattle.ig_grammar.specs.declared.declaration.DeclKind.{DeclKind}
use Rattle.ig_grammar.specs.declared.declaration.DeclKind.TheVariants.{Plain}
use Rattle.ig_grammar.specs.declared.declaration.Level.{Level}
use Rattle.ig_grammar.specs.declared.grammar.Grammar.{Grammar}
use Rattle.ig_grammar.specs.declared.place.Shape.{Shape}
use Rattle.ig_grammar.specs.declared.symbol.Alt.{Alt}
use Rattle.ig_pass.specs.Needs.{needs, alternatives_need, symbols_need, is_pair}
use Rattle.ig_pass.specs.Asked.{AsksElsewhere}

same_parameters : (ps : Visible) → parameters (params_of ps) ≡ ps
same_parameters [] = refl
same_parameters (p ∷ ps) = ap (λ z. (p.0, p.1) ∷ z) (same_parameters ps)

-- the parameters of an added declaration have names that differ
all_have : (p : List ℕ → Bool) (v : Visible) (n : List ℕ) → has v n ≡ false → has (keep p v) n ≡ false
all_have p v n e = has_keep p v n ∙ ap (λ z. z && p n) e

distinct_keep : (p : List ℕ → Bool) (v : Visible) → Distinct v → Distinct (keep p v)
distinct_keep p [] d = tt
distinct_keep p (x ∷ v) d = go (p x.0) (distinct_keep p v d.1)
  where
    go : (t : Bool) → Distinct (keep p v) → Distinct (cond t (x ∷ keep p v) (keep p v))
    go true below = (all_have p v x.0 d.0, below)
    go false below = below

distinct_both : (us ws : Visible) → Distinct us → Distinct ws → ((n : List ℕ) → has us n ≡ true → has ws n ≡ false) →
    Distinct (us ++ ws)
distinct_both [] ws d e apart = e
distinct_both (p ∷ us) ws d e apart = (
  has_append us ws p.0 ∙ (λ z. d.0 z || apart p.0 (or_left (is_word p.0 p.0) (has us p.0) (itself p.0)) z),
  distinct_both us ws d.1 e (λ n h. apart n (or_right (is_word p.0 n) (has us n) h)),
)

distinct_params : (v : Visible) (wanted : List ℕ → Bool) → Distinct v → Distinct (params_for v wanted)
distinct_params v wanted d =
    distinct_both (keep (λ n. not (is_added n) && wanted n) v) (keep (λ n. is_added n && wanted n) v)
    (distinct_keep (λ n. not (is_added n) && wanted n) v d) (distinct_keep (λ n. is_added n && wanted n) v d)
    (λ n h. has_keep (λ m. is_added m && wanted m) v n ∙
    go n (has v n) (is_added n) (wanted n) (sym (has_keep (λ m. not (is_added m) && wanted m) v n) ∙ h))
  where
    go : (n : List ℕ) (h a t : Bool) → (h && (not a && t)) ≡ true → (h && (a && t)) ≡ false
    go n false a t e = refl
    go n true true t e = absurd (cc)
    go n true false t e = refl

named : (v : Visible) (wanted : List ℕ → Bool) → Distinct v → Distinct (parameters (params_of (params_for v wanted)))
named v wanted d = subst Distinct (sym (same_parameters (params_for v wanted))) (distinct_params v wanted d)

module _ (g' : Grammar) where
  abbrev pub AltsCalm : Visible → List Alt → Type 0
  AltsCalm w [] = Unit {0}
  AltsCalm w (a ∷ alts) = AllCalm g' Plain (inside_sequence w (gathered a.symbols)) × AltsCalm w alts

  abbrev pub LevelsCalm : Visible → List Level → Type 0
  LevelsCalm w [] = Unit {0}
  LevelsCalm w (level ∷ levels) = AltsCalm w level.alts × LevelsCalm w levels

  -- each symbol of an added declaration gets what it asks, and its parameters have names that differ
  abbrev pub IsCalm : Made → Type 0
  IsCalm m = Distinct (parameters m.decl.params) × LevelsCalm (parameters m.decl.params) m.decl.levels

  abbrev pub AllMadeCalm : List Made → Type 0
  AllMadeCalm = OfAdded IsCalm

module _ (elsewhere : AsksElsewhere) (g g' : Grammar) (shapes' : List Shape) (k : DeclKind) (May : List ℕ → Type 0)
    (declared : (name : List ℕ) → May name →
    declaration_of g'.decls name ≡ option_map new_declaration (declaration_of g.decls name))
    (each_found : (k : ℕ) (decl : Decl) → slice_get g'.decls k ≡ Some decl → declaration_of g'.decls decl.name ≡ Some decl) (of : List ℕ) where
  abbrev IsReady : Visible → List Element → Visible → Type 0
  IsReady = Ready g' shapes' May of

  lexical : IsInLexical Plain → IsInLexical k
  lexical never = absurd never

  -- an alternative of an added declaration
  alt_calm : (es : List Element) (v u : Visible) (wanted : List ℕ → Bool) → IsReady v es u → AreCalm g k es →
      ((n : List ℕ) → elements_need n es ≡ true → wanted n ≡ true) →
      AllCalm g' Plain
      (inside_sequence (parameters (params_of (params_for v wanted))) (gathered (map (new_element of) es)))
  alt_calm es v u wanted r calm sub =
      subst (λ z. AllCalm g' Plain (inside_sequence z (gathered (map (new_element of) es))))
      (sym (same_parameters (params_for v wanted)))
      (elements_calm elsewhere g g' shapes' k Plain lexical May declared each_found of es v (params_for v wanted) u r calm
      (narrower (entered_narrow v wanted) sub))

  need_first : (n : List ℕ) (x : Symbol) (es : List Element) (wanted : Bool) →
      (needs n x || elements_need n es) ≡ true → (needs n x ≡ true → wanted ≡ true) →
      (elements_need n es ≡ true → wanted ≡ true) → wanted ≡ true
  need_first n x es wanted e f h = go (needs n x) refl e
    where
      go : (t : Bool) → needs n x ≡ t → (t || elements_need n es) ≡ true → wanted ≡ true
      go true is e = f is
      go false is e = h e

  either_need : (n : List ℕ) (es fs : List Element) (wanted : Bool) → elements_need n (es ++ fs) ≡ true →
      (elements_need n es ≡ true → wanted ≡ true) → (elements_need n fs ≡ true → wanted ≡ true) → wanted ≡ true
  either_need n es fs wanted e f h = go (elements_need n es) refl (sym (elements_need_append n es fs) ∙ e)
    where
      go : (t : Bool) → elements_need n es ≡ t → (t || elements_need n fs) ≡ true → wanted ≡ true
      go true is e = f is
      go false is e = h e

  -- behind a call, from the same variables
  behind : (v u : Visible) (es : List Element) → IsReady v es u → IsReady (v ++ []) es u
  behind v u es r = subst (λ z. IsReady z es u) (sym (append-nil v)) r

  sep_plus_calm : (x s : Symbol) (v : Visible) (m : ℕ) → (p : Proper May v (SepPlus x s)) →
      AllDeclared g' shapes' (added of v m (SepPlus x s)) → Distinct v → AllCalm g k (inside v (SepPlus x s)) →
      Clear (SepPlus x s) →
      AltsCalm g' (parameters (params_of (params_for v (λ n. needs n (SepPlus x s)))))
      (alts_of (sep_plus_alternatives of v m x s)) × Unit {0}
  sep_plus_calm x s v m p d dis all clear =
      let l = suc m + count x in
      let wanted : List ℕ → Bool = λ n. needs n (SepPlus x s) in
      let first = of_first (Calm g k) (at v x ∷ inside v x) (at v s ∷ inside v s) all in
      let second = of_second (Calm g k) (at v x ∷ inside v x) (at v s ∷ inside v s) all in
      let x_calm = (source_calm g k x v (suc m) dis first.0 first.1 clear.0).0 in
      let s_calm = (source_calm g k s v l dis second.0 second.1 clear.1).0 in
      let x_ready =
      ready g' shapes' May of x v (suc m) p.0
      (declared_first g' shapes' May (added of v (suc m) x) (added of v l s) d.1) in
      let s_ready =
      subst (λ z. IsReady v (elements v l s) z) (ap (λ z. v ++ z) (nothing_bound s v clear.2) ∙ append-nil v)
      (ready g' shapes' May of s v l p.1
      (declared_second g' shapes' May (added of v (suc m) x) (added of v l s) d.1)) in
      let in_x : (n : List ℕ) → elements_need n (elements v (suc m) x) ≡ true → wanted n ≡ true =
      λ n u. or_right (is_pair n) (needs n x || needs n s)
      (or_left (needs n x) (needs n s) (sym (elements_want n x v (suc m)) ∙ u)) in
      let in_s : (n : List ℕ) → elements_need n (elements v l s) ≡ true → wanted n ≡ true =
      λ n u. or_right (is_pair n) (needs n x || needs n s)
      (or_right (needs n x) (needs n s) (sym (elements_want n s v l) ∙ u)) in
      let both = elements v l s ++ elements v (suc m) x in
      let long = alt_calm (element v m (SepPlus x s) ∷ both) v (v ++ binds v x) wanted (
        refl,
        tt,
        p,
        d,
        behind v (v ++ binds v x) both
            (ready_append g' shapes' May of (elements v l s) (elements v (suc m) x) v v (v ++ binds v x) s_ready
            x_ready),
      ) (
        dis,
        tt,
        all,
        calm_append g k (elements v l s) (elements v (suc m) x) s_calm x_calm,
      )
      (λ n u. need_first n (SepPlus x s) both (wanted n) u (λ e. e)
      (λ e. either_need n (elements v l s) (elements v (suc m) x) (wanted n) e (in_s n) (in_x n))) in (
        (
          alt_calm (elements v (suc m) x) v (v ++ binds v x) wanted x_ready x_calm in_x,
          (
            subst
                (λ z. AllCalm g' Plain
                (inside_sequence (parameters (params_of (params_for v wanted)))
                (gathered (new_symbol of v m (SepPlus x s) ∷ z))))
                (map-append (new_element of) (elements v l s) (elements v (suc m) x)) long,
            tt,
          ),
        ),
        tt,
      )

  mutual
    pub made_calm : (x : Symbol) (v : Visible) (m : ℕ) → Proper May v x → AllDeclared g' shapes' (added of v m x) →
        Distinct v → Calm g k v x → AllCalm g k (inside v x) →
        Clear x → AllMadeCalm g' (added of v m x)
    made_calm (Literal w) v m p d dis calm all clear = tt
    made_calm (OneOf w) v m p d dis calm all clear = tt
    made_calm (Call n es) v m p d dis calm all clear = tt
    made_calm (Guard e) v m p d dis calm all clear = tt
    made_calm (Let n e) v m p d dis calm all clear = tt
    made_calm (Label n x) v m p d dis calm all clear = made_calm x v m p.1 d dis all.0 all.1 clear.1
    made_calm (Filtered x fs) v m p d dis calm all clear = made_calm x v m p.1 d dis all.0 all.1 clear.2
    made_calm (Offside x) v m p d dis calm all clear = absurd clear
    made_calm (Ignore x) v m p d dis calm all clear = absurd clear
    made_calm (Align x) v m p d dis calm all clear = absurd clear
    made_calm (Seq xs) v m p d dis calm all clear = symbols_calm xs v m p d dis all clear
    made_calm (Entry bs x) v m p d dis calm all clear =
        made_calm x (replaced v v bs) m p.2 d (distinct_replaced v (λ n. needs n x) bs v p.1 dis) all.0 all.1 clear.2
    made_calm (Opt x) v m p d dis calm all clear =
        let inner = (source_calm g k x v (suc m) dis all.0 all.1 clear).0 in (
          (
            named v (λ n. needs n (Opt x)) dis,
            (
              ((
                tt,
                (
                  alt_calm (elements v (suc m) x) v _ (λ n. needs n (Opt x))
                      (ready g' shapes' May of x v (suc m) p d.1) inner
                      (λ n u. or_right (is_pair n) (needs n x) (sym (elements_want n x v (suc m)) ∙ u)),
                  tt,
                ),
              )),
              tt,
            ),
          ),
          made_calm x v (suc m) p d.1 dis all.0 all.1 clear,
        )
    made_calm (Star x) v m p d dis calm all clear =
        let inner = (source_calm g k x v (suc m) dis all.0 all.1 clear).0 in
        let r = ready g' shapes' May of x v (suc m) p d.1 in (
          (
            named v (λ n. needs n (Star x)) dis,
            (
              ((
                tt,
                (
                  alt_calm (element v m (Star x) ∷ elements v (suc m) x) v _ (λ n. needs n (Star x))
                      (refl, tt, p, d, behind v _ (elements v (suc m) x) r) (dis, calm, all, inner)
                      (λ n u. need_first n (Star x) (elements v (suc m) x) (needs n (Star x)) u (λ e. e)
                      (λ e. or_right (is_pair n) (needs n x) (sym (elements_want n x v (suc m)) ∙ e))),
                  tt,
                ),
              )),
              tt,
            ),
          ),
          made_calm x v (suc m) p d.1 dis all.0 all.1 clear,
        )
    made_calm (Plus x) v m p d dis calm all clear =
        let inner = (source_calm g k x v (suc m) dis all.0 all.1 clear).0 in
        let r = ready g' shapes' May of x v (suc m) p d.1 in (
          (
            named v (λ n. needs n (Plus x)) dis,
            (
              (
                alt_calm (elements v (suc m) x) v _ (λ n. needs n (Plus x)) r inner
                    (λ n u. or_right (is_pair n) (needs n x) (sym (elements_want n x v (suc m)) ∙ u)),
                (
                  alt_calm (element v m (Plus x) ∷ elements v (suc m) x) v _ (λ n. needs n (Plus x))
                      (refl, tt, p, d, behind v _ (elements v (suc m) x) r) (dis, calm, all, inner)
                      (λ n u. need_first n (Plus x) (elements v (suc m) x) (needs n (Plus x)) u (λ e. e)
                      (λ e. or_right (is_pair n) (needs n x) (sym (elements_want n x v (suc m)) ∙ e))),
                  tt,
                ),
              ),
              tt,
            ),
          ),
          made_calm x v (suc m) p d.1 dis all.0 all.1 clear,
        )
    made_calm (SepPlus x s) v m p d dis calm all clear = (
      (named v (λ n. needs n (SepPlus x s)) dis, sep_plus_calm x s v m p d dis all clear),
      of_added_both (IsCalm g') (added of v (suc m) x) (added of v (suc m + count x) s)
          (made_calm x v (suc m) p.0
          (declared_first g' shapes' May (added of v (suc m) x) (added of v (suc m + count x) s) d.1) dis
          (of_first (Calm g k) (at v x ∷ inside v x) (at v s ∷ inside v s) all).0
          (of_first (Calm g k) (at v x ∷ inside v x) (at v s ∷ inside v s) all).1 clear.0)
          (made_calm s v (suc m + count x) p.1
          (declared_second g' shapes' May (added of v (suc m) x) (added of v (suc m + count x) s) d.1) dis
          (of_second (Calm g k) (at v x ∷ inside v x) (at v s ∷ inside v s) all).0
          (of_second (Calm g k) (at v x ∷ inside v x) (at v s ∷ inside v s) all).1 clear.1),
    )
    made_calm (SepStar x s) v m p d dis calm all clear = (
      (
        named v (λ n. needs n (SepStar x s)) dis,
        (
          (
            tt,
            (
              alt_calm (element v (suc m) (SepPlus x s) ∷ []) v _ (λ n. needs n (SepStar x s))
                  (refl, tt, p, d.1, refl) (dis, tt, all, tt)
                  (λ n u. need_first n (SepPlus x s) [] (needs n (SepPlus x s)) u (λ e. e) (λ e. absurd (cc))),
              tt,
            ),
          ),
          tt,
        ),
      ),
      (
        (named v (λ n. needs n (SepPlus x s)) dis, sep_plus_calm x s v (suc m) p d.1 dis all clear),
        of_added_both (IsCalm g') (added of v (suc (suc m)) x) (added of v (suc (suc m) + count x) s)
            (made_calm x v (suc (suc m)) p.0
            (declared_first g' shapes' May (added of v (suc (suc m)) x) (added of v (suc (suc m) + count x) s)
            d.1.1) dis (of_first (Calm g k) (at v x ∷ inside v x) (at v s ∷ inside v s) all).0
            (of_first (Calm g k) (at v x ∷ inside v x) (at v s ∷ inside v s) all).1 clear.0)
            (made_calm s v (suc (suc m) + count x) p.1
            (declared_second g' shapes' May (added of v (suc (suc m)) x) (added of v (suc (suc m) + count x) s)
            d.1.1) dis (of_second (Calm g k) (at v x ∷ inside v x) (at v s ∷ inside v s) all).0
            (of_second (Calm g k) (at v x ∷ inside v x) (at v s ∷ inside v s) all).1 clear.1),
      ),
    )
    made_calm (Group ys) v m p d dis calm all clear =
        let parts =
        choices_calm ys v (suc m) (λ n. needs n (Group ys))
        (λ n u. or_right (is_pair n) (alternatives_need n ys) u) p d.1 dis all clear in
        ((named v (λ n. needs n (Group ys)) dis, (parts.0, tt)), parts.1)

    pub symbols_calm : (xs : Symbols) (v : Visible) (m : ℕ) → SymbolsProper May v xs →
        AllDeclared g' shapes' (added_symbols of v m xs) → Distinct v → AllCalm g k (inside_sequence v xs) →
        SymbolsClear xs → AllMadeCalm g' (added_symbols of v m xs)
    symbols_calm no_symbols v m p d dis all clear = tt
    symbols_calm (next_symbol x xs) v m p d dis all clear =
        let u = v ++ binds v x in
        let here = of_first (Calm g k) (at v x ∷ inside v x) (inside_sequence u xs) all in
        of_added_both (IsCalm g') (added of v m x) (added_symbols of u (m + count x) xs)
        (made_calm x v m p.0 (declared_first g' shapes' May (added of v m x) (added_symbols of u (m + count x) xs) d)
        dis here.0 here.1 clear.0)
        (symbols_calm xs u (m + count x) p.1
        (declared_second g' shapes' May (added of v m x) (added_symbols of u (m + count x) xs) d)
        (source_calm g k x v m dis here.0 here.1 clear.0).1
        (of_second (Calm g k) (at v x ∷ inside v x) (inside_sequence u xs) all) clear.1)

    choices_calm : (ys : Alternatives) (v : Visible) (m : ℕ) (wanted : List ℕ → Bool) →
        ((n : List ℕ) → alternatives_need n ys ≡ true → wanted n ≡ true) → AlternativesProper May v ys →
        AllDeclared g' shapes' (added_alternatives of v m ys) → Distinct v → AllCalm g k (inside_choices v ys) →
        AlternativesClear ys →
        AltsCalm g' (parameters (params_of (params_for v wanted)))
        (alts_of (new_alternatives of v m ys)) × AllMadeCalm g' (added_alternatives of v m ys)
    choices_calm no_alternatives v m wanted sub p d dis all clear = (tt, tt)
    choices_calm (next_alternative xs ys) v m wanted sub p d dis all clear =
        let here = of_first (Calm g k) (inside_sequence v xs) (inside_choices v ys) all in
        let d1 =
        declared_first g' shapes' May (added_symbols of v m xs)
        (added_alternatives of v (m + count_symbols xs) ys) d in
        let rest =
        choices_calm ys v (m + count_symbols xs) wanted
        (λ n u. sub n (or_right (symbols_need n xs) (alternatives_need n ys) u)) p.1
        (declared_second g' shapes' May (added_symbols of v m xs) (added_alternatives of v (m + count_symbols xs) ys)
        d) dis
        (of_second (Calm g k) (inside_sequence v xs) (inside_choices v ys) all) clear.1 in (
          (
            alt_calm (all_elements v m xs) v _ wanted (all_ready g' shapes' May of xs v m p.0 d1)
                (all_source_calm g k xs v m dis here clear.0).0
                (λ n u. sub n
                (or_left (symbols_need n xs) (alternatives_need n ys) (sym (all_elements_want n xs v m) ∙ u))),
            rest.0,
          ),
          of_added_both (IsCalm g') (added_symbols of v m xs) (added_alternatives of v (m + count_symbols xs) ys)
              (symbols_calm xs v m p.0 d1 dis here clear.0) rest.1,
        )
