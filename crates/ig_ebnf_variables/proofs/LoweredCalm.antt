-- What is lowered gets what it asks.
use Rattle.ig_grammar.specs.Visible.{at}
use Rattle.std.proofs.Common.{◌≡◌, ℕ, suc, Bool, true, false, List, [], ◌∷◌, ◌++◌, map, refl, sym, ◌∙◌, ap, subst}
use Rattle.std.proofs.Common.{cond, Some}
use Rattle.std.specs.Prelude.{◌||◌, option_map}
use Rattle.std.specs.Cmp.Lexicographic.{bytes_decides}
use Rattle.ig_ebnf_variables.proofs.EntryKinds.{entry_fits, same_binds}
use Rattle.ig_ebnf_variables.proofs.Definitions.{has, Proper, Ready, AllDeclared, IsSingle, IsForm, BindingsFit}
use Rattle.ig_ebnf_variables.proofs.Environments.{has_params}
use Rattle.ig_ebnf_variables.proofs.VisibleKinds.{look, look_cons, Narrow, narrower, narrow_more, Entries, entries_params}
use Rattle.ig_ebnf_variables.proofs.VisibleKinds.{call_fits}
use Rattle.ig_ebnf_variables.proofs.Occurrences.{Calm, AllCalm, of_both}
use Rattle.ig_ebnf_variables.proofs.Elements.{elements_need}
use Rattle.ig_pass.specs.Asked.{IsNew, Fit, AsksElsewhere}
use Rattle.ig_pass.specs.Needs.{uses, any_uses}
use Rattle.ig_ebnf_variables.specs.Lists.{params_of}
use Rattle.ig_ebnf_variables.proofs.VisibleKinds.{same_kind, named_has, has_named}
use Rattle.ig_text.proofs.Lists.{at_from_contains}
use Rattle.ig_text.proofs.Characters.{differs, itself}
use Rattle.std.proofs.lemmas.Option.{same_Some}
use Rattle.std.specs.Prelude.{Contains, slice_get}
use Rattle.std.proofs.Common.{zero}
use Rattle.std.proofs.lemmas.Bool.{or_left, or_right, and_parts}
use Rattle.ig_ebnf_variables.specs.Lists.{made, params_for, new, new_symbol, new_element, new_alternatives}
use Rattle.ig_ebnf_variables.specs.Lists.{sep_plus_alternatives}
use Rattle.ig_ebnf_variables.specs.Lists.{new_declaration, added, Element}
use Rattle.ig_expr.specs.Expression.{Expression}
use Rattle.ig_expr.specs.declared.kind.Kind.{Kind}
use Rattle.ig_grammar.specs.Binding.{Binding}
use Rattle.ig_grammar.specs.Condition.{IsInLexical, declaration_of}
use Rattle.ig_grammar.specs.Numbering.{Declares}
use Rattle.ig_grammar.specs.Symbol.{Symbol, Literal, OneOf, Call, Label, Guard, Let, Opt, Star, Plus, SepStar}
use Rattle.ig_grammar.specs.Symbol.{SepPlus, Group, Offside, Ignore, Align}
use Rattle.ig_grammar.specs.Symbol.{Filtered, Seq, Entry, gathered}
use Rattle.ig_grammar.specs.Visible.{Visible, binds, replaced, with_kind, inside, inside_sequence}
use Rattle.ig_grammar.specs.declared.declaration.Decl.{Decl}
use Rattle.ig_grammar.specs.declared.declaration.DeclKind.{DeclKind}
use Rattle.ig_grammar.specs.declared.grammar.Grammar.{Grammar}
use Rattle.ig_grammar.specs.declared.place.Shape.{Shape}
use Rattle.ig_pass.specs.Added.{added_name}
use Rattle.ig_pass.specs.Needs.{needs}
use Rattle.ig_text.specs.Words.{is_word}
use Rattle.ig_grammar.specs.declared.place.Shape.TheVariants as shape

-- no two names
abbrev pub Distinct : Visible → Type 0
Distinct [] = Unit {0}
Distinct (p ∷ v) = (has v p.0 ≡ false) × Distinct v

entries_behind : (us v : Visible) (p : List ℕ × Kind) → Entries us v → has us p.0 ≡ false → Entries us (p ∷ v)
entries_behind [] v p h e = tt
entries_behind (q ∷ us) v p h e = go (is_word q.0 p.0) refl (entries_behind us v p h.1)
  where
    go : (t : Bool) → is_word q.0 p.0 ≡ t → (has us p.0 ≡ false → Entries us (p ∷ v)) →
        (look (p ∷ v) q.0 ≡ Some q.1) × Entries us (p ∷ v)
    go true f below = let bad : true ≡ false = sym (ap (λ z. z || has us p.0) f) ∙ e in absurd (cc)
    go false f below = (
      look_cons p.0 p.1 v q.0 ∙ ap (λ z. cond z (Some p.1) (look v q.0))
          (differs p.0 q.0
          (λ same. let bad : true ≡ false = sym ((bytes_decides q.0 p.0).1 (sym same)) ∙ f in absurd (cc))) ∙ h.0,
      below (sym (ap (λ z. z || has us p.0) f) ∙ e),
    )

pub distinct_entries : (v : Visible) → Distinct v → Entries v v
distinct_entries [] d = tt
distinct_entries (p ∷ v) d = (
  look_cons p.0 p.1 v p.0 ∙ ap (λ z. cond z (Some p.1) (look v p.0)) (itself p.0),
  entries_behind v v p (distinct_entries v d.1) d.0,
)

has_with : (v : Visible) (m : List ℕ) (k : Kind) (n : List ℕ) → has v n ≡ false → is_word m n ≡ false →
    has (with_kind v m (Some k)) n ≡ false
has_with [] m k n e f = ap (λ z. z || false) f
has_with (p ∷ v) m k n e f = go (is_word p.0 m) refl (is_word p.0 n) refl (has_with v m k n)
  where
    go : (t : Bool) → is_word p.0 m ≡ t → (u : Bool) → is_word p.0 n ≡ u →
        (has v n ≡ false → is_word m n ≡ false → has (with_kind v m (Some k)) n ≡ false) →
        has (cond t ((m, k) ∷ v) (p ∷ with_kind v m (Some k))) n ≡ false
    go t i true j below = let bad : true ≡ false = sym (ap (λ z. z || has v n) j) ∙ e in absurd (cc)
    go true i false j below = ap (λ z. z || has v n) f ∙ sym (ap (λ z. z || has v n) j) ∙ e
    go false i false j below = ap (λ z. z || has (with_kind v m (Some k)) n) j ∙
        below (sym (ap (λ z. z || has v n) j) ∙ e) f

distinct_with : (v : Visible) (m : List ℕ) (k : Kind) → Distinct v → Distinct (with_kind v m (Some k))
distinct_with [] m k d = (refl, tt)
distinct_with (p ∷ v) m k d = go (is_word p.0 m) refl (distinct_with v m k d.1)
  where
    go : (t : Bool) → is_word p.0 m ≡ t → Distinct (with_kind v m (Some k)) →
        Distinct (cond t ((m, k) ∷ v) (p ∷ with_kind v m (Some k)))
    go true e below = (sym (ap (has v) ((bytes_decides p.0 m).0 e)) ∙ d.0, d.1)
    go false e below = (
      has_with v m k p.0 d.0
          (differs m p.0
          (λ same. let bad : true ≡ false = sym ((bytes_decides p.0 m).1 (sym same)) ∙ e in absurd (cc))),
      below,
    )

pub distinct_replaced : (outer : Visible) (wanted : List ℕ → Bool) (bs : List Binding) (v : Visible) →
    BindingsFit outer wanted bs → Distinct v → Distinct (replaced outer v bs)
distinct_replaced outer wanted [] v fit d = d
distinct_replaced outer wanted (b ∷ bs) v fit d =
    subst (λ z. Distinct (replaced outer (with_kind v b.name z) bs)) (sym fit.0.1)
    (distinct_replaced outer wanted bs (with_kind v b.name (Some fit.0.0)) fit.3 (distinct_with v b.name fit.0.0 d))

-- elements whose source gets what it asks, each with names that differ
abbrev pub AreCalm : Grammar → DeclKind → List Element → Type 0
AreCalm g k [] = Unit {0}
AreCalm g k (e ∷ es) = Distinct e.v × Calm g k e.v e.x × AllCalm g k (inside e.v e.x) × AreCalm g k es

-- what an argument names, a call needs
all_used : (es : List Expression) (e : Expression) → Contains es e → (n : List ℕ) → uses n e ≡ true → any_uses n es ≡ true
all_used es e among n u = let at = at_from_contains es e among in go es at.0 at.1
  where
    go : (ds : List Expression) (k : ℕ) → slice_get ds k ≡ Some e → any_uses n ds ≡ true
    go [] k h = absurd (cc)
    go (d ∷ ds) zero h = or_left (uses n d) (any_uses n ds) (ap (uses n) (same_Some d e h) ∙ u)
    go (d ∷ ds) (suc k) h = or_right (uses n d) (any_uses n ds) (go ds k h)

still_new : {wanted : List ℕ → Bool} {v w : Visible} → Narrow wanted v w → (n : List ℕ) → IsNew v n → IsNew w n
still_new {v = v} {w = w} s n new i = new (has_named v n (s.less n (named_has w n i)))

module _ (elsewhere : AsksElsewhere) (g g' : Grammar) (shapes' : List Shape) (k k' : DeclKind) (lexical : IsInLexical k' → IsInLexical k)
    (May : List ℕ → Type 0)
    (declared : (name : List ℕ) → May name →
    declaration_of g'.decls name ≡ option_map new_declaration (declaration_of g.decls name))
    (each_found : (k : ℕ) (decl : Decl) → slice_get g'.decls k ≡ Some decl → declaration_of g'.decls decl.name ≡ Some decl) where
  record Head (of : List ℕ) (v : Visible) (m : ℕ) (x : Symbol) : Type 0 where
    sh : Shape
    alts : List (List Symbol)
    head : (d : ℕ) × Declares g' shapes' (added_name of m) d
        (made (added_name of m) (params_for v (λ n. needs n x)) sh alts).decl sh

  head_of : (of : List ℕ) (v : Visible) (m : ℕ) (x : Symbol) → IsForm x → AllDeclared g' shapes' (added of v m x) →
      Head of v m x
  head_of of v m (Opt x) is all = record { sh = shape.Opt; alts = [] ∷ new of v (suc m) x ∷ []; head = all.0 }
  head_of of v m (Star x) is all =
      record { sh = shape.Star; alts = [] ∷ (new_symbol of v m (Star x) ∷ new of v (suc m) x) ∷ []; head = all.0 }
  head_of of v m (Plus x) is all =
      record {
        sh = shape.Plus;
        alts = new of v (suc m) x ∷ (new_symbol of v m (Plus x) ∷ new of v (suc m) x) ∷ [];
        head = all.0;
      }
  head_of of v m (SepStar x s) is all =
      record { sh = shape.SepStar; alts = [] ∷ (new_symbol of v (suc m) (SepPlus x s) ∷ []) ∷ []; head = all.0 }
  head_of of v m (SepPlus x s) is all =
      record { sh = shape.SepPlus; alts = sep_plus_alternatives of v m x s; head = all.0 }
  head_of of v m (Group ys) is all =
      record { sh = shape.Group; alts = new_alternatives of v (suc m) ys; head = all.0 }
  head_of of v m (Literal _) is all = absurd is
  head_of of v m (OneOf _) is all = absurd is
  head_of of v m (Call _ _) is all = absurd is
  head_of of v m (Label _ _) is all = absurd is
  head_of of v m (Guard _) is all = absurd is
  head_of of v m (Let _ _) is all = absurd is
  head_of of v m (Offside _) is all = absurd is
  head_of of v m (Ignore _) is all = absurd is
  head_of of v m (Align _) is all = absurd is
  head_of of v m (Filtered _ _) is all = absurd is
  head_of of v m (Seq _) is all = absurd is
  head_of of v m (Entry _ _) is all = absurd is

  form_calm : (of : List ℕ) (v w : Visible) (m : ℕ) (x : Symbol) → Head of v m x → (args : List Expression) →
      Fit w args (params_of (params_for v (λ n. needs n x))) → Calm g' k' w (Call (added_name of m) args)
  form_calm of v w m x h args fits =
      let decl : Decl = (made (added_name of m) (params_for v (λ n. needs n x)) h.sh h.alts).decl in
      record {
        callee = decl;
        declared = each_found h.head.1.numbered.0 decl h.head.1.numbered.2;
        fit = fits;
        allowed = λ l e. absurd (cc);
      }

  single_calm : (of : List ℕ) (v w : Visible) (m : ℕ) (x : Symbol) → IsSingle x → Proper May v x →
      AllDeclared g' shapes' (added of v m x) → Distinct v →
      Narrow (λ n. needs n x) v w → Calm g k v x → AllCalm g k (inside v x) →
      Calm g' k' w (new_symbol of v m x) × AllCalm g' k' (inside w (new_symbol of v m x))
  single_calm of v w m (Literal a) single p all d s calm within = (tt, tt)
  single_calm of v w m (OneOf a) single p all d s calm within = (tt, tt)
  single_calm of v w m (Call a es) single p all d s calm within = (
    record {
      callee = new_declaration calm.callee;
      declared = declared a p ∙ ap (option_map new_declaration) calm.declared;
      fit = elsewhere.fit_still v w es calm.callee.params (λ e among. sym (same_kind e (narrower s (all_used es e among)))) calm.fit;
      allowed = λ l is. calm.allowed (lexical l) is;
    },
    tt,
  )
  single_calm of v w m (Guard a) single p all d s calm within = (sym (same_kind a s) ∙ calm, tt)
  single_calm of v w m (Let a e) single p all d s calm within =
      ((still_new s a calm.0, (calm.1.0, sym (same_kind e s) ∙ calm.1.1)), tt)
  single_calm of v w m (Label a x) single p all d s calm within =
      (still_new s a calm, single_calm of v w m x p.0 p.1 all d s within.0 within.1)
  single_calm of v w m (Filtered x fs) single p all d s calm within =
      (tt, single_calm of v w m x p.0 p.1 all d s within.0 within.1)
  single_calm of v w m (Opt x) single p all d s calm within = (
    form_calm of v w m (Opt x) (head_of of v m (Opt x) tt all) _
        (call_fits v w (λ n. needs n (Opt x)) (distinct_entries v d) s),
    tt,
  )
  single_calm of v w m (Star x) single p all d s calm within = (
    form_calm of v w m (Star x) (head_of of v m (Star x) tt all) _
        (call_fits v w (λ n. needs n (Star x)) (distinct_entries v d) s),
    tt,
  )
  single_calm of v w m (Plus x) single p all d s calm within = (
    form_calm of v w m (Plus x) (head_of of v m (Plus x) tt all) _
        (call_fits v w (λ n. needs n (Plus x)) (distinct_entries v d) s),
    tt,
  )
  single_calm of v w m (SepStar x t) single p all d s calm within = (
    form_calm of v w m (SepStar x t) (head_of of v m (SepStar x t) tt all) _
        (call_fits v w (λ n. needs n (SepStar x t)) (distinct_entries v d) s),
    tt,
  )
  single_calm of v w m (SepPlus x t) single p all d s calm within = (
    form_calm of v w m (SepPlus x t) (head_of of v m (SepPlus x t) tt all) _
        (call_fits v w (λ n. needs n (SepPlus x t)) (distinct_entries v d) s),
    tt,
  )
  single_calm of v w m (Group ys) single p all d s calm within = (
    form_calm of v w m (Group ys) (head_of of v m (Group ys) tt all) _
        (call_fits v w (λ n. needs n (Group ys)) (distinct_entries v d) s),
    tt,
  )
  single_calm of v w m (Offside x) single p all d s calm within = absurd p
  single_calm of v w m (Ignore x) single p all d s calm within = absurd p
  single_calm of v w m (Align x) single p all d s calm within = absurd p
  single_calm of v w m (Seq xs) single p all d s calm within = absurd single
  single_calm of v w m (Entry bs x) single p all d s calm within =
      let u = replaced v v bs in
      let wanted : List ℕ → Bool = λ n. needs n x in
      let own = distinct_entries u (distinct_replaced v wanted bs v p.1 d) in (
        form_calm of u w m x (head_of of u m x p.0 all) _
            (entry_fits v w wanted bs p.1 s (params_for u wanted) (entries_params u wanted own)
            (λ n h. (and_parts (has u n) (needs n x) (sym (has_params u wanted n) ∙ h)).1)),
        tt,
      )

  pub elements_calm : (of : List ℕ) (es : List Element) (v w u : Visible) → Ready g' shapes' May of v es u →
      AreCalm g k es → Narrow (λ n. elements_need n es) v w →
      AllCalm g' k' (inside_sequence w (gathered (map (new_element of) es)))
  elements_calm of [] v w u r calm s = tt
  elements_calm of (e ∷ es) v w u r calm s =
      let s1 = subst (λ z. Narrow (λ n. elements_need n (e ∷ es)) z w) (sym r.0) s in
      let here = narrower s1 (λ n h. or_left (needs n e.x) (elements_need n es) h) in
      let first = single_calm of e.v w e.k e.x r.1 r.2 r.3 calm.0 here calm.1 calm.2 in
      let same = same_binds of May e.x e.v w e.k r.1 r.2 here in
      let next = narrower (narrow_more (binds e.v e.x) s1) (λ n h. or_right (needs n e.x) (elements_need n es) h) in
      let rest = elements_calm of es (e.v ++ binds e.v e.x) (w ++ binds w (new_element of e)) u r.4 calm.3
      (subst (λ z. Narrow (λ n. elements_need n es) (e.v ++ binds e.v e.x) (w ++ z)) (sym same) next) in
      of_both (Calm g' k') (at w (new_element of e) ∷ inside w (new_element of e)) _ (first.0, first.1) rest
