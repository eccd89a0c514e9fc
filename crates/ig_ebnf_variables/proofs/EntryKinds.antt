-- The arguments that an entry gives fit; and lowered symbols bind what the source's do.
use Rattle.std.proofs.Common.{◌≡◌, ℕ, Bool, true, false, List, [], ◌∷◌, ◌++◌, refl, sym, ◌∙◌, ap}
use Rattle.std.proofs.Common.{cond, Some}
use Rattle.std.proofs.lemmas.Bool.{or_left, or_right, and_from}
use Rattle.std.specs.Prelude.{◌||◌, ◌&&◌, not}
use Rattle.std.specs.Cmp.Lexicographic.{bytes_decides}
use Rattle.ig_ebnf_variables.proofs.Definitions.{has, BindingsFit, IsSingle, Proper}
use Rattle.ig_ebnf_variables.proofs.VisibleKinds.{look, look_cons, Narrow, narrower}
use Rattle.ig_ebnf_variables.proofs.VisibleKinds.{same_kind, Entries}
use Rattle.ig_pass.specs.Asked.{Fit}
use Rattle.ig_ebnf_variables.specs.Lists.{argument, arguments, new_symbol, params_of}
use Rattle.ig_expr.specs.declared.kind.Kind.{Kind}
use Rattle.ig_expr.specs.declared.kind.Kind.TheVariants.{Span}
use Rattle.ig_grammar.specs.Binding.{Binding}
use Rattle.ig_grammar.specs.Symbol.{Symbol, Literal, OneOf, Call, Label, Guard, Let, Opt, Star, Plus, SepStar}
use Rattle.ig_grammar.specs.Symbol.{SepPlus, Group, Offside, Ignore, Align}
use Rattle.ig_grammar.specs.Symbol.{Filtered, Seq, Entry}
use Rattle.ig_grammar.specs.Visible.{Visible, kind_at, with_kind, replaced, binds, bound}
use Rattle.ig_pass.specs.Needs.{needs, uses, bindings_use, is_bound}
use Rattle.ig_text.specs.Words.{is_word}
use Rattle.ig_text.proofs.Characters.{itself}

look_with : (v : Visible) (m : List ℕ) (k : Kind) (n : List ℕ) →
    look (with_kind v m (Some k)) n ≡ cond (is_word m n) (Some k) (look v n)
look_with [] m k n = look_cons m k [] n
look_with (p ∷ v) m k n = go (is_word p.0 m) refl (look_with v m k n)
  where
    inner : (t u : Bool) → (t ≡ true → u ≡ false) →
        cond u (Some p.1) (cond t (Some k) (look v n)) ≡ cond t (Some k) (cond u (Some p.1) (look v n))
    inner true true h = let bad : true ≡ false = h refl in absurd (cc)
    inner true false h = refl
    inner false u h = refl

    twice : (t : Bool) → cond t (Some k) (look v n) ≡ cond t (Some k) (cond t (Some p.1) (look v n))
    twice true = refl
    twice false = refl

    apart : is_word p.0 m ≡ false → (u : Bool) → is_word p.0 n ≡ u → is_word m n ≡ true → u ≡ false
    apart e true f h =
        let bad : true ≡ false =
        sym ((bytes_decides p.0 m).1 ((bytes_decides p.0 n).0 f ∙ sym ((bytes_decides m n).0 h))) ∙ e in
        absurd (cc)
    apart e false f h = refl

    go : (t : Bool) → is_word p.0 m ≡ t → look (with_kind v m (Some k)) n ≡ cond (is_word m n) (Some k) (look v n) →
        look (cond t ((m, k) ∷ v) (p ∷ with_kind v m (Some k))) n ≡ cond (is_word m n) (Some k) (look (p ∷ v) n)
    go true e below =
        let same : p.0 ≡ m = (bytes_decides p.0 m).0 e in
        look_cons m k v n ∙ twice (is_word m n) ∙
        sym
        (ap (cond (is_word m n) (Some k))
        (look_cons p.0 p.1 v n ∙ ap (λ z. cond (is_word z n) (Some p.1) (look v n)) same))
    go false e below =
        look_cons p.0 p.1 (with_kind v m (Some k)) n ∙ ap (cond (is_word p.0 n) (Some p.1)) below ∙
        inner (is_word m n) (is_word p.0 n) (λ h. apart e (is_word p.0 n) refl h) ∙
        sym (ap (cond (is_word m n) (Some k)) (look_cons p.0 p.1 v n))

look_other : (outer : Visible) (wanted : List ℕ → Bool) (bs : List Binding) (v : Visible) (n : List ℕ) →
    BindingsFit outer wanted bs → is_bound n bs ≡ false →
    look (replaced outer v bs) n ≡ look v n
look_other outer wanted [] v n fit e = refl
look_other outer wanted (b ∷ bs) v n fit e =
    ap (λ z. look (replaced outer (with_kind v b.name z) bs) n) fit.0.1 ∙
    go (is_word b.name n) refl (look_other outer wanted bs (with_kind v b.name (Some fit.0.0)) n fit.3)
  where
    go : (t : Bool) → is_word b.name n ≡ t →
        (is_bound n bs ≡ false →
        look (replaced outer (with_kind v b.name (Some fit.0.0)) bs) n ≡ look (with_kind v b.name (Some fit.0.0)) n) →
        look (replaced outer (with_kind v b.name (Some fit.0.0)) bs) n ≡ look v n
    go true f below = let bad : true ≡ false = sym (ap (λ z. z || is_bound n bs) f) ∙ e in absurd (cc)
    go false f below =
        below (sym (ap (λ z. z || is_bound n bs) f) ∙ e) ∙ look_with v b.name fit.0.0 n ∙
        ap (λ z. cond z (Some fit.0.0) (look v n)) f

argument_kind : (outer : Visible) (wanted : List ℕ → Bool) (bs : List Binding) (v w : Visible) (n : List ℕ) →
    BindingsFit outer wanted bs → Narrow (λ m. bindings_use m bs) outer w →
    (is_bound n bs ≡ false → look v n ≡ look w n) → kind_at w (argument bs n) ≡ look (replaced outer v bs) n
argument_kind outer wanted [] v w n fit s other = sym (other refl)
argument_kind outer wanted (b ∷ bs) v w n fit s other =
    go (is_word b.name n) refl
    (λ o. argument_kind outer wanted bs (with_kind v b.name (Some fit.0.0)) w n fit.3
    (narrower s (λ m u. or_right (uses m b.value) (bindings_use m bs) u)) o) ∙
    ap (λ z. look (replaced outer (with_kind v b.name z) bs) n) (sym fit.0.1)
  where
    go : (t : Bool) → is_word b.name n ≡ t →
        ((is_bound n bs ≡ false → look (with_kind v b.name (Some fit.0.0)) n ≡ look w n) →
        kind_at w (argument bs n) ≡ look (replaced outer (with_kind v b.name (Some fit.0.0)) bs) n) →
        kind_at w (cond t b.value (argument bs n)) ≡ look (replaced outer (with_kind v b.name (Some fit.0.0)) bs) n
    go true f below =
        let here : b.name ≡ n = (bytes_decides b.name n).0 f in
        sym (same_kind b.value (narrower s (λ m u. or_left (uses m b.value) (bindings_use m bs) u))) ∙ fit.0.1 ∙
        sym
        (look_other outer wanted bs (with_kind v b.name (Some fit.0.0)) n fit.3
        (ap (λ z. is_bound z bs) (sym here) ∙ fit.2) ∙
        look_with v b.name fit.0.0 n ∙ ap (λ z. cond z (Some fit.0.0) (look v n)) f)
    go false f below =
        below
        (λ o. look_with v b.name fit.0.0 n ∙ ap (λ z. cond z (Some fit.0.0) (look v n)) f ∙
        other (ap (λ z. z || is_bound n bs) f ∙ o))

-- the arguments of a call that stands for an entry fit
pub entry_fits : (v w : Visible) (wanted : List ℕ → Bool) (bs : List Binding) → BindingsFit v wanted bs →
    Narrow (λ n. bindings_use n bs || (not (is_bound n bs) && wanted n)) v w → (ps : Visible) →
    Entries ps (replaced v v bs) → ((n : List ℕ) → has ps n ≡ true → wanted n ≡ true) →
    Fit w (arguments bs ps) (params_of ps)
entry_fits v w wanted bs fit s [] own sub = tt
entry_fits v w wanted bs fit s (p ∷ ps) own sub =
    let s1 = narrower s (λ n u. or_left (bindings_use n bs) (not (is_bound n bs) && wanted n) u) in
    let yes : wanted p.0 ≡ true = sub p.0 (or_left (is_word p.0 p.0) (has ps p.0) (itself p.0)) in
    let outside : is_bound p.0 bs ≡ false → look v p.0 ≡ look w p.0 =
    λ o. s.at p.0
    (or_right (bindings_use p.0 bs) (not (is_bound p.0 bs) && wanted p.0)
    (and_from (not (is_bound p.0 bs)) (wanted p.0) (ap not o) yes)) in (
      argument_kind v wanted bs v w p.0 fit s1 outside ∙ own.0,
      entry_fits v w wanted bs fit s ps own.1 (λ n e. sub n (or_right (is_word p.0 n) (has ps n) e)),
    )

-- what is bound stays, where no mark stands in it and labels and filters stand well
pub same_binds : (of : List ℕ) (May : List ℕ → Type 0) (x : Symbol) (v w : Visible) (k : ℕ) → IsSingle x →
    Proper May v x → Narrow (λ n. needs n x) v w → binds w (new_symbol of v k x) ≡ binds v x
same_binds of May (Literal a) v w k single p s = refl
same_binds of May (OneOf a) v w k single p s = refl
same_binds of May (Call m es) v w k single p s = refl
same_binds of May (Label m x) v w k single p s = ap (λ z. z ++ (m, Span) ∷ []) (same_binds of May x v w k p.0 p.1 s)
same_binds of May (Guard e) v w k single p s = refl
same_binds of May (Let m e) v w k single p s = ap (bound m) (sym (same_kind e s))
same_binds of May (Opt x) v w k single p s = refl
same_binds of May (Star x) v w k single p s = refl
same_binds of May (Plus x) v w k single p s = refl
same_binds of May (SepStar x a) v w k single p s = refl
same_binds of May (SepPlus x a) v w k single p s = refl
same_binds of May (Group ys) v w k single p s = refl
same_binds of May (Offside x) v w k single p s = absurd p
same_binds of May (Ignore x) v w k single p s = absurd p
same_binds of May (Align x) v w k single p s = absurd p
same_binds of May (Filtered x fs) v w k single p s = same_binds of May x v w k p.0 p.1 s
same_binds of May (Seq xs) v w k single p s = absurd single
same_binds of May (Entry bs x) v w k single p s = refl
