-- What the symbols ask that the pass writes.
use Rattle.std.proofs.Common.{◌≡◌, ◌∙◌, Bool, true, false, List, [], ◌∷◌, ◌++◌, map, Some, refl, sym, ap, ap₂, subst, inl, inr}
use Rattle.std.specs.Prelude.{◌⊎◌, Contains}
use Rattle.std.proofs.lemmas.List.{map-append}
use Rattle.std.proofs.lemmas.List.Elements.{Contains-append_cases}
use Rattle.ig_text.proofs.Lists.{none_in_nil, contains_one}
use Rattle.ig_expr.specs.Expression.{Expression}
use Rattle.ig_expr.specs.Expression as expression
use Rattle.ig_expr.specs.Kinds.{of_two}
use Rattle.ig_expr.specs.declared.kind.Kind.TheVariants as kind
use Rattle.ig_grammar.specs.Visible.{Visible, kind_at}
use Rattle.ig_grammar.specs.Symbol.{Symbol, Call, Label, Guard, Let, Offside, Ignore, Align, Entry}
use Rattle.ig_grammar.specs.declared.declaration.DeclKind.{DeclKind}
use Rattle.ig_grammar.specs.declared.declaration.Decl.{Decl}
use Rattle.ig_blocks_parts.specs.Setting.{Setting, Pair, lacking, carried, opened, cleared, m_of, f_of, pair_bindings, column_bindings}
use Rattle.ig_pass.specs.Asked.{Asks, IsKinded}
use Rattle.ig_blocks_parts.proofs.Sights.{IsPair, margin_kind, first_kind}

-- a symbol without names and expressions of its own
abbrev pub IsQuiet : Symbol → Type 0
IsQuiet (Call name arguments) = ⊥
IsQuiet (Label name x) = ⊥
IsQuiet (Guard e) = ⊥
IsQuiet (Let name e) = ⊥
IsQuiet (Offside x) = ⊥
IsQuiet (Ignore x) = ⊥
IsQuiet (Align x) = ⊥
IsQuiet (Entry bindings x) = ⊥
IsQuiet x = Unit {0}

pub quiet_asks : (decls : List Decl) (c : DeclKind) (v : Visible) (x : Symbol) → IsQuiet x → Asks decls c v x
quiet_asks decls c v (Call name arguments) q = absurd q
quiet_asks decls c v (Label name x) q = absurd q
quiet_asks decls c v (Guard e) q = absurd q
quiet_asks decls c v (Let name e) q = absurd q
quiet_asks decls c v (Offside x) q = absurd q
quiet_asks decls c v (Ignore x) q = absurd q
quiet_asks decls c v (Align x) q = absurd q
quiet_asks decls c v (Entry bindings x) q = absurd q
quiet_asks decls c v x q = tt

-- each of the expressions has a kind
abbrev pub AllKinded : Visible → List Expression → Type 0
AllKinded w es = (e : Expression) → Contains es e → IsKinded w e

pub both_kinded : (w : Visible) (xs ys : List Expression) → AllKinded w xs → AllKinded w ys → AllKinded w (xs ++ ys)
both_kinded w xs ys a b e m = go (Contains-append_cases xs ys e m)
  where
    go : Contains xs e ⊎ Contains ys e → IsKinded w e
    go (inl n) = a e n
    go (inr n) = b e n

none_kinded : (w : Visible) → AllKinded w []
none_kinded w e m = absurd (none_in_nil e m)

two_kinded : (w : Visible) (a b : Expression) → kind_at w a ≡ Some kind.Int → kind_at w b ≡ Some kind.Int → AllKinded w (a ∷ b ∷ [])
two_kinded w a b ka kb e m = go (Contains-append_cases (a ∷ []) (b ∷ []) e m)
  where
    go : Contains (a ∷ []) e ⊎ Contains (b ∷ []) e → IsKinded w e
    go (inl n) = (kind.Int, ap (kind_at w) (contains_one a e n) ∙ ka)
    go (inr n) = (kind.Int, ap (kind_at w) (contains_one b e n) ∙ kb)

module _ (s : Setting) (w : Visible) where
  pub pair_kinded : (p : Pair) → IsPair s w p → AllKinded w (map (λ b. b.value) (pair_bindings s p))
  pair_kinded lacking i = none_kinded w
  pair_kinded carried i = none_kinded w
  pair_kinded (opened a b) i = two_kinded w a b (margin_kind s w (opened a b) i) (first_kind s w (opened a b) i)
  pair_kinded cleared i = two_kinded w (m_of s cleared) (f_of s cleared) refl refl

  column_kinded : (al : Bool) → AllKinded w (map (λ b. b.value) (column_bindings s al))
  column_kinded false = none_kinded w
  column_kinded true = λ e m. (kind.Int, ap (kind_at w) (contains_one _ e m))

  pub box_kinded : (p : Pair) (al : Bool) → IsPair s w p → AllKinded w (map (λ b. b.value) (pair_bindings s p ++ column_bindings s al))
  box_kinded p al i =
      subst (AllKinded w) (sym (map-append (λ b. b.value) (pair_bindings s p) (column_bindings s al)))
      (both_kinded w (map (λ b. b.value) (pair_bindings s p)) (map (λ b. b.value) (column_bindings s al)) (pair_kinded p i) (column_kinded al))

  pub inside_kind : (p : Pair) → IsPair s w p → kind_at w (expression.Inside (m_of s p) (f_of s p)) ≡ Some kind.Bool
  inside_kind p i = ap₂ (of_two kind.Int kind.Bool) (margin_kind s w p i) (first_kind s w p i)
