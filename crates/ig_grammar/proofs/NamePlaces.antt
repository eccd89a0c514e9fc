-- A new kind of a name, by the place of the name.
use Rattle.std.proofs.Common.{◌≡◌, ℕ, List, [], ◌∷◌, ◌++◌, Some, None, Bool, cond, true, false, refl, sym, ◌∙◌, ap, subst, arith, length, set}
use Rattle.std.specs.List.{zip}
use Rattle.std.specs.Cmp.Lexicographic.{bytes_decides}
use Rattle.ig_text.specs.Words.{is_word}
use Rattle.ig_expr.specs.Names.{place_of}
use Rattle.ig_expr.specs.declared.kind.Kind.{Kind}
use Rattle.ig_grammar.specs.Visible.{Visible, names, with_kind}
use Rattle.ig_text.proofs.Positions.{place_behind, Behind, behind, first_behind, none_behind}
use Rattle.ig_text.proofs.WordPlaces.{word_place-cons}

-- a new kind where the name has a place
pub with_kind_placed : (ns : List (List ℕ)) (ks : List Kind) (name : List ℕ) (k : Kind) (p : ℕ) → length ns ≡ length ks →
    place_of ns name ≡ Some p → zip ns (set ks p k) ≡ with_kind (zip ns ks) name (Some k)
with_kind_placed [] ks name k p l e = cc
with_kind_placed (n ∷ ns) [] name k p l e = let f : ⊥ = omega arith in absurd f
with_kind_placed (n ∷ ns) (m ∷ ks) name k p l e =
    go (is_word n name) refl (behind (is_word n name) (place_of ns name) p (sym (word_place-cons n ns name) ∙ e))
    (λ q. with_kind_placed ns ks name k q (omega arith))
  where
    go : (b : Bool) → is_word n name ≡ b → Behind (is_word n name) (place_of ns name) p →
        ((q : ℕ) → place_of ns name ≡ Some q → zip ns (set ks q k) ≡ with_kind (zip ns ks) name (Some k)) →
        zip (n ∷ ns) (set (m ∷ ks) p k) ≡ with_kind (zip (n ∷ ns) (m ∷ ks)) name (Some k)
    go true w h r =
        let z : p ≡ 0 = subst (λ b. Behind b (place_of ns name) p) w h in
        ap (λ i. zip (n ∷ ns) (set (m ∷ ks) i k)) z ∙ ap (λ x. (x, k) ∷ zip ns ks) ((bytes_decides n name).0 w) ∙
        sym (ap (λ b. cond b ((name, k) ∷ zip ns ks) ((n, m) ∷ with_kind (zip ns ks) name (Some k))) w)
    go false w h r =
        let z : Behind false (place_of ns name) p = subst (λ b. Behind b (place_of ns name) p) w h in
        ap (λ i. zip (n ∷ ns) (set (m ∷ ks) i k)) z.1 ∙ ap (λ x. (n, m) ∷ x) (r z.0 z.2) ∙
        sym (ap (λ b. cond b ((name, k) ∷ zip ns ks) ((n, m) ∷ with_kind (zip ns ks) name (Some k))) w)

-- a new name goes to the end
pub with_kind_new : (v : Visible) (name : List ℕ) (k : Kind) → place_of (names v) name ≡ None → with_kind v name (Some k) ≡ v ++ (name, k) ∷ []
with_kind_new [] name k e = refl
with_kind_new (pair ∷ v) name k e = go (is_word pair.0 name) refl (sym (word_place-cons pair.0 (names v) name) ∙ e) (with_kind_new v name k)
  where
    go : (b : Bool) → is_word pair.0 name ≡ b → place_behind (is_word pair.0 name) (place_of (names v) name) ≡ None →
        (place_of (names v) name ≡ None → with_kind v name (Some k) ≡ v ++ (name, k) ∷ []) →
        with_kind (pair ∷ v) name (Some k) ≡ (pair ∷ v) ++ (name, k) ∷ []
    go true w h r = absurd (first_behind (place_of (names v) name) (subst (λ z. place_behind z (place_of (names v) name) ≡ None) w h))
    go false w h r =
        let f : place_behind false (place_of (names v) name) ≡ None = subst (λ z. place_behind z (place_of (names v) name) ≡ None) w h in
        ap (λ b. cond b ((name, k) ∷ v) (pair ∷ with_kind v name (Some k))) w ∙ ap (λ z. pair ∷ z) (r (none_behind (place_of (names v) name) f))
