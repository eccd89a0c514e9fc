-- What is visible inside the bindings that the pass adds.
use Rattle.std.proofs.Common.{◌≡◌, ◌≢◌, ◌∙◌, ℕ, Bool, true, false, List, [], ◌∷◌, ◌++◌, Option, Some, None, refl, sym, ap, ap₂, subst, if◌then◌else◌}
use Rattle.ig_text.specs.Words.{is_word}
use Rattle.ig_text.proofs.Characters.{differs}
use Rattle.ig_expr.specs.declared.kind.Kind.{Kind}
use Rattle.ig_expr.specs.declared.kind.Kind.TheVariants as kind
use Rattle.ig_grammar.specs.Binding.{Binding}
use Rattle.ig_grammar.specs.Visible.{Visible, kind_at, with_kind, replaced}
use Rattle.ig_blocks_parts.specs.Setting.{Setting, Pair, lacking, carried, opened, cleared, inner, pair_bindings, column_bindings}
use Rattle.ig_blocks_parts.proofs.Reading.{IsWritten, AreApart, BindingsRead}
use Rattle.ig_blocks_parts.proofs.Looking.{find, if_true, if_false, same_word}
use Rattle.ig_blocks_parts.proofs.Sights.{SeeSame, IsPair, no_pair, handed_pair, opened_pair, cleared_pair, Sight, HasColumn, find_with, kind_same, margin_kind, first_kind}

found_other : (v : Visible) (n : List ℕ) (k : Kind) (y : List ℕ) → n ≢ y → find (with_kind v n (Some k)) y ≡ find v y
found_other v n k y ne = find_with v n k y ∙ if_false (is_word n y) _ _ (differs n y ne)

found_same : (v : Visible) (n : List ℕ) (k : Kind) → find (with_kind v n (Some k)) n ≡ Some k
found_same v n k = find_with v n k n ∙ if_true (is_word n n) _ _ (same_word n n refl)

replaced_join : (outer v : Visible) (bs cs : List Binding) → replaced outer v (bs ++ cs) ≡ replaced outer (replaced outer v bs) cs
replaced_join outer v [] cs = refl
replaced_join outer v (b ∷ bs) cs = replaced_join outer (with_kind v b.name (kind_at outer b.value)) bs cs

module _ (s : Setting) where
  -- an added name changes nothing of what is written
  see_added : (v w : Visible) (n : List ℕ) (k : Kind) → ((y : List ℕ) → IsWritten s y → n ≢ y) → SeeSame s v w → SeeSame s v (with_kind w n (Some k))
  see_added v w n k ne a = record { same = λ y r. a.same y r ∙ sym (found_other w n k y (ne y r)) }

  added_m : (y : List ℕ) → IsWritten s y → s.m ≢ y
  added_m y r e = r.not_m (sym e)

  added_f : (y : List ℕ) → IsWritten s y → s.f ≢ y
  added_f y r e = r.not_f (sym e)

  added_c : (y : List ℕ) → IsWritten s y → s.c ≢ y
  added_c y r e = r.not_c (sym e)

  pair_kept : (w : Visible) (n : List ℕ) (k : Kind) (p : Pair) → n ≢ s.m → n ≢ s.f → IsPair s w p → IsPair s (with_kind w n (Some k)) p
  pair_kept w n k lacking a b no_pair = no_pair
  pair_kept w n k carried a b (handed_pair x y) = handed_pair (found_other w n k s.m a ∙ x) (found_other w n k s.f b ∙ y)
  pair_kept w n k p2 a b (opened_pair p i) = opened_pair p (pair_kept w n k p a b i)
  pair_kept w n k cleared a b cleared_pair = cleared_pair

  module _ (apart : AreApart s) where
    -- with the pair bound
    with_pair : (v u : Visible) → SeeSame s v u → Sight s carried v (with_kind (with_kind u s.m (Some kind.Int)) s.f (Some kind.Int))
    with_pair v u a =
        let one = with_kind u s.m (Some kind.Int) in
        record {
          seen = see_added v one s.f kind.Int added_f (see_added v u s.m kind.Int added_m a);
          pair = handed_pair (found_other one s.f kind.Int s.m (λ e. apart.m_f (sym e)) ∙ found_same u s.m kind.Int) (found_same one s.f kind.Int);
        }

    pub pair_sight : (p : Pair) (v w u : Visible) → IsPair s w p → Sight s p v u → Sight s (inner p) v (replaced w u (pair_bindings s p))
    pair_sight lacking v w u i a = record { seen = a.seen; pair = no_pair }
    pair_sight carried v w u i a = record { seen = a.seen; pair = a.pair }
    pair_sight (opened x y) v w u i a =
        subst (λ z. Sight s carried v z)
        (sym (ap₂ (λ j k. with_kind (with_kind u s.m j) s.f k) (margin_kind s w (opened x y) i) (first_kind s w (opened x y) i))) (with_pair v u a.seen)
    pair_sight cleared v w u i a = with_pair v u a.seen

    pub column_sight : (al : Bool) (p : Pair) (v w u : Visible) → Sight s p v u → Sight s p v (replaced w u (column_bindings s al)) × HasColumn s al (replaced w u (column_bindings s al))
    column_sight false p v w u a = (a, tt)
    column_sight true p v w u a = (
      record { seen = see_added v u s.c kind.Int added_c a.seen; pair = pair_kept u s.c kind.Int p (λ e. apart.m_c (sym e)) (λ e. apart.f_c (sym e)) a.pair },
      found_same u s.c kind.Int,
    )

    pub box_sight : (al : Bool) (p : Pair) (v w : Visible) → Sight s p v w →
        Sight s (inner p) v (replaced w w (pair_bindings s p ++ column_bindings s al)) × HasColumn s al (replaced w w (pair_bindings s p ++ column_bindings s al))
    box_sight al p v w a =
        subst (λ z. Sight s (inner p) v z × HasColumn s al z) (sym (replaced_join w w (pair_bindings s p) (column_bindings s al)))
        (column_sight al (inner p) v w (replaced w w (pair_bindings s p)) (pair_sight p v w w a.pair a))

    written_sight : (p : Pair) (v u : Visible) (n : List ℕ) (o : Option Kind) → IsWritten s n → Sight s p v u → Sight s p (with_kind v n o) (with_kind u n o)
    written_sight p v u n None r a = subst (λ z. Sight s p z (with_kind u n None)) (sym (none v)) (subst (λ z. Sight s p v z) (sym (none u)) a)
      where
        none : (x : Visible) → with_kind x n None ≡ x
        none [] = refl
        none (y ∷ x) = refl
    written_sight p v u n (Some k) r a =
        record {
          seen = record { same = λ y h. find_with v n k y ∙ ap (λ z. if is_word n y then Some k else z) (a.seen.same y h) ∙ sym (find_with u n k y) };
          pair = pair_kept u n k p r.not_m r.not_f a.pair;
        }

    written_bindings : (p : Pair) (v w a b : Visible) (bs : List Binding) → SeeSame s v w → BindingsRead s bs → Sight s p a b → Sight s p (replaced v a bs) (replaced w b bs)
    written_bindings p v w a b [] seen r sight = sight
    written_bindings p v w a b (d ∷ bs) seen r sight =
        written_bindings p v w (with_kind a d.name (kind_at v d.value)) (with_kind b d.name (kind_at w d.value)) bs seen r.1
        (subst (λ z. Sight s p (with_kind a d.name (kind_at v d.value)) (with_kind b d.name z)) (kind_same s v w seen d.value r.0.1)
        (written_sight p a b d.name (kind_at v d.value) r.0.0 sight))

    -- inside an entry of the source
    pub entry_sight : (p : Pair) (v w : Visible) (bs : List Binding) → BindingsRead s bs → Sight s p v w →
        Sight s (inner p) (replaced v v bs) (replaced w w (bs ++ pair_bindings s p))
    entry_sight p v w bs r a =
        subst (λ z. Sight s (inner p) (replaced v v bs) z) (sym (replaced_join w w bs (pair_bindings s p)))
        (pair_sight p (replaced v v bs) w (replaced w w bs) a.pair (written_bindings p v w v w bs a.seen r a))
