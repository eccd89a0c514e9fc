-- Kinds of what is visible in the source, and in an added declaration.
use Rattle.std.proofs.Common.{◌≡◌, ◌⊎◌, inl, inr, ℕ, Bool, true, false, List, [], ◌∷◌, ◌++◌}
use Rattle.std.proofs.Common.{refl, sym, ◌∙◌, ap, cond, Option, Some, None, arith}
use Rattle.std.specs.Prelude.{◌||◌, ◌&&◌, not, is_some, Contains}
use Rattle.std.specs.Cmp.Lexicographic.{bytes_decides}
use Rattle.std.specs.Option.{option_or}
use Rattle.std.proofs.lemmas.List.Elements.{Contains-append_cases}
use Rattle.std.proofs.lemmas.Bool.{or_left, or_right, and_parts}
use Rattle.ig_ebnf_variables.proofs.Definitions.{has}
use Rattle.ig_ebnf_variables.proofs.Environments.{look_up_next, has_append, has_params}
use Rattle.ig_ebnf_variables.specs.Lists.{keep, params_for, arguments}
use Rattle.ig_expr.specs.Expression.{Expression, Integer, Truth, Here, Variable, Not, Negative, Binary, Of, Same}
use Rattle.ig_expr.specs.Expression.{Spells, Outer, Inside, FreeBefore}
use Rattle.ig_expr.specs.Expression.{FreeAfter}
use Rattle.ig_expr.specs.Kinds.{of_one, of_two, kind_of_operation, argument_of}
use Rattle.ig_expr.specs.Names.{look_up}
use Rattle.ig_expr.specs.declared.kind.Kind.{Kind}
use Rattle.ig_grammar.specs.Condition.{NamesUnknown, variables}
use Rattle.ig_grammar.specs.Visible.{Visible, names, kinds, kind_at}
use Rattle.ig_pass.specs.Needs.{uses, is_added}
use Rattle.ig_text.specs.Words.{is_word}
use Rattle.ig_text.proofs.Lists.{in_rest, contains_later, none_in_nil}
use Rattle.ig_text.proofs.Characters.{itself}
use Rattle.ig_text.proofs.Fallbacks.{or_cond, some_cond}
use Rattle.ig_expr.specs.declared.kind.Kind.TheVariants as kind
use Rattle.ig_pass.specs.Asked.{Fit}
use Rattle.ig_ebnf_variables.specs.Lists.{params_of}

abbrev pub look : Visible → List ℕ → Option Kind
look v x = look_up (names v) (kinds v) x

pub look_cons : (n : List ℕ) (k : Kind) (rest : Visible) (x : List ℕ) →
    look ((n, k) ∷ rest) x ≡ cond (is_word n x) (Some k) (look rest x)
look_cons n k rest x = look_up_next n k (names rest) (kinds rest) x

pub has_look : (v : Visible) (n : List ℕ) → is_some (look v n) ≡ has v n
has_look [] n = refl
has_look (p ∷ v) n = ap is_some (look_cons p.0 p.1 v n) ∙ some_cond (is_word p.0 n) p.1 (look v n) ∙
    ap (λ z. is_word p.0 n || z) (has_look v n)

pub named_has : (v : Visible) (n : List ℕ) → Contains (names v) n → has v n ≡ true
named_has [] n h = absurd (none_in_nil n h)
named_has (p ∷ v) n h = go (in_rest p.0 (names v) n h) (named_has v n)
  where
    go : (p.0 ≡ n) ⊎ Contains (names v) n → (Contains (names v) n → has v n ≡ true) →
        (is_word p.0 n || has v n) ≡ true
    go (inl e) below = or_left (is_word p.0 n) (has v n) ((bytes_decides p.0 n).1 e)
    go (inr i) below = or_right (is_word p.0 n) (has v n) (below i)

pub has_named : (v : Visible) (n : List ℕ) → has v n ≡ true → Contains (names v) n
has_named [] n h = absurd (cc)
has_named (p ∷ v) n h = go (is_word p.0 n) refl (has_named v n)
  where
    go : (t : Bool) → is_word p.0 n ≡ t → (has v n ≡ true → Contains (names v) n) → Contains (p.0 ∷ names v) n
    go true e below = (0, omega arith, (bytes_decides p.0 n).0 e)
    go false e below = contains_later p.0 (names v) n (below (sym (ap (λ z. z || has v n) e) ∙ h))

either : {P : Type 0} (xs ys : List (List ℕ)) (n : List ℕ) → (Contains xs n → P) → (Contains ys n → P) →
    Contains (xs ++ ys) n → P
either {P = P} xs ys n f h c = go (Contains-append_cases xs ys n c)
  where
    go : Contains xs n ⊎ Contains ys n → P
    go (inl a) = f a
    go (inr b) = h b

pub names_used : (e : Expression) (n : List ℕ) → Contains (variables e) n → uses n e ≡ true
names_used (Integer i) n h = absurd (none_in_nil n h)
names_used (Truth b) n h = absurd (none_in_nil n h)
names_used Here n h = absurd (none_in_nil n h)
names_used (Variable x) n h = go (in_rest x [] n h)
  where
    go : (x ≡ n) ⊎ Contains [] n → is_word x n ≡ true
    go (inl e) = (bytes_decides x n).1 e
    go (inr i) = absurd (none_in_nil n i)
names_used (Not a) n h = names_used a n h
names_used (Negative a) n h = names_used a n h
names_used (Binary op a b) n h =
    either (variables a) (variables b) n (λ i. or_left (uses n a) (uses n b) (names_used a n i))
    (λ i. or_right (uses n a) (uses n b) (names_used b n i)) h
names_used (Of f a) n h = names_used a n h
names_used (Same a b) n h =
    either (variables a) (variables b) n (λ i. or_left (uses n a) (uses n b) (names_used a n i))
    (λ i. or_right (uses n a) (uses n b) (names_used b n i)) h
names_used (Spells a word) n h = names_used a n h
names_used (Outer a b) n h =
    either (variables a) (variables b) n (λ i. or_left (uses n a) (uses n b) (names_used a n i))
    (λ i. or_right (uses n a) (uses n b) (names_used b n i)) h
names_used (Inside a b) n h =
    either (variables a) (variables b) n (λ i. or_left (uses n a) (uses n b) (names_used a n i))
    (λ i. or_right (uses n a) (uses n b) (names_used b n i)) h
names_used (FreeBefore pattern) n h = absurd (none_in_nil n h)
names_used (FreeAfter pattern) n h = absurd (none_in_nil n h)

-- what is visible in the source, and in the added declaration: the same at the wanted names, and nothing new
pub record Narrow (wanted : List ℕ → Bool) (v w : Visible) : Type 0 where
  pub at : (n : List ℕ) → wanted n ≡ true → look v n ≡ look w n
  pub less : (n : List ℕ) → has w n ≡ true → has v n ≡ true

pub narrower : {wanted some : List ℕ → Bool} {v w : Visible} → Narrow wanted v w →
    ((n : List ℕ) → some n ≡ true → wanted n ≡ true) → Narrow some v w
narrower s sub = record { at = λ n u. s.at n (sub n u); less = s.less }

pub same_kind : (e : Expression) {v w : Visible} → Narrow (λ n. uses n e) v w → kind_at v e ≡ kind_at w e
same_kind (Integer n) s = refl
same_kind (Truth b) s = refl
same_kind Here s = refl
same_kind (Variable x) s = s.at x (itself x)
same_kind (Not a) s = ap (of_one kind.Bool kind.Bool) (same_kind a s)
same_kind (Negative a) s = ap (of_one kind.Int kind.Int) (same_kind a s)
same_kind (Binary op a b) s =
    λ z. kind_of_operation op (same_kind a (narrower s (λ n h. or_left (uses n a) (uses n b) h)) z)
    (same_kind b (narrower s (λ n h. or_right (uses n a) (uses n b) h)) z)
same_kind (Of f a) s = ap (of_one (argument_of f) kind.Int) (same_kind a s)
same_kind (Same a b) s =
    λ z. of_two kind.Span kind.Bool (same_kind a (narrower s (λ n h. or_left (uses n a) (uses n b) h)) z)
    (same_kind b (narrower s (λ n h. or_right (uses n a) (uses n b) h)) z)
same_kind (Spells a word) s = ap (of_one kind.Span kind.Bool) (same_kind a s)
same_kind (Outer a b) s =
    λ z. of_two kind.Int kind.Int (same_kind a (narrower s (λ n h. or_left (uses n a) (uses n b) h)) z)
    (same_kind b (narrower s (λ n h. or_right (uses n a) (uses n b) h)) z)
same_kind (Inside a b) s =
    λ z. of_two kind.Int kind.Bool (same_kind a (narrower s (λ n h. or_left (uses n a) (uses n b) h)) z)
    (same_kind b (narrower s (λ n h. or_right (uses n a) (uses n b) h)) z)
same_kind (FreeBefore pattern) s = refl
same_kind (FreeAfter pattern) s = refl

pub unknown_from : (e : Expression) {v w : Visible} → Narrow (λ n. uses n e) v w → NamesUnknown w e → NamesUnknown v e
unknown_from e {v = v} {w = w} s unknown =
    let n = unknown.0 in (
      n,
      unknown.1,
      λ h. unknown.2
          (has_named w n
          (sym (has_look w n) ∙ ap is_some (sym (s.at n (names_used e n unknown.1))) ∙ has_look v n ∙ named_has v n h)),
    )

pub unknown_to : (e : Expression) {v w : Visible} → Narrow (λ n. uses n e) v w → NamesUnknown v e → NamesUnknown w e
unknown_to e {v = v} {w = w} s unknown =
    (unknown.0, unknown.1, λ h. unknown.2 (has_named v unknown.0 (s.less unknown.0 (named_has w unknown.0 h))))

-- parameters of an added declaration have the kinds of the variables
no_kinds : (t : Bool) → look [] [] ≡ cond t (look [] []) None
no_kinds true = refl
no_kinds false = refl

pub look_keep : (p : List ℕ → Bool) (v : Visible) (n : List ℕ) → look (keep p v) n ≡ cond (p n) (look v n) None
look_keep p [] n = no_kinds (p n)
look_keep p (x ∷ v) n = go (p x.0) refl (is_word x.0 n) refl (look_keep p v n)
  where
    go : (t : Bool) → p x.0 ≡ t → (u : Bool) → is_word x.0 n ≡ u → look (keep p v) n ≡ cond (p n) (look v n) None →
        look (cond t (x ∷ keep p v) (keep p v)) n ≡ cond (p n) (look (x ∷ v) n) None
    go true e true f below =
        let yes : p n ≡ true = sym (ap p ((bytes_decides x.0 n).0 f)) ∙ e in
        look_cons x.0 x.1 (keep p v) n ∙ ap (λ z. cond z (Some x.1) (look (keep p v) n)) f ∙
        sym
        (ap (λ z. cond z (look (x ∷ v) n) None) yes ∙ look_cons x.0 x.1 v n ∙
        ap (λ z. cond z (Some x.1) (look v n)) f)
    go true e false f below =
        look_cons x.0 x.1 (keep p v) n ∙ ap (λ z. cond z (Some x.1) (look (keep p v) n)) f ∙ below ∙
        ap (λ z. cond (p n) z None) (sym (look_cons x.0 x.1 v n ∙ ap (λ z. cond z (Some x.1) (look v n)) f))
    go false e true f below =
        let none : p n ≡ false = sym (ap p ((bytes_decides x.0 n).0 f)) ∙ e in
        below ∙ ap (λ z. cond z (look v n) None) none ∙ sym (ap (λ z. cond z (look (x ∷ v) n) None) none)
    go false e false f below = below ∙
        ap (λ z. cond (p n) z None) (sym (look_cons x.0 x.1 v n ∙ ap (λ z. cond z (Some x.1) (look v n)) f))

pub look_append : (v w : Visible) (n : List ℕ) → look (v ++ w) n ≡ option_or (look v n) (look w n)
look_append [] w n = refl
look_append (p ∷ v) w n =
    look_cons p.0 p.1 (v ++ w) n ∙ ap (cond (is_word p.0 n) (Some p.1)) (look_append v w n) ∙
    or_cond (is_word p.0 n) p.1 (look v n) (look w n) ∙ ap (λ z. option_or z (look w n)) (sym (look_cons p.0 p.1 v n))

pub look_params : (v : Visible) (wanted : List ℕ → Bool) (n : List ℕ) → wanted n ≡ true →
    look (params_for v wanted) n ≡ look v n
look_params v wanted n u =
    look_append (keep (λ n. not (is_added n) && wanted n) v) (keep (λ n. is_added n && wanted n) v) n ∙
    (λ z. option_or (look_keep (λ n. not (is_added n) && wanted n) v n z)
    (look_keep (λ n. is_added n && wanted n) v n z)) ∙
    go (is_added n) (wanted n) u (look v n)
  where
    go : (a t : Bool) → t ≡ true → (o : Option Kind) → option_or (cond (not a && t) o None) (cond (a && t) o None) ≡ o
    go true true e o = refl
    go false true e None = refl
    go false true e (Some k) = refl
    go true false e o = absurd (cc)
    go false false e o = absurd (cc)

-- an added declaration sees what its form needs
pub entered_narrow : (v : Visible) (wanted : List ℕ → Bool) → Narrow wanted v (params_for v wanted)
entered_narrow v wanted =
    record {
      at = λ n u. sym (look_params v wanted n u);
      less = λ n h. (and_parts (has v n) (wanted n) (sym (has_params v wanted n) ∙ h)).0;
    }

-- both bind the same
pub narrow_more : {wanted : List ℕ → Bool} {v w : Visible} (more : Visible) → Narrow wanted v w →
    Narrow wanted (v ++ more) (w ++ more)
narrow_more {v = v} {w = w} more s = record {
  at = λ n u. look_append v more n ∙ ap (λ z. option_or z (look more n)) (s.at n u) ∙ sym (look_append w more n);
  less = λ n h. has_append v more n ∙ go n (has w n) refl (sym (has_append w more n) ∙ h) (s.less n);
}
  where
    go : (n : List ℕ) (t : Bool) → has w n ≡ t → (has w n || has more n) ≡ true → (has w n ≡ true → has v n ≡ true) →
        (has v n || has more n) ≡ true
    go n true e h less = or_left (has v n) (has more n) (less e)
    go n false e h less = or_right (has v n) (has more n) (sym (ap (λ z. z || has more n) e) ∙ h)

-- each entry is what its name finds
abbrev pub Entries : Visible → Visible → Type 0
Entries [] v = Unit {0}
Entries (p ∷ ps) v = (look v p.0 ≡ Some p.1) × Entries ps v

pub entries_append : (us ws v : Visible) → Entries us v → Entries ws v → Entries (us ++ ws) v
entries_append [] ws v h k = k
entries_append (p ∷ us) ws v h k = (h.0, entries_append us ws v h.1 k)

pub entries_kept : (p : List ℕ → Bool) (us v : Visible) → Entries us v → Entries (keep p us) v
entries_kept p [] v h = tt
entries_kept p (x ∷ us) v h = go (p x.0) (entries_kept p us v h.1)
  where
    go : (t : Bool) → Entries (keep p us) v → Entries (cond t (x ∷ keep p us) (keep p us)) v
    go true below = (h.0, below)
    go false below = below

pub entries_params : (v : Visible) (wanted : List ℕ → Bool) → Entries v v → Entries (params_for v wanted) v
entries_params v wanted h =
    entries_append (keep (λ n. not (is_added n) && wanted n) v) (keep (λ n. is_added n && wanted n) v) v
    (entries_kept (λ n. not (is_added n) && wanted n) v v h) (entries_kept (λ n. is_added n && wanted n) v v h)

-- variables fit parameters of their kinds
pub fits_each : (w ps : Visible) → Entries ps w → Fit w (arguments [] ps) (params_of ps)
fits_each w [] h = tt
fits_each w (p ∷ ps) h = (h.0, fits_each w ps h.1)

entries_moved : (ps v w : Visible) (wanted : List ℕ → Bool) → Entries ps v → Narrow wanted v w →
    ((n : List ℕ) → has ps n ≡ true → wanted n ≡ true) → Entries ps w
entries_moved [] v w wanted h s sub = tt
entries_moved (p ∷ ps) v w wanted h s sub = (
  sym (s.at p.0 (sub p.0 (or_left (is_word p.0 p.0) (has ps p.0) (itself p.0)))) ∙ h.0,
  entries_moved ps v w wanted h.1 s (λ n e. sub n (or_right (is_word p.0 n) (has ps n) e)),
)

-- the arguments of the call of an added declaration fit its parameters
pub call_fits : (v w : Visible) (wanted : List ℕ → Bool) → Entries v v → Narrow wanted v w →
    Fit w (arguments [] (params_for v wanted)) (params_of (params_for v wanted))
call_fits v w wanted own s =
    fits_each w (params_for v wanted) (entries_moved (params_for v wanted) v w wanted (entries_params v wanted own) s
    (λ n e. (and_parts (has v n) (wanted n) (sym (has_params v wanted n) ∙ e)).1))
