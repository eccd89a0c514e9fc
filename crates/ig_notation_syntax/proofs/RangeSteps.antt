-- The ranges of a class, read character by character.
use Rattle.std.proofs.Common.{◌≡◌, ◌∙◌, ℕ, ◌≤◌, List, [], ◌∷◌, ◌++◌, Bool, true, false, not, ◌&&◌, ◌==◌, Option, Some, None, option_map, option_and_then, is_some, nat_le, cond, length, chars, refl, sym, ap, subst, arith}
use Rattle.std.specs.Prelude.{option_to_list}
use Rattle.std.proofs.lemmas.Bool.Decides.{nat_tests}
use Rattle.std.proofs.lemmas.List.Elements.{All-nil, All-cons}
use Rattle.ig_text.specs.Ranges.{NoneFalls}
use Rattle.ig_notation_syntax.specs.Spelling.{class_signs}
use Rattle.ig_notation_syntax.specs.Scanner as scanner
use Rattle.ig_notation_syntax.specs.Scanner.{letter, ranges_of, ranges_behind, class_step, class_with, class_of, dash, character, placed, with_range, between, behind_character, behind_dash, backslash, stands_for}
use Rattle.ig_notation_syntax.specs.Steps.{AddsRanges, IsNegation}
use Rattle.std.proofs.lemmas.List.{append-nil, append_assoc, nil_from_length}
use Rattle.std.proofs.lemmas.Str.{chars-nil}
use Rattle.std.proofs.lemmas.Option.{same_Some}
use Rattle.ig_notation_syntax.proofs.LetterSteps.{no_bytes}

-- the ranges of the whole are those that were added, and those of the rest
pub record IsAdded (all : Option (List (ℕ × ℕ))) (old new : List (ℕ × ℕ)) (rest : Option (List (ℕ × ℕ))) : Type 0 where
  pub added : List (ℕ × ℕ)
  pub grown : new ≡ old ++ added
  pub same : all ≡ option_map (λ rs. added ++ rs) rest

-- nothing was added yet
pub nothing_added : (all : Option (List (ℕ × ℕ))) (old : List (ℕ × ℕ)) → IsAdded all old old all
nothing_added all old = record { added = []; grown = sym (append-nil old); same = none all }
  where
    none : (r : Option (List (ℕ × ℕ))) → r ≡ option_map (λ rs. [] ++ rs) r
    none None = refl
    none (Some rs) = refl

-- what a step ends stands in front of the rest
in_front : (added : List (ℕ × ℕ)) (range : Option (ℕ × ℕ)) (r : Option (List (ℕ × ℕ))) →
    option_map (λ rs. added ++ rs) (option_map (with_range range) r) ≡ option_map (λ rs. (added ++ option_to_list range) ++ rs) r
in_front added range None = refl
in_front added None (Some qs) = ap (λ z. Some (z ++ qs)) (sym (append-nil added))
in_front added (Some x) (Some qs) = ap Some (sym (append_assoc added (x ∷ []) qs))

-- one character more was read
pub added_more : (all : Option (List (ℕ × ℕ))) (old mid new : List (ℕ × ℕ)) (e : Bool) (p : scanner.Place) (c : ℕ) (cs rest : List ℕ)
    (s : scanner.ClassStep) → IsAdded all old mid (ranges_of e p cs) → cs ≡ c ∷ rest → class_step e p c ≡ Some s →
    new ≡ mid ++ option_to_list s.range → IsAdded all old new (ranges_of s.is_escaped s.place rest)
added_more all old mid new e p c cs rest s h q t n =
    record {
      added = h.added ++ option_to_list s.range;
      grown = n ∙ ap (λ z. z ++ option_to_list s.range) h.grown ∙ append_assoc old h.added (option_to_list s.range);
      same =
          h.same ∙ ap (λ z. option_map (λ rs. h.added ++ rs) (ranges_of e p z)) q ∙
          ap (λ z. option_map (λ rs. h.added ++ rs) (ranges_behind z (λ e p. ranges_of e p rest))) t ∙
          in_front h.added s.range (ranges_of s.is_escaped s.place rest);
    }

-- where a character stands for no step, the whole has no ranges
pub added_none : (all : Option (List (ℕ × ℕ))) (old mid : List (ℕ × ℕ)) (e : Bool) (p : scanner.Place) (c : ℕ) (cs rest : List ℕ) →
    IsAdded all old mid (ranges_of e p cs) → cs ≡ c ∷ rest → class_step e p c ≡ None → all ≡ None
added_none all old mid e p c cs rest h q t =
    h.same ∙ ap (λ z. option_map (λ rs. h.added ++ rs) (ranges_of e p z)) q ∙
    ap (λ z. option_map (λ rs. h.added ++ rs) (ranges_behind z (λ e p. ranges_of e p rest))) t

-- the whole was read
pub added_all : (all : Option (List (ℕ × ℕ))) (old mid new : List (ℕ × ℕ)) (e : Bool) (p : scanner.Place) (cs : List ℕ) (xs : List (ℕ × ℕ)) →
    IsAdded all old mid (ranges_of e p cs) → cs ≡ [] → ranges_of e p [] ≡ Some xs → new ≡ mid ++ xs → AddsRanges all old new true
added_all all old mid new e p cs xs h q t n = (
  h.added ++ xs,
  h.same ∙ ap (λ z. option_map (λ rs. h.added ++ rs) (ranges_of e p z)) q ∙ ap (option_map (λ rs. h.added ++ rs)) t,
  n ∙ ap (λ z. z ++ xs) h.grown ∙ append_assoc old h.added xs,
)

-- it ends where no class can end
pub added_open : (all : Option (List (ℕ × ℕ))) (old mid : List (ℕ × ℕ)) (e : Bool) (p : scanner.Place) (cs : List ℕ) →
    IsAdded all old mid (ranges_of e p cs) → cs ≡ [] → ranges_of e p [] ≡ None → all ≡ None
added_open all old mid e p cs h q t =
    h.same ∙ ap (λ z. option_map (λ rs. h.added ++ rs) (ranges_of e p z)) q ∙ ap (option_map (λ rs. h.added ++ rs)) t

-- what is known of each step
pub record Known (s : scanner.ClassStep) : Type 0 where
  -- a range that ends doesn't fall
  pub rises : (range : ℕ × ℕ) → s.range ≡ Some range → range.0 ≤ range.1
  -- the reading stands between two ranges only behind one that has just ended
  pub ends : s.range ≡ None → s.is_escaped ≡ false → s.place ≡ between → ⊥

same_range : (a b : ℕ) (r : ℕ × ℕ) → Some (a, b) ≡ Some r → (r.0 ≡ a) × (r.1 ≡ b)
same_range a b r e =
    let q : (a, b) ≡ r = same_Some (a, b) r e in
    (ap (λ (z : ℕ × ℕ). z.0) (sym q), ap (λ (z : ℕ × ℕ). z.1) (sym q))

-- a step that ends no range stands at this place
no_range_known : (e : Bool) (p : scanner.Place) → (e ≡ false → p ≡ between → ⊥) →
    Known (record { is_escaped = e; place = p; range = None })
no_range_known e p h = record { rises = λ r q. absurd (cc); ends = λ q. h }

range_known : (e : Bool) (p : scanner.Place) (a b : ℕ) → a ≤ b →
    Known (record { is_escaped = e; place = p; range = Some (a, b) })
range_known e p a b h =
    record {
      rises = λ r q. (let s = same_range a b r q in rw (s.0, s.1) h);
      ends = λ q f g. (cc);
    }

dash_known : (p : scanner.Place) (s : scanner.ClassStep) → dash p ≡ Some s → Known s
dash_known between s e = absurd (cc)
dash_known (behind_dash a) s e = absurd (cc)
dash_known (behind_character a) s e =
    subst Known (same_Some _ s e) (no_range_known false (behind_dash a) (λ f g. (cc)))

character_known : (p : scanner.Place) (c : ℕ) (s : scanner.ClassStep) → character p c ≡ Some s → Known s
character_known between c s e = subst Known (same_Some _ s e) (no_range_known false (behind_character c) (λ f g. (cc)))
character_known (behind_character a) c s e =
    subst Known (same_Some _ s e) (range_known false (behind_character c) a a (omega arith))
character_known (behind_dash a) c s e = go (nat_le a c) refl e
  where
    go : (b : Bool) → nat_le a c ≡ b →
        cond b (Some (record { is_escaped = false; place = between; range = Some (a, c) })) None ≡ Some s → Known s
    go true h q = subst Known (same_Some _ s q) (range_known false between a c (grind (arith, nat_tests)))
    go false h q = absurd (cc)

placed_known : (p : scanner.Place) (l : scanner.Letter) (s : scanner.ClassStep) → placed p l ≡ Some s → Known s
placed_known p backslash s e = subst Known (same_Some _ s e) (no_range_known true p (λ f g. (cc)))
placed_known p (stands_for c) s e = character_known p c s e

letter_known : (p : scanner.Place) (l : Option scanner.Letter) (s : scanner.ClassStep) → option_and_then (placed p) l ≡ Some s → Known s
letter_known p None s e = absurd (cc)
letter_known p (Some l) s e = placed_known p l s e

either_known : (b : Bool) (x y : Option scanner.ClassStep) (s : scanner.ClassStep) → (x ≡ Some s → Known s) → (y ≡ Some s → Known s) →
    cond b x y ≡ Some s → Known s
either_known true x y s h k e = h e
either_known false x y s h k e = k e

pub step_known : (e : Bool) (p : scanner.Place) (c : ℕ) (s : scanner.ClassStep) → class_step e p c ≡ Some s → Known s
step_known e p c s h =
    either_known (not e && (c == 45)) (dash p) (option_and_then (placed p) (letter class_signs e c)) s (dash_known p s)
    (letter_known p (letter class_signs e c) s) h

-- no range falls
put_rises : (range : Option (ℕ × ℕ)) (r : Option (List (ℕ × ℕ))) (ps : List (ℕ × ℕ)) →
    ((x : ℕ × ℕ) → range ≡ Some x → x.0 ≤ x.1) → ((qs : List (ℕ × ℕ)) → r ≡ Some qs → NoneFalls qs) →
    option_map (with_range range) r ≡ Some ps → NoneFalls ps
put_rises range None ps h k e = absurd (cc)
put_rises None (Some qs) ps h k e = subst NoneFalls (same_Some qs ps e) (k qs refl)
put_rises (Some x) (Some qs) ps h k e =
    subst NoneFalls (same_Some (x ∷ qs) ps e) (All-cons (λ r. r.0 ≤ r.1) x qs (h x refl) (k qs refl))

behind_rise : (r : Option scanner.ClassStep) (behind : Bool → scanner.Place → Option (List (ℕ × ℕ))) (ps : List (ℕ × ℕ)) →
    ((s : scanner.ClassStep) → r ≡ Some s → Known s) →
    ((e : Bool) (p : scanner.Place) (qs : List (ℕ × ℕ)) → behind e p ≡ Some qs → NoneFalls qs) →
    ranges_behind r behind ≡ Some ps → NoneFalls ps
behind_rise None behind ps h k e = absurd (cc)
behind_rise (Some s) behind ps h k e =
    put_rises s.range (behind s.is_escaped s.place) ps (h s refl).rises (k s.is_escaped s.place) e

pub ranges_rise : (cs : List ℕ) (e : Bool) (p : scanner.Place) (ps : List (ℕ × ℕ)) → ranges_of e p cs ≡ Some ps → NoneFalls ps
ranges_rise [] true p ps h = absurd (cc)
ranges_rise [] false between ps h = subst NoneFalls (same_Some [] ps h) (All-nil (λ r. r.0 ≤ r.1))
ranges_rise [] false (behind_character a) ps h =
    subst NoneFalls (same_Some ((a, a) ∷ []) ps h) (All-cons (λ r. r.0 ≤ r.1) (a, a) [] (omega arith) (All-nil (λ r. r.0 ≤ r.1)))
ranges_rise [] false (behind_dash a) ps h = absurd (cc)
ranges_rise (c ∷ cs) e p ps h =
    behind_rise (class_step e p c) (λ e p. ranges_of e p cs) ps (step_known e p c) (λ e p qs. ranges_rise cs e p qs) h

-- only nothing stands for no range
put_some : (range : Option (ℕ × ℕ)) (r : Option (List (ℕ × ℕ))) → (range ≡ None → r ≡ Some [] → ⊥) →
    option_map (with_range range) r ≡ Some [] → ⊥
put_some range None h e = cc
put_some None (Some qs) h e = h refl e
put_some (Some x) (Some qs) h e = cc

behind_some : (r : Option scanner.ClassStep) (behind : Bool → scanner.Place → Option (List (ℕ × ℕ))) →
    ((s : scanner.ClassStep) → r ≡ Some s → Known s) →
    ((e : Bool) (p : scanner.Place) → (e ≡ false → p ≡ between → ⊥) → behind e p ≡ Some [] → ⊥) →
    ranges_behind r behind ≡ Some [] → ⊥
behind_some None behind h k e = cc
behind_some (Some s) behind h k e =
    put_some s.range (behind s.is_escaped s.place) (λ q. k s.is_escaped s.place ((h s refl).ends q)) e

some_range : (cs : List ℕ) (e : Bool) (p : scanner.Place) → (e ≡ false → p ≡ between → ⊥) → ranges_of e p cs ≡ Some [] → ⊥
some_range [] true p n h = cc
some_range [] false between n h = n refl refl
some_range [] false (behind_character a) n h = cc
some_range [] false (behind_dash a) n h = cc
some_range (c ∷ cs) e p n h =
    behind_some (class_step e p c) (λ e p. ranges_of e p cs) (step_known e p c) (λ e p. some_range cs e p) h

pub some_ranges : (c : ℕ) (cs : List ℕ) → ranges_of false between (c ∷ cs) ≡ Some [] → ⊥
some_ranges c cs h =
    behind_some (class_step false between c) (λ e p. ranges_of e p cs) (step_known false between c) (λ e p. some_range cs e p) h

same_class : (negated : Bool) (r : Option (List (ℕ × ℕ))) → (r ≡ Some [] → ⊥) → is_some r ≡ is_some (class_with negated r)
same_class negated None h = refl
same_class negated (Some []) h = absurd (h refl)
same_class negated (Some (p ∷ ps)) h = refl

pub class_some : (negated : Bool) (cs : List ℕ) → (cs ≡ [] → ⊥) →
    is_some (ranges_of false between cs) ≡ is_some (class_with negated (ranges_of false between cs))
class_some negated [] h = absurd (h refl)
class_some negated (c ∷ cs) h = same_class negated (ranges_of false between (c ∷ cs)) (some_ranges c cs)

pub no_class : (negated : Bool) (cs : List ℕ) → cs ≡ [] → false ≡ is_some (class_with negated (ranges_of false between cs))
no_class negated cs h = rw h refl

pub is_class_all : (negated empty : Bool) (inside ranges : List ℕ) → IsNegation inside negated ranges → empty ≡ (length ranges == 0) →
    empty ≡ false → is_some (ranges_of false between (chars ranges)) ≡ is_some (class_of (chars inside))
is_class_all negated empty inside ranges n e f =
    let some : length ranges ≡ 0 → ⊥ = λ q. grind (arith, nat_tests) in
    class_some negated (chars ranges) (λ q. some (no_bytes ranges n.whole q)) ∙ ap is_some (sym n.class_is)

pub is_class_none : (negated empty : Bool) (inside ranges : List ℕ) → IsNegation inside negated ranges → empty ≡ (length ranges == 0) →
    empty ≡ true → not empty ≡ is_some (class_of (chars inside))
is_class_none negated empty inside ranges n e f =
    let none : length ranges ≡ 0 = grind (arith, nat_tests) in
    let p : chars ranges ≡ [] = rw (nil_from_length ranges none) chars-nil in
    rw f (no_class negated (chars ranges) p ∙ ap is_some (sym n.class_is))

pub added_rise : (all : Option (List (ℕ × ℕ))) (cs : List ℕ) (old new given : List (ℕ × ℕ)) (r : Bool) → r ≡ true →
    all ≡ ranges_of false between cs → AddsRanges all old new r → old ≡ [] → given ≡ new → NoneFalls given
added_rise all cs old new given r t e a o g =
    let b : (added : List (ℕ × ℕ)) × (all ≡ Some added) × (new ≡ old ++ added) = subst (AddsRanges all old new) t a in
    let same : given ≡ b.0 = g ∙ b.2 ∙ ap (λ (z : List (ℕ × ℕ)). z ++ b.0) o in
    subst NoneFalls (sym same) (ranges_rise cs false between b.0 (sym e ∙ b.1))
