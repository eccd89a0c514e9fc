-- Chains of the rules that use a part, as they grow.
use Rattle.std.proofs.Common.{◌≡◌, ◌⊎◌, inl, inr, ℕ, suc, ◌+◌, ◌<◌, List, [], ◌∷◌, ◌++◌, Some, length, get_or, set, replicate, slice_get, take, Contains, sym, ap, ap₂, ◌∙◌, subst, arith, length-set}
use Rattle.std.proofs.lemmas.List.Elements.{Contains-append_left, Contains-push, Contains-push_cases}
use Rattle.std.proofs.lemmas.Option.{same_Some, slice_get-get_or, get_or_from_slice_get}
use Rattle.std.proofs.lemmas.List.{take_more, get_or-replicate, length-replicate, get_or-set_same}
use Rattle.std.proofs.lemmas.Bool.{cases_eq}
use Rattle.ig_text.proofs.Lists.{place_cases}
use Rattle.ig_text.proofs.Orders.{le_or_lt}
use Rattle.ig_heights.specs.Fits.{FitsRule}
use Rattle.ig_heights.specs.Uses.{HasSource, IsUse, IsLast, AreUses, AreUsesOf, IsAdded, IsBefore}
use Rattle.ig_heights.specs.declared.rule.Rule.{Rule}
use Rattle.ig_heights.specs.declared.rule.Table.{Table}
use Rattle.ig_heights.specs.declared.uses.Earlier.{Earlier}
use Rattle.ig_heights.specs.declared.uses.Uses.{Uses}
use Rattle.ig_heights.proofs.Numbers.{set_there, long_push, read_zero}

-- a use by one of the rules up to this one is by an earlier one, or by this one
pub use_cases : (rules : List Rule) (part k n : ℕ) (rule r : Rule) → slice_get rules k ≡ Some rule → n ≡ suc k →
    IsUse rules part n r → IsUse rules part k r ⊎ (r ≡ rule)
use_cases rules part k n rule r at next u =
    let l = u.low in
    elim (le_or_lt k u.number) [
      | inl past ↦
          let e : u.number ≡ k = omega (arith, l, past, next) in
          inr (same_Some r rule (sym u.at ∙ ap (slice_get rules) e ∙ at))
      | inr less ↦ inl (record { number = u.number; low = less; at = u.at; source = u.source })
    ]

abbrev none_earlier : List Earlier
none_earlier = []

no_earlier : (k : ℕ) (x : Earlier) → slice_get none_earlier k ≡ Some x → ⊥
no_earlier k x e = cc

pub uses_none : (rules : List Rule) (parts : ℕ) (uses : Uses) → uses.last.items ≡ replicate parts 0 → uses.earlier.items ≡ [] →
    AreUses rules parts 0 uses
uses_none rules parts uses last earlier =
    record {
      long = ap length last ∙ length-replicate parts 0;
      many = ap length earlier;
      last = λ p inside. none p (get_or uses.last.items p 0) (first p inside);
      left = λ k r x at here. absurd (never k x here);
      right = λ k r x at here. absurd (never k x here);
    }
  where
    first : (p : ℕ) → p < parts → get_or uses.last.items p 0 ≡ 0
    first p inside = ap (λ (z : List ℕ). get_or z p 0) last ∙ get_or-replicate parts p 0 0 inside

    none : (p n : ℕ) → n ≡ 0 → IsLast rules 0 p n
    none p n is =
        record {
          low = omega (arith, is);
          source = λ k r behind at. absurd (omega (arith, is, behind));
          all = λ r u. let l = u.low in absurd (omega (arith, l));
        }

    never : (k : ℕ) (x : Earlier) → slice_get uses.earlier.items k ≡ Some x → ⊥
    never k x here = no_earlier k x (ap (λ (z : List Earlier). slice_get z k) (sym earlier) ∙ here)

-- the next rule was added
module _ (rules : List Rule) (parts count : ℕ) (rule : Rule) (at : slice_get rules count ≡ Some rule) (fits : FitsRule parts rule)
    (before after : Uses) (are : AreUses rules parts count before) (added : IsAdded rule before after) where
  abbrev next : ℕ
  next = suc (length before.earlier.items)

  abbrev half : List ℕ
  half = set before.last.items rule.left next

  long_half : length half ≡ parts
  long_half = length-set before.last.items rule.left next ∙ are.long

  at_right : (p : ℕ) → p ≡ rule.right → get_or after.last.items p 0 ≡ next
  at_right p e =
      ap (λ (z : List ℕ). get_or z p 0) added.last ∙ ap (λ (n : ℕ). get_or (set half rule.right next) n 0) e
      ∙ get_or-set_same half rule.right next 0 (let l = long_half in let f = fits.right in omega (arith, l, f))

  at_left : (p : ℕ) → (p ≡ rule.right → ⊥) → p ≡ rule.left → get_or after.last.items p 0 ≡ next
  at_left p d e =
      ap (λ (z : List ℕ). get_or z p 0) added.last ∙ set_there half rule.right p next 0 d ∙ ap (λ (n : ℕ). get_or half n 0) e
      ∙ get_or-set_same before.last.items rule.left next 0 (let l = are.long in let f = fits.left in omega (arith, l, f))

  at_other : (p : ℕ) → (p ≡ rule.right → ⊥) → (p ≡ rule.left → ⊥) → get_or after.last.items p 0 ≡ get_or before.last.items p 0
  at_other p d o =
      ap (λ (z : List ℕ). get_or z p 0) added.last ∙ set_there half rule.right p next 0 d
      ∙ set_there before.last.items rule.left p next 0 o

  last_here : (p n : ℕ) → n ≡ next → HasSource p rule → IsLast rules (count + 1) p n
  last_here p n is has =
      let m = are.many in let e : n ≡ count + 1 = omega (arith, m, is) in
      record {
        low = omega (arith, e);
        source = λ k r behind here.
            let same : count ≡ k = omega (arith, e, behind) in
            subst (HasSource p) (same_Some rule r (sym at ∙ ap (slice_get rules) same ∙ here)) has;
        all = λ r u. subst (λ (z : ℕ). IsUse rules p z r) (sym e) u;
      }

  older : (p : ℕ) (r : Rule) → (HasSource p rule → ⊥) → IsUse rules p (count + 1) r → IsUse rules p count r
  older p r other u =
      elim (use_cases rules p count (count + 1) rule r at (omega arith) u) [
        | inl old ↦ old
        | inr e ↦ absurd (other (subst (HasSource p) e u.source))
      ]

  last_kept : (p n : ℕ) → n ≡ get_or before.last.items p 0 → (HasSource p rule → ⊥) → p < parts → IsLast rules (count + 1) p n
  last_kept p n is other inside =
      let last = are.last p inside in let l = last.low in
      record {
        low = omega (arith, l, is);
        source = λ k r behind here. last.source k r (sym is ∙ behind) here;
        all = λ r u. subst (λ (z : ℕ). IsUse rules p z r) (sym is) (last.all r (older p r other u));
      }

  apart : (p : ℕ) → (p ≡ rule.right → ⊥) → (p ≡ rule.left → ⊥) → HasSource p rule → ⊥
  apart p d o (inl e) = o (sym e)
  apart p d o (inr e) = d (sym e)

  new_last : (p : ℕ) → p < parts → IsLast rules (count + 1) p (get_or after.last.items p 0)
  new_last p inside =
      elim (cases_eq p rule.right) [
        | inl e ↦ last_here p (get_or after.last.items p 0) (at_right p e) (inr (sym e))
        | inr d ↦ elim (cases_eq p rule.left) [
          | inl e ↦ last_here p (get_or after.last.items p 0) (at_left p d e) (inl (sym e))
          | inr o ↦ last_kept p (get_or after.last.items p 0) (at_other p d o) (apart p d o) inside
        ]
      ]

  abbrev one : Earlier
  one = record { left = get_or before.last.items rule.left 0; right = get_or before.last.items rule.right 0 }

  -- what stands at a place stood there before, or is the new one
  data Place (k : ℕ) (r : Rule) (x : Earlier) : Type 0 where
    kept_at : slice_get before.earlier.items k ≡ Some x → Place k r x
    new_at : count ≡ k → rule ≡ r → one ≡ x → Place k r x

  place : (k : ℕ) (r : Rule) (x : Earlier) → slice_get rules k ≡ Some r → slice_get after.earlier.items k ≡ Some x → Place k r x
  place k r x here there =
      elim (place_cases before.earlier.items one x k (ap (λ (z : List Earlier). slice_get z k) (sym added.earlier) ∙ there)) [
        | inl kept ↦ kept_at kept
        | inr last ↦
            let m = are.many in let l = last.0 in let same : count ≡ k = omega (arith, m, l) in
            new_at same (same_Some rule r (sym at ∙ ap (slice_get rules) same ∙ here)) last.1
      ]

  left_at : (k : ℕ) (r : Rule) (x : Earlier) → slice_get rules k ≡ Some r → Place k r x → IsLast rules k r.left x.left
  left_at k r x here (kept_at kept) = are.left k r x here kept
  left_at k r x here (new_at same rule_is one_is) =
      subst (λ (z : Earlier). IsLast rules k r.left z.left) one_is
      (subst (λ (z : Rule). IsLast rules k z.left (get_or before.last.items rule.left 0)) rule_is
      (subst (λ (n : ℕ). IsLast rules n rule.left (get_or before.last.items rule.left 0)) same (are.last rule.left fits.left)))

  right_at : (k : ℕ) (r : Rule) (x : Earlier) → slice_get rules k ≡ Some r → Place k r x → IsLast rules k r.right x.right
  right_at k r x here (kept_at kept) = are.right k r x here kept
  right_at k r x here (new_at same rule_is one_is) =
      subst (λ (z : Earlier). IsLast rules k r.right z.right) one_is
      (subst (λ (z : Rule). IsLast rules k z.right (get_or before.last.items rule.right 0)) rule_is
      (subst (λ (n : ℕ). IsLast rules n rule.right (get_or before.last.items rule.right 0)) same (are.last rule.right fits.right)))

  pub uses_more : AreUses rules parts (count + 1) after
  uses_more =
      record {
        long = ap length added.last ∙ length-set half rule.right next ∙ long_half;
        many = (let m = are.many in let l = ap length added.earlier ∙ long_push before.earlier.items one in omega (arith, m, l));
        last = new_last;
        left = λ k r x here there. left_at k r x here (place k r x here there);
        right = λ k r x here there. right_at k r x here (place k r x here there);
      }

-- the rule is added, as the code has it
pub added : (rule : Rule) (before after : Uses) (left right behind : ℕ) → FitsRule (length before.last.items) rule →
    left ≡ get_or before.last.items rule.left left → right ≡ get_or before.last.items rule.right right →
    after.earlier.items ≡ before.earlier.items ++ record { left = left; right = right } ∷ [] → behind ≡ length after.earlier.items →
    after.last.items ≡ set (set before.last.items rule.left behind) rule.right behind → IsAdded rule before after
added rule before after left right behind fits left_is right_is earlier behind_is last =
    record {
      earlier =
          earlier ∙ ap₂ (λ (l r : ℕ). before.earlier.items ++ record { left = l; right = r } ∷ [])
          (sym (read_zero before.last.items rule.left left fits.left left_is))
          (sym (read_zero before.last.items rule.right right fits.right right_is));
      last =
          last ∙ ap (λ (n : ℕ). set (set before.last.items rule.left n) rule.right n)
          (behind_is ∙ ap length earlier ∙ long_push before.earlier.items (record { left = left; right = right }));
    }

-- the one before a rule that uses the part
pub before_last : (rules : List Rule) (parts count : ℕ) (uses : Uses) (k part behind : ℕ) (rule : Rule) → AreUses rules parts count uses →
    slice_get rules k ≡ Some rule → HasSource part rule → IsBefore uses.earlier.items k rule part behind → IsLast rules k part behind
before_last rules parts count uses k part behind rule are at has before =
    elim before.is [
      | inl l ↦
          subst (IsLast rules k part) (sym l.1)
          (subst (λ (p : ℕ). IsLast rules k p before.earlier.left) l.0 (are.left k rule before.earlier at before.at))
      | inr r ↦
          subst (IsLast rules k part) (sym r.1)
          (subst (λ (p : ℕ). IsLast rules k p before.earlier.right) (elim has [ inl e ↦ absurd (r.0 e) | inr e ↦ e ])
          (are.right k rule before.earlier at before.at))
    ]

pub read_at : {X : Type 0} (xs : List X) (i : ℕ) (d : X) → i < length xs → get_or xs i (get_or xs i d) ≡ get_or xs i d
read_at xs i d less = get_or_from_slice_get xs i (get_or xs i d) (get_or xs i d) (slice_get-get_or xs i d less)

module _ {X : Type 0} (xs : List X) (i : ℕ) (d : X) (less : i < length xs) where
  pub taken_only : (y : X) → Contains (take (i + 1) xs) y → Contains (take i xs) y ⊎ (y ≡ get_or xs i d)
  taken_only y c =
      elim (Contains-push_cases (take i xs) (get_or xs i d) y (subst (λ (z : List X). Contains z y) (take_more xs i d less) c)) [
        | inl old ↦ inl old
        | inr same ↦ inr (sym same)
      ]

  pub taken_all : (y : X) → Contains (take i xs) y → Contains (take (i + 1) xs) y
  taken_all y c =
      subst (λ (z : List X). Contains z y) (sym (take_more xs i d less)) (Contains-append_left (take i xs) (get_or xs i d ∷ []) y c)

  pub taken_here : Contains (take (i + 1) xs) (get_or xs i d)
  taken_here = subst (λ (z : List X). Contains z (get_or xs i d)) (sym (take_more xs i d less)) (Contains-push (take i xs) (get_or xs i d))

module _ (t : Table) (rs : List Rule) (same : rs ≡ t.rules.items) (i : ℕ) (d : Rule) (less : i < length rs) where
  pub rule_fits : (uses : Uses) → AreUses t.rules.items t.parts i uses → FitsRule (length uses.last.items) (get_or rs i d)
  rule_fits uses are =
      subst (λ (n : ℕ). FitsRule n (get_or rs i d)) (sym are.long)
      (t.fit (get_or rs i d) (subst (λ (z : List Rule). Contains z (get_or rs i d)) same (i, less, read_at rs i d less)))

  pub uses_next : (before after : Uses) → AreUses t.rules.items t.parts i before → IsAdded (get_or rs i d) before after →
      AreUses t.rules.items t.parts (i + 1) after
  uses_next before after are added =
      uses_more t.rules.items t.parts i (get_or rs i d)
      (ap (λ (z : List Rule). slice_get z i) (sym same) ∙ slice_get-get_or rs i d less)
      (subst (λ (n : ℕ). FitsRule n (get_or rs i d)) are.long (rule_fits before are)) before after are added

pub uses_all : (t : Table) (n : ℕ) (uses : Uses) → n ≡ length t.rules.items → AreUses t.rules.items t.parts n uses → AreUsesOf t uses
uses_all t n uses all are = subst (λ (m : ℕ). AreUses t.rules.items t.parts m uses) all are
