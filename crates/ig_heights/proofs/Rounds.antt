-- What a look at a rule, and the taking of a part, do to the work list.
use Rattle.std.proofs.Common.{◌≡◌, ◌⊎◌, inl, inr, ℕ, suc, ◌+◌, ◌*◌, ◌<◌, ◌≤◌, List, [], ◌∷◌, ◌++◌, Some, length, get_or, set, slice_get, Contains, refl, sym, ap, ◌∙◌, subst, arith}
use Rattle.std.proofs.lemmas.List.Elements.{Contains-append_left, Contains-push, Contains-push_cases}
use Rattle.std.proofs.lemmas.Option.{slice_get_read, slice_get_within}
use Rattle.ig_text.proofs.Lists.{at_from_contains, contains_from_at}
use Rattle.ig_heights.specs.Fits.{FitsRule}
use Rattle.ig_heights.specs.Rules.{rise, height_at}
use Rattle.ig_heights.specs.Uses.{HasSource, IsUse, IsLast, AreUsesOf, IsBefore}
use Rattle.ig_heights.specs.Work.{unset, IsWork, Works, Looks, NoRule, weight}
use Rattle.ig_heights.specs.Work as work
use Rattle.ig_heights.specs.declared.rule.Rule.{Rule}
use Rattle.ig_heights.specs.declared.rule.Table.{Table}
use Rattle.ig_heights.specs.declared.uses.Uses.{Uses}
use Rattle.ig_heights.specs.declared.work.Work.{Work}
use Rattle.ig_heights.proofs.Numbers.{rise_one, rise_none, long_push}
use Rattle.ig_heights.proofs.Using.{use_cases, before_last}
use Rattle.ig_heights.proofs.Working.{fewer, idle_look, settles, lighter, round_kept}

-- what holds while the rules that use a part are looked at
pub record Visits (t : Table) (part : ℕ) (before after : Work) (rest : Rule → Type 0) : Type 0 where
  pub works : Works t after rest
  pub round : height_at after.heights.items part ≡ after.height
  pub less : weight t after ≤ weight t before

pushed : {X : Type 0} (xs ys : List X) (x : X) → ys ≡ xs ++ x ∷ [] → Contains ys x
pushed xs ys x e = subst (λ (z : List _). Contains z x) (sym e) (Contains-push xs x)

pushed_more : {X : Type 0} (xs ys : List X) (x y : X) → ys ≡ xs ++ x ∷ [] → Contains xs y → Contains ys y
pushed_more xs ys x y e c = subst (λ (z : List _). Contains z y) (sym e) (Contains-append_left xs (x ∷ []) y c)

of_pushed : {X : Type 0} (xs ys : List X) (x y : X) → ys ≡ xs ++ x ∷ [] → Contains ys y → Contains xs y ⊎ (y ≡ x)
of_pushed xs ys x y e c =
    elim (Contains-push_cases xs x y (subst (λ (z : List _). Contains z y) e c)) [ inl old ↦ inl old | inr new ↦ inr (sym new) ]

kept_list : {X : Type 0} (xs ys : List X) (y : X) → ys ≡ xs → Contains xs y → Contains ys y
kept_list xs ys y e c = subst (λ (z : List _). Contains z y) (sym e) c

of_kept : {X : Type 0} (xs ys : List X) (y : X) → ys ≡ xs → Contains ys y → Contains xs y
of_kept xs ys y e c = subst (λ (z : List _). Contains z y) e c

module _ (t : Table) (part : ℕ) (start b a : Work) (rule : Rule) (more rest : Rule → Type 0)
    (only : (r : Rule) → more r → rest r ⊎ (r ≡ rule)) (visits : Visits t part start b more) (used : HasSource part rule)
    (among : Contains t.rules.items rule) (fits : FitsRule t.parts rule) where
  abbrev hs : List ℕ
  hs = b.heights.items

  abbrev w : ℕ
  w = rise t.nodes rule.target

  settled : (heights : List ℕ) → heights ≡ set hs rule.target (b.height + w) → a.heights.items ≡ heights → a.height ≡ b.height →
      IsWork t (set hs rule.target (b.height + w)) a.current.items a.next.items b.height rest →
      height_at (set hs rule.target (b.height + w)) part ≡ b.height →
      3 * unset t.nodes t.parts (set hs rule.target (b.height + w)) + 3 ≡ 3 * unset t.nodes t.parts hs →
      length a.current.items + 2 * length a.next.items ≤ length b.current.items + 2 * length b.next.items + 2 →
      Visits t part start a rest
  settled heights is are same law round light long =
      let e : a.heights.items ≡ set hs rule.target (b.height + w) = are ∙ is in
      let u = ap (unset t.nodes t.parts) e in let l = visits.less in
      let r = ap (λ (z : List ℕ). height_at z part) e in
      record {
        works =
            subst (λ (n : ℕ). IsWork t a.heights.items a.current.items a.next.items n rest) (sym same)
            (subst (λ (z : List ℕ). IsWork t z a.current.items a.next.items b.height rest) (sym e) law);
        round = r ∙ round ∙ sym same;
        less = omega (arith, u, l, light, long);
      }

  pub looked : Looks t.nodes rule b a → Visits t part start a rest
  looked (work.idle never same) =
      let law =
      idle_look t hs b.current.items b.next.items b.height part rule more rest only visits.works used visits.round
      (λ l r n. never (record { left = l; right = r; target = n })) in
      subst (λ (z : Work). Visits t part start z rest) (sym same) (record { works = law; round = visits.round; less = visits.less })
  looked (work.node fires node heights current next same) =
      let one = rise_one t.nodes rule.target node in
      let sum : suc b.height ≡ b.height + w = omega (arith, one) in
      let e = ap (λ (n : ℕ). set hs rule.target n) sum in
      let len = ap length next ∙ long_push b.next.items rule.target in
      let cur = ap length current in
      let longer : length a.next.items ≡ length b.next.items + w = omega (arith, len, one) in
      let more_current : (p : ℕ) → Contains b.current.items p → Contains a.current.items p = λ p c. kept_list _ _ p current c in
      let more_next : (p : ℕ) → Contains b.next.items p → Contains a.next.items p = λ p c. pushed_more _ _ _ p next c in
      let there : Contains a.next.items rule.target = pushed _ _ _ next in
      let old_current : (p : ℕ) → Contains a.current.items p → Contains b.current.items p ⊎ ((p ≡ rule.target) × (w ≡ 0)) =
      λ p c. inl (of_kept _ _ p current c) in
      let old_next : (p : ℕ) → Contains a.next.items p → Contains b.next.items p ⊎ ((p ≡ rule.target) × (w ≡ 1)) =
      λ p c. elim (of_pushed _ _ _ p next c) [ inl old ↦ inl old | inr new ↦ inr (new, one) ] in
      settled (set hs rule.target (suc b.height)) e heights same
      (settles t hs b.current.items b.next.items b.height part rule more rest only visits.works used visits.round a.current.items a.next.items
      among fits fires.left fires.right fires.target more_current more_next (inr there) (λ is. there) old_current old_next longer)
      (round_kept t hs b.current.items b.next.items b.height part rule more rest only visits.works used visits.round a.current.items a.next.items
      among fits fires.left fires.right fires.target more_current more_next (inr there) (λ is. there) old_current old_next longer)
      (lighter t hs b.current.items b.next.items b.height part rule more rest only visits.works used visits.round a.current.items a.next.items
      among fits fires.left fires.right fires.target more_current more_next (inr there) (λ is. there) old_current old_next longer)
      (omega (arith, len, cur))
  looked (work.item fires item heights current next same) =
      let none = rise_none t.nodes rule.target item in
      let sum : b.height ≡ b.height + w = omega (arith, none) in
      let e = ap (λ (n : ℕ). set hs rule.target n) sum in
      let len = ap length current ∙ long_push b.current.items rule.target in
      let nex = ap length next in
      let longer : length a.next.items ≡ length b.next.items + w = omega (arith, nex, none) in
      let more_current : (p : ℕ) → Contains b.current.items p → Contains a.current.items p = λ p c. pushed_more _ _ _ p current c in
      let more_next : (p : ℕ) → Contains b.next.items p → Contains a.next.items p = λ p c. kept_list _ _ p next c in
      let there : Contains a.current.items rule.target = pushed _ _ _ current in
      let to_next : w ≡ 1 → Contains a.next.items rule.target = λ is. absurd (omega (arith, is, none)) in
      let old_current : (p : ℕ) → Contains a.current.items p → Contains b.current.items p ⊎ ((p ≡ rule.target) × (w ≡ 0)) =
      λ p c. elim (of_pushed _ _ _ p current c) [ inl old ↦ inl old | inr new ↦ inr (new, none) ] in
      let old_next : (p : ℕ) → Contains a.next.items p → Contains b.next.items p ⊎ ((p ≡ rule.target) × (w ≡ 1)) =
      λ p c. inl (of_kept _ _ p next c) in
      settled (set hs rule.target b.height) e heights same
      (settles t hs b.current.items b.next.items b.height part rule more rest only visits.works used visits.round a.current.items a.next.items
      among fits fires.left fires.right fires.target more_current more_next (inl there) to_next old_current old_next longer)
      (round_kept t hs b.current.items b.next.items b.height part rule more rest only visits.works used visits.round a.current.items a.next.items
      among fits fires.left fires.right fires.target more_current more_next (inl there) to_next old_current old_next longer)
      (lighter t hs b.current.items b.next.items b.height part rule more rest only visits.works used visits.round a.current.items a.next.items
      among fits fires.left fires.right fires.target more_current more_next (inl there) to_next old_current old_next longer)
      (omega (arith, len, nex))

pub few_rounds : (t : Table) (b : Work) (rest : Rule → Type 0) → t.nodes < 4294967296 → Works t b rest → b.height < 4294967296
few_rounds t b rest few law = let r = law.room in omega (arith, few, r)

-- what holds along the chain of the part
pub record Walks (t : Table) (part behind : ℕ) (before after : Work) : Type 0 where
  pub visits : Visits t part before after (IsUse t.rules.items part behind)
  pub low : behind ≤ length t.rules.items
  pub source : (k : ℕ) (rule : Rule) → behind ≡ suc k → slice_get t.rules.items k ≡ Some rule → HasSource part rule

module _ (t : Table) (uses : Uses) (are : AreUsesOf t uses) (part : ℕ) where
  pub walk_begins : (b : Work) (behind : ℕ) → part < t.parts → behind ≡ get_or uses.last.items part 0 →
      height_at b.heights.items part ≡ b.height → Works t b (HasSource part) → Walks t part behind b b
  walk_begins b behind there is round law =
      record {
        visits =
            record {
              works = fewer t b.heights.items b.current.items b.next.items b.height (HasSource part) (IsUse t.rules.items part behind) waits law;
              round = round;
              less = omega arith;
            };
        low = last.low;
        source = last.source;
      }
    where
      last : IsLast t.rules.items (length t.rules.items) part behind
      last = subst (IsLast t.rules.items (length t.rules.items) part) (sym is) (are.last part there)

      waits : (r : Rule) → Contains t.rules.items r → HasSource part r → IsUse t.rules.items part behind r
      waits r c source =
          let a = at_from_contains t.rules.items r c in
          last.all r (record { number = a.0; low = slice_get_within t.rules.items a.0 r a.1; at = a.1; source = source })

  module _ (start b : Work) (behind : ℕ) (walks : Walks t part behind start b) where
    module _ (k : ℕ) (rule : Rule) (behind_is : behind ≡ suc k) (rule_is : rule ≡ get_or t.rules.items k rule) where
      in_table : k < length t.rules.items
      in_table = let l = walks.low in omega (arith, l, behind_is)

      at : slice_get t.rules.items k ≡ Some rule
      at = slice_get_read t.rules.items (length t.rules.items) k rule refl in_table rule_is

      used : HasSource part rule
      used = walks.source k rule behind_is at

      among : Contains t.rules.items rule
      among = contains_from_at t.rules.items k rule at

      pub rule_fits : FitsRule (length b.heights.items) rule
      rule_fits = subst (λ (n : ℕ). FitsRule n rule) (sym walks.visits.works.long) (t.fit rule among)

      pub walk_falls : (next : ℕ) → IsBefore uses.earlier.items k rule part next → next < behind
      walk_falls next before =
          let l = (before_last t.rules.items t.parts (length t.rules.items) uses k part next rule are at used before).low in
          omega (arith, l, behind_is)

      pub walk_goes : (a : Work) (next : ℕ) → IsBefore uses.earlier.items k rule part next → Looks t.nodes rule b a →
          Walks t part next start a
      walk_goes a next before looks =
          record {
            visits =
                looked t part start b a rule (IsUse t.rules.items part behind) (IsUse t.rules.items part next) only walks.visits used among
                (t.fit rule among) looks;
            low = (let l = walks.low in let m = last.low in omega (arith, l, m, behind_is));
            source = last.source;
          }
        where
          last : IsLast t.rules.items k part next
          last = before_last t.rules.items t.parts (length t.rules.items) uses k part next rule are at used before

          only : (r : Rule) → IsUse t.rules.items part behind r → IsUse t.rules.items part next r ⊎ (r ≡ rule)
          only r u =
              elim (use_cases t.rules.items part k behind rule r at behind_is u) [
                | inl old ↦ inl (last.all r old)
                | inr e ↦ inr e
              ]

    pub walk_ends : behind ≤ 0 → Visits t part start b NoRule
    walk_ends end =
        let v = walks.visits in
        record {
          works =
              fewer t b.heights.items b.current.items b.next.items b.height (IsUse t.rules.items part behind) NoRule
              (λ r c u. let l = u.low in absurd (omega (arith, l, end))) v.works;
          round = v.round;
          less = v.less;
        }
