-- One look at a rule keeps the work list lawful.
use Rattle.std.proofs.Common.{◌≡◌, ◌⊎◌, inl, inr, ℕ, suc, ◌+◌, ◌*◌, ◌<◌, ◌≤◌, List, length, set, Contains, sym, ap, ◌∙◌, subst, arith, length-set}
use Rattle.std.proofs.lemmas.List.{get_or-set_same}
use Rattle.std.proofs.lemmas.Bool.{cases_eq}
use Rattle.ig_text.proofs.Orders.{le_or_lt}
use Rattle.ig_heights.specs.Fits.{FitsRule}
use Rattle.ig_heights.specs.Rules.{rise, height_at, need, IsGiven}
use Rattle.ig_heights.specs.Uses.{HasSource}
use Rattle.ig_heights.specs.Work.{unset, Waits, IsWork}
use Rattle.ig_heights.specs.Work as work
use Rattle.ig_heights.specs.declared.rule.Rule.{Rule}
use Rattle.ig_heights.specs.declared.rule.Table.{Table}
use Rattle.ig_heights.proofs.Numbers.{rise_cases, rise_low, rise_one, set_there, unset_set, unset_some}

-- a rule that uses a part of the round's height needs that height at least
needs_round : (nodes height part : ℕ) (heights : List ℕ) (rule : Rule) → HasSource part rule → height_at heights part ≡ height →
    height + rise nodes rule.target ≤ need nodes heights rule
needs_round nodes height part heights rule (inl e) is =
    let h = ap (height_at heights) e ∙ is in omega (arith, h)
needs_round nodes height part heights rule (inr e) is =
    let h = ap (height_at heights) e ∙ is in omega (arith, h)

-- where fewer rules are to be looked at
pub fewer : (t : Table) (hs cs ns : List ℕ) (h : ℕ) (more rest : Rule → Type 0) →
    ((r : Rule) → Contains t.rules.items r → more r → rest r) → IsWork t hs cs ns h more → IsWork t hs cs ns h rest
fewer t hs cs ns h more rest still law =
    record {
      long = law.long;
      bounded = law.bounded;
      bottom = law.bottom;
      given = law.given;
      obeyed = λ r c. elim (law.obeyed r c) [ inl low ↦ inl low | inr waits ↦ inr (moved r c waits) ];
      low = law.low;
      ahead = law.ahead;
      in_round = law.in_round;
      in_next = law.in_next;
      room = law.room;
    }
  where
    moved : (r : Rule) → Contains t.rules.items r → Waits cs ns more r → Waits cs ns rest r
    moved r a (work.left_current c) = work.left_current c
    moved r a (work.right_current c) = work.right_current c
    moved r a (work.left_next c) = work.left_next c
    moved r a (work.right_next c) = work.right_next c
    moved r a (work.itself c) = work.itself (still r a c)

module _ (t : Table) (hs cs ns : List ℕ) (h part : ℕ) (rule : Rule) (more rest : Rule → Type 0)
    (only : (r : Rule) → more r → rest r ⊎ (r ≡ rule)) (law : IsWork t hs cs ns h more) (used : HasSource part rule)
    (round : height_at hs part ≡ h) where
  waits_still : (r : Rule) → Waits cs ns more r → Waits cs ns rest r ⊎ (r ≡ rule)
  waits_still r (work.left_current c) = inl (work.left_current c)
  waits_still r (work.right_current c) = inl (work.right_current c)
  waits_still r (work.left_next c) = inl (work.left_next c)
  waits_still r (work.right_next c) = inl (work.right_next c)
  waits_still r (work.itself c) = elim (only r c) [ inl o ↦ inl (work.itself o) | inr e ↦ inr e ]

  -- what is higher than the round waits, or has no height
  beyond : (p : ℕ) → h < height_at hs p → (height_at hs p ≡ suc t.nodes) ⊎ Contains ns p
  beyond p high =
      elim (le_or_lt (height_at hs p) t.nodes) [
        | inl known ↦ inr (law.ahead p known high)
        | inr none ↦ let b = law.bounded p in inl (omega (arith, none, b))
      ]

  abbrev Settled : Rule → Type 0
  Settled r = (height_at hs r.target ≤ need t.nodes hs r) ⊎ Waits cs ns rest r

  idles : ((height_at hs rule.left ≤ h) → (height_at hs rule.right ≤ h) → (t.nodes < height_at hs rule.target) → ⊥) → Settled rule
  idles never =
      elim (le_or_lt (height_at hs rule.left) h) [
        | inr high ↦ elim (beyond rule.left high) [
          | inl none ↦ let b = law.bounded rule.target in inl (omega (arith, none, b))
          | inr c ↦ inr (work.left_next c)
        ]
        | inl low_left ↦ elim (le_or_lt (height_at hs rule.right) h) [
          | inr high ↦ elim (beyond rule.right high) [
            | inl none ↦ let b = law.bounded rule.target in inl (omega (arith, none, b))
            | inr c ↦ inr (work.right_next c)
          ]
          | inl low_right ↦ elim (le_or_lt (height_at hs rule.target) t.nodes) [
            | inr none ↦ absurd (never low_left low_right none)
            | inl known ↦
                let l = law.low rule.target known in let n = needs_round t.nodes h part hs rule used round in
                inl (omega (arith, l, n))
          ]
        ]
      ]

  pub idle_look : ((height_at hs rule.left ≤ h) → (height_at hs rule.right ≤ h) → (t.nodes < height_at hs rule.target) → ⊥) →
      IsWork t hs cs ns h rest
  idle_look never =
      record {
        long = law.long;
        bounded = law.bounded;
        bottom = law.bottom;
        given = law.given;
        obeyed = λ r among.
            elim (law.obeyed r among) [
              | inl low ↦ inl low
              | inr waits ↦ elim (waits_still r waits) [
                | inl w ↦ inr w
                | inr e ↦ subst Settled (sym e) (idles never)
              ]
            ];
        low = law.low;
        ahead = law.ahead;
        in_round = law.in_round;
        in_next = law.in_next;
        room = law.room;
      }

  -- the target gets its height and waits
  module _ (us ms : List ℕ) (among : Contains t.rules.items rule) (fits : FitsRule t.parts rule)
      (low_left : height_at hs rule.left ≤ h) (low_right : height_at hs rule.right ≤ h) (none : t.nodes < height_at hs rule.target)
      (more_current : (p : ℕ) → Contains cs p → Contains us p) (more_next : (p : ℕ) → Contains ns p → Contains ms p)
      (waiting : Contains us rule.target ⊎ Contains ms rule.target)
      (to_next : rise t.nodes rule.target ≡ 1 → Contains ms rule.target)
      (old_current : (p : ℕ) → Contains us p → Contains cs p ⊎ ((p ≡ rule.target) × (rise t.nodes rule.target ≡ 0)))
      (old_next : (p : ℕ) → Contains ms p → Contains ns p ⊎ ((p ≡ rule.target) × (rise t.nodes rule.target ≡ 1)))
      (longer : length ms ≡ length ns + rise t.nodes rule.target) where
    abbrev w : ℕ
    w = rise t.nodes rule.target

    abbrev new : List ℕ
    new = set hs rule.target (h + w)

    within : rule.target < length hs
    within = let l = law.long in let f = fits.target in omega (arith, l, f)

    room_one : h + w ≤ t.nodes
    room_one =
        let r = law.room in
        elim (rise_cases t.nodes rule.target) [
          | inl c ↦ let e = c.1 in let u = unset_some t.nodes t.nodes hs rule.target c.0 within none in omega (arith, r, e, u)
          | inr c ↦ let e = c.1 in omega (arith, r, e)
        ]

    here : height_at new rule.target ≡ h + w
    here = get_or-set_same hs rule.target (h + w) 0 within

    there : (p : ℕ) → (p ≡ rule.target → ⊥) → height_at new p ≡ height_at hs p
    there p other = set_there hs rule.target p (h + w) 0 other

    -- what has a height is another part
    apart : (p : ℕ) → height_at hs p ≤ t.nodes → p ≡ rule.target → ⊥
    apart p known e = let h = ap (height_at hs) e in omega (arith, known, none, h)

    kept : (p : ℕ) → height_at hs p ≤ t.nodes → height_at new p ≡ height_at hs p
    kept p known = there p (apart p known)

    at_target : (p : ℕ) → p ≡ rule.target → height_at new p ≡ h + w
    at_target p e = ap (height_at new) e ∙ here

    falls : (p : ℕ) → height_at new p ≤ height_at hs p
    falls p =
        elim (cases_eq p rule.target) [
          | inl e ↦ let a = at_target p e in let b = ap (height_at hs) e in let r = room_one in omega (arith, a, b, r, none)
          | inr d ↦ let a = there p d in omega (arith, a)
        ]

    need_falls : (r : Rule) → need t.nodes new r ≤ need t.nodes hs r
    need_falls r = let a = falls r.left in let b = falls r.right in omega (arith, a, b)

    left_waits : (r : Rule) → r.left ≡ rule.target → Waits us ms rest r
    left_waits r e =
        elim waiting [
          | inl c ↦ work.left_current (subst (Contains us) (sym e) c)
          | inr c ↦ work.left_next (subst (Contains ms) (sym e) c)
        ]

    right_waits : (r : Rule) → r.right ≡ rule.target → Waits us ms rest r
    right_waits r e =
        elim waiting [
          | inl c ↦ work.right_current (subst (Contains us) (sym e) c)
          | inr c ↦ work.right_next (subst (Contains ms) (sym e) c)
        ]

    still : (r : Rule) → (need t.nodes new r ≡ need t.nodes hs r) ⊎ Waits us ms rest r
    still r =
        elim (cases_eq r.left rule.target) [
          | inl e ↦ inr (left_waits r e)
          | inr d ↦ elim (cases_eq r.right rule.target) [
            | inl e ↦ inr (right_waits r e)
            | inr o ↦ let a = there r.left d in let b = there r.right o in inl (omega (arith, a, b))
          ]
        ]

    waits_more : (r : Rule) → Waits cs ns rest r → Waits us ms rest r
    waits_more r (work.left_current c) = work.left_current (more_current r.left c)
    waits_more r (work.right_current c) = work.right_current (more_current r.right c)
    waits_more r (work.left_next c) = work.left_next (more_next r.left c)
    waits_more r (work.right_next c) = work.right_next (more_next r.right c)
    waits_more r (work.itself c) = work.itself c

    pub round_kept : height_at new part ≡ h
    round_kept = let r = law.room in kept part (omega (arith, round, r)) ∙ round

    itself_obeyed : height_at new rule.target ≤ need t.nodes new rule
    itself_obeyed =
        let n = needs_round t.nodes h part new rule used round_kept in let e = here in omega (arith, n, e)

    abbrev Obeyed : Rule → Type 0
    Obeyed r = (height_at new r.target ≤ need t.nodes new r) ⊎ Waits us ms rest r

    obeyed_now : (r : Rule) → Contains t.rules.items r → Obeyed r
    obeyed_now r c =
        elim (law.obeyed r c) [
          | inl low ↦ elim (still r) [
            | inl e ↦ let f = falls r.target in inl (omega (arith, f, low, e))
            | inr waits ↦ inr waits
          ]
          | inr waits ↦ elim (waits_still r waits) [
            | inl still_waits ↦ inr (waits_more r still_waits)
            | inr e ↦ subst Obeyed (sym e) (inl itself_obeyed)
          ]
        ]

    given_now : (p : ℕ) → p < t.parts → height_at new p ≤ t.nodes → (p ≡ t.bottom) ⊎ IsGiven t.nodes t.rules.items new p
    given_now p inside known =
        elim (cases_eq p rule.target) [
          | inl e ↦
              let a = at_target p e in let l = falls rule.left in let r = falls rule.right in
              inr (record { rule = rule; among = among; target = sym e; needs = omega (arith, a, l, r, low_left, low_right) })
          | inr d ↦
              let a = there p d in
              elim (law.given p inside (omega (arith, a, known))) [
                | inl g ↦ inl g
                | inr g ↦
                    let f = need_falls g.rule in let n = g.needs in
                    inr (record { rule = g.rule; among = g.among; target = g.target; needs = omega (arith, f, n, a) })
              ]
        ]

    low_now : (p : ℕ) → height_at new p ≤ t.nodes → height_at new p ≤ h + rise t.nodes p
    low_now p known =
        elim (cases_eq p rule.target) [
          | inl e ↦ let a = at_target p e in let b = ap (rise t.nodes) e in omega (arith, a, b)
          | inr d ↦ let a = there p d in let l = law.low p (omega (arith, a, known)) in omega (arith, a, l)
        ]

    ahead_now : (p : ℕ) → height_at new p ≤ t.nodes → h < height_at new p → Contains ms p
    ahead_now p known high =
        elim (cases_eq p rule.target) [
          | inl e ↦
              let a = at_target p e in let b = rise_low t.nodes rule.target in
              subst (Contains ms) (sym e) (to_next (omega (arith, a, b, high)))
          | inr d ↦
              let a = there p d in more_next p (law.ahead p (omega (arith, a, known)) (omega (arith, a, high)))
        ]

    current_now : (p : ℕ) → Contains us p → (p < t.parts) × (height_at new p ≡ h)
    current_now p c =
        elim (old_current p c) [
          | inl old ↦
              let l = law.in_round p old in let e = l.1 in let r = law.room in
              (l.0, kept p (omega (arith, e, r)) ∙ e)
          | inr o ↦
              let a = at_target p o.0 in let e = o.1 in let f = fits.target in let g = o.0 in
              (omega (arith, f, g), omega (arith, a, e))
        ]

    next_now : (p : ℕ) → Contains ms p → (p < t.parts) × (height_at new p ≡ suc h)
    next_now p c =
        elim (old_next p c) [
          | inl old ↦
              let l = law.in_next p old in let e = l.1 in let r = law.room in let some = old.1 in
              (l.0, kept p (omega (arith, e, r, some)) ∙ e)
          | inr o ↦
              let a = at_target p o.0 in let e = o.1 in let f = fits.target in let g = o.0 in
              (omega (arith, f, g), omega (arith, a, e))
        ]

    pub settles : IsWork t new us ms h rest
    settles =
        record {
          long = length-set hs rule.target (h + w) ∙ law.long;
          bounded = λ p. let f = falls p in let b = law.bounded p in omega (arith, f, b);
          bottom = (let g = law.bottom in kept t.bottom (omega (arith, g)) ∙ g);
          given = given_now;
          obeyed = obeyed_now;
          low = low_now;
          ahead = ahead_now;
          in_round = current_now;
          in_next = next_now;
          room =
              (let r = law.room in let u = unset_set t.nodes t.nodes hs rule.target (h + w) within none room_one in
              omega (arith, r, u, longer));
        }

    pub lighter : 3 * unset t.nodes t.parts new + 3 ≡ 3 * unset t.nodes t.parts hs
    lighter =
        let u = unset_set t.nodes t.parts hs rule.target (h + w) within none room_one in
        let r = rise_one t.parts rule.target fits.target in omega (arith, u, r)
