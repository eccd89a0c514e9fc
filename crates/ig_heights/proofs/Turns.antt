-- How the work list begins, goes on from part to part, and ends.
use Rattle.std.proofs.Common.{◌≡◌, ◌⊎◌, inl, inr, ℕ, zero, suc, ◌+◌, ◌<◌, ◌≤◌, List, [], ◌∷◌, ◌++◌, Option, Some, None, length, set, replicate, Contains, refl, sym, ap, ◌∙◌, subst, arith, length-set}
use Rattle.std.proofs.lemmas.List.{get_or-replicate, length-replicate, get_or-set_same}
use Rattle.std.proofs.lemmas.List.Elements.{Contains-append_left, Contains-push, Contains-push_cases}
use Rattle.std.proofs.lemmas.Option.{same_Some}
use Rattle.std.proofs.lemmas.Bool.{cases_eq}
use Rattle.std.specs.Prelude.{MatchOption}
use Rattle.std.specs.Option.{option_to_list}
use Rattle.ig_text.proofs.Emptiness.{emptied}
use Rattle.ig_text.proofs.Lists.{none_in_nil}
use Rattle.ig_text.proofs.Orders.{le_or_lt}
use Rattle.ig_heights.specs.Rules.{height_at, need, AreLeast}
use Rattle.ig_heights.specs.Uses.{HasSource}
use Rattle.ig_heights.specs.Work.{unset, Waits, IsWork, Works, NoRule, Takes, Pops, weight}
use Rattle.ig_heights.specs.Work as work
use Rattle.ig_heights.specs.declared.rule.Rule.{Rule}
use Rattle.ig_heights.specs.declared.rule.Table.{Table}
use Rattle.ig_heights.specs.declared.work.Work.{Work}
use Rattle.ig_heights.proofs.Numbers.{rise_cases, rise_low, set_there, unset_low, unset_some, long_push}

none_some : {n : ℕ} → None ≡ Some n → ⊥
none_some e = cc

module _ (t : Table) where
  -- at the beginning the bottom alone has a height
  module _ (hs : List ℕ) (is : hs ≡ set (replicate t.parts (suc t.nodes)) t.bottom 0) where
    within : t.bottom < length (replicate t.parts (suc t.nodes))
    within = let l = length-replicate t.parts (suc t.nodes) in let g = t.there in omega (arith, l, g)

    at_bottom : height_at hs t.bottom ≡ 0
    at_bottom = ap (λ (z : List ℕ). height_at z t.bottom) is ∙ get_or-set_same (replicate t.parts (suc t.nodes)) t.bottom 0 0 within

    elsewhere : (p : ℕ) → (p ≡ t.bottom → ⊥) → p < t.parts → height_at hs p ≡ suc t.nodes
    elsewhere p other inside =
        ap (λ (z : List ℕ). height_at z p) is ∙ set_there (replicate t.parts (suc t.nodes)) t.bottom p 0 0 other
        ∙ get_or-replicate t.parts p (suc t.nodes) 0 inside

    long_first : length hs ≡ t.parts
    long_first = ap length is ∙ length-set (replicate t.parts (suc t.nodes)) t.bottom 0 ∙ length-replicate t.parts (suc t.nodes)

    beyond : (hs : List ℕ) (p : ℕ) → length hs ≤ p → height_at hs p ≡ 0
    beyond [] zero past = refl
    beyond [] (suc p) past = refl
    beyond (x ∷ hs) zero past = absurd (omega (arith, past))
    beyond (x ∷ hs) (suc p) past = beyond hs p (omega (arith, past))

    -- the bottom, a part without height, or none of the parts
    data Kind (p : ℕ) : Type 0 where
      is_bottom : p ≡ t.bottom → height_at hs p ≡ 0 → Kind p
      is_blank : height_at hs p ≡ suc t.nodes → Kind p
      is_absent : t.parts ≤ p → height_at hs p ≡ 0 → Kind p

    kind : (p : ℕ) → Kind p
    kind p =
        elim (cases_eq p t.bottom) [
          | inl e ↦ is_bottom e (ap (height_at hs) e ∙ at_bottom)
          | inr d ↦ elim (le_or_lt t.parts p) [
            | inl past ↦ let l = long_first in is_absent past (beyond hs p (omega (arith, past, l)))
            | inr inside ↦ is_blank (elsewhere p d inside)
          ]
        ]

    obeyed_first : (r : Rule) → Contains t.rules.items r →
        (height_at hs r.target ≤ need t.nodes hs r) ⊎ Waits (t.bottom ∷ []) [] NoRule r
    obeyed_first r c = elim (kind r.left) [
      | is_bottom e h ↦ inr (work.left_current (zero, omega arith, sym e))
      | is_blank h ↦ elim (kind r.target) [
        | is_bottom e g ↦ inl (omega (arith, g))
        | is_blank g ↦ inl (omega (arith, g, h))
        | is_absent past g ↦ inl (omega (arith, g))
      ]
      | is_absent past h ↦ let f = (t.fit r c).left in absurd (omega (arith, past, f))
    ]

    low_first : (p : ℕ) → height_at hs p ≤ t.nodes → height_at hs p ≡ 0
    low_first p low = elim (kind p) [ is_bottom e h ↦ h | is_blank h ↦ absurd (omega (arith, h, low)) | is_absent past h ↦ h ]

    pub begins : IsWork t hs (t.bottom ∷ []) [] 0 NoRule
    begins =
        record {
          long = long_first;
          bounded = λ p. elim (kind p) [ is_bottom e h ↦ omega (arith, h) | is_blank h ↦ omega (arith, h) | is_absent past h ↦ omega (arith, h) ];
          bottom = at_bottom;
          given = λ p inside low. elim (kind p) [
            | is_bottom e h ↦ inl e
            | is_blank h ↦ absurd (omega (arith, h, low))
            | is_absent past h ↦ absurd (omega (arith, past, inside))
          ];
          obeyed = obeyed_first;
          low = λ p low. let e = low_first p low in omega (arith, e);
          ahead = λ p low high. let e = low_first p low in absurd (omega (arith, e, high));
          in_round = λ p c. in_bottom p c;
          in_next = λ p c. absurd (none_in_nil p c);
          room = (let u = unset_low t.nodes t.nodes hs in omega (arith, u));
        }
      where
        in_bottom : (p : ℕ) → Contains (t.bottom ∷ []) p → (p < t.parts) × (height_at hs p ≡ 0)
        in_bottom p (zero, within, same) = let g = t.there in (omega (arith, g, same), ap (height_at hs) (sym same) ∙ at_bottom)
        in_bottom p (suc k, within, same) = absurd (omega (arith, within))

  -- the next round
  turns : (hs ns : List ℕ) (h : ℕ) → IsWork t hs [] ns h NoRule → 1 ≤ length ns → IsWork t hs ns [] (suc h) NoRule
  turns hs ns h law some =
      record {
        long = law.long;
        bounded = law.bounded;
        bottom = law.bottom;
        given = law.given;
        obeyed = λ r c. elim (law.obeyed r c) [ inl low ↦ inl low | inr waits ↦ inr (moved r waits) ];
        low = λ p known. let l = law.low p known in omega (arith, l);
        ahead = λ p known high. let l = law.low p known in let r = rise_low t.nodes p in absurd (omega (arith, l, r, high));
        in_round = λ p c. law.in_next p c;
        in_next = λ p c. absurd (none_in_nil p c);
        room = (let r = law.room in omega (arith, r, some));
      }
    where
      moved : (r : Rule) → Waits [] ns NoRule r → Waits ns [] NoRule r
      moved r (work.left_current c) = absurd (none_in_nil r.left c)
      moved r (work.right_current c) = absurd (none_in_nil r.right c)
      moved r (work.left_next c) = work.left_current c
      moved r (work.right_next c) = work.right_current c
      moved r (work.itself never) = absurd never

  -- a part is taken, and the rules that use it are looked at next
  takes : (hs cs ns : List ℕ) (h part : ℕ) → IsWork t hs (cs ++ part ∷ []) ns h NoRule → IsWork t hs cs ns h (HasSource part)
  takes hs cs ns h part law =
      record {
        long = law.long;
        bounded = law.bounded;
        bottom = law.bottom;
        given = law.given;
        obeyed = λ r c. elim (law.obeyed r c) [ inl low ↦ inl low | inr waits ↦ inr (moved r waits) ];
        low = law.low;
        ahead = law.ahead;
        in_round = λ p c. law.in_round p (Contains-append_left cs (part ∷ []) p c);
        in_next = law.in_next;
        room = law.room;
      }
    where
      moved : (r : Rule) → Waits (cs ++ part ∷ []) ns NoRule r → Waits cs ns (HasSource part) r
      moved r (work.left_current c) =
          elim (Contains-push_cases cs part r.left c) [ inl old ↦ work.left_current old | inr e ↦ work.itself (inl (sym e)) ]
      moved r (work.right_current c) =
          elim (Contains-push_cases cs part r.right c) [ inl old ↦ work.right_current old | inr e ↦ work.itself (inr (sym e)) ]
      moved r (work.left_next c) = work.left_next c
      moved r (work.right_next c) = work.right_next c
      moved r (work.itself never) = absurd never

  -- where nothing waits the heights are the least ones
  ends : (hs : List ℕ) (h : ℕ) → IsWork t hs [] [] h NoRule → AreLeast t hs
  ends hs h law =
      record {
        long = law.long;
        bounded = law.bounded;
        bottom = law.bottom;
        given = law.given;
        obeyed = obeyed_now;
        made = λ r c left right.
            elim (le_or_lt (height_at hs r.target) t.nodes) [
              | inl known ↦ known
              | inr none ↦
                  let o = obeyed_now r c in let l = low_now r.left left in let s = low_now r.right right in let m = law.room in
                  let f = (t.fit r c).target in let n = law.long in
                  elim (rise_cases t.nodes r.target) [
                    | inl node ↦
                        let e = node.1 in let less = node.0 in
                        let u = unset_some t.nodes t.nodes hs r.target less (omega (arith, f, n)) none in
                        omega (arith, o, l, s, m, e, u)
                    | inr item ↦ let e = item.1 in omega (arith, o, l, s, m, e)
                  ]
            ];
      }
    where
      no_wait : (r : Rule) → Waits [] [] NoRule r → ⊥
      no_wait r (work.left_current c) = none_in_nil r.left c
      no_wait r (work.right_current c) = none_in_nil r.right c
      no_wait r (work.left_next c) = none_in_nil r.left c
      no_wait r (work.right_next c) = none_in_nil r.right c
      no_wait r (work.itself never) = never

      obeyed_now : (r : Rule) → Contains t.rules.items r → height_at hs r.target ≤ need t.nodes hs r
      obeyed_now r c = elim (law.obeyed r c) [ inl low ↦ low | inr waits ↦ absurd (no_wait r waits) ]

      low_now : (p : ℕ) → height_at hs p ≤ t.nodes → height_at hs p ≤ h
      low_now p known =
          elim (le_or_lt (height_at hs p) h) [ inl low ↦ low | inr high ↦ absurd (none_in_nil p (law.ahead p known high)) ]

  -- what the taking of a part hands on
  pub record Taken (b a : Work) (part : ℕ) : Type 0 where
    pub works : Works t a (HasSource part)
    pub round : height_at a.heights.items part ≡ a.height
    pub less : weight t a < weight t b
    pub inside : part < t.parts

  handed : (b a : Work) (part : ℕ) (law : IsWork t a.heights.items (a.current.items ++ part ∷ []) a.next.items a.height NoRule) →
      weight t a < weight t b → Taken b a part
  handed b a part law less =
      let l = law.in_round part (Contains-push a.current.items part) in
      record {
        works = takes a.heights.items a.current.items a.next.items a.height part law;
        round = l.1;
        less = less;
        inside = l.0;
      }

  pub taken : (b a : Work) (part : ℕ) (some : Option ℕ) → some ≡ Some part → Works t b NoRule → Takes b a some → Taken b a part
  taken b a part _ is law (work.here other current heights next same) =
      let p : other ≡ part = same_Some other part is in
      let cur : b.current.items ≡ a.current.items ++ part ∷ [] = current ∙ ap (λ (n : ℕ). a.current.items ++ n ∷ []) p in
      let len = ap length cur ∙ long_push a.current.items part in
      let u = ap (unset t.nodes t.parts) heights in let n = ap length next in
      handed b a part
      (subst (λ (z : ℕ). IsWork t a.heights.items (a.current.items ++ part ∷ []) a.next.items z NoRule) (sym same)
      (subst (λ (z : List ℕ). IsWork t a.heights.items (a.current.items ++ part ∷ []) z b.height NoRule) (sym next)
      (subst (λ (z : List ℕ). IsWork t z (a.current.items ++ part ∷ []) b.next.items b.height NoRule) (sym heights)
      (subst (λ (z : List ℕ). IsWork t b.heights.items z b.next.items b.height NoRule) cur law))))
      (omega (arith, len, u, n))
  taken b a part _ is law (work.turn other current next heights empty same) =
      let p : other ≡ part = same_Some other part is in
      let cur : b.next.items ≡ a.current.items ++ part ∷ [] = next ∙ ap (λ (n : ℕ). a.current.items ++ n ∷ []) p in
      let len = ap length cur ∙ long_push a.current.items part in
      let u = ap (unset t.nodes t.parts) heights in let n = ap length empty in
      handed b a part
      (subst (λ (z : ℕ). IsWork t a.heights.items (a.current.items ++ part ∷ []) a.next.items z NoRule) (sym same)
      (subst (λ (z : List ℕ). IsWork t a.heights.items (a.current.items ++ part ∷ []) z (suc b.height) NoRule) (sym empty)
      (subst (λ (z : List ℕ). IsWork t z (a.current.items ++ part ∷ []) [] (suc b.height) NoRule) (sym heights)
      (subst (λ (z : List ℕ). IsWork t b.heights.items z [] (suc b.height) NoRule) cur
      (turns b.heights.items b.next.items b.height
      (subst (λ (z : List ℕ). IsWork t b.heights.items z b.next.items b.height NoRule) current law) (omega (arith, len)))))))
      (omega (arith, len, u, n))
  taken b a part _ is law (work.rest current next heights) = absurd (none_some is)

  pub ended : (b a : Work) (none : Option ℕ) → none ≡ None → Works t b NoRule → Takes b a none → AreLeast t a.heights.items
  ended b a _ is law (work.here part current heights next same) = absurd (none_some (sym is))
  ended b a _ is law (work.turn part current next heights empty same) = absurd (none_some (sym is))
  ended b a _ is law (work.rest current next heights) =
      subst (AreLeast t) (sym heights)
      (ends b.heights.items b.height
      (subst (λ (z : List ℕ). IsWork t b.heights.items [] z b.height NoRule) next
      (subst (λ (z : List ℕ). IsWork t b.heights.items z b.next.items b.height NoRule) current law)))

  pub begun_code : (heights current next : List ℕ) → heights ≡ set (replicate t.parts (suc t.nodes)) t.bottom 0 →
      current ≡ t.bottom ∷ [] → next ≡ [] → IsWork t heights current next 0 NoRule
  begun_code heights current next heights_are current_is next_is =
      subst (λ (z : List ℕ). IsWork t heights current z 0 NoRule) (sym next_is)
      (subst (λ (z : List ℕ). IsWork t heights z [] 0 NoRule) (sym current_is) (begins heights heights_are))

pub pops : (xs ys : List ℕ) (r : Option ℕ) (n m : ℕ) → n ≡ length xs → m ≡ length ys → xs ≡ ys ++ option_to_list r →
    MatchOption r ((n ≡ 0) × (m ≡ 0)) (λ _. m + 1 ≡ n) → Pops xs ys r
pops xs ys None n m long short is cases = work.none (emptied xs n long cases.0) (emptied ys m short cases.1)
pops xs ys (Some x) n m long short is cases = work.last x is

pub here_pops : (b a : Work) (part : ℕ) → Pops b.current.items a.current.items (Some part) →
    a.heights.items ≡ b.heights.items → a.next.items ≡ b.next.items → a.height ≡ b.height → Takes b a (Some part)
here_pops b a _ (work.last part is) heights next height = work.here part is heights next height

pub late_pops : (b a : Work) (left mid : List ℕ) (r : Option ℕ) → Pops b.current.items left None → mid ≡ b.next.items →
    Pops mid a.current.items r → a.heights.items ≡ b.heights.items → a.next.items ≡ left → a.height ≡ suc b.height →
    Takes b a r
late_pops b a left mid _ (work.none current empty) same (work.last part is) heights next height =
    work.turn part current (sym same ∙ is) heights (next ∙ empty) height
late_pops b a left mid _ (work.none current empty) same (work.none is none) heights next height =
    work.rest current (sym same ∙ is) heights
