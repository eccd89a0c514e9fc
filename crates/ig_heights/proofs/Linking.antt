-- Chains of links, as they grow.
use Rattle.std.proofs.Common.{◌≡◌, ◌⊎◌, inl, inr, ℕ, zero, suc, ◌+◌, ◌<◌, ◌≤◌, List, [], ◌∷◌, ◌++◌, Some, length, get_or, set, take, replicate, slice_get, Contains, refl, sym, ap, ◌∙◌, subst, arith, length-set}
use Rattle.std.proofs.lemmas.List.{get_or-replicate, length-replicate, take_all, get_or-set_same}
use Rattle.std.proofs.lemmas.Option.{same_Some, slice_get_within}
use Rattle.std.proofs.lemmas.List.Elements.{Contains-append_left, Contains-push, Contains-push_cases}
use Rattle.std.proofs.lemmas.Bool.{cases_eq}
use Rattle.ig_text.proofs.Lists.{at_from_contains, contains_from_at, none_in_nil, in_rest, left_at}
use Rattle.ig_text.proofs.Orders.{le_or_lt}
use Rattle.ig_heights.specs.Fits.{FitsRule, FitAll}
use Rattle.ig_heights.specs.Table.{Chain, IsSource, NeedsAll, IsWholeTable, AreLinks, AreLasts, Links, Linked}
use Rattle.ig_heights.specs.Table as table
use Rattle.ig_heights.specs.declared.rule.Rule.{Rule}
use Rattle.ig_heights.specs.declared.rule.Table.{Table}
use Rattle.ig_heights.proofs.Numbers.{set_there, long_push}
use Rattle.ig_heights.proofs.Using.{read_at, taken_only, taken_all, taken_here}

abbrev no_links : List Rule
no_links = []

pub at_push : {X : Type 0} (xs : List X) (y : X) (k : ℕ) (x : X) → slice_get (xs ++ y ∷ []) k ≡ Some x →
    (slice_get xs k ≡ Some x) ⊎ ((k ≡ length xs) × (x ≡ y))
at_push [] y zero x e = inr (refl, sym (same_Some y x e))
at_push [] y (suc k) x e = cc
at_push (z ∷ xs) y zero x e = inl e
at_push (z ∷ xs) y (suc k) x e =
    elim (at_push xs y k x e) [ inl old ↦ inl old | inr new ↦ inr (ap suc new.0, new.1) ]

chain_more : (rules more : List Rule) → ((r : Rule) → Contains rules r → Contains more r) → {bottom c : ℕ} {ps : List ℕ} →
    Chain rules bottom c ps → Chain more bottom c ps
chain_more rules more all (table.empty c is) = table.empty c is
chain_more rules more all (table.link c last part others rule chain) =
    table.link c last part others (all _ rule) (chain_more rules more all chain)

-- one link more
module _ (bottom end part : ℕ) (before after : List Rule) (new : ℕ) (l : Links bottom end part before after new) where
  abbrev one : Rule
  one = record { target = new; left = end; right = part }

  pub link_more : (r : Rule) → Contains before r → Contains after r
  link_more r c = subst (λ (z : List Rule). Contains z r) (sym l.after_is) (Contains-append_left before (one ∷ []) r c)

  pub link_here : Contains after one
  link_here = subst (λ (z : List Rule). Contains z one) (sym l.after_is) (Contains-push before one)

  pub link_cases : (r : Rule) → Contains after r → Contains before r ⊎ (r ≡ one)
  link_cases r c =
      elim (Contains-push_cases before one r (subst (λ (z : List Rule). Contains z r) l.after_is c)) [ inl old ↦ inl old | inr e ↦ inr (sym e) ]

  pub link_at : (k : ℕ) (r : Rule) → slice_get after k ≡ Some r → (slice_get before k ≡ Some r) ⊎ ((k ≡ length before) × (r ≡ one))
  link_at k r e = at_push before one k r (ap (λ (z : List Rule). slice_get z k) (sym l.after_is) ∙ e)

  pub link_long : length after ≡ suc (length before)
  link_long = ap length l.after_is ∙ long_push before one

  pub link_targets : ((k : ℕ) (r : Rule) → slice_get before k ≡ Some r → r.target ≡ suc bottom + k) → (k : ℕ) (r : Rule) →
      slice_get after k ≡ Some r → r.target ≡ suc bottom + k
  link_targets old k r e =
      elim (link_at k r e) [
        | inl o ↦ old k r o
        | inr n ↦ let t = ap (λ (z : Rule). z.target) n.1 in let w = l.new_is in let p = n.0 in omega (arith, t, w, p)
      ]

  pub link_fits : ((r : Rule) → Contains before r → (r.left < suc bottom + length before) × (r.right ≤ bottom)) →
      end < suc bottom + length before → part ≤ bottom → (r : Rule) → Contains after r →
      (r.left < suc bottom + length after) × (r.right ≤ bottom)
  link_fits old end_low part_low r c =
      let n = link_long in
      elim (link_cases r c) [
        | inl o ↦ let f = old r o in let g = f.0 in (omega (arith, g, n), f.1)
        | inr e ↦
            let a = ap (λ (z : Rule). z.left) e in let b = ap (λ (z : Rule). z.right) e in
            (omega (arith, a, end_low, n), omega (arith, b, part_low))
      ]

module _ (bottom : ℕ) (rules more : List Rule) (rule : Rule) (only : (r : Rule) → Contains more r → Contains rules r ⊎ (r ≡ rule))
    (all : (r : Rule) → Contains rules r → Contains more r) (here : Contains more rule) (left_low : rule.left ≤ bottom)
    (right_low : rule.right ≤ bottom) where
  source_more : (q p : ℕ) → IsSource rules q p → IsSource more q p
  source_more q p s = record { rule = s.rule; among = all s.rule s.among; target = s.target; is = s.is }

  source_cases : (q p : ℕ) → IsSource more q p → IsSource rules q p ⊎ ((rule.target ≡ q) × ((p ≡ rule.left) ⊎ (p ≡ rule.right)))
  source_cases q p s =
      elim (only s.rule s.among) [
        | inl old ↦ inl (record { rule = s.rule; among = old; target = s.target; is = s.is })
        | inr e ↦ inr (
          ap (λ (z : Rule). z.target) (sym e) ∙ s.target,
          elim s.is [
            | inl a ↦ inl (a ∙ ap (λ (z : Rule). z.left) e)
            | inr b ↦ inr (b ∙ ap (λ (z : Rule). z.right) e)
          ],
        )
      ]

  -- a chain that isn't the target's
  others_need : (links longer : List Rule) (c q : ℕ) → ((r : Rule) → Contains links r → Contains longer r) → (q ≡ rule.target → ⊥) →
      NeedsAll links bottom c (IsSource rules q) → NeedsAll longer bottom c (IsSource more q)
  others_need links longer c q kept other n =
      record {
        needs = n.needs;
        chain = chain_more links longer kept n.chain;
        all = λ p s. elim (source_cases q p s) [ inl old ↦ n.all p old | inr new ↦ absurd (other (sym new.0)) ];
        only = λ p among. elim (n.only p among) [ inl e ↦ inl e | inr s ↦ inr (source_more q p s) ];
      }

  pub links_next : (links longer : List Rule) (last ends : List ℕ) → AreLinks bottom rules links last →
      Linked bottom rule links last longer ends → AreLinks bottom more longer ends
  links_next links longer last ends are (table.skip high same_links same_last) =
      subst (λ (z : List Rule). AreLinks bottom more z ends) (sym same_links)
      (subst (λ (z : List ℕ). AreLinks bottom more links z) (sym same_last)
      (record {
        long = are.long;
        targets = are.targets;
        fits = are.fits;
        ends = are.ends;
        needs = λ q low. others_need links links (get_or last q 0) q (λ r c. c) (λ e. omega (arith, e, high, low)) (are.needs q low);
      }))
  links_next links longer last ends are (table.both middle new half low first second is) =
      record {
        long = ap length is ∙ length-set last rule.target new ∙ are.long;
        targets =
            link_targets bottom middle rule.right half longer new second
            (link_targets bottom (get_or last rule.target 0) rule.left links half middle first are.targets);
        fits =
            link_fits bottom middle rule.right half longer new second
            (link_fits bottom (get_or last rule.target 0) rule.left links half middle first are.fits (are.ends rule.target low) left_low)
            (let w = first.new_is in let n = long_half in omega (arith, w, n)) right_low;
        ends = ends_now;
        needs = needs_now;
      }
    where
      long_half : length half ≡ suc (length links)
      long_half = link_long bottom (get_or last rule.target 0) rule.left links half middle first

      long_longer : length longer ≡ suc (length half)
      long_longer = link_long bottom middle rule.right half longer new second

      kept : (r : Rule) → Contains links r → Contains longer r
      kept r c =
          link_more bottom middle rule.right half longer new second r
          (link_more bottom (get_or last rule.target 0) rule.left links half middle first r c)

      within : rule.target < length last
      within = let l = are.long in omega (arith, l, low)

      at_target : (q : ℕ) → q ≡ rule.target → get_or ends q 0 ≡ new
      at_target q e = ap (λ (z : List ℕ). get_or z q 0) is ∙ ap (λ (n : ℕ). get_or (set last rule.target new) n 0) e ∙ get_or-set_same last rule.target new 0 within

      at_other : (q : ℕ) → (q ≡ rule.target → ⊥) → get_or ends q 0 ≡ get_or last q 0
      at_other q d = ap (λ (z : List ℕ). get_or z q 0) is ∙ set_there last rule.target q new 0 d

      ends_now : (q : ℕ) → q < bottom → get_or ends q 0 < suc bottom + length longer
      ends_now q inside =
          let a = long_half in let b = long_longer in
          elim (cases_eq q rule.target) [
            | inl e ↦ let h = at_target q e in let w = second.new_is in omega (arith, a, b, h, w)
            | inr d ↦ let h = at_other q d in let w = are.ends q inside in omega (arith, a, b, h, w)
          ]

      old : NeedsAll links bottom (get_or last rule.target 0) (IsSource rules rule.target)
      old = are.needs rule.target low

      target_needs : NeedsAll longer bottom new (IsSource more rule.target)
      target_needs =
          record {
            needs = rule.right ∷ rule.left ∷ old.needs;
            chain =
                table.link new middle rule.right (rule.left ∷ old.needs) (link_here bottom middle rule.right half longer new second)
                (table.link middle (get_or last rule.target 0) rule.left old.needs
                (link_more bottom middle rule.right half longer new second _
                (link_here bottom (get_or last rule.target 0) rule.left links half middle first))
                (chain_more links longer kept old.chain));
            all = all_now;
            only = only_now;
          }
        where
          behind : (x y p : ℕ) (ps : List ℕ) → Contains ps p → Contains (x ∷ y ∷ ps) p
          behind x y p ps c = let less = c.1 in (suc (suc c.0), omega (arith, less), c.2)

          all_now : (p : ℕ) → IsSource more rule.target p → Contains (rule.right ∷ rule.left ∷ old.needs) p
          all_now p s =
              elim (source_cases rule.target p s) [
                | inl o ↦ behind rule.right rule.left p old.needs (old.all p o)
                | inr n ↦ elim n.1 [
                  | inl e ↦ (suc zero, omega arith, sym e)
                  | inr e ↦ (zero, omega arith, sym e)
                ]
              ]

          only_now : (p : ℕ) → Contains (rule.right ∷ rule.left ∷ old.needs) p → (p ≡ bottom) ⊎ IsSource more rule.target p
          only_now p c =
              elim (in_rest rule.right (rule.left ∷ old.needs) p c) [
                | inl e ↦ inr (record { rule = rule; among = here; target = refl; is = inr (sym e) })
                | inr d ↦ elim (in_rest rule.left old.needs p d) [
                  | inl e ↦ inr (record { rule = rule; among = here; target = refl; is = inl (sym e) })
                  | inr o ↦ elim (old.only p o) [ inl e ↦ inl e | inr s ↦ inr (source_more rule.target p s) ]
                ]
              ]

      needs_now : (q : ℕ) → q < bottom → NeedsAll longer bottom (get_or ends q 0) (IsSource more q)
      needs_now q inside =
          elim (cases_eq q rule.target) [
            | inl e ↦
                subst (λ (n : ℕ). NeedsAll longer bottom n (IsSource more q)) (sym (at_target q e))
                (subst (λ (n : ℕ). NeedsAll longer bottom new (IsSource more n)) (sym e) target_needs)
            | inr d ↦
                subst (λ (n : ℕ). NeedsAll longer bottom n (IsSource more q)) (sym (at_other q d))
                (others_need links longer (get_or last q 0) q kept d (are.needs q inside))
          ]

pub links_none : (bottom : ℕ) (rules links : List Rule) (last : List ℕ) → links ≡ [] → last ≡ replicate bottom bottom →
    AreLinks bottom (take 0 rules) links last
links_none bottom rules links last none is =
    subst (λ (z : List Rule). AreLinks bottom (take 0 rules) z last) (sym none)
    (record {
      long = ap length is ∙ length-replicate bottom bottom;
      targets = λ j r e. absurd (no_link j r e);
      fits = λ r c. absurd (none_in_nil r c);
      ends = λ q low. let e = at_first q low in omega (arith, e);
      needs = λ q low. record {
        needs = [];
        chain = table.empty (get_or last q 0) (at_first q low);
        all = λ p s. absurd (none_in_nil s.rule s.among);
        only = λ p c. absurd (none_in_nil p c);
      };
    })
  where
    at_first : (q : ℕ) → q < bottom → get_or last q 0 ≡ bottom
    at_first q low = ap (λ (z : List ℕ). get_or z q 0) is ∙ get_or-replicate bottom q bottom 0 low

    no_link : (j : ℕ) (r : Rule) → slice_get no_links j ≡ Some r → ⊥
    no_link j r e = cc

module _ (t : Table) (parts : t.parts ≡ suc t.bottom) (rs : List Rule) (same : rs ≡ t.rules.items) where
  pub links_step : (i : ℕ) (d : Rule) (links longer : List Rule) (last ends : List ℕ) → i < length rs →
      AreLinks t.bottom (take i t.rules.items) links last → Linked t.bottom (get_or rs i d) links last longer ends →
      AreLinks t.bottom (take (i + 1) t.rules.items) longer ends
  links_step i d links longer last ends less are linked =
      let f = t.fit (get_or rs i d) (subst (λ (z : List Rule). Contains z (get_or rs i d)) same (i, less, read_at rs i d less)) in
      let a = f.left in let b = f.right in
      subst (λ (z : List Rule). AreLinks t.bottom (take (i + 1) z) longer ends) same
      (links_next t.bottom (take i rs) (take (i + 1) rs) (get_or rs i d) (taken_only rs i d less) (taken_all rs i d less) (taken_here rs i d less)
      (omega (arith, a, parts)) (omega (arith, b, parts)) links longer last ends
      (subst (λ (z : List Rule). AreLinks t.bottom (take i z) links last) (sym same) are) linked)

  pub links_all : (n : ℕ) (links : List Rule) (last : List ℕ) → length rs ≤ n → AreLinks t.bottom (take n t.rules.items) links last →
      AreLinks t.bottom t.rules.items links last
  links_all n links last past are =
      let l = ap length same in
      subst (λ (z : List Rule). AreLinks t.bottom z links last) (take_all n t.rules.items (omega (arith, past, l))) are

module _ (bottom : ℕ) (links : List Rule) (last : List ℕ) where
  abbrev final : ℕ → Rule
  final q = record { target = q; left = get_or last q 0; right = bottom }

  pub lasts_none : AreLasts bottom links links last 0
  lasts_none =
      record {
        long = omega arith;
        before = λ j r e. e;
        lasts = λ j r e. inl e;
        here = λ q low. absurd (omega (arith, low));
      }

  pub lasts_next : (whole more : List Rule) (q m : ℕ) → m ≡ q + 1 → AreLasts bottom links whole last q → more ≡ whole ++ final q ∷ [] →
      AreLasts bottom links more last m
  lasts_next whole more q m next are is =
      record {
        long = (let l = are.long in let n = ap length is ∙ long_push whole (final q) in omega (arith, l, n, next));
        before = λ j r e. ap (λ (z : List Rule). slice_get z j) is ∙ left_at whole (final q ∷ []) j r (are.before j r e);
        lasts = lasts_now;
        here = here_now;
      }
    where
      lasts_now : (j : ℕ) (r : Rule) → slice_get more j ≡ Some r →
          slice_get links j ≡ Some r ⊎ ((p : ℕ) × (j ≡ length links + p) × (p < m) × (r ≡ record { target = p; left = get_or last p 0; right = bottom }))
      lasts_now j r e =
          elim (at_push whole (final q) j r (ap (λ (z : List Rule). slice_get z j) (sym is) ∙ e)) [
            | inl old ↦ elim (are.lasts j r old) [
              | inl link ↦ inl link
              | inr f ↦ let low = f.2 in inr (f.0, f.1, omega (arith, low, next), f.3)
            ]
            | inr new ↦ let l = are.long in let n = new.0 in inr (q, omega (arith, l, n), omega (arith, next), new.1)
          ]

      here_now : (p : ℕ) → p < m → Contains more (record { target = p; left = get_or last p 0; right = bottom })
      here_now p low =
          elim (cases_eq p q) [
            | inl e ↦ subst (λ (n : ℕ). Contains more (final n)) (sym e) (subst (λ (z : List Rule). Contains z (final q)) (sym is) (Contains-push whole (final q)))
            | inr d ↦ subst (λ (z : List Rule). Contains z (final p)) (sym is)
                (Contains-append_left whole (final q ∷ []) (final p) (are.here p (below d)))
          ]
        where
          below : (p ≡ q → ⊥) → p < q
          below d = elim (le_or_lt q p) [ inr less ↦ less | inl past ↦ absurd (d (omega (arith, past, low, next))) ]

-- the whole table
module _ (l : Table) (links : List Rule) (last : List ℕ) (are : AreLinks l.bottom l.rules.items links last) (rs : List Rule)
    (lasts : AreLasts l.bottom links rs last (length last)) where
  data Kind (j : ℕ) (r : Rule) : Type 0 where
    a_link : slice_get links j ≡ Some r → r.target ≡ suc l.bottom + j → Kind j r
    a_last : (q : ℕ) → j ≡ length links + q → q < l.bottom → r ≡ record { target = q; left = get_or last q 0; right = l.bottom } → Kind j r

  kind : (j : ℕ) (r : Rule) → slice_get rs j ≡ Some r → Kind j r
  kind j r e =
      elim (lasts.lasts j r e) [
        | inl link ↦ a_link link (are.targets j r link)
        | inr f ↦ let n = are.long in let low = f.2 in a_last f.0 f.1 (omega (arith, low, n)) f.3
      ]

  distinct_by : (i j : ℕ) (r s : Rule) → Kind i r → Kind j s → r.target ≡ s.target → i ≡ j
  distinct_by i j r s (a_link at_i a) (a_link at_j b) e = omega (arith, a, b, e)
  distinct_by i j r s (a_link at_i a) (a_last q at_j low is) e =
      let t = ap (λ (z : Rule). z.target) is in absurd (omega (arith, a, t, e, low))
  distinct_by i j r s (a_last q at_i low is) (a_link at_j b) e =
      let t = ap (λ (z : Rule). z.target) is in absurd (omega (arith, b, t, e, low))
  distinct_by i j r s (a_last p at_i low is) (a_last q at_j lower are_same) e =
      let t = ap (λ (z : Rule). z.target) is in let u = ap (λ (z : Rule). z.target) are_same in
      omega (arith, t, u, e, at_i, at_j)

  no_bottom : (j : ℕ) (r : Rule) → Kind j r → r.target ≡ l.bottom → ⊥
  no_bottom j r (a_link at_j a) e = omega (arith, a, e)
  no_bottom j r (a_last q at_j low is) e = let t = ap (λ (z : Rule). z.target) is in omega (arith, t, e, low)

  distinct : (i j : ℕ) (r s : Rule) → slice_get rs i ≡ Some r → slice_get rs j ≡ Some s → r.target ≡ s.target → i ≡ j
  distinct i j r s at_i at_j e = distinct_by i j r s (kind i r at_i) (kind j s at_j) e

  index_within : (j : ℕ) (r : Rule) → slice_get links j ≡ Some r → j < length links
  index_within j r e = slice_get_within links j r e

  kind_fits : (parts j : ℕ) (r : Rule) → parts ≡ suc l.bottom + length links → Kind j r → FitsRule parts r
  kind_fits parts j r many (a_link at_j a) =
      let f = are.fits r (contains_from_at links j r at_j) in let x = f.0 in let y = f.1 in let w = index_within j r at_j in
      record { target = omega (arith, a, w, many); left = omega (arith, x, many); right = omega (arith, y, many) }
  kind_fits parts j r many (a_last q at_j low is) =
      let e = are.ends q low in
      subst (FitsRule parts) (sym is) (record { target = omega (arith, low, many); left = omega (arith, e, many); right = omega (arith, many) })

  kind_among : (r : Rule) → Contains rs r → (j : ℕ) × Kind j r
  kind_among r among = let x = at_from_contains rs r among in (x.0, kind x.0 r x.1)

  pub all_fit : (parts : ℕ) → parts ≡ suc l.bottom + length links → FitAll parts rs
  all_fit parts many r among = let k = kind_among r among in kind_fits parts k.0 r many k.1

  none_free : (r : Rule) → Contains rs r → r.target ≡ l.bottom → ⊥
  none_free r among e = let k = kind_among r among in no_bottom k.0 r k.1 e

  more : (r : Rule) → Contains links r → Contains rs r
  more r c = let a = at_from_contains links r c in contains_from_at rs a.0 r (lasts.before a.0 r a.1)

  needs_all : (q : ℕ) → q < l.bottom → NeedsAll rs l.bottom q (IsSource l.rules.items q)
  needs_all q low =
      let n = are.needs q low in let long = are.long in
      record {
        needs = l.bottom ∷ n.needs;
        chain = table.link q (get_or last q 0) l.bottom n.needs (lasts.here q (omega (arith, low, long))) (chain_more links rs more n.chain);
        all = λ p s. let c = n.all p s in let less = c.1 in (suc c.0, omega (arith, less), c.2);
        only = λ p c. elim (in_rest l.bottom n.needs p c) [ inl e ↦ inl (sym e) | inr o ↦ n.only p o ];
      }

pub table_whole : (l t : Table) (links : List Rule) (last : List ℕ) → AreLinks l.bottom l.rules.items links last →
    AreLasts l.bottom links t.rules.items last (length last) → t.nodes ≡ l.nodes → t.bottom ≡ l.bottom → IsWholeTable l t
table_whole l t links last are lasts nodes bottom =
    record {
      nodes = nodes;
      bottom = bottom;
      distinct = distinct l links last are t.rules.items lasts;
      none_free = λ r among e. none_free l links last are t.rules.items lasts r among (e ∙ bottom);
      needs = λ q low.
          subst (λ (n : ℕ). NeedsAll t.rules.items n q (IsSource l.rules.items q)) (sym bottom)
          (needs_all l links last are t.rules.items lasts q low);
    }
