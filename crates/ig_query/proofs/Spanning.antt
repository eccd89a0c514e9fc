-- The spans of a declaration's nodes, each once, in order.
use Rattle.std.proofs.Common.{◌≡◌, ◌↔◌, ◌⊎◌, ⊎_elim, inl, inr, ℕ, ◌+◌, ◌<◌, ◌≤◌, List, [], ◌∷◌, ◌++◌, Some, Bool, length, slice_get, Contains, IsPermutation, IsSorted, refl, sym, ap, ◌∙◌, subst, arith}
use Rattle.std.specs.Cmp.{IsTotalOrder}
use Rattle.std.specs.List.{dedup}
use Rattle.std.specs.List.Retain.{IsFiltered, DiffersFromLast}
use Rattle.std.specs.List.Sorted.{IsStrictlySortedBy}
use Rattle.std.specs.Ordering.{eq_by_cmp, nat_cmp}
use Rattle.std.proofs.lemmas.Cmp.{nat_cmp_total, on_total, then_total, eq_by_cmp_equiv}
use Rattle.std.proofs.lemmas.List.Filters.{dedup_is}
use Rattle.std.proofs.lemmas.List.Kept.{Any-dedup, Contains-from_dedup, IsStrictlySortedBy-dedup}
use Rattle.std.proofs.lemmas.List.Sorted.{Contains-permutation, IsPermutation-sym}
use Rattle.std.proofs.lemmas.Map.Lookups.{CmpEqualImpliesEq, exact_unsigned}
use Rattle.std.proofs.lemmas.Map.Views.{tells_apart}
use Rattle.std.proofs.lemmas.Option.{same_Some, slice_get_within}
use Rattle.std.proofs.lemmas.List.Elements.{Contains-push}
use Rattle.std.proofs.lemmas.Bool.{cases_lt}
use Rattle.ig_text.specs.declared.text.Span.{Span}
use Rattle.ig_text.proofs.Lists.{in_pushed, none_in_nil}
use Rattle.ig_text.proofs.Options.{equal_parts}
use Rattle.ig_forest_tables.specs.Forest.{Forest, Node}
use Rattle.ig_query.specs.Spans.{AreSpansOf, HasSpan, IsOfDeclaration, span_cmp}
use Rattle.ig_query.proofs.Through.{old_in}

module _ (f : Forest) (name : List ℕ) where
  -- one of the first k nodes is of the declaration and has the span
  pub record HasBelow (k : ℕ) (span : Span) : Type 0 where
    pub number : ℕ
    pub node : Node
    pub below : number < k
    pub there : slice_get f.nodes number ≡ Some node
    pub of : IsOfDeclaration name node
    pub spans : node.span ≡ span

  -- the spans are those of the first k nodes
  abbrev pub SpansUpTo : ℕ → List Span → Type 0
  SpansUpTo k spans = (span : Span) → Contains spans span ↔ HasBelow k span

  pub spans_begin : (spans : List Span) → spans ≡ [] → SpansUpTo 0 spans
  spans_begin spans e span = (
    λ c. absurd (none_in_nil span (subst (λ (z : List Span). Contains z span) e c)),
    λ h. let low = h.below in absurd (omega (arith, low)),
  )

  module _ (k : ℕ) (node : Node) (spans : List Span) (up : SpansUpTo k spans) (at : slice_get f.nodes k ≡ Some node) where
    later : (span : Span) → HasBelow k span → HasBelow (k + 1) span
    later span h =
        record {
          number = h.number;
          node = h.node;
          below = let low = h.below in omega (arith, low);
          there = h.there;
          of = h.of;
          spans = h.spans;
        }

    earlier_or_here : (span : Span) → HasBelow (k + 1) span → HasBelow k span ⊎ (IsOfDeclaration name node × (node.span ≡ span))
    earlier_or_here span h = by (cases_lt h.number k)
      where
        by : (h.number < k) ⊎ (k ≤ h.number) → HasBelow k span ⊎ (IsOfDeclaration name node × (node.span ≡ span))
        by (inl lt) =
            inl (record { number = h.number; node = h.node; below = lt; there = h.there; of = h.of; spans = h.spans })
        by (inr le) =
            let low = h.below in
            let same : h.number ≡ k = omega (arith, le, low) in
            let is : h.node ≡ node = same_Some h.node node (sym h.there ∙ ap (slice_get f.nodes) same ∙ at) in
            inr (subst (IsOfDeclaration name) is h.of, ap (λ (z : Node). z.span) (sym is) ∙ h.spans)

    pub spans_without : (IsOfDeclaration name node → ⊥) → SpansUpTo (k + 1) spans
    spans_without never span = (
      λ c. later span ((up span).0 c),
      λ h. ⊎_elim (λ g. (up span).1 g) (λ p. absurd (never p.0)) (earlier_or_here span h),
    )

    pub spans_with : (more : List Span) → IsOfDeclaration name node → more ≡ spans ++ node.span ∷ [] → SpansUpTo (k + 1) more
    spans_with more of is span = (
      λ c.
          ⊎_elim (λ old. later span ((up span).0 old))
          (λ same.
          record { number = k; node = node; below = omega arith; there = at; of = of; spans = sym same })
          (in_pushed spans node.span span (subst (λ (z : List Span). Contains z span) is c)),
      λ h.
          subst (λ (z : List Span). Contains z span) (sym is)
          (⊎_elim (λ g. old_in spans node.span span ((up span).1 g))
          (λ p. subst (Contains (spans ++ node.span ∷ [])) p.1 (Contains-push spans node.span)) (earlier_or_here span h)),
    )

  pub spans_all : (k : ℕ) (spans : List Span) → length f.nodes ≤ k → SpansUpTo k spans → (span : Span) →
      Contains spans span ↔ HasSpan f name span
  spans_all k spans le up span = (
    λ c.
        let h = (up span).0 c in
        record { number = h.number; node = h.node; there = h.there; of = h.of; spans = h.spans },
    λ h.
        (up span).1
        (record {
          number = h.number;
          node = h.node;
          below = let within = slice_get_within f.nodes h.number h.node h.there in omega (arith, within, le);
          there = h.there;
          of = h.of;
          spans = h.spans;
        }),
  )

-- the order of spans
pub span_total : IsTotalOrder span_cmp
span_total = then_total (on_total (λ (x : Span). x.begin) nat_cmp_total) (on_total (λ (x : Span). x.end) nat_cmp_total)

pub span_exact : CmpEqualImpliesEq span_cmp
span_exact x y e =
    let p = equal_parts (nat_cmp x.begin y.begin) (nat_cmp x.end y.end) e in
    λ i. record { begin = exact_unsigned x.begin y.begin p.0 i; end = exact_unsigned x.end y.end p.1 i }

-- a sort that drops what stands twice
pub are_spans : (f : Forest) (name : List ℕ) (E : Span → Span → Bool) → ((x y : Span) → E x y ≡ eq_by_cmp span_cmp x y) →
    (xs ys zs : List Span) → ((span : Span) → Contains xs span ↔ HasSpan f name span) → IsPermutation xs ys → IsSorted span_cmp ys →
    IsFiltered (DiffersFromLast E) [] ys zs → AreSpansOf f name zs
are_spans f name E ties xs ys zs has moved sorted filtered =
    let same : E ≡ eq_by_cmp span_cmp = λ i x y. ties x y i in
    let is : zs ≡ dedup (eq_by_cmp span_cmp) ys =
    dedup_is E ys zs filtered ∙ ap (λ (e : Span → Span → Bool). dedup e ys) same in
    record {
      members = λ span. (
        λ c.
            (has span).0
            (Contains-permutation ys xs span (IsPermutation-sym xs ys moved)
            (Contains-from_dedup (eq_by_cmp span_cmp) ys span (subst (λ (v : List Span). Contains v span) is c))),
        λ h.
            let (place, other, lt, at, tied) =
            Any-dedup (eq_by_cmp_equiv span_total) ys span (Contains-permutation xs ys span moved ((has span).1 h)) in
            subst (λ (v : List Span). Contains v span) (sym is)
            (subst (Contains (dedup (eq_by_cmp span_cmp) ys)) (sym (tells_apart span_exact span other tied)) (place, lt, at)),
      );
      order =
          subst (λ (v : List Span). IsStrictlySortedBy span_cmp v) (sym is)
          (IsStrictlySortedBy-dedup span_total (λ x y. refl) ys sorted);
    }
