-- What queries of a forest say of the permitted trees.
use Rattle.std.proofs.Common.{◌≡◌, ◌↔◌, ◌⊎◌, ⊎_elim, inl, inr, ℕ, zero, suc, ◌+◌, List, [], ◌∷◌, Some, slice_get, true, false, if◌then◌else◌, refl, sym, ap, ◌∙◌, subst, arith}
use Rattle.std.specs.Prelude.{◌==◌}
use Rattle.std.proofs.lemmas.Option.{same_Some}
use Rattle.ig_text.specs.Input.{Input}
use Rattle.ig_text.specs.Tree.{height}
use Rattle.ig_text.specs.declared.tag.Tag.{Tag}
use Rattle.ig_text.specs.declared.tag.Tag.TheVariants as tag
use Rattle.ig_grammar.specs.Checked.{CheckedGrammar}
use Rattle.ig_grammar.specs.Numbering.{alternatives, tag_among, tag_of}
use Rattle.ig_grammar.specs.declared.place.Shape.{Shape}
use Rattle.ig_grammar.specs.declared.place.Shape.TheVariants as shape
use Rattle.ig_grammar.specs.declared.symbol.Alt.{Alt}
use Rattle.ig_item.specs.Core.{numbered}
use Rattle.ig_item.specs.declared.core_grammar.CoreAlt.{CoreAlt}
use Rattle.ig_item.specs.declared.core_grammar.Nonterminal.{Nonterminal}
use Rattle.ig_core.specs.CoreOf.{Shaped, alternatives_of, nonterminals_of, number_of, numbered as shaped_numbered}
use Rattle.ig_core.specs.Lowered.{CoreOf, Lowered}
use Rattle.ig_forest_tables.specs.Forest.{Forest}
use Rattle.ig_query.specs.InTrees.{HasTwoTrees}
use Rattle.ig_query.specs.Laws.{AmbiguityIsTwoTrees, AreUniform, SpansAreThoseOfTrees}
use Rattle.ig_query.specs.Spans.{IsRule}
use Rattle.ig_parse.specs.Laws.{AmbiguityIsTwoPermitted, CyclicIsWithoutHighest, PermitsTwo, SpansArePermitted}
use Rattle.ig_parse.specs.Parses.{IsForestOf}

two_permitted : (c : CheckedGrammar) (text : Input) (f : Forest) → IsForestOf c text f → HasTwoTrees f ↔ PermitsTwo c text
two_permitted c text f is = (
  λ h.
      record {
        first = h.first;
        second = h.second;
        first_permitted = ((is.unfolds h.depth h.first).0 h.first_unfolds).0;
        second_permitted = ((is.unfolds h.depth h.second).0 h.second_unfolds).0;
        differ = h.differ;
      },
  λ p.
      let most : ℕ = height p.first + height p.second in
      record {
        depth = most;
        first = p.first;
        second = p.second;
        first_unfolds = (is.unfolds most p.first).1 (p.first_permitted, omega arith);
        second_unfolds = (is.unfolds most p.second).1 (p.second_permitted, omega arith);
        differ = p.differ;
      },
)

pub ambiguity_is_two_permitted : AmbiguityIsTwoTrees → AmbiguityIsTwoPermitted
ambiguity_is_two_permitted law c text f trim is =
    let trees = law f trim is.one_cursor in
    let permitted = two_permitted c text f is in
    (λ a. permitted.0 (trees.0 a), λ p. trees.1 (permitted.1 p))

-- the trees of the root are the permitted ones
pub cyclic_is_without_highest : CyclicIsWithoutHighest
cyclic_is_without_highest c text f is = (
  λ cyclic h.
      let x = cyclic h in (x.2, ((is.unfolds x.0 x.2).0 (x.1, x.3)).0, x.4),
  λ none h.
      let x = none h in
      let u = (is.unfolds (height x.0) x.0).1 (x.1, omega arith) in
      (height x.0, u.0, x.0, u.1, x.2),
)

-- the tags of the alternatives of a nonterminal are those of one shape
record HasShape (shaped : Shape) (x : CoreAlt) : Type 0 where
  nonterminal : ℕ
  number : ℕ
  tagged : x.tag ≡ tag_of shaped nonterminal number

shape_at : (number : List ℕ → ℕ) (s : Shape) (n k : ℕ) (alts : List Alt) (j : ℕ) (x : CoreAlt) →
    slice_get (alternatives_of number s n k alts) j ≡ Some x → HasShape s x
shape_at number s n k [] j x e = cc
shape_at number s n k (a ∷ others) zero x e =
    record { nonterminal = n; number = k; tagged = ap (λ (y : CoreAlt). y.tag) (sym (same_Some _ x e)) }
shape_at number s n k (a ∷ others) (suc j) x e = shape_at number s n (suc k) others j x e

record OfShape (nonterminal : Nonterminal) : Type 0 where
  shaped : Shape
  each : (j : ℕ) (x : CoreAlt) → slice_get nonterminal.alternatives j ≡ Some x → HasShape shaped x

shape_of : (number : List ℕ → ℕ) (m : ℕ) (xs : List Shaped) (n : ℕ) (nonterminal : Nonterminal) →
    slice_get (nonterminals_of number m xs) n ≡ Some nonterminal → OfShape nonterminal
shape_of number m [] n nonterminal e = cc
shape_of number m (x ∷ others) zero nonterminal e =
    subst OfShape (same_Some _ nonterminal e)
    (record { shaped = x.shape; each = shape_at number x.shape m 1 (alternatives x.decl.levels) })
shape_of number m (x ∷ others) (suc n) nonterminal e = shape_of number (suc m) others n nonterminal e

-- only the shape `Rule` has `Rule` tags
one_of_two : (first second : Tag) (k : ℕ) → (tag_among first second k ≡ first) ⊎ (tag_among first second k ≡ second)
one_of_two first second k =
    elim (k == 1) as (λ v. ((if v then first else second) ≡ first) ⊎ ((if v then first else second) ≡ second)) [
      | true ↦ inl refl
      | false ↦ inr refl
    ]

never_among : (first second : Tag) (k : ℕ) → (IsRule first → ⊥) → (IsRule second → ⊥) → IsRule (tag_among first second k) → ⊥
never_among first second k one two rule =
    ⊎_elim (λ e. one (subst IsRule e rule)) (λ e. two (subst IsRule e rule)) (one_of_two first second k)

rule_tags : (s : Shape) (n k m j : ℕ) → IsRule (tag_of s n k) → IsRule (tag_of s m j)
rule_tags shape.Rule n k m j rule = (m, j, refl)
rule_tags shape.Opt n k m j rule =
    absurd (never_among tag.Absent tag.Present k (λ r. let e = r.2 in cc) (λ r. let e = r.2 in cc) rule)
rule_tags shape.Star n k m j rule =
    absurd (never_among tag.Nil tag.Snoc k (λ r. let e = r.2 in cc) (λ r. let e = r.2 in cc) rule)
rule_tags shape.Plus n k m j rule =
    absurd (never_among tag.One tag.More k (λ r. let e = r.2 in cc) (λ r. let e = r.2 in cc) rule)
rule_tags shape.SepPlus n k m j rule =
    absurd (never_among tag.One tag.More k (λ r. let e = r.2 in cc) (λ r. let e = r.2 in cc) rule)
rule_tags shape.SepStar n k m j rule =
    absurd (never_among tag.Absent tag.Present k (λ r. let e = r.2 in cc) (λ r. let e = r.2 in cc) rule)
rule_tags shape.Group n k m j rule = let e = rule.2 in cc
rule_tags shape.Root n k m j rule = let e = rule.2 in cc

-- an alternative, counted from 1
alternative_at : (xs : List CoreAlt) (a : ℕ) (x : CoreAlt) → numbered xs a ≡ Some x → (j : ℕ) × (slice_get xs j ≡ Some x)
alternative_at xs zero x e = cc
alternative_at xs (suc j) x e = (j, e)

uniform : (number : List ℕ → ℕ) (m : ℕ) (xs : List Shaped) → AreUniform (nonterminals_of number m xs)
uniform number m xs n a b nonterminal other x y has also rule =
    let same : other ≡ nonterminal = same_Some other nonterminal (sym also.there ∙ has.there) in
    let of = shape_of number m xs n nonterminal has.there in
    let (i, at) = alternative_at nonterminal.alternatives a x has.has in
    let (j, there) =
    alternative_at nonterminal.alternatives b y (subst (λ (z : Nonterminal). numbered z.alternatives b ≡ Some y) same also.has) in
    let first = of.each i x at in
    let second = of.each j y there in
    subst IsRule (sym second.tagged)
    (rule_tags of.shaped first.nonterminal first.number second.nonterminal second.number (subst IsRule first.tagged rule))

cores_are_uniform : (c : CheckedGrammar) → AreUniform (CoreOf c)
unfolding CoreOf
cores_are_uniform c =
    uniform (number_of (Lowered c).grammar (Lowered c).shapes) 0 (shaped_numbered (Lowered c).grammar (Lowered c).shapes)

pub spans_are_permitted : SpansAreThoseOfTrees → SpansArePermitted
spans_are_permitted law c text f name span kinded is =
    let trees = law (CoreOf c) text f name span kinded (cores_are_uniform c) is.reduced in (
      λ h.
          let t = trees.0 h in
          record {
            tree = t.has.tree;
            permitted = ((is.unfolds t.has.depth t.has.tree).0 t.has.unfolds).0;
            nonterminal = t.nonterminal;
            alternative = t.alternative;
            named = t.named;
            has = t.has.has;
          },
      λ p.
          trees.1
          (record {
            nonterminal = p.nonterminal;
            alternative = p.alternative;
            named = p.named;
            has = record {
              depth = height p.tree;
              tree = p.tree;
              unfolds = (is.unfolds (height p.tree) p.tree).1 (p.permitted, omega arith);
              has = p.has;
            };
          }),
    )
