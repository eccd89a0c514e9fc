-- Which tag is read.
use Rattle.std.proofs.Common.{◌≡◌, ◌⊎◌, inl, inr, ℕ, zero, suc, ◌+◌, ◌<◌, ◌≤◌, List, Option, Some, None, refl, sym, ap, ap₂, ◌∙◌, length, slice_get, arith}
use Rattle.std.specs.Prelude.{option_map, option_and_then}
use Rattle.std.specs.Option.{option_copied}
use Rattle.std.proofs.lemmas.Option.{same_Some, none-some, slice_get_within}
use denote.Ref.{Bor}
use Rattle.ig_text.specs.declared.tag.Tag.{Tag}
use Rattle.ig_item.specs.Core.{IsAlternative, alternative_at, numbered}
use Rattle.ig_item.specs.declared.core_grammar.Nonterminal.{Nonterminal}
use Rattle.ig_item.specs.declared.core_grammar.CoreAlt.{CoreAlt}
use Rattle.ig_show_texts.specs.TagText.{tag_text}
use Rattle.ig_forest_tables.specs.declared.entry.Choice.{Choice}
use Rattle.ig_forest_reader.specs.Shown.{HasTag}
use Rattle.ig_forest_reader.specs.Written.{TellsNames, IsNamed, IsSmallTag, IsTagOf}
use Rattle.ig_forest_reader.proofs.TellingLines.{named_there}

-- the alternative of that number, with its nonterminal
pub record Stands (core : List Nonterminal) (n a : ℕ) (alternative : CoreAlt) : Type 0 where
  pub nonterminal : Nonterminal
  pub has : IsAlternative core n a nonterminal alternative

stands_in : (core : List Nonterminal) (n a : ℕ) (alternative : CoreAlt) (o : Option Nonterminal) → slice_get core n ≡ o →
    option_and_then (λ (nonterminal : Nonterminal). numbered nonterminal.alternatives a) o ≡ Some alternative →
    Stands core n a alternative
stands_in core n a alternative None there e = absurd (none-some _ e)
stands_in core n a alternative (Some x) there e = record { nonterminal = x; has = record { there = there; has = e } }

pub alternative_stands : (core : List Nonterminal) (n a : ℕ) (alternative : CoreAlt) → alternative_at core n a ≡ Some alternative →
    Stands core n a alternative
alternative_stands core n a alternative e = stands_in core n a alternative (slice_get core n) refl e

pub stands_at : (core : List Nonterminal) (n a : ℕ) (nonterminal : Nonterminal) (alternative : CoreAlt) →
    IsAlternative core n a nonterminal alternative → alternative_at core n a ≡ Some alternative
stands_at core n a nonterminal alternative is =
    ap (option_and_then (λ (x : Nonterminal). numbered x.alternatives a)) is.there ∙ is.has

tag_in : (core : List Nonterminal) (n a : ℕ) (tag : Tag) (o : Option CoreAlt) → alternative_at core n a ≡ o →
    Some tag ≡ option_map (λ (x : CoreAlt). x.tag) o → IsSmallTag tag → HasTag core n tag
tag_in core n a tag None at e small = absurd (none-some _ (sym e))
tag_in core n a tag (Some x) at e small =
    let s = alternative_stands core n a x at in
    record { a = a; nonterminal = s.nonterminal; alternative = x; has = s.has; is = same_Some tag x.tag e; small = small }

pub tag_there : (core : List Nonterminal) (n a : ℕ) (tag : Tag) → Some tag ≡ option_map (λ (x : CoreAlt). x.tag) (alternative_at core n a) →
    IsSmallTag tag → HasTag core n tag
tag_there core n a tag e small = tag_in core n a tag (alternative_at core n a) refl e small

pub no_tag : (core : List Nonterminal) (n a : ℕ) (x : CoreAlt) → None ≡ option_map (λ (y : CoreAlt). y.tag) (alternative_at core n a) →
    alternative_at core n a ≡ Some x → ⊥
no_tag core n a x e at = none-some _ (e ∙ ap (option_map (λ (y : CoreAlt). y.tag)) at)

pub same_tag : (core : List Nonterminal) (n a : ℕ) (tag : Tag) (x : CoreAlt) →
    Some tag ≡ option_map (λ (y : CoreAlt). y.tag) (alternative_at core n a) → alternative_at core n a ≡ Some x → tag ≡ x.tag
same_tag core n a tag x e at = same_Some tag x.tag (e ∙ ap (option_map (λ (y : CoreAlt). y.tag)) at)

-- the name that the core grammar gives is the node's
pub name_is : (core : List Nonterminal) (n : ℕ) (found : Bor (List ℕ)) (name : List ℕ) →
    option_copied (Some found) ≡ option_map (λ (x : Nonterminal). x.name) (slice_get core n) → IsNamed core n name → found.now ≡ name
name_is core n found name e named = same_Some found.now name (e ∙ named)

-- the tag that has these bytes is the choice's
pub tag_is : (core : List Nonterminal) (tells : TellsNames core) (n : ℕ) (name : List ℕ) (tag : Tag) (c : Choice) (bytes : List ℕ) →
    IsNamed core n name → HasTag core n tag → IsTagOf core n c → bytes ≡ tag_text name tag → bytes ≡ tag_text name c.tag →
    Some tag ≡ Some c.tag
tag_is core tells n name tag c bytes named p q e f =
    let there = named_there (slice_get core n) name named in
    let here : p.nonterminal.name ≡ name =
    ap (λ (z : Nonterminal). z.name) (same_Some p.nonterminal there.0 (sym p.has.there ∙ there.1)) ∙ there.2 in
    ap Some (p.is ∙ tells.tags n p.a q.a p.nonterminal q.nonterminal p.alternative q.alternative p.has q.has
    (ap₂ (λ (m : List ℕ) (t : Tag). tag_text m t) here (sym p.is) ∙ sym e ∙ f ∙
    ap₂ (λ (m : List ℕ) (t : Tag). tag_text m t) (sym here) q.tag) ∙ sym q.tag)

-- no alternative up to there has the bytes as its tag
abbrev pub NoneBelow : List Nonterminal → ℕ → List ℕ → List ℕ → ℕ → Type 0
NoneBelow core n name bytes many =
    (p : ℕ) (x : CoreAlt) → p < many → alternative_at core n (p + 1) ≡ Some x → bytes ≡ tag_text name x.tag → ⊥

next_below : (p n : ℕ) → p < n + 1 → (p < n) ⊎ (p ≡ n)
next_below p n lt = grind arith

pub none_more : (core : List Nonterminal) (n : ℕ) (name bytes : List ℕ) (many : ℕ) → NoneBelow core n name bytes many →
    ((x : CoreAlt) → alternative_at core n (many + 1) ≡ Some x → bytes ≡ tag_text name x.tag → ⊥) →
    NoneBelow core n name bytes (many + 1)
none_more core n name bytes many below none p x less at e =
    elim (next_below p many less) [
      | inl before ↦ below p x before at e
      | inr same ↦ none x (ap (λ (m : ℕ). alternative_at core n (m + 1)) (sym same) ∙ at) e
    ]

within_all : (xs : List CoreAlt) (a : ℕ) (x : CoreAlt) → numbered xs a ≡ Some x → (p : ℕ) × (a ≡ suc p) × (p < length xs)
within_all xs zero x e = absurd (none-some _ e)
within_all xs (suc p) x e = (p, refl, slice_get_within xs p x e)

pub none_has : (core : List Nonterminal) (n : ℕ) (name bytes : List ℕ) (many : ℕ) (c : Choice) →
    Some many ≡ option_map (λ (x : Nonterminal). length x.alternatives) (slice_get core n) → (place : ℕ) → many ≤ place →
    NoneBelow core n name bytes place → IsTagOf core n c → bytes ≡ tag_text name c.tag → ⊥
none_has core n name bytes many c count place past below q e =
    let within = within_all q.nonterminal.alternatives q.a q.alternative q.has.has in
    let all : many ≡ length q.nonterminal.alternatives =
    same_Some many _ (count ∙ ap (option_map (λ (x : Nonterminal). length x.alternatives)) q.has.there) in
    let less = within.2 in
    let next : within.0 + 1 ≡ suc within.0 = omega arith in
    below within.0 q.alternative (omega (arith, less, all, past))
    (ap (alternative_at core n) (next ∙ sym within.1) ∙ stands_at core n q.a q.nonterminal q.alternative q.has)
    (e ∙ ap (tag_text name) q.tag)
