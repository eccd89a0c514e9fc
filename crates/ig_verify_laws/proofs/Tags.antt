-- The tags of one nonterminal print apart, and their numbers are small.
use Rattle.std.proofs.Common.{◌≡◌, ℕ, ◌<◌, ◌++◌, List, Bool, true, false, if◌then◌else◌, get_or, refl, sym, ap, arith, lit<, ◌^◌}
use Rattle.std.specs.Prelude.{codes, decimal, encode_utf8_all, ◌==◌}
use Rattle.std.proofs.lemmas.Fmt.{decimal_injective}
use Rattle.std.proofs.lemmas.List.{append_cancel_left}
use Rattle.ig_text.specs.Limits.{numbers_end}
use Rattle.ig_text.specs.declared.tag.Tag.{Tag}
use Rattle.ig_text.specs.declared.tag.Tag.TheVariants as tag
use Rattle.ig_grammar.specs.Numbering.{tag_of}
use Rattle.ig_grammar.specs.declared.place.Shape.{Shape}
use Rattle.ig_grammar.specs.declared.place.Shape.TheVariants.{Rule, Opt, Star, Plus, SepPlus, SepStar, Group, Root}
use Rattle.ig_show_texts.specs.TagText.{tag_text}
use Rattle.ig_forest_reader.specs.Written.{IsSmallTag}

small_number : (k : ℕ) → k < numbers_end → k < 2 ^ 64
small_number k h = beyond k numbers_end (2 ^ 64) h (lit< tt)
  where
    beyond : (a b c : ℕ) → a < b → b < c → a < c
    beyond a b c h k = omega (arith, h, k)

-- numbers are told after the same text
numbers_told : (front : List ℕ) (j k : ℕ) → j < numbers_end → k < numbers_end → front ++ decimal j ≡ front ++ decimal k → j ≡ k
numbers_told front j k h l e =
    decimal_injective j k (small_number j h) (small_number k l) (append_cancel_left front (decimal j) (decimal k) e)

-- of two tags that print apart
two_told : (name : List ℕ) (one two : Tag) → (tag_text name one ≡ tag_text name two → ⊥) → (b c : Bool) →
    tag_text name (if b then one else two) ≡ tag_text name (if c then one else two) →
    (if b then one else two) ≡ (if c then one else two)
two_told name one two apart true true e = refl
two_told name one two apart true false e = absurd (apart e)
two_told name one two apart false true e = absurd (apart (sym e))
two_told name one two apart false false e = refl

absent_present : codes "$none" ≡ codes "$some" → ⊥
absent_present e = let at : 110 ≡ 115 = ap (λ (text : List ℕ). get_or text 1 0) e in omega (arith, at)

nil_snoc : codes "$nil" ≡ codes "$snoc" → ⊥
nil_snoc e = let at : 110 ≡ 115 = ap (λ (text : List ℕ). get_or text 1 0) e in omega (arith, at)

one_more : codes "$one" ≡ codes "$more" → ⊥
one_more e = let at : 111 ≡ 109 = ap (λ (text : List ℕ). get_or text 1 0) e in omega (arith, at)

pub tags_told : (name : List ℕ) (s : Shape) (n j k : ℕ) → j < numbers_end → k < numbers_end →
    tag_text name (tag_of s n j) ≡ tag_text name (tag_of s n k) → tag_of s n j ≡ tag_of s n k
tags_told name Rule n j k h l e =
    ap (tag.Rule n)
    (numbers_told (codes ".") j k h l
    (append_cancel_left (encode_utf8_all name) (codes "." ++ decimal j) (codes "." ++ decimal k) e))
tags_told name Opt n j k h l e = two_told name tag.Absent tag.Present absent_present (j == 1) (k == 1) e
tags_told name Star n j k h l e = two_told name tag.Nil tag.Snoc nil_snoc (j == 1) (k == 1) e
tags_told name Plus n j k h l e = two_told name tag.One tag.More one_more (j == 1) (k == 1) e
tags_told name SepPlus n j k h l e = two_told name tag.One tag.More one_more (j == 1) (k == 1) e
tags_told name SepStar n j k h l e = two_told name tag.Absent tag.Present absent_present (j == 1) (k == 1) e
tags_told name Group n j k h l e = ap tag.GroupAlt (numbers_told (codes "$group.") j k h l e)
tags_told name Root n j k h l e = refl

either_small : (one two : Tag) → IsSmallTag one → IsSmallTag two → (b : Bool) → IsSmallTag (if b then one else two)
either_small one two h l true = h
either_small one two h l false = l

pub tag_small : (s : Shape) (n k : ℕ) → k < numbers_end → IsSmallTag (tag_of s n k)
tag_small Rule n k h = h
tag_small Opt n k h = either_small tag.Absent tag.Present tt tt (k == 1)
tag_small Star n k h = either_small tag.Nil tag.Snoc tt tt (k == 1)
tag_small Plus n k h = either_small tag.One tag.More tt tt (k == 1)
tag_small SepPlus n k h = either_small tag.One tag.More tt tt (k == 1)
tag_small SepStar n k h = either_small tag.Absent tag.Present tt tt (k == 1)
tag_small Group n k h = h
tag_small Root n k h = tt
