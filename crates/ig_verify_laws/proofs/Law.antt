-- What is printed of a core grammar tells its parts.
use Rattle.std.proofs.Common.{◌≡◌, ◌∙◌, ℕ, ◌<◌, ◌≤◌, List, Some, slice_get, sym, ap, subst, arith, lit<}
use Rattle.std.proofs.lemmas.Option.{same_Some}
use Rattle.ig_text.proofs.Lists.{mapped_at}
use Rattle.ig_text.specs.Limits.{numbers_end}
use Rattle.ig_grammar.specs.declared.grammar.Grammar.{Grammar}
use Rattle.ig_grammar.specs.declared.place.Shape.{Shape}
use Rattle.ig_item.specs.Core.{IsAlternative, dots, numbered as by_number}
use Rattle.ig_item.specs.Limits.{most_dots}
use Rattle.ig_item.specs.declared.core_grammar.CoreAlt.{CoreAlt}
use Rattle.ig_item.specs.declared.core_grammar.Nonterminal.{Nonterminal}
use Rattle.ig_show_texts.specs.TagText.{tag_text}
use Rattle.ig_core.specs.CoreOf.{numbered, number_of, core_of}
use Rattle.ig_core.specs.Laws.{CoresAreNamed}
use Rattle.ig_core.specs.Lowered.{CoreOf, Lowered}
use Rattle.ig_core.specs.Notation.{unchanged}
use Rattle.ig_forest_reader.specs.Written.{IsSmallTag}
use Rattle.ig_verify_laws.specs.ReducedLaws.{AlternativesAreFew}
use Rattle.ig_verify_laws.specs.NameLaws.{CoresCallNoRoot, CoresHaveSmallTags, CoresTellNames}
use Rattle.ig_verify_laws.proofs.Encoding.{characters_told}
use Rattle.ig_verify_laws.proofs.PassedNames.{lowered_plain}
use Rattle.ig_verify_laws.proofs.PlainNames.{encoded_plain}
use Rattle.ig_verify_laws.proofs.Rows.{Row, core_plain, row_at}
use Rattle.ig_verify_laws.proofs.Tags.{tag_small, tags_told}

module _ (g : Grammar) (shapes : List Shape) where
  -- the numbers of names count from 1
  from_one : (name : List ℕ) → number_of g shapes name ≡ 0 → ⊥
  from_one name e = omega (arith, e)

  row : (n : ℕ) (x : Nonterminal) → slice_get (core_of g shapes) n ≡ Some x → Row (number_of g shapes) from_one x
  row n x at = row_at (number_of g shapes) from_one 0 (numbered g shapes) n x at

  small_dots : (a : ℕ) → a ≤ dots (core_of g shapes) → dots (core_of g shapes) ≤ most_dots → a < numbers_end
  small_dots a h few = below a (dots (core_of g shapes)) most_dots numbers_end h few (lit< tt)
    where
      below : (a b c d : ℕ) → a ≤ b → b ≤ c → c < d → a < d
      below a b c d h k l = omega (arith, h, k, l)

  module _ (counted : AlternativesAreFew) (few : dots (core_of g shapes) ≤ most_dots) where
    number_small : (n a : ℕ) (x : Nonterminal) (y : CoreAlt) → IsAlternative (core_of g shapes) n a x y → a < numbers_end
    number_small n a x y is = small_dots a (counted (core_of g shapes) n a x y is).0 few

    tags_apart : (n a b : ℕ) (x other : Nonterminal) (y z : CoreAlt) → IsAlternative (core_of g shapes) n a x y →
        IsAlternative (core_of g shapes) n b other z → tag_text x.name y.tag ≡ tag_text x.name z.tag → y.tag ≡ z.tag
    tags_apart n a b x other y z is also e =
        let same : other ≡ x = same_Some other x (sym also.there ∙ is.there) in
        let r = row n x is.there in
        let first = (r.each a y is.has).tagged in
        let second =
        (r.each b z (subst (λ (m : Nonterminal). by_number m.alternatives b ≡ Some z) same also.has)).tagged in
        first ∙
        tags_told x.name r.shape r.n a b (number_small n a x y is) (number_small n b other z also)
        (ap (tag_text x.name) (sym first) ∙ e ∙ ap (tag_text x.name) second) ∙
        sym second

    tags_small : (n a : ℕ) (x : Nonterminal) (y : CoreAlt) → IsAlternative (core_of g shapes) n a x y → IsSmallTag y.tag
    tags_small n a x y is =
        let r = row n x is.there in
        subst IsSmallTag (sym (r.each a y is.has).tagged) (tag_small r.shape r.n a (number_small n a x y is))

pub told : AlternativesAreFew → CoresAreNamed → CoresTellNames
unfolding CoreOf
told counted named g can numbers names few =
    let c = Lowered (unchanged g) in
    record {
      plain = λ n x at. encoded_plain x.name (core_plain c.grammar c.shapes (lowered_plain g names) n x at);
      differ = λ m n x y at also e.
          (named (unchanged g) can numbers).differ m n y.name
          (mapped_at (λ (z : Nonterminal). z.name) (core_of c.grammar c.shapes) m x at ∙ ap Some (characters_told x.name y.name e))
          (mapped_at (λ (z : Nonterminal). z.name) (core_of c.grammar c.shapes) n y also);
      tags = tags_apart c.grammar c.shapes counted few;
    }

pub uncalled : CoresCallNoRoot
unfolding CoreOf
uncalled c n a x y is =
    let d = Lowered c in ((row d.grammar d.shapes n x is.there).each a y is.has).uncalled

pub small_tags : AlternativesAreFew → CoresHaveSmallTags
unfolding CoreOf
small_tags counted c few n a x y is = tags_small (Lowered c).grammar (Lowered c).shapes counted few n a x y is
