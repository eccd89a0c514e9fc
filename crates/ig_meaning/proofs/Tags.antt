-- Where shapes fit, the numbers of tags tell the alternatives of a declaration apart.
use Rattle.std.proofs.Common.{◌≡◌, ℕ, zero, suc, ◌+◌, ◌<◌, List, [], ◌∷◌, map, length, refl, sym, ◌∙◌, ap, subst, arith, length-append, Some}
use Rattle.std.specs.Prelude.{slice_get}
use Rattle.std.proofs.lemmas.List.{length-map}
use Rattle.std.proofs.lemmas.Option.{slice_get_within}
use Rattle.ig_text.specs.declared.tag.Tag.{Tag}
use Rattle.ig_text.specs.declared.tag.Tag.TheVariants as tag
use Rattle.ig_text.specs.TagNumber.{number_of}
use Rattle.ig_grammar.specs.Checked.{FitShapes, MayHave}
use Rattle.ig_grammar.specs.Numbering.{Levelled, Declares, IsAlternative, tag_of, tag_among, by_level, alternatives}
use Rattle.ig_grammar.specs.declared.symbol.Alt.{Alt}
use Rattle.ig_grammar.specs.declared.declaration.Level.{Level}
use Rattle.ig_grammar.specs.declared.declaration.Decl.{Decl}
use Rattle.ig_grammar.specs.declared.grammar.Grammar.{Grammar}
use Rattle.ig_grammar.specs.declared.place.Shape.{Shape}
use Rattle.ig_grammar.specs.declared.place.Shape.TheVariants as shape

-- the number of a tag tells the alternatives of each declaration apart
abbrev pub TagsTellAlternatives : Grammar → List Shape → Type 0
TagsTellAlternatives g shapes =
    (name : List ℕ) (d k l : ℕ) (decl : Decl) (shape : Shape) (a b : Levelled) → Declares g shapes name d decl shape →
    IsAlternative decl k a → IsAlternative decl l b → number_of (tag_of shape d k) ≡ number_of (tag_of shape d l) → k ≡ l

levelled_length : (levels : List Level) → length (by_level levels) ≡ length (alternatives levels)
levelled_length [] = refl
levelled_length (level ∷ others) =
    let f : Alt → Levelled = λ a. record { alternative = a; level = length others + 1; assoc = level.assoc } in
    let a = length-append (map f level.alts) (by_level others) in
    let b = length-append level.alts (alternatives others) in
    let c = length-map level.alts f in
    let h = levelled_length others in omega (arith, a, b, c, h)

two_tell : (t u : Tag) → number_of t ≡ 1 → number_of u ≡ 2 → (b c : ℕ) → b < 2 → c < 2 →
    number_of (tag_among t u (suc b)) ≡ number_of (tag_among t u (suc c)) → b ≡ c
two_tell t u p q zero zero l m e = refl
two_tell t u p q zero (suc zero) l m e = let h : number_of t ≡ number_of u = e in omega (arith, p, q, h)
two_tell t u p q (suc zero) zero l m e = let h : number_of u ≡ number_of t = e in omega (arith, p, q, h)
two_tell t u p q (suc zero) (suc zero) l m e = refl
two_tell t u p q b (suc (suc c)) l m e = let z : ⊥ = omega (arith, m) in absurd z
two_tell t u p q (suc (suc b)) c l m e = let z : ⊥ = omega (arith, l) in absurd z

told : (form : Shape) (d b c n : ℕ) → MayHave form n → b < n → c < n →
    number_of (tag_of form d (suc b)) ≡ number_of (tag_of form d (suc c)) → b ≡ c
told shape.Rule d b c n may l m e = let h : suc b ≡ suc c = e in omega (arith, h)
told shape.Group d b c n may l m e = let h : suc b ≡ suc c = e in omega (arith, h)
told shape.Root d b c n may l m e = let h : n ≡ 1 = may in omega (arith, h, l, m)
told shape.Opt d b c n may l m e =
    two_tell tag.Absent tag.Present refl refl b c (subst (λ z. b < z) may l) (subst (λ z. c < z) may m) e
told shape.Star d b c n may l m e =
    two_tell tag.Nil tag.Snoc refl refl b c (subst (λ z. b < z) may l) (subst (λ z. c < z) may m) e
told shape.Plus d b c n may l m e =
    two_tell tag.One tag.More refl refl b c (subst (λ z. b < z) may l) (subst (λ z. c < z) may m) e
told shape.SepPlus d b c n may l m e =
    two_tell tag.One tag.More refl refl b c (subst (λ z. b < z) may l) (subst (λ z. c < z) may m) e
told shape.SepStar d b c n may l m e =
    two_tell tag.Absent tag.Present refl refl b c (subst (λ z. b < z) may l) (subst (λ z. c < z) may m) e

within : (decl : Decl) (k : ℕ) (a : Levelled) (at : IsAlternative decl k a) → at.0 < length (alternatives decl.levels)
within decl k a at =
    subst (λ n. at.0 < n) (levelled_length decl.levels) (slice_get_within (by_level decl.levels) at.0 a at.2)

pub fitting_shapes_tell : (g : Grammar) (shapes : List Shape) → FitShapes g shapes → TagsTellAlternatives g shapes
fitting_shapes_tell g shapes fit name d k l decl form a b declares first second same =
    let places : declares.numbered.0 ≡ declares.shaped.0 =
    (let p : d ≡ suc declares.numbered.0 = declares.numbered.1 in let q : d ≡ suc declares.shaped.0 = declares.shaped.1 in omega (arith, p, q)) in
    let shaped = subst (λ z. slice_get shapes z ≡ Some form) (sym places) declares.shaped.2 in
    let fits = fit.each declares.numbered.0 decl form declares.numbered.2 shaped in
    let numbers = (λ z. number_of (tag_of form d (sym first.1 z))) ∙ same ∙ (λ z. number_of (tag_of form d (second.1 z))) in
    let alike = told form d first.0 second.0 (length (alternatives decl.levels)) fits.count (within decl k a first) (within decl l b second) numbers in
    first.1 ∙ ap suc alike ∙ sym second.1
