-- Which declarations have a name, and which alternatives a declaration has.
use Rattle.std.proofs.Common.{◌≡◌, ℕ, zero, suc, ◌<◌, List, [], ◌∷◌, length, refl, subst, arith, Some, inl, inr}
use Rattle.std.specs.Prelude.{◌≢◌, ◌⊎◌, slice_get, slice_index_or, Contains}
use Rattle.ig_grammar.specs.Numbering.{Levelled, by_level, Declares, IsAlternative}
use Rattle.ig_grammar.specs.declared.declaration.Decl.{Decl}
use Rattle.ig_grammar.specs.declared.grammar.Grammar.{Grammar}
use Rattle.ig_grammar.specs.declared.place.Shape.{Shape}
use Rattle.ig_grammar.specs.declared.place.Shape.TheVariants as shape

-- the member is one of these
abbrev pub IsAmong : {A : Type 0} → List A → A → Type 0
IsAmong [] y = ⊥
IsAmong (x ∷ xs) y = (x ≡ y) ⊎ IsAmong xs y

pub among : {A : Type 0} (xs : List A) (n : ℕ) (y : A) → slice_get xs n ≡ Some y → IsAmong xs y
among [] n y e = absurd (cc)
among (x ∷ xs) zero y e = inl (cc)
among (x ∷ xs) (suc n) y e = inr (among xs n y e)

pub declaration_among : (g : Grammar) (shapes : List Shape) (name : List ℕ) (d : ℕ) (decl : Decl) (shape : Shape) →
    Declares g shapes name d decl shape → IsAmong g.decls decl
declaration_among g shapes name d decl shape declares = among g.decls declares.numbered.0 decl declares.numbered.2

pub alternative_among : (decl : Decl) (k : ℕ) (a : Levelled) → IsAlternative decl k a → IsAmong (by_level decl.levels) a
alternative_among decl k a numbered = among (by_level decl.levels) numbered.0 a numbered.2

-- each of them has the property
abbrev pub OfEach : {A : Type 0} → (A → Type 0) → List A → Type 0
OfEach P [] = Unit {0}
OfEach P (x ∷ xs) = P x × OfEach P xs

pub each : {A : Type 0} (P : A → Type 0) (xs : List A) (y : A) → OfEach P xs → IsAmong xs y → P y
each P [] y all member = absurd member
each P (x ∷ xs) y all (inl same) = subst P same all.0
each P (x ∷ xs) y all (inr other) = each P xs y all.1 other

contained : {A : Type 0} (xs : List A) (y : A) (k : ℕ) → k < length xs → slice_index_or xs k y ≡ y → IsAmong xs y
contained [] y k within same = absurd (omega (arith, within))
contained (x ∷ xs) y zero within same = inl same
contained (x ∷ xs) y (suc k) within same = inr (contained xs y k (omega (arith, within)) same)

pub contains_among : {A : Type 0} (xs : List A) (y : A) → Contains xs y → IsAmong xs y
contains_among xs y c = contained xs y c.0 c.1 c.2

-- no declaration stands for the root
pub no_root : (g : Grammar) (shapes : List Shape) → OfEach (λ s. s ≢ shape.Root) shapes → (name : List ℕ) (d : ℕ) (decl : Decl) →
    Declares g shapes name d decl shape.Root → ⊥
no_root g shapes none name d decl declares =
    each (λ s. s ≢ shape.Root) shapes shape.Root none (among shapes declares.shaped.0 shape.Root declares.shaped.2) refl
