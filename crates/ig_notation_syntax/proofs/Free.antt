-- Tokens that a want doesn't bar stand behind it.
use Rattle.std.proofs.Common.{◌≡◌, List, [], ◌∷◌, subst, true, false}
use Rattle.std.proofs.lemmas.Bool.{false_from_ne_true}
use Rattle.std.specs.Prelude.{Some, None}
use Rattle.ig_notation_syntax.specs.Token.{Token}
use Rattle.ig_notation_syntax.specs.Machine.{Want, may_lack, after, step}
use Rattle.ig_notation_syntax.proofs.Begins.{Begins, takes, passed}
use Rattle.ig_notation_syntax.proofs.Clear.{ends, some, Apart, Within, barred}

-- the tokens don't begin with one that the want bars
abbrev pub Free : Want → List Token → Type 0
Free x [] = Unit {0}
Free x (t ∷ r) = some (step (ends x) t) ≡ false

-- the rests are equal, and the values
abbrev pub Same : (V : Type 0) → List Token → List Token → V → V → Type 0
Same V r q v w = (r ≡ q) × (v ≡ w)

pub free_within : (y x : Want) → Within y x → (r : List Token) → Free x r → Free y r
free_within y x within [] f = tt
free_within y x within (t ∷ r) f =
    false_from_ne_true (some (step (ends y) t)) (λ e. let w : some (step (ends x) t) ≡ true = within t e in cc)

-- a token that begins a row of what may lack isn't free behind it
pub not_free : (x : Want) → may_lack x ≡ true → (t : Token) (row : List Want) (u r : List Token) → after x t ≡ Some row → r ≡ t ∷ u → Free x r → ⊥
not_free x h t row u r e p f =
    let w : some (step (ends x) t) ≡ true = barred x h t row e in
    let g : some (step (ends x) t) ≡ false = subst (Free x) p f in
    cc

-- what y permits stands behind x, if what stands behind that may
pub free_behind : (x y : Want) → Apart x y → (s r : List Token) → Begins y s r → Free x r → Free x s
free_behind x y apart s r (takes t u q row e c) f =
    false_from_ne_true (some (step (ends x) t)) (λ h. let n : after y t ≡ None = apart t h in cc)
free_behind x y apart s r (passed q e) f = f

-- nothing that a want permits begins with a token without a row, unless it lacks
pub cannot_begin : {x : Want} {t : Token} {s r : List Token} → may_lack x ≡ false → after x t ≡ None → Begins x (t ∷ s) r → ⊥
cannot_begin firm none (takes t s r row e c) = cc
cannot_begin firm none (passed r e) = cc
