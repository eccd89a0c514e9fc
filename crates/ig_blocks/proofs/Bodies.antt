-- Symbols as trees, from their parts.
use Rattle.std.proofs.Common.{◌≡◌, ◌∙◌, ◌<◌, ◌+◌, ◌++◌, IfOk, Result, Ok, Err, ℕ, suc, Bool, false, List, ◌∷◌, [], length, drop, map, ap, ap₂, sym, arith, drop-cons, append_assoc}
use Rattle.std.proofs.Math.ListN.{get_or}
use Rattle.ig_grammar.specs.View.{symbol_of}
use Rattle.ig_grammar.specs.declared.symbol.Symbol as declared
use Rattle.ig_grammar.specs.Symbol.{Symbol, Group}
use Rattle.ig_grammar.specs.Alternative.{gathered_alternatives}
use Rattle.ig_grammar.specs.declared.symbol.Alt.{Alt}
use Rattle.ig_blocks_parts.specs.Setting.{Setting, Pair, inner, wrapped}
use Rattle.ig_blocks_parts.specs.Body.{tests_of, body_of, choices_of}
use Rattle.ig_blocks_parts.specs.Blocks.{symbols_by, alternative_by}
use Rattle.ig_blocks_parts.specs.Laws.{AreGathered}
use Rattle.ig_blocks_parts.specs.FormCode.{item_by, list_by}

-- a form, from what was made of the symbols inside it
module _ {E : Type 0} (s : Setting) (al : Bool) (p : Pair) where
  pub copied : (r : Result declared.Symbol E) (x y : declared.Symbol) → x ≡ y → IfOk r (λ q. q ≡ x) → symbol_of y ≡ body_of s al p (symbol_of y) →
      IfOk r (λ q. symbol_of q ≡ body_of s al p (symbol_of x))
  copied (Ok r) x y e h g = ap symbol_of (h ∙ e) ∙ g ∙ sym (ap (λ q. body_of s al p (symbol_of q)) e)
  copied (Err f) x y e h g = tt

  pub formed : (r : Result declared.Symbol E) (x y : declared.Symbol) (z : Symbol) → x ≡ y → IfOk r (λ q. symbol_of q ≡ z) → z ≡ body_of s al p (symbol_of y) →
      IfOk r (λ q. symbol_of q ≡ body_of s al p (symbol_of x))
  formed (Ok r) x y z e h g = h ∙ g ∙ sym (ap (λ q. body_of s al p (symbol_of q)) e)
  formed (Err f) x y z e h g = tt

-- a symbol inside another one, under the pair there
pub told_inside : {E : Type 0} (s : Setting) (q p : Pair) (r : Result declared.Symbol E) (y x : Symbol) → q ≡ inner p → y ≡ x → IfOk r (λ z. symbol_of z ≡ body_of s false q y) →
    IfOk r (λ z. symbol_of z ≡ body_of s false (inner p) x)
told_inside s q p (Ok r) y x eq ex h = h ∙ ap₂ (body_of s false) eq ex
told_inside s q p (Err f) y x eq ex h = tt

pub choices_told : {E : Type 0} (s : Setting) (q p : Pair) (r : Result (List Alt) E) (xs : List Alt) → q ≡ inner p → IfOk r (λ z. z ≡ map (alternative_by s q) xs) →
    IfOk r (λ z. z ≡ map (alternative_by s (inner p)) xs)
choices_told s q p (Ok r) xs eq h = h ∙ ap (λ z. map (alternative_by s z) xs) eq
choices_told s q p (Err f) xs eq h = tt

-- a list, from its parts
module _ (s : Setting) (al : Bool) (p : Pair) where
  pub separated : (form : Symbol → Symbol → Symbol) (x x' y head f g m : Symbol) → head ≡ item_by s al p x' m → f ≡ head → g ≡ item_by s false p y (body_of s false (inner p) y) → x' ≡ x →
      m ≡ body_of s false (inner p) x →
      list_by s al p (form f g) ≡ list_by s al p (form (item_by s al p x (body_of s false (inner p) x)) (item_by s false p y (body_of s false (inner p) y)))
  separated form x x' y head f g m eh ef eg ex em = ap₂ (λ u v. list_by s al p (form u v)) (ef ∙ eh ∙ ap₂ (item_by s al p) ex em) eg

  -- a group, from its alternatives
  pub grouped : AreGathered s (inner p) → (xs ys : List Alt) → ys ≡ map (alternative_by s (inner p)) xs →
      list_by s false p (Group (gathered_alternatives ys)) ≡ list_by s false p (Group (choices_of s (inner p) (gathered_alternatives xs)))
  grouped gathers xs ys ey = ap (λ z. list_by s false p (Group z)) (ap gathered_alternatives ey ∙ gathers.choices xs)

-- one more symbol of a sequence
pub one_more : (s : Setting) (p : Pair) (done new target : List Symbol) (items : List declared.Symbol) (x : declared.Symbol) (i : ℕ) (z : Symbol) →
    done ++ symbols_by s p (map symbol_of (drop i items)) ≡ target → new ≡ done ++ z ∷ [] →
    z ≡ wrapped (tests_of s p (symbol_of x)) (body_of s false p (symbol_of x)) → x ≡ get_or items i x → i < length items →
    new ++ symbols_by s p (map symbol_of (drop (i + 1) items)) ≡ target
one_more s p done new target items x i z inv en ez ex h =
    let here : drop i items ≡ get_or items i x ∷ drop (suc i) items = drop-cons items i x h in
    let rest = symbols_by s p (map symbol_of (drop (suc i) items)) in
    let split : symbols_by s p (map symbol_of (drop i items)) ≡ z ∷ rest =
    ap (λ q. symbols_by s p (map symbol_of q)) here ∙ ap (λ q. wrapped (tests_of s p (symbol_of q)) (body_of s false p (symbol_of q)) ∷ rest) (sym ex) ∙ ap (λ q. q ∷ rest) (sym ez) in
    let next : i + 1 ≡ suc i = omega arith in
    ap₂ (λ a b. a ++ symbols_by s p (map symbol_of (drop b items))) en next ∙ append_assoc done (z ∷ []) rest ∙ sym (ap (λ q. done ++ q) split) ∙ inv
