-- What the pass makes of a symbol wants what the symbol did, so entries stay wanted.
use Rattle.std.proofs.Common.{◌≡◌, ℕ, Bool, true, false, List, [], ◌∷◌, ◌++◌, refl, ap}
use Rattle.std.specs.Prelude.{◌&&◌, ◌||◌, not}
use Rattle.ig_expr.specs.Expression.{Expression}
use Rattle.ig_grammar.specs.Binding.{Binding}
use Rattle.ig_grammar.specs.Symbol.{Symbol, Literal, OneOf, Call, Label, Guard, Let, Opt, Star, Plus, SepStar, SepPlus, Group, Offside, Ignore, Align, Filtered, Seq, Entry}
use Rattle.ig_grammar.specs.Symbol.{Symbols, no_symbols, next_symbol, Alternatives, no_alternatives, next_alternative}
use Rattle.ig_pass.specs.Needs.{uses, any_uses, bindings_use, is_bound, is_pair, needs, symbols_need, alternatives_need, AreWanted, IsEntered}
use Rattle.ig_levels.specs.Levels.{Pair, no_pair, with_pair, in_symbols, in_alternatives, pair_arguments}
use Rattle.ig_levels.proofs.Keeping.{Keeps, IsAddedPair}

abbrev Implies : Bool → Bool → Type 0
Implies a b = a ≡ true → b ≡ true

either : (a b c d : Bool) → Implies a b → Implies c d → Implies (a || c) (b || d)
either true b c d f h e = ap (λ z. z || d) (f refl)
either false true c d f h e = refl
either false false c d f h e = h e

both : (a b c : Bool) → Implies b c → Implies (a && b) (a && c)
both true b c f e = f e
both false b c f e = e

module _ (levelled : List ℕ → Bool) (n : List ℕ) where
  any_more : (es more : List Expression) → Implies (any_uses n es) (any_uses n (es ++ more))
  any_more [] more e = absurd (cc)
  any_more (x ∷ es) more e = either (uses n x) (uses n x) (any_uses n es) (any_uses n (es ++ more)) (λ h. h) (any_more es more) e

  mutual
    pub needs_kept : (x : Symbol) (p : Pair) → Implies (needs n x) (needs n (with_pair levelled p x))
    needs_kept (Literal word) p e = e
    needs_kept (OneOf class) p e = e
    needs_kept (Call name arguments) p e = any_more arguments (pair_arguments (levelled name) p) e
    needs_kept (Label name x) p e = needs_kept x p e
    needs_kept (Guard condition) p e = e
    needs_kept (Let name value) p e = e
    needs_kept (Opt x) p e = either (is_pair n) (is_pair n) (needs n x) (needs n (with_pair levelled no_pair x)) (λ h. h) (needs_kept x no_pair) e
    needs_kept (Star x) p e = either (is_pair n) (is_pair n) (needs n x) (needs n (with_pair levelled no_pair x)) (λ h. h) (needs_kept x no_pair) e
    needs_kept (Plus x) p e = either (is_pair n) (is_pair n) (needs n x) (needs n (with_pair levelled no_pair x)) (λ h. h) (needs_kept x no_pair) e
    needs_kept (SepStar x separator) p e =
        either (is_pair n) (is_pair n) (needs n x || needs n separator) (needs n (with_pair levelled no_pair x) || needs n (with_pair levelled no_pair separator)) (λ h. h)
        (either (needs n x) (needs n (with_pair levelled no_pair x)) (needs n separator) (needs n (with_pair levelled no_pair separator)) (needs_kept x no_pair) (needs_kept separator no_pair)) e
    needs_kept (SepPlus x separator) p e =
        either (is_pair n) (is_pair n) (needs n x || needs n separator) (needs n (with_pair levelled no_pair x) || needs n (with_pair levelled no_pair separator)) (λ h. h)
        (either (needs n x) (needs n (with_pair levelled no_pair x)) (needs n separator) (needs n (with_pair levelled no_pair separator)) (needs_kept x no_pair) (needs_kept separator no_pair)) e
    needs_kept (Group choices) p e = either (is_pair n) (is_pair n) (alternatives_need n choices) (alternatives_need n (in_alternatives levelled choices)) (λ h. h) (alternatives_kept choices) e
    needs_kept (Offside x) p e = needs_kept x no_pair e
    needs_kept (Ignore x) p e = needs_kept x no_pair e
    needs_kept (Align x) p e = needs_kept x no_pair e
    needs_kept (Filtered x filters) p e = needs_kept x no_pair e
    needs_kept (Seq xs) p e = symbols_kept xs e
    needs_kept (Entry bindings x) p e =
        either (bindings_use n bindings) (bindings_use n bindings) (not (is_bound n bindings) && needs n x) (not (is_bound n bindings) && needs n (with_pair levelled no_pair x)) (λ h. h)
        (both (not (is_bound n bindings)) (needs n x) (needs n (with_pair levelled no_pair x)) (needs_kept x no_pair)) e

    symbols_kept : (xs : Symbols) → Implies (symbols_need n xs) (symbols_need n (in_symbols levelled xs))
    symbols_kept no_symbols e = e
    symbols_kept (next_symbol x xs) e =
        either (needs n x) (needs n (with_pair levelled no_pair x)) (symbols_need n xs) (symbols_need n (in_symbols levelled xs)) (needs_kept x no_pair) (symbols_kept xs) e

    alternatives_kept : (choices : Alternatives) → Implies (alternatives_need n choices) (alternatives_need n (in_alternatives levelled choices))
    alternatives_kept no_alternatives e = e
    alternatives_kept (next_alternative xs others) e =
        either (symbols_need n xs) (symbols_need n (in_symbols levelled xs)) (alternatives_need n others) (alternatives_need n (in_alternatives levelled others)) (symbols_kept xs) (alternatives_kept others) e

wanted_kept : (wanted more : List ℕ → Bool) → ((n : List ℕ) → Implies (wanted n) (more n)) → (bs : List Binding) → AreWanted wanted bs → AreWanted more bs
wanted_kept wanted more f [] h = tt
wanted_kept wanted more f (b ∷ bs) h = (f b.name h.0, h.1, wanted_kept wanted more f bs h.2)

module _ (levelled : List ℕ → Bool) where
  entered : (x : Symbol) (p : Pair) → IsAddedPair p → IsEntered x → IsEntered (with_pair levelled p x)
  entered (Literal word) p own h = tt
  entered (OneOf class) p own h = tt
  entered (Call name arguments) p own h = tt
  entered (Label name x) p own h = tt
  entered (Guard e) p own h = tt
  entered (Let name e) p own h = tt
  entered (Opt x) p own h = tt
  entered (Star x) p own h = tt
  entered (Plus x) p own h = tt
  entered (SepStar x separator) p own h = tt
  entered (SepPlus x separator) p own h = tt
  entered (Group choices) p own h = tt
  entered (Offside x) p own h = tt
  entered (Ignore x) p own h = tt
  entered (Align x) p own h = tt
  entered (Filtered x filters) p own h = tt
  entered (Seq xs) p own h = tt
  entered (Entry bindings x) p own h = wanted_kept (λ n. needs n x) (λ n. needs n (with_pair levelled no_pair x)) (λ n. needs_kept levelled n x no_pair) bindings h

  pub keeps_entered : Keeps levelled IsEntered IsEntered
  keeps_entered = record { symbol = entered; left_test = λ level. tt; right_test = λ level. tt }
