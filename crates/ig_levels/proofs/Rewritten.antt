-- A symbol without bounds is the symbol rewritten by the pass's own rule.
use Rattle.std.proofs.Common.{◌≡◌, ap, refl, ℕ, Bool, List}
use Rattle.ig_expr.specs.Expression.{Expression}
use Rattle.ig_grammar.specs.Symbol.{Symbol, Literal, OneOf, Call, Label, Guard, Let, Opt, Star, Plus, SepStar, SepPlus, Group, Offside, Ignore, Align, Filtered, Seq, Entry}
use Rattle.ig_grammar.specs.Symbol.{Symbols, no_symbols, next_symbol, Alternatives, no_alternatives, next_alternative}
use Rattle.ig_grammar.specs.View.{symbol_of}
use Rattle.ig_grammar.specs.declared.symbol.Symbol as program
use Rattle.ig_grammar.specs.declared.symbol.Symbol.TheVariants as form
use Rattle.ig_pass.specs.Rewriting.{rewritten, rewritten_symbols, rewritten_choices}
use Rattle.ig_levels.specs.Levels.{Pair, no_pair, with_pair, in_symbols, in_alternatives}
use Rattle.ig_levels.specs.Roles.{unasked}

module _ (levelled : List ℕ → Bool) where
  mutual
    pub unbounded : (x : Symbol) → with_pair levelled no_pair x ≡ rewritten (unasked levelled) x
    unbounded (Literal word) = refl
    unbounded (OneOf class) = refl
    unbounded (Call name arguments) = refl
    unbounded (Label name x) = ap (Label name) (unbounded x)
    unbounded (Guard e) = refl
    unbounded (Let name e) = refl
    unbounded (Opt x) = ap Opt (unbounded x)
    unbounded (Star x) = ap Star (unbounded x)
    unbounded (Plus x) = ap Plus (unbounded x)
    unbounded (SepStar x separator) = λ z. SepStar (unbounded x z) (unbounded separator z)
    unbounded (SepPlus x separator) = λ z. SepPlus (unbounded x z) (unbounded separator z)
    unbounded (Group choices) = ap Group (choices_unbounded choices)
    unbounded (Offside x) = ap Offside (unbounded x)
    unbounded (Ignore x) = ap Ignore (unbounded x)
    unbounded (Align x) = ap Align (unbounded x)
    unbounded (Filtered x filters) = λ z. Filtered (unbounded x z) filters
    unbounded (Seq xs) = ap Seq (symbols_unbounded xs)
    unbounded (Entry bindings x) = ap (Entry bindings) (unbounded x)

    symbols_unbounded : (xs : Symbols) → in_symbols levelled xs ≡ rewritten_symbols (unasked levelled) xs
    symbols_unbounded no_symbols = refl
    symbols_unbounded (next_symbol x xs) = λ z. next_symbol (unbounded x z) (symbols_unbounded xs z)

    choices_unbounded : (choices : Alternatives) → in_alternatives levelled choices ≡ rewritten_choices (unasked levelled) choices
    choices_unbounded no_alternatives = refl
    choices_unbounded (next_alternative xs others) = λ z. next_alternative (symbols_unbounded xs z) (choices_unbounded others z)

  -- of other symbols than calls and labels nothing is asked, whatever is asked of operands
  pub others_unbounded : (pair : Pair) (x : program.Symbol) → ((name : List ℕ) (arguments : List Expression) → x ≡ form.Call name arguments → ⊥) →
      ((name : List ℕ) (y : Symbol) → x ≡ form.Label name y → ⊥) → with_pair levelled pair (symbol_of x) ≡ rewritten (unasked levelled) (symbol_of x)
  others_unbounded pair (form.Call name arguments) no_call no_label = absurd (no_call name arguments refl)
  others_unbounded pair (form.Label name y) no_call no_label = absurd (no_label name y refl)
  others_unbounded pair x no_call no_label = unbounded (symbol_of x)
