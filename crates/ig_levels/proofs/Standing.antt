-- What the pass makes of a symbol stands well where the symbol did.
use Rattle.std.proofs.Common.{◌≡◌, ◌∙◌, ℕ, Bool, true, false, List, [], ◌∷◌, ◌++◌, refl, sym, ap, subst}
use Rattle.std.specs.Prelude.{All}
use Rattle.std.specs.List.{flat_map}
use Rattle.std.proofs.lemmas.Grind.{flat_map-append}
use Rattle.std.proofs.lemmas.List.{append-nil}
use Rattle.std.proofs.lemmas.List.Elements.{All-nil}
use Rattle.ig_expr.specs.Expression.{Expression, patterns_in}
use Rattle.ig_text.specs.Pattern.{HasNoEmptyLiteral}
use Rattle.ig_grammar.specs.Symbol.{Symbol, Literal, OneOf, Call, Label, Guard, Let, Opt, Star, Plus, SepStar, SepPlus, Group, Offside, Ignore, Align, Filtered, Seq, Entry}
use Rattle.ig_grammar.specs.Symbol.{Symbols, no_symbols, next_symbol}
use Rattle.ig_grammar.specs.Regular.{IsPlaced, MayHaveLabel, MayHaveMark, MayHaveFilters, MayHaveSign, MayBeSeparated, MayHaveEntry}
use Rattle.ig_grammar.specs.Subterms.{bound_names, names_bound_by}
use Rattle.ig_levels.specs.Levels.{Pair, no_pair, with_pair, in_symbols, pair_arguments}
use Rattle.ig_levels.proofs.Keeping.{Keeps, IsAddedArgument, number, left_variable, right_variable, IsAddedPair}

-- what may stand round the one may stand round the other
pub record StandsAs (x y : Symbol) : Type 0 where
  pub label : MayHaveLabel x → MayHaveLabel y
  pub mark : MayHaveMark x → MayHaveMark y
  pub filters : MayHaveFilters x → MayHaveFilters y
  pub sign : MayHaveSign x → MayHaveSign y
  pub separated : MayBeSeparated x → MayBeSeparated y
  pub entry : MayHaveEntry x → MayHaveEntry y

module _ (levelled : List ℕ → Bool) where
  stands_as : (x : Symbol) (p : Pair) → StandsAs x (with_pair levelled p x)
  stands_as (Literal word) p = record { label = λ h. h; mark = λ h. h; filters = λ h. h; sign = λ h. h; separated = λ h. h; entry = λ h. h }
  stands_as (OneOf class) p = record { label = λ h. h; mark = λ h. h; filters = λ h. h; sign = λ h. h; separated = λ h. h; entry = λ h. h }
  stands_as (Call name arguments) p = record { label = λ h. h; mark = λ h. h; filters = λ h. h; sign = λ h. h; separated = λ h. h; entry = λ h. h }
  stands_as (Label name x) p = record { label = λ h. h; mark = λ h. h; filters = λ h. h; sign = λ h. h; separated = λ h. h; entry = λ h. h }
  stands_as (Guard e) p = record { label = λ h. h; mark = λ h. h; filters = λ h. h; sign = λ h. h; separated = λ h. h; entry = λ h. h }
  stands_as (Let name e) p = record { label = λ h. h; mark = λ h. h; filters = λ h. h; sign = λ h. h; separated = λ h. h; entry = λ h. h }
  stands_as (Opt x) p = record { label = λ h. h; mark = λ h. h; filters = λ h. h; sign = λ h. h; separated = λ h. h; entry = λ h. h }
  stands_as (Star x) p = record { label = λ h. h; mark = λ h. h; filters = λ h. h; sign = λ h. h; separated = λ h. h; entry = λ h. h }
  stands_as (Plus x) p = record { label = λ h. h; mark = λ h. h; filters = λ h. h; sign = λ h. h; separated = λ h. h; entry = λ h. h }
  stands_as (SepStar x separator) p = record { label = λ h. h; mark = λ h. h; filters = λ h. h; sign = λ h. h; separated = λ h. h; entry = λ h. h }
  stands_as (SepPlus x separator) p = record { label = λ h. h; mark = λ h. h; filters = λ h. h; sign = λ h. h; separated = λ h. h; entry = λ h. h }
  stands_as (Group choices) p = record { label = λ h. h; mark = λ h. h; filters = λ h. h; sign = λ h. h; separated = λ h. h; entry = λ h. h }
  stands_as (Offside x) p = record { label = λ h. h; mark = λ h. h; filters = λ h. h; sign = λ h. h; separated = λ h. h; entry = λ h. h }
  stands_as (Ignore x) p = record { label = λ h. h; mark = λ h. h; filters = λ h. h; sign = λ h. h; separated = λ h. h; entry = λ h. h }
  stands_as (Align x) p = record { label = λ h. h; mark = λ h. h; filters = λ h. h; sign = λ h. h; separated = λ h. h; entry = λ h. h }
  stands_as (Filtered x filters) p = record { label = λ h. h; mark = λ h. h; filters = λ h. h; sign = λ h. h; separated = λ h. h; entry = λ h. h }
  stands_as (Seq xs) p = record { label = λ h. h; mark = λ h. h; filters = λ h. h; sign = λ h. h; separated = λ h. h; entry = λ h. h }
  stands_as (Entry bindings x) p = record { label = λ h. h; mark = λ h. h; filters = λ h. h; sign = λ h. h; separated = λ h. h; entry = λ h. h }

  mutual
    pub same_bound_names : (x : Symbol) (p : Pair) → bound_names (with_pair levelled p x) ≡ bound_names x
    same_bound_names (Literal word) p = refl
    same_bound_names (OneOf class) p = refl
    same_bound_names (Call name arguments) p = refl
    same_bound_names (Label name x) p = ap (λ z. z ++ name ∷ []) (same_bound_names x p)
    same_bound_names (Guard e) p = refl
    same_bound_names (Let name e) p = refl
    same_bound_names (Opt x) p = refl
    same_bound_names (Star x) p = refl
    same_bound_names (Plus x) p = refl
    same_bound_names (SepStar x separator) p = refl
    same_bound_names (SepPlus x separator) p = refl
    same_bound_names (Group choices) p = refl
    same_bound_names (Offside x) p = same_bound_names x no_pair
    same_bound_names (Ignore x) p = same_bound_names x no_pair
    same_bound_names (Align x) p = same_bound_names x no_pair
    same_bound_names (Filtered x filters) p = same_bound_names x no_pair
    same_bound_names (Seq xs) p = same_names_bound xs
    same_bound_names (Entry bindings x) p = refl

    same_names_bound : (xs : Symbols) → names_bound_by (in_symbols levelled xs) ≡ names_bound_by xs
    same_names_bound no_symbols = refl
    same_names_bound (next_symbol x xs) = λ z. same_bound_names x no_pair z ++ same_names_bound xs z

  no_pattern : (e : Expression) → IsAddedArgument e → patterns_in e ≡ []
  no_pattern e (number n) = refl
  no_pattern e left_variable = refl
  no_pattern e right_variable = refl

  no_patterns : (b : Bool) (p : Pair) → IsAddedPair p → flat_map patterns_in (pair_arguments b p) ≡ []
  no_patterns true p own = λ z. no_pattern p.left own.left z ++ (no_pattern p.right own.right z ++ [])
  no_patterns false p own = refl

  same_patterns : (arguments : List Expression) (b : Bool) (p : Pair) → IsAddedPair p →
      flat_map patterns_in (arguments ++ pair_arguments b p) ≡ flat_map patterns_in arguments
  same_patterns arguments b p own =
      flat_map-append patterns_in arguments (pair_arguments b p) ∙ ap (λ z. flat_map patterns_in arguments ++ z) (no_patterns b p own) ∙
      append-nil (flat_map patterns_in arguments)

  placed : (x : Symbol) (p : Pair) → IsAddedPair p → IsPlaced x → IsPlaced (with_pair levelled p x)
  placed (Literal word) p own h = h
  placed (OneOf class) p own h = h
  placed (Call name arguments) p own h = (subst (All HasNoEmptyLiteral) (sym (same_patterns arguments (levelled name) p own)) h.0, tt)
  placed (Label name x) p own h = (h.0, (stands_as x p).label h.1)
  placed (Guard e) p own h = h
  placed (Let name e) p own h = h
  placed (Opt x) p own h = (h.0, ((stands_as x no_pair).sign h.1.0, same_bound_names x no_pair ∙ h.1.1))
  placed (Star x) p own h = (h.0, ((stands_as x no_pair).sign h.1.0, same_bound_names x no_pair ∙ h.1.1))
  placed (Plus x) p own h = (h.0, ((stands_as x no_pair).sign h.1.0, same_bound_names x no_pair ∙ h.1.1))
  placed (SepStar x separator) p own h =
      (h.0, ((stands_as x no_pair).separated h.1.0, (stands_as separator no_pair).separated h.1.1, same_bound_names x no_pair ∙ h.1.2, same_bound_names separator no_pair ∙ h.1.3))
  placed (SepPlus x separator) p own h =
      (h.0, ((stands_as x no_pair).separated h.1.0, (stands_as separator no_pair).separated h.1.1, same_bound_names x no_pair ∙ h.1.2, same_bound_names separator no_pair ∙ h.1.3))
  placed (Group choices) p own h = h
  placed (Offside x) p own h = (h.0, (stands_as x no_pair).mark h.1)
  placed (Ignore x) p own h = (h.0, (stands_as x no_pair).mark h.1)
  placed (Align x) p own h = (h.0, (stands_as x no_pair).mark h.1)
  placed (Filtered x filters) p own h = (h.0, (stands_as x no_pair).filters h.1)
  placed (Seq xs) p own h = h
  placed (Entry bindings x) p own h = (h.0, (stands_as x no_pair).entry h.1)

  pub keeps_placed : Keeps levelled IsPlaced IsPlaced
  keeps_placed =
      record {
        symbol = placed;
        left_test = λ level. (All-nil HasNoEmptyLiteral, tt);
        right_test = λ level. (All-nil HasNoEmptyLiteral, tt);
      }
