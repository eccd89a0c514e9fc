-- A name that nothing bound or read is not bound or read either in the grammar without levels, if it is none of the bounds.
use Rattle.std.proofs.Common.{◌⊎◌, ℕ, Bool, true, false, List, [], ◌++◌, subst, inl, inr}
use Rattle.std.specs.Prelude.{◌≢◌, Contains}
use Rattle.std.specs.List.{flat_map}
use Rattle.std.proofs.lemmas.Grind.{flat_map-append}
use Rattle.std.proofs.lemmas.List.{append-nil}
use Rattle.std.proofs.lemmas.List.Elements.{Contains-append_cases}
use Rattle.ig_text.proofs.Lists.{contains_one, none_in_nil}
use Rattle.ig_expr.specs.Expression.{Expression}
use Rattle.ig_grammar.specs.Symbol.{Symbol, Literal, OneOf, Call, Label, Guard, Let, Opt, Star, Plus, SepStar, SepPlus, Group, Offside, Ignore, Align, Filtered, Seq, Entry}
use Rattle.ig_grammar.specs.Condition.{variables}
use Rattle.ig_pass.specs.Added.{left_name, right_name}
use Rattle.ig_pass.specs.Unbound.{LacksName}
use Rattle.ig_levels.specs.Levels.{Pair, with_pair, pair_arguments}
use Rattle.ig_levels.proofs.Keeping.{Keeps, IsAddedArgument, number, left_variable, right_variable, IsAddedPair}

module _ (levelled : List ℕ → Bool) (name : List ℕ) (not_left : name ≢ left_name) (not_right : name ≢ right_name) where
  not_read : (e : Expression) → IsAddedArgument e → Contains (variables e) name → ⊥
  not_read e (number n) h = none_in_nil name h
  not_read e left_variable h = not_left (contains_one left_name name h)
  not_read e right_variable h = not_right (contains_one right_name name h)

  not_in_pair : (b : Bool) (p : Pair) → IsAddedPair p → Contains (flat_map variables (pair_arguments b p)) name → ⊥
  not_in_pair true p own h = go (Contains-append_cases (variables p.left) (variables p.right ++ []) name h)
    where
      go : Contains (variables p.left) name ⊎ Contains (variables p.right ++ []) name → ⊥
      go (inl a) = not_read p.left own.left a
      go (inr b) = not_read p.right own.right (subst (λ z. Contains z name) (append-nil (variables p.right)) b)
  not_in_pair false p own h = none_in_nil name h

  lacks : (x : Symbol) (p : Pair) → IsAddedPair p → LacksName name x → LacksName name (with_pair levelled p x)
  lacks (Literal word) p own none h = none h
  lacks (OneOf class) p own none h = none h
  lacks (Call called arguments) p own none h =
      go (Contains-append_cases (flat_map variables arguments) (flat_map variables (pair_arguments (levelled called) p)) name
      (subst (λ z. Contains z name) (flat_map-append variables arguments (pair_arguments (levelled called) p)) h))
    where
      go : Contains (flat_map variables arguments) name ⊎ Contains (flat_map variables (pair_arguments (levelled called) p)) name → ⊥
      go (inl a) = none a
      go (inr b) = not_in_pair (levelled called) p own b
  lacks (Label bound x) p own none h = none h
  lacks (Guard e) p own none h = none h
  lacks (Let bound e) p own none h = none h
  lacks (Opt x) p own none h = none h
  lacks (Star x) p own none h = none h
  lacks (Plus x) p own none h = none h
  lacks (SepStar x separator) p own none h = none h
  lacks (SepPlus x separator) p own none h = none h
  lacks (Group choices) p own none h = none h
  lacks (Offside x) p own none h = none h
  lacks (Ignore x) p own none h = none h
  lacks (Align x) p own none h = none h
  lacks (Filtered x filters) p own none h = none h
  lacks (Seq xs) p own none h = none h
  lacks (Entry bindings x) p own none h = none h

  pub keeps_lacking : Keeps levelled (LacksName name) (LacksName name)
  keeps_lacking =
      record {
        symbol = lacks;
        left_test = λ level h. not_left (contains_one left_name name h);
        right_test = λ level h. not_right (contains_one right_name name h);
      }
