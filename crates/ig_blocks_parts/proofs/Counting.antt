-- The pass adds nothing that binds a name of the notation.
use Rattle.std.proofs.Common.{◌≡◌, ◌∙◌, ◌+◌, List, [], ◌∷◌, ◌++◌, Bool, true, false, refl, ap, ap₂, arith}
use Rattle.ig_grammar.specs.Name.{is_name}
use Rattle.ig_grammar.specs.Binding.{Binding}
use Rattle.ig_grammar.specs.Symbol.{Symbol, Literal, OneOf, Call, Label, Guard, Let, Opt, Star, Plus, SepStar, SepPlus, Group, Offside, Ignore, Align, Filtered, Seq, Entry}
use Rattle.ig_grammar.specs.Symbol.{Symbols, no_symbols, next_symbol, gathered, Alternatives, no_alternatives, next_alternative}
use Rattle.ig_pass.specs.Binders.{one_if, binders, binders_of_symbols, binders_of_choices}
use Rattle.ig_blocks_parts.specs.Setting.{Setting, Pair, opened_by, cleared_by, inner, pair_bindings, column_bindings, column_guards, wrapped, entered}
use Rattle.ig_blocks_parts.specs.Body.{tests_of, body_of, sequence_of, choices_of}
use Rattle.ig_blocks_parts.proofs.MadeForms.{AreTests, tests_are, column_tests_are}

module _ (s : Setting) where
  behind_count : (gs : List Symbol) (y : Symbol) → AreTests s gs → binders_of_symbols (gathered (gs ++ y ∷ [])) ≡ binders y
  behind_count [] y t = omega arith
  behind_count (Guard e ∷ gs) y t = let h = behind_count gs y t in omega (arith, h)
  behind_count (x ∷ gs) y t = absurd t

  wrapped_count : (gs : List Symbol) (y : Symbol) → AreTests s gs → binders (wrapped gs y) ≡ binders y
  wrapped_count [] y t = refl
  wrapped_count (g ∷ gs) y t = behind_count (g ∷ gs) y t

  entered_count : (bs : List Binding) (y : Symbol) → binders (entered bs y) ≡ binders y
  entered_count [] y = refl
  entered_count (b ∷ bs) y = refl

  item_count : (x : Symbol) (al : Bool) (p : Pair) → binders (body_of s false p x) ≡ binders x →
      binders (wrapped (column_guards s al ++ tests_of s p x) (body_of s false p x)) ≡ binders x
  item_count x al p e = wrapped_count (column_guards s al ++ tests_of s p x) (body_of s false p x) (column_tests_are s al (tests_of s p x) (tests_are s x p)) ∙ e

  mutual
    body_count : (x : Symbol) (al : Bool) (p : Pair) → binders (body_of s al p x) ≡ binders x
    body_count (Literal word) al p = refl
    body_count (OneOf class) al p = refl
    body_count (Call name arguments) al p = refl
    body_count (Label name x) al p = ap (λ n. one_if (is_name name) + n) (body_count x false p)
    body_count (Guard e) al p = refl
    body_count (Let name e) al p = refl
    body_count (Opt x) al p = entered_count (pair_bindings s p ++ column_bindings s false) _ ∙ item_count x false (inner p) (body_count x false (inner p))
    body_count (Star x) al p = entered_count (pair_bindings s p ++ column_bindings s al) _ ∙ item_count x al (inner p) (body_count x false (inner p))
    body_count (Plus x) al p = entered_count (pair_bindings s p ++ column_bindings s al) _ ∙ item_count x al (inner p) (body_count x false (inner p))
    body_count (SepStar x separator) al p =
        entered_count (pair_bindings s p ++ column_bindings s al) _ ∙
        ap₂ (λ m n. m + n) (item_count x al (inner p) (body_count x false (inner p))) (item_count separator false (inner p) (body_count separator false (inner p)))
    body_count (SepPlus x separator) al p =
        entered_count (pair_bindings s p ++ column_bindings s al) _ ∙
        ap₂ (λ m n. m + n) (item_count x al (inner p) (body_count x false (inner p))) (item_count separator false (inner p) (body_count separator false (inner p)))
    body_count (Group choices) al p = entered_count (pair_bindings s p ++ column_bindings s false) _ ∙ choices_count choices (inner p)
    body_count (Offside x) al p = body_count x al (opened_by s p)
    body_count (Ignore x) al p = body_count x al (cleared_by p)
    body_count (Align x) al p = body_count x true p
    body_count (Filtered x filters) al p = body_count x al p
    body_count (Seq xs) al p = sequence_count xs p
    body_count (Entry bindings x) al p = body_count x false (inner p)

    pub sequence_count : (xs : Symbols) (p : Pair) → binders_of_symbols (sequence_of s p xs) ≡ binders_of_symbols xs
    sequence_count no_symbols p = refl
    sequence_count (next_symbol x xs) p =
        ap₂ (λ m n. m + n) (wrapped_count (tests_of s p x) (body_of s false p x) (tests_are s x p) ∙ body_count x false p) (sequence_count xs p)

    choices_count : (xs : Alternatives) (p : Pair) → binders_of_choices (choices_of s p xs) ≡ binders_of_choices xs
    choices_count no_alternatives p = refl
    choices_count (next_alternative xs others) p = ap₂ (λ m n. m + n) (sequence_count xs p) (choices_count others p)
