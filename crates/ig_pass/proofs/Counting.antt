-- Occurrences that bind a name of the notation, counted by the form of the symbols.
use Rattle.std.proofs.Common.{◌≡◌, ◌∙◌, ℕ, ◌+◌, List, [], ◌∷◌, ◌++◌, Bool, false, refl, ap, arith}
use Rattle.std.specs.Prelude.{count_by}
use Rattle.std.proofs.lemmas.List.Sums.{sum_by-append, sum_by-cons}
use Rattle.ig_grammar.specs.Symbol.{Symbol, Literal, OneOf, Call, Label, Guard, Let, Opt, Star, Plus, SepStar, SepPlus, Group, Offside, Ignore, Align, Filtered, Seq, Entry}
use Rattle.ig_grammar.specs.Symbol.{Symbols, no_symbols, next_symbol, Alternatives, no_alternatives, next_alternative}
use Rattle.ig_grammar.specs.Visible.{Visible, Occurrence, at, inside, inside_sequence, inside_choices, binds, replaced}
use Rattle.ig_grammar.specs.Condition.{binds_name}
use Rattle.ig_pass.specs.Binders.{one_if, binders, binders_of_symbols, binders_of_choices}

abbrev binding : Occurrence → Bool
binding o = binds_name o.symbol

abbrev count : List Occurrence → ℕ
count os = count_by binding os

count-cons : (o : Occurrence) (os : List Occurrence) → count (o ∷ os) ≡ one_if (binding o) + count os
count-cons o os = sum_by-cons (λ p. one_if (binding p)) o os

count-join : (os ps : List Occurrence) → count (os ++ ps) ≡ count os + count ps
count-join os ps = sum_by-append (λ p. one_if (binding p)) os ps

count-none : (o : Occurrence) (os : List Occurrence) → binding o ≡ false → count (o ∷ os) ≡ count os
count-none o os e = let a = count-cons o os in let b : one_if (binding o) ≡ 0 = ap one_if e in omega (arith, a, b)

mutual
  all_counted : (x : Symbol) (v : Visible) → count (at v x ∷ inside v x) ≡ binders x
  all_counted (Literal word) v = count-none (at v (Literal word)) [] refl
  all_counted (OneOf class) v = count-none (at v (OneOf class)) [] refl
  all_counted (Call name arguments) v = count-none (at v (Call name arguments)) [] refl
  all_counted (Label name x) v = let a = count-cons (at v (Label name x)) (at v x ∷ inside v x) in let h = all_counted x v in omega (arith, a, h)
  all_counted (Guard e) v = count-none (at v (Guard e)) [] refl
  all_counted (Let name e) v = let a = count-cons (at v (Let name e)) [] in omega (arith, a)
  all_counted (Opt x) v = count-none (at v (Opt x)) (at v x ∷ inside v x) refl ∙ all_counted x v
  all_counted (Star x) v = count-none (at v (Star x)) (at v x ∷ inside v x) refl ∙ all_counted x v
  all_counted (Plus x) v = count-none (at v (Plus x)) (at v x ∷ inside v x) refl ∙ all_counted x v
  all_counted (SepStar x s) v =
      let a = count-cons (at v (SepStar x s)) ((at v x ∷ inside v x) ++ (at v s ∷ inside v s)) in let b = count-join (at v x ∷ inside v x) (at v s ∷ inside v s) in
      let h = all_counted x v in let i = all_counted s v in omega (arith, a, b, h, i)
  all_counted (SepPlus x s) v =
      let a = count-cons (at v (SepPlus x s)) ((at v x ∷ inside v x) ++ (at v s ∷ inside v s)) in let b = count-join (at v x ∷ inside v x) (at v s ∷ inside v s) in
      let h = all_counted x v in let i = all_counted s v in omega (arith, a, b, h, i)
  all_counted (Group xs) v = count-none (at v (Group xs)) (inside_choices v xs) refl ∙ choices_counted xs v
  all_counted (Offside x) v = count-none (at v (Offside x)) (at v x ∷ inside v x) refl ∙ all_counted x v
  all_counted (Ignore x) v = count-none (at v (Ignore x)) (at v x ∷ inside v x) refl ∙ all_counted x v
  all_counted (Align x) v = count-none (at v (Align x)) (at v x ∷ inside v x) refl ∙ all_counted x v
  all_counted (Filtered x fs) v = count-none (at v (Filtered x fs)) (at v x ∷ inside v x) refl ∙ all_counted x v
  all_counted (Seq xs) v = count-none (at v (Seq xs)) (inside_sequence v xs) refl ∙ symbols_counted xs v
  all_counted (Entry bs x) v = count-none (at v (Entry bs x)) (at (replaced v v bs) x ∷ inside (replaced v v bs) x) refl ∙ all_counted x (replaced v v bs)

  pub symbols_counted : (xs : Symbols) (v : Visible) → count (inside_sequence v xs) ≡ binders_of_symbols xs
  symbols_counted no_symbols v = refl
  symbols_counted (next_symbol x xs) v =
      let b = count-join (at v x ∷ inside v x) (inside_sequence (v ++ binds v x) xs) in let h = all_counted x v in let i = symbols_counted xs (v ++ binds v x) in omega (arith, b, h, i)

  choices_counted : (xs : Alternatives) (v : Visible) → count (inside_choices v xs) ≡ binders_of_choices xs
  choices_counted no_alternatives v = refl
  choices_counted (next_alternative xs others) v =
      let b = count-join (inside_sequence v xs) (inside_choices v others) in let h = symbols_counted xs v in let i = choices_counted others v in omega (arith, b, h, i)
