-- The layout pass adds nothing that binds.
use Rattle.std.proofs.Common.{◌≡◌, ◌∙◌, ℕ, ◌+◌, List, Bool, true, false, map, refl, ap, arith}
use Rattle.std.specs.Prelude.{if◌then◌else◌}
use Rattle.ig_grammar.specs.Name.{is_name}
use Rattle.ig_grammar.specs.Symbol.{Symbol, Literal, OneOf, Call, Label, Guard, Let, Opt, Star, Plus, SepStar, SepPlus, Group, Offside, Ignore, Align, Filtered, Seq, Entry}
use Rattle.ig_grammar.specs.Symbol.{Symbols, no_symbols, next_symbol, Alternatives, no_alternatives, next_alternative, gathered}
use Rattle.ig_grammar.specs.declared.declaration.Decl.{Decl}
use Rattle.ig_pass.specs.Binders.{one_if, binders, binders_of_symbols, binders_of_choices}
use Rattle.ig_pass.specs.Rewriting.{within, rewritten, rewritten_symbols, rewritten_choices}
use Rattle.ig_pass.specs.Gathered.{symbols_gathered}
use Rattle.ig_lexical.specs.Layout.{is_token, then_layout, laid_inside, laid}

module _ (own : Symbol → Symbol) (keeps : (x : Symbol) → binders (own x) ≡ binders x) where
  mutual
    within_binders : (x : Symbol) → binders (within own x) ≡ binders x
    within_binders (Literal word) = refl
    within_binders (OneOf class) = refl
    within_binders (Call name arguments) = refl
    within_binders (Label name x) = ap (λ n. one_if (is_name name) + n) (within_binders x)
    within_binders (Guard e) = refl
    within_binders (Let name e) = refl
    within_binders (Opt x) = keeps (within own x) ∙ within_binders x
    within_binders (Star x) = keeps (within own x) ∙ within_binders x
    within_binders (Plus x) = keeps (within own x) ∙ within_binders x
    within_binders (SepStar x s) = let a = keeps (within own x) ∙ within_binders x in let b = keeps (within own s) ∙ within_binders s in rw (a, b) refl
    within_binders (SepPlus x s) = let a = keeps (within own x) ∙ within_binders x in let b = keeps (within own s) ∙ within_binders s in rw (a, b) refl
    within_binders (Group xs) = choices_binders xs
    within_binders (Offside x) = within_binders x
    within_binders (Ignore x) = within_binders x
    within_binders (Align x) = within_binders x
    within_binders (Filtered x fs) = within_binders x
    within_binders (Seq xs) = symbols_binders xs
    within_binders (Entry bs x) = within_binders x

    symbols_binders : (xs : Symbols) → binders_of_symbols (rewritten_symbols own xs) ≡ binders_of_symbols xs
    symbols_binders no_symbols = refl
    symbols_binders (next_symbol x xs) = let a = keeps (within own x) ∙ within_binders x in let b = symbols_binders xs in rw (a, b) refl

    choices_binders : (xs : Alternatives) → binders_of_choices (rewritten_choices own xs) ≡ binders_of_choices xs
    choices_binders no_alternatives = refl
    choices_binders (next_alternative xs others) = let a = symbols_binders xs in let b = choices_binders others in rw (a, b) refl

  -- as many labels and lets in an alternative as before
  pub same_binders : (xs : List Symbol) → binders_of_symbols (gathered (map (rewritten own) xs)) ≡ binders_of_symbols (gathered xs)
  same_binders xs = ap binders_of_symbols (symbols_gathered own xs) ∙ symbols_binders (gathered xs)

module _ (decls : List Decl) (w : List ℕ) where
  then_binders : (x : Symbol) → binders (then_layout w x) ≡ binders x
  then_binders x = omega arith

  chosen : (x : Symbol) → binders (laid_inside decls w x) ≡ binders x → binders (laid decls w x) ≡ binders x
  chosen x h = go (is_token decls x)
    where
      go : (b : Bool) → binders (if b then then_layout w x else laid_inside decls w x) ≡ binders x
      go true = then_binders x
      go false = h

  inside_binders : (x : Symbol) → binders (laid_inside decls w x) ≡ binders x
  inside_binders (Label name x) = ap (λ n. one_if (is_name name) + n) (inside_binders x)
  inside_binders (Filtered x fs) = inside_binders x
  inside_binders (Entry bs x) = chosen x (inside_binders x)
  inside_binders x = refl

  pub laid_binders : (x : Symbol) → binders (laid decls w x) ≡ binders x
  laid_binders x = chosen x (inside_binders x)
