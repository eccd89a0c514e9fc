-- How much the pass adds: each symbol becomes at most five, and no alternative is added.
use Rattle.std.proofs.Common.{◌≡◌, ◌∙◌, ℕ, ◌+◌, ◌*◌, ◌≤◌, Bool, true, false, if◌then◌else◌, List, [], ◌∷◌, ◌++◌, Option, Some, None, length, map, refl, sym, subst, arith}
use Rattle.std.specs.Prelude.{sum_by}
use Rattle.std.proofs.lemmas.List.Sums.{sum_by-cons}
use Rattle.ig_grammar.specs.Alternative.{gathered_alternatives}
use Rattle.ig_grammar.specs.Binding.{Binding}
use Rattle.ig_grammar.specs.Checked.{CheckedGrammar}
use Rattle.ig_grammar.specs.Laws.{CountsByForm}
use Rattle.ig_grammar.specs.Counts.{HasFewerThan, alternatives_among, alternatives_inside, alternatives_inside_symbols, parts, parts_of_symbols, parts_of_alternatives}
use Rattle.ig_grammar.specs.Symbol.{Symbol, Literal, OneOf, Call, Label, Guard, Let, Opt, Star, Plus, SepStar, SepPlus, Group, Offside, Ignore, Align, Filtered, Seq, Entry}
use Rattle.ig_grammar.specs.Symbol.{Symbols, no_symbols, next_symbol, gathered, Alternatives, no_alternatives, next_alternative}
use Rattle.ig_grammar.specs.declared.declaration.DeclKind.{DeclKind}
use Rattle.ig_grammar.specs.declared.declaration.DeclKind.TheVariants.{Syntax, Lexical, Layout, Plain}
use Rattle.ig_grammar.specs.declared.declaration.Level.{Level}
use Rattle.ig_grammar.specs.declared.declaration.Decl.{Decl}
use Rattle.ig_grammar.specs.declared.filter.Filter.{Filter}
use Rattle.ig_grammar.specs.declared.place.Shape.{Shape}
use Rattle.ig_pass.specs.Counts.{CountsGrow, LevelsGrow, alternatives_of_levels, parts_of_levels}
use Rattle.ig_pass.specs.Rooted.{is_root, rooted}
use Rattle.ig_blocks_parts.specs.Setting.{Setting, Pair, lacking, carried, opened, cleared, opened_by, cleared_by, inner, pair_bindings, column_bindings, guards, column_guards, pair_for, wrapped, entered}
use Rattle.ig_blocks_parts.specs.Body.{call_tests, tests_of, body_of, sequence_of, choices_of}
use Rattle.ig_blocks_parts.specs.Blocks.{level_by, declaration_by, root_by, lowered_declaration, lowered_declarations, setting_of, lowered_of}
use Rattle.ig_blocks_parts.specs.Laws.{BlocksMultiply}
use Rattle.ig_blocks_parts.proofs.MadeForms.{AreTests, tests_are, column_tests_are}
use Rattle.ig_blocks_parts.proofs.Choices.{choices_by}

-- y, in place of x, has at most five times as many parts, `extra` more, less the room that is left; and as many alternatives
record Fits (room extra : ℕ) (x y : Symbol) : Type 0 where
  parts_fit : parts y + room ≤ 5 * parts x + extra
  same_alternatives : alternatives_inside y ≡ alternatives_inside x

-- the same of symbols in a row, and of alternatives
record SymbolsFit (xs ys : Symbols) : Type 0 where
  parts_fit : parts_of_symbols ys ≤ 5 * parts_of_symbols xs
  same_alternatives : alternatives_inside_symbols ys ≡ alternatives_inside_symbols xs

record AlternativesFit (xs ys : Alternatives) : Type 0 where
  parts_fit : parts_of_alternatives ys ≤ 5 * parts_of_alternatives xs
  same_alternatives : alternatives_among ys ≡ alternatives_among xs

-- no more declarations, and each with levels that grow so
record DeclarationsGrow (before after : List Decl) : Type 0 where
  number : length after ≤ length before
  levels : sum_by (λ decl. length decl.levels) after ≤ 5 * sum_by (λ decl. length decl.levels) before
  alternatives : sum_by (λ decl. alternatives_of_levels decl.levels) after ≤ 5 * sum_by (λ decl. alternatives_of_levels decl.levels) before
  symbols : sum_by (λ decl. parts_of_levels decl.levels) after ≤ 5 * sum_by (λ decl. parts_of_levels decl.levels) before

-- the tests before a symbol are one at most, but for that of a column
module _ (s : Setting) where
  guards_few : (p : Pair) → length (guards s p) ≤ 1
  guards_few lacking = omega arith
  guards_few carried = omega arith
  guards_few (opened a b) = omega arith
  guards_few cleared = omega arith

  call_few : (p : Pair) (kind : Option DeclKind) → length (call_tests s p kind) ≤ 1
  call_few p (Some Lexical) = guards_few p
  call_few p (Some Syntax) = omega arith
  call_few p (Some Layout) = omega arith
  call_few p (Some Plain) = omega arith
  call_few p None = omega arith

  tests_few : (x : Symbol) (p : Pair) → length (tests_of s p x) ≤ 1
  tests_few (Literal word) p = guards_few p
  tests_few (OneOf class) p = guards_few p
  tests_few (Call name arguments) p = call_few p (s.kind_of name)
  tests_few (Label name x) p = tests_few x p
  tests_few (Offside x) p = tests_few x (opened_by s p)
  tests_few (Ignore x) p = tests_few x (cleared_by p)
  tests_few (Filtered x filters) p = tests_few x p
  tests_few x p = omega arith

  column_few : (al : Bool) (gs : List Symbol) → length gs ≤ 1 → length (column_guards s al ++ gs) ≤ 2
  column_few false gs h = omega (arith, h)
  column_few true gs h = omega (arith, h)

-- by the counts of a symbol and of those directly inside it
module _ (by_form : CountsByForm) (s : Setting) where
  behind_fits : (gs : List Symbol) (y : Symbol) → AreTests s gs →
      (parts_of_symbols (gathered (gs ++ y ∷ [])) ≡ length gs + parts y) × (alternatives_inside_symbols (gathered (gs ++ y ∷ [])) ≡ alternatives_inside y)
  behind_fits [] y t =
      let p : parts_of_symbols (next_symbol y no_symbols) ≡ parts y + parts_of_symbols no_symbols = by_form.parts_among_symbols (next_symbol y no_symbols) in
      let q : alternatives_inside_symbols (next_symbol y no_symbols) ≡ alternatives_inside y + alternatives_inside_symbols no_symbols = by_form.alternatives_of_symbols (next_symbol y no_symbols) in
      let m : parts_of_symbols no_symbols ≡ 0 = by_form.parts_among_symbols no_symbols in
      let n : alternatives_inside_symbols no_symbols ≡ 0 = by_form.alternatives_of_symbols no_symbols in
      (omega (arith, p, m), omega (arith, q, n))
  behind_fits (Guard e ∷ gs) y t =
      let rest = gathered (gs ++ y ∷ []) in
      let p : parts_of_symbols (next_symbol (Guard e) rest) ≡ parts (Guard e) + parts_of_symbols rest = by_form.parts_among_symbols (next_symbol (Guard e) rest) in
      let q : alternatives_inside_symbols (next_symbol (Guard e) rest) ≡ alternatives_inside (Guard e) + alternatives_inside_symbols rest =
      by_form.alternatives_of_symbols (next_symbol (Guard e) rest) in
      let m : parts (Guard e) ≡ 1 + 0 = by_form.parts_of (Guard e) in
      let n : alternatives_inside (Guard e) ≡ 0 + 0 = by_form.alternatives_of (Guard e) in
      let h : parts_of_symbols rest ≡ length gs + parts y = (behind_fits gs y t).0 in
      let i : alternatives_inside_symbols rest ≡ alternatives_inside y = (behind_fits gs y t).1 in
      (omega (arith, p, m, h), omega (arith, q, n, i))
  behind_fits (x ∷ gs) y t = absurd t

  -- a symbol behind tests is one more, besides those
  wrapped_fits : (gs : List Symbol) (y : Symbol) → AreTests s gs →
      (parts (wrapped gs y) ≤ 1 + length gs + parts y) × (alternatives_inside (wrapped gs y) ≡ alternatives_inside y)
  wrapped_fits [] y t = (omega arith, refl)
  wrapped_fits (g ∷ gs) y t =
      let row = gathered (g ∷ gs ++ y ∷ []) in
      let p : parts (Seq row) ≡ 1 + parts_of_symbols row = by_form.parts_of (Seq row) in
      let q : alternatives_inside (Seq row) ≡ 0 + alternatives_inside_symbols row = by_form.alternatives_of (Seq row) in
      let h : parts_of_symbols row ≡ length (g ∷ gs) + parts y = (behind_fits (g ∷ gs) y t).0 in
      let i : alternatives_inside_symbols row ≡ alternatives_inside y = (behind_fits (g ∷ gs) y t).1 in
      (omega (arith, p, h), omega (arith, q, i))

  -- with two tests at most before an item of a list, and one elsewhere
  tested_fits : (extra : ℕ) (gs : List Symbol) (x y : Symbol) → AreTests s gs → length gs ≤ 1 + extra → Fits 2 0 x y → Fits 0 extra x (wrapped gs y)
  tested_fits extra gs x y t few f =
      let a : parts y + 2 ≤ 5 * parts x + 0 = f.parts_fit in
      let w : parts (wrapped gs y) ≤ 1 + length gs + parts y = (wrapped_fits gs y t).0 in
      record { parts_fit = omega (arith, a, w, few); same_alternatives = (wrapped_fits gs y t).1 ∙ f.same_alternatives }

  apart_fits : (x : Symbol) (p : Pair) → Fits 2 0 x (body_of s false p x) → Fits 0 0 x (wrapped (tests_of s p x) (body_of s false p x))
  apart_fits x p = tested_fits 0 (tests_of s p x) x (body_of s false p x) (tests_are s x p) (tests_few s x p)

  item_fits : (x : Symbol) (al : Bool) (p : Pair) → Fits 2 0 x (body_of s false p x) →
      Fits 0 1 x (wrapped (column_guards s al ++ tests_of s p x) (body_of s false p x))
  item_fits x al p =
      tested_fits 1 (column_guards s al ++ tests_of s p x) x (body_of s false p x) (column_tests_are s al (tests_of s p x) (tests_are s x p))
      (column_few s al (tests_of s p x) (tests_few s x p))

  entered_fits : (bs : List Binding) (x y : Symbol) → Fits 3 0 x y → Fits 2 0 x (entered bs y)
  entered_fits [] x y f =
      let a : parts y + 3 ≤ 5 * parts x + 0 = f.parts_fit in record { parts_fit = omega (arith, a); same_alternatives = f.same_alternatives }
  entered_fits (c ∷ bs) x y f =
      let a : parts y + 3 ≤ 5 * parts x + 0 = f.parts_fit in
      let p : parts (Entry (c ∷ bs) y) ≡ 1 + parts y = by_form.parts_of (Entry (c ∷ bs) y) in
      let q : alternatives_inside (Entry (c ∷ bs) y) ≡ 0 + alternatives_inside y = by_form.alternatives_of (Entry (c ∷ bs) y) in
      let b : alternatives_inside y ≡ alternatives_inside x = f.same_alternatives in
      record { parts_fit = omega (arith, a, p); same_alternatives = omega (arith, b, q) }

  -- a symbol and what stands in its place, each with one part of its own
  alone : (x y : Symbol) → parts x ≡ 1 + 0 → parts y ≡ 1 + 0 → alternatives_inside x ≡ 0 + 0 → alternatives_inside y ≡ 0 + 0 → Fits 2 0 x y
  alone x y p q i j = record { parts_fit = omega (arith, p, q); same_alternatives = j ∙ sym i }

  round : (x y v w : Symbol) → parts v ≡ 1 + parts x → parts w ≡ 1 + parts y → alternatives_inside v ≡ 0 + alternatives_inside x →
      alternatives_inside w ≡ 0 + alternatives_inside y → Fits 2 0 x y → Fits 2 0 v w
  round x y v w p q i j f =
      let a : parts y + 2 ≤ 5 * parts x + 0 = f.parts_fit in
      let b : alternatives_inside y ≡ alternatives_inside x = f.same_alternatives in
      record { parts_fit = omega (arith, p, q, a); same_alternatives = omega (arith, i, j, b) }

  -- a mark goes
  marked : (x y v : Symbol) → parts v ≡ 1 + parts x → alternatives_inside v ≡ 0 + alternatives_inside x → Fits 2 0 x y → Fits 2 0 v y
  marked x y v p i f =
      let a : parts y + 2 ≤ 5 * parts x + 0 = f.parts_fit in
      let b : alternatives_inside y ≡ alternatives_inside x = f.same_alternatives in
      record { parts_fit = omega (arith, p, a); same_alternatives = omega (arith, i, b) }

  -- a list or an option
  one_item : (bs : List Binding) (x y v w : Symbol) → parts v ≡ 1 + parts x → parts w ≡ 1 + parts y → alternatives_inside v ≡ 0 + alternatives_inside x →
      alternatives_inside w ≡ 0 + alternatives_inside y → Fits 0 1 x y → Fits 2 0 v (entered bs w)
  one_item bs x y v w p q i j f =
      let a : parts y + 0 ≤ 5 * parts x + 1 = f.parts_fit in
      let b : alternatives_inside y ≡ alternatives_inside x = f.same_alternatives in
      entered_fits bs v w (record { parts_fit = omega (arith, p, q, a); same_alternatives = omega (arith, i, j, b) })

  -- a list with a separator
  two_items : (bs : List Binding) (x y f g v w : Symbol) → parts v ≡ 1 + (parts x + parts y) → parts w ≡ 1 + (parts f + parts g) →
      alternatives_inside v ≡ 0 + (alternatives_inside x + alternatives_inside y) → alternatives_inside w ≡ 0 + (alternatives_inside f + alternatives_inside g) →
      Fits 0 1 x f → Fits 0 0 y g → Fits 2 0 v (entered bs w)
  two_items bs x y f g v w p q i j k l =
      let a : parts f + 0 ≤ 5 * parts x + 1 = k.parts_fit in
      let b : alternatives_inside f ≡ alternatives_inside x = k.same_alternatives in
      let c : parts g + 0 ≤ 5 * parts y + 0 = l.parts_fit in
      let d : alternatives_inside g ≡ alternatives_inside y = l.same_alternatives in
      entered_fits bs v w (record { parts_fit = omega (arith, p, q, a, c); same_alternatives = omega (arith, i, j, b, d) })

  grouped_fits : (bs : List Binding) (xs ys : Alternatives) → AlternativesFit xs ys → Fits 2 0 (Group xs) (entered bs (Group ys))
  grouped_fits bs xs ys f =
      let p : parts (Group xs) ≡ 1 + parts_of_alternatives xs = by_form.parts_of (Group xs) in
      let q : parts (Group ys) ≡ 1 + parts_of_alternatives ys = by_form.parts_of (Group ys) in
      let i : alternatives_inside (Group xs) ≡ alternatives_among xs = by_form.alternatives_of_group xs in
      let j : alternatives_inside (Group ys) ≡ alternatives_among ys = by_form.alternatives_of_group ys in
      let a : parts_of_alternatives ys ≤ 5 * parts_of_alternatives xs = f.parts_fit in
      entered_fits bs (Group xs) (Group ys)
      (record { parts_fit = omega (arith, p, q, a); same_alternatives = j ∙ f.same_alternatives ∙ sym i })

  filtered_fits : (x y : Symbol) (fs : List Filter) → Fits 2 0 x y → Fits 2 0 (Filtered x fs) (Filtered y fs)
  filtered_fits x y fs f =
      let p : parts (Filtered x fs) ≡ (length fs + 1) + parts x = by_form.parts_of (Filtered x fs) in
      let q : parts (Filtered y fs) ≡ (length fs + 1) + parts y = by_form.parts_of (Filtered y fs) in
      let i : alternatives_inside (Filtered x fs) ≡ 0 + alternatives_inside x = by_form.alternatives_of (Filtered x fs) in
      let j : alternatives_inside (Filtered y fs) ≡ 0 + alternatives_inside y = by_form.alternatives_of (Filtered y fs) in
      let a : parts y + 2 ≤ 5 * parts x + 0 = f.parts_fit in
      let b : alternatives_inside y ≡ alternatives_inside x = f.same_alternatives in
      record { parts_fit = omega (arith, p, q, a); same_alternatives = omega (arith, i, j, b) }

  sequence_fits : (xs ys : Symbols) → SymbolsFit xs ys → Fits 2 0 (Seq xs) (Seq ys)
  sequence_fits xs ys f =
      let p : parts (Seq xs) ≡ 1 + parts_of_symbols xs = by_form.parts_of (Seq xs) in
      let q : parts (Seq ys) ≡ 1 + parts_of_symbols ys = by_form.parts_of (Seq ys) in
      let i : alternatives_inside (Seq xs) ≡ 0 + alternatives_inside_symbols xs = by_form.alternatives_of (Seq xs) in
      let j : alternatives_inside (Seq ys) ≡ 0 + alternatives_inside_symbols ys = by_form.alternatives_of (Seq ys) in
      let a : parts_of_symbols ys ≤ 5 * parts_of_symbols xs = f.parts_fit in
      let b : alternatives_inside_symbols ys ≡ alternatives_inside_symbols xs = f.same_alternatives in
      record { parts_fit = omega (arith, p, q, a); same_alternatives = omega (arith, i, j, b) }

  further_symbol : (x y : Symbol) (xs ys : Symbols) → Fits 0 0 x y → SymbolsFit xs ys → SymbolsFit (next_symbol x xs) (next_symbol y ys)
  further_symbol x y xs ys f g =
      let p : parts_of_symbols (next_symbol x xs) ≡ parts x + parts_of_symbols xs = by_form.parts_among_symbols (next_symbol x xs) in
      let q : parts_of_symbols (next_symbol y ys) ≡ parts y + parts_of_symbols ys = by_form.parts_among_symbols (next_symbol y ys) in
      let i : alternatives_inside_symbols (next_symbol x xs) ≡ alternatives_inside x + alternatives_inside_symbols xs =
      by_form.alternatives_of_symbols (next_symbol x xs) in
      let j : alternatives_inside_symbols (next_symbol y ys) ≡ alternatives_inside y + alternatives_inside_symbols ys =
      by_form.alternatives_of_symbols (next_symbol y ys) in
      let a : parts y + 0 ≤ 5 * parts x + 0 = f.parts_fit in
      let b : alternatives_inside y ≡ alternatives_inside x = f.same_alternatives in
      let c : parts_of_symbols ys ≤ 5 * parts_of_symbols xs = g.parts_fit in
      let d : alternatives_inside_symbols ys ≡ alternatives_inside_symbols xs = g.same_alternatives in
      record { parts_fit = omega (arith, p, q, a, c); same_alternatives = omega (arith, i, j, b, d) }

  further_choice : (xs ys : Symbols) (others more : Alternatives) → SymbolsFit xs ys → AlternativesFit others more →
      AlternativesFit (next_alternative xs others) (next_alternative ys more)
  further_choice xs ys others more f g =
      let p : parts_of_alternatives (next_alternative xs others) ≡ parts_of_symbols xs + parts_of_alternatives others =
      by_form.parts_among_alternatives (next_alternative xs others) in
      let q : parts_of_alternatives (next_alternative ys more) ≡ parts_of_symbols ys + parts_of_alternatives more =
      by_form.parts_among_alternatives (next_alternative ys more) in
      let i : alternatives_among (next_alternative xs others) ≡ alternatives_inside_symbols xs + alternatives_among others + 1 = by_form.further_alternative xs others in
      let j : alternatives_among (next_alternative ys more) ≡ alternatives_inside_symbols ys + alternatives_among more + 1 = by_form.further_alternative ys more in
      let a : parts_of_symbols ys ≤ 5 * parts_of_symbols xs = f.parts_fit in
      let b : alternatives_inside_symbols ys ≡ alternatives_inside_symbols xs = f.same_alternatives in
      let c : parts_of_alternatives more ≤ 5 * parts_of_alternatives others = g.parts_fit in
      let d : alternatives_among more ≡ alternatives_among others = g.same_alternatives in
      record { parts_fit = omega (arith, p, q, a, c); same_alternatives = omega (arith, i, j, b, d) }

  mutual
    body_fits : (x : Symbol) (al : Bool) (p : Pair) → Fits 2 0 x (body_of s al p x)
    body_fits (Literal word) al p =
        let i = by_form.parts_of (Literal word) in let j = by_form.alternatives_of (Literal word) in alone (Literal word) (Literal word) i i j j
    body_fits (OneOf class) al p =
        let i = by_form.parts_of (OneOf class) in let j = by_form.alternatives_of (OneOf class) in alone (OneOf class) (OneOf class) i i j j
    body_fits (Call name arguments) al p =
        let x = Call name arguments in
        let y = body_of s al p x in
        alone x y (by_form.parts_of x) (by_form.parts_of y) (by_form.alternatives_of x) (by_form.alternatives_of y)
    body_fits (Label name x) al p =
        let y = body_of s false p x in
        round x y (Label name x) (Label name y) (by_form.parts_of (Label name x)) (by_form.parts_of (Label name y))
        (by_form.alternatives_of (Label name x)) (by_form.alternatives_of (Label name y)) (body_fits x false p)
    body_fits (Guard e) al p = let i = by_form.parts_of (Guard e) in let j = by_form.alternatives_of (Guard e) in alone (Guard e) (Guard e) i i j j
    body_fits (Let name e) al p =
        let i = by_form.parts_of (Let name e) in let j = by_form.alternatives_of (Let name e) in alone (Let name e) (Let name e) i i j j
    body_fits (Opt x) al p =
        let y = wrapped (tests_of s (inner p) x) (body_of s false (inner p) x) in
        one_item (pair_bindings s p ++ column_bindings s false) x y (Opt x) (Opt y) (by_form.parts_of (Opt x)) (by_form.parts_of (Opt y))
        (by_form.alternatives_of (Opt x)) (by_form.alternatives_of (Opt y)) (item_fits x false (inner p) (body_fits x false (inner p)))
    body_fits (Star x) al p =
        let y = wrapped (column_guards s al ++ tests_of s (inner p) x) (body_of s false (inner p) x) in
        one_item (pair_bindings s p ++ column_bindings s al) x y (Star x) (Star y) (by_form.parts_of (Star x)) (by_form.parts_of (Star y))
        (by_form.alternatives_of (Star x)) (by_form.alternatives_of (Star y)) (item_fits x al (inner p) (body_fits x false (inner p)))
    body_fits (Plus x) al p =
        let y = wrapped (column_guards s al ++ tests_of s (inner p) x) (body_of s false (inner p) x) in
        one_item (pair_bindings s p ++ column_bindings s al) x y (Plus x) (Plus y) (by_form.parts_of (Plus x)) (by_form.parts_of (Plus y))
        (by_form.alternatives_of (Plus x)) (by_form.alternatives_of (Plus y)) (item_fits x al (inner p) (body_fits x false (inner p)))
    body_fits (SepStar x z) al p =
        let f = wrapped (column_guards s al ++ tests_of s (inner p) x) (body_of s false (inner p) x) in
        let g = wrapped (tests_of s (inner p) z) (body_of s false (inner p) z) in
        two_items (pair_bindings s p ++ column_bindings s al) x z f g (SepStar x z) (SepStar f g) (by_form.parts_of (SepStar x z)) (by_form.parts_of (SepStar f g))
        (by_form.alternatives_of (SepStar x z)) (by_form.alternatives_of (SepStar f g)) (item_fits x al (inner p) (body_fits x false (inner p)))
        (apart_fits z (inner p) (body_fits z false (inner p)))
    body_fits (SepPlus x z) al p =
        let f = wrapped (column_guards s al ++ tests_of s (inner p) x) (body_of s false (inner p) x) in
        let g = wrapped (tests_of s (inner p) z) (body_of s false (inner p) z) in
        two_items (pair_bindings s p ++ column_bindings s al) x z f g (SepPlus x z) (SepPlus f g) (by_form.parts_of (SepPlus x z)) (by_form.parts_of (SepPlus f g))
        (by_form.alternatives_of (SepPlus x z)) (by_form.alternatives_of (SepPlus f g)) (item_fits x al (inner p) (body_fits x false (inner p)))
        (apart_fits z (inner p) (body_fits z false (inner p)))
    body_fits (Group choices) al p =
        grouped_fits (pair_bindings s p ++ column_bindings s false) choices (choices_of s (inner p) choices) (choices_fit choices (inner p))
    body_fits (Offside x) al p =
        marked x (body_of s al (opened_by s p) x) (Offside x) (by_form.parts_of (Offside x)) (by_form.alternatives_of (Offside x)) (body_fits x al (opened_by s p))
    body_fits (Ignore x) al p =
        marked x (body_of s al (cleared_by p) x) (Ignore x) (by_form.parts_of (Ignore x)) (by_form.alternatives_of (Ignore x)) (body_fits x al (cleared_by p))
    body_fits (Align x) al p =
        marked x (body_of s true p x) (Align x) (by_form.parts_of (Align x)) (by_form.alternatives_of (Align x)) (body_fits x true p)
    body_fits (Filtered x filters) al p = filtered_fits x (body_of s al p x) filters (body_fits x al p)
    body_fits (Seq xs) al p = sequence_fits xs (sequence_of s p xs) (symbols_fit xs p)
    body_fits (Entry bindings x) al p =
        let y = body_of s false (inner p) x in
        let bs = bindings ++ pair_bindings s p in
        round x y (Entry bindings x) (Entry bs y) (by_form.parts_of (Entry bindings x)) (by_form.parts_of (Entry bs y))
        (by_form.alternatives_of (Entry bindings x)) (by_form.alternatives_of (Entry bs y)) (body_fits x false (inner p))

    symbols_fit : (xs : Symbols) (p : Pair) → SymbolsFit xs (sequence_of s p xs)
    symbols_fit no_symbols p =
        let h : parts_of_symbols no_symbols ≡ 0 = by_form.parts_among_symbols no_symbols in record { parts_fit = omega (arith, h); same_alternatives = refl }
    symbols_fit (next_symbol x xs) p =
        further_symbol x (wrapped (tests_of s p x) (body_of s false p x)) xs (sequence_of s p xs) (apart_fits x p (body_fits x false p)) (symbols_fit xs p)

    choices_fit : (xs : Alternatives) (p : Pair) → AlternativesFit xs (choices_of s p xs)
    choices_fit no_alternatives p =
        let h : parts_of_alternatives no_alternatives ≡ 0 = by_form.parts_among_alternatives no_alternatives in
        record { parts_fit = omega (arith, h); same_alternatives = refl }
    choices_fit (next_alternative xs others) p =
        further_choice xs (sequence_of s p xs) others (choices_of s p others) (symbols_fit xs p) (choices_fit others p)

  level_fits : (p : Pair) (l : Level) → AlternativesFit (gathered_alternatives l.alts) (gathered_alternatives (level_by s p l).alts)
  level_fits p l =
      subst (AlternativesFit (gathered_alternatives l.alts)) (sym (choices_by s p l.alts)) (choices_fit (gathered_alternatives l.alts) p)

  levels_grow : (p : Pair) (ls : List Level) → LevelsGrow 5 ls (map (level_by s p) ls)
  levels_grow p [] = record { levels = omega arith; alternatives = omega arith; symbols = omega arith }
  levels_grow p (l ∷ ls) =
      let count : Level → ℕ = λ level. parts_of_alternatives (gathered_alternatives level.alts) in
      let number : Level → ℕ = λ level. alternatives_among (gathered_alternatives level.alts) in
      let m = level_by s p l in
      let ms = map (level_by s p) ls in
      let h : LevelsGrow 5 ls ms = levels_grow p ls in
      let a : length ms ≤ 5 * length ls = h.levels in
      let b : sum_by number ms ≤ 5 * sum_by number ls = h.alternatives in
      let c : sum_by count ms ≤ 5 * sum_by count ls = h.symbols in
      let d : count m ≤ 5 * count l = (level_fits p l).parts_fit in
      let e : number m ≡ number l = (level_fits p l).same_alternatives in
      let i : sum_by number (l ∷ ls) ≡ number l + sum_by number ls = sum_by-cons number l ls in
      let j : sum_by number (m ∷ ms) ≡ number m + sum_by number ms = sum_by-cons number m ms in
      let o : sum_by count (l ∷ ls) ≡ count l + sum_by count ls = sum_by-cons count l ls in
      let q : sum_by count (m ∷ ms) ≡ count m + sum_by count ms = sum_by-cons count m ms in
      record { levels = omega (arith, a); alternatives = omega (arith, b, e, i, j); symbols = omega (arith, c, d, o, q) }

  declaration_grows : (d : Decl) (root : Bool) → LevelsGrow 5 d.levels (if root then root_by s d else declaration_by s d).levels
  declaration_grows d true = levels_grow lacking d.levels
  declaration_grows d false = levels_grow (pair_for s d.kind) d.levels

  declarations_grow : (shapes : List Shape) (ds : List Decl) → DeclarationsGrow ds (lowered_declarations s shapes ds)
  declarations_grow [] ds = record { number = omega arith; levels = omega arith; alternatives = omega arith; symbols = omega arith }
  declarations_grow (shape ∷ shapes) [] = record { number = omega arith; levels = omega arith; alternatives = omega arith; symbols = omega arith }
  declarations_grow (shape ∷ shapes) (d ∷ ds) =
      let size : Decl → ℕ = λ decl. length decl.levels in
      let count : Decl → ℕ = λ decl. parts_of_levels decl.levels in
      let number : Decl → ℕ = λ decl. alternatives_of_levels decl.levels in
      let e = lowered_declaration s shape d in
      let es = lowered_declarations s shapes ds in
      let g : LevelsGrow 5 d.levels e.levels = declaration_grows d (is_root shape) in
      let h : DeclarationsGrow ds es = declarations_grow shapes ds in
      let a : length es ≤ length ds = h.number in
      let b : sum_by size es ≤ 5 * sum_by size ds = h.levels in
      let c : sum_by number es ≤ 5 * sum_by number ds = h.alternatives in
      let f : sum_by count es ≤ 5 * sum_by count ds = h.symbols in
      let i : size e ≤ 5 * size d = g.levels in
      let j : number e ≤ 5 * number d = g.alternatives in
      let k : count e ≤ 5 * count d = g.symbols in
      let l : sum_by size (d ∷ ds) ≡ size d + sum_by size ds = sum_by-cons size d ds in
      let m : sum_by size (e ∷ es) ≡ size e + sum_by size es = sum_by-cons size e es in
      let n : sum_by number (d ∷ ds) ≡ number d + sum_by number ds = sum_by-cons number d ds in
      let o : sum_by number (e ∷ es) ≡ number e + sum_by number es = sum_by-cons number e es in
      let p : sum_by count (d ∷ ds) ≡ count d + sum_by count ds = sum_by-cons count d ds in
      let q : sum_by count (e ∷ es) ≡ count e + sum_by count es = sum_by-cons count e es in
      record {
        number = omega (arith, a);
        levels = omega (arith, b, i, l, m);
        alternatives = omega (arith, c, j, n, o);
        symbols = omega (arith, f, k, p, q);
      }

lowered_counted : CountsByForm → (c : CheckedGrammar) (most : ℕ) → HasFewerThan most c.grammar → HasFewerThan (5 * most) (lowered_of c).grammar
lowered_counted by_form c most h =
    let ds = c.grammar.decls in
    let g = declarations_grow by_form (setting_of ds c.shapes) c.shapes ds in
    record {
      declarations = omega (arith, h.declarations, g.number);
      levels = omega (arith, h.levels, g.levels);
      alternatives = omega (arith, h.alternatives, g.alternatives);
      symbols = omega (arith, h.symbols, g.symbols);
    }

pub blocks_multiplied : CountsByForm → CountsGrow → BlocksMultiply
blocks_multiplied by_form counts c most h = lowered_counted by_form (rooted Syntax c) (most + 2) (counts.root c most h)
