-- The pass for levels adds levels, which are few, and no other integer but 0.
use Rattle.std.proofs.Common.{ℕ, suc, ◌+◌, ◌<◌, ◌≤◌, List, [], ◌∷◌, ◌++◌, map, length, Bool, true, false, ◌&&◌, if◌then◌else◌, arith, lit<}
use Rattle.ig_text.specs.Limits.{integers_end, numbers_end}
use Rattle.ig_grammar.specs.Numbering.{Levelled, by_level}
use Rattle.ig_grammar.specs.Symbol.{Symbol, Literal, OneOf, Call, Label, Guard, Let, Opt, Star, Plus, SepStar, SepPlus, Group, Offside, Ignore, Align, Filtered, Seq, Entry}
use Rattle.ig_grammar.specs.Symbol.{Symbols, no_symbols, next_symbol, Alternatives, no_alternatives, next_alternative}
use Rattle.ig_grammar.specs.declared.declaration.Assoc.{Assoc}
use Rattle.ig_grammar.specs.declared.declaration.Assoc.TheVariants.{Free, Left, Right, Nonassoc}
use Rattle.ig_grammar.specs.declared.declaration.Decl.{Decl}
use Rattle.ig_grammar.specs.declared.declaration.Level.{Level}
use Rattle.ig_grammar.specs.declared.symbol.Alt.{Alt}
use Rattle.ig_meaning.specs.Operands.{more_on_the_left, more_on_the_right}
use Rattle.ig_levels.specs.Levels.{Pair, Place, no_pair, pair_arguments, with_pair, in_symbols, in_alternatives, pair_at, is_left, is_right, lowered, test_of, has_left, has_right, place_in, lowered_alternative, lowered_declaration, one_level, is_test}
use Rattle.ig_pass.specs.Added.{left_name, right_name}
use Rattle.ig_verify_laws.specs.Ranges.{HasSmallIntegers}
use Rattle.ig_verify_laws.proofs.Fitting.{AltsFit, ChoicesFit, EachFits, Fits, LevelsFit, ListFits, SymbolsFit, each_joined, list_joined}

record PairFits (pair : Pair) : Type 0 where
  left : HasSmallIntegers pair.left
  right : HasSmallIntegers pair.right

none_fits : PairFits no_pair
none_fits = record { left = lit< tt; right = lit< tt }

pair_each : (b : Bool) (pair : Pair) → PairFits pair → EachFits (pair_arguments b pair)
pair_each true pair p = (p.left, (p.right, tt))
pair_each false pair p = tt

left_more : (s : Assoc) → more_on_the_left s ≤ 1
left_more Free = omega arith
left_more Left = omega arith
left_more Right = omega arith
left_more Nonassoc = omega arith

right_more : (s : Assoc) → more_on_the_right s ≤ 1
right_more Free = omega arith
right_more Left = omega arith
right_more Right = omega arith
right_more Nonassoc = omega arith

module _ (levelled : List ℕ → Bool) where
  mutual
    paired_fits : (pair : Pair) (x : Symbol) → PairFits pair → Fits x → Fits (with_pair levelled pair x)
    paired_fits pair (Literal word) p a = tt
    paired_fits pair (OneOf class) p a = tt
    paired_fits pair (Call name arguments) p a =
        each_joined arguments (pair_arguments (levelled name) pair) a (pair_each (levelled name) pair p)
    paired_fits pair (Label name x) p a = paired_fits pair x p a
    paired_fits pair (Guard e) p a = a
    paired_fits pair (Let name e) p a = a
    paired_fits pair (Opt x) p a = paired_fits no_pair x none_fits a
    paired_fits pair (Star x) p a = paired_fits no_pair x none_fits a
    paired_fits pair (Plus x) p a = paired_fits no_pair x none_fits a
    paired_fits pair (SepStar x s) p a = (paired_fits no_pair x none_fits a.0, paired_fits no_pair s none_fits a.1)
    paired_fits pair (SepPlus x s) p a = (paired_fits no_pair x none_fits a.0, paired_fits no_pair s none_fits a.1)
    paired_fits pair (Group choices) p a = choices_fit choices a
    paired_fits pair (Offside x) p a = paired_fits no_pair x none_fits a
    paired_fits pair (Ignore x) p a = paired_fits no_pair x none_fits a
    paired_fits pair (Align x) p a = paired_fits no_pair x none_fits a
    paired_fits pair (Filtered x filters) p a = paired_fits no_pair x none_fits a
    paired_fits pair (Seq xs) p a = symbols_fit xs a
    paired_fits pair (Entry bindings x) p a = (a.0, paired_fits no_pair x none_fits a.1)

    symbols_fit : (xs : Symbols) → SymbolsFit xs → SymbolsFit (in_symbols levelled xs)
    symbols_fit no_symbols a = tt
    symbols_fit (next_symbol x xs) a = (paired_fits no_pair x none_fits a.0, symbols_fit xs a.1)

    choices_fit : (ys : Alternatives) → ChoicesFit ys → ChoicesFit (in_alternatives levelled ys)
    choices_fit no_alternatives a = tt
    choices_fit (next_alternative xs ys) a = (symbols_fit xs a.0, choices_fit ys a.1)

  -- the bounds of operands
  record PlaceFits (p : Place) : Type 0 where
    left : p.left < integers_end
    right : p.right < integers_end

  either_pair : (b c : Bool) (one two : Pair) → PairFits one → PairFits two →
      PairFits (if b then one else if c then two else no_pair)
  either_pair true c one two f g = f
  either_pair false true one two f g = g
  either_pair false false one two f g = none_fits

  pair_fits : (p : Place) (first : Bool) (x : Symbol) (others : List Symbol) → PlaceFits p → PairFits (pair_at p first x others)
  pair_fits p first x others f =
      either_pair (is_left p first x others) (is_right p first x others) _ _ (record { left = tt; right = f.left })
      (record { left = f.right; right = tt })

  list_fits : (p : Place) (first : Bool) (xs : List Symbol) → PlaceFits p → ListFits xs → ListFits (lowered levelled p first xs)
  list_fits p first [] f a = tt
  list_fits p first (x ∷ xs) f a =
      (paired_fits (pair_at p first x xs) x (pair_fits p first x xs f) a.0, list_fits p (first && is_test x) xs f a.1)

  test_fits : (b : Bool) (level : ℕ) (name : List ℕ) → level < integers_end → ListFits (test_of b level name)
  test_fits true level name h = ((h, tt), tt)
  test_fits false level name h = tt

  alternative_fits : (decl : Decl) (a : Levelled) → a.level + 1 < integers_end → PlaceFits (place_in decl a) →
      ListFits a.alternative.symbols → ListFits (lowered_alternative levelled decl a).symbols
  alternative_fits decl a h f fits =
      let p = place_in decl a in
      let xs = a.alternative.symbols in
      let level : a.level < integers_end = omega (arith, h) in
      let left = test_of (has_left p true xs) a.level left_name in
      let right = test_of (has_right p true xs) a.level right_name in
      list_joined left (right ++ lowered levelled p true xs) (test_fits (has_left p true xs) a.level left_name level)
      (list_joined right (lowered levelled p true xs) (test_fits (has_right p true xs) a.level right_name level)
      (list_fits p true xs f fits))

  -- the level, or one more
  more_fits : (n m : ℕ) → m ≤ 1 → n + 1 < integers_end → n + m < integers_end
  more_fits n m few h = beyond n m integers_end few h
    where
      beyond : (n m e : ℕ) → m ≤ 1 → n + 1 < e → n + m < e
      beyond n m e few h = omega (arith, few, h)

  place_fits : (decl : Decl) (a : Levelled) → a.level + 1 < integers_end → PlaceFits (place_in decl a)
  place_fits decl a h =
      record {
        left = more_fits a.level (more_on_the_left a.assoc) (left_more a.assoc) h;
        right = more_fits a.level (more_on_the_right a.assoc) (right_more a.assoc) h;
      }

  -- alternatives of levels up to n
  abbrev LevelledFit : ℕ → List Levelled → Type 0
  LevelledFit n [] = Unit {0}
  LevelledFit n (a ∷ others) = ListFits a.alternative.symbols × (a.level ≤ n) × LevelledFit n others

  levelled_joined : (n : ℕ) (xs ys : List Levelled) → LevelledFit n xs → LevelledFit n ys → LevelledFit n (xs ++ ys)
  levelled_joined n [] ys a b = b
  levelled_joined n (x ∷ xs) ys a b = (a.0, a.1, levelled_joined n xs ys a.2 b)

  levelled_more : (n : ℕ) (xs : List Levelled) → LevelledFit n xs → LevelledFit (suc n) xs
  levelled_more n [] a = tt
  levelled_more n (x ∷ xs) a = (a.0, (let le = a.1 in omega (arith, le)), levelled_more n xs a.2)

  one_level_fits : (n m : ℕ) (assoc : Assoc) (alts : List Alt) → m ≤ n → AltsFit alts →
      LevelledFit n (map (λ (x : Alt). record { alternative = x; level = m; assoc = assoc }) alts)
  one_level_fits n m assoc [] le a = tt
  one_level_fits n m assoc (x ∷ others) le a = (a.0, le, one_level_fits n m assoc others le a.1)

  by_level_fits : (levels : List Level) → LevelsFit levels → LevelledFit (length levels) (by_level levels)
  by_level_fits [] a = tt
  by_level_fits (level ∷ others) a =
      levelled_joined (suc (length others)) _ (by_level others)
      (one_level_fits (suc (length others)) (length others + 1) level.assoc level.alts (omega arith) a.0)
      (levelled_more (length others) (by_level others) (by_level_fits others a.1))

  alternatives_fit : (decl : Decl) (n : ℕ) (xs : List Levelled) → n + 1 < integers_end → LevelledFit n xs →
      AltsFit (map (lowered_alternative levelled decl) xs)
  alternatives_fit decl n [] h a = tt
  alternatives_fit decl n (x ∷ xs) h a =
      let level : x.level + 1 < integers_end = under x.level n integers_end a.1 h in
      (alternative_fits decl x level (place_fits decl x level) a.0, alternatives_fit decl n xs h a.2)
    where
      under : (l n e : ℕ) → l ≤ n → n + 1 < e → l + 1 < e
      under l n e le h = omega (arith, le, h)

  level_alone : (levels : List Level) (alts : List Alt) → AltsFit alts → LevelsFit (one_level levels alts)
  level_alone [] alts a = tt
  level_alone (level ∷ levels) alts a = (a, tt)

  pub declaration_fits : (decl : Decl) → length decl.levels < numbers_end → LevelsFit decl.levels →
      LevelsFit (lowered_declaration levelled decl).levels
  declaration_fits decl few a =
      level_alone decl.levels (map (lowered_alternative levelled decl) (by_level decl.levels))
      (alternatives_fit decl (length decl.levels) (by_level decl.levels) (enough (length decl.levels) few)
      (by_level_fits decl.levels a))
    where
      further : (n e i : ℕ) → n < e → e + 1 < i → n + 1 < i
      further n e i h k = omega (arith, h, k)

      enough : (n : ℕ) → n < numbers_end → n + 1 < integers_end
      enough n h = further n numbers_end integers_end h (lit< tt)
