-- How many declarations, levels, alternatives and symbols a grammar without levels has: a levelled alternative has two
-- symbols more at most, and as many alternatives of groups.
use Rattle.std.proofs.Common.{◌≡◌, ◌∙◌, ℕ, ◌+◌, ◌*◌, ◌≤◌, Bool, true, false, List, [], ◌∷◌, ◌++◌, length, map, refl, sym, ap, arith}
use Rattle.std.specs.Prelude.{◌&&◌, sum_by}
use Rattle.std.proofs.lemmas.List.{map-append}
use Rattle.std.proofs.lemmas.List.Sums.{sum_by-cons}
use Rattle.ig_expr.specs.Expression.{Expression}
use Rattle.ig_grammar.specs.Alternative.{gathered_alternatives}
use Rattle.ig_grammar.specs.Laws.{CountsByForm, inner_sum, symbols_sum, alternatives_sum}
use Rattle.ig_grammar.specs.Numbering.{Levelled, by_level}
use Rattle.ig_grammar.specs.Counts.{own_parts, parts_of_symbols, parts_of_alternatives}
use Rattle.ig_grammar.specs.Counts.{own_alternatives, number_of_alternatives, alternatives_inside_symbols, alternatives_among}
use Rattle.ig_grammar.specs.Subterms.{subterms, subterms_of_symbols, subterms_of_alternatives}
use Rattle.ig_grammar.specs.Symbol.{Symbol, Literal, OneOf, Call, Label, Guard, Let, Opt, Star, Plus, SepStar, SepPlus, Group, Offside, Ignore, Align, Filtered, Seq, Entry}
use Rattle.ig_grammar.specs.Symbol.{Symbols, no_symbols, next_symbol, Alternatives, no_alternatives, next_alternative, gathered}
use Rattle.ig_grammar.specs.declared.declaration.Assoc.TheVariants.{Free}
use Rattle.ig_grammar.specs.declared.declaration.DeclKind.TheVariants.{Syntax}
use Rattle.ig_grammar.specs.declared.declaration.Decl.{Decl}
use Rattle.ig_grammar.specs.declared.declaration.Level.{Level}
use Rattle.ig_grammar.specs.declared.symbol.Alt.{Alt}
use Rattle.ig_pass.specs.Added.{left_name, right_name}
use Rattle.ig_pass.specs.Counts.{LevelsGrow, CountsGrow}
use Rattle.ig_pass.specs.Rooted.{rooted}
use Rattle.ig_levels.specs.Levels.{Pair, no_pair, with_pair, in_symbols, in_alternatives, Place, pair_at, is_test, has_left, has_right, test_of}
use Rattle.ig_levels.specs.Levels.{lowered, symbols_in, one_level, lowered_alternative, lowered_declaration, names_levelled, LevelsOf}
use Rattle.ig_levels.specs.Laws.{LevelsMultiply}

-- a count over all symbols in a symbol, which goes by the form, and to which the arguments of calls are nothing
module _ (levelled : List ℕ → Bool) (own : Symbol → ℕ) (of : (x : Symbol) → sum_by own (subterms x) ≡ own x + inner_sum own x)
    (of_symbols : (xs : Symbols) → sum_by own (subterms_of_symbols xs) ≡ symbols_sum own xs)
    (of_alternatives : (ys : Alternatives) → sum_by own (subterms_of_alternatives ys) ≡ alternatives_sum own ys)
    (same : (pair : Pair) (x : Symbol) → own (with_pair levelled pair x) ≡ own x) where
  abbrev total : Symbol → ℕ
  total x = sum_by own (subterms x)

  whole : (pair : Pair) (x : Symbol) → inner_sum own (with_pair levelled pair x) ≡ inner_sum own x → total (with_pair levelled pair x) ≡ total x
  whole pair x e =
      of (with_pair levelled pair x) ∙ (λ z. same pair x z + e z) ∙ sym (of x)

  mutual
    kept : (pair : Pair) (x : Symbol) → total (with_pair levelled pair x) ≡ total x
    kept pair (Literal word) = refl
    kept pair (OneOf class) = refl
    kept pair (Call name arguments) = whole pair (Call name arguments) refl
    kept pair (Label name x) = whole pair (Label name x) (kept pair x)
    kept pair (Guard e) = refl
    kept pair (Let name e) = refl
    kept pair (Opt x) = whole pair (Opt x) (kept no_pair x)
    kept pair (Star x) = whole pair (Star x) (kept no_pair x)
    kept pair (Plus x) = whole pair (Plus x) (kept no_pair x)
    kept pair (SepStar x separator) = whole pair (SepStar x separator) (λ z. kept no_pair x z + kept no_pair separator z)
    kept pair (SepPlus x separator) = whole pair (SepPlus x separator) (λ z. kept no_pair x z + kept no_pair separator z)
    kept pair (Group choices) = whole pair (Group choices) (choices_kept choices)
    kept pair (Offside x) = whole pair (Offside x) (kept no_pair x)
    kept pair (Ignore x) = whole pair (Ignore x) (kept no_pair x)
    kept pair (Align x) = whole pair (Align x) (kept no_pair x)
    kept pair (Filtered x filters) = whole pair (Filtered x filters) (kept no_pair x)
    kept pair (Seq xs) = whole pair (Seq xs) (symbols_kept xs)
    kept pair (Entry bindings x) = whole pair (Entry bindings x) (kept no_pair x)

    symbols_kept : (xs : Symbols) → sum_by own (subterms_of_symbols (in_symbols levelled xs)) ≡ sum_by own (subterms_of_symbols xs)
    symbols_kept no_symbols = refl
    symbols_kept (next_symbol x xs) =
        of_symbols (in_symbols levelled (next_symbol x xs)) ∙ (λ z. kept no_pair x z + symbols_kept xs z) ∙ sym (of_symbols (next_symbol x xs))

    choices_kept : (ys : Alternatives) → sum_by own (subterms_of_alternatives (in_alternatives levelled ys)) ≡ sum_by own (subterms_of_alternatives ys)
    choices_kept no_alternatives = refl
    choices_kept (next_alternative xs ys) =
        of_alternatives (in_alternatives levelled (next_alternative xs ys)) ∙ (λ z. symbols_kept xs z + choices_kept ys z) ∙ sym (of_alternatives (next_alternative xs ys))

  -- that of an alternative, but for its tests
  pub lowered_kept : (p : Place) (first : Bool) (xs : List Symbol) →
      sum_by own (subterms_of_symbols (gathered (lowered levelled p first xs))) ≡ sum_by own (subterms_of_symbols (gathered xs))
  lowered_kept p first [] = refl
  lowered_kept p first (x ∷ xs) =
      of_symbols (gathered (lowered levelled p first (x ∷ xs))) ∙
      (λ z. kept (pair_at p first x xs) x z + lowered_kept p (first && is_test x) xs z) ∙ sym (of_symbols (gathered (x ∷ xs)))

-- a count of alternatives, each of which is counted alone
pub record CountsAlone (total : Alternatives → ℕ) (alone : Symbols → ℕ) : Type 0 where
  pub no_alternative : total no_alternatives ≡ 0
  pub further_alternative : (xs : Symbols) (ys : Alternatives) → total (next_alternative xs ys) ≡ alone xs + total ys
  -- a guard adds one at most, and an alternative with a symbol counts as one at least
  pub guard : (e : Expression) (xs : Symbols) → alone (next_symbol (Guard e) xs) ≤ alone xs + 1
  pub least : (x : Symbol) (xs : Symbols) → 1 ≤ alone (next_symbol x xs)
  pub same : (levelled : List ℕ → Bool) (p : Place) (first : Bool) (xs : List Symbol) → alone (gathered (lowered levelled p first xs)) ≡ alone (gathered xs)

module _ (total : Alternatives → ℕ) (alone : Symbols → ℕ) (counts : CountsAlone total alone) where
  abbrev among : List Alt → ℕ
  among alts = total (gathered_alternatives alts)

  joined : (xs ys : List Alt) → among (xs ++ ys) ≡ among xs + among ys
  joined [] ys = let a = counts.no_alternative in omega (arith, a)
  joined (x ∷ xs) ys =
      let a = counts.further_alternative (gathered x.symbols) (gathered_alternatives (xs ++ ys)) in
      let b = counts.further_alternative (gathered x.symbols) (gathered_alternatives xs) in
      let h = joined xs ys in omega (arith, a, b, h)

  tested : (b : Bool) (level : ℕ) (name : List ℕ) (xs : List Symbol) → alone (gathered (test_of b level name ++ xs)) ≤ alone (gathered xs) + 1
  tested true level name xs = counts.guard _ (gathered xs)
  tested false level name xs = omega arith

  alternative_grown : (levelled : List ℕ → Bool) (p : Place) (level : ℕ) (xs : List Symbol) →
      alone (gathered (symbols_in levelled p level xs)) ≤ 3 * alone (gathered xs)
  alternative_grown levelled p level [] = omega arith
  alternative_grown levelled p level (x ∷ xs) =
      let behind : List Symbol = test_of (has_right p true (x ∷ xs)) level right_name ++ lowered levelled p true (x ∷ xs) in
      let a = tested (has_left p true (x ∷ xs)) level left_name behind in
      let b = tested (has_right p true (x ∷ xs)) level right_name (lowered levelled p true (x ∷ xs)) in
      let same = counts.same levelled p true (x ∷ xs) in
      let least = counts.least x (gathered xs) in
      omega (arith, a, b, same, least)

  module _ (levelled : List ℕ → Bool) (decl : Decl) where
    alternatives_grown : (number : Alt → Levelled) → ((a : Alt) → (number a).alternative ≡ a) → (alts : List Alt) →
        among (map (lowered_alternative levelled decl) (map number alts)) ≤ 3 * among alts
    alternatives_grown number e [] = let a = counts.no_alternative in omega (arith, a)
    alternatives_grown number e (x ∷ xs) =
        let lower = lowered_alternative levelled decl (number x) in
        let a = counts.further_alternative (gathered lower.symbols) (gathered_alternatives (map (lowered_alternative levelled decl) (map number xs))) in
        let b = counts.further_alternative (gathered x.symbols) (gathered_alternatives xs) in
        let c : alone (gathered lower.symbols) ≤ 3 * alone (gathered (number x).alternative.symbols) = alternative_grown levelled _ _ (number x).alternative.symbols in
        let d : alone (gathered (number x).alternative.symbols) ≡ alone (gathered x.symbols) = ap (λ y. alone (gathered y.symbols)) (e x) in
        let h = alternatives_grown number e xs in omega (arith, a, b, c, d, h)

    levels_grown : (levels : List Level) →
        among (map (lowered_alternative levelled decl) (by_level levels)) ≤ 3 * sum_by (λ level. among level.alts) levels
    levels_grown [] = let a = counts.no_alternative in omega (arith, a)
    levels_grown (level ∷ levels) =
        let number : Alt → Levelled = λ a. record { alternative = a; level = length levels + 1; assoc = level.assoc } in
        let f = lowered_alternative levelled decl in
        let a : among (map f (by_level (level ∷ levels))) ≡ among (map f (map number level.alts) ++ map f (by_level levels)) =
        ap among (map-append f (map number level.alts) (by_level levels)) in
        let b = joined (map f (map number level.alts)) (map f (by_level levels)) in
        let c = alternatives_grown number (λ y. refl) level.alts in
        let d = sum_by-cons (λ (y : Level). among y.alts) level levels in
        let h = levels_grown levels in omega (arith, a, b, c, d, h)

    pub one_grown : (levels : List Level) →
        sum_by (λ level. among level.alts) (one_level levels (map (lowered_alternative levelled decl) (by_level levels))) ≤
        3 * sum_by (λ level. among level.alts) levels
    one_grown [] = omega arith
    one_grown (level ∷ levels) =
        let all = map (lowered_alternative levelled decl) (by_level (level ∷ levels)) in
        let one : Level = record { assoc = Free; alts = all } in
        let a : sum_by (λ (y : Level). among y.alts) (one ∷ []) ≡ among all + sum_by (λ (y : Level). among y.alts) [] =
        sum_by-cons (λ (y : Level). among y.alts) one [] in
        let h = levels_grown (level ∷ levels) in omega (arith, a, h)

number_kept : (levelled : List ℕ → Bool) (ys : Alternatives) → number_of_alternatives (in_alternatives levelled ys) ≡ number_of_alternatives ys
number_kept levelled no_alternatives = refl
number_kept levelled (next_alternative xs ys) = λ z. number_kept levelled ys z + 1

own_alternatives_kept : (levelled : List ℕ → Bool) (pair : Pair) (x : Symbol) → own_alternatives (with_pair levelled pair x) ≡ own_alternatives x
own_alternatives_kept levelled pair (Group choices) = number_kept levelled choices
own_alternatives_kept levelled pair x = refl

own_parts_kept : (levelled : List ℕ → Bool) (pair : Pair) (x : Symbol) → own_parts (with_pair levelled pair x) ≡ own_parts x
own_parts_kept levelled pair (Filtered x filters) = refl
own_parts_kept levelled pair x = refl

levels_few : (levels : List Level) (alts : List Alt) → length (one_level levels alts) ≤ 3 * length levels
levels_few [] alts = omega arith
levels_few (level ∷ levels) alts = omega arith

module _ (by_form : CountsByForm) where
  by_form_of_alternatives : (ys : Alternatives) → sum_by own_alternatives (subterms_of_alternatives ys) ≡ alternatives_sum own_alternatives ys
  by_form_of_alternatives no_alternatives = refl
  by_form_of_alternatives (next_alternative xs ys) = let a = by_form.further_alternative xs ys in omega (arith, a)

  parts_counted : CountsAlone parts_of_alternatives parts_of_symbols
  parts_counted =
      record {
        no_alternative = by_form.parts_among_alternatives no_alternatives;
        further_alternative = λ xs ys. by_form.parts_among_alternatives (next_alternative xs ys);
        guard = λ e xs.
            let a = by_form.parts_among_symbols (next_symbol (Guard e) xs) in let b = by_form.parts_of (Guard e) in omega (arith, a, b);
        least = λ x xs.
            let a = by_form.parts_among_symbols (next_symbol x xs) in let b = by_form.parts_of x in let c = by_form.some_part x in omega (arith, a, b, c);
        same = λ levelled.
            lowered_kept levelled own_parts by_form.parts_of by_form.parts_among_symbols by_form.parts_among_alternatives (own_parts_kept levelled);
      }

  alternatives_counted : CountsAlone alternatives_among (λ xs. alternatives_inside_symbols xs + 1)
  alternatives_counted =
      record {
        no_alternative = by_form.no_alternative;
        further_alternative = λ xs ys. let a = by_form.further_alternative xs ys in omega (arith, a);
        guard = λ e xs.
            let a = by_form.alternatives_of_symbols (next_symbol (Guard e) xs) in let b = by_form.alternatives_of (Guard e) in omega (arith, a, b);
        least = λ x xs. omega arith;
        same = λ levelled p first xs z.
            lowered_kept levelled own_alternatives by_form.alternatives_of by_form.alternatives_of_symbols by_form_of_alternatives
            (own_alternatives_kept levelled) p first xs z + 1;
      }

  declaration_grown : (levelled : List ℕ → Bool) (decl : Decl) → LevelsGrow 3 decl.levels (lowered_declaration levelled decl).levels
  declaration_grown levelled decl =
      record {
        levels = levels_few decl.levels _;
        alternatives = one_grown alternatives_among (λ xs. alternatives_inside_symbols xs + 1) alternatives_counted levelled decl decl.levels;
        symbols = one_grown parts_of_alternatives parts_of_symbols parts_counted levelled decl decl.levels;
      }

  pub levels_multiply : CountsGrow → LevelsMultiply
  levels_multiply counts c most few =
      let rooted_grammar = (rooted Syntax c).grammar in
      counts.declarations 3 (most + 2) rooted_grammar (LevelsOf c).grammar (lowered_declaration (names_levelled rooted_grammar.decls)) (omega arith) refl
      (declaration_grown (names_levelled rooted_grammar.decls)) (counts.root c most few)
