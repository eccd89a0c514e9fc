-- How the counts of a grammar grow where a pass adds so many symbols to a symbol at most.
use Rattle.std.proofs.Common.{◌≡◌, ℕ, suc, ◌+◌, ◌*◌, ◌≤◌, ◌<◌, true, false, List, [], ◌∷◌, ◌++◌, Option, Some, None, length, map, refl, sym, ap, subst, arith}
use Rattle.std.specs.Prelude.{sum_by, if◌then◌else◌}
use Rattle.std.proofs.lemmas.List.{length-append, length-map}
use Rattle.std.proofs.lemmas.List.Sums.{sum_by-append, sum_by-cons}
use Rattle.std.proofs.lemmas.Nat.{mul-le}
use Rattle.ig_grammar.specs.Symbol.{Symbol, Label, Opt, Star, Plus, SepStar, SepPlus, Group, Offside, Ignore, Align, Filtered, Seq, Entry}
use Rattle.ig_grammar.specs.Symbol.{Symbols, no_symbols, next_symbol, Alternatives, no_alternatives, next_alternative}
use Rattle.ig_grammar.specs.Alternative.{gathered_alternatives}
use Rattle.ig_grammar.specs.Laws.{CountsByForm, inner_sum}
use Rattle.ig_grammar.specs.Numbering.{layout_among}
use Rattle.ig_grammar.specs.Counts.{HasFewerThan, own_parts, own_alternatives, parts, parts_of_symbols, parts_of_alternatives}
use Rattle.ig_grammar.specs.Counts.{alternatives_inside, alternatives_inside_symbols, alternatives_among}
use Rattle.ig_grammar.specs.declared.declaration.Assoc.TheVariants.{Free}
use Rattle.ig_grammar.specs.declared.declaration.DeclKind.TheVariants.{Syntax}
use Rattle.ig_grammar.specs.declared.declaration.Level.{Level}
use Rattle.ig_grammar.specs.declared.declaration.Decl.{Decl}
use Rattle.ig_grammar.specs.declared.grammar.Grammar.{Grammar}
use Rattle.ig_meaning.specs.Permitted.{behind_layout}
use Rattle.ig_pass.specs.Counts.{alternatives_of_levels, parts_of_levels, LevelsGrow, RootIsCounted, DeclarationsAreCounted, CountsGrow}
use Rattle.ig_pass.specs.Rewriting.{within, rewritten_symbols, rewritten_choices, rewritten_level}
use Rattle.ig_pass.specs.Rooted.{calls_of_start, root_declaration, has_root, with_root}
use Rattle.ig_pass.specs.Gathered.{choices_gathered}

-- where each term is multiplied by k at most, the sum is
sum_multiplied : {A : Type 0} (k : ℕ) (f : A → ℕ) (step : A → A) → ((x : A) → f (step x) ≤ k * f x) → (xs : List A) → sum_by f (map step xs) ≤ k * sum_by f xs
sum_multiplied k f step each [] = omega arith
sum_multiplied k f step each (x ∷ xs) =
    let e : sum_by f (map step (x ∷ xs)) ≡ f (step x) + sum_by f (map step xs) = sum_by-cons f (step x) (map step xs) in
    let d : k * sum_by f (x ∷ xs) ≡ k * (f x + sum_by f xs) = ap (λ n. k * n) (sum_by-cons f x xs) in
    let h : f (step x) ≤ k * f x = each x in
    let i : sum_by f (map step xs) ≤ k * sum_by f xs = sum_multiplied k f step each xs in
    omega (arith, e, d, h, i)

-- a multiple is no smaller
multiple : (k m : ℕ) → 1 ≤ k → m ≤ k * m
multiple k m h = let p : 1 * m ≤ k * m = mul-le 1 m k m h (omega arith) in omega (arith, p)

-- what is multiplied by k at most stays below k times the bound
below_multiple : (k n m most : ℕ) → 1 ≤ k → n ≤ k * m → m < most → n < k * most
below_multiple k n m most one h less = let p : k * (m + 1) ≤ k * most = mul-le k (m + 1) k most (omega arith) (omega (arith, less)) in omega (arith, one, h, p)

declarations_counted : DeclarationsAreCounted
declarations_counted k most g h step one made grows fewer =
    let each : (f : Decl → ℕ) → ((decl : Decl) → f (step decl) ≤ k * f decl) → sum_by f g.decls < most → sum_by f h.decls < k * most =
    λ f single less. below_multiple k (sum_by f h.decls) (sum_by f g.decls) most one
    (subst (λ ds. sum_by f ds ≤ k * sum_by f g.decls) (sym made) (sum_multiplied k f step single g.decls)) less in
    let number : length h.decls ≤ k * length g.decls =
    subst (λ ds. length ds ≤ k * length g.decls) (sym made)
    (let e = length-map g.decls step in let m = multiple k (length g.decls) one in omega (arith, e, m)) in
    record {
      declarations = below_multiple k (length h.decls) (length g.decls) most one number fewer.declarations;
      levels = each (λ decl. length decl.levels) (λ decl. (grows decl).levels) fewer.levels;
      alternatives = each (λ decl. alternatives_of_levels decl.levels) (λ decl. (grows decl).alternatives) fewer.alternatives;
      symbols = each (λ decl. parts_of_levels decl.levels) (λ decl. (grows decl).symbols) fewer.symbols;
    }

-- the level of the root, behind the layout and with the start that are given
abbrev root_levels : Option (List ℕ) → Option (List ℕ) → List Level
root_levels layout start = record { assoc = Free; alts = record { symbols = behind_layout layout (calls_of_start start) } ∷ [] } ∷ []

root_alternatives : (layout start : Option (List ℕ)) → alternatives_of_levels (root_levels layout start) ≤ 1
root_alternatives None None = omega arith
root_alternatives None (Some s) = omega arith
root_alternatives (Some w) None = omega arith
root_alternatives (Some w) (Some s) = omega arith

root_parts : (layout start : Option (List ℕ)) → parts_of_levels (root_levels layout start) ≤ 2
root_parts None None = omega arith
root_parts None (Some s) = omega arith
root_parts (Some w) None = omega arith
root_parts (Some w) (Some s) = omega arith

-- a declaration more, with so much of its own
one_added : (f : Decl → ℕ) (g : Grammar) (added : Decl) (most : ℕ) → f added ≤ 2 → sum_by f g.decls < most → sum_by f (g.decls ++ added ∷ []) < most + 2
one_added f g added most own less =
    let a : sum_by f (g.decls ++ added ∷ []) ≡ sum_by f g.decls + sum_by f (added ∷ []) = sum_by-append f g.decls (added ∷ []) in
    let b : sum_by f (added ∷ []) ≡ f added + sum_by f [] = sum_by-cons f added [] in
    omega (arith, a, b, own, less)

root_counted : RootIsCounted
root_counted c most fewer =
    (elim (has_root c.shapes) as (λ b. HasFewerThan (most + 2) (if b then c else with_root Syntax c).grammar) [
      | true ↦ record {
        declarations = let h = fewer.declarations in omega (arith, h);
        levels = let h = fewer.levels in omega (arith, h);
        alternatives = let h = fewer.alternatives in omega (arith, h);
        symbols = let h = fewer.symbols in omega (arith, h);
      }
      | false ↦ record {
        declarations = let e = length-append c.grammar.decls (root_declaration Syntax c.grammar ∷ []) in let h = fewer.declarations in omega (arith, e, h);
        levels = one_added (λ decl. length decl.levels) c.grammar (root_declaration Syntax c.grammar) most (omega arith) fewer.levels;
        alternatives =
            let h = root_alternatives (layout_among c.grammar.decls) c.grammar.start in
            one_added (λ decl. alternatives_of_levels decl.levels) c.grammar (root_declaration Syntax c.grammar) most (omega (arith, h)) fewer.alternatives;
        symbols = one_added (λ decl. parts_of_levels decl.levels) c.grammar (root_declaration Syntax c.grammar) most (root_parts (layout_among c.grammar.decls) c.grammar.start) fewer.symbols;
      }
    ])

module _ (by_form : CountsByForm) where
  module _ (n : ℕ) (own : Symbol → Symbol) (adds : (x : Symbol) → parts (own x) ≤ parts x + n)
      (keeps : (x : Symbol) → alternatives_inside (own x) ≤ alternatives_inside x) where
    -- a symbol in whose parts each symbol is rewritten has room for the n that are added to itself
    by_parts : (x y : Symbol) → own_parts y ≡ own_parts x → inner_sum own_parts y ≤ suc n * inner_sum own_parts x → parts y + n ≤ suc n * parts x
    by_parts x y e h =
        let a : parts y ≡ own_parts y + inner_sum own_parts y = by_form.parts_of y in
        let b : suc n * parts x ≡ suc n * (own_parts x + inner_sum own_parts x) = ap (λ m. suc n * m) (by_form.parts_of x) in
        let m : n * 1 ≤ n * own_parts x = mul-le n 1 n (own_parts x) (omega arith) (by_form.some_part x) in
        omega (arith, a, b, e, h, m)

    by_alternatives : (x y : Symbol) → own_alternatives y ≡ own_alternatives x → inner_sum own_alternatives y ≤ inner_sum own_alternatives x →
        alternatives_inside y ≤ alternatives_inside x
    by_alternatives x y e h =
        let a : alternatives_inside y ≡ own_alternatives y + inner_sum own_alternatives y = by_form.alternatives_of y in
        let b : alternatives_inside x ≡ own_alternatives x + inner_sum own_alternatives x = by_form.alternatives_of x in
        omega (arith, a, b, e, h)

    -- of what stands inside: itself, and rewritten by the pass's own rule
    bare : (x : Symbol) → parts (within own x) + n ≤ suc n * parts x → parts (within own x) ≤ suc n * parts x
    bare x h = omega (arith, h)

    owned : (x : Symbol) → parts (within own x) + n ≤ suc n * parts x → parts (own (within own x)) ≤ suc n * parts x
    owned x h = let a : parts (own (within own x)) ≤ parts (within own x) + n = adds (within own x) in omega (arith, a, h)

    owned_two : (x s : Symbol) → parts (within own x) + n ≤ suc n * parts x → parts (within own s) + n ≤ suc n * parts s →
        parts (own (within own x)) + parts (own (within own s)) ≤ suc n * (parts x + parts s)
    owned_two x s h i =
        let a : parts (own (within own x)) ≤ suc n * parts x = owned x h in let b : parts (own (within own s)) ≤ suc n * parts s = owned s i in
        omega (arith, a, b)

    owned_alternatives : (x : Symbol) → alternatives_inside (within own x) ≤ alternatives_inside x → alternatives_inside (own (within own x)) ≤ alternatives_inside x
    owned_alternatives x h = let a : alternatives_inside (own (within own x)) ≤ alternatives_inside (within own x) = keeps (within own x) in omega (arith, a, h)

    both_alternatives : (x s : Symbol) → alternatives_inside (within own x) ≤ alternatives_inside x → alternatives_inside (within own s) ≤ alternatives_inside s →
        alternatives_inside (own (within own x)) + alternatives_inside (own (within own s)) ≤ alternatives_inside x + alternatives_inside s
    both_alternatives x s h i =
        let a : alternatives_inside (own (within own x)) ≤ alternatives_inside x = owned_alternatives x h in
        let b : alternatives_inside (own (within own s)) ≤ alternatives_inside s = owned_alternatives s i in
        omega (arith, a, b)

    mutual
      within_parts : (x : Symbol) → parts (within own x) + n ≤ suc n * parts x
      within_parts (Label name x) = by_parts (Label name x) (Label name (within own x)) refl (bare x (within_parts x))
      within_parts (Opt x) = by_parts (Opt x) (Opt (own (within own x))) refl (owned x (within_parts x))
      within_parts (Star x) = by_parts (Star x) (Star (own (within own x))) refl (owned x (within_parts x))
      within_parts (Plus x) = by_parts (Plus x) (Plus (own (within own x))) refl (owned x (within_parts x))
      within_parts (SepStar x s) = by_parts (SepStar x s) (SepStar (own (within own x)) (own (within own s))) refl (owned_two x s (within_parts x) (within_parts s))
      within_parts (SepPlus x s) = by_parts (SepPlus x s) (SepPlus (own (within own x)) (own (within own s))) refl (owned_two x s (within_parts x) (within_parts s))
      within_parts (Group ys) = by_parts (Group ys) (Group (rewritten_choices own ys)) refl (choices_parts ys)
      within_parts (Offside x) = by_parts (Offside x) (Offside (within own x)) refl (bare x (within_parts x))
      within_parts (Ignore x) = by_parts (Ignore x) (Ignore (within own x)) refl (bare x (within_parts x))
      within_parts (Align x) = by_parts (Align x) (Align (within own x)) refl (bare x (within_parts x))
      within_parts (Filtered x fs) = by_parts (Filtered x fs) (Filtered (within own x) fs) refl (bare x (within_parts x))
      within_parts (Seq xs) = by_parts (Seq xs) (Seq (rewritten_symbols own xs)) refl (symbols_parts xs)
      within_parts (Entry bs x) = by_parts (Entry bs x) (Entry bs (within own x)) refl (bare x (within_parts x))
      within_parts x = by_parts x x refl (omega arith)

      symbols_parts : (xs : Symbols) → parts_of_symbols (rewritten_symbols own xs) ≤ suc n * parts_of_symbols xs
      symbols_parts no_symbols = omega arith
      symbols_parts (next_symbol x xs) =
          let a : parts_of_symbols (rewritten_symbols own (next_symbol x xs)) ≡ parts (own (within own x)) + parts_of_symbols (rewritten_symbols own xs) =
          by_form.parts_among_symbols (rewritten_symbols own (next_symbol x xs)) in
          let b : suc n * parts_of_symbols (next_symbol x xs) ≡ suc n * (parts x + parts_of_symbols xs) = ap (λ m. suc n * m) (by_form.parts_among_symbols (next_symbol x xs)) in
          let h : parts (own (within own x)) ≤ suc n * parts x = owned x (within_parts x) in
          let i : parts_of_symbols (rewritten_symbols own xs) ≤ suc n * parts_of_symbols xs = symbols_parts xs in
          omega (arith, a, b, h, i)

      choices_parts : (ys : Alternatives) → parts_of_alternatives (rewritten_choices own ys) ≤ suc n * parts_of_alternatives ys
      choices_parts no_alternatives = omega arith
      choices_parts (next_alternative xs ys) =
          let a : parts_of_alternatives (rewritten_choices own (next_alternative xs ys)) ≡ parts_of_symbols (rewritten_symbols own xs) + parts_of_alternatives (rewritten_choices own ys) =
          by_form.parts_among_alternatives (rewritten_choices own (next_alternative xs ys)) in
          let b : suc n * parts_of_alternatives (next_alternative xs ys) ≡ suc n * (parts_of_symbols xs + parts_of_alternatives ys) =
          ap (λ m. suc n * m) (by_form.parts_among_alternatives (next_alternative xs ys)) in
          let h : parts_of_symbols (rewritten_symbols own xs) ≤ suc n * parts_of_symbols xs = symbols_parts xs in
          let i : parts_of_alternatives (rewritten_choices own ys) ≤ suc n * parts_of_alternatives ys = choices_parts ys in
          omega (arith, a, b, h, i)

    mutual
      within_alternatives : (x : Symbol) → alternatives_inside (within own x) ≤ alternatives_inside x
      within_alternatives (Label name x) = by_alternatives (Label name x) (Label name (within own x)) refl (within_alternatives x)
      within_alternatives (Opt x) = by_alternatives (Opt x) (Opt (own (within own x))) refl (owned_alternatives x (within_alternatives x))
      within_alternatives (Star x) = by_alternatives (Star x) (Star (own (within own x))) refl (owned_alternatives x (within_alternatives x))
      within_alternatives (Plus x) = by_alternatives (Plus x) (Plus (own (within own x))) refl (owned_alternatives x (within_alternatives x))
      within_alternatives (SepStar x s) =
          by_alternatives (SepStar x s) (SepStar (own (within own x)) (own (within own s))) refl (both_alternatives x s (within_alternatives x) (within_alternatives s))
      within_alternatives (SepPlus x s) =
          by_alternatives (SepPlus x s) (SepPlus (own (within own x)) (own (within own s))) refl (both_alternatives x s (within_alternatives x) (within_alternatives s))
      within_alternatives (Group ys) =
          let a : alternatives_inside (Group (rewritten_choices own ys)) ≡ alternatives_among (rewritten_choices own ys) = by_form.alternatives_of_group (rewritten_choices own ys) in
          let b : alternatives_inside (Group ys) ≡ alternatives_among ys = by_form.alternatives_of_group ys in
          let h : alternatives_among (rewritten_choices own ys) ≤ alternatives_among ys = choices_alternatives ys in
          omega (arith, a, b, h)
      within_alternatives (Offside x) = by_alternatives (Offside x) (Offside (within own x)) refl (within_alternatives x)
      within_alternatives (Ignore x) = by_alternatives (Ignore x) (Ignore (within own x)) refl (within_alternatives x)
      within_alternatives (Align x) = by_alternatives (Align x) (Align (within own x)) refl (within_alternatives x)
      within_alternatives (Filtered x fs) = by_alternatives (Filtered x fs) (Filtered (within own x) fs) refl (within_alternatives x)
      within_alternatives (Seq xs) = by_alternatives (Seq xs) (Seq (rewritten_symbols own xs)) refl (symbols_alternatives xs)
      within_alternatives (Entry bs x) = by_alternatives (Entry bs x) (Entry bs (within own x)) refl (within_alternatives x)
      within_alternatives x = by_alternatives x x refl (omega arith)

      symbols_alternatives : (xs : Symbols) → alternatives_inside_symbols (rewritten_symbols own xs) ≤ alternatives_inside_symbols xs
      symbols_alternatives no_symbols = omega arith
      symbols_alternatives (next_symbol x xs) =
          let a : alternatives_inside_symbols (rewritten_symbols own (next_symbol x xs)) ≡ alternatives_inside (own (within own x)) + alternatives_inside_symbols (rewritten_symbols own xs) =
          by_form.alternatives_of_symbols (rewritten_symbols own (next_symbol x xs)) in
          let b : alternatives_inside_symbols (next_symbol x xs) ≡ alternatives_inside x + alternatives_inside_symbols xs = by_form.alternatives_of_symbols (next_symbol x xs) in
          let h : alternatives_inside (own (within own x)) ≤ alternatives_inside x = owned_alternatives x (within_alternatives x) in
          let i : alternatives_inside_symbols (rewritten_symbols own xs) ≤ alternatives_inside_symbols xs = symbols_alternatives xs in
          omega (arith, a, b, h, i)

      choices_alternatives : (ys : Alternatives) → alternatives_among (rewritten_choices own ys) ≤ alternatives_among ys
      choices_alternatives no_alternatives = omega arith
      choices_alternatives (next_alternative xs ys) =
          let a : alternatives_among (rewritten_choices own (next_alternative xs ys)) ≡ alternatives_inside_symbols (rewritten_symbols own xs) + alternatives_among (rewritten_choices own ys) + 1 =
          by_form.further_alternative (rewritten_symbols own xs) (rewritten_choices own ys) in
          let b : alternatives_among (next_alternative xs ys) ≡ alternatives_inside_symbols xs + alternatives_among ys + 1 = by_form.further_alternative xs ys in
          let h : alternatives_inside_symbols (rewritten_symbols own xs) ≤ alternatives_inside_symbols xs = symbols_alternatives xs in
          let i : alternatives_among (rewritten_choices own ys) ≤ alternatives_among ys = choices_alternatives ys in
          omega (arith, a, b, h, i)

    level_parts : (level : Level) → parts_of_alternatives (gathered_alternatives (rewritten_level own level).alts) ≤ suc n * parts_of_alternatives (gathered_alternatives level.alts)
    level_parts level =
        subst (λ ys. parts_of_alternatives ys ≤ suc n * parts_of_alternatives (gathered_alternatives level.alts)) (sym (choices_gathered own level.alts))
        (choices_parts (gathered_alternatives level.alts))

    level_alternatives : (level : Level) → alternatives_among (gathered_alternatives (rewritten_level own level).alts) ≤ suc n * alternatives_among (gathered_alternatives level.alts)
    level_alternatives level =
        subst (λ ys. alternatives_among ys ≤ suc n * alternatives_among (gathered_alternatives level.alts)) (sym (choices_gathered own level.alts))
        (let h = choices_alternatives (gathered_alternatives level.alts) in omega (arith, h))

    levels_grow : (levels : List Level) → LevelsGrow (suc n) levels (map (rewritten_level own) levels)
    levels_grow levels =
        record {
          levels = let e = length-map levels (rewritten_level own) in omega (arith, e);
          alternatives = sum_multiplied (suc n) (λ level. alternatives_among (gathered_alternatives level.alts)) (rewritten_level own) level_alternatives levels;
          symbols = sum_multiplied (suc n) (λ level. parts_of_alternatives (gathered_alternatives level.alts)) (rewritten_level own) level_parts levels;
        }

  pub counts_grow : CountsGrow
  counts_grow =
      record {
        root = root_counted;
        declarations = declarations_counted;
        rewritings = λ n own adds keeps levels. levels_grow n own adds keeps levels;
      }
