-- Sums over symbols, alternatives and added declarations, and how many declarations are added for a symbol.
use Rattle.std.proofs.Common.{◌≡◌, ℕ, suc, ◌+◌, ◌*◌, ◌≤◌, ◌<◌, List, [], ◌∷◌, ◌++◌, length, map, refl, ap, subst, arith}
use Rattle.std.specs.Prelude.{sum_by}
use Rattle.std.proofs.lemmas.List.Sums.{sum_by-cons, get_or-le-sum_by}
use Rattle.ig_grammar.specs.Alternative.{gathered_alternatives}
use Rattle.ig_grammar.specs.Laws.{CountsByForm}
use Rattle.ig_grammar.specs.Counts.{alternatives_among, alternatives_inside, alternatives_inside_symbols}
use Rattle.ig_grammar.specs.Counts.{parts, parts_of_symbols, parts_of_alternatives}
use Rattle.ig_grammar.specs.Symbol.{Symbol, Literal, OneOf, Call, Label, Guard, Let, Opt, Star, Plus, SepStar}
use Rattle.ig_grammar.specs.Symbol.{SepPlus, Group, Offside, Ignore, Align}
use Rattle.ig_grammar.specs.Symbol.{Filtered, Seq, Entry, Symbols, no_symbols, next_symbol, Alternatives}
use Rattle.ig_grammar.specs.Symbol.{no_alternatives, next_alternative, gathered}
use Rattle.ig_grammar.specs.declared.declaration.Assoc.TheVariants.{Free}
use Rattle.ig_grammar.specs.declared.declaration.Level.{Level}
use Rattle.ig_grammar.specs.declared.declaration.Decl.{Decl}
use Rattle.ig_pass.specs.Counts.{alternatives_of_levels, parts_of_levels}
use Rattle.ig_ebnf_variables.specs.Laws.{ListsAreFew}
use Rattle.ig_ebnf_variables.specs.Lists.{Made, alts_of, count, count_symbols, count_alternatives, count_levels}
use Rattle.ig_ebnf_variables.proofs.Groups.{counted}

module _ {X : Type 0} (weight : X → ℕ) where
  -- a sum that computes from the left
  abbrev pub total : List X → ℕ
  total [] = 0
  total (x ∷ xs) = weight x + total xs

  pub total_joined : (xs ys : List X) → total (xs ++ ys) ≡ total xs + total ys
  total_joined [] ys = omega arith
  total_joined (x ∷ xs) ys = let h = total_joined xs ys in omega (arith, h)

  pub total_of : (xs : List X) → sum_by weight xs ≡ total xs
  total_of [] = refl
  total_of (x ∷ xs) = let h = total_of xs in let e = sum_by-cons weight x xs in omega (arith, h, e)

pub total_mapped : {X Y : Type 0} (weight : Y → ℕ) (f : X → Y) (xs : List X) →
    total weight (map f xs) ≡ total (λ x. weight (f x)) xs
total_mapped weight f [] = refl
total_mapped weight f (x ∷ xs) = ap (λ n. weight (f x) + n) (total_mapped weight f xs)

abbrev pub made_levels : Made → ℕ
made_levels m = length m.decl.levels

abbrev pub made_alternatives : Made → ℕ
made_alternatives m = alternatives_of_levels m.decl.levels

abbrev pub made_parts : Made → ℕ
made_parts m = parts_of_levels m.decl.levels

abbrev pub decl_parts : Decl → ℕ
decl_parts decl = parts_of_levels decl.levels

-- the only level of an added declaration
abbrev pub level_of : List (List Symbol) → List Level
level_of cs = record { assoc = Free; alts = alts_of cs } ∷ []

module _ (by_form : CountsByForm) where
  gathered_parts : (xs : List Symbol) → parts_of_symbols (gathered xs) ≡ total parts xs
  gathered_parts [] = refl
  gathered_parts (x ∷ xs) =
      let h = gathered_parts xs in
      let e : parts_of_symbols (next_symbol x (gathered xs)) ≡ parts x + parts_of_symbols (gathered xs) =
      by_form.parts_among_symbols (next_symbol x (gathered xs)) in
      omega (arith, h, e)

  gathered_inside : (xs : List Symbol) → alternatives_inside_symbols (gathered xs) ≡ total alternatives_inside xs
  gathered_inside [] = refl
  gathered_inside (x ∷ xs) =
      let h = gathered_inside xs in
      let e : alternatives_inside_symbols (next_symbol x (gathered xs)) ≡
      alternatives_inside x + alternatives_inside_symbols (gathered xs) =
      by_form.alternatives_of_symbols (next_symbol x (gathered xs)) in
      omega (arith, h, e)

  pub choices_parts : (cs : List (List Symbol)) →
      parts_of_alternatives (gathered_alternatives (alts_of cs)) ≡ total (total parts) cs
  choices_parts [] = refl
  choices_parts (xs ∷ cs) =
      let h = choices_parts cs in
      let i = gathered_parts xs in
      let ys = gathered_alternatives (alts_of cs) in
      let e : parts_of_alternatives (next_alternative (gathered xs) ys) ≡
      parts_of_symbols (gathered xs) + parts_of_alternatives ys =
      by_form.parts_among_alternatives (next_alternative (gathered xs) ys) in
      omega (arith, h, i, e)

  pub choices_number : (cs : List (List Symbol)) →
      alternatives_among (gathered_alternatives (alts_of cs)) ≡ length cs + total (total alternatives_inside) cs
  choices_number [] = refl
  choices_number (xs ∷ cs) =
      let h = choices_number cs in
      let i = gathered_inside xs in
      let e = by_form.further_alternative (gathered xs) (gathered_alternatives (alts_of cs)) in
      omega (arith, h, i, e)

  pub level_parts : (cs : List (List Symbol)) → parts_of_levels (level_of cs) ≡ total (total parts) cs
  level_parts cs = let h = choices_parts cs in omega (arith, h)

  pub level_alternatives : (cs : List (List Symbol)) →
      alternatives_of_levels (level_of cs) ≡ length cs + total (total alternatives_inside) cs
  level_alternatives cs = let h = choices_number cs in omega (arith, h)

  -- each symbol adds two declarations at most
  inner : (x y : Symbol) → count x ≤ 2 * parts x → parts y ≡ 1 + parts x → suc (count x) ≤ 2 * parts y
  inner x y h e = omega (arith, h, e)

  outer : (x y : Symbol) (n : ℕ) → count x ≤ 2 * parts x → parts y ≡ (n + 1) + parts x → count x ≤ 2 * parts y
  outer x y n h e = omega (arith, h, e)

  mutual
    count_fits : (x : Symbol) → count x ≤ 2 * parts x
    count_fits (Literal w) = omega arith
    count_fits (OneOf w) = omega arith
    count_fits (Call m es) = omega arith
    count_fits (Guard e) = omega arith
    count_fits (Let m e) = omega arith
    count_fits (Label m x) = outer x (Label m x) 0 (count_fits x) (by_form.parts_of (Label m x))
    count_fits (Opt x) = inner x (Opt x) (count_fits x) (by_form.parts_of (Opt x))
    count_fits (Star x) = inner x (Star x) (count_fits x) (by_form.parts_of (Star x))
    count_fits (Plus x) = inner x (Plus x) (count_fits x) (by_form.parts_of (Plus x))
    count_fits (SepStar x s) =
        let h = count_fits x in
        let i = count_fits s in
        let e : parts (SepStar x s) ≡ 1 + (parts x + parts s) = by_form.parts_of (SepStar x s) in
        omega (arith, h, i, e)
    count_fits (SepPlus x s) =
        let h = count_fits x in
        let i = count_fits s in
        let e : parts (SepPlus x s) ≡ 1 + (parts x + parts s) = by_form.parts_of (SepPlus x s) in
        omega (arith, h, i, e)
    count_fits (Group ys) =
        let h = choices_count_fits ys in
        let e : parts (Group ys) ≡ 1 + parts_of_alternatives ys = by_form.parts_of (Group ys) in
        omega (arith, h, e)
    count_fits (Offside x) = outer x (Offside x) 0 (count_fits x) (by_form.parts_of (Offside x))
    count_fits (Ignore x) = outer x (Ignore x) 0 (count_fits x) (by_form.parts_of (Ignore x))
    count_fits (Align x) = outer x (Align x) 0 (count_fits x) (by_form.parts_of (Align x))
    count_fits (Filtered x fs) =
        outer x (Filtered x fs) (length fs) (count_fits x) (by_form.parts_of (Filtered x fs))
    count_fits (Seq xs) =
        let h = symbols_count_fits xs in
        let e : parts (Seq xs) ≡ 1 + parts_of_symbols xs = by_form.parts_of (Seq xs) in
        omega (arith, h, e)
    count_fits (Entry bs x) = outer x (Entry bs x) 0 (count_fits x) (by_form.parts_of (Entry bs x))

    symbols_count_fits : (xs : Symbols) → count_symbols xs ≤ 2 * parts_of_symbols xs
    symbols_count_fits no_symbols = omega arith
    symbols_count_fits (next_symbol x xs) =
        let h = count_fits x in
        let i = symbols_count_fits xs in
        let e : parts_of_symbols (next_symbol x xs) ≡ parts x + parts_of_symbols xs =
        by_form.parts_among_symbols (next_symbol x xs) in
        omega (arith, h, i, e)

    choices_count_fits : (ys : Alternatives) → count_alternatives ys ≤ 2 * parts_of_alternatives ys
    choices_count_fits no_alternatives = omega arith
    choices_count_fits (next_alternative xs ys) =
        let h = symbols_count_fits xs in
        let i = choices_count_fits ys in
        let e : parts_of_alternatives (next_alternative xs ys) ≡ parts_of_symbols xs + parts_of_alternatives ys =
        by_form.parts_among_alternatives (next_alternative xs ys) in
        omega (arith, h, i, e)

  pub levels_count_fits : (levels : List Level) → count_levels levels ≤ 2 * parts_of_levels levels
  levels_count_fits [] = omega arith
  levels_count_fits (level ∷ levels) =
      let h : count_alternatives (gathered_alternatives level.alts) ≤
      2 * parts_of_alternatives (gathered_alternatives level.alts) =
      choices_count_fits (gathered_alternatives level.alts) in
      let i = levels_count_fits levels in
      let same = counted level.alts in
      let e = sum_by-cons (λ (l : Level). parts_of_alternatives (gathered_alternatives l.alts)) level levels in
      omega (arith, h, i, same, e)

  -- so they are few where few symbols are
  pub all_lists_are_few : ListsAreFew
  all_lists_are_few g most fewer decl among =
      let h = levels_count_fits decl.levels in
      let i : decl_parts decl ≤ sum_by decl_parts g.decls =
      subst (λ d. decl_parts d ≤ sum_by decl_parts g.decls) among.2
      (get_or-le-sum_by decl_parts g.decls among.0 decl among.1) in
      let j : sum_by decl_parts g.decls < most = fewer.symbols in
      omega (arith, h, i, j)
