-- How the counts of a grammar grow: none more than threefold, before the root is added.
use Rattle.std.proofs.Common.{◌≡◌, ◌∙◌, ℕ, zero, suc, ◌+◌, ◌*◌, ◌≤◌, ◌<◌, List, [], ◌∷◌, ◌++◌, length, map, refl, sym}
use Rattle.std.proofs.Common.{ap, arith}
use Rattle.std.specs.Prelude.{All, Contains, sum_by}
use Rattle.std.proofs.lemmas.List.{length-append, length-map}
use Rattle.std.proofs.lemmas.List.Sums.{sum_by-cons}
use Rattle.ig_text.proofs.Lists.{contains_first, contains_later}
use Rattle.ig_grammar.specs.Alternative.{gathered_alternatives}
use Rattle.ig_grammar.specs.Checked.{IsOneFreeLevel}
use Rattle.ig_grammar.specs.Laws.{CountsByForm}
use Rattle.ig_grammar.specs.Counts.{HasFewerThan, alternatives_among}
use Rattle.ig_grammar.specs.Counts.{parts_of_alternatives}
use Rattle.ig_grammar.specs.Subterms.{subterms_of_alternatives}
use Rattle.ig_grammar.specs.Visible.{Visible, parameters}
use Rattle.ig_grammar.specs.declared.symbol.Alt.{Alt}
use Rattle.ig_grammar.specs.declared.declaration.Level.{Level}
use Rattle.ig_grammar.specs.declared.declaration.Decl.{Decl}
use Rattle.ig_grammar.specs.declared.grammar.Grammar.{Grammar}
use Rattle.ig_pass.specs.Added.{added_name}
use Rattle.ig_pass.specs.Counts.{CountsGrow, alternatives_of_levels, parts_of_levels}
use Rattle.ig_ebnf_variables.specs.Laws.{ListsMultiply}
use Rattle.ig_ebnf_variables.specs.Lists.{Made, added_alts, added_by, added_levels, all_added, alts_of}
use Rattle.ig_ebnf_variables.specs.Lists.{count_alts, count_levels, decls_of, lowered, lowered_grammar, new_alternatives, new_alts}
use Rattle.ig_ebnf_variables.specs.Lists.{new_declaration, new_levels}
use Rattle.ig_ebnf_variables.proofs.AddedNames.{AllPlain, all_plain, by_titles, numbers}
use Rattle.ig_ebnf_variables.proofs.Groups.{added_group, alternatives_back, lowered_group}
use Rattle.ig_ebnf_variables.proofs.Counting.{choices_number, choices_parts, decl_parts, levels_count_fits, made_alternatives}
use Rattle.ig_ebnf_variables.proofs.Counting.{made_levels, made_parts, total, total_joined, total_mapped, total_of}
use Rattle.ig_ebnf_variables.proofs.CountingSymbols.{IsCounted, choices_fit}

abbrev decl_levels : Decl → ℕ
decl_levels decl = length decl.levels

abbrev decl_alternatives : Decl → ℕ
decl_alternatives decl = alternatives_of_levels decl.levels

abbrev alternatives_at : Level → ℕ
alternatives_at level = alternatives_among (gathered_alternatives level.alts)

abbrev parts_at : Level → ℕ
parts_at level = parts_of_alternatives (gathered_alternatives level.alts)

-- each added declaration has one level
one_level : (levels : List Level) → IsOneFreeLevel levels → length levels ≡ 1
one_level [] h = absurd h
one_level (level ∷ []) h = refl
one_level (level ∷ next ∷ others) h = absurd h

levels_made : (ms : List Made) → AllPlain ms → total made_levels ms ≡ length ms
levels_made [] h = refl
levels_made (m ∷ ms) h =
    let one = one_level m.decl.levels h.0.level in let rest = levels_made ms h.1 in omega (arith, one, rest)

numbers_length : (k n : ℕ) → length (numbers k n) ≡ n
numbers_length k zero = refl
numbers_length k (suc n) = let h = numbers_length (suc k) n in omega (arith, h)

number_added : (decl : Decl) → length (added_by decl) ≡ count_levels decl.levels
number_added decl =
    let n = count_levels decl.levels in
    sym (length-map (added_by decl) (λ (m : Made). m.decl.name)) ∙
    ap (λ (z : List (List ℕ)). length z) (by_titles decl) ∙
    length-map (numbers 1 n) (added_name decl.name) ∙ numbers_length 1 n

-- each alternative is counted
abbrev LevelCounted : Level → Type 0
LevelCounted level = All IsCounted (subterms_of_alternatives (gathered_alternatives level.alts))

-- levels, those in their place, and the declarations that are added for them
record LevelsFit (before after : List Level) (ms : List Made) : Type 0 where
  number : length after ≡ length before
  alternatives :
      alternatives_of_levels after + total made_alternatives ms ≤
      alternatives_of_levels before + 2 * parts_of_levels before
  symbols : parts_of_levels after + total made_parts ms ≤ 3 * parts_of_levels before

-- and so for declarations
record DeclsFit (ds : List Decl) : Type 0 where
  number : length (all_added ds) ≤ 2 * total decl_parts ds
  levels : total decl_levels (map new_declaration ds) ≡ total decl_levels ds
  alternatives :
      total decl_alternatives (map new_declaration ds) + total made_alternatives (all_added ds) ≤
      total decl_alternatives ds + 2 * total decl_parts ds
  symbols :
      total decl_parts (map new_declaration ds) + total made_parts (all_added ds) ≤ 3 * total decl_parts ds

module _ (by_form : CountsByForm) where
  module _ (of : List ℕ) where
    lowered_alts : (alts : List Alt) (v : Visible) (k : ℕ) →
        new_alts of v k alts ≡ alts_of (new_alternatives of v k (gathered_alternatives alts))
    lowered_alts alts v k = sym (alternatives_back (new_alts of v k alts)) ∙ ap alts_of (lowered_group of v k alts)

    levels_fit : (levels : List Level) (v : Visible) (k : ℕ) →
        ((level : Level) → Contains levels level → LevelCounted level) →
        LevelsFit levels (new_levels of v k levels) (added_levels of v k levels)
    levels_fit [] v k each = record { number = refl; alternatives = omega arith; symbols = omega arith }
    levels_fit (first ∷ others) v k each =
        let alts = first.alts in
        let ys = gathered_alternatives alts in
        let l = k + count_alts alts in
        let cs = new_alternatives of v k ys in
        let here = choices_fit by_form of ys v k (each first (contains_first first others)) in
        let rest =
        levels_fit others v l (λ level among. each level (contains_later first others level among)) in
        let made : Level = record { assoc = first.assoc; alts = new_alts of v k alts } in
        let standing = here.standing in
        let a = here.alternatives in
        let p = here.once in
        let n = rest.number in
        let b = rest.alternatives in
        let q = rest.symbols in
        let a_before = sum_by-cons alternatives_at first others in
        let a_after = sum_by-cons alternatives_at made (new_levels of v l others) in
        let a_here : alternatives_at made ≡ alternatives_among (gathered_alternatives (alts_of cs)) =
        ap (λ z. alternatives_among (gathered_alternatives z)) (lowered_alts alts v k) in
        let a_number = choices_number by_form cs in
        let a_added = total_joined made_alternatives (added_alts of v k alts) (added_levels of v l others) in
        let a_same = ap (total made_alternatives) (added_group of v k alts) in
        let p_before = sum_by-cons parts_at first others in
        let p_after = sum_by-cons parts_at made (new_levels of v l others) in
        let p_here : parts_at made ≡ parts_of_alternatives (gathered_alternatives (alts_of cs)) =
        ap (λ z. parts_of_alternatives (gathered_alternatives z)) (lowered_alts alts v k) in
        let p_number = choices_parts by_form cs in
        let p_added = total_joined made_parts (added_alts of v k alts) (added_levels of v l others) in
        let p_same = ap (total made_parts) (added_group of v k alts) in
        record {
          number = omega (arith, n);
          alternatives =
              omega (arith, standing, a, b, a_before, a_after, a_here, a_number, a_added, a_same, p_before);
          symbols = omega (arith, p, q, p_before, p_after, p_here, p_number, p_added, p_same);
        }

  decls_fit : (ds : List Decl) →
      ((decl : Decl) (level : Level) → Contains ds decl → Contains decl.levels level → LevelCounted level) →
      DeclsFit ds
  decls_fit [] each =
      record { number = omega arith; levels = refl; alternatives = omega arith; symbols = omega arith }
  decls_fit (d ∷ ds) each =
      let here =
      levels_fit d.name d.levels (parameters d.params) 1 (λ level. each d level (contains_first d ds)) in
      let rest = decls_fit ds (λ decl level among. each decl level (contains_later d ds decl among)) in
      let n = here.number in
      let a = here.alternatives in
      let p = here.symbols in
      let k = rest.number in
      let m = rest.levels in
      let b = rest.alternatives in
      let q = rest.symbols in
      let n_added = length-append (added_by d) (all_added ds) in
      let n_here = number_added d in
      let few = levels_count_fits by_form d.levels in
      let a_added = total_joined made_alternatives (added_by d) (all_added ds) in
      let p_added = total_joined made_parts (added_by d) (all_added ds) in
      record {
        number = omega (arith, k, n_added, n_here, few);
        levels = omega (arith, n, m);
        alternatives = omega (arith, a, b, a_added);
        symbols = omega (arith, p, q, p_added);
      }

  -- a count of all declarations of the lowered grammar
  over_all : (weight : Decl → ℕ) (ds : List Decl) →
      sum_by weight (map new_declaration ds ++ decls_of (all_added ds)) ≡
      total weight (map new_declaration ds) + total (λ (m : Made). weight m.decl) (all_added ds)
  over_all weight ds =
      let a = total_of weight (map new_declaration ds ++ decls_of (all_added ds)) in
      let b = total_joined weight (map new_declaration ds) (decls_of (all_added ds)) in
      let c = total_mapped weight (λ (m : Made). m.decl) (all_added ds) in
      omega (arith, a, b, c)

  lowered_counted : (g : Grammar) (most : ℕ) →
      ((decl : Decl) (level : Level) → Contains g.decls decl → Contains decl.levels level → LevelCounted level) →
      HasFewerThan most g → HasFewerThan (3 * most) (lowered_grammar g)
  lowered_counted g most each fewer =
      let ds = g.decls in
      let w = decls_fit ds each in
      let d : length ds < most = fewer.declarations in
      let l : sum_by decl_levels ds < most = fewer.levels in
      let a : sum_by decl_alternatives ds < most = fewer.alternatives in
      let p : sum_by decl_parts ds < most = fewer.symbols in
      let l_sum = total_of decl_levels ds in
      let a_sum = total_of decl_alternatives ds in
      let p_sum = total_of decl_parts ds in
      let n = w.number in
      let m = w.levels in
      let b = w.alternatives in
      let q = w.symbols in
      let joined = length-append (map new_declaration ds) (decls_of (all_added ds)) in
      let mapped = length-map ds new_declaration in
      let named = length-map (all_added ds) (λ (x : Made). x.decl) in
      let levels = levels_made (all_added ds) (all_plain ds) in
      let l_all = over_all decl_levels ds in
      let a_all = over_all decl_alternatives ds in
      let p_all = over_all decl_parts ds in
      record {
        declarations = omega (arith, d, n, p, p_sum, joined, mapped, named);
        levels = omega (arith, l, l_sum, m, n, p, p_sum, levels, l_all);
        alternatives = omega (arith, a, a_sum, b, p, p_sum, a_all);
        symbols = omega (arith, q, p, p_sum, p_all);
      }

  -- with the root
  with_root_counted : (g : Grammar) (most : ℕ) → HasFewerThan (3 * most + 2) g → HasFewerThan (3 * (most + 2)) g
  with_root_counted g most fewer =
      let d = fewer.declarations in
      let l = fewer.levels in
      let a = fewer.alternatives in
      let p = fewer.symbols in
      record {
        declarations = omega (arith, d);
        levels = omega (arith, l);
        alternatives = omega (arith, a);
        symbols = omega (arith, p);
      }

  pub all_lists_multiply : CountsGrow → ListsMultiply
  all_lists_multiply counts c well unmarked most fewer =
      with_root_counted _ most
      (counts.root (lowered c) (3 * most)
      (lowered_counted c.grammar most
      (λ decl level among inside k x within. (
        (well decl level among inside k x within).1,
        unmarked decl level among inside k x within,
      )) fewer))
