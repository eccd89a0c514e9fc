-- The pass as the program does it: what is made is checked, and what is counted is few.
use Rattle.std.proofs.Common.{◌≡◌, ℕ, ◌+◌, ◌<◌, ◌≤◌, ℤ, List, Option, None, false, length, drop, sym, ap, subst, arith}
use Rattle.std.proofs.lemmas.List.{drop_all}
use Rattle.ig_grammar.specs.Numbering.{layout_among}
use Rattle.ig_grammar.specs.Checked.{CheckedGrammar, FitShapes}
use Rattle.ig_grammar.specs.WellScoped.{IsWellScoped}
use Rattle.ig_grammar.specs.declared.declaration.Decl.{Decl}
use Rattle.ig_grammar.specs.declared.declaration.Level.{Level}
use Rattle.ig_grammar.specs.declared.place.Shape.{Shape}
use Rattle.ig_pass.specs.Added.{numbers_bound, root_name, IsFresh}
use Rattle.ig_pass.specs.Rooted.{has_root}
use Rattle.ig_pass.specs.Sound.{IsSound, IsFree, IsUnmarked, HasExclusionsAlone}
use Rattle.ig_ebnf_variables.specs.Lists.{count_levels, HasFewLists, lowered, lowered_grammar}
use Rattle.ig_ebnf_variables.specs.Laws.{LoweringKeeps}

pub few_counted : (items levels : List Level) (i next : ℕ) → items ≡ levels → length items ≤ i →
    next + count_levels (drop i items) ≡ 1 + count_levels items → next < numbers_bound →
    count_levels levels < numbers_bound
few_counted items levels i next m h e l =
    let none : count_levels (drop i items) ≡ 0 = ap count_levels (drop_all i items h) in
    let same : count_levels items ≡ count_levels levels = ap count_levels m in
    let n : count_levels levels < next = omega arith in omega (arith, n, l)

module _ (law : LoweringKeeps) (c : CheckedGrammar) (sound : IsSound c) (free : IsFree c.grammar)
    (unmarked : IsUnmarked c.grammar)
    (no_layout : layout_among c.grammar.decls ≡ None) (excluding : HasExclusionsAlone c.grammar)
    (few : HasFewLists c.grammar) where
  made_is : (start : Option (List ℕ)) (tabs : Option ℤ) (decls : List Decl) → start ≡ c.grammar.start → tabs ≡ c.grammar.tabs →
      decls ≡ (lowered_grammar c.grammar).decls →
      lowered_grammar c.grammar ≡ record { start = start; tabs = tabs; decls = decls }
  made_is start tabs decls e w f = λ i. record { start = sym e i; tabs = sym w i; decls = sym f i }

  pub made_is_scoped : (start : Option (List ℕ)) (tabs : Option ℤ) (decls : List Decl) → start ≡ c.grammar.start → tabs ≡ c.grammar.tabs →
      decls ≡ (lowered_grammar c.grammar).decls →
      IsWellScoped (record { start = start; tabs = tabs; decls = decls })
  made_is_scoped start tabs decls e w f = subst IsWellScoped (made_is start tabs decls e w f)
      (law c sound free unmarked no_layout excluding few).scoped

  pub made_fits : (start : Option (List ℕ)) (tabs : Option ℤ) (decls : List Decl) (shapes : List Shape) → start ≡ c.grammar.start → tabs ≡ c.grammar.tabs →
      decls ≡ (lowered_grammar c.grammar).decls → shapes ≡ (lowered c).shapes →
      FitShapes (record { start = start; tabs = tabs; decls = decls }) shapes
  made_fits start tabs decls shapes e w f g =
      subst (λ z. FitShapes z shapes) (made_is start tabs decls e w f)
      (subst (FitShapes (lowered_grammar c.grammar)) (sym g) (law c sound free unmarked no_layout excluding few).fit)

  pub root_is_fresh : (d : CheckedGrammar) → d ≡ lowered c → has_root d.shapes ≡ false → IsFresh d.grammar root_name
  root_is_fresh d e =
      subst (λ (z : CheckedGrammar). has_root z.shapes ≡ false → IsFresh z.grammar root_name) (sym e)
      (law c sound free unmarked no_layout excluding few).fresh
