-- A well-scoped grammar says a width that tabs may have.
use Rattle.std.proofs.Common.{◌≡◌, ℕ, ◌≤◌, ◌&&◌, Bool, Option, Some, None, true, false, not, ℤ, pos, negsuc, leb, refl, sym, ◌∙◌, ap, subst, arith, T, w64, to_z, of_z, FitsSigned}
use Rattle.std.proofs.lemmas.Int.{to_z-of_z}
use Rattle.std.proofs.lemmas.Bool.Decides.{nat_tests}
use Rattle.ig_text.specs.Input.{IsTabWidth}
use Rattle.ig_text.specs.Limits.{most_tabs}
use Rattle.ig_grammar.specs.Condition as meets
use Rattle.ig_grammar.specs.Tabs.{is_width, says_bad_width, tab_width}
use Rattle.ig_grammar.specs.WellScoped.{IsWellScoped}
use Rattle.ig_grammar.specs.declared.grammar.Grammar.{Grammar}

between : (n : ℕ) (a b : Bool) → leb 1 n ≡ a → leb n most_tabs ≡ b → a && b ≡ true → IsTabWidth n
between n true true e f h = record { some = grind (arith, nat_tests); few = grind (arith, nat_tests) }
between n true false e f h = cc
between n false b e f h = cc

good : (b : Bool) → (not b ≡ true → ⊥) → b ≡ true
good true h = refl
good false h = absurd (h refl)

-- a width that is said is a number from 1 to 16
pub width_said : (g : Grammar) → IsWellScoped g → (n : ℤ) → g.tabs ≡ Some n → (m : ℕ) × (n ≡ pos m) × IsTabWidth m
width_said g scoped n said = go n said (good (is_width n) (λ bad. scoped (record { decl = 0; alt = 0; symbol = 0 }) meets.BadTabs (meets.bad_tabs (ap says_bad_width said ∙ bad))))
  where
    go : (n : ℤ) → g.tabs ≡ Some n → is_width n ≡ true → (m : ℕ) × (n ≡ pos m) × IsTabWidth m
    go (pos m) e t = (m, refl, between m (leb 1 m) (leb m most_tabs) refl refl t)
    go (negsuc m) e t = cc

-- and so is the width of tabs
pub width_allowed : (g : Grammar) → IsWellScoped g → (o : Option ℤ) → g.tabs ≡ o → IsTabWidth (tab_width o)
width_allowed g scoped None e = record { some = omega arith; few = omega arith }
width_allowed g scoped (Some (pos m)) e = let w = width_said g scoped (pos m) e in let same : pos m ≡ pos w.0 = w.1 in let is : m ≡ w.0 = cc in rw is w.2
width_allowed g scoped (Some (negsuc m)) e = let w = width_said g scoped (negsuc m) e in let same : negsuc m ≡ pos w.0 = w.1 in cc

-- it stays as it is in 64 bits
pub width_kept : (g : Grammar) → IsWellScoped g → (n : ℤ) → g.tabs ≡ Some n → (m : ℕ) × (to_z w64 (of_z w64 n) ≡ pos m) × (n ≡ pos m) × IsTabWidth m
width_kept g scoped n said =
    let w = width_said g scoped n said in
    let few : w.0 ≤ most_tabs = w.2.few in
    let fits : FitsSigned w64 n = subst (FitsSigned w64) (sym w.1) (record { sfits = omega (arith, few) }) in
    (w.0, to_z-of_z w64 n fits ∙ w.1, w.1, w.2)
