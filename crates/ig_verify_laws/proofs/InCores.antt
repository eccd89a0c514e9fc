-- The integers of the core grammar of a grammar that is read fit.
use Rattle.std.proofs.Common.{◌≡◌, ℕ, zero, suc, ◌+◌, ◌<◌, ◌≤◌, List, [], ◌∷◌, ◌++◌, map, length, sum_by, All, Bool, true, false, Option, Some, None, if◌then◌else◌, slice_get, sym, subst, arith, lit<}
use Rattle.std.specs.Option.{unwrap_or}
use Rattle.std.proofs.lemmas.List.Elements.{All-nil, All-cons}
use Rattle.std.proofs.lemmas.List.Sums.{sum_by-cons}
use Rattle.std.proofs.lemmas.Option.{same_Some}
use Rattle.ig_text.specs.Limits.{numbers_end}
use Rattle.ig_text.specs.declared.pattern.Pattern.{Pattern}
use Rattle.ig_expr.specs.Expression.{Expression}
use Rattle.ig_grammar.specs.Checked.{CheckedGrammar}
use Rattle.ig_grammar.specs.Numbering.{alternatives, layout_among}
use Rattle.ig_grammar.specs.Symbol.{Symbol, Literal, OneOf, Call, Label, Guard, Let, Filtered}
use Rattle.ig_grammar.specs.declared.declaration.Decl.{Decl}
use Rattle.ig_grammar.specs.declared.declaration.DeclKind.TheVariants.{Syntax}
use Rattle.ig_grammar.specs.declared.declaration.Level.{Level}
use Rattle.ig_grammar.specs.declared.grammar.Grammar.{Grammar}
use Rattle.ig_grammar.specs.declared.place.Shape.{Shape}
use Rattle.ig_grammar.specs.declared.symbol.Alt.{Alt}
use Rattle.ig_meaning.specs.Permitted.{behind_layout}
use Rattle.ig_item.specs.Core.{numbered as by_number}
use Rattle.ig_item.specs.declared.core_grammar.CoreAlt.{CoreAlt}
use Rattle.ig_item.specs.declared.core_grammar.Nonterminal.{Nonterminal}
use Rattle.ig_grammar.specs.Regular.{IsRegular}
use Rattle.ig_notation.specs.Outcome.{ReadGrammarsAreRegular}
use Rattle.ig_w3c.specs.Laws as w3c
use Rattle.ig_w3c.specs.Outcome.{unplaced}
use Rattle.ig_pass.specs.Rewriting.{rewritten_declaration}
use Rattle.ig_pass.specs.Remaining.{label_of, main_of, patterns_of, unfiltered, unlabelled}
use Rattle.ig_pass.specs.Rooted.{calls_of_start, has_root, is_root, root_declaration, rooted, with_root}
use Rattle.ig_levels.specs.Levels.{LevelsOf, lowered_declaration as without_levels, names_levelled}
use Rattle.ig_blocks_parts.specs.Blocks.{BlocksOf, setting_of}
use Rattle.ig_lexical.specs.Layout.{LayoutOf, laid_declaration, laid_in}
use Rattle.ig_lexical.specs.Filters.{FiltersOf, attached}
use Rattle.ig_ebnf_variables.specs.Lists.{ListsOf, lowered}
use Rattle.ig_core.specs.CoreOf.{Shaped, shaped, unrooted, root_among, written_root, start_symbols, numbered, number_of, alternatives_of, nonterminals_of, core_of}
use Rattle.ig_core.specs.Lowered.{BeforeLists, CoreOf, Lowered}
use Rattle.ig_core.specs.Notation.{unchanged}
use Rattle.ig_core.specs.Steps.{step_with, step_of, steps_of}
use Rattle.ig_verify_laws.specs.Ranges.{AlternativeFits, HasSmallIntegers, IntegersFit, StepHasSmallIntegers}
use Rattle.ig_verify_laws.specs.IntegerLaws.{ReadCoresHaveSmallIntegers, W3cCoresHaveSmallIntegers}
use Rattle.ig_verify_laws.proofs.Fitting.{AltsFit, DeclsFit, EachFits, Fits, LevelsFit, ListFits, decls_joined, decls_mapped}
use Rattle.ig_verify_laws.proofs.Reading.{grammar_fits, read_fits}
use Rattle.ig_verify_laws.proofs.WithoutNumbers.{no_numbers}
use Rattle.ig_verify_laws.proofs.WithoutLevels.{declaration_fits}
use Rattle.ig_verify_laws.proofs.WithoutBlocks.{decls_by_fit}
use Rattle.ig_verify_laws.proofs.Rewritten.{levels_rewritten, laid_in_fits, attached_fits}
use Rattle.ig_verify_laws.proofs.WithoutLists.{without_lists_fit}

-- the root calls without arguments
calls_fit : (start : Option (List ℕ)) → ListFits (calls_of_start start)
calls_fit None = tt
calls_fit (Some start) = (tt, tt)

behind_fits : (layout : Option (List ℕ)) (xs : List Symbol) → ListFits xs → ListFits (behind_layout layout xs)
behind_fits None xs a = a
behind_fits (Some name) xs a = (tt, a)

rooted_fits : (c : CheckedGrammar) → DeclsFit c.grammar.decls → DeclsFit (rooted Syntax c).grammar.decls
rooted_fits c a = go (has_root c.shapes)
  where
    go : (b : Bool) → DeclsFit (if b then c else with_root Syntax c).grammar.decls
    go true = a
    go false =
        decls_joined c.grammar.decls (root_declaration Syntax c.grammar ∷ []) a
        (((behind_fits (layout_among c.grammar.decls) (calls_of_start c.grammar.start) (calls_fit c.grammar.start), tt), tt), tt)

-- few levels in each declaration
abbrev FewLevels : List Decl → Type 0
FewLevels [] = Unit {0}
FewLevels (d ∷ ds) = (length d.levels < numbers_end) × FewLevels ds

few_levels : (ds : List Decl) (n : ℕ) → n ≤ numbers_end → sum_by (λ decl. length decl.levels) ds < n → FewLevels ds
few_levels [] n le h = tt
few_levels (d ∷ ds) n le h =
    let sum = sum_by-cons (λ (decl : Decl). length decl.levels) d ds in (
      first (length d.levels) (sum_by (λ decl. length decl.levels) ds) _ n numbers_end sum h le,
      few_levels ds n le (others (length d.levels) (sum_by (λ decl. length decl.levels) ds) _ n sum h),
    )
  where
    first : (a b c n e : ℕ) → c ≡ a + b → c < n → n ≤ e → a < e
    first a b c n e s h le = omega (arith, s, h, le)

    others : (a b c n : ℕ) → c ≡ a + b → c < n → b < n
    others a b c n s h = omega (arith, s, h)

few_joined : (ds es : List Decl) → FewLevels ds → FewLevels es → FewLevels (ds ++ es)
few_joined [] es a b = b
few_joined (d ∷ ds) es a b = (a.0, few_joined ds es a.1 b)

rooted_few : (c : CheckedGrammar) → FewLevels c.grammar.decls → FewLevels (rooted Syntax c).grammar.decls
rooted_few c a = go (has_root c.shapes)
  where
    go : (b : Bool) → FewLevels (if b then c else with_root Syntax c).grammar.decls
    go true = a
    go false = few_joined c.grammar.decls (root_declaration Syntax c.grammar ∷ []) a (lit< tt, tt)

levels_in : (levelled : List ℕ → Bool) (ds : List Decl) → FewLevels ds → DeclsFit ds → DeclsFit (map (without_levels levelled) ds)
levels_in levelled [] few a = tt
levels_in levelled (d ∷ ds) few a = (declaration_fits levelled d few.0 a.0, levels_in levelled ds few.1 a.1)

levels_fit : (c : CheckedGrammar) → FewLevels c.grammar.decls → DeclsFit c.grammar.decls → DeclsFit (LevelsOf c).grammar.decls
levels_fit c few a =
    levels_in (names_levelled (rooted Syntax c).grammar.decls) (rooted Syntax c).grammar.decls (rooted_few c few) (rooted_fits c a)

blocks_fit : (c : CheckedGrammar) → DeclsFit c.grammar.decls → DeclsFit (BlocksOf c).grammar.decls
blocks_fit c a =
    let r = rooted Syntax c in
    decls_by_fit (setting_of r.grammar.decls r.shapes) r.shapes r.grammar.decls (rooted_fits c a)

layout_fits : (c : CheckedGrammar) → DeclsFit c.grammar.decls → DeclsFit (LayoutOf c).grammar.decls
layout_fits c a =
    let ds = (rooted Syntax c).grammar.decls in
    decls_mapped (laid_declaration ds)
    (λ d f. levels_rewritten (laid_in (layout_among ds) ds d.kind) (laid_in_fits (layout_among ds) ds d.kind) d.levels f) ds
    (rooted_fits c a)

filters_fit : (c : CheckedGrammar) → DeclsFit c.grammar.decls → DeclsFit (FiltersOf c).grammar.decls
filters_fit c a =
    decls_mapped (rewritten_declaration (λ decl. attached)) (λ d f. levels_rewritten attached attached_fits d.levels f)
    (rooted Syntax c).grammar.decls (rooted_fits c a)

lists_fit : (c : CheckedGrammar) → DeclsFit c.grammar.decls → DeclsFit (ListsOf c).grammar.decls
lists_fit c a = rooted_fits (lowered c) (without_lists_fit c.grammar.decls a)

lowered_fits : (g : Grammar) → FewLevels g.decls → DeclsFit g.decls → DeclsFit (Lowered (unchanged g)).grammar.decls
unfolding Lowered BeforeLists
lowered_fits g few a =
    lists_fit (FiltersOf (LayoutOf (BlocksOf (LevelsOf (unchanged g)))))
    (filters_fit (LayoutOf (BlocksOf (LevelsOf (unchanged g))))
    (layout_fits (BlocksOf (LevelsOf (unchanged g)))
    (blocks_fit (LevelsOf (unchanged g)) (levels_fit (unchanged g) few a))))

-- the last step
each_all : (es : List Expression) → EachFits es → All HasSmallIntegers es
each_all [] a = All-nil HasSmallIntegers
each_all (e ∷ es) a = All-cons HasSmallIntegers e es a.0 (each_all es a.1)

unlabelled_fits : (x : Symbol) → Fits x → Fits (unlabelled x)
unlabelled_fits (Label name x) a = a
unlabelled_fits x a = a

unfiltered_fits : (x : Symbol) → Fits x → Fits (unfiltered x)
unfiltered_fits (Filtered x filters) a = a
unfiltered_fits x a = a

module _ (number : List ℕ → ℕ) where
  step_fits : (label : Option (List ℕ)) (excluded : List Pattern) (x : Symbol) → Fits x →
      StepHasSmallIntegers (step_with number label excluded x)
  step_fits label excluded (Literal word) a = tt
  step_fits label excluded (OneOf class) a = tt
  step_fits label excluded (Call name es) a = each_all es a
  step_fits label excluded (Guard condition) a = a
  step_fits label excluded (Let name value) a = a
  step_fits label excluded x a = tt

  steps_fit : (xs : List Symbol) → ListFits xs → All StepHasSmallIntegers (steps_of number xs)
  steps_fit [] a = All-nil StepHasSmallIntegers
  steps_fit (x ∷ xs) a =
      All-cons StepHasSmallIntegers (step_of number x) (steps_of number xs)
      (step_fits (label_of x) (patterns_of x) (main_of x) (unfiltered_fits (unlabelled x) (unlabelled_fits x a.0)))
      (steps_fit xs a.1)

  alternative_at : (s : Shape) (n k : ℕ) (alts : List Alt) → AltsFit alts → (i : ℕ) (x : CoreAlt) →
      slice_get (alternatives_of number s n k alts) i ≡ Some x → AlternativeFits x
  alternative_at s n k [] a i x e = absurd (cc)
  alternative_at s n k (y ∷ others) a zero x e = subst AlternativeFits (same_Some _ x e) (steps_fit y.symbols a.0)
  alternative_at s n k (y ∷ others) a (suc i) x e = alternative_at s n (suc k) others a.1 i x e

  alts_joined : (xs ys : List Alt) → AltsFit xs → AltsFit ys → AltsFit (xs ++ ys)
  alts_joined [] ys a b = b
  alts_joined (x ∷ xs) ys a b = (a.0, alts_joined xs ys a.1 b)

  all_levels : (levels : List Level) → LevelsFit levels → AltsFit (alternatives levels)
  all_levels [] a = tt
  all_levels (level ∷ others) a = alts_joined level.alts (alternatives others) a.0 (all_levels others a.1)

  abbrev RowsFit : List Shaped → Type 0
  RowsFit [] = Unit {0}
  RowsFit (x ∷ rows) = LevelsFit x.decl.levels × RowsFit rows

  nonterminal_at : (n : ℕ) (rows : List Shaped) → RowsFit rows → (k : ℕ) (x : Nonterminal) →
      slice_get (nonterminals_of number n rows) k ≡ Some x → (a : ℕ) (y : CoreAlt) → by_number x.alternatives a ≡ Some y →
      AlternativeFits y
  nonterminal_at n [] f k x e a y at = absurd (cc)
  nonterminal_at n (row ∷ rows) f zero x e a y at =
      first a y (subst (λ (z : Nonterminal). by_number z.alternatives a ≡ Some y) (sym (same_Some _ x e)) at)
    where
      first : (a : ℕ) (y : CoreAlt) → by_number (alternatives_of number row.shape n 1 (alternatives row.decl.levels)) a ≡ Some y →
          AlternativeFits y
      first zero y at = absurd (cc)
      first (suc i) y at =
          alternative_at row.shape n 1 (alternatives row.decl.levels) (all_levels row.decl.levels f.0) i y at
  nonterminal_at n (row ∷ rows) f (suc k) x e a y at = nonterminal_at (suc n) rows f.1 k x e a y at

  unrooted_fits : (ds : List Decl) (shapes : List Shape) → DeclsFit ds → RowsFit (unrooted ds shapes)
  unrooted_fits [] shapes a = tt
  unrooted_fits (d ∷ ds) [] a = tt
  unrooted_fits (d ∷ ds) (s ∷ shapes) a = go (is_root s) (unrooted_fits ds shapes a.1)
    where
      go : (b : Bool) → RowsFit (unrooted ds shapes) →
          RowsFit (if b then unrooted ds shapes else shaped d s ∷ unrooted ds shapes)
      go true rest = rest
      go false rest = (a.0, rest)

start_fits : (g : Grammar) (start : Option (List ℕ)) → ListFits (start_symbols g start)
start_fits g None = tt
start_fits g (Some start) = behind_fits (layout_among g.decls) (Call start [] ∷ []) (tt, tt)

root_fits : (g : Grammar) (ds : List Decl) (shapes : List Shape) → DeclsFit ds →
    LevelsFit (unwrap_or (root_among ds shapes) (written_root g)).levels
root_fits g [] shapes a = ((start_fits g g.start, tt), tt)
root_fits g (d ∷ ds) [] a = ((start_fits g g.start, tt), tt)
root_fits g (d ∷ ds) (s ∷ shapes) a = go (is_root s) (root_fits g ds shapes a.1)
  where
    go : (b : Bool) → LevelsFit (unwrap_or (root_among ds shapes) (written_root g)).levels →
        LevelsFit (unwrap_or (if b then Some d else root_among ds shapes) (written_root g)).levels
    go true rest = a.0
    go false rest = rest

core_fits : (g : Grammar) (shapes : List Shape) → DeclsFit g.decls → IntegersFit (core_of g shapes)
core_fits g shapes f n a nonterminal alternative is =
    nonterminal_at (number_of g shapes) 0 (numbered g shapes)
    (root_fits g g.decls shapes f, unrooted_fits (number_of g shapes) g.decls shapes f) n nonterminal is.there a alternative is.has

read_core_fits : (g : Grammar) → IsRegular g → DeclsFit g.decls → IntegersFit (CoreOf (unchanged g))
unfolding CoreOf
read_core_fits g regular fit =
    core_fits (Lowered (unchanged g)).grammar (Lowered (unchanged g)).shapes
    (lowered_fits g (few_levels g.decls numbers_end (omega arith) regular.counted.levels) fit)

pub cores_fit : ReadGrammarsAreRegular → ReadCoresHaveSmallIntegers
cores_fit regular bytes g utf8 read = read_core_fits g (regular bytes g utf8 read).0 (read_fits read.follows read.numbers)

pub w3c_cores_fit : w3c.ReadGrammarsAreRegular → W3cCoresHaveSmallIntegers
w3c_cores_fit regular bytes g utf8 read =
    read_core_fits g (regular bytes g utf8 read).0 (grammar_fits read.reads.reading (no_numbers (unplaced read.tokens)))
