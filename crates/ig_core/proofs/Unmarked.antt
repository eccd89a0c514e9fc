-- Taking levels away adds no mark, so what is plain stays without.
use Rattle.std.proofs.Common.{◌≡◌, ◌∙◌, ℕ, Bool, true, false, List, [], ◌∷◌, ◌++◌, map, All, Contains, if◌then◌else◌, refl, sym, ap, subst, ⊎_elim}
use Rattle.std.specs.Prelude.{◌&&◌, pos}
use Rattle.ig_expr.specs.Expression.{Integer, Variable, Binary}
use Rattle.ig_expr.specs.declared.operator.Op.TheVariants.{GreaterEqual}
use Rattle.std.proofs.lemmas.List.Elements.{All-nil, All-cons, All-head, All-tail, All-append, All-map, Contains-append_cases}
use Rattle.ig_text.proofs.Lists.{contains_first, contains_later, contains_one, unmapped_in, none_in_nil}
use Rattle.ig_grammar.specs.Alternative.{gathered_alternatives}
use Rattle.ig_grammar.specs.Checked.{CheckedGrammar}
use Rattle.ig_grammar.specs.ByForm.{own_part, inner_parts, holds_from, symbols_hold, symbols_hold_from, alternatives_hold, alternatives_hold_from}
use Rattle.ig_grammar.specs.Numbering.{Levelled, by_level}
use Rattle.ig_grammar.specs.Regular.{IsNoMark, AlternativesHaveNoMark}
use Rattle.ig_grammar.specs.Standing.{HasNoMark, SymbolsHaveNoMark}
use Rattle.ig_grammar.specs.Symbol.{Symbol, Literal, OneOf, Call, Label, Guard, Let, Opt, Star, Plus, SepStar, SepPlus, Group, Offside, Ignore, Align, Filtered, Seq, Entry, gathered}
use Rattle.ig_grammar.specs.Symbol.{Symbols, no_symbols, next_symbol, Alternatives, no_alternatives, next_alternative}
use Rattle.ig_grammar.specs.declared.declaration.DeclKind.TheVariants.{Plain, Syntax}
use Rattle.ig_grammar.specs.declared.declaration.Level.{Level}
use Rattle.ig_grammar.specs.declared.declaration.Decl.{Decl}
use Rattle.ig_grammar.specs.declared.symbol.Alt.{Alt}
use Rattle.ig_pass.specs.Added.{left_name, right_name}
use Rattle.ig_pass.specs.Rooted.{rooted, with_root, root_declaration, has_root, RootedIsTheSame}
use Rattle.ig_pass.specs.Sound.{IsSound, IsUnmarked}
use Rattle.ig_levels.specs.Levels.{Pair, Place, no_pair, pair_at, pair_arguments, with_pair, in_symbols, in_alternatives, is_test, has_left, has_right, lowered, test_of, place_in, lowered_alternative, one_level, lowered_declaration, names_levelled, LevelsOf}
use Rattle.ig_blocks_parts.specs.Laws.{PlainIsUnmarked}

module _ (levelled : List ℕ → Bool) where
  mutual
    symbol_kept : (pair : Pair) (x : Symbol) → HasNoMark x → HasNoMark (with_pair levelled pair x)
    symbol_kept pair (Literal word) h = h
    symbol_kept pair (OneOf class) h = h
    symbol_kept pair (Call name arguments) h =
        holds_from IsNoMark (Call name (arguments ++ pair_arguments (levelled name) pair)) tt tt
    symbol_kept pair (Label name x) h =
        holds_from IsNoMark (Label name (with_pair levelled pair x)) tt (symbol_kept pair x (inner_parts IsNoMark (Label name x) h))
    symbol_kept pair (Guard e) h = h
    symbol_kept pair (Let name e) h = h
    symbol_kept pair (Opt x) h =
        holds_from IsNoMark (Opt (with_pair levelled no_pair x)) tt (symbol_kept no_pair x (inner_parts IsNoMark (Opt x) h))
    symbol_kept pair (Star x) h =
        holds_from IsNoMark (Star (with_pair levelled no_pair x)) tt (symbol_kept no_pair x (inner_parts IsNoMark (Star x) h))
    symbol_kept pair (Plus x) h =
        holds_from IsNoMark (Plus (with_pair levelled no_pair x)) tt (symbol_kept no_pair x (inner_parts IsNoMark (Plus x) h))
    symbol_kept pair (SepStar x separator) h =
        let by = inner_parts IsNoMark (SepStar x separator) h in
        holds_from IsNoMark (SepStar (with_pair levelled no_pair x) (with_pair levelled no_pair separator)) tt
        (symbol_kept no_pair x by.0, symbol_kept no_pair separator by.1)
    symbol_kept pair (SepPlus x separator) h =
        let by = inner_parts IsNoMark (SepPlus x separator) h in
        holds_from IsNoMark (SepPlus (with_pair levelled no_pair x) (with_pair levelled no_pair separator)) tt
        (symbol_kept no_pair x by.0, symbol_kept no_pair separator by.1)
    symbol_kept pair (Group choices) h =
        holds_from IsNoMark (Group (in_alternatives levelled choices)) tt (choices_kept choices (inner_parts IsNoMark (Group choices) h))
    symbol_kept pair (Offside x) h = absurd (own_part IsNoMark (Offside x) h)
    symbol_kept pair (Ignore x) h = absurd (own_part IsNoMark (Ignore x) h)
    symbol_kept pair (Align x) h = absurd (own_part IsNoMark (Align x) h)
    symbol_kept pair (Filtered x filters) h =
        holds_from IsNoMark (Filtered (with_pair levelled no_pair x) filters) tt
        (symbol_kept no_pair x (inner_parts IsNoMark (Filtered x filters) h))
    symbol_kept pair (Seq xs) h =
        holds_from IsNoMark (Seq (in_symbols levelled xs)) tt (symbols_kept xs (inner_parts IsNoMark (Seq xs) h))
    symbol_kept pair (Entry bindings x) h =
        holds_from IsNoMark (Entry bindings (with_pair levelled no_pair x)) tt
        (symbol_kept no_pair x (inner_parts IsNoMark (Entry bindings x) h))

    symbols_kept : (xs : Symbols) → SymbolsHaveNoMark xs → SymbolsHaveNoMark (in_symbols levelled xs)
    symbols_kept no_symbols h = h
    symbols_kept (next_symbol x xs) h =
        let by = symbols_hold IsNoMark (next_symbol x xs) h in
        symbols_hold_from IsNoMark (next_symbol (with_pair levelled no_pair x) (in_symbols levelled xs))
        (symbol_kept no_pair x by.0, symbols_kept xs by.1)

    choices_kept : (ys : Alternatives) → AlternativesHaveNoMark ys → AlternativesHaveNoMark (in_alternatives levelled ys)
    choices_kept no_alternatives h = h
    choices_kept (next_alternative xs others) h =
        let by = alternatives_hold IsNoMark (next_alternative xs others) h in
        alternatives_hold_from IsNoMark (next_alternative (in_symbols levelled xs) (in_alternatives levelled others))
        (symbols_kept xs by.0, choices_kept others by.1)

  sequence_kept : (p : Place) (first : Bool) (xs : List Symbol) → SymbolsHaveNoMark (gathered xs) →
      SymbolsHaveNoMark (gathered (lowered levelled p first xs))
  sequence_kept p first [] h = h
  sequence_kept p first (x ∷ xs) h =
      let by = symbols_hold IsNoMark (next_symbol x (gathered xs)) h in
      symbols_hold_from IsNoMark
      (next_symbol (with_pair levelled (pair_at p first x xs) x) (gathered (lowered levelled p (first && is_test x) xs)))
      (symbol_kept (pair_at p first x xs) x by.0, sequence_kept p (first && is_test x) xs by.1)

  test_kept : (b : Bool) (level : ℕ) (name : List ℕ) (xs : List Symbol) → SymbolsHaveNoMark (gathered xs) →
      SymbolsHaveNoMark (gathered (test_of b level name ++ xs))
  test_kept true level name xs h =
      let e = Binary GreaterEqual (Integer (pos level)) (Variable name) in
      symbols_hold_from IsNoMark (next_symbol (Guard e) (gathered xs)) (holds_from IsNoMark (Guard e) tt tt, h)
  test_kept false level name xs h = h

  alternative_kept : (decl : Decl) (a : Levelled) → SymbolsHaveNoMark (gathered a.alternative.symbols) →
      SymbolsHaveNoMark (gathered (lowered_alternative levelled decl a).symbols)
  alternative_kept decl a h =
      let p = place_in decl a in
      let xs = a.alternative.symbols in
      let low = lowered levelled p true xs in
      test_kept (has_left p true xs) a.level left_name (test_of (has_right p true xs) a.level right_name ++ low)
      (test_kept (has_right p true xs) a.level right_name low (sequence_kept p true xs h))

  alternatives_kept : (decl : Decl) (rest : List Levelled) → All (λ a. SymbolsHaveNoMark (gathered a.alternative.symbols)) rest →
      AlternativesHaveNoMark (gathered_alternatives (map (lowered_alternative levelled decl) rest))
  alternatives_kept decl [] all = All-nil IsNoMark
  alternatives_kept decl (a ∷ rest) all =
      let P : Levelled → Type 0 = λ a. SymbolsHaveNoMark (gathered a.alternative.symbols) in
      alternatives_hold_from IsNoMark
      (next_alternative (gathered (lowered_alternative levelled decl a).symbols)
      (gathered_alternatives (map (lowered_alternative levelled decl) rest)))
      (alternative_kept decl a (All-head P a rest all), alternatives_kept decl rest (All-tail P a rest all))

each_of : (alts : List Alt) → AlternativesHaveNoMark (gathered_alternatives alts) →
    All (λ (a : Alt). SymbolsHaveNoMark (gathered a.symbols)) alts
each_of [] h = All-nil (λ (a : Alt). SymbolsHaveNoMark (gathered a.symbols))
each_of (a ∷ alts) h =
    let by = alternatives_hold IsNoMark (next_alternative (gathered a.symbols) (gathered_alternatives alts)) h in
    All-cons (λ (a : Alt). SymbolsHaveNoMark (gathered a.symbols)) a alts by.0 (each_of alts by.1)

by_levels : (levels : List Level) →
    ((level : Level) → Contains levels level → AlternativesHaveNoMark (gathered_alternatives level.alts)) →
    All (λ (a : Levelled). SymbolsHaveNoMark (gathered a.alternative.symbols)) (by_level levels)
by_levels [] each = All-nil (λ (a : Levelled). SymbolsHaveNoMark (gathered a.alternative.symbols))
by_levels (level ∷ others) each =
    let P : Levelled → Type 0 = λ a. SymbolsHaveNoMark (gathered a.alternative.symbols) in
    All-append P _ (by_level others)
    (All-map P _ level.alts (each_of level.alts (each level (contains_first level others))))
    (by_levels others (λ l here. each l (contains_later level others l here)))

one_is : (levels : List Level) (alts : List Alt) (level : Level) → Contains (one_level levels alts) level → level.alts ≡ alts
one_is [] alts level here = absurd (none_in_nil level here)
one_is (l ∷ levels) alts level here = ap (λ (z : Level). z.alts) (contains_one _ level here)

declaration_kept : (levelled : List ℕ → Bool) (decl : Decl) →
    ((level : Level) → Contains decl.levels level → AlternativesHaveNoMark (gathered_alternatives level.alts)) →
    (level : Level) → Contains (lowered_declaration levelled decl).levels level →
    AlternativesHaveNoMark (gathered_alternatives level.alts)
declaration_kept levelled decl each level here =
    subst (λ (z : List Alt). AlternativesHaveNoMark (gathered_alternatives z))
    (sym (one_is decl.levels (map (lowered_alternative levelled decl) (by_level decl.levels)) level here))
    (alternatives_kept levelled decl (by_level decl.levels) (by_levels decl.levels each))

-- with its root a grammar without marks has none
rooted_unmarked : RootedIsTheSame → (c : CheckedGrammar) → IsSound c → IsUnmarked c.grammar → IsUnmarked (rooted Syntax c).grammar
rooted_unmarked law c sound h = go (has_root c.shapes) refl
  where
    go : (b : Bool) → has_root c.shapes ≡ b → IsUnmarked (if b then c else with_root Syntax c).grammar
    go true e = h
    go false e = (law c sound.scoped sound.fit e (λ here. let both : false ≡ true = sym e ∙ sound.fresh here in cc)).unmarked h

pub levels_unmarked : RootedIsTheSame → (c : CheckedGrammar) → IsSound c → IsUnmarked c.grammar →
    IsUnmarked (LevelsOf c).grammar
levels_unmarked root c sound h decl level among inside =
    let all = (rooted Syntax c).grammar.decls in
    let from = unmapped_in (lowered_declaration (names_levelled all)) all decl among in
    declaration_kept (names_levelled all) from.0
    (λ l here. rooted_unmarked root c sound h from.0 l from.1 here)
    level (subst (λ (z : Decl). Contains z.levels level) (sym from.2) inside)

-- a declaration that is plain behind the pass was one before it
was_plain : (c : CheckedGrammar) (decl : Decl) → Contains (rooted Syntax c).grammar.decls decl → decl.kind ≡ Plain →
    Contains c.grammar.decls decl
was_plain c decl here plain = go (has_root c.shapes) here
  where
    go : (b : Bool) → Contains (if b then c else with_root Syntax c).grammar.decls decl → Contains c.grammar.decls decl
    go true here = here
    go false here =
        ⊎_elim (λ h. h)
        (λ h.
        let same = contains_one (root_declaration Syntax c.grammar) decl h in
        let e : Syntax ≡ Plain = ap (λ (d : Decl). d.kind) (sym same) ∙ plain in
        cc)
        (Contains-append_cases c.grammar.decls (root_declaration Syntax c.grammar ∷ []) decl here)

pub levels_plain : RootedIsTheSame → (c : CheckedGrammar) → IsSound c → PlainIsUnmarked c.grammar →
    PlainIsUnmarked (LevelsOf c).grammar
levels_plain root c sound unmarked decl here plain =
    let all = (rooted Syntax c).grammar.decls in
    let from = unmapped_in (lowered_declaration (names_levelled all)) all decl here in
    let kind : from.0.kind ≡ Plain = ap (λ (d : Decl). d.kind) from.2 ∙ plain in
    levels_unmarked root c sound (unmarked from.0 (was_plain c from.0 from.1 kind) kind)
