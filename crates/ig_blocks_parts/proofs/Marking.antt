-- A grammar is marked exactly where some symbol of it is an `offside`.
use Rattle.std.proofs.Common.{◌≡◌, ℕ, zero, suc, false, List, [], ◌∷◌, Some, refl, subst}
use Rattle.std.specs.Prelude.{All, Contains, slice_get}
use Rattle.ig_text.proofs.Lists.{at_from_contains}
use Rattle.std.proofs.lemmas.List.Elements.{All-nil, All-append}
use Rattle.std.proofs.lemmas.Bool.{or_parts, or_from}
use Rattle.ig_grammar.specs.Alternative.{gathered_alternatives}
use Rattle.ig_grammar.specs.Regular.{OfEachLevel, IsNoMark}
use Rattle.ig_grammar.specs.Subterms.{subterms, subterms_of_symbols, subterms_of_alternatives}
use Rattle.ig_grammar.specs.Symbol.{Symbol, Literal, OneOf, Call, Label, Guard, Let, Opt, Star, Plus, SepStar, SepPlus, Group, Offside, Ignore, Align, Filtered, Seq, Entry}
use Rattle.ig_grammar.specs.Symbol.{Symbols, no_symbols, next_symbol, Alternatives, no_alternatives, next_alternative}
use Rattle.ig_grammar.specs.declared.declaration.Decl.{Decl}
use Rattle.ig_grammar.specs.declared.declaration.Level.{Level}
use Rattle.ig_grammar.specs.declared.grammar.Grammar.{Grammar}
use Rattle.ig_pass.specs.Sound.{IsUnmarked}
use Rattle.ig_blocks_parts.specs.Blocks.{has_block, symbols_have_block, choices_have_block, levels_have_block, is_marked}
use Rattle.ig_text.proofs.Lists.{contains_first, contains_later}
use Rattle.ig_grammar.specs.ByForm.{own_part, inner_parts, symbols_hold, alternatives_hold, holds_from}

-- no block
abbrev pub IsNoBlock : Symbol → Type 0
IsNoBlock (Offside x) = ⊥
IsNoBlock x = Unit {0}

mutual
  no_block : (x : Symbol) → has_block x ≡ false → All IsNoBlock (subterms x)
  no_block (Literal word) e = holds_from IsNoBlock (Literal word) tt tt
  no_block (OneOf class) e = holds_from IsNoBlock (OneOf class) tt tt
  no_block (Call name arguments) e = holds_from IsNoBlock (Call name arguments) tt tt
  no_block (Label name x) e = holds_from IsNoBlock (Label name x) tt (no_block x e)
  no_block (Guard condition) e = holds_from IsNoBlock (Guard condition) tt tt
  no_block (Let name value) e = holds_from IsNoBlock (Let name value) tt tt
  no_block (Opt x) e = holds_from IsNoBlock (Opt x) tt (no_block x e)
  no_block (Star x) e = holds_from IsNoBlock (Star x) tt (no_block x e)
  no_block (Plus x) e = holds_from IsNoBlock (Plus x) tt (no_block x e)
  no_block (SepStar x separator) e =
      let both = or_parts (has_block x) (has_block separator) e in holds_from IsNoBlock (SepStar x separator) tt (no_block x both.0, no_block separator both.1)
  no_block (SepPlus x separator) e =
      let both = or_parts (has_block x) (has_block separator) e in holds_from IsNoBlock (SepPlus x separator) tt (no_block x both.0, no_block separator both.1)
  no_block (Group choices) e = holds_from IsNoBlock (Group choices) tt (no_block_in_choices choices e)
  no_block (Offside x) e = cc
  no_block (Ignore x) e = holds_from IsNoBlock (Ignore x) tt (no_block x e)
  no_block (Align x) e = holds_from IsNoBlock (Align x) tt (no_block x e)
  no_block (Filtered x filters) e = holds_from IsNoBlock (Filtered x filters) tt (no_block x e)
  no_block (Seq xs) e = holds_from IsNoBlock (Seq xs) tt (no_block_in_symbols xs e)
  no_block (Entry bindings x) e = holds_from IsNoBlock (Entry bindings x) tt (no_block x e)

  no_block_in_symbols : (xs : Symbols) → symbols_have_block xs ≡ false → All IsNoBlock (subterms_of_symbols xs)
  no_block_in_symbols no_symbols e = All-nil IsNoBlock
  no_block_in_symbols (next_symbol x xs) e =
      let both = or_parts (has_block x) (symbols_have_block xs) e in
      All-append IsNoBlock (subterms x) (subterms_of_symbols xs) (no_block x both.0) (no_block_in_symbols xs both.1)

  no_block_in_choices : (xs : Alternatives) → choices_have_block xs ≡ false → All IsNoBlock (subterms_of_alternatives xs)
  no_block_in_choices no_alternatives e = All-nil IsNoBlock
  no_block_in_choices (next_alternative xs others) e =
      let both = or_parts (symbols_have_block xs) (choices_have_block others) e in
      All-append IsNoBlock (subterms_of_symbols xs) (subterms_of_alternatives others) (no_block_in_symbols xs both.0) (no_block_in_choices others both.1)

mutual
  unmarked : (x : Symbol) → All IsNoMark (subterms x) → has_block x ≡ false
  unmarked (Literal word) all = refl
  unmarked (OneOf class) all = refl
  unmarked (Call name arguments) all = refl
  unmarked (Label name x) all = unmarked x (inner_parts IsNoMark (Label name x) all)
  unmarked (Guard condition) all = refl
  unmarked (Let name value) all = refl
  unmarked (Opt x) all = unmarked x (inner_parts IsNoMark (Opt x) all)
  unmarked (Star x) all = unmarked x (inner_parts IsNoMark (Star x) all)
  unmarked (Plus x) all = unmarked x (inner_parts IsNoMark (Plus x) all)
  unmarked (SepStar x separator) all =
      let both = inner_parts IsNoMark (SepStar x separator) all in or_from (has_block x) (has_block separator) (unmarked x both.0) (unmarked separator both.1)
  unmarked (SepPlus x separator) all =
      let both = inner_parts IsNoMark (SepPlus x separator) all in or_from (has_block x) (has_block separator) (unmarked x both.0) (unmarked separator both.1)
  unmarked (Group choices) all = unmarked_choices choices (inner_parts IsNoMark (Group choices) all)
  unmarked (Offside x) all = absurd (own_part IsNoMark (Offside x) all)
  unmarked (Ignore x) all = absurd (own_part IsNoMark (Ignore x) all)
  unmarked (Align x) all = absurd (own_part IsNoMark (Align x) all)
  unmarked (Filtered x filters) all = unmarked x (inner_parts IsNoMark (Filtered x filters) all)
  unmarked (Seq xs) all = unmarked_symbols xs (inner_parts IsNoMark (Seq xs) all)
  unmarked (Entry bindings x) all = unmarked x (inner_parts IsNoMark (Entry bindings x) all)

  unmarked_symbols : (xs : Symbols) → All IsNoMark (subterms_of_symbols xs) → symbols_have_block xs ≡ false
  unmarked_symbols no_symbols all = refl
  unmarked_symbols (next_symbol x xs) all =
      let both = symbols_hold IsNoMark (next_symbol x xs) all in or_from (has_block x) (symbols_have_block xs) (unmarked x both.0) (unmarked_symbols xs both.1)

  unmarked_choices : (xs : Alternatives) → All IsNoMark (subterms_of_alternatives xs) → choices_have_block xs ≡ false
  unmarked_choices no_alternatives all = refl
  unmarked_choices (next_alternative xs others) all =
      let both = alternatives_hold IsNoMark (next_alternative xs others) all in
      or_from (symbols_have_block xs) (choices_have_block others) (unmarked_symbols xs both.0) (unmarked_choices others both.1)

unmarked_levels : (levels : List Level) →
    ((level : Level) → Contains levels level → All IsNoMark (subterms_of_alternatives (gathered_alternatives level.alts))) → levels_have_block levels ≡ false
unmarked_levels [] each = refl
unmarked_levels (level ∷ levels) each =
    or_from (choices_have_block (gathered_alternatives level.alts)) (levels_have_block levels)
    (unmarked_choices (gathered_alternatives level.alts) (each level (contains_first level levels)))
    (unmarked_levels levels (λ l m. each l (contains_later level levels l m)))

unmarked_declarations : (decls : List Decl) →
    ((decl : Decl) (level : Level) → Contains decls decl → Contains decl.levels level → All IsNoMark (subterms_of_alternatives (gathered_alternatives level.alts))) →
    is_marked decls ≡ false
unmarked_declarations [] each = refl
unmarked_declarations (d ∷ ds) each =
    or_from (levels_have_block d.levels) (is_marked ds)
    (unmarked_levels d.levels (λ level m. each d level (contains_first d ds) m))
    (unmarked_declarations ds (λ decl level m n. each decl level (contains_later d ds decl m) n))

-- without marks it isn't marked
pub unmarked_is : (g : Grammar) → IsUnmarked g → is_marked g.decls ≡ false
unmarked_is g each = unmarked_declarations g.decls each

no_block_in_levels : (levels : List Level) → levels_have_block levels ≡ false → (level : Level) (k : ℕ) → slice_get levels k ≡ Some level →
    All IsNoBlock (subterms_of_alternatives (gathered_alternatives level.alts))
no_block_in_levels [] e level k at = cc
no_block_in_levels (l ∷ levels) e level zero at =
    let both = or_parts (choices_have_block (gathered_alternatives l.alts)) (levels_have_block levels) e in
    let same : l ≡ level = cc in
    subst (λ (z : Level). All IsNoBlock (subterms_of_alternatives (gathered_alternatives z.alts))) same (no_block_in_choices (gathered_alternatives l.alts) both.0)
no_block_in_levels (l ∷ levels) e level (suc k) at =
    let both = or_parts (choices_have_block (gathered_alternatives l.alts)) (levels_have_block levels) e in no_block_in_levels levels both.1 level k at

no_block_in_declarations : (decls : List Decl) → is_marked decls ≡ false → (decl : Decl) (k : ℕ) → slice_get decls k ≡ Some decl → levels_have_block decl.levels ≡ false
no_block_in_declarations [] e decl k at = cc
no_block_in_declarations (d ∷ ds) e decl zero at =
    let both = or_parts (levels_have_block d.levels) (is_marked ds) e in
    let same : d ≡ decl = cc in
    subst (λ (z : Decl). levels_have_block z.levels ≡ false) same both.0
no_block_in_declarations (d ∷ ds) e decl (suc k) at =
    let both = or_parts (levels_have_block d.levels) (is_marked ds) e in no_block_in_declarations ds both.1 decl k at

-- and where it isn't, no symbol is a block
pub none_blocked : (g : Grammar) → is_marked g.decls ≡ false → OfEachLevel (λ choices. All IsNoBlock (subterms_of_alternatives choices)) g
none_blocked g e decl level m n =
    let d = at_from_contains g.decls decl m in
    let l = at_from_contains decl.levels level n in
    no_block_in_levels decl.levels (no_block_in_declarations g.decls e decl d.0 d.1) level l.0 l.1
