-- The pass for lists adds no integer.
use Rattle.std.proofs.Common.{ℕ, suc, ◌+◌, List, [], ◌∷◌, ◌++◌, map, Bool, true, false, if◌then◌else◌, subst, sym}
use Rattle.std.proofs.lemmas.List.{map-append}
use Rattle.ig_text.specs.Words.{is_word}
use Rattle.ig_grammar.specs.Binding.{Binding}
use Rattle.ig_grammar.specs.Visible.{Visible, binds, replaced, parameters}
use Rattle.ig_grammar.specs.Symbol.{Symbol, Literal, OneOf, Call, Label, Guard, Let, Opt, Star, Plus, SepStar, SepPlus, Group, Offside, Ignore, Align, Filtered, Seq, Entry, gathered}
use Rattle.ig_grammar.specs.Symbol.{Symbols, no_symbols, next_symbol, Alternatives, no_alternatives, next_alternative}
use Rattle.ig_grammar.specs.declared.declaration.Decl.{Decl}
use Rattle.ig_grammar.specs.declared.declaration.Level.{Level}
use Rattle.ig_grammar.specs.declared.symbol.Alt.{Alt}
use Rattle.ig_ebnf_variables.specs.Lists.{Element, Made, argument, arguments, elements, all_elements, alts_of, new_symbol, new_element, new, new_symbols, new_alternatives, new_alts, new_levels, new_declaration, decls_of, count, count_symbols, count_alts, params_for, sep_plus_alternatives, added, added_symbols, added_alternatives, added_alts, added_levels, added_by, all_added}
use Rattle.ig_verify_laws.specs.Ranges.{HasSmallIntegers}
use Rattle.ig_verify_laws.proofs.Fitting.{AltsFit, BindingsFit, ChoicesFit, DeclsFit, EachFits, Fits, LevelsFit, ListFits, SymbolsFit, decls_joined, decls_mapped, gathered_fit, list_joined}

argument_fits : (bs : List Binding) (n : List ℕ) → BindingsFit bs → HasSmallIntegers (argument bs n)
argument_fits [] n a = tt
argument_fits (b ∷ bs) n a = go (is_word b.name n) (argument_fits bs n a.1)
  where
    go : (c : Bool) → HasSmallIntegers (argument bs n) → HasSmallIntegers (if c then b.value else argument bs n)
    go true rest = a.0
    go false rest = rest

arguments_fit : (bs : List Binding) (v : Visible) → BindingsFit bs → EachFits (arguments bs v)
arguments_fit bs [] a = tt
arguments_fit bs (pair ∷ v) a = (argument_fits bs pair.0 a, arguments_fit bs v a)

abbrev ElementsFit : List Element → Type 0
ElementsFit [] = Unit {0}
ElementsFit (e ∷ es) = Fits e.x × ElementsFit es

elements_joined : (es gs : List Element) → ElementsFit es → ElementsFit gs → ElementsFit (es ++ gs)
elements_joined [] gs a b = b
elements_joined (e ∷ es) gs a b = (a.0, elements_joined es gs a.1 b)

mutual
  elements_fit : (v : Visible) (k : ℕ) (x : Symbol) → Fits x → ElementsFit (elements v k x)
  elements_fit v k (Seq xs) a = all_elements_fit v k xs a
  elements_fit v k (Literal word) a = (a, tt)
  elements_fit v k (OneOf class) a = (a, tt)
  elements_fit v k (Call name es) a = (a, tt)
  elements_fit v k (Label name x) a = (a, tt)
  elements_fit v k (Guard e) a = (a, tt)
  elements_fit v k (Let name e) a = (a, tt)
  elements_fit v k (Opt x) a = (a, tt)
  elements_fit v k (Star x) a = (a, tt)
  elements_fit v k (Plus x) a = (a, tt)
  elements_fit v k (SepStar x s) a = (a, tt)
  elements_fit v k (SepPlus x s) a = (a, tt)
  elements_fit v k (Group ys) a = (a, tt)
  elements_fit v k (Offside x) a = (a, tt)
  elements_fit v k (Ignore x) a = (a, tt)
  elements_fit v k (Align x) a = (a, tt)
  elements_fit v k (Filtered x fs) a = (a, tt)
  elements_fit v k (Entry bs x) a = (a, tt)

  all_elements_fit : (v : Visible) (k : ℕ) (xs : Symbols) → SymbolsFit xs → ElementsFit (all_elements v k xs)
  all_elements_fit v k no_symbols a = tt
  all_elements_fit v k (next_symbol x xs) a =
      elements_joined (elements v k x) (all_elements (v ++ binds v x) (k + count x) xs) (elements_fit v k x a.0)
      (all_elements_fit (v ++ binds v x) (k + count x) xs a.1)

abbrev MadeFit : List Made → Type 0
MadeFit ms = DeclsFit (decls_of ms)

made_joined : (ms ns : List Made) → MadeFit ms → MadeFit ns → MadeFit (ms ++ ns)
made_joined ms ns a b =
    subst DeclsFit (sym (map-append (λ (m : Made). m.decl) ms ns)) (decls_joined (decls_of ms) (decls_of ns) a b)

module _ (of : List ℕ) where
  symbol_fits : (v : Visible) (k : ℕ) (x : Symbol) → Fits x → Fits (new_symbol of v k x)
  symbol_fits v k (Label name x) a = symbol_fits v k x a
  symbol_fits v k (Filtered x filters) a = symbol_fits v k x a
  symbol_fits v k (Opt x) a = arguments_fit [] (params_for v _) tt
  symbol_fits v k (Star x) a = arguments_fit [] (params_for v _) tt
  symbol_fits v k (Plus x) a = arguments_fit [] (params_for v _) tt
  symbol_fits v k (SepStar x s) a = arguments_fit [] (params_for v _) tt
  symbol_fits v k (SepPlus x s) a = arguments_fit [] (params_for v _) tt
  symbol_fits v k (Group ys) a = arguments_fit [] (params_for v _) tt
  symbol_fits v k (Entry bindings x) a = arguments_fit bindings (params_for (replaced v v bindings) _) a.0
  symbol_fits v k (Literal word) a = a
  symbol_fits v k (OneOf class) a = a
  symbol_fits v k (Call name es) a = a
  symbol_fits v k (Guard e) a = a
  symbol_fits v k (Let name e) a = a
  symbol_fits v k (Offside x) a = a
  symbol_fits v k (Ignore x) a = a
  symbol_fits v k (Align x) a = a
  symbol_fits v k (Seq xs) a = a

  each_new : (es : List Element) → ElementsFit es → ListFits (map (new_element of) es)
  each_new [] a = tt
  each_new (e ∷ es) a = (symbol_fits e.v e.k e.x a.0, each_new es a.1)

  new_fits : (v : Visible) (k : ℕ) (x : Symbol) → Fits x → ListFits (new of v k x)
  new_fits v k x a = each_new (elements v k x) (elements_fit v k x a)

  news_fit : (v : Visible) (k : ℕ) (xs : Symbols) → SymbolsFit xs → ListFits (new_symbols of v k xs)
  news_fit v k xs a = each_new (all_elements v k xs) (all_elements_fit v k xs a)

  choices_new : (v : Visible) (k : ℕ) (ys : Alternatives) → ChoicesFit ys → AltsFit (alts_of (new_alternatives of v k ys))
  choices_new v k no_alternatives a = tt
  choices_new v k (next_alternative xs others) a =
      (news_fit v k xs a.0, choices_new v (k + count_symbols xs) others a.1)

  sep_plus_fits : (v : Visible) (k : ℕ) (x s : Symbol) → Fits x → Fits s → AltsFit (alts_of (sep_plus_alternatives of v k x s))
  sep_plus_fits v k x s a b = (
    new_fits v (suc k) x a,
    (
      (
        symbol_fits v k (SepPlus x s) (a, b),
        list_joined (new of v (suc k + count x) s) (new of v (suc k) x) (new_fits v (suc k + count x) s b)
            (new_fits v (suc k) x a),
      ),
      tt,
    ),
  )

  mutual
    added_fit : (v : Visible) (k : ℕ) (x : Symbol) → Fits x → MadeFit (added of v k x)
    added_fit v k (Label name x) a = added_fit v k x a
    added_fit v k (Opt x) a = (((tt, (new_fits v (suc k) x a, tt)), tt), added_fit v (suc k) x a)
    added_fit v k (Star x) a =
        (((tt, ((symbol_fits v k (Star x) a, new_fits v (suc k) x a), tt)), tt), added_fit v (suc k) x a)
    added_fit v k (Plus x) a = (
      ((new_fits v (suc k) x a, ((symbol_fits v k (Plus x) a, new_fits v (suc k) x a), tt)), tt),
      added_fit v (suc k) x a,
    )
    added_fit v k (SepStar x s) a = (
      ((tt, ((symbol_fits v (suc k) (SepPlus x s) a, tt), tt)), tt),
      (
        (sep_plus_fits v (suc k) x s a.0 a.1, tt),
        made_joined (added of v (suc (suc k)) x) (added of v (suc (suc k) + count x) s)
            (added_fit v (suc (suc k)) x a.0) (added_fit v (suc (suc k) + count x) s a.1),
      ),
    )
    added_fit v k (SepPlus x s) a = (
      (sep_plus_fits v k x s a.0 a.1, tt),
      made_joined (added of v (suc k) x) (added of v (suc k + count x) s) (added_fit v (suc k) x a.0)
          (added_fit v (suc k + count x) s a.1),
    )
    added_fit v k (Group choices) a = ((choices_new v (suc k) choices a, tt), added_choices_fit v (suc k) choices a)
    added_fit v k (Offside x) a = added_fit v k x a
    added_fit v k (Ignore x) a = added_fit v k x a
    added_fit v k (Align x) a = added_fit v k x a
    added_fit v k (Filtered x filters) a = added_fit v k x a
    added_fit v k (Seq xs) a = added_symbols_fit v k xs a
    added_fit v k (Entry bindings x) a = added_fit (replaced v v bindings) k x a.1
    added_fit v k x a = tt

    added_symbols_fit : (v : Visible) (k : ℕ) (xs : Symbols) → SymbolsFit xs → MadeFit (added_symbols of v k xs)
    added_symbols_fit v k no_symbols a = tt
    added_symbols_fit v k (next_symbol x xs) a =
        made_joined (added of v k x) (added_symbols of (v ++ binds v x) (k + count x) xs) (added_fit v k x a.0)
        (added_symbols_fit (v ++ binds v x) (k + count x) xs a.1)

    added_choices_fit : (v : Visible) (k : ℕ) (ys : Alternatives) → ChoicesFit ys → MadeFit (added_alternatives of v k ys)
    added_choices_fit v k no_alternatives a = tt
    added_choices_fit v k (next_alternative xs others) a =
        made_joined (added_symbols of v k xs) (added_alternatives of v (k + count_symbols xs) others)
        (added_symbols_fit v k xs a.0) (added_choices_fit v (k + count_symbols xs) others a.1)

  added_alts_fit : (v : Visible) (k : ℕ) (alts : List Alt) → AltsFit alts → MadeFit (added_alts of v k alts)
  added_alts_fit v k [] a = tt
  added_alts_fit v k (x ∷ others) a =
      let next : ℕ = k + count_symbols (gathered x.symbols) in
      made_joined (added_symbols of v k (gathered x.symbols)) (added_alts of v next others)
      (added_symbols_fit v k (gathered x.symbols) (gathered_fit x.symbols a.0)) (added_alts_fit v next others a.1)

  added_levels_fit : (v : Visible) (k : ℕ) (levels : List Level) → LevelsFit levels → MadeFit (added_levels of v k levels)
  added_levels_fit v k [] a = tt
  added_levels_fit v k (level ∷ others) a =
      let next : ℕ = k + count_alts level.alts in
      made_joined (added_alts of v k level.alts) (added_levels of v next others) (added_alts_fit v k level.alts a.0)
      (added_levels_fit v next others a.1)

  alts_new : (v : Visible) (k : ℕ) (alts : List Alt) → AltsFit alts → AltsFit (new_alts of v k alts)
  alts_new v k [] a = tt
  alts_new v k (x ∷ others) a = (
    news_fit v k (gathered x.symbols) (gathered_fit x.symbols a.0),
    alts_new v (k + count_symbols (gathered x.symbols)) others a.1,
  )

  levels_new : (v : Visible) (k : ℕ) (levels : List Level) → LevelsFit levels → LevelsFit (new_levels of v k levels)
  levels_new v k [] a = tt
  levels_new v k (level ∷ others) a = (alts_new v k level.alts a.0, levels_new v (k + count_alts level.alts) others a.1)

all_added_fit : (ds : List Decl) → DeclsFit ds → MadeFit (all_added ds)
all_added_fit [] a = tt
all_added_fit (d ∷ ds) a =
    made_joined (added_by d) (all_added ds) (added_levels_fit d.name (parameters d.params) 1 d.levels a.0)
    (all_added_fit ds a.1)

pub without_lists_fit : (ds : List Decl) → DeclsFit ds → DeclsFit (map new_declaration ds ++ decls_of (all_added ds))
without_lists_fit ds a =
    decls_joined (map new_declaration ds) (decls_of (all_added ds))
    (decls_mapped new_declaration (λ d f. levels_new d.name (parameters d.params) 1 d.levels f) ds a) (all_added_fit ds a)
