-- The declarations that all passes leave have plain names, where those of the grammar do.
use Rattle.std.proofs.Common.{◌≡◌, ℕ, suc, ◌+◌, List, [], ◌∷◌, ◌++◌, map, Bool, true, false, if◌then◌else◌, Contains, refl, sym, subst}
use Rattle.std.proofs.lemmas.List.{map-append}
use Rattle.ig_text.proofs.Lists.{contains_first, contains_later}
use Rattle.ig_grammar.specs.Checked.{CheckedGrammar}
use Rattle.ig_grammar.specs.Name.{IsName}
use Rattle.ig_grammar.specs.Symbol.{Symbol, Label, Opt, Star, Plus, SepStar, SepPlus, Group, Offside, Ignore, Align, Filtered, Seq, Entry, gathered}
use Rattle.ig_grammar.specs.Symbol.{Symbols, no_symbols, next_symbol, Alternatives, no_alternatives, next_alternative}
use Rattle.ig_grammar.specs.Visible.{Visible, binds, replaced, parameters}
use Rattle.ig_grammar.specs.declared.declaration.Decl.{Decl}
use Rattle.ig_grammar.specs.declared.declaration.DeclKind.TheVariants.{Syntax}
use Rattle.ig_grammar.specs.declared.declaration.Level.{Level}
use Rattle.ig_grammar.specs.declared.grammar.Grammar.{Grammar}
use Rattle.ig_grammar.specs.declared.place.Shape.{Shape}
use Rattle.ig_grammar.specs.declared.symbol.Alt.{Alt}
use Rattle.ig_pass.specs.Rewriting.{rewritten_declaration}
use Rattle.ig_pass.specs.Rooted.{has_root, is_root, root_declaration, rooted, with_root}
use Rattle.ig_levels.specs.Levels.{LevelsOf, lowered_declaration as without_levels, names_levelled}
use Rattle.ig_blocks_parts.specs.Blocks.{BlocksOf, lowered_declarations, declaration_by, root_by, setting_of}
use Rattle.ig_blocks_parts.specs.Setting.{Setting}
use Rattle.ig_lexical.specs.Layout.{LayoutOf, laid_declaration}
use Rattle.ig_lexical.specs.Filters.{FiltersOf, attached}
use Rattle.ig_ebnf_variables.specs.Lists.{ListsOf, Made, lowered, new_declaration, decls_of, count, count_symbols, count_alts, added, added_symbols, added_alternatives, added_alts, added_levels, added_by, all_added}
use Rattle.ig_core.specs.Lowered.{BeforeLists, Lowered}
use Rattle.ig_core.specs.Notation.{unchanged}
use Rattle.ig_verify_laws.specs.NameLaws.{DeclaresNames}
use Rattle.ig_verify_laws.proofs.PlainNames.{IsPlain, name_plain, root_plain, added_plain}

-- each of the declarations has a plain name
abbrev pub ArePlain : List Decl → Type 0
ArePlain [] = Unit {0}
ArePlain (d ∷ ds) = IsPlain d.name × ArePlain ds

both_plain : (ds es : List Decl) → ArePlain ds → ArePlain es → ArePlain (ds ++ es)
both_plain [] es a b = b
both_plain (d ∷ ds) es a b = (a.0, both_plain ds es a.1 b)

mapped_plain : (f : Decl → Decl) → ((d : Decl) → (f d).name ≡ d.name) → (ds : List Decl) → ArePlain ds → ArePlain (map f ds)
mapped_plain f same [] a = tt
mapped_plain f same (d ∷ ds) a = (subst IsPlain (sym (same d)) a.0, mapped_plain f same ds a.1)

written_plain : (ds : List Decl) → ((decl : Decl) → Contains ds decl → IsName decl.name) → ArePlain ds
written_plain [] h = tt
written_plain (d ∷ ds) h =
    (name_plain d.name (h d (contains_first d ds)), written_plain ds (λ decl c. h decl (contains_later d ds decl c)))

-- the root is added with its own name
rooted_plain : (c : CheckedGrammar) → ArePlain c.grammar.decls → ArePlain (rooted Syntax c).grammar.decls
rooted_plain c a = go (has_root c.shapes)
  where
    go : (b : Bool) → ArePlain (if b then c else with_root Syntax c).grammar.decls
    go true = a
    go false = both_plain c.grammar.decls (root_declaration Syntax c.grammar ∷ []) a (root_plain, tt)

blocks_plain : (s : Setting) (shapes : List Shape) (ds : List Decl) → ArePlain ds → ArePlain (lowered_declarations s shapes ds)
blocks_plain s [] ds a = tt
blocks_plain s (shape ∷ shapes) [] a = tt
blocks_plain s (shape ∷ shapes) (d ∷ ds) a = (first (is_root shape), blocks_plain s shapes ds a.1)
  where
    first : (b : Bool) → IsPlain (if b then root_by s d else declaration_by s d).name
    first true = a.0
    first false = a.0

-- declarations that the pass for lists adds
abbrev MadePlain : List Made → Type 0
MadePlain ms = ArePlain (decls_of ms)

made_both : (ms ns : List Made) → MadePlain ms → MadePlain ns → MadePlain (ms ++ ns)
made_both ms ns a b =
    subst ArePlain (sym (map-append (λ (m : Made). m.decl) ms ns)) (both_plain (decls_of ms) (decls_of ns) a b)

module _ (of : List ℕ) (plain : IsPlain of) where
  mutual
    by_symbol : (v : Visible) (k : ℕ) (x : Symbol) → MadePlain (added of v k x)
    by_symbol v k (Label name x) = by_symbol v k x
    by_symbol v k (Opt x) = (added_plain of k plain, by_symbol v (suc k) x)
    by_symbol v k (Star x) = (added_plain of k plain, by_symbol v (suc k) x)
    by_symbol v k (Plus x) = (added_plain of k plain, by_symbol v (suc k) x)
    by_symbol v k (SepStar x separator) = (
      added_plain of k plain,
      (
        added_plain of (suc k) plain,
        made_both (added of v (suc (suc k)) x) (added of v (suc (suc k) + count x) separator)
            (by_symbol v (suc (suc k)) x) (by_symbol v (suc (suc k) + count x) separator),
      ),
    )
    by_symbol v k (SepPlus x separator) = (
      added_plain of k plain,
      made_both (added of v (suc k) x) (added of v (suc k + count x) separator) (by_symbol v (suc k) x)
          (by_symbol v (suc k + count x) separator),
    )
    by_symbol v k (Group choices) = (added_plain of k plain, by_choices v (suc k) choices)
    by_symbol v k (Offside x) = by_symbol v k x
    by_symbol v k (Ignore x) = by_symbol v k x
    by_symbol v k (Align x) = by_symbol v k x
    by_symbol v k (Filtered x filters) = by_symbol v k x
    by_symbol v k (Seq xs) = by_symbols v k xs
    by_symbol v k (Entry bindings x) = by_symbol (replaced v v bindings) k x
    by_symbol v k x = tt

    by_symbols : (v : Visible) (k : ℕ) (xs : Symbols) → MadePlain (added_symbols of v k xs)
    by_symbols v k no_symbols = tt
    by_symbols v k (next_symbol x xs) =
        made_both (added of v k x) (added_symbols of (v ++ binds v x) (k + count x) xs) (by_symbol v k x)
        (by_symbols (v ++ binds v x) (k + count x) xs)

    by_choices : (v : Visible) (k : ℕ) (choices : Alternatives) → MadePlain (added_alternatives of v k choices)
    by_choices v k no_alternatives = tt
    by_choices v k (next_alternative xs others) =
        made_both (added_symbols of v k xs) (added_alternatives of v (k + count_symbols xs) others) (by_symbols v k xs)
        (by_choices v (k + count_symbols xs) others)

  by_alts : (v : Visible) (k : ℕ) (alts : List Alt) → MadePlain (added_alts of v k alts)
  by_alts v k [] = tt
  by_alts v k (a ∷ others) =
      let next : ℕ = k + count_symbols (gathered a.symbols) in
      made_both (added_symbols of v k (gathered a.symbols)) (added_alts of v next others)
      (by_symbols v k (gathered a.symbols)) (by_alts v next others)

  by_levels : (v : Visible) (k : ℕ) (levels : List Level) → MadePlain (added_levels of v k levels)
  by_levels v k [] = tt
  by_levels v k (level ∷ others) =
      let next : ℕ = k + count_alts level.alts in
      made_both (added_alts of v k level.alts) (added_levels of v next others) (by_alts v k level.alts)
      (by_levels v next others)

added_all : (ds : List Decl) → ArePlain ds → MadePlain (all_added ds)
added_all [] a = tt
added_all (d ∷ ds) a =
    made_both (added_by d) (all_added ds) (by_levels d.name a.0 (parameters d.params) 1 d.levels) (added_all ds a.1)

levels_plain : (c : CheckedGrammar) → ArePlain c.grammar.decls → ArePlain (LevelsOf c).grammar.decls
levels_plain c a =
    mapped_plain (without_levels (names_levelled (rooted Syntax c).grammar.decls)) (λ d. refl)
    (rooted Syntax c).grammar.decls (rooted_plain c a)

block_plain : (c : CheckedGrammar) → ArePlain c.grammar.decls → ArePlain (BlocksOf c).grammar.decls
block_plain c a =
    let r = rooted Syntax c in
    blocks_plain (setting_of r.grammar.decls r.shapes) r.shapes r.grammar.decls (rooted_plain c a)

layout_plain : (c : CheckedGrammar) → ArePlain c.grammar.decls → ArePlain (LayoutOf c).grammar.decls
layout_plain c a =
    mapped_plain (laid_declaration (rooted Syntax c).grammar.decls) (λ d. refl) (rooted Syntax c).grammar.decls (rooted_plain c a)

filters_plain : (c : CheckedGrammar) → ArePlain c.grammar.decls → ArePlain (FiltersOf c).grammar.decls
filters_plain c a =
    mapped_plain (rewritten_declaration (λ decl. attached)) (λ d. refl) (rooted Syntax c).grammar.decls (rooted_plain c a)

lists_plain : (c : CheckedGrammar) → ArePlain c.grammar.decls → ArePlain (ListsOf c).grammar.decls
lists_plain c a =
    rooted_plain (lowered c)
    (both_plain (map new_declaration c.grammar.decls) (decls_of (all_added c.grammar.decls))
    (mapped_plain new_declaration (λ d. refl) c.grammar.decls a) (added_all c.grammar.decls a))

pub lowered_plain : (g : Grammar) → DeclaresNames g → ArePlain (Lowered (unchanged g)).grammar.decls
unfolding Lowered BeforeLists
lowered_plain g names =
    lists_plain (FiltersOf (LayoutOf (BlocksOf (LevelsOf (unchanged g)))))
    (filters_plain (LayoutOf (BlocksOf (LevelsOf (unchanged g))))
    (layout_plain (BlocksOf (LevelsOf (unchanged g)))
    (block_plain (LevelsOf (unchanged g)) (levels_plain (unchanged g) (written_plain g.decls names)))))
