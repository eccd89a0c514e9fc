-- Loops over levels, and tables in the place of lists.
use Rattle.std.proofs.Common.{◌≡◌, ◌∙◌, ℕ, ◌+◌, ◌-◌, ◌<◌, Bool, List, ◌∷◌, ◌++◌, Option, drop, get_or, length, length-drop, map, sym, ap, arith, append_assoc}
use Rattle.std.specs.BTreeMap.{BTreeMap}
use denote.Ref.{Bor}
use Rattle.std.proofs.lemmas.List.{drop_more, map-append}
use Rattle.ig_grammar.specs.Numbering.{Levelled, by_level}
use Rattle.ig_grammar.specs.declared.symbol.Alt.{Alt}
use Rattle.ig_grammar.specs.declared.declaration.Level.{Level}
use Rattle.ig_grammar.specs.declared.declaration.Decl.{Decl}
use Rattle.ig_grammar.specs.declared.grammar.Grammar.{Grammar}
use Rattle.ig_levels.specs.Levels.{names_levelled, lowered_declaration, lowered_grammar}
use Rattle.ig_levels.specs.Numbered.{numbered}
use Rattle.ig_levels.specs.Tables.{levelled_by, Tells}

pub level_added : (f : Levelled → Alt) (levels : List Level) (i : ℕ) (level : Level) (n : ℕ) (all more whole : List Alt) → i < length levels → level ≡ get_or levels i level →
    n ≡ length levels - i → more ≡ all ++ map f (numbered n level.assoc level.alts) → all ++ map f (by_level (drop i levels)) ≡ whole →
    more ++ map f (by_level (drop (i + 1) levels)) ≡ whole
level_added f levels i level n all more whole within read is added before =
    ap (λ z. z ++ map f rest) added ∙ append_assoc all (map f here) (map f rest) ∙ ap (λ z. all ++ z) (sym (map-append f here rest)) ∙
    ap (λ z. all ++ map f z) (sym parted) ∙ before
  where
    here : List Levelled
    here = numbered n level.assoc level.alts

    rest : List Levelled
    rest = by_level (drop (i + 1) levels)

    count : length (drop (i + 1) levels) + 1 ≡ n
    count = omega (arith, length-drop (i + 1) levels, within, is)

    parted : by_level (drop i levels) ≡ numbered n level.assoc level.alts ++ by_level (drop (i + 1) levels)
    parted =
        ap by_level (drop_more levels i level within ∙ ap (λ z. z ∷ drop (i + 1) levels) (sym read)) ∙
        ap (λ k. numbered k level.assoc level.alts ++ by_level (drop (i + 1) levels)) count

pub lowered_by : (g : Grammar) (table : BTreeMap (Bor (List ℕ)) Bool) (seen read result : List Decl) (start : Option (List ℕ)) → seen ≡ g.decls → read ≡ g.decls → Tells table seen →
    result ≡ map (lowered_declaration (levelled_by table)) read → start ≡ g.start → record { start = start; tabs = g.tabs; decls = result } ≡ lowered_grammar g
lowered_by g table seen read result start same again tells lowered started =
    λ z. record { start = started z; tabs = g.tabs; decls = (lowered ∙ (λ y. map (lowered_declaration (λ name. (tells name ∙ ap (λ ds. names_levelled ds name) same) y)) (again y))) z }
