-- A grammar whose root alternative is written as a declaration of its own, the last one, which is then the start.
use Rattle.std.specs.Prelude.{◌≡◌, ℕ, Bool, true, false, List, [], ◌∷◌, ◌++◌, Option, Some, None, if◌then◌else◌}
use Rattle.ig_text.specs.Limits.{numbers_end}
use Rattle.ig_grammar.specs.Symbol.{Symbol, Call}
use Rattle.ig_grammar.specs.Numbering.{layout_among}
use Rattle.ig_grammar.specs.Checked.{CheckedGrammar, FitShapes}
use Rattle.ig_grammar.specs.Regular.{AlternativesHaveNoMark, IsRegular, OfEachLevel}
use Rattle.ig_grammar.specs.WellScoped.{IsWellScoped}
use Rattle.ig_meaning.specs.Permitted.{behind_layout}
use Rattle.ig_grammar.specs.declared.declaration.Assoc.TheVariants.{Free}
use Rattle.ig_grammar.specs.declared.declaration.DeclKind.{DeclKind}
use Rattle.ig_grammar.specs.declared.declaration.DeclKind.TheVariants.{Syntax}
use Rattle.ig_grammar.specs.declared.declaration.Decl.{Decl}
use Rattle.ig_grammar.specs.declared.grammar.Grammar.{Grammar}
use Rattle.ig_grammar.specs.declared.place.Shape.{Shape}
use Rattle.ig_grammar.specs.declared.place.Shape.TheVariants.{Root}
use Rattle.ig_grammar.specs.Counts.{HasFewerThan}
use Rattle.ig_pass.specs.Added.{root_name, IsFresh}
use Rattle.ig_pass.specs.SameTrees.{PermitSame}
use Rattle.ig_pass.specs.SameValues.{KeepsValues}

abbrev pub calls_of_start : Option (List ℕ) → List Symbol
calls_of_start None = []
calls_of_start (Some start) = Call start [] ∷ []

-- the call of the layout nonterminal where one is declared, then that of the start symbol
abbrev pub root_symbols : Grammar → List Symbol
root_symbols g = behind_layout (layout_among g.decls) (calls_of_start g.start)

abbrev pub root_declaration : DeclKind → Grammar → Decl
root_declaration kind g =
    record {
      kind = kind;
      name = root_name;
      params = [];
      levels = record { assoc = Free; alts = record { symbols = root_symbols g } ∷ [] } ∷ [];
    }

abbrev pub rooted_grammar : DeclKind → Grammar → Grammar
rooted_grammar kind g = record { start = Some root_name; tabs = g.tabs; decls = g.decls ++ root_declaration kind g ∷ [] }

abbrev pub is_root : Shape → Bool
is_root Root = true
is_root shape = false

-- some declaration stands for the root
abbrev pub has_root : List Shape → Bool
has_root [] = false
has_root (shape ∷ others) = if is_root shape then true else has_root others

abbrev pub with_root : DeclKind → CheckedGrammar → CheckedGrammar
with_root kind c = record { grammar = rooted_grammar kind c.grammar; shapes = c.shapes ++ Root ∷ [] }

-- with a declaration that stands for the root, where there is none
abbrev pub rooted : DeclKind → CheckedGrammar → CheckedGrammar
rooted kind c = if has_root c.shapes then c else with_root kind c

-- what the root adds to a grammar that is checked and has none, and that doesn't have the name of the root
pub record RootAdds (c : CheckedGrammar) : Type 0 where
  pub same : PermitSame c (with_root Syntax c)
  pub values : KeepsValues c (with_root Syntax c)
  pub scoped : IsWellScoped (with_root Syntax c).grammar
  pub fit : FitShapes (with_root Syntax c).grammar (with_root Syntax c).shapes
  pub unmarked : OfEachLevel AlternativesHaveNoMark c.grammar →
      OfEachLevel AlternativesHaveNoMark (with_root Syntax c).grammar
  pub regular : IsRegular c.grammar → HasFewerThan numbers_end (with_root Syntax c).grammar →
      IsRegular (with_root Syntax c).grammar

abbrev pub RootedIsTheSame : Type 0
RootedIsTheSame =
    (c : CheckedGrammar) → IsWellScoped c.grammar → FitShapes c.grammar c.shapes → has_root c.shapes ≡ false →
    IsFresh c.grammar root_name → RootAdds c
