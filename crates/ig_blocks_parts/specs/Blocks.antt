-- Blocks and alignment as tests of columns: two parameters of a syntax declaration stand for the blocks around it.
use Rattle.std.specs.Prelude.{ℕ, Bool, true, false, ◌||◌, ◌&&◌, not, List, [], ◌∷◌, ◌++◌, map, Option, Some, None, if◌then◌else◌}
use Rattle.ig_text.specs.Words.{is_word}
use Rattle.ig_expr.specs.declared.kind.Kind.TheVariants.{Int}
use Rattle.ig_grammar.specs.Symbol.{Symbol, Call, Literal, OneOf, Label, Guard, Let, Opt, Star, Plus, SepStar, SepPlus, Group, Offside, Ignore, Align, Filtered, Seq, Entry}
use Rattle.ig_grammar.specs.Symbol.{Symbols, no_symbols, next_symbol, listed, gathered, Alternatives, no_alternatives, next_alternative}
use Rattle.ig_grammar.specs.Alternative.{gathered_alternatives}
use Rattle.ig_grammar.specs.Checked.{CheckedGrammar}
use Rattle.ig_grammar.specs.declared.declaration.DeclKind.{DeclKind}
use Rattle.ig_grammar.specs.declared.declaration.DeclKind.TheVariants.{Syntax, Lexical, Layout, Plain}
use Rattle.ig_grammar.specs.declared.declaration.Decl.{Decl}
use Rattle.ig_grammar.specs.declared.declaration.Level.{Level}
use Rattle.ig_grammar.specs.declared.declaration.Param.{Param}
use Rattle.ig_grammar.specs.declared.grammar.Grammar.{Grammar}
use Rattle.ig_grammar.specs.declared.symbol.Alt.{Alt}
use Rattle.ig_grammar.specs.declared.place.Shape.{Shape}
use Rattle.ig_pass.specs.Added.{margin_name, first_name, column_name}
use Rattle.ig_pass.specs.Rooted.{is_root, rooted}
use Rattle.ig_blocks_parts.specs.Setting.{Setting, Pair, lacking, extra, pair_for}
use Rattle.ig_blocks_parts.specs.Body.{sequence_of}

-- whether an `offside` is in it
abbrev mutual
  pub has_block : Symbol → Bool
  has_block (Literal word) = false
  has_block (OneOf class) = false
  has_block (Call name arguments) = false
  has_block (Label name x) = has_block x
  has_block (Guard e) = false
  has_block (Let name e) = false
  has_block (Opt x) = has_block x
  has_block (Star x) = has_block x
  has_block (Plus x) = has_block x
  has_block (SepStar x separator) = has_block x || has_block separator
  has_block (SepPlus x separator) = has_block x || has_block separator
  has_block (Group choices) = choices_have_block choices
  has_block (Offside x) = true
  has_block (Ignore x) = has_block x
  has_block (Align x) = has_block x
  has_block (Filtered x filters) = has_block x
  has_block (Seq xs) = symbols_have_block xs
  has_block (Entry bindings x) = has_block x

  pub symbols_have_block : Symbols → Bool
  symbols_have_block no_symbols = false
  symbols_have_block (next_symbol x xs) = has_block x || symbols_have_block xs

  pub choices_have_block : Alternatives → Bool
  choices_have_block no_alternatives = false
  choices_have_block (next_alternative xs others) = symbols_have_block xs || choices_have_block others

abbrev pub levels_have_block : List Level → Bool
levels_have_block [] = false
levels_have_block (level ∷ levels) = choices_have_block (gathered_alternatives level.alts) || levels_have_block levels

-- a grammar is marked where some declaration has an `offside`
abbrev pub is_marked : List Decl → Bool
is_marked [] = false
is_marked (d ∷ ds) = levels_have_block d.levels || is_marked ds

-- the kind of the first declaration of the name that doesn't stand for the root
abbrev pub kind_called : List Decl → List Shape → List ℕ → Option DeclKind
kind_called [] shapes name = None
kind_called (d ∷ ds) [] name = None
kind_called (d ∷ ds) (shape ∷ shapes) name =
    if is_word d.name name && not (is_root shape) then Some d.kind else kind_called ds shapes name

-- in a marked grammar the syntax declarations get the pair
abbrev pub paired_by : Bool → DeclKind → Bool
paired_by marked Syntax = marked
paired_by marked Lexical = false
paired_by marked Layout = false
paired_by marked Plain = false

abbrev pub setting_of : List Decl → List Shape → Setting
setting_of decls shapes =
    record {
      m = margin_name;
      f = first_name;
      c = column_name;
      kind_of = kind_called decls shapes;
      paired = paired_by (is_marked decls);
    }

-- symbols, an alternative and a level under a pair
abbrev pub symbols_by : Setting → Pair → List Symbol → List Symbol
symbols_by s p xs = listed (sequence_of s p (gathered xs))

abbrev pub alternative_by : Setting → Pair → Alt → Alt
alternative_by s p a = record { symbols = symbols_by s p a.symbols }

abbrev pub level_by : Setting → Pair → Level → Level
level_by s p level = record { assoc = level.assoc; alts = map (alternative_by s p) level.alts }

abbrev pub int_param : List ℕ → Param
int_param name = record { name = name; kind = Int }

-- a declaration, with the pair as its last parameters where it gets it
abbrev pub declaration_by : Setting → Decl → Decl
declaration_by s d =
    record {
      kind = d.kind;
      name = d.name;
      params = d.params ++ extra s d.kind (int_param s.m) (int_param s.f);
      levels = map (level_by s (pair_for s d.kind)) d.levels;
    }

-- a declaration that stands for the root has no pair
abbrev pub root_by : Setting → Decl → Decl
root_by s d = record { kind = d.kind; name = d.name; params = d.params; levels = map (level_by s lacking) d.levels }

abbrev pub lowered_declaration : Setting → Shape → Decl → Decl
lowered_declaration s shape d = if is_root shape then root_by s d else declaration_by s d

abbrev pub lowered_declarations : Setting → List Shape → List Decl → List Decl
lowered_declarations s [] ds = []
lowered_declarations s (shape ∷ shapes) [] = []
lowered_declarations s (shape ∷ shapes) (d ∷ ds) = lowered_declaration s shape d ∷ lowered_declarations s shapes ds

-- a grammar in which some declaration may stand for the root
abbrev pub lowered_grammar : Grammar → List Shape → Grammar
lowered_grammar g shapes =
    record { start = g.start; tabs = g.tabs; decls = lowered_declarations (setting_of g.decls shapes) shapes g.decls }

abbrev pub lowered_of : CheckedGrammar → CheckedGrammar
lowered_of c = record { grammar = lowered_grammar c.grammar c.shapes; shapes = c.shapes }

-- the blocks pass
abbrev pub BlocksOf : CheckedGrammar → CheckedGrammar
BlocksOf c = lowered_of (rooted Syntax c)
