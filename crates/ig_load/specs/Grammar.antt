-- The grammar of a load.
use Rattle.std.specs.Prelude.{ℕ, List, [], ◌∷◌, Some, codes, false, None}
use Rattle.ig_text.specs.declared.class.Class.TheVariants.{Ranges}
use Rattle.ig_grammar.specs.Symbol.{Symbol, OneOf, Literal, Call}
use Rattle.ig_grammar.specs.declared.symbol.Alt.{Alt}
use Rattle.ig_grammar.specs.declared.declaration.Assoc.TheVariants.{Free, Left}
use Rattle.ig_grammar.specs.declared.declaration.DeclKind.TheVariants.{Syntax}
use Rattle.ig_grammar.specs.declared.declaration.Decl.{Decl}
use Rattle.ig_grammar.specs.declared.declaration.Level.{Level}
use Rattle.ig_grammar.specs.declared.grammar.Grammar.{Grammar}

-- its text
unfoldable pub load_text : List ℕ
load_text = codes "start E;\nsyntax E = [a-z] > E \"^\" E > left E \"*\" E > left E \"+\" E | E \"-\" E;\n"

abbrev pub expression : Symbol
expression = Call (codes "E") []

-- a letter from `a` to `z`
abbrev pub operand : Alt
operand = record { symbols = OneOf (Ranges false ((97, 122) ∷ [])) ∷ [] }

-- an operator of one character between two expressions
abbrev pub operation : ℕ → Alt
operation sign = record { symbols = expression ∷ Literal (sign ∷ []) ∷ expression ∷ [] }

-- `^` binds tightest, then `*`, then `+` and `-`
abbrev pub levels : List Level
levels =
    record { assoc = Free; alts = operand ∷ [] } ∷ record { assoc = Free; alts = operation 94 ∷ [] } ∷
    record { assoc = Left; alts = operation 42 ∷ [] } ∷ record { assoc = Left; alts = operation 43 ∷ operation 45 ∷ [] } ∷ []

abbrev pub expressions : Decl
expressions = record { kind = Syntax; name = codes "E"; params = []; levels = levels }

-- the grammar that the text reads as
unfoldable pub LoadGrammar : Grammar
LoadGrammar = record { start = Some (codes "E"); tabs = None; decls = expressions ∷ [] }
