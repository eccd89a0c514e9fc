-- A rewriting of symbols: what stands inside a symbol is rewritten first, then the symbol by the pass's own rule.
use Rattle.std.specs.Prelude.{map}
use Rattle.ig_grammar.specs.Symbol.{Symbol, Label, Opt, Star, Plus, SepStar, SepPlus, Group, Offside, Ignore, Align, Filtered, Seq, Entry}
use Rattle.ig_grammar.specs.Symbol.{Symbols, no_symbols, next_symbol, Alternatives, no_alternatives, next_alternative}
use Rattle.ig_grammar.specs.declared.symbol.Alt.{Alt}
use Rattle.ig_grammar.specs.declared.declaration.Level.{Level}
use Rattle.ig_grammar.specs.declared.declaration.Decl.{Decl}
use Rattle.ig_grammar.specs.declared.grammar.Grammar.{Grammar}

-- a pass's own rule is for a symbol with its labels, marks, filters and entries: those stay with what they stand round
module _ (own : Symbol → Symbol) where
  abbrev mutual
    -- the symbol, in whose parts each symbol is rewritten
    pub within : Symbol → Symbol
    within (Label name x) = Label name (within x)
    within (Opt x) = Opt (own (within x))
    within (Star x) = Star (own (within x))
    within (Plus x) = Plus (own (within x))
    within (SepStar x separator) = SepStar (own (within x)) (own (within separator))
    within (SepPlus x separator) = SepPlus (own (within x)) (own (within separator))
    within (Group choices) = Group (rewritten_choices choices)
    within (Offside x) = Offside (within x)
    within (Ignore x) = Ignore (within x)
    within (Align x) = Align (within x)
    within (Filtered x filters) = Filtered (within x) filters
    within (Seq xs) = Seq (rewritten_symbols xs)
    within (Entry bindings x) = Entry bindings (within x)
    within x = x

    pub rewritten_symbols : Symbols → Symbols
    rewritten_symbols no_symbols = no_symbols
    rewritten_symbols (next_symbol x xs) = next_symbol (own (within x)) (rewritten_symbols xs)

    pub rewritten_choices : Alternatives → Alternatives
    rewritten_choices no_alternatives = no_alternatives
    rewritten_choices (next_alternative xs others) = next_alternative (rewritten_symbols xs) (rewritten_choices others)

  abbrev pub rewritten : Symbol → Symbol
  rewritten x = own (within x)

-- an alternative, and a level, each symbol of which is rewritten
abbrev pub rewritten_alternative : (Symbol → Symbol) → Alt → Alt
rewritten_alternative own a = record { symbols = map (rewritten own) a.symbols }

abbrev pub rewritten_level : (Symbol → Symbol) → Level → Level
rewritten_level own level = record { assoc = level.assoc; alts = map (rewritten_alternative own) level.alts }

-- a declaration, and a grammar, each symbol of which is rewritten; a pass's own rule may go by the declaration
abbrev pub rewritten_declaration : (Decl → Symbol → Symbol) → Decl → Decl
rewritten_declaration own decl =
    record { kind = decl.kind; name = decl.name; params = decl.params; levels = map (rewritten_level (own decl)) decl.levels }

abbrev pub rewritten_grammar : (Decl → Symbol → Symbol) → Grammar → Grammar
rewritten_grammar own g = record { start = g.start; tabs = g.tabs; decls = map (rewritten_declaration own) g.decls }
