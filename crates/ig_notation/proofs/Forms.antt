-- A grammar that is read has only forms that a text can have.
use Rattle.std.proofs.Common.{◌++◌, List, [], ◌∷◌}
use Rattle.std.specs.Prelude.{All}
use Rattle.std.proofs.lemmas.List.Elements.{All-nil, All-cons, All-append}
use Rattle.ig_grammar.specs.Alternative.{gathered_alternatives}
use Rattle.ig_grammar.specs.Subterms.{subterms, subterms_of_symbols, subterms_of_alternatives}
use Rattle.ig_grammar.specs.Symbol.{Symbol, Literal, OneOf, Call, Label, Guard, Let, Opt, Star, Plus, SepStar, SepPlus, Group, Offside, Ignore, Align, Filtered, Seq, Entry}
use Rattle.ig_grammar.specs.Symbol.{Symbols, no_symbols, next_symbol, Alternatives, no_alternatives, next_alternative}
use Rattle.ig_notation_syntax.specs.RuleLaws.{ReadsAreWritten}
use Rattle.ig_notation_syntax.specs.Written.{IsWritten, SymbolsAreWritten, AlternativesAreWritten}
use Rattle.ig_notation.specs.Outcome.{IsOfText, unplaced, ReadGrammarsAreWritten, RulesHaveFormsOfText}

-- a symbol in front of those inside it, and one without any
more : (x : Symbol) (inside : List Symbol) → IsOfText x → All IsOfText inside → All IsOfText (x ∷ inside)
more x inside here all = All-cons IsOfText x inside here all

alone : (x : Symbol) → IsOfText x → All IsOfText (x ∷ [])
alone x here = more x [] here (All-nil IsOfText)

mutual
  symbol_forms : (x : Symbol) → IsWritten x → All IsOfText (subterms x)
  symbol_forms (Literal word) w = alone (Literal word) tt
  symbol_forms (OneOf class) w = alone (OneOf class) tt
  symbol_forms (Call name arguments) w = alone (Call name arguments) tt
  symbol_forms (Label name x) w = more (Label name x) (subterms x) tt (symbol_forms x w)
  symbol_forms (Guard e) w = alone (Guard e) tt
  symbol_forms (Let name e) w = alone (Let name e) tt
  symbol_forms (Opt x) w = more (Opt x) (subterms x) tt (symbol_forms x w)
  symbol_forms (Star x) w = more (Star x) (subterms x) tt (symbol_forms x w)
  symbol_forms (Plus x) w = more (Plus x) (subterms x) tt (symbol_forms x w)
  symbol_forms (SepStar x separator) w =
      more (SepStar x separator) (subterms x ++ subterms separator) tt
      (All-append IsOfText (subterms x) (subterms separator) (symbol_forms x w.0) (symbol_forms separator w.1))
  symbol_forms (SepPlus x separator) w =
      more (SepPlus x separator) (subterms x ++ subterms separator) tt
      (All-append IsOfText (subterms x) (subterms separator) (symbol_forms x w.0) (symbol_forms separator w.1))
  symbol_forms (Group choices) w = more (Group choices) (subterms_of_alternatives choices) tt (choices_forms choices w)
  symbol_forms (Offside x) w = more (Offside x) (subterms x) tt (symbol_forms x w)
  symbol_forms (Ignore x) w = more (Ignore x) (subterms x) tt (symbol_forms x w)
  symbol_forms (Align x) w = more (Align x) (subterms x) tt (symbol_forms x w)
  symbol_forms (Filtered x filters) w = more (Filtered x filters) (subterms x) tt (symbol_forms x w)
  symbol_forms (Seq xs) w = absurd w
  symbol_forms (Entry bindings x) w = absurd w

  symbols_forms : (xs : Symbols) → SymbolsAreWritten xs → All IsOfText (subterms_of_symbols xs)
  symbols_forms no_symbols w = All-nil IsOfText
  symbols_forms (next_symbol x xs) w =
      All-append IsOfText (subterms x) (subterms_of_symbols xs) (symbol_forms x w.0) (symbols_forms xs w.1)

  choices_forms : (choices : Alternatives) → AlternativesAreWritten choices → All IsOfText (subterms_of_alternatives choices)
  choices_forms no_alternatives w = All-nil IsOfText
  choices_forms (next_alternative xs others) w =
      All-append IsOfText (subterms_of_symbols xs) (subterms_of_alternatives others) (symbols_forms xs w.0)
      (choices_forms others w.1)

pub rules_written : ReadsAreWritten → RulesHaveFormsOfText
rules_written law tokens g follows =
    let written = law tokens g follows in
    record {
      within = λ decl level among inside.
          choices_forms (gathered_alternatives level.alts) (written.0 decl level among inside);
      kinds = written.1;
    }

pub read_written : RulesHaveFormsOfText → ReadGrammarsAreWritten
read_written law source g read = law (unplaced read.tokens) g read.follows
