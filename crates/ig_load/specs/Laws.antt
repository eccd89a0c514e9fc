-- What holds of loads.
use Rattle.std.specs.Prelude.{ℕ, ◌<◌, List, All, IsUtf8}
use Rattle.ig_text.specs.Input.{untabbed}
use Rattle.ig_grammar.specs.WellScoped.{IsWellScoped}
use Rattle.ig_notation.specs.Outcome.{IsRead}
use Rattle.ig_core.specs.Notation.{unchanged}
use Rattle.ig_parse.specs.Parses.{IsParsed}
use Rattle.ig_load.specs.Operators.{Step, letters, chain, HasLetter}
use Rattle.ig_load.specs.Input.{LoadInput}
use Rattle.ig_load.specs.Grammar.{LoadGrammar, load_text}

-- the text reads as the grammar, which is well scoped
pub record LoadTextReads : Type 0 where
  pub utf8 : IsUtf8 load_text
  pub reading : IsRead load_text LoadGrammar
  pub scoped : IsWellScoped LoadGrammar

-- the grammar permits a tree for each chain of letters and operators
abbrev pub ChainsArePermitted : Type 0
ChainsArePermitted =
    (first : ℕ) (steps : List Step) → first < letters → All HasLetter steps → IsParsed (unchanged LoadGrammar) (untabbed (chain first steps))

-- and so for each input of a load
abbrev pub LoadInputsArePermitted : Type 0
LoadInputsArePermitted = (size number : ℕ) → IsParsed (unchanged LoadGrammar) (untabbed (LoadInput size number))
