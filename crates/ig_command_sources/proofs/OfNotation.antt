-- A grammar that is read from a text and well scoped is one that the notation can say.
use Rattle.std.proofs.Common.{ℕ, ◌<◌, List, [], ◌∷◌, All, arith, suc}
use Rattle.std.proofs.lemmas.List.Elements.{All-nil, All-cons, All-head, All-tail}
use Rattle.ig_grammar.specs.Alternative.{gathered_alternatives}
use Rattle.ig_grammar.specs.Counts.{HasFewerThan}
use Rattle.ig_grammar.specs.Subterms.{subterms_of_alternatives}
use Rattle.ig_grammar.specs.Symbol.{Symbol, Call, Seq, Entry}
use Rattle.ig_grammar.specs.declared.grammar.Grammar.{Grammar}
use Rattle.ig_grammar.specs.Name.{IsName}
use Rattle.ig_notation_syntax.specs.Names.{own_names}
use Rattle.ig_notation.specs.Outcome.{IsOfText}
use Rattle.ig_command.specs.declared.command.Notation.{Notation}
use Rattle.ig_pass.specs.Unbound.{own_variables}
use Rattle.ig_notation_syntax.specs.Notation.{most_bytes}
use Rattle.ig_core.specs.Laws.{NotationIsBuildable, PassesAreRegular}
use Rattle.ig_core.specs.Limits.{counts_before_passes}
use Rattle.ig_core.specs.Notation.{IsSaid, IsOfNotation, unchanged}
use Rattle.ig_command_sources.specs.Accepted.{IsTextOf}
use Rattle.ig_command_sources.specs.Laws.{ReadGrammarsAreBuildable, ReadGrammarsAreRegular, ReadGrammarsAreWritten, ReadGrammarsStayRegular, ReadNamesAreNames}

-- what the reader's laws say of names and forms
pub record ReadingLaws : Type 0 where
  pub regular : ReadGrammarsAreRegular
  pub written : ReadGrammarsAreWritten
  pub named : ReadNamesAreNames

abbrev AreNames : Symbol → Type 0
AreNames x = All IsName (own_names x)

-- a symbol that a text can have, whose names are names of the notation
said : (x : Symbol) → AreNames x → IsOfText x → IsSaid x
said (Call name arguments) named formed = All-tail IsName name (own_variables (Call name arguments)) named
said (Seq xs) named formed = absurd formed
said (Entry bindings x) named formed = absurd formed
said x named formed = named

all_said : (xs : List Symbol) → All AreNames xs → All IsOfText xs → All IsSaid xs
all_said [] named formed = All-nil IsSaid
all_said (x ∷ xs) named formed =
    All-cons IsSaid x xs
    (said x (All-head AreNames x xs named) (All-head IsOfText x xs formed))
    (all_said xs (All-tail AreNames x xs named) (All-tail IsOfText x xs formed))

of_notation : ReadingLaws → (n : Notation) (xs : List ℕ) (g : Grammar) → IsTextOf n xs g → IsOfNotation g
of_notation laws n xs g text =
    let named = laws.named n xs g text.reading in
    let formed = laws.written n xs g text.reading in
    let regular = (laws.regular n xs g text.utf8 text.reading).0 in
    record {
      scoped = text.scoped;
      declared = named.declared;
      parameters = named.parameters;
      within = λ decl level among inside.
          all_said (subterms_of_alternatives (gathered_alternatives level.alts)) (named.within decl level among inside)
          (formed.within decl level among inside);
      well = regular.well;
      kinds = formed.kinds;
    }

-- so it can be built
pub read_grammars_are_buildable : ReadingLaws → NotationIsBuildable → ReadGrammarsAreBuildable
read_grammars_are_buildable laws law n xs g text = law g (of_notation laws n xs g text)

-- a text of so few bytes reads as a grammar whose counts are small
small : (g : Grammar) → HasFewerThan (suc most_bytes) g → HasFewerThan counts_before_passes g
small g few =
    let a : _ < suc most_bytes = few.declarations in
    let b : _ < suc most_bytes = few.levels in
    let c : _ < suc most_bytes = few.alternatives in
    let d : _ < suc most_bytes = few.symbols in
    record {
      declarations = omega (arith, a);
      levels = omega (arith, b);
      alternatives = omega (arith, c);
      symbols = omega (arith, d);
    }

-- so each pass leaves a regular grammar of it
pub read_grammars_stay_regular : ReadGrammarsAreBuildable → ReadGrammarsAreRegular → PassesAreRegular → ReadGrammarsStayRegular
read_grammars_stay_regular buildable counted law n xs g text =
    law (unchanged g) (buildable n xs g text) (small g (counted n xs g text.utf8 text.reading).1)
