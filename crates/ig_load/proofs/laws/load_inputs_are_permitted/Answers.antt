use Rattle.std.proofs.Common.{ℕ, List, sym, subst}
use Rattle.ig_text.specs.Input.{untabbed}
use Rattle.ig_core.specs.Notation.{unchanged}
use Rattle.ig_load.specs.Grammar.{LoadGrammar}
use Rattle.ig_parse.specs.Parses.{IsParsed}
use Rattle.ig_load.proofs.laws.load_inputs_are_permitted.Goals as goal

pub returns : goal.returns
returns c = λ size number.
    let is = c.inputs_are_chains.ensures size number in
    subst (λ (z : List ℕ). IsParsed (unchanged LoadGrammar) (untabbed z)) (sym is.text_is)
    (c.chains_are_permitted.ensures is.first is.steps is.first_fits is.steps_fit)
