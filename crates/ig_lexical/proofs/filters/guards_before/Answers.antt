use Rattle.std.proofs.Common.{◌∙◌, ◌++◌, map, ap}
use Rattle.ig_grammar.specs.Symbol.{Guard}
use Rattle.ig_lexical.specs.Filters.{befores}
use Rattle.ig_lexical.proofs.filters.guards_before.Goals as goal

pub returns : goal.returns
returns c =
    c.in_ok-add_guards.ensures ∙ ap (λ z. z ++ map Guard (befores c.args.filters.now)) c.new-symbols.ensures
