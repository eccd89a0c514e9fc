use Rattle.std.proofs.Common.{◌∙◌, ap}
use Rattle.std.specs.Option.{option_copied}
use Rattle.ig_item.proofs.Lent.{lent_numbered, none_numbered}
use Rattle.ig_item.proofs.core_grammar.alternative_of.Goals as goal

pub returns-in_err-place : goal.returns-in_err-place
returns-in_err-place c =
    ap option_copied c.from_residual.ensures ∙ none_numbered c.args.nonterminal.now.alternatives c.args.alt c.in_err-place.ensures

pub returns : goal.returns
returns c =
    lent_numbered _ c.args.nonterminal.now.alternatives c.args.alt c.in_ok-place.place _ c.in_ok-place.ensures c.as_slice.ensures
    c.get.ensures.lookup
