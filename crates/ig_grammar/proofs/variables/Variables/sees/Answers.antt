use Rattle.std.proofs.Common.{sym, ◌∙◌, ap}
use Rattle.std.specs.Prelude.{is_some}
use Rattle.ig_expr.specs.Names.{place_of}
use Rattle.ig_grammar.specs.Visible.{names}
use Rattle.ig_text.proofs.WordPlaces.{placed_where_contained}
use Rattle.ig_grammar.proofs.variables.Variables.sees.Goals as goal

pub returns : goal.returns
returns c =
    placed_where_contained (names c.args.self.now) c.args.name.now c.is_some.result
    (ap (λ z. is_some (place_of z c.args.name.now)) (sym c.names.ensures) ∙ sym (ap is_some c.place_of.ensures) ∙ sym c.is_some.ensures)
