use Rattle.std.proofs.Common.{◌↔◌, false, sym, subst}
use Rattle.std.specs.Prelude.{IsTrue}
use Rattle.ig_notation_syntax.specs.View.{token_of}
use Rattle.ig_notation_terms.specs.Limits.{NumberFits}
use Rattle.ig_notation_terms.proofs.LimitParts.{too_large}
use Rattle.ig_notation_terms.proofs.limits.number_fits.Goals as goal

pub returns-in-None : goal.returns-in-None
returns-in-None c =
    subst (λ t. IsTrue false ↔ NumberFits (token_of t)) (sym c.in-Number.is) (too_large _ c.in-None.ensures)
