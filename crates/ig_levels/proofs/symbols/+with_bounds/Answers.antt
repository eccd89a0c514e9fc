use Rattle.std.proofs.Common.{◌≡◌, sym, subst, IfOk}
use Rattle.ig_grammar.specs.View.{symbol_of}
use Rattle.ig_levels.specs.Roles.{pair_of}
use Rattle.ig_levels.specs.Tables.{levelled_by}
use Rattle.ig_levels.proofs.Rewritten.{others_unbounded}
use Rattle.ig_levels.proofs.symbols.+with_bounds.Goals as goal

pub returns-in_default : goal.returns-in_default
returns-in_default t c =
    subst (λ y. IfOk c.rewrite_symbol.result (λ r. symbol_of r ≡ y))
    (sym (others_unbounded (levelled_by c.args.table.now) (pair_of c.args.role) c.args.symbol.now c.in_default.not-Call c.in_default.not-Label)) c.rewrite_symbol.ensures
