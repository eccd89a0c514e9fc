use Rattle.std.proofs.Common.{subst, sym}
use Rattle.std.specs.Prelude.{◌↔◌, IsTrue, true}
use Rattle.ig_run_laws.specs.FirstCalls.{CallsNothing}
use Rattle.ig_engine.specs.FirstCalls.{CallsNone}
use Rattle.ig_engine.proofs.FirstCalls.{nothing_in, nothing_where_none}
use Rattle.ig_engine.proofs.first_calls.is_first_call.Goals as goal

pub returns-in-Some : goal.returns-in-Some
returns-in-Some c =
    subst (λ z. IsTrue c.calls_none.result ↔ CallsNothing c.args.core.now z c.args.item.alternative c.args.item.dot)
    c.nonterminal_of-nonterminal.ensures
    (nothing_in c.args.core.now c.nonterminal_of-nonterminal.result c.args.item.alternative c.args.item.dot c.in-Some.steps.now
    (sym c.in-Some.ensures) c.calls_none.result
    (subst (λ z. IsTrue c.calls_none.result ↔ CallsNone z c.args.item.dot) c.as_slice.ensures c.calls_none.ensures))

pub returns-in-None : goal.returns-in-None
returns-in-None c =
    subst (λ z. IsTrue true ↔ CallsNothing c.args.core.now z c.args.item.alternative c.args.item.dot)
    c.nonterminal_of-nonterminal.ensures
    (nothing_where_none c.args.core.now c.nonterminal_of-nonterminal.result c.args.item.alternative c.args.item.dot (sym c.in-None.ensures))
