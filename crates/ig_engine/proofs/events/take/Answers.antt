use Rattle.std.proofs.Common.{sym}
use Rattle.ig_engine.specs.Reached.{reached}
use Rattle.ig_engine.proofs.Event.{completes, item_named}
use Rattle.ig_engine.proofs.events.take.Goals as goal

pub nonterminal_of-nonterminal-requires : goal.nonterminal_of-nonterminal-requires
nonterminal_of-nonterminal-requires g c = (item_named c.laws.ensures c.args.context.now.core.now c.args.context.now.text.now c.args.context.now.budget c.args.item c.args.number (reached c.args.state.now.envs.keys c.args.state.now.stacks c.args.state.now.found) c.requires).instance

pub take_step-requires-clause-stands : goal.take_step-requires-clause-stands
take_step-requires-clause-stands g c = sym c.in-Some.ensures

pub take_complete-requires-clause-complete : goal.take_complete-requires-clause-complete
take_complete-requires-clause-complete g c =
    completes c.laws.ensures c.args.context.now.core.now c.args.context.now.text.now c.args.context.now.budget c.args.item c.args.number (reached c.args.state.now.envs.keys c.args.state.now.stacks c.args.state.now.found) c.requires c.keep_well_kinded.ensures c.nonterminal_of-nonterminal.result c.nonterminal_of-nonterminal.ensures (sym c.in-None.ensures)
