use Rattle.ig_forest.proofs.CodeCopies.{name_next, names_all}
use Rattle.ig_forest.proofs.builder.copied_names.Goals as goal

pub loop-nt-preserved : goal.loop-nt-preserved
loop-nt-preserved c =
    name_next c.args.core.now c.loop-nt.names c.push_name.new.names c.in-Some.name.now c.in_ok-name.name c.loop-nt.nt c.args.nonterminals c.loop-nt-test.true c.requires
    c.in_ok-push_name.ensures c.in_ok-name.ensures c.in-Some.ensures c.loop-nt.invariant

pub returns : goal.returns
returns c = names_all c.args.core.now c.loop-nt.names c.loop-nt.nt c.args.nonterminals c.requires c.loop-nt-test.false c.loop-nt.invariant
