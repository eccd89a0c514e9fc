use Rattle.std.proofs.Common.{refl}
use Rattle.std.specs.Prelude.{not, ◌&&◌, if◌then◌else◌}
use Rattle.ig_grammar.specs.View.{symbol_of}
use Rattle.ig_pass.specs.Needs.{needs, is_added}
use Rattle.ig_ebnf_variables.proofs.CodeOfKept.{keep_step, keep_end}
use Rattle.ig_ebnf_variables.proofs.variables.keep.Goals as goal

pub loop-place-preserved : goal.loop-place-preserved
loop-place-preserved c =
    keep_step (λ n. (if c.args.added then is_added n else not (is_added n)) && needs n (symbol_of c.args.symbol.now))
    c.args.variables.now _ c.names-name-items.result.now c.kinds-kinds.result.now c.loop-place.params
    c.push_wanted.new.params c.loop-place.place c.name-item.result _ _ c.wants-wanted.result c.names-name-items.ensures
    c.kinds-kinds.ensures c.loop-place-test.true c.name-item.is refl c.wants-wanted.ensures c.loop-place.invariant
    c.in_ok-push_wanted.ensures

pub returns : goal.returns
returns c =
    keep_end (λ n. (if c.args.added then is_added n else not (is_added n)) && needs n (symbol_of c.args.symbol.now))
    c.args.variables.now _ c.names-name-items.result.now c.loop-place.params c.loop-place.place
    c.names-name-items.ensures c.loop-place-test.false c.loop-place.invariant
