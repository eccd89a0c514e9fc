use Rattle.std.proofs.Common.{◌≡◌, Contains, refl, sym, subst}
use Rattle.std.proofs.lemmas.List.Elements.{Contains-append_left}
use Rattle.ig_text.proofs.Lists.{contains_from_at}
use Rattle.ig_run_tables.specs.Returned.{entry}
use Rattle.ig_plain.specs.Found.{means, found_in, later_in}
use Rattle.ig_plain.proofs.Growth.{grows_not}
use Rattle.ig_plain.proofs.Extending.{extends_itself}
use Rattle.ig_plain.proofs.Indexing.{not_indexed}
use Rattle.ig_plain.proofs.Additions.{adds_exit, adds_nothing}
use Rattle.ig_plain.proofs.Recording.{meant_at, records_further}
use Rattle.ig_plain.proofs.adds.add_returned.Goals as goal

pub add_behind_call-requires-clause-new : goal.add_behind_call-requires-clause-new
add_behind_call-requires-clause-new c =
    not_indexed c.args.found.now.done.items c.args.found.now.here.items c.args.trail.now.ways.firsts c.args.trail.now.returned c.args.item
    c.requires.indexed c.in_default.ensures.none c.requires.by_node

pub returns-in_err-add_further_way-clause-adds : goal.returns-in_err-add_further_way-clause-adds
returns-in_err-add_further_way-clause-adds c =
    adds_exit c.args.item.position _ c.args.context.now.budget c.args.found.now _ c.from_residual.result c.from_residual.ensures.1
    (grows_not c.args.item.position _ c.args.found.now _ (extends_itself c.args.found.now.envs.keys) (λ h. h) refl refl refl refl)

pub returns-clause-adds : goal.returns-clause-adds
returns-clause-adds c =
    let at = meant_at c.args.found.now c.in-Some.item c.args.item (c.requires.indexed.sound (entry c.args.item c.in-Some.item) c.in-Some.ensures.some) in
    adds_nothing c.args.item.position (λ x. x ≡ means c.args.found.now c.args.item) c.args.context.now.budget c.args.found.now
    (λ x e. Contains-append_left (found_in c.args.found.now) (later_in c.args.found.now) x
    (subst (Contains (found_in c.args.found.now)) (sym e)
    (contains_from_at (found_in c.args.found.now) c.in-Some.item (means c.args.found.now c.args.item) at)))

pub returns-clause-ways : goal.returns-clause-ways
returns-clause-ways c =
    records_further c.args.found.now c.args.trail.now _ (means c.args.found.now c.args.item) c.in-Some.item c.args.prev c.args.done
    (meant_at c.args.found.now c.in-Some.item c.args.item (c.requires.indexed.sound (entry c.args.item c.in-Some.item) c.in-Some.ensures.some))
    c.in_ok-add_further_way.ensures refl refl
