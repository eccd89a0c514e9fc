use Rattle.std.proofs.Common.{◌≡◌, ◌++◌, ◌∷◌, [], sym, ◌∙◌, ap, arith}
use Rattle.ig_analyse.specs.Groups.{none, more, IsTop}
use Rattle.ig_analyse.proofs.cycles.join.Goals as goal

pub loop-group-init : goal.loop-group-init
loop-group-init c = none

pub loop-group-preserved : goal.loop-group-preserved
loop-group-preserved c =
    let t : IsTop c.deref.result.now c.in-Some.group = c.in-Some.ensures in
    let parted : c.loop-group.groups.items ≡ t.before ++ c.in-Some.group ∷ [] = sym c.deref.ensures.value ∙ t.parted in
    let low = c.if-group-place.false in
    more c.loop-group.groups.items c.drop_last.new.groups.items c.in-Some.group c.loop-group.invariant
    (parted ∙ ap (λ z. z ++ c.in-Some.group ∷ []) (sym (c.drop_last.ensures t.before c.in-Some.group parted)))
    (omega (arith, low))
