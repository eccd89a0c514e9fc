use Rattle.std.proofs.Common.{chars, sym, subst, ◌∙◌}
use Rattle.ig_text.specs.Ranges.{NoneFalls}
use Rattle.ig_w3c_syntax.proofs.Longest.{no_class, parts_rise}
use Rattle.ig_w3c_syntax.proofs.sets.class.Goals as goal

pub returns-then-has_none : goal.returns-then-has_none
returns-then-has_none c =
    let h = rw c.in-Some.is at c.in_ok-pairs.ensures in
    no_class (chars c.args.inside.now) (chars c.in-Some.rest.now) c.in-Some.pairs.items h.1
    (sym c.as_slice.ensures.value ∙ c.has_none.ensures.yes c.if-has_none.true)

pub ranges-requires : goal.ranges-requires
ranges-requires c =
    let h = rw c.in-Some.is at c.in_ok-pairs.ensures in subst NoneFalls (sym c.as_slice-2.ensures.value) (parts_rise h.1)
