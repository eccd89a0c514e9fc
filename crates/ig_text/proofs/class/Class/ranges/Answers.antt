use Rattle.std.proofs.Common.{refl, sym, ap}
use Rattle.ig_text.specs.declared.class.Class.TheVariants.{Ranges}
use Rattle.ig_text.proofs.Ascending.{sorted_ascends, of_permutation}
use Rattle.ig_text.proofs.Insertion.{class_value}
use Rattle.ig_text.proofs.class.Class.ranges.Goals as goal

pub joined-requires : goal.joined-requires
joined-requires c =
    let p = rw c.in_ok-sorted.ensures.items at c.sort_unstable.ensures.permutation in
    sorted_ascends c.args.pairs.now c.sort_unstable.new.self.items c.as_slice.result.now c.as_slice.ensures.value p
    c.sort_unstable.ensures.sorted c.requires

pub returns : goal.returns
returns c =
    let p = rw c.in_ok-sorted.ensures.items at c.sort_unstable.ensures.permutation in
    let n = of_permutation c.args.pairs.now c.sort_unstable.new.self.items c.as_slice.result.now c.in_ok-ranges.ranges
    c.as_slice.ensures.value p (rw (sym c.in_ok-ranges.ensures) at c.in_ok-pairs.ensures) in
    record {
      members = (c.in_ok-ranges.ranges, refl, n);
      value = ap (Ranges c.args.negated) (class_value c.args.pairs.now c.in_ok-ranges.ranges c.requires n);
    }
