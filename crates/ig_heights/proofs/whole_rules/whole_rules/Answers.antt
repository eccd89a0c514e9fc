use Rattle.std.proofs.Common.{refl, arith, subst, List, ℕ, length}
use Rattle.ig_heights.specs.Table.{AreLasts}
use Rattle.ig_heights.proofs.Linking.{all_fit, table_whole}
use Rattle.ig_heights.proofs.whole_rules.whole_rules.Goals as goal

pub invariant_of-result-clause-fit : goal.invariant_of-result-clause-fit
invariant_of-result-clause-fit c =
    all_fit c.args.least.now c.add_links.new.links.items c.in_ok-last.last.items c.in_ok-last.ensures c.add_lasts.new.rules.items
    (subst (λ (z : List ℕ). AreLasts c.args.least.now.bottom c.add_links.new.links.items c.add_lasts.new.rules.items z (length z))
    c.as_slice.ensures.value c.in_ok-add_lasts.ensures) _ (let n = c.len.ensures in omega (arith, n))

pub returns : goal.returns
returns c =
    table_whole c.args.least.now _ c.add_links.new.links.items c.in_ok-last.last.items c.in_ok-last.ensures
    (subst (λ (z : List ℕ). AreLasts c.args.least.now.bottom c.add_links.new.links.items c.add_lasts.new.rules.items z (length z))
    c.as_slice.ensures.value c.in_ok-add_lasts.ensures) refl refl
