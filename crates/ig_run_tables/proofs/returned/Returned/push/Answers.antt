use Rattle.std.proofs.Common.{◌≡◌, sym, subst, arith, set, slice_index_or}
use Rattle.ig_run_tables.specs.Returned.{AreChained}
use Rattle.ig_run_tables.proofs.Items.{added_by}
use Rattle.ig_run_tables.proofs.returned.Returned.push.Goals as goal

pub invariant_of-self-2 : goal.invariant_of-self-2
invariant_of-self-2 c =
    subst (λ z. AreChained c.self.inside.mask c.self.inside.base (set c.self.inside.heads.items z c.in_ok-place.place) c.push.new.self.items) (sym c.bucket_of-at.ensures)
    (added_by c.self.inside.mask c.self.inside.base c.self.inside.heads.items c.self.inside.cells.items c.push.new.self.items c.args.item c.args.number c.index-next.result.now c.in_ok-place.place c.self.invariant
    (subst (λ z. c.index-next.result.now ≡ slice_index_or c.self.inside.heads.items z c.index-next.result.now) c.bucket_of-at.ensures c.index-next.ensures)
    c.in_ok-push.ensures.items (omega (arith, c.in_ok-place.ensures.place, c.len.ensures)))
