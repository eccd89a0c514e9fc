use Rattle.std.proofs.Common.{◌≡◌, [], ◌∷◌, ◌++◌, sym, subst, arith, set, slice_index_or}
use Rattle.std.specs.Prelude.{List, Result, Ok, Err, OnErr}
use Rattle.ig_item.specs.declared.items.InstanceKey.{InstanceKey}
use Rattle.ig_run_tables.specs.InstanceSet.{AreInBuckets}
use Rattle.ig_run_tables.proofs.Instances.{added}
use Rattle.ig_run_tables.proofs.buckets.Buckets.push.Goals as goal

pub returns-clause-ok : goal.returns-clause-ok
returns-clause-ok c keys are =
    subst (λ z. AreInBuckets (keys ++ c.args.key ∷ []) (set c.args.self.now.heads.items z c.in_ok-place.place) c.push.new.self.items c.args.self.now.mask)
    (sym c.bucket_of-at.ensures)
    (added keys c.args.self.now.heads.items c.args.self.now.earlier.items c.push.new.self.items c.args.self.now.mask c.args.key
    c.index-last.result.now c.in_ok-place.place are
    (subst (λ z. c.index-last.result.now ≡ slice_index_or c.args.self.now.heads.items z c.index-last.result.now) c.bucket_of-at.ensures c.index-last.ensures)
    c.in_ok-push.ensures.items (omega (arith, c.in_ok-place.ensures, c.len.ensures)))

-- what holds of a refusal, whatever it is
refused : {A E P : Type 0} (r : Result A E) → P → OnErr r P
refused (Ok x) p = tt
refused (Err e) p = p

pub returns-in_err-push-clause-err : goal.returns-in_err-push-clause-err
returns-in_err-push-clause-err c =
    let kept : (keys : List InstanceKey) → AreInBuckets keys c.args.self.now.heads.items c.args.self.now.earlier.items c.args.self.now.mask →
    AreInBuckets keys c.args.self.now.heads.items c.push.new.self.items c.args.self.now.mask =
    λ keys are. subst (λ z. AreInBuckets keys c.args.self.now.heads.items z c.args.self.now.mask) (sym c.in_err-push.ensures.items) are in
    refused c.from_residual-in_err-push.result kept
