use Rattle.ig_plain.proofs.Naming.{put_behind}
use Rattle.ig_plain.proofs.saturation.close.Goals as goal

pub invariant_of-found : goal.invariant_of-found
invariant_of-found c = record { named = put_behind c.args.found.now.named _ c.as_slice-here.ensures.value _ _ c.extend_from_slice.ensures.items }
