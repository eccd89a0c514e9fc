use Rattle.std.proofs.Common.{refl, ap, ◌∙◌, ◌++◌}
use Rattle.std.proofs.lemmas.Result.{on_ok_weaker}
use Rattle.ig_plain.proofs.Arrivals.{arrives_with}
use Rattle.ig_plain.proofs.Naming.{put_behind, cleared, parted}
use Rattle.ig_plain.proofs.saturation.arrive.Goals as goal

pub invariant_of-found : goal.invariant_of-found
invariant_of-found c = record { named = put_behind c.args.found.now.named _ c.as_slice.ensures.value _ _ c.extend_from_slice.ensures.items }

pub invariant_of-found-in-Break-branch-2 : goal.invariant_of-found-in-Break-branch-2
invariant_of-found-in-Break-branch-2 c =
    record {
      named = cleared (put_behind c.args.found.now.named _ c.as_slice.ensures.value _ _ c.extend_from_slice.ensures.items) _ c.clear.ensures.items;
    }

pub invariant_of-found-2 : goal.invariant_of-found-2
invariant_of-found-2 c =
    record {
      named = parted
          (cleared (put_behind c.args.found.now.named _ c.as_slice.ensures.value _ _ c.extend_from_slice.ensures.items) _ c.clear.ensures.items)
          _ _ c.part.ensures.there;
    }

pub returns-clause-arrives : goal.returns-clause-arrives
returns-clause-arrives c =
    on_ok_weaker c.part.result
    (arrives_with c.args.position c.args.found.now _ c.clear.new.self.items c.clear.ensures.items refl refl
    (c.in_ok-extend_from_slice.ensures.items ∙ ap (λ z. c.args.found.now.done.items ++ z) c.as_slice.ensures.value)) c.part.ensures.parted
