use Rattle.std.proofs.Common.{ap, ◌∙◌, List, ℕ, set, replicate, ◌++◌, ◌∷◌, []}
use Rattle.ig_heights.proofs.Numbers.{one_more}
use Rattle.ig_heights.proofs.Turns.{begun_code}
use Rattle.ig_heights.proofs.work.begun.Goals as goal

pub returns : goal.returns
returns c =
    begun_code c.args.table.now _ _ _ (ap (λ (z : List ℕ). set z c.args.table.now.bottom 0) (c.in_ok-heights.ensures.items_if_clones_equal (λ y e. e)
    ∙ ap (λ (n : ℕ). replicate c.args.table.now.parts n) (one_more c.args.table.now.nodes)))
    (c.in_ok-push.ensures.items ∙ ap (λ (z : List ℕ). z ++ c.args.table.now.bottom ∷ []) c.new-current.ensures.items) c.new.ensures.items
