use Rattle.ig_show.specs.CanonicalText.{filter_pieces, separated}
use Rattle.std.proofs.Common.{◌∷◌, [], refl}
use Rattle.std.specs.Str.{chars}
use Rattle.ig_show.specs.Pieces.{blank}
use Rattle.ig_show.specs.Steps.{adds, says}
use Rattle.ig_show.proofs.Steps.{all_ahead, less_ahead, none_ahead}
use Rattle.ig_show.proofs.symbols.push_filters.Goals as goal

pub loop-filter-init : goal.loop-filter-init
loop-filter-init c =
    all_ahead (separated (blank ∷ []) filter_pieces c.args.filters.now)

pub loop-filter-preserved : goal.loop-filter-preserved
unfolding chars
loop-filter-preserved c =
    less_ahead (λ z. separated (blank ∷ []) filter_pieces z) c.args.filters.now c.loop-filter.filter-index c.filter-item.result c.filter-item.result c.filter-item.is c.loop-filter-test.true
    c.loop-filter.invariant (adds (says (λ ps. blank ∷ ps) c.in_ok-push_text.ensures (λ _. refl)) c.in_ok-push_filter.ensures) (λ _. refl)

pub returns : goal.returns
returns c =
    none_ahead (λ z. separated (blank ∷ []) filter_pieces z) c.args.filters.now c.loop-filter.filter-index c.loop-filter-test.false (λ _. refl) c.loop-filter.invariant
