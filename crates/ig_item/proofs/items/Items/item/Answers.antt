use Rattle.std.proofs.Common.{◌∙◌, ap}
use Rattle.ig_item.specs.Tables.{Tables}
use Rattle.ig_item.proofs.Lent.{lent}
use Rattle.ig_item.proofs.items.Items.item.Goals as goal

pub returns : goal.returns
returns c =
    c.copied.ensures ∙
    lent _ c.args.self.now.items c.args.k _ (c.deref.ensures.value ∙ ap (λ (t : Tables). t.items) c.self.view_is) c.get.ensures.lookup
