use Rattle.std.proofs.Common.{◌∙◌, ap}
use Rattle.std.specs.Option.{option_copied}
use Rattle.ig_item.proofs.Lent.{none_seen, names_seen}
use Rattle.ig_item.proofs.visible.VisibleNames.at.Goals as goal

pub returns-in_err-seen : goal.returns-in_err-seen
returns-in_err-seen c =
    ap option_copied c.from_residual.ensures ∙
    none_seen c.self.inside.names.items c.self.inside.seen.items _ c.args.self.now c.args.dot c.self.view_is c.deref.ensures.value
    c.in_err-seen.ensures.lookup

pub returns : goal.returns
returns c =
    names_seen c.self.inside.names.items c.self.inside.seen.items _ c.args.self.now c.args.dot c.self.view_is c.deref.ensures.value
    _ c.in_ok-seen.field-0 _ c.self.invariant c.deref-2.ensures.value c.in_ok-seen.ensures.lookup c.get-2.ensures.lookup
