use Rattle.std.proofs.Common.{◌∙◌, List, ap, sym, length}
use Rattle.std.specs.List.{count_by}
use Rattle.ig_text.specs.Lines.{is_tab}
use Rattle.ig_text.specs.declared.stops.Stop.{Stop}
use Rattle.ig_text.proofs.StopTable.{stops_long}
use Rattle.ig_text.proofs.text.Text.with_tabs.Goals as goal

pub set_stops-requires-clause-long : goal.set_stops-requires-clause-long
set_stops-requires-clause-long c =
    ap (λ (z : List Stop). length z) (c.as_mut_slice.ensures.value ∙ c.self.invariant.stopped) ∙
    stops_long c.self.inside.tabs 0 0 c.self.inside.characters.items ∙
    ap (count_by is_tab) (sym c.as_slice.ensures.value)
