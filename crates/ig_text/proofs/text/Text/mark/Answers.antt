use Rattle.std.proofs.Common.{◌∙◌, ℕ, List, length, ap, arith, subst, sym}
use Rattle.std.specs.List.Sorted.{IsNonDecreasingBy}
use Rattle.ig_text.specs.Input.{Input, IsTabWidth}
use Rattle.ig_text.specs.LineTable.{line_starts, IsSplitAt}
use Rattle.ig_text.specs.StopTable.{tab_stops}
use Rattle.ig_text.specs.declared.stops.Stop.{Stop}
use Rattle.ig_text.proofs.LineTable.{starts_rise, some_start}
use Rattle.ig_text.proofs.StopTable.{stops_rise, mark_from, column_few}
use Rattle.ig_text.proofs.text.Text.mark.Goals as goal

pub count_up_to-line-requires : goal.count_up_to-line-requires
count_up_to-line-requires c =
    starts_rise c.self.inside.characters.items c.as_slice.result.now
    (c.as_slice.ensures.value ∙ c.self.invariant.indexed.lines)

pub last_up_to-requires : goal.last_up_to-requires
last_up_to-requires c =
    subst (IsNonDecreasingBy (λ (s : Stop). s.position)) (sym (c.as_slice-2.ensures.value ∙ c.self.invariant.stopped))
    (stops_rise c.self.inside.tabs 0 0 c.self.inside.characters.items)

pub returns-clause-mark : goal.returns-clause-mark
returns-clause-mark c =
    mark_from c.args.self.now c.self.inside.line_starts.items c.as_slice-2.result.now c.args.position
    c.count_up_to-line.result c.index.result.now c.last_up_to.result
    (c.self.invariant.indexed.lines ∙ ap (λ (t : Input). line_starts t.characters) c.self.view_is)
    (c.as_slice-2.ensures.value ∙ c.self.invariant.stopped ∙ ap tab_stops c.self.view_is) c.requires
    (subst (λ (z : List ℕ). IsSplitAt z c.args.position c.count_up_to-line.result) c.as_slice.ensures.value
    c.count_up_to-line.ensures) c.index.ensures c.last_up_to.ensures

pub returns-clause-few : goal.returns-clause-few
returns-clause-few c =
    let width : IsTabWidth c.args.self.now.tabs = subst (λ (t : Input). IsTabWidth t.tabs) c.self.view_is c.self.invariant.width in
    omega (arith, column_few c.args.self.now c.args.position width c.requires, c.self.invariant.indexed.few, ap (λ (t : Input). length t.characters) c.self.view_is)
