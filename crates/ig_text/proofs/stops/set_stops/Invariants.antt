use Rattle.std.proofs.Common.{◌≡◌, ◌≤◌, ◌+◌, ◌*◌, ◌++◌, drop, take, length}
use Rattle.std.specs.List.{count_by}
use Rattle.ig_text.specs.Limits.{most_tabs}
use Rattle.ig_text.specs.Lines.{is_tab}
use Rattle.ig_text.specs.StopTable.{stops_behind}
use Rattle.ig_text.proofs.stops.set_stops.Given as goal

-- the stops written so far and those behind the other tabs are all, and there is room for these
abbrev pub invariant-loop-index : goal.invariant-loop-index
invariant-loop-index l = record {
  stops : take l.next l.stops ++ stops_behind l.tabs l.index l.columns (drop l.index l.characters) ≡ stops_behind l.tabs 0 0 l.characters;
  left : l.next + count_by is_tab (drop l.index l.characters) ≡ length l.stops;
  few : l.columns ≤ most_tabs * l.index;
}
