use Rattle.std.proofs.Common.{◌≡◌, ◌≤◌, ◌++◌, drop}
use Rattle.ig_text.specs.StopTable.{stops_behind}
use Rattle.ig_text.proofs.stops.stops_of.Given as goal

-- the stops so far and those behind the other tabs are all; a column is no greater than its character's number
abbrev pub invariant-loop-index : goal.invariant-loop-index
invariant-loop-index l = record {
  stops : l.stops.items ++ stops_behind 1 l.index l.columns (drop l.index l.characters) ≡ stops_behind 1 0 0 l.characters;
  few : l.columns ≤ l.index;
}
