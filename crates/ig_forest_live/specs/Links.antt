-- The ways of a recording in groups: the further ways by item, and the further complete items by the first one.
use Rattle.std.specs.Prelude.{◌≡◌, ◌↔◌, ℕ, List, [], Contains, slice_index_or}
use Rattle.std.specs.List.{flat_map}
use Rattle.ig_item.specs.Recorded.{Recording, IsRecorded, recording}
use Rattle.ig_item.specs.Ways.{WayLists}
use Rattle.ig_item.specs.declared.ways.FurtherWay.{FurtherWay}
use Rattle.ig_item.specs.declared.ways.FurtherEnd.{FurtherEnd}

-- the recording with its further ways and ends in the order of these groups
abbrev pub regrouped : Recording → List (List FurtherWay) → List (List FurtherEnd) → Recording
regrouped r further ends =
    recording r.core r.text r.tables
    (record { firsts = r.ways.firsts; further = flat_map (λ group. group) further; ends = flat_map (λ group. group) ends })

-- the same ways, in any order
pub record AreSameWays (lists others : WayLists) : Type 0 where
  pub firsts : others.firsts ≡ lists.firsts
  pub further : (w : FurtherWay) → Contains others.further w ↔ Contains lists.further w
  pub ends : (e : FurtherEnd) → Contains others.ends e ↔ Contains lists.ends e

-- the same items of the same core grammar and text, with the same ways, in any order
pub record IsSameRun (r s : Recording) : Type 0 where
  pub core : s.core ≡ r.core
  pub text : s.text ≡ r.text
  pub tables : s.tables ≡ r.tables
  pub ways : AreSameWays r.ways s.ways

-- each member stands in the group of its number
abbrev pub AreByNumber : {T : Type 0} → (T → ℕ) → List (List T) → Type 0
AreByNumber {T} number groups = (k : ℕ) (x : T) → Contains (slice_index_or groups k []) x → number x ≡ k

-- the groups are those of a recording
pub record AreLinks (r : Recording) (groups : List (List FurtherWay)) (end_groups : List (List FurtherEnd)) : Type 0 where
  pub recorded : IsRecorded (regrouped r groups end_groups)
  pub further : AreByNumber (λ w. w.item) groups
  pub ends : AreByNumber (λ e. e.first) end_groups
