-- What a text keeps beside its characters.
use Rattle.std.specs.Prelude.{◌≡◌, ℕ, List}
use Rattle.ig_text.specs.Input.{IsTabWidth}
use Rattle.ig_text.specs.LineTable.{IsIndexed}
use Rattle.ig_text.specs.StopTable.{stops_behind}
use Rattle.ig_text.specs.declared.stops.Stop.{Stop}

-- the characters are few enough for a text, tabs have a width that they may have, and these are the positions at which its
-- lines begin, and its tab stops
pub record IsTabled (characters starts : List ℕ) (stops : List Stop) (tabs : ℕ) : Type 0 where
  pub indexed : IsIndexed characters starts
  pub width : IsTabWidth tabs
  pub stopped : stops ≡ stops_behind tabs 0 0 characters
