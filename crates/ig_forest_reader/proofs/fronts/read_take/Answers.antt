use Rattle.std.proofs.Common.{◌∷◌, ◌++◌, ap₂, arith}
use Rattle.ig_show_texts.specs.ForestText.{child_text}
use Rattle.ig_forest_tables.specs.declared.entry.Entry.TheVariants.{Take}
use Rattle.ig_forest_reader.proofs.Telling.{stops_at}
use Rattle.ig_forest_reader.proofs.Leading.{some_is, none_read, some_read}
use Rattle.ig_forest_reader.proofs.Children.{small_take}
use Rattle.ig_forest_reader.proofs.Spelled.{take_spelled}
use Rattle.ig_forest_reader.proofs.fronts.read_take.Goals as goal

pub returns-in_default : goal.returns-in_default
returns-in_default c =
    record {
      small = tt;
      exact = tt;
      told = λ i x us small fits e.
          none_read _ _ (c.read_number.ensures.told i (32 ∷ (child_text x ++ (10 ∷ us))) small (stops_at 32 _ (omega arith)) e) c.in_default.is;
    }

pub returns-in_default-read_behind : goal.returns-in_default-read_behind
returns-in_default-read_behind c =
    record {
      small = tt;
      exact = tt;
      told = λ i x us small fits e.
          let first = some_read _ _ _ (c.read_number.ensures.told i (32 ∷ (child_text x ++ (10 ∷ us))) small (stops_at 32 _ (omega arith)) e) c.in-Some.is in
          none_read _ _ (c.read_behind.ensures.told (child_text x ++ (10 ∷ us)) first.1) c.in_default-read_behind.is;
    }

pub returns-in_default-read_child : goal.returns-in_default-read_child
returns-in_default-read_child c =
    record {
      small = tt;
      exact = tt;
      told = λ i x us small fits e.
          let first = some_read _ _ _ (c.read_number.ensures.told i (32 ∷ (child_text x ++ (10 ∷ us))) small (stops_at 32 _ (omega arith)) e) c.in-Some.is in
          let second = some_read _ _ _ (c.read_behind.ensures.told (child_text x ++ (10 ∷ us)) first.1) c.in-Some-read_behind.is in
          none_read _ _ (c.read_child.ensures.told x us fits second) c.in_default-read_child.is;
    }

pub returns : goal.returns
returns c =
    record {
      small = small_take c.in-Some.prev c.in-Some-read_child.child (some_is _ _ _ c.read_number.ensures.small c.in-Some.is) (some_is _ _ _ c.read_child.ensures.small c.in-Some-read_child.is);
      exact =
          take_spelled c.args.bytes.now c.in-Some.behind.now c.in-Some-read_behind.second.now c.in-Some-read_child.rest.now
          c.in-Some.prev c.in-Some-read_child.child (some_is _ _ _ c.read_number.ensures.exact c.in-Some.is)
          (some_is _ _ _ c.read_behind.ensures.exact c.in-Some-read_behind.is)
          (some_is _ _ _ c.read_child.ensures.exact c.in-Some-read_child.is);
      told = λ i x us small fits e.
          let first = some_read _ _ _ (c.read_number.ensures.told i (32 ∷ (child_text x ++ (10 ∷ us))) small (stops_at 32 _ (omega arith)) e) c.in-Some.is in
          let second = some_read _ _ _ (c.read_behind.ensures.told (child_text x ++ (10 ∷ us)) first.1) c.in-Some-read_behind.is in
          let third = some_read _ _ _ (c.read_child.ensures.told x us fits second) c.in-Some-read_child.is in
          (ap₂ Take first.0 third.0, third.1);
    }
