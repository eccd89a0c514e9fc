use Rattle.std.proofs.Common.{[], ◌∷◌, arith}
use Rattle.ig_forest_reader.proofs.Telling.{stops_at}
use Rattle.ig_forest_reader.proofs.Leading.{some_is, none_read, some_read}
use Rattle.ig_forest_reader.proofs.Spelled.{behind_part}
use Rattle.ig_forest_reader.proofs.fronts.read_last_number.Goals as goal

pub returns-in_default : goal.returns-in_default
returns-in_default c =
    record {
      small = tt;
      exact = tt;
      told = λ n us small e.
          none_read _ _ (c.read_number.ensures.told n (10 ∷ us) small (stops_at 10 us (omega arith)) e) c.in_default.is;
    }

pub returns-in_default-read_behind : goal.returns-in_default-read_behind
returns-in_default-read_behind c =
    record {
      small = tt;
      exact = tt;
      told = λ n us small e.
          let first = some_read _ _ _ (c.read_number.ensures.told n (10 ∷ us) small (stops_at 10 us (omega arith)) e) c.in-Some.is in
          none_read _ _ (c.read_behind.ensures.told us first.1) c.in_default-read_behind.is;
    }

pub returns : goal.returns
returns c =
    record {
      small = some_is _ _ _ c.read_number.ensures.small c.in-Some.is;
      exact =
          behind_part _ _ _ (10 ∷ []) _ (some_is _ _ _ c.read_number.ensures.exact c.in-Some.is)
          (some_is _ _ _ c.read_behind.ensures.exact c.in-Some-read_behind.is);
      told = λ n us small e.
          let first = some_read _ _ _ (c.read_number.ensures.told n (10 ∷ us) small (stops_at 10 us (omega arith)) e) c.in-Some.is in
          let second = some_read _ _ _ (c.read_behind.ensures.told us first.1) c.in-Some-read_behind.is in
          (first.0, second);
    }
