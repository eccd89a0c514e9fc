use Rattle.std.proofs.Common.{◌∷◌, ◌++◌, ◌∙◌, List, ℕ, ap, arith}
use Rattle.std.specs.Prelude.{codes}
use Rattle.std.specs.Fmt.{decimal}
use Rattle.ig_forest_reader.proofs.Leading.{none_read, some_read, some_is}
use Rattle.ig_forest_reader.proofs.Telling.{stops_at}
use Rattle.ig_forest_reader.proofs.reader.read_heading.Goals as goal

abbrev behind_nodes : ℕ → List ℕ → List ℕ
behind_nodes n us = 32 ∷ (decimal n ++ (10 ∷ us))

pub returns-in_default : goal.returns-in_default
returns-in_default c =
    record {
      small = tt;
      exact = tt;
      told = λ m n us p q e. none_read _ _ (c.read_behind.ensures.told (decimal m ++ behind_nodes n us) e) c.in_default.is;
    }

pub returns-in_default-read_number : goal.returns-in_default-read_number
returns-in_default-read_number c =
    record {
      small = tt;
      exact = tt;
      told = λ m n us p q e.
          let begun = some_read _ _ _ (c.read_behind.ensures.told (decimal m ++ behind_nodes n us) e) c.in-Some.is in
          none_read _ _ (c.read_number.ensures.told m (behind_nodes n us) p (stops_at 32 _ (omega arith)) begun) c.in_default-read_number.is;
    }

pub returns-in_default-read_behind : goal.returns-in_default-read_behind
returns-in_default-read_behind c =
    record {
      small = tt;
      exact = tt;
      told = λ m n us p q e.
          let begun = some_read _ _ _ (c.read_behind.ensures.told (decimal m ++ behind_nodes n us) e) c.in-Some.is in
          let first = some_read _ _ _ (c.read_number.ensures.told m (behind_nodes n us) p (stops_at 32 _ (omega arith)) begun) c.in-Some-read_number.is in
          none_read _ _ (c.read_behind-2.ensures.told (decimal n ++ (10 ∷ us)) first.1) c.in_default-read_behind.is;
    }

pub returns-in_default-read_last_number : goal.returns-in_default-read_last_number
returns-in_default-read_last_number c =
    record {
      small = tt;
      exact = tt;
      told = λ m n us p q e.
          let begun = some_read _ _ _ (c.read_behind.ensures.told (decimal m ++ behind_nodes n us) e) c.in-Some.is in
          let first = some_read _ _ _ (c.read_number.ensures.told m (behind_nodes n us) p (stops_at 32 _ (omega arith)) begun) c.in-Some-read_number.is in
          let second = some_read _ _ _ (c.read_behind-2.ensures.told (decimal n ++ (10 ∷ us)) first.1) c.in-Some-read_behind.is in
          none_read _ _ (c.read_last_number.ensures.told n us q second) c.in_default-read_last_number.is;
    }

pub returns : goal.returns
returns c =
    record {
      small = (some_is _ _ _ c.read_number.ensures.small c.in-Some-read_number.is, some_is _ _ _ c.read_last_number.ensures.small c.in-Some-read_last_number.is);
      exact =
          some_is _ _ _ c.read_behind.ensures.exact c.in-Some.is ∙
          ap (λ (z : List ℕ). codes "forest " ++ z) (some_is _ _ _ c.read_number.ensures.exact c.in-Some-read_number.is ∙
          ap (λ (z : List ℕ). decimal c.in-Some-read_number.nodes ++ z)
          (some_is _ _ _ c.read_behind-2.ensures.exact c.in-Some-read_behind.is ∙
          ap (λ (z : List ℕ). 32 ∷ z) (some_is _ _ _ c.read_last_number.ensures.exact c.in-Some-read_last_number.is)));
      told = λ m n us p q e.
          let begun = some_read _ _ _ (c.read_behind.ensures.told (decimal m ++ behind_nodes n us) e) c.in-Some.is in
          let first = some_read _ _ _ (c.read_number.ensures.told m (behind_nodes n us) p (stops_at 32 _ (omega arith)) begun) c.in-Some-read_number.is in
          let second = some_read _ _ _ (c.read_behind-2.ensures.told (decimal n ++ (10 ∷ us)) first.1) c.in-Some-read_behind.is in
          let last = some_read _ _ _ (c.read_last_number.ensures.told n us q second) c.in-Some-read_last_number.is in
          (first.0, last.0, last.1);
    }
