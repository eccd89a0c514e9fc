use Rattle.std.proofs.Common.{◌∷◌, ◌++◌, ◌∙◌, List, ℕ, ap, arith}
use Rattle.std.specs.Fmt.{decimal}
use Rattle.ig_forest_reader.proofs.Leading.{none_read, some_read, some_is}
use Rattle.ig_forest_reader.proofs.Telling.{stops_at}
use Rattle.ig_forest_reader.proofs.items.read_dot.Goals as goal

abbrev behind_dot : List ℕ → List ℕ
behind_dot us = 32 ∷ (91 ∷ us)

abbrev behind_alternative : ℕ → List ℕ → List ℕ
behind_alternative d us = 32 ∷ (decimal d ++ behind_dot us)

pub returns-in_default : goal.returns-in_default
returns-in_default c =
    record {
      small = tt;
      exact = tt;
      told = λ a d us p q e.
          none_read _ _ (c.read_number.ensures.told a (behind_alternative d us) p (stops_at 32 _ (omega arith)) e) c.in_default.is;
    }

pub returns-in_default-read_behind : goal.returns-in_default-read_behind
returns-in_default-read_behind c =
    record {
      small = tt;
      exact = tt;
      told = λ a d us p q e.
          let first = some_read _ _ _ (c.read_number.ensures.told a (behind_alternative d us) p (stops_at 32 _ (omega arith)) e) c.in-Some.is in
          none_read _ _ (c.read_behind.ensures.told (decimal d ++ behind_dot us) first.1) c.in_default-read_behind.is;
    }

pub returns-in_default-read_number : goal.returns-in_default-read_number
returns-in_default-read_number c =
    record {
      small = tt;
      exact = tt;
      told = λ a d us p q e.
          let first = some_read _ _ _ (c.read_number.ensures.told a (behind_alternative d us) p (stops_at 32 _ (omega arith)) e) c.in-Some.is in
          let second = some_read _ _ _ (c.read_behind.ensures.told (decimal d ++ behind_dot us) first.1) c.in-Some-read_behind.is in
          none_read _ _ (c.read_number-2.ensures.told d (behind_dot us) q (stops_at 32 _ (omega arith)) second) c.in_default-read_number.is;
    }

pub returns-in_default-read_behind-2 : goal.returns-in_default-read_behind-2
returns-in_default-read_behind-2 c =
    record {
      small = tt;
      exact = tt;
      told = λ a d us p q e.
          let first = some_read _ _ _ (c.read_number.ensures.told a (behind_alternative d us) p (stops_at 32 _ (omega arith)) e) c.in-Some.is in
          let second = some_read _ _ _ (c.read_behind.ensures.told (decimal d ++ behind_dot us) first.1) c.in-Some-read_behind.is in
          let third = some_read _ _ _ (c.read_number-2.ensures.told d (behind_dot us) q (stops_at 32 _ (omega arith)) second) c.in-Some-read_number.is in
          none_read _ _ (c.read_behind-2.ensures.told us third.1) c.in_default-read_behind-2.is;
    }

pub returns : goal.returns
returns c =
    record {
      small = (some_is _ _ _ c.read_number.ensures.small c.in-Some.is, some_is _ _ _ c.read_number-2.ensures.small c.in-Some-read_number.is);
      exact =
          some_is _ _ _ c.read_number.ensures.exact c.in-Some.is ∙
          ap (λ (z : List ℕ). decimal c.in-Some.alternative ++ z)
          (some_is _ _ _ c.read_behind.ensures.exact c.in-Some-read_behind.is ∙
          ap (λ (z : List ℕ). 32 ∷ z) (some_is _ _ _ c.read_number-2.ensures.exact c.in-Some-read_number.is ∙
          ap (λ (z : List ℕ). decimal c.in-Some-read_number.dot ++ z) (some_is _ _ _ c.read_behind-2.ensures.exact c.in-Some-read_behind-2.is)));
      told = λ a d us p q e.
          let first = some_read _ _ _ (c.read_number.ensures.told a (behind_alternative d us) p (stops_at 32 _ (omega arith)) e) c.in-Some.is in
          let second = some_read _ _ _ (c.read_behind.ensures.told (decimal d ++ behind_dot us) first.1) c.in-Some-read_behind.is in
          let third = some_read _ _ _ (c.read_number-2.ensures.told d (behind_dot us) q (stops_at 32 _ (omega arith)) second) c.in-Some-read_number.is in
          let last = some_read _ _ _ (c.read_behind-2.ensures.told us third.1) c.in-Some-read_behind-2.is in
          (first.0, third.0, last);
    }
