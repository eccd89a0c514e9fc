use Rattle.std.proofs.Common.{◌∙◌, ◌∷◌, ◌++◌, arith}
use Rattle.std.specs.Fmt.{decimal}
use Rattle.ig_forest_reader.proofs.Telling.{places_joined, same_span, stops_at}
use Rattle.ig_forest_reader.proofs.Leading.{some_is, none_read, some_read}
use Rattle.ig_forest_reader.proofs.Spelled.{places_spelled}
use Rattle.ig_forest_reader.proofs.fronts.read_span.Goals as goal

pub returns-in_default : goal.returns-in_default
returns-in_default c =
    record {
      small = tt;
      exact = tt;
      told = λ s us small stop e.
          none_read _ _ (c.read_number.ensures.told s.begin (46 ∷ (46 ∷ (decimal s.end ++ us))) small.begin
          (stops_at 46 _ (omega arith)) (e ∙ places_joined s.begin s.end us)) c.in_default.is;
    }

pub returns-in_default-read_behind : goal.returns-in_default-read_behind
returns-in_default-read_behind c =
    record {
      small = tt;
      exact = tt;
      told = λ s us small stop e.
          let first = some_read _ _ _ (c.read_number.ensures.told s.begin (46 ∷ (46 ∷ (decimal s.end ++ us))) small.begin
          (stops_at 46 _ (omega arith)) (e ∙ places_joined s.begin s.end us)) c.in-Some.is in
          none_read _ _ (c.read_behind.ensures.told (decimal s.end ++ us) first.1) c.in_default-read_behind.is;
    }

pub returns-in_default-read_number : goal.returns-in_default-read_number
returns-in_default-read_number c =
    record {
      small = tt;
      exact = tt;
      told = λ s us small stop e.
          let first = some_read _ _ _ (c.read_number.ensures.told s.begin (46 ∷ (46 ∷ (decimal s.end ++ us))) small.begin
          (stops_at 46 _ (omega arith)) (e ∙ places_joined s.begin s.end us)) c.in-Some.is in
          let second = some_read _ _ _ (c.read_behind.ensures.told (decimal s.end ++ us) first.1) c.in-Some-read_behind.is in
          none_read _ _ (c.read_number-2.ensures.told s.end us small.end stop second) c.in_default-read_number.is;
    }

pub returns : goal.returns
returns c =
    record {
      small = record { begin = some_is _ _ _ c.read_number.ensures.small c.in-Some.is; end = some_is _ _ _ c.read_number-2.ensures.small c.in-Some-read_number.is };
      exact =
          places_spelled c.args.bytes.now c.in-Some.behind.now c.in-Some-read_behind.second.now c.in-Some-read_number.rest.now
          c.in-Some.begin c.in-Some-read_number.end (some_is _ _ _ c.read_number.ensures.exact c.in-Some.is)
          (some_is _ _ _ c.read_behind.ensures.exact c.in-Some-read_behind.is)
          (some_is _ _ _ c.read_number-2.ensures.exact c.in-Some-read_number.is);
      told = λ s us small stop e.
          let first = some_read _ _ _ (c.read_number.ensures.told s.begin (46 ∷ (46 ∷ (decimal s.end ++ us))) small.begin
          (stops_at 46 _ (omega arith)) (e ∙ places_joined s.begin s.end us)) c.in-Some.is in
          let second = some_read _ _ _ (c.read_behind.ensures.told (decimal s.end ++ us) first.1) c.in-Some-read_behind.is in
          let third = some_read _ _ _ (c.read_number-2.ensures.told s.end us small.end stop second) c.in-Some-read_number.is in
          (same_span _ s first.0 third.0, third.1);
    }
