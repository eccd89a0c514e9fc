use Rattle.std.proofs.Common.{◌∷◌, ◌++◌, ◌∙◌, List, ℕ, Some, ap, refl}
use Rattle.std.specs.Fmt.{decimal}
use Rattle.ig_text.specs.declared.text.Span.{Span}
use Rattle.ig_show_texts.specs.Listed.{comma_separated}
use Rattle.ig_show_texts.specs.ValueText.{places_text, value_text}
use Rattle.ig_forest_reader.specs.Written.{square}
use Rattle.ig_forest_reader.proofs.Composing.{read_ok, failed_on, no_ok, not_ok}
use Rattle.ig_forest_reader.proofs.Leading.{none_read, some_read, some_is}
use Rattle.ig_forest_reader.proofs.LinesRead.{place_behind}
use Rattle.ig_forest_reader.proofs.items.read_place.Goals as goal

pub returns-in_default : goal.returns-in_default
returns-in_default c =
    record {
      keeps = tt;
      given = tt;
      read = λ a d i j xs us few small e.
          none_read _ _ (c.read_dot.ensures.told a d (place_behind xs i j us) few.0 few.1 e) c.in_default.is;
    }

pub push_values-requires : goal.push_values-requires
push_values-requires c = square 93 refl

pub returns-in_err-behind : goal.returns-in_err-behind
returns-in_err-behind c =
    record {
      keeps = no_ok _ c.from_residual.result _ c.from_residual.ensures.1;
      given = not_ok _ c.from_residual.result _ c.from_residual.ensures.1;
      read =
          failed_on _ _ _ _ c.push_values.result c.in_err-behind.field-0.0 c.from_residual.result c.push_values.ensures c.in_err-behind.was
          c.from_residual.ensures.1
          (λ none a d i j xs us few small e.
          let dot = some_read _ _ _ (c.read_dot.ensures.told a d (place_behind xs i j us) few.0 few.1 e) c.in-Some.is in
          none xs (32 ∷ (places_text i j ++ (10 ∷ us))) small dot.2);
    }

pub returns-in_default-read_behind : goal.returns-in_default-read_behind
returns-in_default-read_behind c =
    record {
      keeps = tt;
      given = tt;
      read = λ a d i j xs us few small e.
          let dot = some_read _ _ _ (c.read_dot.ensures.told a d (place_behind xs i j us) few.0 few.1 e) c.in-Some.is in
          let values = read_ok _ _ _ _ c.push_values.ensures c.in_ok-behind.was in
          let listed = values.told xs (32 ∷ (places_text i j ++ (10 ∷ us))) small dot.2 in
          none_read _ _ (c.read_behind.ensures.told (places_text i j ++ (10 ∷ us)) listed.1) c.in_default-read_behind.is;
    }

pub returns-in_default-read_last_span : goal.returns-in_default-read_last_span
returns-in_default-read_last_span c =
    record {
      keeps = tt;
      given = tt;
      read = λ a d i j xs us few small e.
          let dot = some_read _ _ _ (c.read_dot.ensures.told a d (place_behind xs i j us) few.0 few.1 e) c.in-Some.is in
          let values = read_ok _ _ _ _ c.push_values.ensures c.in_ok-behind.was in
          let listed = values.told xs (32 ∷ (places_text i j ++ (10 ∷ us))) small dot.2 in
          let second = some_read _ _ _ (c.read_behind.ensures.told (places_text i j ++ (10 ∷ us)) listed.1) c.in-Some-read_behind.is in
          none_read _ _ (c.read_last_span.ensures.told (record { begin = i; end = j }) us (record { begin = few.2; end = few.3 }) second)
          c.in_default-read_last_span.is;
    }

pub returns : goal.returns
returns c =
    let values = read_ok _ _ _ _ c.push_values.ensures c.in_ok-behind.was in
    let dots = some_is _ _ _ c.read_dot.ensures.small c.in-Some.is in
    let span = some_is _ _ _ c.read_last_span.ensures.small c.in-Some-read_last_span.is in
    record {
      keeps = c.in_ok-env.ensures.keeps;
      given = (refl, refl);
      read = record {
        bound = values.values;
        small = values.small;
        env = c.in_ok-env.ensures.there ∙ ap Some (c.as_slice.ensures.value ∙ values.is);
        start = span.begin;
        alternative = dots.0;
        dot = dots.1;
        position = span.end;
        spelled =
            some_is _ _ _ c.read_dot.ensures.exact c.in-Some.is ∙
            ap (λ (z : List ℕ). decimal c.in-Some.alternative ++ (32 ∷ (decimal c.in-Some.dot ++ (32 ∷ (91 ∷ z)))))
            (values.spelled ∙ ap (λ (z : List ℕ). comma_separated value_text values.values ++ (93 ∷ z))
            (some_is _ _ _ c.read_behind.ensures.exact c.in-Some-read_behind.is ∙
            ap (λ (z : List ℕ). 32 ∷ z) (some_is _ _ _ c.read_last_span.ensures.exact c.in-Some-read_last_span.is)));
        told = λ a d i j xs us few small e.
            let dot = some_read _ _ _ (c.read_dot.ensures.told a d (place_behind xs i j us) few.0 few.1 e) c.in-Some.is in
            let listed = values.told xs (32 ∷ (places_text i j ++ (10 ∷ us))) small dot.2 in
            let second = some_read _ _ _ (c.read_behind.ensures.told (places_text i j ++ (10 ∷ us)) listed.1) c.in-Some-read_behind.is in
            let last = some_read _ _ _ (c.read_last_span.ensures.told (record { begin = i; end = j }) us (record { begin = few.2; end = few.3 }) second)
            c.in-Some-read_last_span.is in
            (dot.0, dot.1, listed.0, ap (λ (s : Span). s.begin) last.0, ap (λ (s : Span). s.end) last.0, last.1);
      };
    }
