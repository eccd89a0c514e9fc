use Rattle.std.proofs.Common.{◌∷◌, ◌++◌, ◌∙◌, List, ℕ, refl, sym, ap}
use Rattle.std.specs.Prelude.{encode_utf8_all}
use Rattle.std.specs.Fmt.{decimal}
use Rattle.ig_show_texts.specs.Listed.{comma_separated}
use Rattle.ig_show_texts.specs.ValueText.{value_text}
use Rattle.ig_forest_reader.specs.Written.{round}
use Rattle.ig_forest_reader.proofs.Composing.{read_ok, failed_on}
use Rattle.ig_forest_reader.proofs.Leading.{none_read, some_read, some_is}
use Rattle.ig_forest_reader.proofs.LinesRead.{start_joined}
use Rattle.ig_forest_reader.proofs.nodes.read_start.Goals as goal

pub returns-in_default : goal.returns-in_default
returns-in_default c core tells is m name xs us few named small e =
    none_read _ _ (c.read_head.ensures.told core m name _ tells is few named (e ∙ start_joined c.args.what.now c.args.number name xs us)) c.in_default.is

pub push_values-requires : goal.push_values-requires
push_values-requires c = round 41 (refl)

pub returns-in_err-behind : goal.returns-in_err-behind
returns-in_err-behind c core tells is =
    failed_on _ _ _ _ c.push_values.result c.in_err-behind.field-0.0 c.from_residual.result c.push_values.ensures c.in_err-behind.was
    c.from_residual.ensures.1
    (λ none m name xs us few named small e.
    let head = some_read _ _ _ (c.read_head.ensures.told core m name _ tells is few named (e ∙ start_joined c.args.what.now c.args.number name xs us)) c.in-Some.is in
    none xs (32 ∷ us) small head.1)

pub returns-in_default-read_behind : goal.returns-in_default-read_behind
returns-in_default-read_behind c core tells is m name xs us few named small e =
    let head = some_read _ _ _ (c.read_head.ensures.told core m name _ tells is few named (e ∙ start_joined c.args.what.now c.args.number name xs us)) c.in-Some.is in
    let read = read_ok _ _ _ _ c.push_values.ensures c.in_ok-behind.was in
    none_read _ _ (c.read_behind.ensures.told us (read.told xs (32 ∷ us) small head.1).1) c.in_default-read_behind.is

pub returns : goal.returns
returns c core tells is =
    let read = read_ok _ _ _ _ c.push_values.ensures c.in_ok-behind.was in
    let front = some_is _ _ _ (c.read_head.ensures.read core is) c.in-Some.is in
    record {
      values = read.values;
      small = read.small;
      is = read.is;
      there = front.there;
      name = front.name;
      named = front.named;
      spelled =
          front.spelled ∙
          ap (λ (z : List ℕ). c.args.what.now ++ (decimal c.args.number ++ (32 ∷ (encode_utf8_all front.name ++ (32 ∷ (40 ∷ z))))))
          (read.spelled ∙ ap (λ (z : List ℕ). comma_separated value_text read.values ++ (41 ∷ z))
          (some_is _ _ _ c.read_behind.ensures.exact c.in-Some-read_behind.is)) ∙
          sym (start_joined c.args.what.now c.args.number front.name read.values c.in-Some-read_behind.rest.now);
      told = λ m name xs us few named small e.
          let head = some_read _ _ _ (c.read_head.ensures.told core m name _ tells is few named (e ∙ start_joined c.args.what.now c.args.number name xs us)) c.in-Some.is in
          let listed = read.told xs (32 ∷ us) small head.1 in
          let last = some_read _ _ _ (c.read_behind.ensures.told us listed.1) c.in-Some-read_behind.is in
          (head.0, listed.0, last);
    }
