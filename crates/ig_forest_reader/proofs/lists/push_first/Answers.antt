use Rattle.std.proofs.Common.{◌∷◌, ◌++◌, ◌∙◌, [], ap}
use Rattle.std.proofs.lemmas.List.{append_assoc}
use Rattle.ig_show_texts.specs.ValueText.{value_text}
use Rattle.ig_forest_reader.proofs.Leading.{none_read, some_read, some_is}
use Rattle.ig_forest_reader.proofs.ValuesTold.{first_added}
use Rattle.ig_forest_reader.proofs.ValuesLeft.{stops_others, others}
use Rattle.ig_forest_reader.proofs.lists.push_first.Goals as goal

pub returns-in_default : goal.returns-in_default
returns-in_default c =
    record {
      added = tt;
      told = λ x xs us p q s t e.
          none_read _ _ (c.read_value.ensures.told x (others xs ++ us) p (stops_others xs us s) (e ∙ append_assoc (value_text x) (others xs) us)) c.in_default.is;
    }

pub returns : goal.returns
returns c =
    record {
      added =
          first_added c.args.bytes.now c.in-Some.behind.now _ c.args.out.now.items _ _ c.in-Some.value
          (some_is _ _ _ c.read_value.ensures.small c.in-Some.is) (some_is _ _ _ c.read_value.ensures.exact c.in-Some.is)
          c.in_ok-push_value.ensures c.in_ok-push_others.ensures.added;
      told = λ x xs us p q s t e.
          let read = some_read _ _ _ (c.read_value.ensures.told x (others xs ++ us) p (stops_others xs us s) (e ∙ append_assoc (value_text x) (others xs) us)) c.in-Some.is in
          let rest = c.in_ok-push_others.ensures.told xs us q s t read.1 in (
            rest.0,
            rest.1 ∙ ap (λ z. z ++ xs) (c.in_ok-push_value.ensures ∙ ap (λ z. c.args.out.now.items ++ z ∷ []) read.0) ∙
                append_assoc c.args.out.now.items (x ∷ []) xs,
          );
    }
