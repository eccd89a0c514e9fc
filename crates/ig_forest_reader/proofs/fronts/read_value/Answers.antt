use Rattle.std.proofs.Common.{◌∙◌, ◌++◌, List, ℕ, ap, sym}
use Rattle.std.proofs.lemmas.Option.{same_Some}
use Rattle.ig_show_texts.specs.ValueText.{value_text}
use Rattle.ig_forest_reader.proofs.Telling.{value_inner}
use Rattle.ig_forest_reader.proofs.Leading.{some_is}
use Rattle.ig_forest_reader.proofs.fronts.read_value.Goals as goal

pub returns-in_default : goal.returns-in_default
returns-in_default c =
    record {
      small = tt;
      exact = tt;
      told = λ v us small s e.
          let cut = c.split_inner.ensures.told (value_text v) us (value_inner v small) s e in
          c.in_default.not-Some v (c.value_of.ensures.told v small cut.0);
    }

pub returns : goal.returns
returns c =
    record {
      small = some_is _ _ _ c.value_of.ensures.small c.in-Some.is;
      exact =
          c.split_inner.ensures.whole ∙
          ap (λ (z : List ℕ). z ++ c.split_inner.result.1.now) (some_is _ _ _ c.value_of.ensures.exact c.in-Some.is);
      told = λ v us small s e.
          let cut = c.split_inner.ensures.told (value_text v) us (value_inner v small) s e in
          (same_Some _ v (sym c.in-Some.is ∙ c.value_of.ensures.told v small cut.0), cut.1);
    }
