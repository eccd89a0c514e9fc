use Rattle.std.proofs.Common.{◌≡◌, ◌∷◌, ◌++◌, ◌∙◌, MatchOption, sym, subst}
use Rattle.std.specs.Prelude.{codes}
use Rattle.std.specs.Fmt.{decimal}
use Rattle.ig_show_texts.specs.ForestText.{child_text, entry_text}
use Rattle.ig_forest_reader.proofs.Spelled.{from_behind}
use Rattle.ig_forest_tables.specs.declared.entry.Entry.TheVariants.{Begin}
use Rattle.ig_forest_reader.proofs.TellingLines.{entry_told}
use Rattle.ig_forest_reader.proofs.Leading.{none_read, some_read, some_is}
use Rattle.ig_forest_reader.proofs.Children.{pass_entry, take_entry}
use Rattle.ig_forest_reader.proofs.fronts.read_entry.Goals as goal

pub returns-in-Some : goal.returns-in-Some
returns-in-Some c =
    record {
      small = tt;
      exact = some_is _ _ _ c.read_behind.ensures.exact c.in-Some.is;
      told = λ x us small e.
          entry_told Begin x c.in-Some.rest.now us tt small (sym (some_is _ _ _ c.read_behind.ensures.exact c.in-Some.is) ∙ e);
    }

pub returns-in-Some-read_behind : goal.returns-in-Some-read_behind
returns-in-Some-read_behind c =
    record {
      small = c.read_pass.ensures.small;
      exact =
          from_behind entry_text (codes "pass ") c.args.bytes.now c.in-Some-read_behind.behind.now c.read_pass.result
          (some_is _ _ _ c.read_behind-2.ensures.exact c.in-Some-read_behind.is) c.read_pass.ensures.exact;
      told = λ x us small e.
          let it = pass_entry x us c.in-Some-read_behind.behind.now c.args.bytes.now small e (some_is _ _ _ c.read_behind-2.ensures.exact c.in-Some-read_behind.is) in
          subst (λ z. MatchOption c.read_pass.result ⊥ (λ r. (r.0 ≡ z) × (r.1.now ≡ us))) (sym it.is) (c.read_pass.ensures.told it.number us it.small it.behind);
    }

pub returns-in_default-read_behind-2 : goal.returns-in_default-read_behind-2
returns-in_default-read_behind-2 c =
    record {
      small = tt;
      exact = tt;
      told = λ x us small e.
          let it = take_entry x us c.args.bytes.now small e (λ rest is. none_read _ _ (c.read_behind.ensures.told rest is) c.in_default.is)
          (λ rest is. none_read _ _ (c.read_behind-2.ensures.told rest is) c.in_default-read_behind.is) in
          none_read _ _ (c.read_behind-3.ensures.told (decimal it.number ++ (32 ∷ (child_text it.taken ++ (10 ∷ us)))) it.whole) c.in_default-read_behind-2.is;
    }

pub returns : goal.returns
returns c =
    record {
      small = c.read_take.ensures.small;
      exact =
          from_behind entry_text (codes "take ") c.args.bytes.now c.in-Some-read_behind-2.behind.now c.read_take.result
          (some_is _ _ _ c.read_behind-3.ensures.exact c.in-Some-read_behind-2.is) c.read_take.ensures.exact;
      told = λ x us small e.
          let it = take_entry x us c.args.bytes.now small e (λ rest is. none_read _ _ (c.read_behind.ensures.told rest is) c.in_default.is)
          (λ rest is. none_read _ _ (c.read_behind-2.ensures.told rest is) c.in_default-read_behind.is) in
          let behind = some_read _ _ _ (c.read_behind-3.ensures.told (decimal it.number ++ (32 ∷ (child_text it.taken ++ (10 ∷ us)))) it.whole) c.in-Some-read_behind-2.is in
          subst (λ z. MatchOption c.read_take.result ⊥ (λ r. (r.0 ≡ z) × (r.1.now ≡ us))) (sym it.is) (c.read_take.ensures.told it.number it.taken us it.small it.small_child behind);
    }
