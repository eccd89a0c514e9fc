use Rattle.std.proofs.Common.{◌∷◌, ◌++◌, ◌∙◌, List, ℕ, sym, ap}
use Rattle.std.specs.Prelude.{codes}
use Rattle.ig_forest_tables.specs.declared.entry.Child.TheVariants as child
use Rattle.ig_show_texts.specs.ValueText.{span_text}
use Rattle.ig_forest_reader.proofs.Leading.{none_read, some_read, some_is}
use Rattle.ig_forest_reader.proofs.Children.{node_child, leaf_child}
use Rattle.ig_forest_reader.proofs.fronts.read_child.Goals as goal

pub returns-in_default-read_last_number : goal.returns-in_default-read_last_number
returns-in_default-read_last_number c =
    record {
      small = tt;
      exact = tt;
      told = λ x us small e.
          let it = node_child x us c.in-Some.behind.now c.args.bytes.now small e (some_is _ _ _ c.read_behind.ensures.exact c.in-Some.is) in
          none_read _ _ (c.read_last_number.ensures.told it.number us it.small it.behind) c.in_default-read_last_number.is;
    }

pub returns-in-Some : goal.returns-in-Some
returns-in-Some c =
    record {
      small = some_is _ _ _ c.read_last_number.ensures.small c.in-Some-read_last_number.is;
      exact =
          some_is _ _ _ c.read_behind.ensures.exact c.in-Some.is ∙
          ap (λ (z : List ℕ). codes "node " ++ z) (some_is _ _ _ c.read_last_number.ensures.exact c.in-Some-read_last_number.is);
      told = λ x us small e.
          let it = node_child x us c.in-Some.behind.now c.args.bytes.now small e (some_is _ _ _ c.read_behind.ensures.exact c.in-Some.is) in
          let read = some_read _ _ _ (c.read_last_number.ensures.told it.number us it.small it.behind) c.in-Some-read_last_number.is in
          (ap child.Node read.0 ∙ sym it.is, read.1);
    }

pub returns-in_default-read_behind : goal.returns-in_default-read_behind
returns-in_default-read_behind c =
    record {
      small = tt;
      exact = tt;
      told = λ x us small e.
          let it = leaf_child x us c.args.bytes.now small e (λ rest is. none_read _ _ (c.read_behind.ensures.told rest is) c.in_default.is) in
          none_read _ _ (c.read_behind-2.ensures.told (span_text it.span ++ (10 ∷ us)) it.whole) c.in_default-read_behind.is;
    }

pub returns-in_default-read_last_span : goal.returns-in_default-read_last_span
returns-in_default-read_last_span c =
    record {
      small = tt;
      exact = tt;
      told = λ x us small e.
          let it = leaf_child x us c.args.bytes.now small e (λ rest is. none_read _ _ (c.read_behind.ensures.told rest is) c.in_default.is) in
          let second = some_read _ _ _ (c.read_behind-2.ensures.told (span_text it.span ++ (10 ∷ us)) it.whole) c.in-Some-read_behind.is in
          none_read _ _ (c.read_last_span.ensures.told it.span us it.small second) c.in_default-read_last_span.is;
    }

pub returns : goal.returns
returns c =
    record {
      small = some_is _ _ _ c.read_last_span.ensures.small c.in-Some-read_last_span.is;
      exact =
          some_is _ _ _ c.read_behind-2.ensures.exact c.in-Some-read_behind.is ∙
          ap (λ (z : List ℕ). codes "leaf " ++ z) (some_is _ _ _ c.read_last_span.ensures.exact c.in-Some-read_last_span.is);
      told = λ x us small e.
          let it = leaf_child x us c.args.bytes.now small e (λ rest is. none_read _ _ (c.read_behind.ensures.told rest is) c.in_default.is) in
          let second = some_read _ _ _ (c.read_behind-2.ensures.told (span_text it.span ++ (10 ∷ us)) it.whole) c.in-Some-read_behind.is in
          let third = some_read _ _ _ (c.read_last_span.ensures.told it.span us it.small second) c.in-Some-read_last_span.is in
          (ap child.Leaf third.0 ∙ sym it.is, third.1);
    }
