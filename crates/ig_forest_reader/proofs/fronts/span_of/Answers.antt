use Rattle.std.proofs.Common.{◌∙◌, ◌++◌, List, ℕ, [], Some, ap, sym}
use Rattle.std.proofs.lemmas.List.{append-nil}
use Rattle.ig_text.proofs.Booleans.{refuted}
use Rattle.ig_show_texts.specs.ValueText.{span_text}
use Rattle.ig_expr.specs.declared.value.Value.TheVariants as value
use Rattle.ig_forest_reader.specs.Runs.{at_end}
use Rattle.ig_forest_reader.proofs.Leading.{some_is, none_read, some_read}
use Rattle.ig_forest_reader.proofs.fronts.span_of.Goals as goal

pub returns-in_default : goal.returns-in_default
returns-in_default c =
    record {
      small = tt;
      exact = tt;
      told = λ s small e.
          absurd (none_read _ _ (c.read_span.ensures.told s [] small at_end (e ∙ sym (append-nil (span_text s)))) c.in_default.is);
    }

pub returns-then-not-is_end : goal.returns-then-not-is_end
returns-then-not-is_end c =
    record {
      small = tt;
      exact = tt;
      told = λ s small e.
          let read = some_read _ _ _ (c.read_span.ensures.told s [] small at_end (e ∙ sym (append-nil (span_text s)))) c.in-Some.is in
          absurd (refuted c.is_end.result c.is_end.ensures c.if-not-is_end.true read.1);
    }

pub returns : goal.returns
returns c =
    record {
      small = some_is _ _ _ c.read_span.ensures.small c.in-Some.is;
      exact =
          some_is _ _ _ c.read_span.ensures.exact c.in-Some.is ∙
          ap (λ (z : List ℕ). span_text c.in-Some.span ++ z) (c.is_end.ensures.0 c.if-not-is_end.false) ∙ append-nil (span_text c.in-Some.span);
      told = λ s small e.
          let read = some_read _ _ _ (c.read_span.ensures.told s [] small at_end (e ∙ sym (append-nil (span_text s)))) c.in-Some.is in
          ap (λ z. Some (value.Span z)) read.0;
    }
