use Rattle.std.proofs.Common.{◌≡◌, ◌∙◌, true, false, Some, ap, sym, subst, w64, FitsSigned}
use Rattle.std.specs.Prelude.{ℤ}
use Rattle.std.specs.Fmt.{signed_decimal}
use Rattle.std.proofs.lemmas.Int.{to_z-of_z}
use Rattle.std.proofs.lemmas.Option.{same_Some}
use Rattle.ig_expr.specs.declared.value.Value.TheVariants as value
use Rattle.ig_forest_reader.proofs.Values.{point_read, integer_read, truth_read, fits_signed, not_when_false}
use Rattle.ig_forest_reader.proofs.fronts.value_of.Goals as goal

pub returns-then-has_point : goal.returns-then-has_point
returns-then-has_point c =
    record {
      small = c.span_of.ensures.small;
      exact = c.span_of.ensures.exact;
      told = λ v small e.
          point_read v c.args.word.now c.span_of.result small e (c.has_point.ensures.0 c.if-has_point.true) c.span_of.ensures.told;
    }

pub returns-then-is_text : goal.returns-then-is_text
returns-then-is_text c =
    record {
      small = tt;
      exact = c.is_text.ensures.0 c.if-is_text.true;
      told = λ v small e.
          truth_read true v c.args.word.now small e (c.is_text.ensures.0 c.if-is_text.true);
    }

pub returns-then-is_text-2 : goal.returns-then-is_text-2
returns-then-is_text-2 c =
    record {
      small = tt;
      exact = c.is_text-2.ensures.0 c.if-is_text-2.true;
      told = λ v small e.
          truth_read false v c.args.word.now small e (c.is_text-2.ensures.0 c.if-is_text-2.true);
    }

pub returns-in_default : goal.returns-in_default
returns-in_default c =
    record {
      small = tt;
      exact = tt;
      told = λ v small e.
          let read = integer_read v c.args.word.now small e (not_when_false _ _ c.has_point.ensures.1 c.if-has_point.false)
          (not_when_false _ _ c.is_text.ensures.1 c.if-is_text.false) (not_when_false _ _ c.is_text-2.ensures.1 c.if-is_text-2.false) in
          absurd (c.in_default.not-Some read.number (c.integer_of.ensures read.number read.small read.text));
    }

pub returns : goal.returns
returns c =
    record {
      small = c.integer_value.ensures.small;
      exact = c.integer_value.ensures.exact;
      told = λ v small e.
          let read = integer_read v c.args.word.now small e (not_when_false _ _ c.has_point.ensures.1 c.if-has_point.false)
          (not_when_false _ _ c.is_text.ensures.1 c.if-is_text.false) (not_when_false _ _ c.is_text-2.ensures.1 c.if-is_text-2.false) in
          let number : c.in-Some.number ≡ read.number =
          same_Some c.in-Some.number read.number (sym c.in-Some.is ∙ c.integer_of.ensures read.number read.small read.text) in
          let same = to_z-of_z w64 c.in-Some.number (subst (FitsSigned w64) (sym number) (fits_signed read.number read.small)) ∙ number in
          c.integer_value.ensures.told (read.text ∙ ap signed_decimal (sym same)) ∙ ap (λ (z : ℤ). Some (value.Int z)) same ∙ ap Some (sym read.is);
    }
