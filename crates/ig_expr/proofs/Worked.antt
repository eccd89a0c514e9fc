-- The worked values, by computation.
use Rattle.std.proofs.Common.{refl}
use Rattle.ig_expr.specs.Examples.{WorkedIntegers, WorkedReadings, WorkedSpans, WorkedBlocks, WorkedMatches, WorkedValues}

integers : WorkedIntegers
integers =
    record {
      past_the_greatest = refl;
      past_the_least = refl;
      back_to_the_greatest = refl;
      product_past = refl;
      product = refl;
      quotient = refl;
      quotient_by_negative = refl;
      quotient_by_nought = refl;
      quotient_of_the_least = refl;
      remainder = refl;
      remainder_by_negative = refl;
      remainder_by_nought = refl;
      remainder_of_the_least = refl;
      opposite_of_the_least = refl;
      compared = refl;
    }

readings : WorkedReadings
readings =
    record {
      number = refl;
      number_of_none = refl;
      number_with_a_space = refl;
      number_outside = refl;
      number_falling = refl;
      number_too_large = refl;
      number_fits = refl;
      begin_falling = refl;
      end_falling = refl;
      size_falling = refl;
      column_before = refl;
      column_of_line_feed = refl;
      column_behind = refl;
      column_past = refl;
      line_of_line_feed = refl;
      line_at_the_end = refl;
      line_past = refl;
      line_before = refl;
    }

spans : WorkedSpans
spans =
    record {
      equal = refl;
      empty = refl;
      outside = refl;
      no_span = refl;
      spelled = refl;
      otherwise = refl;
    }

blocks : WorkedBlocks
blocks =
    record {
      outer_here = refl;
      outer_there = refl;
      outer_less = refl;
      outer_past = refl;
      inside_here = refl;
      inside_left = refl;
      inside_beside = refl;
      inside_all = refl;
    }

matches : WorkedMatches
matches =
    record {
      word_begins = refl;
      word_ends = refl;
      word_too_long = refl;
      word_from_the_start = refl;
      digit_begins = refl;
      digit_ends = refl;
      none_at_the_end = refl;
      none_before_the_start = refl;
    }

pub worked_values : WorkedValues
worked_values =
    record { integers = integers; parts = refl; readings = readings; spans = spans; blocks = blocks; matches = matches }
