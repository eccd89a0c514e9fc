use Rattle.std.proofs.Common.{refl}
use Rattle.ig_text.proofs.columns.columns_are_worked.Goals as goal

pub returns : goal.returns
returns c =
    record {
      tabs_1_row_1 = refl;
      tabs_1_row_2 = refl;
      tabs_1_row_3 = refl;
      tabs_1_row_4 = refl;
      tabs_2_row_1 = refl;
      tabs_2_row_2 = refl;
      tabs_2_row_3 = refl;
      tabs_2_row_4 = refl;
      tabs_2_row_5 = refl;
      tabs_2_row_6 = refl;
      tabs_3_row_1 = refl;
      tabs_3_row_2 = refl;
      tabs_3_row_3 = refl;
      tabs_3_row_4 = refl;
      tabs_3_row_5 = refl;
      tabs_3_row_6 = refl;
      tabs_4_row_1 = refl;
      tabs_4_row_2 = refl;
      tabs_4_row_3 = refl;
      tabs_4_row_4 = refl;
      tabs_8_row_1 = refl;
      tabs_8_row_2 = refl;
      tabs_8_row_3 = refl;
      tabs_8_row_4 = refl;
      tabs_8_row_5 = refl;
      tabs_8_row_6 = refl;
      tabs_8_row_7 = refl;
      tabs_8_row_8 = refl;
      tabs_8_row_9 = refl;
      tabs_8_row_10 = refl;
      tabs_8_row_11 = refl;
      tabs_8_row_12 = refl;
      tabs_8_row_13 = refl;
      tabs_8_row_14 = refl;
      tabs_16_row_1 = refl;
      tabs_16_row_2 = refl;
      tabs_16_row_3 = refl;
      tabs_16_row_4 = refl;
      tabs_16_row_5 = refl;
      tabs_16_row_6 = refl;
    }
