-- Columns of some texts with tabs, worked out by hand: tabs at each column of a stop, behind line feeds, and before them.
use Rattle.std.specs.Prelude.{◌≡◌, ℕ, List, codes}
use Rattle.ig_text.specs.Input.{Input}
use Rattle.ig_text.specs.Lines.{column_of}

-- the column of a position of a text with tabs of this width
abbrev pub column_in : ℕ → List ℕ → ℕ → ℕ
column_in tabs characters p = column_of (record { characters = characters; tabs = tabs }) p

pub record WorkedColumns : Type 0 where
  pub tabs_1_row_1 : column_in 1 (codes "\t") 1 ≡ 2
  pub tabs_1_row_2 : column_in 1 (codes "a\tb") 2 ≡ 3
  pub tabs_1_row_3 : column_in 1 (codes "\t\t\t") 3 ≡ 4
  pub tabs_1_row_4 : column_in 1 (codes "ab\n\tc") 4 ≡ 2
  pub tabs_2_row_1 : column_in 2 (codes "\t") 1 ≡ 3
  pub tabs_2_row_2 : column_in 2 (codes "a\t") 2 ≡ 3
  pub tabs_2_row_3 : column_in 2 (codes "ab\t") 3 ≡ 5
  pub tabs_2_row_4 : column_in 2 (codes "abc\t") 4 ≡ 5
  pub tabs_2_row_5 : column_in 2 (codes "\t\t") 2 ≡ 5
  pub tabs_2_row_6 : column_in 2 (codes "\n\t") 2 ≡ 3
  pub tabs_3_row_1 : column_in 3 (codes "\t") 1 ≡ 4
  pub tabs_3_row_2 : column_in 3 (codes "a\t") 2 ≡ 4
  pub tabs_3_row_3 : column_in 3 (codes "ab\t") 3 ≡ 4
  pub tabs_3_row_4 : column_in 3 (codes "abc\t") 4 ≡ 7
  pub tabs_3_row_5 : column_in 3 (codes "\t\t") 2 ≡ 7
  pub tabs_3_row_6 : column_in 3 (codes "a\t\tb") 3 ≡ 7
  pub tabs_4_row_1 : column_in 4 (codes "\t") 1 ≡ 5
  pub tabs_4_row_2 : column_in 4 (codes "ab\tc") 3 ≡ 5
  pub tabs_4_row_3 : column_in 4 (codes "abcd\tc") 5 ≡ 9
  pub tabs_4_row_4 : column_in 4 (codes "a\n\tb") 3 ≡ 5
  pub tabs_8_row_1 : column_in 8 (codes "\t") 1 ≡ 9
  pub tabs_8_row_2 : column_in 8 (codes "a\t") 2 ≡ 9
  pub tabs_8_row_3 : column_in 8 (codes "ab\t") 3 ≡ 9
  pub tabs_8_row_4 : column_in 8 (codes "abc\t") 4 ≡ 9
  pub tabs_8_row_5 : column_in 8 (codes "abcd\t") 5 ≡ 9
  pub tabs_8_row_6 : column_in 8 (codes "abcde\t") 6 ≡ 9
  pub tabs_8_row_7 : column_in 8 (codes "abcdef\t") 7 ≡ 9
  pub tabs_8_row_8 : column_in 8 (codes "abcdefg\t") 8 ≡ 9
  pub tabs_8_row_9 : column_in 8 (codes "abcdefgh\t") 9 ≡ 17
  pub tabs_8_row_10 : column_in 8 (codes "a\n\tb") 3 ≡ 9
  pub tabs_8_row_11 : column_in 8 (codes "a\n\tb") 4 ≡ 10
  pub tabs_8_row_12 : column_in 8 (codes "\ta\n        b") 11 ≡ 9
  pub tabs_8_row_13 : column_in 8 (codes "\t\n\t") 2 ≡ 1
  pub tabs_8_row_14 : column_in 8 (codes "\t\n\t") 3 ≡ 9
  pub tabs_16_row_1 : column_in 16 (codes "\t") 1 ≡ 17
  pub tabs_16_row_2 : column_in 16 (codes "abcdefghijklmno\t") 16 ≡ 17
  pub tabs_16_row_3 : column_in 16 (codes "abcdefghijklmnop\t") 17 ≡ 33
  pub tabs_16_row_4 : column_in 16 (codes "\ta\n\t b") 6 ≡ 19
  pub tabs_16_row_5 : column_in 16 (codes "\n\n\t\t") 4 ≡ 33
  pub tabs_16_row_6 : column_in 16 (codes "a\t\nb") 3 ≡ 1
