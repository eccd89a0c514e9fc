use Rattle.std.proofs.Common.{◌∷◌, ◌++◌, ◌∙◌, ℕ, List, sym, arith}
use Rattle.std.specs.Prelude.{encode_utf8_all}
use Rattle.std.specs.Fmt.{decimal}
use Rattle.std.proofs.lemmas.Option.{same_Some}
use Rattle.ig_forest_reader.proofs.Leading.{none_read, some_read, some_is}
use Rattle.ig_forest_reader.proofs.LinesRead.{head_read}
use Rattle.ig_forest_reader.proofs.NameIndex.{found_name}
use Rattle.ig_forest_reader.proofs.Telling.{stops_at}
use Rattle.ig_forest_reader.proofs.TellingLines.{name_plain, stops_plain}
use Rattle.ig_forest_reader.proofs.nodes.read_head.Goals as goal

abbrev behind_name : List ℕ → List ℕ
behind_name us = 32 ∷ (40 ∷ us)

abbrev behind_number : List ℕ → List ℕ → List ℕ
behind_number name us = 32 ∷ (encode_utf8_all name ++ behind_name us)

pub returns-in_default : goal.returns-in_default
returns-in_default c =
    record {
      read = λ core is. tt;
      told = λ core n name us tells is few named e.
          none_read _ _ (c.read_behind.ensures.told (decimal c.args.number ++ behind_number name us) e) c.in_default.is;
    }

pub returns-in_default-read_behind_number : goal.returns-in_default-read_behind_number
returns-in_default-read_behind_number c =
    record {
      read = λ core is. tt;
      told = λ core n name us tells is few named e.
          let begun = some_read _ _ _ (c.read_behind.ensures.told (decimal c.args.number ++ behind_number name us) e) c.in-Some.is in
          none_read _ _ (c.read_behind_number.ensures.told (behind_number name us) few (stops_at 32 _ (omega arith)) begun) c.in_default-read_behind_number.is;
    }

pub returns-in_default-read_behind : goal.returns-in_default-read_behind
returns-in_default-read_behind c =
    record {
      read = λ core is. tt;
      told = λ core n name us tells is few named e.
          let begun = some_read _ _ _ (c.read_behind.ensures.told (decimal c.args.number ++ behind_number name us) e) c.in-Some.is in
          let number = some_read _ _ _ (c.read_behind_number.ensures.told (behind_number name us) few (stops_at 32 _ (omega arith)) begun) c.in-Some-read_behind_number.is in
          none_read _ _ (c.read_behind-2.ensures.told (encode_utf8_all name ++ behind_name us) number) c.in_default-read_behind.is;
    }

pub returns-in_default-nonterminal_of : goal.returns-in_default-nonterminal_of
returns-in_default-nonterminal_of c =
    record {
      read = λ core is. tt;
      told = λ core n name us tells is few named e.
          let begun = some_read _ _ _ (c.read_behind.ensures.told (decimal c.args.number ++ behind_number name us) e) c.in-Some.is in
          let number = some_read _ _ _ (c.read_behind_number.ensures.told (behind_number name us) few (stops_at 32 _ (omega arith)) begun) c.in-Some-read_behind_number.is in
          let started = some_read _ _ _ (c.read_behind-2.ensures.told (encode_utf8_all name ++ behind_name us) number) c.in-Some-read_behind.is in
          let cut = c.split_word.ensures.told (encode_utf8_all name) (behind_name us) (name_plain core tells n name named) (stops_plain _) started in
          c.in_default-nonterminal_of.not-Some n (c.nonterminal_of.ensures core is ∙ found_name core c.args.index.now n name c.split_word.result.0.now is named cut.0);
    }

pub returns-in_default-read_behind-2 : goal.returns-in_default-read_behind-2
returns-in_default-read_behind-2 c =
    record {
      read = λ core is. tt;
      told = λ core n name us tells is few named e.
          let begun = some_read _ _ _ (c.read_behind.ensures.told (decimal c.args.number ++ behind_number name us) e) c.in-Some.is in
          let number = some_read _ _ _ (c.read_behind_number.ensures.told (behind_number name us) few (stops_at 32 _ (omega arith)) begun) c.in-Some-read_behind_number.is in
          let started = some_read _ _ _ (c.read_behind-2.ensures.told (encode_utf8_all name ++ behind_name us) number) c.in-Some-read_behind.is in
          let cut = c.split_word.ensures.told (encode_utf8_all name) (behind_name us) (name_plain core tells n name named) (stops_plain _) started in
          none_read _ _ (c.read_behind-3.ensures.told us cut.1) c.in_default-read_behind-2.is;
    }

pub returns : goal.returns
returns c =
    record {
      read = λ core is.
          head_read core c.args.index.now c.args.what.now c.args.number c.args.bytes.now c.in-Some.begun.now c.in-Some-read_behind_number.behind.now
          c.in-Some-read_behind.named.now c.split_word.result.0.now c.split_word.result.1.now c.in-Some-read_behind-2.values.now
          c.in-Some-nonterminal_of.nonterminal is (sym (c.nonterminal_of.ensures core is) ∙ c.in-Some-nonterminal_of.is)
          (some_is _ _ _ c.read_behind.ensures.exact c.in-Some.is)
          (some_is _ _ _ c.read_behind_number.ensures.exact c.in-Some-read_behind_number.is)
          (some_is _ _ _ c.read_behind-2.ensures.exact c.in-Some-read_behind.is) c.split_word.ensures.whole
          (some_is _ _ _ c.read_behind-3.ensures.exact c.in-Some-read_behind-2.is);
      told = λ core n name us tells is few named e.
          let begun = some_read _ _ _ (c.read_behind.ensures.told (decimal c.args.number ++ behind_number name us) e) c.in-Some.is in
          let number = some_read _ _ _ (c.read_behind_number.ensures.told (behind_number name us) few (stops_at 32 _ (omega arith)) begun) c.in-Some-read_behind_number.is in
          let started = some_read _ _ _ (c.read_behind-2.ensures.told (encode_utf8_all name ++ behind_name us) number) c.in-Some-read_behind.is in
          let cut = c.split_word.ensures.told (encode_utf8_all name) (behind_name us) (name_plain core tells n name named) (stops_plain _) started in
          let found = c.nonterminal_of.ensures core is ∙ found_name core c.args.index.now n name c.split_word.result.0.now is named cut.0 in
          let last = some_read _ _ _ (c.read_behind-3.ensures.told us cut.1) c.in-Some-read_behind-2.is in
          (same_Some _ n (sym c.in-Some-nonterminal_of.is ∙ found), last);
    }
