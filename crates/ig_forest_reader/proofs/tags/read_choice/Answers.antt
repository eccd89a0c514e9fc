use Rattle.std.proofs.Common.{◌∷◌, ◌++◌, ◌∙◌, sym}
use Rattle.std.specs.Fmt.{decimal}
use Rattle.std.proofs.lemmas.Option.{same_Some}
use Rattle.ig_show_texts.specs.TagText.{tag_text}
use Rattle.ig_forest_reader.proofs.Leading.{none_read, some_read, some_is}
use Rattle.ig_forest_reader.proofs.Spelled.{choice_spelled}
use Rattle.ig_forest_reader.proofs.TellingLines.{choice_joined, name_plain, same_choice, stops_plain, tag_plain}
use Rattle.ig_forest_reader.proofs.tags.read_choice.Goals as goal

pub returns-in_default : goal.returns-in_default
returns-in_default c =
    record {
      small = tt;
      exact = λ name named. tt;
      told = λ name x us named q e. none_read _ _ (c.read_behind.ensures.told _ (e ∙ choice_joined c.args.core.now c.requires name x us)) c.in_default.is;
    }

pub returns-in_default-tag_of : goal.returns-in_default-tag_of
returns-in_default-tag_of c =
    record {
      small = tt;
      exact = λ name named. tt;
      told = λ name x us named q e.
          let begun = some_read _ _ _ (c.read_behind.ensures.told _ (e ∙ choice_joined c.args.core.now c.requires name x us)) c.in-Some.is in
          let cut = c.split_word.ensures.told (tag_text name x.tag) (32 ∷ (decimal x.item ++ (10 ∷ us)))
          (tag_plain name x.tag (name_plain c.args.core.now c.requires c.args.nonterminal name named) q.small) (stops_plain _) begun in
          c.in_default-tag_of.not-Some x.tag (c.tag_of.ensures.told name x named q cut.0);
    }

pub returns-in_default-read_behind : goal.returns-in_default-read_behind
returns-in_default-read_behind c =
    record {
      small = tt;
      exact = λ name named. tt;
      told = λ name x us named q e.
          let begun = some_read _ _ _ (c.read_behind.ensures.told _ (e ∙ choice_joined c.args.core.now c.requires name x us)) c.in-Some.is in
          let cut = c.split_word.ensures.told (tag_text name x.tag) (32 ∷ (decimal x.item ++ (10 ∷ us)))
          (tag_plain name x.tag (name_plain c.args.core.now c.requires c.args.nonterminal name named) q.small) (stops_plain _) begun in
          none_read _ _ (c.read_behind-2.ensures.told (decimal x.item ++ (10 ∷ us)) cut.1) c.in_default-read_behind.is;
    }

pub returns-in_default-read_last_number : goal.returns-in_default-read_last_number
returns-in_default-read_last_number c =
    record {
      small = tt;
      exact = λ name named. tt;
      told = λ name x us named q e.
          let begun = some_read _ _ _ (c.read_behind.ensures.told _ (e ∙ choice_joined c.args.core.now c.requires name x us)) c.in-Some.is in
          let cut = c.split_word.ensures.told (tag_text name x.tag) (32 ∷ (decimal x.item ++ (10 ∷ us)))
          (tag_plain name x.tag (name_plain c.args.core.now c.requires c.args.nonterminal name named) q.small) (stops_plain _) begun in
          let second = some_read _ _ _ (c.read_behind-2.ensures.told (decimal x.item ++ (10 ∷ us)) cut.1) c.in-Some-read_behind.is in
          none_read _ _ (c.read_last_number.ensures.told x.item us q.item second) c.in_default-read_last_number.is;
    }

pub returns : goal.returns
returns c =
    record {
      small =
          let has = some_is _ _ _ c.tag_of.ensures.there c.in-Some-tag_of.is in
          record {
            a = has.a;
            nonterminal = has.nonterminal;
            alternative = has.alternative;
            has = has.has;
            tag = has.is;
            small = has.small;
            item = some_is _ _ _ c.read_last_number.ensures.small c.in-Some-read_last_number.is;
          };
      exact = λ name named.
          choice_spelled c.args.bytes.now c.in-Some.begun.now c.split_word.result.0.now c.split_word.result.1.now
          c.in-Some-read_behind.second.now c.in-Some-read_last_number.rest.now name
          (record { tag = c.in-Some-tag_of.tag; item = c.in-Some-read_last_number.item }) (some_is _ _ _ c.read_behind.ensures.exact c.in-Some.is)
          c.split_word.ensures.whole (some_is _ _ _ (c.tag_of.ensures.exact name named) c.in-Some-tag_of.is)
          (some_is _ _ _ c.read_behind-2.ensures.exact c.in-Some-read_behind.is)
          (some_is _ _ _ c.read_last_number.ensures.exact c.in-Some-read_last_number.is);
      told = λ name x us named q e.
          let begun = some_read _ _ _ (c.read_behind.ensures.told _ (e ∙ choice_joined c.args.core.now c.requires name x us)) c.in-Some.is in
          let cut = c.split_word.ensures.told (tag_text name x.tag) (32 ∷ (decimal x.item ++ (10 ∷ us)))
          (tag_plain name x.tag (name_plain c.args.core.now c.requires c.args.nonterminal name named) q.small) (stops_plain _) begun in
          let second = some_read _ _ _ (c.read_behind-2.ensures.told (decimal x.item ++ (10 ∷ us)) cut.1) c.in-Some-read_behind.is in
          let third = some_read _ _ _ (c.read_last_number.ensures.told x.item us q.item second) c.in-Some-read_last_number.is in
          (same_choice c.args.core.now c.requires _ x (same_Some _ x.tag (sym c.in-Some-tag_of.is ∙ c.tag_of.ensures.told name x named q cut.0)) third.0, third.1);
    }
