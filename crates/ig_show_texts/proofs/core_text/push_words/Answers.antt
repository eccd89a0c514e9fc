use Rattle.std.proofs.Common.{◌∙◌, ap, ◌++◌}
use Rattle.std.specs.Prelude.{codes, string_bytes, encode_utf8_all}
use Rattle.ig_show_texts.proofs.CoreAdded.{next_listed}
use Rattle.ig_show_texts.proofs.CoreListing.{listed_whole}
use Rattle.ig_show_texts.proofs.core_text.push_words.Goals as goal

pub loop-other-preserved : goal.loop-other-preserved
loop-other-preserved c =
    next_listed encode_utf8_all (codes ",") c.in-Some.others.now c.loop-other.other-index c.other-item.result (string_bytes c.push_word.new.out)
    c.loop-other-test.true c.loop-other.invariant c.in_ok-push_str.ensures.bytes
    (c.in_ok-push_word-2.ensures ∙ ap (λ z. string_bytes c.push_str.new.self ++ encode_utf8_all z) c.other-item.is)

pub returns : goal.returns
returns c =
    listed_whole encode_utf8_all (string_bytes c.args.out.now) c.loop-other.other-index c.in-Some.ensures.cases.0 c.in_ok-push_word.ensures
    c.loop-other-test.false c.loop-other.invariant
