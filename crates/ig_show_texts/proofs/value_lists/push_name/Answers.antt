use Rattle.std.proofs.Common.{rules, ◌≡◌, ◌∙◌, sym, ap}
use Rattle.std.specs.Prelude.{encode_utf8_all}
use Rattle.std.proofs.lemmas.Str.{encodes-chars}
use Rattle.ig_show_texts.proofs.value_lists.push_name.Goals as goal

pub returns : goal.returns
returns c =
    let same : c.as_str.result.now ≡ encode_utf8_all c.args.name.now =
    sym (encodes-chars c.as_str.result.now c.as_str.utf8) ∙ ap encode_utf8_all c.as_str.ensures in
    search (rules, same)
