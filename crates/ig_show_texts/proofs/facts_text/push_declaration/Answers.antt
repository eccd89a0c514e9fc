use Rattle.ig_text.specs.Lines.{line_end}
use Rattle.ig_show_texts.proofs.FactsAdded.{third_added}
use Rattle.ig_show_texts.proofs.facts_text.push_declaration.Goals as goal

pub returns : goal.returns
returns c =
    third_added c.push_str.result _ _ _ line_end _ c.in_ok-push_word.ensures c.in_ok-push_found.ensures c.push_str.ensures.bytes
