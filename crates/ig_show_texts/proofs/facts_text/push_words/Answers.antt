use Rattle.ig_show_texts.proofs.FactsAdded.{five_added}
use Rattle.ig_show_texts.proofs.facts_text.push_words.Goals as goal

pub returns : goal.returns
returns c =
    five_added c.push_where-5.result _ _ _ _ _ _ _ c.in_ok-push_where.ensures c.in_ok-push_where-2.ensures c.in_ok-push_where-3.ensures
    c.in_ok-push_where-4.ensures c.push_where-5.ensures
