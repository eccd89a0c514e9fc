use Rattle.ig_grammar.proofs.KeywordTexts.{keyword_test}
use Rattle.ig_grammar.proofs.keywords.is_keyword.Goals as goal

pub returns : goal.returns
returns c = keyword_test c.args.text.now c.is_among.result c.utf8.text c.is_among.ensures
