use Rattle.std.proofs.lemmas.Result.{on_ok_weaker}
use Rattle.ig_show_texts.proofs.forest_text.push_node_taken.Goals as goal

pub returns : goal.returns
returns c = on_ok_weaker c.push_to.result (λ written. cc) c.push_to.ensures
