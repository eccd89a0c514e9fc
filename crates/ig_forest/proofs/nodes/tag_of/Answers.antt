use Rattle.std.proofs.Common.{sym, ◌∙◌, subst}
use Rattle.std.proofs.lemmas.Option.{same_Some}
use Rattle.ig_forest.specs.CodeDone.{IsTagged}
use Rattle.ig_forest.proofs.CodeNodePass.{tag_there}
use Rattle.ig_forest.proofs.nodes.tag_of.Goals as goal

pub returns : goal.returns
returns c =
    let t = tag_there c.args.core.now c.args.row c.tag.result c.requires c.tag.ensures in
    subst (IsTagged c.args.core.now c.args.row) (same_Some t.0 c.in-Some.tag (sym t.1 ∙ c.in-Some.is)) t.2
