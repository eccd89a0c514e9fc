use Rattle.std.proofs.Common.{◌∙◌, ap, take}
use Rattle.std.specs.List.{zip}
use Rattle.ig_text.proofs.Zips.{zip_take}
use Rattle.ig_grammar.proofs.variables.Variables.truncate.Goals as goal

pub returns : goal.returns
returns c =
    (λ i. zip (c.truncate.ensures.items i) (c.truncate-2.ensures.items i)) ∙
    zip_take c.args.len c.self.inside.names.items c.self.inside.kinds.items ∙ ap (take c.args.len) c.self.view_is
