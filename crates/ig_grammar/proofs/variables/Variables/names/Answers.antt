use Rattle.std.proofs.Common.{sym, ◌∙◌}
use Rattle.ig_text.proofs.Zips.{firsts_of}
use Rattle.ig_grammar.proofs.variables.Variables.names.Goals as goal

pub returns : goal.returns
returns c =
    c.as_slice.ensures.value ∙
    sym (firsts_of c.args.self.now c.self.inside.names.items c.self.inside.kinds.items c.self.view_is c.self.invariant)
