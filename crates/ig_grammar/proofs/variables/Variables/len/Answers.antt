use Rattle.std.proofs.Common.{sym, ◌∙◌, ap, length}
use Rattle.ig_text.proofs.Zips.{length_zip}
use Rattle.ig_grammar.proofs.variables.Variables.len.Goals as goal

pub returns : goal.returns
returns c =
    ap length c.as_slice.ensures.value ∙ sym (length_zip c.self.inside.names.items c.self.inside.kinds.items c.self.invariant) ∙
    ap length c.self.view_is
