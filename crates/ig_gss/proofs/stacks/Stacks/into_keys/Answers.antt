use Rattle.std.proofs.Common.{sym, ap, ◌∙◌}
use Rattle.ig_gss.specs.Nodes.{keys_of}
use Rattle.ig_gss.proofs.Shown as shown
use Rattle.ig_gss.proofs.stacks.Stacks.into_keys.Goals as goal

pub returns : goal.returns
returns c =
    c.into_vec.ensures ∙ sym (shown.shown_keys c.self.inside.edges c.self.inside.pops c.self.inside.keys c.self.inside.tops.items) ∙
    ap keys_of c.self.view_is
