use Rattle.std.proofs.Common.{◌∙◌, refl}
use Rattle.std.specs.Prelude.{codes}
use Rattle.ig_text.proofs.Characters.{ascii_chars}
use Rattle.ig_core.specs.Tables.{number_by}
use Rattle.ig_core.proofs.MadeRoot.{made_is}
use Rattle.ig_core.proofs.roots.made_root.Goals as goal

pub returns : goal.returns
returns c =
    made_is (number_by c.args.numbers.now c.args.missing) c.args.grammar.now c.in_ok-name.name c.new-2.result c.new-3.result c.in_ok-steps.steps
    c.new-alternatives.result.items c.push.new.self.items c.from_vec.result c.requires.no_layout
    (c.in_ok-name.ensures ∙ ascii_chars (codes "$root") refl) c.new-2.ensures c.new-3.ensures c.in_ok-steps.ensures c.new-alternatives.ensures.items
    c.in_ok-push.ensures.items c.from_vec.ensures
