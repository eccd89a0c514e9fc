use Rattle.std.specs.Prelude.{string_bytes}
use Rattle.ig_show_texts.specs.FactsText.{declaration_text}
use Rattle.ig_show_texts.proofs.FactsAdded.{next_numbered}
use Rattle.ig_show_texts.proofs.facts_text.push_declarations.Goals as goal

pub loop-before-preserved : goal.loop-before-preserved
loop-before-preserved c =
    next_numbered (declaration_text c.args.facts.now) c.args.decls.now c.loop-before.before c.index-decls-before.result
    (string_bytes c.loop-before.out) c.loop-before-test.true c.index-decls-before.is c.loop-before.invariant c.in_ok-push_declaration.ensures
