use Rattle.std.proofs.Common.{◌≡◌, ◌+◌, ◌++◌, drop}
use Rattle.std.specs.Prelude.{string_bytes}
use Rattle.ig_show_texts.specs.Listed.{numbered_texts}
use Rattle.ig_show_texts.specs.FactsText.{declaration_text, facts_text}
use Rattle.ig_show_texts.proofs.facts_text.push_declarations.Given as goal

abbrev pub invariant-loop-before : goal.invariant-loop-before
invariant-loop-before l =
    string_bytes l.out ++ numbered_texts (declaration_text l.facts) (l.before + 1) (drop l.before l.decls) ≡
    string_bytes l.fn.out ++ facts_text l.decls l.facts
