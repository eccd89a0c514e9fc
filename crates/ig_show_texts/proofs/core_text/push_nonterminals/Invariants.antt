use Rattle.std.proofs.Common.{◌≡◌, ◌++◌, drop}
use Rattle.std.specs.Prelude.{string_bytes}
use Rattle.ig_show_texts.specs.Listed.{numbered_texts}
use Rattle.ig_show_texts.specs.CoreText.{nonterminal_text}
use Rattle.ig_show_texts.proofs.core_text.push_nonterminals.Given as goal

abbrev pub invariant-loop-number : goal.invariant-loop-number
invariant-loop-number l =
    string_bytes l.out ++ numbered_texts nonterminal_text l.number (drop l.number l.nonterminals) ≡
    string_bytes l.fn.out ++ numbered_texts nonterminal_text 0 l.nonterminals
