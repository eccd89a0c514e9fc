-- The text of a core grammar, as UTF-8. Expressions and patterns are written as in the canonical text of a grammar.
use Rattle.std.specs.Prelude.{ℕ, List, ◌++◌, Option, None, Some, [], flat_map, codes, encode_utf8_all}
use Rattle.std.specs.Fmt.{decimal}
use Rattle.ig_text.specs.declared.pattern.Pattern.{Pattern}
use Rattle.ig_expr.specs.Expression.{Expression}
use Rattle.ig_item.specs.Step.{Step, Test, Bind, Term, Call}
use Rattle.ig_item.specs.declared.core_grammar.Nonterminal.{Nonterminal}
use Rattle.ig_item.specs.declared.core_grammar.CoreAlt.{CoreAlt}
use Rattle.ig_show.specs.CanonicalText.{expression_bytes, pattern_bytes}
use Rattle.ig_text.specs.Lines.{line_end}
use Rattle.ig_show_texts.specs.Listed.{comma_separated, numbered_texts}
use Rattle.ig_show_texts.specs.TagText.{tag_text}

-- `x: ` where there is a label
abbrev pub label_text : Option (List ℕ) → List ℕ
label_text None = []
label_text (Some name) = encode_utf8_all name ++ codes ": "

-- ` \ ` and the pattern, for each pattern that is excluded
abbrev pub excluded_text : List Pattern → List ℕ
excluded_text = flat_map (λ p. codes " \\ " ++ pattern_bytes p)

-- `(a,b)`
abbrev pub arguments_text : List Expression → List ℕ
arguments_text es = codes "(" ++ (comma_separated expression_bytes es ++ codes ")")

-- `test e`, `let x = e`, a pattern, or `call NUMBER (a,b)`
abbrev pub step_text : Step → List ℕ
step_text (Test e) = codes "test " ++ expression_bytes e
step_text (Bind name e) = codes "let " ++ (encode_utf8_all name ++ (codes " = " ++ expression_bytes e))
step_text (Term what label excluded) = label_text label ++ (pattern_bytes what ++ excluded_text excluded)
step_text (Call callee es label excluded) =
    label_text label ++ (codes "call " ++ (decimal callee ++ (codes " " ++ (arguments_text es ++ excluded_text excluded))))

-- ` . ` and the step, for each step
abbrev pub steps_text : List Step → List ℕ
steps_text = flat_map (λ s. codes " . " ++ step_text s)

-- `alt TAG`, then the steps
abbrev pub alternative_text : List ℕ → CoreAlt → List ℕ
alternative_text name a = codes "alt " ++ (tag_text name a.tag ++ (steps_text a.steps ++ line_end))

-- `nt NUMBER NAME (P,Q)`
abbrev pub nonterminal_line : ℕ → Nonterminal → List ℕ
nonterminal_line k n =
    codes "nt " ++ (decimal k ++ (codes " " ++ (encode_utf8_all n.name ++ (codes " (" ++
    (comma_separated encode_utf8_all n.params ++ (codes ")" ++ line_end))))))

-- its line, then a line for each alternative
abbrev pub nonterminal_text : ℕ → Nonterminal → List ℕ
nonterminal_text k n = nonterminal_line k n ++ flat_map (alternative_text n.name) n.alternatives

-- the nonterminals, numbered from 0
abbrev pub core_text : List Nonterminal → List ℕ
core_text core = numbered_texts nonterminal_text 0 core
