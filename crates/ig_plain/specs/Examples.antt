-- The core grammar of an ambiguous grammar, and which budgets are enough for it.
use Rattle.std.specs.Prelude.{ℕ, ◌+◌, ◌*◌, ◌/◌, ◌<◌, ◌≤◌, List, [], ◌∷◌, None, length, replicate, codes}
use Rattle.ig_text.specs.Input.{Input, untabbed}
use Rattle.ig_text.specs.declared.pattern.Pattern.TheVariants.{Literal}
use Rattle.ig_text.specs.declared.tag.Tag.TheVariants.{Rule}
use Rattle.ig_item.specs.Step.{Term}
use Rattle.ig_item.specs.Items.{MoreThan}
use Rattle.ig_item.specs.Examples.{plain_call, root}
use Rattle.ig_item.specs.declared.core_grammar.Nonterminal.{Nonterminal}
use Rattle.ig_item.specs.declared.core_grammar.CoreAlt.{CoreAlt}

abbrev pub both : CoreAlt
both = record { tag = Rule 1 1; steps = plain_call 1 [] ∷ plain_call 1 [] ∷ [] }

abbrev pub letter : CoreAlt
letter = record { tag = Rule 1 2; steps = Term (Literal (codes "a")) None [] ∷ [] }

abbrev pub start : Nonterminal
start = record { name = codes "S"; params = []; kinds = []; alternatives = both ∷ letter ∷ [] }

-- of `start S; syntax S = S S | "a";`, with two dots in the root, three in the first alternative, and two in the other
abbrev pub doubled : List Nonterminal
doubled = root ∷ start ∷ []

-- for a text with n characters at most 7 (n + 1) (n + 2) / 2 items are reachable
abbrev pub DoubledBudgetsSuffice : Type 0
DoubledBudgetsSuffice =
    (text : Input) (budget : ℕ) → 7 * (length text.characters + 1) * (length text.characters + 2) / 2 ≤ budget → MoreThan doubled text budget → ⊥

-- for n letters `a`, whose code is 97, at least n (n + 1) / 2 are: those behind the first call of `S S` alone are so many
abbrev pub DoubledNeedsBudgets : Type 0
DoubledNeedsBudgets = (n budget : ℕ) → budget < n * (n + 1) / 2 → MoreThan doubled (untabbed (replicate n 97)) budget
