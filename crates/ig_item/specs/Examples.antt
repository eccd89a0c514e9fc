-- Core grammars of two small grammars.
use Rattle.std.specs.Prelude.{◌↔◌, ℕ, List, [], ◌∷◌, Some, None, Contains, codes, pos}
use Rattle.ig_text.specs.Input.{untabbed}
use Rattle.ig_text.specs.declared.pattern.Pattern.TheVariants.{Literal}
use Rattle.ig_text.specs.declared.tag.Tag.TheVariants.{Rule, Root}
use Rattle.ig_expr.specs.Expression.{Expression, Integer, Variable, Binary}
use Rattle.ig_expr.specs.declared.kind.Kind.TheVariants.{Int}
use Rattle.ig_expr.specs.declared.operator.Op.TheVariants.{Sub, Equal}
use Rattle.ig_item.specs.Step.{Step, Test, Term, Call}
use Rattle.ig_item.specs.WellKinded.{IsWellKinded}
use Rattle.ig_item.specs.Items.{Item, Reachable}
use Rattle.ig_item.specs.Ways.{WayLists, AreWays}
use Rattle.ig_item.specs.declared.core_grammar.Nonterminal.{Nonterminal}
use Rattle.ig_item.specs.declared.core_grammar.CoreAlt.{CoreAlt}
use Rattle.ig_item.specs.declared.ways.Way.TheVariants.{Begin, Leaf, Node}

-- a call without label and excluded patterns
abbrev pub plain_call : ℕ → List Expression → Step
plain_call callee arguments = Call callee arguments None []

abbrev pub root_alternative : CoreAlt
root_alternative = record { tag = Root; steps = plain_call 1 [] ∷ [] }

-- the root, which calls nonterminal 1
abbrev pub root : Nonterminal
root = record { name = codes "$root"; params = []; kinds = []; alternatives = root_alternative ∷ [] }

-- nonterminal 1, `S`, of one alternative
abbrev pub start : CoreAlt → Nonterminal
start alternative = record { name = codes "S"; params = []; kinds = []; alternatives = alternative ∷ [] }

abbrev pub letter : CoreAlt
letter = record { tag = Rule 1 1; steps = Term (Literal (codes "a")) None [] ∷ [] }

-- of `start S; syntax S = "a";`
abbrev pub one_letter : List Nonterminal
one_letter = root ∷ start letter ∷ []

-- the item of a nonterminal without arguments that starts at 0, of its one alternative, with nothing bound
abbrev pub plain_item : ℕ → ℕ → ℕ → Item
plain_item nonterminal dot position =
    record {
      instance = record { nonterminal = nonterminal; values = []; start = 0 };
      alternative = 1;
      dot = dot;
      env = [];
      position = position;
    }

-- the root and `S`, each at both of its dots
abbrev pub four_items : List Item
four_items = plain_item 0 0 0 ∷ plain_item 1 0 0 ∷ plain_item 1 1 1 ∷ plain_item 0 1 1 ∷ []

-- on the text `a` these are the reachable ones
abbrev pub FourItemsAreReachable : Type 0
FourItemsAreReachable = (x : Item) → Reachable one_letter (untabbed (codes "a")) x ↔ Contains four_items x

-- the items before the first step begin, `S` comes by the letter, and the root by the node of `S`
abbrev pub four_ways : WayLists
four_ways = record { firsts = Begin ∷ Begin ∷ Leaf 1 ∷ Node 0 2 ∷ []; further = []; ends = [] }

-- these are their ways
abbrev pub FourItemsHaveWays : Type 0
FourItemsHaveWays = AreWays one_letter (untabbed (codes "a")) four_items four_ways

abbrev pub variable : Expression
variable = Variable (codes "n")

abbrev pub number : ℕ → Expression
number n = Integer (pos n)

abbrev pub counting : CoreAlt
counting = record { tag = Rule 1 1; steps = plain_call 2 (number 1 ∷ []) ∷ [] }

abbrev pub at_zero : CoreAlt
at_zero = record { tag = Rule 2 1; steps = Test (Binary Equal variable (number 0)) ∷ [] }

abbrev pub letter_and_less : CoreAlt
letter_and_less =
    record {
      tag = Rule 2 2;
      steps =
          Term (Literal (codes "a")) (Some (codes "x")) [] ∷
          plain_call 2 (Binary Sub variable (number 1) ∷ []) ∷ [];
    }

abbrev pub counted : Nonterminal
counted =
    record {
      name = codes "A";
      params = codes "n" ∷ [];
      kinds = Int ∷ [];
      alternatives = at_zero ∷ letter_and_less ∷ [];
    }

-- of `start S; syntax S = A(1); syntax A(n: int) = when (n == 0) | x: "a" A(n - 1);`
abbrev pub countdown : List Nonterminal
countdown = root ∷ start counting ∷ counted ∷ []

abbrev pub CountdownIsWellKinded : Type 0
CountdownIsWellKinded = IsWellKinded countdown
