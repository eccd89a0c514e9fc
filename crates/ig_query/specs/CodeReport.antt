-- What the functions that make a report promise to each other.
use Rattle.std.specs.Prelude.{◌≡◌, ◌↔◌, ◌⊎◌, ℕ, ◌≤◌, List, Contains, Option, Some, None}
use Rattle.ig_text.specs.Input.{Input}
use Rattle.ig_text.specs.declared.pattern.Pattern.{Pattern}
use Rattle.ig_item.specs.Behind.{Behind, Next, End, behind_at}
use Rattle.ig_item.specs.Items.{Item, IsCompleteRoot, Reachable}
use Rattle.ig_item.specs.Report.{Expects}
use Rattle.ig_item.specs.Step.{Test, Bind, Term, Call}
use Rattle.ig_item.specs.declared.core_grammar.Nonterminal.{Nonterminal}
use Rattle.ig_query.specs.declared.dots.Dot.{Dot}

-- the dot at which an item stands
abbrev pub dot_of : Item → Dot
dot_of x = record { nonterminal = x.instance.nonterminal; alternative = x.alternative; dot = x.dot }

-- the pattern of the terminal behind a dot
abbrev pub pattern_of : Option Behind → Option Pattern
pattern_of None = None
pattern_of (Some End) = None
pattern_of (Some (Next (Test condition))) = None
pattern_of (Some (Next (Bind name value))) = None
pattern_of (Some (Next (Term what label excluded))) = Some what
pattern_of (Some (Next (Call callee arguments label excluded))) = None

abbrev pub pattern_at : List Nonterminal → Dot → Option Pattern
pattern_at core d = pattern_of (behind_at core d.nonterminal d.alternative d.dot)

-- the item stands before a terminal, or is a complete one of the root
abbrev pub Reports : List Nonterminal → Item → Type 0
Reports core x = ((what : Pattern) × Expects core x what) ⊎ IsCompleteRoot core x

-- the greatest position of those among the items that report, and 0 where none does
pub record IsFurthestAmong (core : List Nonterminal) (items : List Item) (p : ℕ) : Type 0 where
  pub greatest : (x : Item) → Contains items x → Reports core x → x.position ≤ p
  pub reached : ((x : Item) × Contains items x × Reports core x × (x.position ≡ p)) ⊎
      (((x : Item) → Contains items x → Reports core x → ⊥) × (p ≡ 0))

-- the dots are those of the items at that position
abbrev pub AreDotsAt : List Item → ℕ → List Dot → Type 0
AreDotsAt items p dots =
    (d : Dot) → Contains dots d ↔ ((x : Item) × Contains items x × (x.position ≡ p) × (dot_of x ≡ d))

-- a complete item of the root is among the items at that position
abbrev pub EndsAt : List Nonterminal → List Item → ℕ → Type 0
EndsAt core items p = (x : Item) × Contains items x × (x.position ≡ p) × IsCompleteRoot core x

-- the items are the reachable ones
abbrev pub AreReachable : List Nonterminal → Input → List Item → Type 0
AreReachable core text items = (x : Item) → Contains items x ↔ Reachable core text x
