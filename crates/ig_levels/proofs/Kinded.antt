-- Visible variables with bounds among them.
use Rattle.std.specs.Prelude.{◌≡◌, ℕ, Bool, true, false, List, [], ◌∷◌, ◌++◌, Some}
use Rattle.ig_expr.specs.declared.kind.Kind.{Kind}
use Rattle.ig_expr.specs.declared.kind.Kind.TheVariants as kind
use Rattle.ig_grammar.specs.Symbol.{Symbol}
use Rattle.ig_grammar.specs.Visible.{Visible, kind_at, Occurrence, at}
use Rattle.ig_levels.specs.Levels.{Pair, with_pair}
use Rattle.ig_pass.specs.Added.{left_name, right_name}
use Rattle.ig_levels.proofs.WithBounds.{IsSource, Clear}
use Rattle.ig_levels.proofs.Keeping.{IsAddedPair}

abbrev pub bound_kinds : Bool → Visible
bound_kinds true = (left_name, kind.Int) ∷ (right_name, kind.Int) ∷ []
bound_kinds false = []

pub data InsertedKinds (m : Bool) : Visible → Visible → Type 0 where
  here : (rest v : Visible) → v ≡ bound_kinds m ++ rest → InsertedKinds m rest v
  behind : (name : List ℕ) (k : Kind) (rest v : Visible) → IsSource name → InsertedKinds m rest v →
      InsertedKinds m ((name, k) ∷ rest) ((name, k) ∷ v)

pub record PairFits (v : Visible) (p : Pair) : Type 0 where
  pub left_kind : kind_at v p.left ≡ Some kind.Int
  pub right_kind : kind_at v p.right ≡ Some kind.Int
  pub own : IsAddedPair p

-- occurrences in the source, and those in the grammar without levels
pub data Paired (levelled : List ℕ → Bool) (m : Bool) : List Occurrence → List Occurrence → Type 0 where
  no_pairs : Paired levelled m [] []
  next_pair : (v w : Visible) (x : Symbol) (p : Pair) (os us : List Occurrence) → InsertedKinds m v w → PairFits w p → Clear x →
      Paired levelled m os us → Paired levelled m (at v x ∷ os) (at w (with_pair levelled p x) ∷ us)
