-- The alternatives of a group, as they are stored and as they are gathered.
use Rattle.std.proofs.Common.{◌≡◌, ℕ, ◌+◌, List, [], ◌∷◌, ◌++◌, map, refl, ap}
use Rattle.ig_grammar.specs.Symbol.{gathered}
use Rattle.ig_grammar.specs.Alternative.{gathered_alternatives}
use Rattle.ig_grammar.specs.Visible.{Visible}
use Rattle.ig_grammar.specs.declared.symbol.Alt.{Alt}
use Rattle.ig_ebnf_variables.specs.Laws.{GroupsAreGathered}
use Rattle.ig_ebnf_variables.specs.Lists.{count_symbols, count_alternatives, count_alts, alts_of, new_symbols, added_symbols, new_alternatives, new_alts, added_alternatives, added_alts}

pub counted : (ys : List Alt) → count_alternatives (gathered_alternatives ys) ≡ count_alts ys
counted [] = refl
counted (a ∷ ys) = ap (λ n. count_symbols (gathered a.symbols) + n) (counted ys)

pub alternatives_back : (ys : List Alt) → alts_of (map (λ (a : Alt). a.symbols) ys) ≡ ys
alternatives_back [] = refl
alternatives_back (a ∷ ys) = ap (λ z. a ∷ z) (alternatives_back ys)

module _ (of : List ℕ) where
  pub lowered_group : (v : Visible) (k : ℕ) (ys : List Alt) →
      map (λ (a : Alt). a.symbols) (new_alts of v k ys) ≡ new_alternatives of v k (gathered_alternatives ys)
  lowered_group v k [] = refl
  lowered_group v k (a ∷ ys) = ap (λ z. new_symbols of v k (gathered a.symbols) ∷ z)
      (lowered_group v (k + count_symbols (gathered a.symbols)) ys)

  pub added_group : (v : Visible) (k : ℕ) (ys : List Alt) →
      added_alternatives of v k (gathered_alternatives ys) ≡ added_alts of v k ys
  added_group v k [] = refl
  added_group v k (a ∷ ys) = ap (λ z. added_symbols of v k (gathered a.symbols) ++ z)
      (added_group v (k + count_symbols (gathered a.symbols)) ys)

pub all_groups_gathered : GroupsAreGathered
all_groups_gathered ys =
    record {
      stored = alternatives_back ys;
      counted = counted ys;
      lowered = λ of v k. lowered_group of v k ys;
      added = λ of v k. added_group of v k ys;
    }
