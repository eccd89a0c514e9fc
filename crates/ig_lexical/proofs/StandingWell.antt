-- Labels, filters and entries stand where they may in a rewritten symbol, where the pass's own rule keeps that; and it wants
-- and binds the same.
use Rattle.std.proofs.Common.{◌≡◌, ◌∙◌, ℕ, List, [], ◌∷◌, ◌++◌, refl, sym, ap, subst}
use Rattle.std.specs.Prelude.{not, ◌&&◌, ◌||◌}
use Rattle.ig_grammar.specs.Symbol.{Symbol, Literal, OneOf, Call, Label, Guard, Let, Opt, Star, Plus, SepStar, SepPlus, Group, Offside, Ignore, Align, Filtered, Seq, Entry}
use Rattle.ig_grammar.specs.Symbol.{Symbols, no_symbols, next_symbol, Alternatives, no_alternatives, next_alternative}
use Rattle.ig_grammar.specs.Regular.{IsPlaced, MayHaveLabel, MayHaveMark, MayHaveFilters, MayHaveSign, MayBeSeparated, MayHaveEntry}
use Rattle.ig_grammar.specs.Subterms.{bound_names, names_bound_by}
use Rattle.ig_pass.specs.Needs.{needs, symbols_need, alternatives_need, is_pair, bindings_use, is_bound, AreWanted, IsEntered}
use Rattle.ig_pass.specs.Rewriting.{within, rewritten, rewritten_symbols, rewritten_choices}
use Rattle.ig_lexical.proofs.Traversal.{Throughout}

-- the head of a symbol stays
module _ (own : Symbol → Symbol) where
  pub label_within : (x : Symbol) → MayHaveLabel x → MayHaveLabel (within own x)
  label_within (Label name x) m = m
  label_within x m = m

  pub mark_within : (x : Symbol) → MayHaveMark x → MayHaveMark (within own x)
  mark_within (Label name x) m = m
  mark_within x m = m

  pub filters_within : (x : Symbol) → MayHaveFilters x → MayHaveFilters (within own x)
  filters_within (Label name x) m = m
  filters_within x m = m

  pub sign_within : (x : Symbol) → MayHaveSign x → MayHaveSign (within own x)
  sign_within (Label name x) m = m
  sign_within x m = m

  pub separated_within : (x : Symbol) → MayBeSeparated x → MayBeSeparated (within own x)
  separated_within (Label name x) m = m
  separated_within x m = m

  pub entry_within : (x : Symbol) → MayHaveEntry x → MayHaveEntry (within own x)
  entry_within (Opt x) m = m
  entry_within x m = m

  module _ (names : (x : Symbol) → bound_names (own x) ≡ bound_names x) where
    mutual
      pub names_within : (x : Symbol) → bound_names (within own x) ≡ bound_names x
      names_within (Label name x) = ap (λ ns. ns ++ name ∷ []) (names_within x)
      names_within (Offside x) = names_within x
      names_within (Ignore x) = names_within x
      names_within (Align x) = names_within x
      names_within (Filtered x fs) = names_within x
      names_within (Seq xs) = names_rewritten xs
      names_within x = refl

      names_rewritten : (xs : Symbols) → names_bound_by (rewritten_symbols own xs) ≡ names_bound_by xs
      names_rewritten no_symbols = refl
      names_rewritten (next_symbol x xs) = rw (names (within own x) ∙ names_within x, names_rewritten xs) refl

    binds_nothing : (x : Symbol) → bound_names x ≡ [] → bound_names (rewritten own x) ≡ []
    binds_nothing x none = names (within own x) ∙ names_within x ∙ none

    module _ (signs : (x : Symbol) → MayHaveSign x → MayHaveSign (own x))
        (separates : (x : Symbol) → Throughout IsPlaced x → MayBeSeparated x → MayBeSeparated (rewritten own x)) where
      pub placed_within : (x : Symbol) → Throughout IsPlaced x → IsPlaced (within own x)
      placed_within (Literal word) q = q
      placed_within (OneOf class) q = q
      placed_within (Call name es) q = q
      placed_within (Guard e) q = q
      placed_within (Let name e) q = q
      placed_within (Label name x) q = (q.0.0, label_within x q.0.1)
      placed_within (Opt x) q = (q.0.0, (signs (within own x) (sign_within x q.0.1.0), binds_nothing x q.0.1.1))
      placed_within (Star x) q = (q.0.0, (signs (within own x) (sign_within x q.0.1.0), binds_nothing x q.0.1.1))
      placed_within (Plus x) q = (q.0.0, (signs (within own x) (sign_within x q.0.1.0), binds_nothing x q.0.1.1))
      placed_within (SepStar x s) q =
          (q.0.0, (separates x q.1 q.0.1.0, separates s q.2 q.0.1.1, binds_nothing x q.0.1.2, binds_nothing s q.0.1.3))
      placed_within (SepPlus x s) q =
          (q.0.0, (separates x q.1 q.0.1.0, separates s q.2 q.0.1.1, binds_nothing x q.0.1.2, binds_nothing s q.0.1.3))
      placed_within (Group xs) q = q.0
      placed_within (Offside x) q = (q.0.0, mark_within x q.0.1)
      placed_within (Ignore x) q = (q.0.0, mark_within x q.0.1)
      placed_within (Align x) q = (q.0.0, mark_within x q.0.1)
      placed_within (Filtered x fs) q = (q.0.0, filters_within x q.0.1)
      placed_within (Seq xs) q = q.0
      placed_within (Entry bs x) q = (q.0.0, entry_within x q.0.1)

  module _ (wants : (n : List ℕ) (x : Symbol) → needs n (own x) ≡ needs n x) where
    through : (n : List ℕ) (x : Symbol) → needs n (within own x) ≡ needs n x → needs n (rewritten own x) ≡ needs n x
    through n x e = wants n (within own x) ∙ e

    mutual
      pub needs_within : (n : List ℕ) (x : Symbol) → needs n (within own x) ≡ needs n x
      needs_within n (Literal word) = refl
      needs_within n (OneOf class) = refl
      needs_within n (Call name es) = refl
      needs_within n (Guard e) = refl
      needs_within n (Let name e) = refl
      needs_within n (Label name x) = needs_within n x
      needs_within n (Opt x) = ap (λ b. is_pair n || b) (through n x (needs_within n x))
      needs_within n (Star x) = ap (λ b. is_pair n || b) (through n x (needs_within n x))
      needs_within n (Plus x) = ap (λ b. is_pair n || b) (through n x (needs_within n x))
      needs_within n (SepStar x s) = rw (through n x (needs_within n x), through n s (needs_within n s)) refl
      needs_within n (SepPlus x s) = rw (through n x (needs_within n x), through n s (needs_within n s)) refl
      needs_within n (Group xs) = ap (λ b. is_pair n || b) (choices_want n xs)
      needs_within n (Offside x) = needs_within n x
      needs_within n (Ignore x) = needs_within n x
      needs_within n (Align x) = needs_within n x
      needs_within n (Filtered x fs) = needs_within n x
      needs_within n (Seq xs) = symbols_want n xs
      needs_within n (Entry bs x) = ap (λ b. bindings_use n bs || (not (is_bound n bs) && b)) (needs_within n x)

      symbols_want : (n : List ℕ) (xs : Symbols) → symbols_need n (rewritten_symbols own xs) ≡ symbols_need n xs
      symbols_want n no_symbols = refl
      symbols_want n (next_symbol x xs) = rw (through n x (needs_within n x), symbols_want n xs) refl

      choices_want : (n : List ℕ) (xs : Alternatives) → alternatives_need n (rewritten_choices own xs) ≡ alternatives_need n xs
      choices_want n no_alternatives = refl
      choices_want n (next_alternative xs others) = rw (symbols_want n xs, choices_want n others) refl

    pub entered_within : (x : Symbol) → Throughout IsEntered x → IsEntered (within own x)
    entered_within (Entry bs x) q = subst (λ wanted. AreWanted wanted bs) (λ i n. sym (needs_within n x) i) q.0
    entered_within x q = tt
