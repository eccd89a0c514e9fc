-- What the layout pass's own rule keeps: symbols stand well, want the same variables, and have no mark.
use Rattle.std.proofs.Common.{◌≡◌, ℕ, List, [], ◌∷◌, ◌++◌, Option, Some, None, Bool, true, false, refl, sym, ap, subst}
use Rattle.std.specs.Prelude.{not, ◌&&◌, ◌||◌, if◌then◌else◌}
use Rattle.std.proofs.lemmas.List.{append-nil}
use Rattle.std.proofs.lemmas.List.Elements.{All-nil}
use Rattle.std.proofs.Math.Bool.{or-false}
use Rattle.ig_text.specs.Pattern.{HasNoEmptyLiteral}
use Rattle.ig_grammar.specs.Binding.{Binding}
use Rattle.ig_grammar.specs.declared.filter.Filter.{Filter}
use Rattle.ig_grammar.specs.Symbol.{Symbol, Call, Offside, Ignore, Align, Opt, Star, Plus, SepStar, SepPlus, Group, Label, Filtered, Seq, Entry, no_symbols, next_symbol}
use Rattle.ig_grammar.specs.Symbol.{Alternatives}
use Rattle.ig_grammar.specs.Regular.{IsPlaced, IsNoMark, MayHaveLabel, MayHaveFilters, MayHaveSign, MayBeSeparated, MayHaveEntry, AlternativesStandWell, AlternativesHaveNoMark}
use Rattle.ig_grammar.specs.Subterms.{bound_names}
use Rattle.ig_grammar.specs.declared.declaration.DeclKind.{DeclKind}
use Rattle.ig_grammar.specs.declared.declaration.DeclKind.TheVariants.{Syntax, Lexical, Layout, Plain}
use Rattle.ig_grammar.specs.declared.declaration.Decl.{Decl}
use Rattle.ig_pass.specs.Needs.{needs, bindings_use, is_bound, AreWanted, IsEntered, AlternativesAreEntered}
use Rattle.ig_pass.specs.Rewriting.{within, rewritten, rewritten_choices}
use Rattle.ig_lexical.specs.Layout.{is_token, then_layout, laid_inside, laid, laid_in}
use Rattle.ig_lexical.proofs.Traversal.{Throughout}
use Rattle.ig_lexical.proofs.Everywhere.{choices_kept}
use Rattle.ig_lexical.proofs.StandingWell.{separated_within, placed_within, entered_within}

module _ (decls : List Decl) (w : List ℕ) where
  -- what holds of both results holds of the rule's
  chosen : (P : Symbol → Type 0) (x : Symbol) → P (then_layout w x) → P (laid_inside decls w x) → P (laid decls w x)
  chosen P x p q = go (is_token decls x)
    where
      go : (b : Bool) → P (if b then then_layout w x else laid_inside decls w x)
      go true = p
      go false = q

  label_inside : (x : Symbol) → MayHaveLabel x → MayHaveLabel (laid_inside decls w x)
  label_inside (Label name x) m = m
  label_inside (Filtered x fs) m = tt
  label_inside (Entry bs x) m = tt
  label_inside x m = m

  filters_inside : (x : Symbol) → MayHaveFilters x → MayHaveFilters (laid_inside decls w x)
  filters_inside (Label name x) m = m
  filters_inside (Filtered x fs) m = m
  filters_inside (Entry bs x) m = tt
  filters_inside x m = m

  sign_inside : (x : Symbol) → MayHaveSign x → MayHaveSign (laid_inside decls w x)
  sign_inside (Label name x) m = m
  sign_inside (Filtered x fs) m = m
  sign_inside (Entry bs x) m = tt
  sign_inside x m = m

  separated_inside : (x : Symbol) → MayBeSeparated x → MayBeSeparated (laid_inside decls w x)
  separated_inside (Label name x) m = m
  separated_inside (Filtered x fs) m = tt
  separated_inside (Entry bs x) m = tt
  separated_inside x m = m

  entry_laid : (x : Symbol) → MayHaveEntry x → MayHaveEntry (laid decls w x)
  entry_laid (Opt x) m = tt
  entry_laid (Star x) m = tt
  entry_laid (Plus x) m = tt
  entry_laid (SepStar x s) m = tt
  entry_laid (SepPlus x s) m = tt
  entry_laid (Group xs) m = tt
  entry_laid x m = absurd m

  sign_laid : (x : Symbol) → MayHaveSign x → MayHaveSign (laid decls w x)
  sign_laid x m = chosen MayHaveSign x tt (sign_inside x m)

  separated_laid : (x : Symbol) → Throughout IsPlaced x → MayBeSeparated x → MayBeSeparated (rewritten (laid decls w) x)
  separated_laid x q m =
      let n = separated_within (laid decls w) x m in chosen MayBeSeparated (within (laid decls w) x) tt (separated_inside (within (laid decls w) x) n)

  names_inside : (x : Symbol) → bound_names (laid_inside decls w x) ≡ bound_names x
  names_inside (Label name x) = ap (λ ns. ns ++ name ∷ []) (names_inside x)
  names_inside (Filtered x fs) = names_inside x
  names_inside (Entry bs x) = refl
  names_inside x = refl

  names_laid : (x : Symbol) → bound_names (laid decls w x) ≡ bound_names x
  names_laid x = chosen (λ y. bound_names y ≡ bound_names x) x (append-nil (bound_names x)) (names_inside x)

  wants_chosen : (n : List ℕ) (x : Symbol) → needs n (laid_inside decls w x) ≡ needs n x → needs n (laid decls w x) ≡ needs n x
  wants_chosen n x e = chosen (λ y. needs n y ≡ needs n x) x (or-false (needs n x)) e

  wants_inside : (n : List ℕ) (x : Symbol) → needs n (laid_inside decls w x) ≡ needs n x
  wants_inside n (Label name x) = wants_inside n x
  wants_inside n (Filtered x fs) = wants_inside n x
  wants_inside n (Entry bs x) = ap (λ b. bindings_use n bs || (not (is_bound n bs) && b)) (wants_chosen n x (wants_inside n x))
  wants_inside n x = refl

  wants_laid : (n : List ℕ) (x : Symbol) → needs n (laid decls w x) ≡ needs n x
  wants_laid n x = wants_chosen n x (wants_inside n x)

  -- of each symbol
  module _ (N : Symbol → Type 0) (sequences : (x : Symbol) → N (Seq (next_symbol x (next_symbol (Call w []) no_symbols)))) (calls : N (Call w []))
      (labels : (name : List ℕ) (x : Symbol) → N (Label name x) → N (Label name (laid_inside decls w x)))
      (filters : (x : Symbol) (fs : List Filter) → N (Filtered x fs) → N (Filtered (laid_inside decls w x) fs))
      (entries : (bs : List Binding) (x : Symbol) → N (Entry bs x) → N (Entry bs (laid decls w x))) where
    chosen_holds : (x : Symbol) → Throughout N x → Throughout N (laid_inside decls w x) → Throughout N (laid decls w x)
    chosen_holds x q r = chosen (Throughout N) x (sequences x, (q, (calls, tt))) r

    inside_holds : (x : Symbol) → Throughout N x → Throughout N (laid_inside decls w x)
    inside_holds (Label name x) q = (labels name x q.0, inside_holds x q.1)
    inside_holds (Filtered x fs) q = (filters x fs q.0, inside_holds x q.1)
    inside_holds (Entry bs x) q = (entries bs x q.0, chosen_holds x q.1 (inside_holds x q.1))
    inside_holds x q = q

    laid_holds : (x : Symbol) → Throughout N x → Throughout N (laid decls w x)
    laid_holds x q = chosen_holds x q (inside_holds x q)

  well : (x : Symbol) → Throughout IsPlaced x → Throughout IsPlaced (laid decls w x)
  well =
      laid_holds IsPlaced (λ x. (All-nil HasNoEmptyLiteral, tt)) (All-nil HasNoEmptyLiteral, tt) (λ name x p. (p.0, label_inside x p.1))
      (λ x fs p. (p.0, filters_inside x p.1)) (λ bs x p. (p.0, entry_laid x p.1))

  unmarked : (x : Symbol) → Throughout IsNoMark x → Throughout IsNoMark (laid decls w x)
  unmarked = laid_holds IsNoMark (λ x. tt) tt (λ name x p. tt) (λ x fs p. tt) (λ bs x p. tt)

  entered : (x : Symbol) → Throughout IsEntered x → Throughout IsEntered (laid decls w x)
  entered =
      laid_holds IsEntered (λ x. tt) tt (λ name x p. tt) (λ x fs p. tt)
      (λ bs x p. subst (λ wanted. AreWanted wanted bs) (λ i n. sym (wants_laid n x) i) p)

pub unmarked_head : (own : Symbol → Symbol) (x : Symbol) → Throughout IsNoMark x → IsNoMark (within own x)
unmarked_head own (Offside x) q = q.0
unmarked_head own (Ignore x) q = q.0
unmarked_head own (Align x) q = q.0
unmarked_head own x q = tt

same_separated : (x : Symbol) → Throughout IsPlaced x → MayBeSeparated x → MayBeSeparated (rewritten (λ y. y) x)
same_separated x q m = separated_within (λ y. y) x m

-- in the alternatives of a declaration, by its kind
module _ (decls : List Decl) where
  same_well : (xs : Alternatives) → AlternativesStandWell xs → AlternativesStandWell (rewritten_choices (λ y. y) xs)
  same_well = choices_kept (λ y. y) IsPlaced IsPlaced (placed_within (λ y. y) (λ x. refl) (λ x m. m) same_separated) (λ x q. q)

  same_entered : (xs : Alternatives) → AlternativesAreEntered xs → AlternativesAreEntered (rewritten_choices (λ y. y) xs)
  same_entered = choices_kept (λ y. y) IsEntered IsEntered (entered_within (λ y. y) (λ n x. refl)) (λ x q. q)

  same_unmarked : (xs : Alternatives) → AlternativesHaveNoMark xs → AlternativesHaveNoMark (rewritten_choices (λ y. y) xs)
  same_unmarked = choices_kept (λ y. y) IsNoMark IsNoMark (unmarked_head (λ y. y)) (λ x q. q)

  pub well_in : (o : Option (List ℕ)) (kind : DeclKind) (xs : Alternatives) → AlternativesStandWell xs → AlternativesStandWell (rewritten_choices (laid_in o decls kind) xs)
  well_in (Some w) Syntax =
      choices_kept (laid decls w) IsPlaced IsPlaced
      (placed_within (laid decls w) (names_laid decls w) (sign_laid decls w) (separated_laid decls w)) (well decls w)
  well_in (Some w) Lexical = same_well
  well_in (Some w) Layout = same_well
  well_in (Some w) Plain = same_well
  well_in None kind = same_well

  pub entered_in : (o : Option (List ℕ)) (kind : DeclKind) (xs : Alternatives) → AlternativesAreEntered xs → AlternativesAreEntered (rewritten_choices (laid_in o decls kind) xs)
  entered_in (Some w) Syntax = choices_kept (laid decls w) IsEntered IsEntered (entered_within (laid decls w) (wants_laid decls w)) (entered decls w)
  entered_in (Some w) Lexical = same_entered
  entered_in (Some w) Layout = same_entered
  entered_in (Some w) Plain = same_entered
  entered_in None kind = same_entered

  pub unmarked_in : (o : Option (List ℕ)) (kind : DeclKind) (xs : Alternatives) → AlternativesHaveNoMark xs → AlternativesHaveNoMark (rewritten_choices (laid_in o decls kind) xs)
  unmarked_in (Some w) Syntax = choices_kept (laid decls w) IsNoMark IsNoMark (unmarked_head (laid decls w)) (unmarked decls w)
  unmarked_in (Some w) Lexical = same_unmarked
  unmarked_in (Some w) Layout = same_unmarked
  unmarked_in (Some w) Plain = same_unmarked
  unmarked_in None kind = same_unmarked
