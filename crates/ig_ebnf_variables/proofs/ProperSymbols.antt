-- Symbols that are well scoped and clear are proper.
use Rattle.std.proofs.Common.{◌≡◌, ℕ, suc, Bool, List, [], ◌∷◌, ◌++◌, map, Some, refl, ap, arith, false}
use Rattle.std.specs.Prelude.{Contains}
use Rattle.ig_expr.specs.Expression.{Expression}
use Rattle.ig_expr.specs.declared.kind.Kind.{Kind}
use Rattle.ig_grammar.specs.Binding.{Binding}
use Rattle.ig_grammar.specs.Symbol.{Symbol, Literal, OneOf, Call, Label, Guard, Let, Opt, Star, Plus, SepStar}
use Rattle.ig_grammar.specs.Symbol.{SepPlus, Group, Offside, Ignore, Align}
use Rattle.ig_grammar.specs.Symbol.{Filtered, Seq, Entry, Symbols, no_symbols, next_symbol, Alternatives}
use Rattle.ig_grammar.specs.Symbol.{no_alternatives, next_alternative}
use Rattle.ig_grammar.specs.Regular.{MayHaveLabel, MayHaveFilters, MayHaveEntry}
use Rattle.ig_grammar.specs.Visible.{Visible, at, binds, replaced, kind_at, inside, inside_sequence, inside_choices}
use Rattle.ig_grammar.specs.declared.declaration.DeclKind.{DeclKind}
use Rattle.ig_grammar.specs.declared.grammar.Grammar.{Grammar}
use Rattle.ig_pass.specs.Needs.{needs, AreWanted}
use Rattle.ig_ebnf_variables.proofs.Definitions.{has, Proper, SymbolsProper, AlternativesProper, IsSingle, IsForm, BindingsFit}
use Rattle.ig_ebnf_variables.proofs.ClearSymbols.{Clear, SymbolsClear, AlternativesClear, nothing_bound}
use Rattle.ig_ebnf_variables.proofs.Occurrences.{Calm, OfAll, of_first, of_second}

pub may_label : (x : Symbol) → MayHaveLabel x → IsSingle x
may_label (Literal w) h = tt
may_label (OneOf w) h = tt
may_label (Call m es) h = tt
may_label (Label m x) h = tt
may_label (Guard e) h = tt
may_label (Let m e) h = tt
may_label (Opt x) h = tt
may_label (Star x) h = tt
may_label (Plus x) h = tt
may_label (SepStar x s) h = tt
may_label (SepPlus x s) h = tt
may_label (Group ys) h = tt
may_label (Offside x) h = tt
may_label (Ignore x) h = tt
may_label (Align x) h = tt
may_label (Filtered x fs) h = tt
may_label (Seq xs) h = absurd h
may_label (Entry bs x) h = tt

pub may_filters : (x : Symbol) → MayHaveFilters x → IsSingle x
may_filters (Literal w) h = tt
may_filters (OneOf w) h = tt
may_filters (Call m es) h = tt
may_filters (Label m x) h = tt
may_filters (Guard e) h = tt
may_filters (Let m e) h = tt
may_filters (Opt x) h = tt
may_filters (Star x) h = tt
may_filters (Plus x) h = tt
may_filters (SepStar x s) h = tt
may_filters (SepPlus x s) h = tt
may_filters (Group ys) h = tt
may_filters (Offside x) h = tt
may_filters (Ignore x) h = tt
may_filters (Align x) h = tt
may_filters (Filtered x fs) h = tt
may_filters (Seq xs) h = absurd h
may_filters (Entry bs x) h = tt

may_entry : (x : Symbol) → MayHaveEntry x → IsForm x
may_entry (Literal w) h = absurd h
may_entry (OneOf w) h = absurd h
may_entry (Call m es) h = absurd h
may_entry (Label m x) h = absurd h
may_entry (Guard e) h = absurd h
may_entry (Let m e) h = absurd h
may_entry (Opt x) h = tt
may_entry (Star x) h = tt
may_entry (Plus x) h = tt
may_entry (SepStar x s) h = tt
may_entry (SepPlus x s) h = tt
may_entry (Group ys) h = tt
may_entry (Offside x) h = absurd h
may_entry (Ignore x) h = absurd h
may_entry (Align x) h = absurd h
may_entry (Filtered x fs) h = absurd h
may_entry (Seq xs) h = absurd h
may_entry (Entry bs x) h = absurd h

-- what is known of each occurrence, and which names may be called
module _ (g : Grammar) (within : DeclKind) (N : Visible → Symbol → Type 0)
    (fine : (v : Visible) (x : Symbol) → N v x → Calm g within v x)
    (May : List ℕ → Type 0)
    (called : (v : Visible) (name : List ℕ) (es : List Expression) → N v (Call name es) → May name) where
  fitting : (v : Visible) (wanted : List ℕ → Bool) (bs : List Binding) →
      ((e : Expression) → Contains (map (λ b. b.value) bs) e → (k : Kind) × (kind_at v e ≡ Some k)) →
      AreWanted wanted bs → BindingsFit v wanted bs
  fitting v wanted [] kind h = tt
  fitting v wanted (b ∷ bs) kind h = (
    kind b.value (0, omega arith, refl),
    h.0,
    h.1,
    fitting v wanted bs (λ e among. kind e (let p = among.1 in (suc among.0, omega (arith, p), among.2))) h.2,
  )

  apart : (v : Visible) (s : Symbol) → binds v s ≡ [] → (n : List ℕ) → has (binds v s) n ≡ false
  apart v s e n = ap (λ z. has z n) e

  mutual
    proper : (x : Symbol) (v : Visible) → N v x → OfAll N (inside v x) → Clear x → Proper May v x
    proper (Literal w) v calm all clear = tt
    proper (OneOf w) v calm all clear = tt
    proper (Call m es) v calm all clear = called v m es calm
    proper (Label m x) v calm all clear = (may_label x clear.0, proper x v all.0 all.1 clear.1)
    proper (Guard e) v calm all clear = tt
    proper (Let m e) v calm all clear = (fine v (Let m e) calm).1
    proper (Opt x) v calm all clear = proper x v all.0 all.1 clear
    proper (Star x) v calm all clear = proper x v all.0 all.1 clear
    proper (Plus x) v calm all clear = proper x v all.0 all.1 clear
    proper (SepStar x s) v calm all clear =
        let first = of_first N (at v x ∷ inside v x) (at v s ∷ inside v s) all in
        let second = of_second N (at v x ∷ inside v x) (at v s ∷ inside v s) all in (
          proper x v first.0 first.1 clear.0,
          proper s v second.0 second.1 clear.1,
          λ n u. apart v s (nothing_bound s v clear.2) n,
        )
    proper (SepPlus x s) v calm all clear =
        let first = of_first N (at v x ∷ inside v x) (at v s ∷ inside v s) all in
        let second = of_second N (at v x ∷ inside v x) (at v s ∷ inside v s) all in (
          proper x v first.0 first.1 clear.0,
          proper s v second.0 second.1 clear.1,
          λ n u. apart v s (nothing_bound s v clear.2) n,
        )
    proper (Group ys) v calm all clear = alternatives_proper ys v all clear
    proper (Offside x) v calm all clear = absurd clear
    proper (Ignore x) v calm all clear = absurd clear
    proper (Align x) v calm all clear = absurd clear
    proper (Filtered x fs) v calm all clear = (may_filters x clear.0, proper x v all.0 all.1 clear.2)
    proper (Seq xs) v calm all clear = symbols_proper xs v all clear
    proper (Entry bs x) v calm all clear = (
      may_entry x clear.0,
      fitting v (λ n. needs n x) bs (fine v (Entry bs x) calm) clear.1,
      proper x (replaced v v bs) all.0 all.1 clear.2,
    )

    pub symbols_proper : (xs : Symbols) (v : Visible) → OfAll N (inside_sequence v xs) → SymbolsClear xs →
        SymbolsProper May v xs
    symbols_proper no_symbols v all clear = tt
    symbols_proper (next_symbol x xs) v all clear =
        let first = of_first N (at v x ∷ inside v x) (inside_sequence (v ++ binds v x) xs) all in (
          proper x v first.0 first.1 clear.0,
          symbols_proper xs (v ++ binds v x)
              (of_second N (at v x ∷ inside v x) (inside_sequence (v ++ binds v x) xs) all) clear.1,
        )

    alternatives_proper : (ys : Alternatives) (v : Visible) → OfAll N (inside_choices v ys) → AlternativesClear ys →
        AlternativesProper May v ys
    alternatives_proper no_alternatives v all clear = tt
    alternatives_proper (next_alternative xs ys) v all clear = (
      symbols_proper xs v (of_first N (inside_sequence v xs) (inside_choices v ys) all) clear.0,
      alternatives_proper ys v (of_second N (inside_sequence v xs) (inside_choices v ys) all) clear.1,
    )
