-- What is asked of each symbol beside that it is well scoped, by the forms of symbols.
use Rattle.std.proofs.Common.{◌≡◌, ℕ, zero, suc, List, [], ◌∷◌, ◌++◌, refl, subst, Some}
use Rattle.std.specs.Prelude.{All, slice_get}
use Rattle.std.proofs.lemmas.Option.{same_Some}
use Rattle.std.proofs.lemmas.List.Elements.{All-nil, All-cons, All-head, All-tail}
use Rattle.ig_text.proofs.Lists.{both_empty, halves}
use Rattle.ig_grammar.specs.Symbol.{Symbol, Literal, OneOf, Call, Label, Guard, Let, Opt, Star, Plus, SepStar}
use Rattle.ig_grammar.specs.Symbol.{SepPlus, Group, Offside, Ignore, Align}
use Rattle.ig_grammar.specs.Symbol.{Filtered, Seq, Entry, Symbols, no_symbols, next_symbol, Alternatives}
use Rattle.ig_grammar.specs.Symbol.{no_alternatives, next_alternative, gathered}
use Rattle.ig_grammar.specs.Alternative.{gathered_alternatives}
use Rattle.ig_grammar.specs.Regular.{IsPlaced, IsNoMark, MayHaveLabel, MayHaveFilters, MayHaveEntry}
use Rattle.ig_grammar.specs.Subterms.{subterms, subterms_of_symbols, subterms_of_alternatives, bound_names}
use Rattle.ig_grammar.specs.Subterms.{names_bound_by}
use Rattle.ig_grammar.specs.Visible.{Visible, binds, all_bind}
use Rattle.ig_grammar.specs.declared.symbol.Alt.{Alt}
use Rattle.ig_pass.specs.Needs.{needs, AreWanted, IsEntered}
use Rattle.ig_pass.specs.Remaining.{IsExclusion}
use Rattle.ig_pass.specs.Sound.{ExcludesOnly}

-- what is known of each symbol
pub record IsFit (x : Symbol) : Type 0 where
  pub placed : IsPlaced x
  pub bare : IsNoMark x
  pub entered : IsEntered x
  pub excluding : ExcludesOnly x

-- labels, filters and entries stand where they may, no mark is left, separators bind nothing, the bindings of entries
-- are wanted inside, and of filters only exclusions are left
abbrev mutual
  pub Clear : Symbol → Type 0
  Clear (Label name x) = MayHaveLabel x × Clear x
  Clear (Opt x) = Clear x
  Clear (Star x) = Clear x
  Clear (Plus x) = Clear x
  Clear (SepStar x separator) = Clear x × Clear separator × (bound_names separator ≡ [])
  Clear (SepPlus x separator) = Clear x × Clear separator × (bound_names separator ≡ [])
  Clear (Group choices) = AlternativesClear choices
  Clear (Offside x) = ⊥
  Clear (Ignore x) = ⊥
  Clear (Align x) = ⊥
  Clear (Filtered x filters) = MayHaveFilters x × All IsExclusion filters × Clear x
  Clear (Seq xs) = SymbolsClear xs
  Clear (Entry bindings x) = MayHaveEntry x × AreWanted (λ n. needs n x) bindings × Clear x
  Clear x = Unit {0}

  pub SymbolsClear : Symbols → Type 0
  SymbolsClear no_symbols = Unit {0}
  SymbolsClear (next_symbol x xs) = Clear x × SymbolsClear xs

  pub AlternativesClear : Alternatives → Type 0
  AlternativesClear no_alternatives = Unit {0}
  AlternativesClear (next_alternative xs others) = SymbolsClear xs × AlternativesClear others

mutual
  clear : (x : Symbol) → All IsFit (subterms x) → Clear x
  clear (Literal w) h = tt
  clear (OneOf w) h = tt
  clear (Call m es) h = tt
  clear (Guard e) h = tt
  clear (Let m e) h = tt
  clear (Label m x) h =
      ((All-head IsFit (Label m x) (subterms x) h).placed.1, clear x (All-tail IsFit (Label m x) (subterms x) h))
  clear (Opt x) h = clear x (All-tail IsFit (Opt x) (subterms x) h)
  clear (Star x) h = clear x (All-tail IsFit (Star x) (subterms x) h)
  clear (Plus x) h = clear x (All-tail IsFit (Plus x) (subterms x) h)
  clear (SepStar x s) h =
      let parts =
      halves IsFit (subterms x) (subterms s) (All-tail IsFit (SepStar x s) (subterms x ++ subterms s) h) in
      (clear x parts.0, clear s parts.1, (All-head IsFit (SepStar x s) (subterms x ++ subterms s) h).placed.1.3)
  clear (SepPlus x s) h =
      let parts =
      halves IsFit (subterms x) (subterms s) (All-tail IsFit (SepPlus x s) (subterms x ++ subterms s) h) in
      (clear x parts.0, clear s parts.1, (All-head IsFit (SepPlus x s) (subterms x ++ subterms s) h).placed.1.3)
  clear (Group ys) h = alternatives_clear ys (All-tail IsFit (Group ys) (subterms_of_alternatives ys) h)
  clear (Offside x) h = absurd (All-head IsFit (Offside x) (subterms x) h).bare
  clear (Ignore x) h = absurd (All-head IsFit (Ignore x) (subterms x) h).bare
  clear (Align x) h = absurd (All-head IsFit (Align x) (subterms x) h).bare
  clear (Filtered x fs) h =
      let here = All-head IsFit (Filtered x fs) (subterms x) h in
      (here.placed.1, here.excluding, clear x (All-tail IsFit (Filtered x fs) (subterms x) h))
  clear (Seq xs) h = symbols_clear xs (All-tail IsFit (Seq xs) (subterms_of_symbols xs) h)
  clear (Entry bs x) h =
      let here = All-head IsFit (Entry bs x) (subterms x) h in
      (here.placed.1, here.entered, clear x (All-tail IsFit (Entry bs x) (subterms x) h))

  symbols_clear : (xs : Symbols) → All IsFit (subterms_of_symbols xs) → SymbolsClear xs
  symbols_clear no_symbols h = tt
  symbols_clear (next_symbol x xs) h =
      let parts = halves IsFit (subterms x) (subterms_of_symbols xs) h in
      (clear x parts.0, symbols_clear xs parts.1)

  alternatives_clear : (ys : Alternatives) → All IsFit (subterms_of_alternatives ys) → AlternativesClear ys
  alternatives_clear no_alternatives h = tt
  alternatives_clear (next_alternative xs ys) h =
      let parts = halves IsFit (subterms_of_symbols xs) (subterms_of_alternatives ys) h in
      (symbols_clear xs parts.0, alternatives_clear ys parts.1)

-- each alternative of a level
pub clear_at : (alts : List Alt) (m : ℕ) (a : Alt) →
    All IsFit (subterms_of_alternatives (gathered_alternatives alts)) →
    slice_get alts m ≡ Some a → SymbolsClear (gathered a.symbols)
clear_at [] m a h e = absurd (cc)
clear_at (b ∷ alts) zero a h e =
    let same : b ≡ a = same_Some b a e in
    let parts =
    halves IsFit (subterms_of_symbols (gathered b.symbols))
    (subterms_of_alternatives (gathered_alternatives alts)) h in
    subst (λ (z : Alt). SymbolsClear (gathered z.symbols)) same (symbols_clear (gathered b.symbols) parts.0)
clear_at (b ∷ alts) (suc m) a h e =
    clear_at alts m a
    (halves IsFit (subterms_of_symbols (gathered b.symbols))
    (subterms_of_alternatives (gathered_alternatives alts)) h).1 e

-- a symbol that binds no name binds nothing
more_than_none : {X : Type 0} (xs : List X) (x : X) → xs ++ x ∷ [] ≡ [] → ⊥
more_than_none [] x e = cc
more_than_none (y ∷ xs) x e = cc

mutual
  pub nothing_bound : (x : Symbol) (v : Visible) → bound_names x ≡ [] → binds v x ≡ []
  nothing_bound (Literal w) v e = refl
  nothing_bound (OneOf w) v e = refl
  nothing_bound (Call m es) v e = refl
  nothing_bound (Label m x) v e = absurd (more_than_none (bound_names x) m e)
  nothing_bound (Guard a) v e = refl
  nothing_bound (Let m a) v e = absurd (cc)
  nothing_bound (Opt x) v e = refl
  nothing_bound (Star x) v e = refl
  nothing_bound (Plus x) v e = refl
  nothing_bound (SepStar x s) v e = refl
  nothing_bound (SepPlus x s) v e = refl
  nothing_bound (Group ys) v e = refl
  nothing_bound (Offside x) v e = nothing_bound x v e
  nothing_bound (Ignore x) v e = nothing_bound x v e
  nothing_bound (Align x) v e = nothing_bound x v e
  nothing_bound (Filtered x fs) v e = nothing_bound x v e
  nothing_bound (Seq xs) v e = none_bound xs v e
  nothing_bound (Entry bs x) v e = refl

  none_bound : (xs : Symbols) (v : Visible) → names_bound_by xs ≡ [] → all_bind v xs ≡ []
  none_bound no_symbols v e = refl
  none_bound (next_symbol x xs) v e =
      let parts = both_empty (bound_names x) (names_bound_by xs) e in
      (λ z. nothing_bound x v parts.0 z ++ none_bound xs (v ++ binds v x) parts.1 z)
