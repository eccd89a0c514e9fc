-- Of what is lowered only the forms that remain are left.
use Rattle.std.proofs.Common.{◌≡◌, ℕ, suc, ◌+◌, List, [], ◌∷◌, ◌++◌, zero, sym, ◌∙◌, ap, subst, Some}
use Rattle.std.specs.Prelude.{slice_get}
use Rattle.std.proofs.lemmas.Option.{same_Some}
use Rattle.std.proofs.lemmas.List.{map-append, append-nil}
use Rattle.ig_grammar.specs.Numbering.{alternatives}
use Rattle.ig_meaning.specs.Laws.{HasNoOperators}
use Rattle.ig_grammar.specs.Symbol.{Symbol, Literal, OneOf, Call, Label, Guard, Let, Opt, Star, Plus, SepStar}
use Rattle.ig_grammar.specs.Symbol.{SepPlus, Group, Offside, Ignore, Align}
use Rattle.ig_grammar.specs.Symbol.{Filtered, Seq, Entry, Symbols, no_symbols, next_symbol, Alternatives}
use Rattle.ig_grammar.specs.Symbol.{no_alternatives, next_alternative}
use Rattle.ig_grammar.specs.Regular.{MayHaveLabel, MayHaveFilters}
use Rattle.ig_grammar.specs.Visible.{Visible, binds, replaced}
use Rattle.ig_grammar.specs.declared.symbol.Alt.{Alt}
use Rattle.ig_grammar.specs.declared.declaration.Level.{Level}
use Rattle.ig_pass.specs.Added.{added_name}
use Rattle.ig_pass.specs.Remaining.{IsTerm, IsExcluding, Remains}
use Rattle.ig_ebnf_variables.specs.Lists.{Made, count, count_symbols, elements, all_elements, new_symbol, new_element, new}
use Rattle.ig_ebnf_variables.specs.Lists.{new_symbols, new_alternatives, alts_of}
use Rattle.ig_ebnf_variables.specs.Lists.{sep_plus_alternatives, added, added_symbols, added_alternatives}
use Rattle.ig_ebnf_variables.proofs.ClearSymbols.{Clear, SymbolsClear, AlternativesClear}
use Rattle.ig_ebnf_variables.proofs.Definitions.{Proper, SymbolsProper, AlternativesProper, IsSingle}
use Rattle.ig_ebnf_variables.proofs.OfAdded.{OfAdded, of_added_both}

module _ (May : List ℕ → Type 0) where
  abbrev pub Calls : List ℕ → ℕ → Type 0
  Calls name n = May name

  abbrev pub AllRemain : List Symbol → Type 0
  AllRemain [] = Unit {0}
  AllRemain (x ∷ xs) = Remains Calls x × AllRemain xs

  abbrev pub AltsRemain : List Alt → Type 0
  AltsRemain [] = Unit {0}
  AltsRemain (a ∷ alts) = AllRemain a.symbols × AltsRemain alts

  abbrev pub LevelsRemain : List Level → Type 0
  LevelsRemain [] = Unit {0}
  LevelsRemain (level ∷ levels) = AltsRemain level.alts × LevelsRemain levels

  abbrev pub MadeRemains : Made → Type 0
  MadeRemains m = LevelsRemain m.decl.levels

  -- at a place
  alts_remain_at : (alts : List Alt) → AltsRemain alts → (m : ℕ) (a : Alt) → slice_get alts m ≡ Some a →
      AllRemain a.symbols
  alts_remain_at [] h m a e = absurd (cc)
  alts_remain_at (x ∷ alts) h zero a e = subst (λ (z : Alt). AllRemain z.symbols) (same_Some x a e) h.0
  alts_remain_at (x ∷ alts) h (suc m) a e = alts_remain_at alts h.1 m a e

  pub levels_remain_at : (levels : List Level) → HasNoOperators levels → LevelsRemain levels → (m : ℕ) (a : Alt) →
      slice_get (alternatives levels) m ≡ Some a → AllRemain a.symbols
  levels_remain_at [] free h m a e = absurd (cc)
  levels_remain_at (level ∷ []) free h m a e =
      alts_remain_at level.alts h.0 m a (ap (λ z. slice_get z m) (sym (append-nil level.alts)) ∙ e)
  levels_remain_at (level ∷ next ∷ others) free h m a e = absurd free

  both_remain : (xs ys : List Symbol) → AllRemain xs → AllRemain ys → AllRemain (xs ++ ys)
  both_remain [] ys h i = i
  both_remain (x ∷ xs) ys h i = (h.0, both_remain xs ys h.1 i)

-- each name that is called is one that may be called, as the added ones
module _ (May : List ℕ → Type 0) (of : List ℕ) (added_may : (k : ℕ) → May (added_name of k)) where
  term : (x : Symbol) (v : Visible) (k : ℕ) → MayHaveFilters x → Proper May v x → Clear x →
      IsTerm (Calls May) (new_symbol of v k x)
  term (Literal w) v k h p clear = tt
  term (OneOf w) v k h p clear = tt
  term (Call m es) v k h p clear = p
  term (Label m x) v k h p clear = absurd h
  term (Guard e) v k h p clear = absurd h
  term (Let m e) v k h p clear = absurd h
  term (Opt x) v k h p clear = added_may k
  term (Star x) v k h p clear = added_may k
  term (Plus x) v k h p clear = added_may k
  term (SepStar x s) v k h p clear = added_may k
  term (SepPlus x s) v k h p clear = added_may k
  term (Group ys) v k h p clear = added_may k
  term (Offside x) v k h p clear = absurd h
  term (Ignore x) v k h p clear = absurd h
  term (Align x) v k h p clear = absurd h
  term (Filtered x fs) v k h p clear = absurd h
  term (Seq xs) v k h p clear = absurd h
  term (Entry bs x) v k h p clear = added_may k

  excluding : (x : Symbol) (v : Visible) (k : ℕ) → MayHaveLabel x → Proper May v x → Clear x →
      IsExcluding (Calls May) (new_symbol of v k x)
  excluding (Literal w) v k h p clear = tt
  excluding (OneOf w) v k h p clear = tt
  excluding (Call m es) v k h p clear = p
  excluding (Label m x) v k h p clear = absurd h
  excluding (Guard e) v k h p clear = absurd h
  excluding (Let m e) v k h p clear = absurd h
  excluding (Opt x) v k h p clear = added_may k
  excluding (Star x) v k h p clear = added_may k
  excluding (Plus x) v k h p clear = added_may k
  excluding (SepStar x s) v k h p clear = added_may k
  excluding (SepPlus x s) v k h p clear = added_may k
  excluding (Group ys) v k h p clear = added_may k
  excluding (Offside x) v k h p clear = absurd clear
  excluding (Ignore x) v k h p clear = absurd clear
  excluding (Align x) v k h p clear = absurd clear
  excluding (Filtered x fs) v k h p clear = (clear.1, term x v k clear.0 p.1 clear.2)
  excluding (Seq xs) v k h p clear = absurd h
  excluding (Entry bs x) v k h p clear = added_may k

  remains : (x : Symbol) (v : Visible) (k : ℕ) → IsSingle x → Proper May v x → Clear x →
      Remains (Calls May) (new_symbol of v k x)
  remains (Literal w) v k h p clear = tt
  remains (OneOf w) v k h p clear = tt
  remains (Call m es) v k h p clear = p
  remains (Label m x) v k h p clear = excluding x v k clear.0 p.1 clear.1
  remains (Guard e) v k h p clear = tt
  remains (Let m e) v k h p clear = tt
  remains (Opt x) v k h p clear = added_may k
  remains (Star x) v k h p clear = added_may k
  remains (Plus x) v k h p clear = added_may k
  remains (SepStar x s) v k h p clear = added_may k
  remains (SepPlus x s) v k h p clear = added_may k
  remains (Group ys) v k h p clear = added_may k
  remains (Offside x) v k h p clear = absurd clear
  remains (Ignore x) v k h p clear = absurd clear
  remains (Align x) v k h p clear = absurd clear
  remains (Filtered x fs) v k h p clear = (clear.1, term x v k clear.0 p.1 clear.2)
  remains (Seq xs) v k h p clear = absurd h
  remains (Entry bs x) v k h p clear = added_may k

  mutual
    new_remain : (x : Symbol) (v : Visible) (k : ℕ) → Proper May v x → Clear x → AllRemain May (new of v k x)
    new_remain (Literal w) v k p clear = (remains (Literal w) v k tt p clear, tt)
    new_remain (OneOf w) v k p clear = (remains (OneOf w) v k tt p clear, tt)
    new_remain (Call m es) v k p clear = (remains (Call m es) v k tt p clear, tt)
    new_remain (Label m x) v k p clear = (remains (Label m x) v k tt p clear, tt)
    new_remain (Guard e) v k p clear = (remains (Guard e) v k tt p clear, tt)
    new_remain (Let m e) v k p clear = (remains (Let m e) v k tt p clear, tt)
    new_remain (Opt x) v k p clear = (remains (Opt x) v k tt p clear, tt)
    new_remain (Star x) v k p clear = (remains (Star x) v k tt p clear, tt)
    new_remain (Plus x) v k p clear = (remains (Plus x) v k tt p clear, tt)
    new_remain (SepStar x s) v k p clear = (remains (SepStar x s) v k tt p clear, tt)
    new_remain (SepPlus x s) v k p clear = (remains (SepPlus x s) v k tt p clear, tt)
    new_remain (Group ys) v k p clear = (remains (Group ys) v k tt p clear, tt)
    new_remain (Offside x) v k p clear = (remains (Offside x) v k tt p clear, tt)
    new_remain (Ignore x) v k p clear = (remains (Ignore x) v k tt p clear, tt)
    new_remain (Align x) v k p clear = (remains (Align x) v k tt p clear, tt)
    new_remain (Filtered x fs) v k p clear = (remains (Filtered x fs) v k tt p clear, tt)
    new_remain (Seq xs) v k p clear = news_remain xs v k p clear
    new_remain (Entry bs x) v k p clear = (remains (Entry bs x) v k tt p clear, tt)

    pub news_remain : (xs : Symbols) (v : Visible) (k : ℕ) → SymbolsProper May v xs → SymbolsClear xs →
        AllRemain May (new_symbols of v k xs)
    news_remain no_symbols v k p clear = tt
    news_remain (next_symbol x xs) v k p clear =
        let u = v ++ binds v x in
        subst (AllRemain May) (sym (map-append (new_element of) (elements v k x) (all_elements u (k + count x) xs)))
        (both_remain May (new of v k x) (new_symbols of u (k + count x) xs) (new_remain x v k p.0 clear.0)
        (news_remain xs u (k + count x) p.1 clear.1))

  plus_remains : (x s : Symbol) (v : Visible) (k : ℕ) → Proper May v (SepPlus x s) → Clear (SepPlus x s) →
      AltsRemain May (alts_of (sep_plus_alternatives of v k x s))
  plus_remains x s v k p clear =
      let item = new_remain x v (suc k) p.0 clear.0 in
      let separator = new_remain s v (suc k + count x) p.1 clear.1 in
      (item, ((added_may k, both_remain May (new of v (suc k + count x) s) (new of v (suc k) x) separator item), tt))

  mutual
    made_remain : (x : Symbol) (v : Visible) (k : ℕ) → Proper May v x → Clear x →
        OfAdded (MadeRemains May) (added of v k x)
    made_remain (Literal w) v k p clear = tt
    made_remain (OneOf w) v k p clear = tt
    made_remain (Call m es) v k p clear = tt
    made_remain (Guard e) v k p clear = tt
    made_remain (Let m e) v k p clear = tt
    made_remain (Label m x) v k p clear = made_remain x v k p.1 clear.1
    made_remain (Filtered x fs) v k p clear = made_remain x v k p.1 clear.2
    made_remain (Offside x) v k p clear = absurd clear
    made_remain (Ignore x) v k p clear = absurd clear
    made_remain (Align x) v k p clear = absurd clear
    made_remain (Seq xs) v k p clear = symbols_remain xs v k p clear
    made_remain (Entry bs x) v k p clear = made_remain x (replaced v v bs) k p.2 clear.2
    made_remain (Opt x) v k p clear =
        (((tt, (new_remain x v (suc k) p clear, tt)), tt), made_remain x v (suc k) p clear)
    made_remain (Star x) v k p clear =
        (((tt, ((added_may k, new_remain x v (suc k) p clear), tt)), tt), made_remain x v (suc k) p clear)
    made_remain (Plus x) v k p clear =
        let item = new_remain x v (suc k) p clear in
        (((item, ((added_may k, item), tt)), tt), made_remain x v (suc k) p clear)
    made_remain (SepPlus x s) v k p clear = (
      (plus_remains x s v k p clear, tt),
      of_added_both (MadeRemains May) (added of v (suc k) x) (added of v (suc k + count x) s)
          (made_remain x v (suc k) p.0 clear.0) (made_remain s v (suc k + count x) p.1 clear.1),
    )
    made_remain (SepStar x s) v k p clear = (
      ((tt, ((added_may (suc k), tt), tt)), tt),
      (
        (plus_remains x s v (suc k) p clear, tt),
        of_added_both (MadeRemains May) (added of v (suc (suc k)) x) (added of v (suc (suc k) + count x) s)
            (made_remain x v (suc (suc k)) p.0 clear.0) (made_remain s v (suc (suc k) + count x) p.1 clear.1),
      ),
    )
    made_remain (Group ys) v k p clear = let both = choices_remain ys v (suc k) p clear in ((both.0, tt), both.1)

    pub symbols_remain : (xs : Symbols) (v : Visible) (k : ℕ) → SymbolsProper May v xs → SymbolsClear xs →
        OfAdded (MadeRemains May) (added_symbols of v k xs)
    symbols_remain no_symbols v k p clear = tt
    symbols_remain (next_symbol x xs) v k p clear =
        let u = v ++ binds v x in
        of_added_both (MadeRemains May) (added of v k x) (added_symbols of u (k + count x) xs)
        (made_remain x v k p.0 clear.0) (symbols_remain xs u (k + count x) p.1 clear.1)

    choices_remain : (ys : Alternatives) (v : Visible) (k : ℕ) → AlternativesProper May v ys → AlternativesClear ys →
        AltsRemain May (alts_of (new_alternatives of v k ys)) × OfAdded (MadeRemains May)
        (added_alternatives of v k ys)
    choices_remain no_alternatives v k p clear = (tt, tt)
    choices_remain (next_alternative xs ys) v k p clear =
        let rest = choices_remain ys v (k + count_symbols xs) p.1 clear.1 in (
          (news_remain xs v k p.0 clear.0, rest.0),
          of_added_both (MadeRemains May) (added_symbols of v k xs)
              (added_alternatives of v (k + count_symbols xs) ys) (symbols_remain xs v k p.0 clear.0) rest.1,
        )
