-- In what is lowered each symbol stands where it may, and each literal has a character; and with the root, too.
use Rattle.std.proofs.Common.{◌≡◌, ℕ, suc, ◌+◌, ◌⊎◌, inl, inr, Bool, true, false, List, [], ◌∷◌, ◌++◌, map}
use Rattle.std.proofs.Common.{Option, Some, None, sym, subst}
use Rattle.std.specs.Prelude.{All, Contains, if◌then◌else◌}
use Rattle.std.specs.List.{flat_map}
use Rattle.std.proofs.lemmas.List.{map-append}
use Rattle.std.proofs.lemmas.List.Elements.{All-nil, All-cons, All-head, All-tail, All-append, Contains-append_cases}
use Rattle.std.proofs.lemmas.List.Elements.{Contains-push_cases}
use Rattle.ig_text.proofs.Lists.{none_in_nil}
use Rattle.ig_text.specs.Words.{is_word}
use Rattle.ig_text.specs.Pattern.{HasNoEmptyLiteral}
use Rattle.ig_text.proofs.Lists.{at_from_contains, contains_first, contains_from_at, contains_later, contains_one, from_map, halves}
use Rattle.ig_expr.specs.Expression.{patterns_in}
use Rattle.ig_grammar.specs.Alternative.{gathered_alternatives}
use Rattle.ig_grammar.specs.Binding.{Binding}
use Rattle.ig_grammar.specs.Checked.{CheckedGrammar}
use Rattle.ig_grammar.specs.Numbering.{layout_among}
use Rattle.ig_grammar.specs.Regular.{AlternativesStandWell, IsPlaced, MayHaveFilters, MayHaveLabel}
use Rattle.ig_grammar.specs.Regular.{OfEachLevel}
use Rattle.ig_grammar.specs.Standing.{StandsWell, SymbolsStandWell}
use Rattle.ig_grammar.specs.Subterms.{subterms, subterms_of_symbols, subterms_of_alternatives}
use Rattle.ig_grammar.specs.Symbol.{Symbol, Literal, OneOf, Call, Label, Guard, Let, Opt, Star, Plus, SepStar}
use Rattle.ig_grammar.specs.Symbol.{SepPlus, Group, Offside, Ignore, Align}
use Rattle.ig_grammar.specs.Symbol.{Filtered, Seq, Entry, Symbols, no_symbols, next_symbol, Alternatives}
use Rattle.ig_grammar.specs.Symbol.{no_alternatives, next_alternative, gathered}
use Rattle.ig_grammar.specs.Visible.{Visible, binds, parameters, replaced}
use Rattle.ig_grammar.specs.declared.symbol.Alt.{Alt}
use Rattle.ig_grammar.specs.declared.declaration.Assoc.TheVariants.{Free}
use Rattle.ig_grammar.specs.declared.declaration.DeclKind.TheVariants.{Syntax}
use Rattle.ig_grammar.specs.declared.declaration.Level.{Level}
use Rattle.ig_grammar.specs.declared.declaration.Decl.{Decl}
use Rattle.ig_grammar.specs.declared.grammar.Grammar.{Grammar}
use Rattle.ig_meaning.specs.Permitted.{behind_layout}
use Rattle.ig_pass.specs.Added.{added_name}
use Rattle.ig_pass.specs.Needs.{needs}
use Rattle.ig_pass.specs.Rooted.{calls_of_start, has_root, root_declaration, root_symbols, rooted, rooted_grammar}
use Rattle.ig_pass.specs.Rooted.{with_root}
use Rattle.ig_ebnf_variables.specs.Lists.{Made, added, added_alternatives, added_alts, added_by, added_levels, added_symbols}
use Rattle.ig_ebnf_variables.specs.Lists.{all_added, all_elements, alts_of, argument, arguments, count, count_alts}
use Rattle.ig_ebnf_variables.specs.Lists.{count_symbols, decls_of, elements, entering, lowered_grammar, new, new_alternatives}
use Rattle.ig_ebnf_variables.specs.Lists.{new_alts, new_declaration, new_element, new_levels, new_symbol, new_symbols, params_for}
use Rattle.ig_ebnf_variables.specs.Lists.{sep_plus_alternatives}
use Rattle.ig_ebnf_variables.proofs.OfAdded.{OfAdded, of_added_at, of_added_both, by_declarations}

abbrev AllStand : List Symbol → Type 0
AllStand [] = Unit {0}
AllStand (x ∷ xs) = StandsWell x × AllStand xs

abbrev ChoicesStand : List (List Symbol) → Type 0
ChoicesStand [] = Unit {0}
ChoicesStand (xs ∷ others) = AllStand xs × ChoicesStand others

abbrev LevelsStand : List Level → Type 0
LevelsStand levels =
    (level : Level) → Contains levels level → AlternativesStandWell (gathered_alternatives level.alts)

abbrev MadeStands : Made → Type 0
MadeStands m = LevelsStand m.decl.levels

both_stand : (xs ys : List Symbol) → AllStand xs → AllStand ys → AllStand (xs ++ ys)
both_stand [] ys h i = i
both_stand (x ∷ xs) ys h i = (h.0, both_stand xs ys h.1 i)

-- symbol by symbol, or all of them
symbols_stand : (xs : List Symbol) → AllStand xs → SymbolsStandWell (gathered xs)
symbols_stand [] h = All-nil IsPlaced
symbols_stand (x ∷ xs) h =
    All-append IsPlaced (subterms x) (subterms_of_symbols (gathered xs)) h.0 (symbols_stand xs h.1)

choices_stand : (cs : List (List Symbol)) → ChoicesStand cs →
    AlternativesStandWell (gathered_alternatives (alts_of cs))
choices_stand [] h = All-nil IsPlaced
choices_stand (xs ∷ cs) h =
    All-append IsPlaced (subterms_of_symbols (gathered xs))
    (subterms_of_alternatives (gathered_alternatives (alts_of cs))) (symbols_stand xs h.0) (choices_stand cs h.1)

-- the only level of an added declaration
only_level : (cs : List (List Symbol)) → ChoicesStand cs →
    LevelsStand (record { assoc = Free; alts = alts_of cs } ∷ [])
only_level cs h level among =
    subst (λ (z : Level). AlternativesStandWell (gathered_alternatives z.alts))
    (sym (contains_one (record { assoc = Free; alts = alts_of cs }) level among)) (choices_stand cs h)

-- a label or filters stand round what stands for a symbol where they may stand round the symbol
label_stays : (of : List ℕ) (x : Symbol) (v : Visible) (k : ℕ) → MayHaveLabel x → MayHaveLabel (new_symbol of v k x)
label_stays of (Literal w) v k h = h
label_stays of x v k h = h

filters_stay : (of : List ℕ) (x : Symbol) (v : Visible) (k : ℕ) → MayHaveFilters x →
    MayHaveFilters (new_symbol of v k x)
filters_stay of (Literal w) v k h = h
filters_stay of x v k h = h

-- the patterns in the argument of a call are those of the binding that gives it
argument_placed : (bs : List Binding) → All HasNoEmptyLiteral (flat_map patterns_in (map (λ b. b.value) bs)) →
    (n : List ℕ) → All HasNoEmptyLiteral (patterns_in (argument bs n))
argument_placed [] h n = All-nil HasNoEmptyLiteral
argument_placed (b ∷ bs) h n =
    let parts =
    halves HasNoEmptyLiteral (patterns_in b.value) (flat_map patterns_in (map (λ (z : Binding). z.value) bs)) h in
    go (is_word b.name n) parts.0 (argument_placed bs parts.1 n)
  where
    go : (chosen : Bool) → All HasNoEmptyLiteral (patterns_in b.value) →
        All HasNoEmptyLiteral (patterns_in (argument bs n)) →
        All HasNoEmptyLiteral (patterns_in (if chosen then b.value else argument bs n))
    go true here there = here
    go false here there = there

arguments_placed : (bs : List Binding) → All HasNoEmptyLiteral (flat_map patterns_in (map (λ b. b.value) bs)) →
    (v : Visible) → All HasNoEmptyLiteral (flat_map patterns_in (arguments bs v))
arguments_placed bs h [] = All-nil HasNoEmptyLiteral
arguments_placed bs h (pair ∷ v) =
    All-append HasNoEmptyLiteral (patterns_in (argument bs pair.0)) (flat_map patterns_in (arguments bs v))
    (argument_placed bs h pair.0) (arguments_placed bs h v)

module _ (of : List ℕ) where
  -- the call of an added declaration
  call_stands : (k : ℕ) (bs : List Binding) (v : Visible) (wanted : List ℕ → Bool) →
      All HasNoEmptyLiteral (flat_map patterns_in (map (λ b. b.value) bs)) → StandsWell (entering of k bs v wanted)
  call_stands k bs v wanted h =
      All-cons IsPlaced (Call (added_name of k) (arguments bs (params_for v wanted))) []
      (arguments_placed bs h (params_for v wanted), tt) (All-nil IsPlaced)

  bare_call : (k : ℕ) (v : Visible) (wanted : List ℕ → Bool) → StandsWell (entering of k [] v wanted)
  bare_call k v wanted = call_stands k [] v wanted (All-nil HasNoEmptyLiteral)

  -- what stands for a symbol
  symbol_stands : (x : Symbol) (v : Visible) (k : ℕ) → StandsWell x → StandsWell (new_symbol of v k x)
  symbol_stands (Label m x) v k h =
      let here = All-head IsPlaced (Label m x) (subterms x) h in
      All-cons IsPlaced (Label m (new_symbol of v k x)) (subterms (new_symbol of v k x))
      (here.0, label_stays of x v k here.1) (symbol_stands x v k (All-tail IsPlaced (Label m x) (subterms x) h))
  symbol_stands (Filtered x fs) v k h =
      let here = All-head IsPlaced (Filtered x fs) (subterms x) h in
      All-cons IsPlaced (Filtered (new_symbol of v k x) fs) (subterms (new_symbol of v k x))
      (here.0, filters_stay of x v k here.1) (symbol_stands x v k (All-tail IsPlaced (Filtered x fs) (subterms x) h))
  symbol_stands (Opt x) v k h = bare_call k v (λ n. needs n (Opt x))
  symbol_stands (Star x) v k h = bare_call k v (λ n. needs n (Star x))
  symbol_stands (Plus x) v k h = bare_call k v (λ n. needs n (Plus x))
  symbol_stands (SepStar x s) v k h = bare_call k v (λ n. needs n (SepStar x s))
  symbol_stands (SepPlus x s) v k h = bare_call k v (λ n. needs n (SepPlus x s))
  symbol_stands (Group ys) v k h = bare_call k v (λ n. needs n (Group ys))
  symbol_stands (Entry bs x) v k h =
      call_stands k bs (replaced v v bs) (λ n. needs n x) (All-head IsPlaced (Entry bs x) (subterms x) h).0
  symbol_stands x v k h = h

  mutual
    new_stand : (x : Symbol) (v : Visible) (k : ℕ) → StandsWell x → AllStand (new of v k x)
    new_stand (Seq xs) v k h = news_stand xs v k (All-tail IsPlaced (Seq xs) (subterms_of_symbols xs) h)
    new_stand x v k h = (symbol_stands x v k h, tt)

    news_stand : (xs : Symbols) (v : Visible) (k : ℕ) → SymbolsStandWell xs → AllStand (new_symbols of v k xs)
    news_stand no_symbols v k h = tt
    news_stand (next_symbol x xs) v k h =
        let u = v ++ binds v x in
        let parts = halves IsPlaced (subterms x) (subterms_of_symbols xs) h in
        subst AllStand (sym (map-append (new_element of) (elements v k x) (all_elements u (k + count x) xs)))
        (both_stand (new of v k x) (new_symbols of u (k + count x) xs) (new_stand x v k parts.0)
        (news_stand xs u (k + count x) parts.1))

  plus_stands : (x s : Symbol) (v : Visible) (k : ℕ) → StandsWell x → StandsWell s →
      ChoicesStand (sep_plus_alternatives of v k x s)
  plus_stands x s v k h i =
      let item = new_stand x v (suc k) h in
      let separator = new_stand s v (suc k + count x) i in (
        item,
        (
          (
            bare_call k v (λ n. needs n (SepPlus x s)),
            both_stand (new of v (suc k + count x) s) (new of v (suc k) x) separator item,
          ),
          tt,
        ),
      )

  -- the declarations that are added
  mutual
    added_stand : (x : Symbol) (v : Visible) (k : ℕ) → StandsWell x → OfAdded MadeStands (added of v k x)
    added_stand (Literal w) v k h = tt
    added_stand (OneOf w) v k h = tt
    added_stand (Call m es) v k h = tt
    added_stand (Guard e) v k h = tt
    added_stand (Let m e) v k h = tt
    added_stand (Label m x) v k h = added_stand x v k (All-tail IsPlaced (Label m x) (subterms x) h)
    added_stand (Filtered x fs) v k h = added_stand x v k (All-tail IsPlaced (Filtered x fs) (subterms x) h)
    added_stand (Offside x) v k h = added_stand x v k (All-tail IsPlaced (Offside x) (subterms x) h)
    added_stand (Ignore x) v k h = added_stand x v k (All-tail IsPlaced (Ignore x) (subterms x) h)
    added_stand (Align x) v k h = added_stand x v k (All-tail IsPlaced (Align x) (subterms x) h)
    added_stand (Seq xs) v k h = symbols_add xs v k (All-tail IsPlaced (Seq xs) (subterms_of_symbols xs) h)
    added_stand (Entry bs x) v k h =
        added_stand x (replaced v v bs) k (All-tail IsPlaced (Entry bs x) (subterms x) h)
    added_stand (Opt x) v k h =
        let inner = All-tail IsPlaced (Opt x) (subterms x) h in (
          only_level ([] ∷ new of v (suc k) x ∷ []) (tt, (new_stand x v (suc k) inner, tt)),
          added_stand x v (suc k) inner,
        )
    added_stand (Star x) v k h =
        let inner = All-tail IsPlaced (Star x) (subterms x) h in
        let again = symbol_stands (Star x) v k h in (
          only_level ([] ∷ (new_symbol of v k (Star x) ∷ new of v (suc k) x) ∷ [])
              (tt, ((again, new_stand x v (suc k) inner), tt)),
          added_stand x v (suc k) inner,
        )
    added_stand (Plus x) v k h =
        let inner = All-tail IsPlaced (Plus x) (subterms x) h in
        let again = symbol_stands (Plus x) v k h in
        let item = new_stand x v (suc k) inner in (
          only_level (new of v (suc k) x ∷ (new_symbol of v k (Plus x) ∷ new of v (suc k) x) ∷ [])
              (item, ((again, item), tt)),
          added_stand x v (suc k) inner,
        )
    added_stand (SepPlus x s) v k h =
        let parts =
        halves IsPlaced (subterms x) (subterms s) (All-tail IsPlaced (SepPlus x s) (subterms x ++ subterms s) h) in (
          only_level (sep_plus_alternatives of v k x s) (plus_stands x s v k parts.0 parts.1),
          of_added_both MadeStands (added of v (suc k) x) (added of v (suc k + count x) s)
              (added_stand x v (suc k) parts.0) (added_stand s v (suc k + count x) parts.1),
        )
    added_stand (SepStar x s) v k h =
        let parts =
        halves IsPlaced (subterms x) (subterms s) (All-tail IsPlaced (SepStar x s) (subterms x ++ subterms s) h) in
        let list = bare_call (suc k) v (λ n. needs n (SepPlus x s)) in (
          only_level ([] ∷ (new_symbol of v (suc k) (SepPlus x s) ∷ []) ∷ []) (tt, ((list, tt), tt)),
          (
            only_level (sep_plus_alternatives of v (suc k) x s) (plus_stands x s v (suc k) parts.0 parts.1),
            of_added_both MadeStands (added of v (suc (suc k)) x) (added of v (suc (suc k) + count x) s)
                (added_stand x v (suc (suc k)) parts.0) (added_stand s v (suc (suc k) + count x) parts.1),
          ),
        )
    added_stand (Group ys) v k h =
        let both = choices_add ys v (suc k) (All-tail IsPlaced (Group ys) (subterms_of_alternatives ys) h) in
        (only_level (new_alternatives of v (suc k) ys) both.0, both.1)

    symbols_add : (xs : Symbols) (v : Visible) (k : ℕ) → SymbolsStandWell xs →
        OfAdded MadeStands (added_symbols of v k xs)
    symbols_add no_symbols v k h = tt
    symbols_add (next_symbol x xs) v k h =
        let u = v ++ binds v x in
        let parts = halves IsPlaced (subterms x) (subterms_of_symbols xs) h in
        of_added_both MadeStands (added of v k x) (added_symbols of u (k + count x) xs) (added_stand x v k parts.0)
        (symbols_add xs u (k + count x) parts.1)

    choices_add : (ys : Alternatives) (v : Visible) (k : ℕ) → AlternativesStandWell ys →
        ChoicesStand (new_alternatives of v k ys) × OfAdded MadeStands (added_alternatives of v k ys)
    choices_add no_alternatives v k h = (tt, tt)
    choices_add (next_alternative xs ys) v k h =
        let parts = halves IsPlaced (subterms_of_symbols xs) (subterms_of_alternatives ys) h in
        let rest = choices_add ys v (k + count_symbols xs) parts.1 in (
          (news_stand xs v k parts.0, rest.0),
          of_added_both MadeStands (added_symbols of v k xs) (added_alternatives of v (k + count_symbols xs) ys)
              (symbols_add xs v k parts.0) rest.1,
        )

  -- the alternatives of a level, and the declarations that are added for them
  alts_stand : (alts : List Alt) (v : Visible) (k : ℕ) → AlternativesStandWell (gathered_alternatives alts) →
      AlternativesStandWell (gathered_alternatives (new_alts of v k alts)) ×
      OfAdded MadeStands (added_alts of v k alts)
  alts_stand [] v k h = (All-nil IsPlaced, tt)
  alts_stand (a ∷ alts) v k h =
      let xs = gathered a.symbols in
      let l = k + count_symbols xs in
      let parts =
      halves IsPlaced (subterms_of_symbols xs) (subterms_of_alternatives (gathered_alternatives alts)) h in
      let rest = alts_stand alts v l parts.1 in (
        All-append IsPlaced (subterms_of_symbols (gathered (new_symbols of v k xs)))
            (subterms_of_alternatives (gathered_alternatives (new_alts of v l alts)))
            (symbols_stand (new_symbols of v k xs) (news_stand xs v k parts.0)) rest.0,
        of_added_both MadeStands (added_symbols of v k xs) (added_alts of v l alts) (symbols_add xs v k parts.0)
            rest.1,
      )

  levels_stand : (levels : List Level) (v : Visible) (k : ℕ) → LevelsStand levels →
      LevelsStand (new_levels of v k levels) × OfAdded MadeStands (added_levels of v k levels)
  levels_stand [] v k h = (λ level among. absurd (none_in_nil level among), tt)
  levels_stand (first ∷ others) v k h =
      let made : Level = record { assoc = first.assoc; alts = new_alts of v k first.alts } in
      let here = alts_stand first.alts v k (h first (contains_first first others)) in
      let l = k + count_alts first.alts in
      let rest = levels_stand others v l (λ level among. h level (contains_later first others level among)) in (
        λ level among. either made here.0 (new_levels of v l others) rest.0 level
            (Contains-append_cases (made ∷ []) (new_levels of v l others) level among),
        of_added_both MadeStands (added_alts of v k first.alts) (added_levels of v l others) here.1 rest.1,
      )
    where
      either : (made : Level) → AlternativesStandWell (gathered_alternatives made.alts) → (behind : List Level) →
          LevelsStand behind → (level : Level) → Contains (made ∷ []) level ⊎ Contains behind level →
          AlternativesStandWell (gathered_alternatives level.alts)
      either made here behind later level (inl among) =
          subst (λ (z : Level). AlternativesStandWell (gathered_alternatives z.alts))
          (sym (contains_one made level among)) here
      either made here behind later level (inr among) = later level among

module _ (g : Grammar) (source : OfEachLevel AlternativesStandWell g) where
  -- a declaration of the source without lists, and those that are added for it
  declaration_stands : (decl : Decl) → Contains g.decls decl →
      LevelsStand (new_declaration decl).levels × OfAdded MadeStands (added_by decl)
  declaration_stands decl among =
      levels_stand decl.name decl.levels (parameters decl.params) 1 (λ level. source decl level among)

  all_added_stand : OfAdded MadeStands (all_added g.decls)
  all_added_stand =
      by_declarations MadeStands g.decls
      (λ n decl e. (declaration_stands decl (contains_from_at g.decls n decl e)).1)

  pub lowered_stands_well : OfEachLevel AlternativesStandWell (lowered_grammar g)
  lowered_stands_well decl level among =
      go (Contains-append_cases (map new_declaration g.decls) (decls_of (all_added g.decls)) decl among) level
    where
      go : Contains (map new_declaration g.decls) decl ⊎ Contains (decls_of (all_added g.decls)) decl →
          LevelsStand decl.levels
      go (inl m) =
          let at = at_from_contains (map new_declaration g.decls) decl m in
          let from = from_map new_declaration g.decls at.0 decl at.1 in
          subst (λ (z : Decl). LevelsStand z.levels) (sym from.2)
          (declaration_stands from.0 (contains_from_at g.decls at.0 from.0 from.1)).0
      go (inr m) =
          let at = at_from_contains (decls_of (all_added g.decls)) decl m in
          let from = from_map (λ (x : Made). x.decl) (all_added g.decls) at.0 decl at.1 in
          subst (λ (z : Decl). LevelsStand z.levels) (sym from.2)
          (of_added_at MadeStands (all_added g.decls) all_added_stand at.0 from.0 from.1)

called : (name : List ℕ) → StandsWell (Call name [])
called name = All-cons IsPlaced (Call name []) [] (All-nil HasNoEmptyLiteral, tt) (All-nil IsPlaced)

-- the calls of the root
root_stands : (layout start : Option (List ℕ)) → AllStand (behind_layout layout (calls_of_start start))
root_stands None None = tt
root_stands None (Some s) = (called s, tt)
root_stands (Some w) None = (called w, tt)
root_stands (Some w) (Some s) = (called w, (called s, tt))

with_root_stands : (g : Grammar) → OfEachLevel AlternativesStandWell g →
    OfEachLevel AlternativesStandWell (rooted_grammar Syntax g)
with_root_stands g source decl level among =
    go (Contains-push_cases g.decls (root_declaration Syntax g) decl among) level
  where
    go : Contains g.decls decl ⊎ (root_declaration Syntax g ≡ decl) → LevelsStand decl.levels
    go (inl m) = λ at. source decl at m
    go (inr same) =
        subst (λ (z : Decl). LevelsStand z.levels) same
        (only_level (root_symbols g ∷ []) (root_stands (layout_among g.decls) g.start, tt))

-- and with the root
pub rooted_stands_well : (c : CheckedGrammar) → OfEachLevel AlternativesStandWell c.grammar →
    OfEachLevel AlternativesStandWell (rooted Syntax c).grammar
rooted_stands_well c source = go (has_root c.shapes)
  where
    go : (b : Bool) → OfEachLevel AlternativesStandWell (if b then c else with_root Syntax c).grammar
    go true = source
    go false = with_root_stands c.grammar source
