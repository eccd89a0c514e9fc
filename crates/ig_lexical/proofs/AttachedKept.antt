-- What the filters pass's own rule keeps: symbols stand well, want the same variables, and have no mark; and of filters only
-- exclusions are left.
use Rattle.std.proofs.Common.{◌≡◌, ◌∙◌, ℕ, List, [], ◌∷◌, ◌++◌, false, map, refl, ap}
use Rattle.std.specs.Prelude.{All, ◌||◌}
use Rattle.std.proofs.lemmas.List.{append-nil}
use Rattle.std.proofs.lemmas.List.Elements.{All-nil, All-cons, All-head, All-tail}
use Rattle.std.proofs.Math.Bool.{or-false}
use Rattle.ig_text.specs.declared.pattern.Pattern.{Pattern}
use Rattle.ig_expr.specs.Expression.{Expression, FreeBefore, FreeAfter}
use Rattle.ig_text.specs.Pattern.{HasNoEmptyLiteral}
use Rattle.ig_grammar.specs.Symbol.{Symbol, Literal, OneOf, Call, Label, Guard, Let, Opt, Star, Plus, SepStar, SepPlus, Group, Offside, Ignore, Align, Filtered, Seq, Entry, gathered}
use Rattle.ig_grammar.specs.Symbol.{Symbols, no_symbols, next_symbol, Alternatives, no_alternatives, next_alternative}
use Rattle.ig_grammar.specs.Regular.{IsPlaced, pattern_of, IsNoMark, MayHaveLabel, MayHaveFilters, MayHaveSign, MayBeSeparated, MayHaveEntry, AlternativesStandWell, AlternativesHaveNoMark}
use Rattle.ig_grammar.specs.Subterms.{bound_names, names_bound_by, subterms_of_alternatives}
use Rattle.ig_grammar.specs.declared.filter.Filter.{Filter}
use Rattle.ig_grammar.specs.declared.filter.Filter.TheVariants.{NotFollowed, NotPreceded, Not}
use Rattle.ig_grammar.specs.Forms.{label_of_filtered, separated_of_label}
use Rattle.ig_pass.specs.Needs.{needs, symbols_need, IsEntered, AlternativesAreEntered}
use Rattle.ig_pass.specs.Remaining.{IsExclusion}
use Rattle.ig_pass.specs.Rewriting.{within, rewritten, rewritten_symbols, rewritten_choices}
use Rattle.ig_pass.specs.Sound.{ExcludesOnly}
use Rattle.ig_lexical.specs.Filters.{befores, afters, exclusions, with_filters, guarded, attached}
use Rattle.ig_lexical.proofs.Traversal.{Throughout, ThroughoutSymbols, ThroughoutChoices}
use Rattle.ig_lexical.proofs.Everywhere.{throughout_choices, of_throughout_choices, choices_kept}
use Rattle.ig_lexical.proofs.LaidKept.{unmarked_head}
use Rattle.ig_lexical.proofs.StandingWell.{label_within, filters_within, entry_within, placed_within, entered_within}

-- guards read no variable and bind none
names_before : (bs : List Expression) (xs : List Symbol) → names_bound_by (gathered (map Guard bs ++ xs)) ≡ names_bound_by (gathered xs)
names_before [] xs = refl
names_before (b ∷ bs) xs = names_before bs xs

names_behind : (cs : List Expression) → names_bound_by (gathered (map Guard cs)) ≡ []
names_behind [] = refl
names_behind (c ∷ cs) = names_behind cs

names_in_sequence : (bs cs : List Expression) (y : Symbol) → names_bound_by (gathered (map Guard bs ++ y ∷ map Guard cs)) ≡ bound_names y
names_in_sequence bs cs y =
    names_before bs (y ∷ map Guard cs) ∙ ap (λ ns. bound_names y ++ ns) (names_behind cs) ∙ append-nil (bound_names y)

names_guarded : (bs cs : List Expression) (y : Symbol) → bound_names (guarded bs cs y) ≡ bound_names y
names_guarded [] [] y = refl
names_guarded [] (c ∷ cs) y = names_in_sequence [] (c ∷ cs) y
names_guarded (b ∷ bs) cs y = names_in_sequence (b ∷ bs) cs y

names_excluded : (x : Symbol) (fs : List Filter) → bound_names (with_filters x fs) ≡ bound_names x
names_excluded x [] = refl
names_excluded x (f ∷ fs) = refl

names_labelled : (name : List ℕ) (x : Symbol) → bound_names (attached (Label name x)) ≡ bound_names (Label name x)
names_labelled name (Filtered x fs) =
    names_guarded (befores fs) (afters fs) (Label name (with_filters x (exclusions fs))) ∙ ap (λ ns. ns ++ name ∷ []) (names_excluded x (exclusions fs))
names_labelled name x = refl

names_attached : (x : Symbol) → bound_names (attached x) ≡ bound_names x
names_attached (Label name x) = names_labelled name x
names_attached (Filtered x fs) = names_guarded (befores fs) (afters fs) (with_filters x (exclusions fs)) ∙ names_excluded x (exclusions fs)
names_attached x = refl

module _ (n : List ℕ) where
  wants_before : (fs : List Filter) (xs : List Symbol) → symbols_need n (gathered (map Guard (befores fs) ++ xs)) ≡ symbols_need n (gathered xs)
  wants_before [] xs = refl
  wants_before (NotFollowed p ∷ fs) xs = wants_before fs xs
  wants_before (NotPreceded p ∷ fs) xs = wants_before fs xs
  wants_before (Not p ∷ fs) xs = wants_before fs xs

  wants_behind : (fs : List Filter) → symbols_need n (gathered (map Guard (afters fs))) ≡ false
  wants_behind [] = refl
  wants_behind (NotFollowed p ∷ fs) = wants_behind fs
  wants_behind (NotPreceded p ∷ fs) = wants_behind fs
  wants_behind (Not p ∷ fs) = wants_behind fs

  wants_guarded : (fs : List Filter) (y : Symbol) → needs n (guarded (befores fs) (afters fs) y) ≡ needs n y
  wants_guarded fs y = go (befores fs) (afters fs) (wants_before fs) (wants_behind fs)
    where
      all : (bs cs : List Expression) → ((xs : List Symbol) → symbols_need n (gathered (map Guard bs ++ xs)) ≡ symbols_need n (gathered xs)) →
          symbols_need n (gathered (map Guard cs)) ≡ false → symbols_need n (gathered (map Guard bs ++ y ∷ map Guard cs)) ≡ needs n y
      all bs cs before behind = before (y ∷ map Guard cs) ∙ ap (λ b. needs n y || b) behind ∙ or-false (needs n y)

      go : (bs cs : List Expression) → ((xs : List Symbol) → symbols_need n (gathered (map Guard bs ++ xs)) ≡ symbols_need n (gathered xs)) →
          symbols_need n (gathered (map Guard cs)) ≡ false → needs n (guarded bs cs y) ≡ needs n y
      go [] [] before behind = refl
      go [] (c ∷ cs) before behind = all [] (c ∷ cs) before behind
      go (b ∷ bs) cs before behind = all (b ∷ bs) cs before behind

  wants_excluded : (x : Symbol) (fs : List Filter) → needs n (with_filters x fs) ≡ needs n x
  wants_excluded x [] = refl
  wants_excluded x (f ∷ fs) = refl

  wants_labelled : (name : List ℕ) (x : Symbol) → needs n (attached (Label name x)) ≡ needs n (Label name x)
  wants_labelled name (Filtered x fs) = wants_guarded fs (Label name (with_filters x (exclusions fs))) ∙ wants_excluded x (exclusions fs)
  wants_labelled name x = refl

  wants_attached : (x : Symbol) → needs n (attached x) ≡ needs n x
  wants_attached (Label name x) = wants_labelled name x
  wants_attached (Filtered x fs) = wants_guarded fs (with_filters x (exclusions fs)) ∙ wants_excluded x (exclusions fs)
  wants_attached x = refl

-- a fact of each symbol, in the guarded symbol
module _ (N : Symbol → Type 0) (sequences : (xs : Symbols) → N (Seq xs)) (before : Pattern → Type 0)
    (befores_hold : (p : Pattern) → before p → N (Guard (FreeBefore p))) (afters_hold : (p : Pattern) → before p → N (Guard (FreeAfter p))) where
  all_before : (fs : List Filter) → All before (map pattern_of fs) → (xs : List Symbol) → ThroughoutSymbols N (gathered xs) →
      ThroughoutSymbols N (gathered (map Guard (befores fs) ++ xs))
  all_before [] a xs q = q
  all_before (NotFollowed p ∷ fs) a xs q = all_before fs (All-tail before p (map pattern_of fs) a) xs q
  all_before (NotPreceded p ∷ fs) a xs q =
      (befores_hold p (All-head before p (map pattern_of fs) a), all_before fs (All-tail before p (map pattern_of fs) a) xs q)
  all_before (Not p ∷ fs) a xs q = all_before fs (All-tail before p (map pattern_of fs) a) xs q

  all_behind : (fs : List Filter) → All before (map pattern_of fs) → ThroughoutSymbols N (gathered (map Guard (afters fs)))
  all_behind [] a = tt
  all_behind (NotFollowed p ∷ fs) a =
      (afters_hold p (All-head before p (map pattern_of fs) a), all_behind fs (All-tail before p (map pattern_of fs) a))
  all_behind (NotPreceded p ∷ fs) a = all_behind fs (All-tail before p (map pattern_of fs) a)
  all_behind (Not p ∷ fs) a = all_behind fs (All-tail before p (map pattern_of fs) a)

  all_guarded : (fs : List Filter) → All before (map pattern_of fs) → (y : Symbol) → Throughout N y → Throughout N (guarded (befores fs) (afters fs) y)
  all_guarded fs a y q = go (befores fs) (afters fs) (all_before fs a (y ∷ map Guard (afters fs)) (q, all_behind fs a))
    where
      go : (bs cs : List Expression) → ThroughoutSymbols N (gathered (map Guard bs ++ y ∷ map Guard cs)) → Throughout N (guarded bs cs y)
      go [] [] r = q
      go [] (c ∷ cs) r = (sequences (gathered (y ∷ map Guard (c ∷ cs))), r)
      go (b ∷ bs) cs r = (sequences (gathered (map Guard (b ∷ bs) ++ y ∷ map Guard cs)), r)

any_pattern : (ps : List Pattern) → All (λ p. Unit {0}) ps
any_pattern [] = All-nil (λ p. Unit {0})
any_pattern (p ∷ ps) = All-cons (λ p. Unit {0}) p ps tt (any_pattern ps)

-- symbols stand well
patterns_left : (fs : List Filter) → All HasNoEmptyLiteral (map pattern_of fs) → All HasNoEmptyLiteral (map pattern_of (exclusions fs))
patterns_left [] a = a
patterns_left (NotFollowed p ∷ fs) a = patterns_left fs (All-tail HasNoEmptyLiteral p (map pattern_of fs) a)
patterns_left (NotPreceded p ∷ fs) a = patterns_left fs (All-tail HasNoEmptyLiteral p (map pattern_of fs) a)
patterns_left (Not p ∷ fs) a =
    All-cons HasNoEmptyLiteral p (map pattern_of (exclusions fs)) (All-head HasNoEmptyLiteral p (map pattern_of fs) a)
    (patterns_left fs (All-tail HasNoEmptyLiteral p (map pattern_of fs) a))

one_pattern : (p : Pattern) → HasNoEmptyLiteral p → All HasNoEmptyLiteral (p ∷ [])
one_pattern p h = All-cons HasNoEmptyLiteral p [] h (All-nil HasNoEmptyLiteral)

well_guarded : (fs : List Filter) → All HasNoEmptyLiteral (map pattern_of fs) → (y : Symbol) → Throughout IsPlaced y → Throughout IsPlaced (guarded (befores fs) (afters fs) y)
well_guarded =
    all_guarded IsPlaced (λ xs. (All-nil HasNoEmptyLiteral, tt)) HasNoEmptyLiteral (λ p h. (one_pattern p h, tt)) (λ p h. (one_pattern p h, tt))

well_excluded : (x : Symbol) (fs : List Filter) → MayHaveFilters x → All HasNoEmptyLiteral (map pattern_of fs) → Throughout IsPlaced x → Throughout IsPlaced (with_filters x fs)
well_excluded x [] m a q = q
well_excluded x (f ∷ fs) m a q = ((a, m), q)

label_excluded : (x : Symbol) (fs : List Filter) → MayHaveFilters x → MayHaveLabel (with_filters x fs)
label_excluded x [] m = label_of_filtered x m
label_excluded x (f ∷ fs) m = tt

well_labelled : (name : List ℕ) (x : Symbol) → Throughout IsPlaced (Label name x) → Throughout IsPlaced (attached (Label name x))
well_labelled name (Filtered x fs) q =
    well_guarded fs q.1.0.0 (Label name (with_filters x (exclusions fs)))
    ((All-nil HasNoEmptyLiteral, label_excluded x (exclusions fs) q.1.0.1), well_excluded x (exclusions fs) q.1.0.1 (patterns_left fs q.1.0.0) q.1.1)
well_labelled name x q = q

well_attached : (x : Symbol) → Throughout IsPlaced x → Throughout IsPlaced (attached x)
well_attached (Label name x) q = well_labelled name x q
well_attached (Filtered x fs) q =
    well_guarded fs q.0.0 (with_filters x (exclusions fs)) (well_excluded x (exclusions fs) q.0.1 (patterns_left fs q.0.0) q.1)
well_attached x q = q

sign_attached : (x : Symbol) → MayHaveSign x → MayHaveSign (attached x)
sign_attached (Label name x) m = absurd m
sign_attached (Filtered x fs) m = absurd m
sign_attached x m = m

separated_excluded : (x : Symbol) (fs : List Filter) → MayHaveFilters x → MayBeSeparated (with_filters x fs)
separated_excluded x [] m = separated_of_label x (label_of_filtered x m)
separated_excluded x (f ∷ fs) m = tt

separated_guarded : (bs cs : List Expression) (y : Symbol) → MayBeSeparated y → MayBeSeparated (guarded bs cs y)
separated_guarded [] [] y m = m
separated_guarded [] (c ∷ cs) y m = tt
separated_guarded (b ∷ bs) cs y m = tt

separated_attached : (x : Symbol) → Throughout IsPlaced x → MayBeSeparated x → MayBeSeparated (rewritten attached x)
separated_attached (Label name x) q m = absurd m
separated_attached (Filtered x fs) q m =
    separated_guarded (befores fs) (afters fs) (with_filters (within attached x) (exclusions fs))
    (separated_excluded (within attached x) (exclusions fs) (filters_within attached x q.0.1))
separated_attached x q m = m

pub attached_well : (xs : Alternatives) → AlternativesStandWell xs → AlternativesStandWell (rewritten_choices attached xs)
attached_well = choices_kept attached IsPlaced IsPlaced (placed_within attached names_attached sign_attached separated_attached) well_attached

-- a fact that holds of each symbol but those of some forms
module _ (N : Symbol → Type 0) (sequences : (xs : Symbols) → N (Seq xs)) (guards : (e : Expression) → N (Guard e))
    (labels : (name : List ℕ) (x : Symbol) → N (Label name x)) (filters : (x : Symbol) (fs : List Filter) → N (Filtered x fs)) where
  held_guarded : (fs : List Filter) (y : Symbol) → Throughout N y → Throughout N (guarded (befores fs) (afters fs) y)
  held_guarded fs =
      all_guarded N sequences (λ p. Unit {0}) (λ p h. guards (FreeBefore p)) (λ p h. guards (FreeAfter p)) fs (any_pattern (map pattern_of fs))

  held_excluded : (x : Symbol) (fs : List Filter) → Throughout N x → Throughout N (with_filters x fs)
  held_excluded x [] q = q
  held_excluded x (f ∷ fs) q = (filters x (f ∷ fs), q)

  held_labelled : (name : List ℕ) (x : Symbol) → Throughout N (Label name x) → Throughout N (attached (Label name x))
  held_labelled name (Filtered x fs) q =
      held_guarded fs (Label name (with_filters x (exclusions fs))) (labels name (with_filters x (exclusions fs)), held_excluded x (exclusions fs) q.1.1)
  held_labelled name x q = q

  held_attached : (x : Symbol) → Throughout N x → Throughout N (attached x)
  held_attached (Label name x) q = held_labelled name x q
  held_attached (Filtered x fs) q = held_guarded fs (with_filters x (exclusions fs)) (held_excluded x (exclusions fs) q.1)
  held_attached x q = q

pub attached_unmarked : (xs : Alternatives) → AlternativesHaveNoMark xs → AlternativesHaveNoMark (rewritten_choices attached xs)
attached_unmarked = choices_kept attached IsNoMark IsNoMark (unmarked_head attached)
    (held_attached IsNoMark (λ xs. tt) (λ e. tt) (λ name x. tt) (λ x fs. tt))

pub attached_entered : (xs : Alternatives) → AlternativesAreEntered xs → AlternativesAreEntered (rewritten_choices attached xs)
attached_entered = choices_kept attached IsEntered IsEntered (entered_within attached wants_attached)
    (held_attached IsEntered (λ xs. tt) (λ e. tt) (λ name x. tt) (λ x fs. tt))

-- of filters only exclusions are left: behind the traversal of its parts a symbol may have filters itself, maybe in a label
exclusions_hold : (fs : List Filter) → All IsExclusion (exclusions fs)
exclusions_hold [] = All-nil IsExclusion
exclusions_hold (NotFollowed p ∷ fs) = exclusions_hold fs
exclusions_hold (NotPreceded p ∷ fs) = exclusions_hold fs
exclusions_hold (Not p ∷ fs) = All-cons IsExclusion (Not p) (exclusions fs) tt (exclusions_hold fs)

abbrev Clean : Symbol → Type 0
Clean = Throughout ExcludesOnly

abbrev LabelledMaybe : List ℕ → Symbol → Type 0
LabelledMaybe name (Filtered x fs) = Clean x
LabelledMaybe name x = Clean (Label name x)

-- what the pass's own rule makes clean
abbrev Almost : Symbol → Type 0
Almost (Label name x) = LabelledMaybe name x
Almost (Filtered x fs) = Clean x
Almost x = Clean x

-- a symbol without filters and label
clean_plain : (x : Symbol) → MayHaveFilters x → Almost x → Clean x
clean_plain (Label name x) m q = absurd m
clean_plain (Filtered x fs) m q = absurd m
clean_plain x m q = q

clean_entry : (x : Symbol) → MayHaveEntry x → Almost x → Clean x
clean_entry (Label name x) m q = absurd m
clean_entry (Filtered x fs) m q = absurd m
clean_entry x m q = q

-- directly in a label
labelled_maybe : (name : List ℕ) (x : Symbol) → MayHaveLabel x → Almost x → LabelledMaybe name x
labelled_maybe name (Label other x) m q = absurd m
labelled_maybe name (Filtered x fs) m q = q
labelled_maybe name x m q = (tt, q)

excluded_clean : (x : Symbol) (fs : List Filter) → All IsExclusion fs → Clean x → Clean (with_filters x fs)
excluded_clean x [] a q = q
excluded_clean x (f ∷ fs) a q = (a, q)

clean_guarded : (fs : List Filter) (y : Symbol) → Clean y → Clean (guarded (befores fs) (afters fs) y)
clean_guarded fs =
    all_guarded ExcludesOnly (λ xs. tt) (λ p. Unit {0}) (λ p h. tt) (λ p h. tt) fs (any_pattern (map pattern_of fs))

clean_labelled : (name : List ℕ) (x : Symbol) → LabelledMaybe name x → Clean (attached (Label name x))
clean_labelled name (Filtered x fs) q =
    clean_guarded fs (Label name (with_filters x (exclusions fs))) (tt, excluded_clean x (exclusions fs) (exclusions_hold fs) q)
clean_labelled name x q = q

clean_attached : (x : Symbol) → Almost x → Clean (attached x)
clean_attached (Label name x) q = clean_labelled name x q
clean_attached (Filtered x fs) q = clean_guarded fs (with_filters x (exclusions fs)) (excluded_clean x (exclusions fs) (exclusions_hold fs) q)
clean_attached x q = q

mutual
  almost : (x : Symbol) → Throughout IsPlaced x → Throughout IsNoMark x → Almost (within attached x)
  almost (Literal word) q u = tt
  almost (OneOf class) q u = tt
  almost (Call name es) q u = tt
  almost (Guard e) q u = tt
  almost (Let name e) q u = tt
  almost (Label name x) q u = labelled_maybe name (within attached x) (label_within attached x q.0.1) (almost x q.1 u.1)
  almost (Opt x) q u = (tt, clean_attached (within attached x) (almost x q.1 u.1))
  almost (Star x) q u = (tt, clean_attached (within attached x) (almost x q.1 u.1))
  almost (Plus x) q u = (tt, clean_attached (within attached x) (almost x q.1 u.1))
  almost (SepStar x s) q u = (tt, clean_attached (within attached x) (almost x q.1 u.1), clean_attached (within attached s) (almost s q.2 u.2))
  almost (SepPlus x s) q u = (tt, clean_attached (within attached x) (almost x q.1 u.1), clean_attached (within attached s) (almost s q.2 u.2))
  almost (Group xs) q u = (tt, choices_clean xs q.1 u.1)
  almost (Offside x) q u = absurd u.0
  almost (Ignore x) q u = absurd u.0
  almost (Align x) q u = absurd u.0
  almost (Filtered x fs) q u = clean_plain (within attached x) (filters_within attached x q.0.1) (almost x q.1 u.1)
  almost (Seq xs) q u = (tt, symbols_clean xs q.1 u.1)
  almost (Entry bs x) q u = (tt, clean_entry (within attached x) (entry_within attached x q.0.1) (almost x q.1 u.1))

  symbols_clean : (xs : Symbols) → ThroughoutSymbols IsPlaced xs → ThroughoutSymbols IsNoMark xs → ThroughoutSymbols ExcludesOnly (rewritten_symbols attached xs)
  symbols_clean no_symbols q u = tt
  symbols_clean (next_symbol x xs) q u = (clean_attached (within attached x) (almost x q.0 u.0), symbols_clean xs q.1 u.1)

  choices_clean : (xs : Alternatives) → ThroughoutChoices IsPlaced xs → ThroughoutChoices IsNoMark xs → ThroughoutChoices ExcludesOnly (rewritten_choices attached xs)
  choices_clean no_alternatives q u = tt
  choices_clean (next_alternative xs others) q u = (symbols_clean xs q.0 u.0, choices_clean others q.1 u.1)

pub attached_excludes : (xs : Alternatives) → AlternativesStandWell xs × AlternativesHaveNoMark xs → All ExcludesOnly (subterms_of_alternatives (rewritten_choices attached xs))
attached_excludes xs a =
    of_throughout_choices ExcludesOnly (rewritten_choices attached xs)
    (choices_clean xs (throughout_choices IsPlaced xs a.0) (throughout_choices IsNoMark xs a.1))
