-- What holds of each symbol at what is visible there, the filters pass's own rule keeps.
use Rattle.std.proofs.Common.{◌≡◌, ◌∙◌, ℕ, List, [], ◌∷◌, ◌++◌, map, refl, sym, ap, subst, Some}
use Rattle.std.proofs.lemmas.List.{append-nil}
use Rattle.ig_expr.specs.Expression.{Expression}
use Rattle.ig_expr.specs.declared.kind.Kind.TheVariants as kind
use Rattle.ig_grammar.specs.Symbol.{Symbol, Label, Guard, Filtered, Seq}
use Rattle.ig_grammar.specs.Symbol.{Symbols, gathered}
use Rattle.ig_grammar.specs.Visible.{Visible, binds, all_bind, kind_at}
use Rattle.ig_grammar.specs.Condition.{variables}
use Rattle.ig_grammar.specs.declared.filter.Filter.{Filter}
use Rattle.ig_grammar.specs.declared.filter.Filter.TheVariants.{NotFollowed, NotPreceded, Not}
use Rattle.ig_lexical.specs.Filters.{befores, afters, exclusions, with_filters, guarded, attached}
use Rattle.ig_pass.specs.Throughout.{Placed, PlacedSymbols}

-- an expression without variables that is a truth value
pub record IsTest (v : Visible) (e : Expression) : Type 0 where
  pub closed : variables e ≡ []
  pub truth : kind_at v e ≡ Some kind.Bool

-- N holds of sequences, filters and tests, and goes by the label alone
module _ (N : Visible → Symbol → Type 0) (sequences : (v : Visible) (xs : Symbols) → N v (Seq xs))
    (filtered : (v : Visible) (x : Symbol) (fs : List Filter) → N v (Filtered x fs))
    (guards : (v : Visible) (e : Expression) → IsTest v e → N v (Guard e))
    (labels : (name : List ℕ) (x y : Symbol) (v : Visible) → N v (Label name x) → N v (Label name y)) where
  abbrev AllTests : List Expression → Type 0
  AllTests [] = Unit {0}
  AllTests (e ∷ es) = ((v : Visible) → IsTest v e) × AllTests es

  tests_before : (fs : List Filter) → AllTests (befores fs)
  tests_before [] = tt
  tests_before (NotFollowed p ∷ fs) = tests_before fs
  tests_before (NotPreceded p ∷ fs) = ((λ v. record { closed = refl; truth = refl }), tests_before fs)
  tests_before (Not p ∷ fs) = tests_before fs

  tests_behind : (fs : List Filter) → AllTests (afters fs)
  tests_behind [] = tt
  tests_behind (NotFollowed p ∷ fs) = ((λ v. record { closed = refl; truth = refl }), tests_behind fs)
  tests_behind (NotPreceded p ∷ fs) = tests_behind fs
  tests_behind (Not p ∷ fs) = tests_behind fs

  guards_placed : (es : List Expression) (xs : List Symbol) (v : Visible) → AllTests es → PlacedSymbols N (gathered xs) v → PlacedSymbols N (gathered (map Guard es ++ xs)) v
  guards_placed [] xs v t p = p
  guards_placed (e ∷ es) xs v t p =
      (guards v e (t.0 v), subst (λ w. PlacedSymbols N (gathered (map Guard es ++ xs)) w) (sym (append-nil v)) (guards_placed es xs v t.1 p))

  guards_bind : (es : List Expression) (xs : List Symbol) (v : Visible) → all_bind v (gathered (map Guard es ++ xs)) ≡ all_bind v (gathered xs)
  guards_bind [] xs v = refl
  guards_bind (e ∷ es) xs v = ap (λ w. all_bind w (gathered (map Guard es ++ xs))) (append-nil v) ∙ guards_bind es xs v

  no_binds : (es : List Expression) (v : Visible) → all_bind v (gathered (map Guard es)) ≡ []
  no_binds [] v = refl
  no_binds (e ∷ es) v = ap (λ w. all_bind w (gathered (map Guard es))) (append-nil v) ∙ no_binds es v

  no_guards_placed : (es : List Expression) (v : Visible) → AllTests es → PlacedSymbols N (gathered (map Guard es)) v
  no_guards_placed [] v t = tt
  no_guards_placed (e ∷ es) v t = (guards v e (t.0 v), subst (λ w. PlacedSymbols N (gathered (map Guard es)) w) (sym (append-nil v)) (no_guards_placed es v t.1))

  sequence_placed : (bs cs : List Expression) (y : Symbol) (v : Visible) → AllTests bs → AllTests cs → Placed N y v → Placed N (Seq (gathered (map Guard bs ++ y ∷ map Guard cs))) v
  sequence_placed bs cs y v s t p =
      (sequences v (gathered (map Guard bs ++ y ∷ map Guard cs)), guards_placed bs (y ∷ map Guard cs) v s (p, no_guards_placed cs (v ++ binds v y) t))

  sequence_binds : (bs cs : List Expression) (y : Symbol) (v : Visible) → binds v (Seq (gathered (map Guard bs ++ y ∷ map Guard cs))) ≡ binds v y
  sequence_binds bs cs y v =
      guards_bind bs (y ∷ map Guard cs) v ∙ ap (λ b. binds v y ++ b) (no_binds cs (v ++ binds v y)) ∙ append-nil (binds v y)

  guarded_placed : (bs cs : List Expression) (y : Symbol) (v : Visible) → AllTests bs → AllTests cs → Placed N y v → Placed N (guarded bs cs y) v
  guarded_placed [] [] y v s t p = p
  guarded_placed [] (c ∷ cs) y v s t p = sequence_placed [] (c ∷ cs) y v s t p
  guarded_placed (b ∷ bs) cs y v s t p = sequence_placed (b ∷ bs) cs y v s t p

  guarded_binds : (bs cs : List Expression) (y : Symbol) (v : Visible) → binds v (guarded bs cs y) ≡ binds v y
  guarded_binds [] [] y v = refl
  guarded_binds [] (c ∷ cs) y v = sequence_binds [] (c ∷ cs) y v
  guarded_binds (b ∷ bs) cs y v = sequence_binds (b ∷ bs) cs y v

  excluded_placed : (x : Symbol) (fs : List Filter) (v : Visible) → Placed N x v → Placed N (with_filters x fs) v
  excluded_placed x [] v p = p
  excluded_placed x (f ∷ fs) v p = (filtered v x (f ∷ fs), p)

  excluded_binds : (x : Symbol) (fs : List Filter) (v : Visible) → binds v (with_filters x fs) ≡ binds v x
  excluded_binds x [] v = refl
  excluded_binds x (f ∷ fs) v = refl

  label_placed : (name : List ℕ) (x : Symbol) (v : Visible) → Placed N (Label name x) v → Placed N (attached (Label name x)) v × (binds v (attached (Label name x)) ≡ binds v (Label name x))
  label_placed name (Filtered x fs) v p = (
    guarded_placed (befores fs) (afters fs) (Label name (with_filters x (exclusions fs))) v (tests_before fs) (tests_behind fs)
        (labels name (Filtered x fs) (with_filters x (exclusions fs)) v p.0, excluded_placed x (exclusions fs) v p.1.1),
    guarded_binds (befores fs) (afters fs) (Label name (with_filters x (exclusions fs))) v ∙ ap (λ b. b ++ (name, kind.Span) ∷ []) (excluded_binds x (exclusions fs) v),
  )
  label_placed name x v p = (p, refl)

  -- what no condition holds of, and what is bound, the own rule keeps
  pub attached_placed : (x : Symbol) (v : Visible) → Placed N x v → Placed N (attached x) v × (binds v (attached x) ≡ binds v x)
  attached_placed (Label name x) v p = label_placed name x v p
  attached_placed (Filtered x fs) v p = (
    guarded_placed (befores fs) (afters fs) (with_filters x (exclusions fs)) v (tests_before fs) (tests_behind fs) (excluded_placed x (exclusions fs) v p.1),
    guarded_binds (befores fs) (afters fs) (with_filters x (exclusions fs)) v ∙ excluded_binds x (exclusions fs) v,
  )
  attached_placed x v p = (p, refl)
