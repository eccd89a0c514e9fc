-- The filters pass keeps a grammar well scoped.
use Rattle.std.proofs.Common.{◌≡◌, ◌∙◌, ℕ, ◌+◌, List, [], ◌∷◌, ◌++◌, map, refl, ap, inl, arith}
use Rattle.ig_expr.specs.Expression.{Expression}
use Rattle.ig_grammar.specs.Name.{is_name}
use Rattle.ig_grammar.specs.Symbol.{Symbol, Label, Guard, Filtered, gathered}
use Rattle.ig_grammar.specs.Regular.{AlternativesHaveNoMark, OfEachLevel}
use Rattle.ig_grammar.specs.WellScoped.{IsWellScoped}
use Rattle.ig_grammar.specs.declared.filter.Filter.{Filter}
use Rattle.ig_grammar.specs.declared.grammar.Grammar.{Grammar}
use Rattle.ig_pass.specs.Found.{DeclarationsAreFound}
use Rattle.ig_pass.specs.Rewriting.{rewritten_grammar}
use Rattle.ig_lexical.specs.Filters.{befores, afters, exclusions, with_filters, guarded, attached}
use Rattle.ig_lexical.proofs.AttachingPlaced.{attached_placed}
use Rattle.ig_pass.specs.Asked.{Asks}
use Rattle.ig_pass.specs.Passing.{ResultsAreReady}
use Rattle.ig_pass.specs.Binders.{one_if, binders, binders_of_symbols}
use Rattle.ig_lexical.proofs.RewrittenScoped.{KeepsKinds, turned_is_well_scoped}

guards_bind_none : (es : List Expression) → binders_of_symbols (gathered (map Guard es)) ≡ 0
guards_bind_none [] = refl
guards_bind_none (e ∷ es) = let h = guards_bind_none es in omega (arith, h)

behind_guards : (es : List Expression) (xs : List Symbol) → binders_of_symbols (gathered (map Guard es ++ xs)) ≡ binders_of_symbols (gathered xs)
behind_guards [] xs = refl
behind_guards (e ∷ es) xs = let h = behind_guards es xs in omega (arith, h)

in_sequence : (bs cs : List Expression) (y : Symbol) → binders_of_symbols (gathered (map Guard bs ++ y ∷ map Guard cs)) ≡ binders y
in_sequence bs cs y =
    let a = behind_guards bs (y ∷ map Guard cs) in
    let b = guards_bind_none cs in
    let c : binders_of_symbols (gathered (y ∷ map Guard cs)) ≡ binders y + binders_of_symbols (gathered (map Guard cs)) = refl in
    omega (arith, a, b, c)

guarded_binders : (bs cs : List Expression) (y : Symbol) → binders (guarded bs cs y) ≡ binders y
guarded_binders [] [] y = refl
guarded_binders [] (c ∷ cs) y = in_sequence [] (c ∷ cs) y
guarded_binders (b ∷ bs) cs y = in_sequence (b ∷ bs) cs y

excluded_binders : (x : Symbol) (fs : List Filter) → binders (with_filters x fs) ≡ binders x
excluded_binders x [] = refl
excluded_binders x (f ∷ fs) = refl

labelled_binders : (name : List ℕ) (x : Symbol) → binders (attached (Label name x)) ≡ binders (Label name x)
labelled_binders name (Filtered x fs) =
    guarded_binders (befores fs) (afters fs) (Label name (with_filters x (exclusions fs))) ∙ ap (λ n. one_if (is_name name) + n) (excluded_binders x (exclusions fs))
labelled_binders name x = refl

attached_binders : (x : Symbol) → binders (attached x) ≡ binders x
attached_binders (Label name x) = labelled_binders name x
attached_binders (Filtered x fs) =
    guarded_binders (befores fs) (afters fs) (with_filters x (exclusions fs)) ∙ excluded_binders x (exclusions fs)
attached_binders x = refl

pub same_kinds : KeepsKinds (λ kind. kind)
same_kinds = record { kept = λ k. inl refl; lexical = λ k i. i; syntax = λ k e. e; layout = λ k e. e }

pub attached_is_well_scoped : ResultsAreReady → DeclarationsAreFound → (g : Grammar) → IsWellScoped g → OfEachLevel AlternativesHaveNoMark g →
    IsWellScoped (rewritten_grammar (λ decl. attached) g)
attached_is_well_scoped passes found g scoped none =
    turned_is_well_scoped passes found (λ kind. kind) (λ decl. attached) same_kinds g scoped none
    (λ decl x v p. attached_placed (Asks g.decls decl.kind) (λ w xs. tt) (λ w y fs. tt) (λ w e t. t.truth) (λ name y z w asks. asks) x v p)
    (λ decl x. attached_binders x)
