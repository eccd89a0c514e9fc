-- Where no literal of a grammar is empty, none of its core grammar is.
use Rattle.std.proofs.Common.{◌≡◌, ℕ, List, [], ◌∷◌, All, map, Option, Some, None, Contains, sym, ap, ◌∙◌, subst}
use Rattle.std.specs.List.{flat_map}
use Rattle.std.proofs.lemmas.List.{append-nil}
use Rattle.std.proofs.lemmas.List.Elements.{All-nil, All-cons, All-head, All-tail, All-append}
use Rattle.ig_text.specs.Input.{untabbed}
use Rattle.ig_text.specs.declared.pattern.Pattern.{Pattern}
use Rattle.ig_text.specs.declared.pattern.Pattern.TheVariants as pattern
use Rattle.ig_text.proofs.Lists.{contains_from_at}
use Rattle.ig_text.specs.Pattern.{HasNoEmptyLiteral}
use Rattle.ig_expr.specs.Expression.{Expression, patterns_in}
use Rattle.ig_grammar.specs.Symbol.{Symbol, Literal, OneOf, Call, Label, Guard, Let, Filtered, gathered, next_symbol}
use Rattle.ig_grammar.specs.Numbering.{alternatives, IsAlternative}
use Rattle.ig_grammar.specs.ByForm.{own_part, inner_parts, symbols_hold}
use Rattle.ig_grammar.specs.Regular.{pattern_of, IsPlaced, AlternativesStandWell, OfEachLevel}
use Rattle.ig_grammar.specs.Standing.{StandsWell, SymbolsStandWell}
use Rattle.ig_grammar.specs.declared.filter.Filter.{Filter}
use Rattle.ig_grammar.specs.declared.filter.Filter.TheVariants.{Not}
use Rattle.ig_grammar.specs.declared.declaration.Decl.{Decl}
use Rattle.ig_grammar.specs.declared.grammar.Grammar.{Grammar}
use Rattle.ig_grammar.specs.declared.place.Shape.{Shape}
use Rattle.ig_item.specs.Regular.{IsRegularStep, IsRegular}
use Rattle.ig_item.specs.declared.core_grammar.Nonterminal.{Nonterminal}
use Rattle.ig_item.specs.declared.core_grammar.CoreAlt.{CoreAlt}
use Rattle.ig_pass.specs.EachLevel.{everywhere, alternative_at as without_level}
use Rattle.ig_pass.specs.Remaining.{IsTerm, IsExcluding, Remains, exclusions, excluded_of, unfiltered}
use Rattle.ig_core.specs.CoreOf.{Shaped, written_root, number_of, core_of}
use Rattle.ig_core.specs.Laws.{PassesKeep, CoresAreRegular}
use Rattle.ig_core.specs.Lowered.{CoreOf, Lowered}
use Rattle.ig_core.specs.Ready.{IsReady}
use Rattle.ig_core.specs.Steps.{step_with, step_of, steps_of}
use Rattle.ig_core.proofs.Law.{written_is, calls_are, start_calls}
use Rattle.ig_core.proofs.Scoped.{Any}
use Rattle.ig_core.proofs.WellKinded.{Row, declared_row, made_row, row, Member, member, core_has}

-- so are the patterns of exclusions, where those of all filters are
excluded_have : (filters : List Filter) → All HasNoEmptyLiteral (map pattern_of filters) → All HasNoEmptyLiteral (exclusions filters)
excluded_have [] all = all
excluded_have (Not p ∷ filters) all =
    All-cons HasNoEmptyLiteral p (exclusions filters)
    (All-head HasNoEmptyLiteral p (map pattern_of filters) all)
    (excluded_have filters (All-tail HasNoEmptyLiteral p (map pattern_of filters) all))
excluded_have (f ∷ filters) all =
    excluded_have filters (All-tail HasNoEmptyLiteral (pattern_of f) (map pattern_of filters) all)

-- the patterns of one expression alone
alone : (e : Expression) → All HasNoEmptyLiteral (flat_map patterns_in (e ∷ [])) → All HasNoEmptyLiteral (patterns_in e)
alone e all = subst (All HasNoEmptyLiteral) (append-nil (patterns_in e)) all

module _ (number : List ℕ → ℕ) where
  -- the step of a literal, a class or a call
  term_regular : (label : Option (List ℕ)) (excluded : List Pattern) (x : Symbol) → IsTerm Any x → StandsWell x →
      All HasNoEmptyLiteral excluded → IsRegularStep (step_with number label excluded x)
  term_regular label excluded (Literal word) is well all =
      All-cons HasNoEmptyLiteral (pattern.Literal word) excluded
      (All-head HasNoEmptyLiteral (pattern.Literal word) [] (own_part IsPlaced (Literal word) well).0) all
  term_regular label excluded (OneOf class) is well all = All-cons HasNoEmptyLiteral (pattern.OneOf class) excluded tt all
  term_regular label excluded (Call name arguments) is well all =
      All-append HasNoEmptyLiteral (flat_map patterns_in arguments) excluded (own_part IsPlaced (Call name arguments) well).0 all
  term_regular label excluded x is well all = absurd is

  -- maybe with exclusions
  excluding_regular : (label : Option (List ℕ)) (x : Symbol) → IsExcluding Any x → StandsWell x →
      IsRegularStep (step_with number label (excluded_of x) (unfiltered x))
  excluding_regular label (Filtered x filters) is well =
      term_regular label (exclusions filters) x is.1 (inner_parts IsPlaced (Filtered x filters) well)
      (excluded_have filters (own_part IsPlaced (Filtered x filters) well).0)
  excluding_regular label (Literal word) is well = term_regular label [] (Literal word) tt well (All-nil HasNoEmptyLiteral)
  excluding_regular label (OneOf class) is well = term_regular label [] (OneOf class) tt well (All-nil HasNoEmptyLiteral)
  excluding_regular label (Call name arguments) is well =
      term_regular label [] (Call name arguments) is well (All-nil HasNoEmptyLiteral)
  excluding_regular label x is well = absurd is

  -- the step of a symbol that remains
  step_regular : (x : Symbol) → Remains Any x → StandsWell x → IsRegularStep (step_of number x)
  step_regular (Label name x) is well = excluding_regular (Some name) x is (inner_parts IsPlaced (Label name x) well)
  step_regular (Guard condition) is well = alone condition (own_part IsPlaced (Guard condition) well).0
  step_regular (Let name value) is well = alone value (own_part IsPlaced (Let name value) well).0
  step_regular (Filtered x filters) is well = excluding_regular None (Filtered x filters) is well
  step_regular (Literal word) is well = excluding_regular None (Literal word) is well
  step_regular (OneOf class) is well = excluding_regular None (OneOf class) is well
  step_regular (Call name arguments) is well = excluding_regular None (Call name arguments) is well
  step_regular x is well = absurd is

  -- and those of an alternative
  steps_regular : (xs : List Symbol) → All (Remains Any) xs → SymbolsStandWell (gathered xs) →
      All IsRegularStep (steps_of number xs)
  steps_regular [] all well = All-nil IsRegularStep
  steps_regular (x ∷ xs) all well =
      let by = symbols_hold IsPlaced (next_symbol x (gathered xs)) well in
      All-cons IsRegularStep (step_of number x) (steps_of number xs)
      (step_regular x (All-head (Remains Any) x xs all) by.0)
      (steps_regular xs (All-tail (Remains Any) x xs all) by.1)

module _ (g : Grammar) (shapes : List Shape) (ready : IsReady g shapes) (well : OfEachLevel AlternativesStandWell g) where
  abbrev number_here : List ℕ → ℕ
  number_here = number_of g shapes

  -- the steps of an alternative of a declaration, or of the root that is made
  alternative_regular : (n a : ℕ) (nonterminal : Nonterminal) (alternative : CoreAlt)
      (m : Member g shapes ready.scoped ready.fit ready.remaining n a nonterminal alternative) →
      Row g shapes ready.scoped ready.fit ready.remaining n m.x → All IsRegularStep alternative.steps
  alternative_regular n a nonterminal alternative m (declared_row k at shape_at) =
      let a_in : Contains (alternatives m.x.decl.levels) m.of.a.alternative =
      contains_from_at (alternatives m.x.decl.levels) m.of.numbered.0 m.of.a.alternative
      (without_level m.x.decl.levels m.of.numbered.0 m.of.a m.of.numbered.2) in
      subst (All IsRegularStep) (sym (ap (λ (z : CoreAlt). z.steps) m.of.same))
      (steps_regular number_here m.of.a.alternative.symbols
      (ready.remaining.forms m.x.decl m.of.a.alternative (contains_from_at g.decls k m.x.decl at) a_in)
      (everywhere IsPlaced g well k a m.x.decl m.of.a at m.of.numbered))
  alternative_regular n a nonterminal alternative m (made_row is none) =
      let has = core_has g shapes ready.scoped ready.fit ready.remaining in
      let root : m.x.decl ≡ written_root g = ap (λ (z : Shaped). z.decl) is in
      let symbols_are = written_is g shapes (untabbed []) has a m.of.a (subst (λ (z : Decl). IsAlternative z a m.of.a) root m.of.numbered) in
      let steps_same : steps_of number_here (start_calls g shapes (untabbed []) has) ≡ alternative.steps =
      ap (steps_of number_here) (sym symbols_are) ∙ sym (ap (λ (z : CoreAlt). z.steps) m.of.same) in
      subst (All IsRegularStep) (ap (steps_of number_here) (sym (calls_are g shapes (untabbed []) has)) ∙ steps_same)
      (All-cons IsRegularStep (step_of number_here (Call has.started.0 [])) [] (All-nil HasNoEmptyLiteral) (All-nil IsRegularStep))

-- the core grammar of what all passes leave
left_regular : (g : Grammar) (shapes : List Shape) → IsReady g shapes → OfEachLevel AlternativesStandWell g →
    IsRegular (core_of g shapes)
left_regular g shapes ready well n a nonterminal alternative is =
    let m = member g shapes ready.scoped ready.fit ready.remaining n a nonterminal alternative is in
    alternative_regular g shapes ready well n a nonterminal alternative m
    (row g shapes ready.scoped ready.fit ready.remaining n m.x m.at)

pub cores_regular : PassesKeep → CoresAreRegular
unfolding CoreOf
cores_regular keep c can numbered =
    let left = keep c can numbered in
    left_regular (Lowered c).grammar (Lowered c).shapes left.ready left.well
