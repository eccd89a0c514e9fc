-- The core grammar of a checked grammar is well kinded, and its tags rise.
use Rattle.std.proofs.Common.{◌≡◌, ℕ, zero, suc, ◌<◌, ◌≤◌, ◌+◌, List, [], ◌∷◌, ◌++◌, All, Some, None, Bool, true, false, if◌then◌else◌, length, map, slice_get, Contains, refl, sym, ap, ◌∙◌, subst, arith, inl, inr, take, ◌==◌}
use Rattle.std.specs.Prelude.{◌≢◌, ◌⊎◌}
use Rattle.std.specs.List.{flat_map}
use Rattle.std.proofs.lemmas.List.{length-map}
use Rattle.std.proofs.lemmas.Option.{same_Some, slice_get_within}
use Rattle.std.proofs.lemmas.List.Elements.{All-head, All-tail}
use Rattle.ig_text.specs.Input.{untabbed}
use Rattle.ig_text.specs.declared.tag.Tag.{Tag}
use Rattle.ig_text.specs.declared.tag.Tag.TheVariants as tag
use Rattle.ig_text.specs.TagNumber as tag_number
use Rattle.ig_text.proofs.Differing.{all_differ}
use Rattle.ig_text.proofs.Lists.{contains_from_at, at_from_contains}
use Rattle.ig_text.proofs.Numbers.{from_zero}
use Rattle.ig_grammar.specs.Symbol.{Symbol, Call, Seq}
use Rattle.ig_grammar.specs.Visible.{names, kinds, parameters}
use Rattle.ig_grammar.specs.Condition.{duplicate_parameter}
use Rattle.ig_grammar.specs.Condition as condition
use Rattle.ig_grammar.specs.Numbering.{IsAlternative, alternatives, tag_of, tag_among}
use Rattle.ig_grammar.specs.WellScoped.{IsWellScoped}
use Rattle.ig_grammar.specs.Checked.{FitShapes, MayHave, IsOfCalls}
use Rattle.ig_grammar.specs.declared.declaration.Param.{Param}
use Rattle.ig_grammar.specs.declared.declaration.Decl.{Decl}
use Rattle.ig_grammar.specs.declared.symbol.Alt.{Alt}
use Rattle.ig_grammar.specs.declared.grammar.Grammar.{Grammar}
use Rattle.ig_grammar.specs.declared.place.Shape.{Shape}
use Rattle.ig_grammar.specs.declared.place.Shape.TheVariants.{Rule, Opt, Star, Plus, SepPlus, SepStar, Group, Root}
use Rattle.ig_item.specs.Step.{names_of}
use Rattle.ig_item.specs.Step as step
use Rattle.ig_item.specs.Core.{IsAlternative as IsCoreAlternative, dots}
use Rattle.ig_item.specs.TagOrder.{TagsRise}
use Rattle.ig_item.specs.WellKinded.{NoneTwice, HasRoot, IsWellKinded}
use Rattle.ig_item.specs.declared.core_grammar.Nonterminal.{Nonterminal}
use Rattle.ig_item.specs.declared.core_grammar.CoreAlt.{CoreAlt}
use Rattle.ig_item.specs.Limits.{most_dots}
use Rattle.ig_core.specs.Limits.{most_declarations}
use Rattle.ig_item.specs.Fitting.{AreFit, no_steps, next_step}
use Rattle.ig_item.specs.Laws.{StepsFit, NamesDiffer}
use Rattle.ig_pass.specs.Remaining.{Remains}
use Rattle.ig_core.specs.Steps.{steps_of}
use Rattle.ig_core.specs.CoreOf.{Shaped, shaped, unrooted, numbered, number_of, nonterminal_of, nonterminals_of, core_of, written_root, root_of}
use Rattle.ig_pass.specs.Rooted.{is_root}
use Rattle.ig_core.proofs.Premises.{HasCore}
use Rattle.ig_core.specs.Laws.{CoresAreWellKinded}
use Rattle.ig_core.specs.Ready.{IsReady}
use Rattle.ig_pass.specs.Remaining.{IsRemaining}
use Rattle.ig_core.proofs.Places.{origin, root_cases, RootAt, NoRoot, nonterminal_from}
use Rattle.ig_pass.specs.EachLevel.{alternative_at as without_level}
use Rattle.ig_core.proofs.Law.{AtNumber, at_number, written_is, start_calls, calls_are, may_start, callee, rooted_root, unrooted_root}
use Rattle.ig_core.proofs.Scoped.{Any, has_core, each_fine, root_at}
use Rattle.ig_core.proofs.Kinded.{all_fit}

-- the tag of an alternative has its number
number_of_two : (first second : Tag) → tag_number.number_of first ≡ 1 → tag_number.number_of second ≡ 2 → (a : ℕ) → 1 ≤ a → a ≤ 2 →
    tag_number.number_of (tag_among first second a) ≡ a
number_of_two first second one two zero p q = absurd (omega arith)
number_of_two first second one two (suc zero) p q = one
number_of_two first second one two (suc (suc zero)) p q = two
number_of_two first second one two (suc (suc (suc a))) p q = absurd (omega arith)

number_of_tag : (shape : Shape) (count n a : ℕ) → MayHave shape count → 1 ≤ a → a ≤ count → tag_number.number_of (tag_of shape n a) ≡ a
number_of_tag Rule count n a may p q = refl
number_of_tag Group count n a may p q = refl
number_of_tag Root count n a may p q = omega (arith, may)
number_of_tag Opt count n a may p q = number_of_two tag.Absent tag.Present refl refl a p (omega (arith, may))
number_of_tag Star count n a may p q = number_of_two tag.Nil tag.Snoc refl refl a p (omega (arith, may))
number_of_tag Plus count n a may p q = number_of_two tag.One tag.More refl refl a p (omega (arith, may))
number_of_tag SepPlus count n a may p q = number_of_two tag.One tag.More refl refl a p (omega (arith, may))
number_of_tag SepStar count n a may p q = number_of_two tag.Absent tag.Present refl refl a p (omega (arith, may))

no_rule : (first second : Tag) (m k : ℕ) → first ≢ tag.Rule m k → second ≢ tag.Rule m k → (a : ℕ) → tag_among first second a ≡ tag.Rule m k → ⊥
no_rule first second m k f s a e = go (a == 1) e
  where
    go : (b : Bool) → (if b then first else second) ≡ tag.Rule m k → ⊥
    go true h = f h
    go false h = s h

rule_number : (shape : Shape) (n a m k : ℕ) → tag_of shape n a ≡ tag.Rule m k → m ≡ n
rule_number Rule n a m k e = cc
rule_number Group n a m k e = cc
rule_number Root n a m k e = cc
rule_number Opt n a m k e = absurd (no_rule tag.Absent tag.Present m k (λ h. cc) (λ h. cc) a e)
rule_number Star n a m k e = absurd (no_rule tag.Nil tag.Snoc m k (λ h. cc) (λ h. cc) a e)
rule_number Plus n a m k e = absurd (no_rule tag.One tag.More m k (λ h. cc) (λ h. cc) a e)
rule_number SepPlus n a m k e = absurd (no_rule tag.One tag.More m k (λ h. cc) (λ h. cc) a e)
rule_number SepStar n a m k e = absurd (no_rule tag.Absent tag.Present m k (λ h. cc) (λ h. cc) a e)

-- a root alternative binds nothing
calls_unbound : (number : List ℕ → ℕ) (xs : List Symbol) → All (Remains Any) xs → All IsOfCalls xs → flat_map names_of (steps_of number xs) ≡ []
calls_unbound number [] remain calls = refl
calls_unbound number (Call n es ∷ xs) remain calls =
    calls_unbound number xs (All-tail (Remains Any) (Call n es) xs remain) (All-tail IsOfCalls (Call n es) xs calls)
calls_unbound number (Seq ys ∷ xs) remain calls = absurd (All-head (Remains Any) (Seq ys) xs remain)
calls_unbound number (x ∷ xs) remain calls = absurd (All-head IsOfCalls x xs calls)

nonterminals_length : (number : List ℕ → ℕ) (n : ℕ) (all : List Shaped) → length (nonterminals_of number n all) ≡ length all
nonterminals_length number n [] = refl
nonterminals_length number n (x ∷ all) = ap suc (nonterminals_length number (suc n) all)

pub unrooted_few : (decls : List Decl) (shapes : List Shape) → length (unrooted decls shapes) ≤ length decls
unrooted_few [] shapes = omega arith
unrooted_few (d ∷ decls) [] = omega arith
unrooted_few (d ∷ decls) (s ∷ shapes) = go (is_root s) (unrooted_few decls shapes)
  where
    go : (b : Bool) → length (unrooted decls shapes) ≤ length decls →
        length (if b then unrooted decls shapes else shaped d s ∷ unrooted decls shapes) ≤ suc (length decls)
    go true h = omega (arith, h)
    go false h = omega (arith, h)

param_names : (ps : List Param) → names (parameters ps) ≡ map (λ p. p.name) ps
param_names [] = refl
param_names (p ∷ ps) = ap (λ z. p.name ∷ z) (param_names ps)

param_kinds : (ps : List Param) → kinds (parameters ps) ≡ map (λ p. p.kind) ps
param_kinds [] = refl
param_kinds (p ∷ ps) = ap (λ z. p.kind ∷ z) (param_kinds ps)

param_at : (ps : List Param) (j : ℕ) (name : List ℕ) → slice_get (names (parameters ps)) j ≡ Some name → (p : Param) × (slice_get ps j ≡ Some p) × (p.name ≡ name)
param_at [] j name e = cc
param_at (p ∷ ps) zero name e = (p, refl, cc)
param_at (p ∷ ps) (suc j) name e = param_at ps j name e

taken_names : (ps : List Param) (j : ℕ) → take j (names (parameters ps)) ≡ names (parameters (take j ps))
taken_names [] zero = refl
taken_names [] (suc j) = refl
taken_names (p ∷ ps) zero = refl
taken_names (p ∷ ps) (suc j) = ap (λ z. p.name ∷ z) (taken_names ps j)

module _ (g : Grammar) (shapes : List Shape) (scoped : IsWellScoped g) (fit : FitShapes g shapes) (remaining : IsRemaining g) where
  abbrev pub core : List Nonterminal
  core = core_of g shapes

  abbrev pub number : List ℕ → ℕ
  number = number_of g shapes

  pub core_has : HasCore g shapes
  core_has = has_core g shapes scoped fit remaining

  -- a declaration of the grammar, or the root that is made
  pub data Row (n : ℕ) (x : Shaped) : Type 0 where
    declared_row : (k : ℕ) → slice_get g.decls k ≡ Some x.decl → slice_get shapes k ≡ Some x.shape → Row n x
    made_row : x ≡ shaped (written_root g) Root → NoRoot g.decls shapes → Row n x

  pub row : (n : ℕ) (x : Shaped) → slice_get (numbered g shapes) n ≡ Some x → Row n x
  row zero x e = go (root_cases g.decls shapes)
    where
      is : shaped (root_of g shapes) Root ≡ x
      is = same_Some (shaped (root_of g shapes) Root) x e

      go : ((Rattle.ig_core.specs.CoreOf.root_among g.decls shapes ≡ None) × NoRoot g.decls shapes) ⊎ ((decl : Decl) × RootAt g.decls shapes decl) → Row 0 x
      go (inl none) = made_row (sym is ∙ ap (λ z. shaped z Root) (unrooted_root g shapes (untabbed []) core_has none.0)) none.1
      go (inr at) =
          let same : shaped at.0 Root ≡ x = ap (λ z. shaped z Root) (sym (rooted_root g shapes (untabbed []) core_has at.0 at.1)) ∙ is in
          declared_row at.1.k (at.1.decl_at ∙ ap (λ (z : Shaped). Some z.decl) same) (at.1.shape_at ∙ ap (λ (z : Shaped). Some z.shape) same)
  row (suc m) x e = let o = origin g.decls shapes m x e in declared_row o.k o.decl_at o.shape_at

  -- parameters differ
  parameters_differ : (k : ℕ) (decl : Decl) → slice_get g.decls k ≡ Some decl → NoneTwice (names (parameters decl.params))
  parameters_differ k decl at =
      all_differ (names (parameters decl.params)) (λ j name e earlier.
      let p = param_at decl.params j name e in
      scoped (record { decl = suc k; alt = 0; symbol = 0 }) condition.DuplicateVariable (
        decl,
        at,
        duplicate_parameter j p.0 p.1 (subst (λ (z : List (List ℕ)). Contains z p.0.name) (taken_names decl.params j)
            (subst (Contains (take j (names (parameters decl.params)))) (sym p.2) earlier)),
      ))

  -- an alternative of the core grammar
  pub record Member (n a : ℕ) (nonterminal : Nonterminal) (alternative : CoreAlt) : Type 0 where
    pub x : Shaped
    pub at : slice_get (numbered g shapes) n ≡ Some x
    pub is : nonterminal ≡ nonterminal_of number n x
    pub of : AtNumber number n a x nonterminal alternative

  pub member : (n a : ℕ) (nonterminal : Nonterminal) (alternative : CoreAlt) → IsCoreAlternative core n a nonterminal alternative → Member n a nonterminal alternative
  member n a nonterminal alternative has =
      let from = nonterminal_from number 0 (numbered g shapes) n nonterminal has.there in
      let is : nonterminal ≡ nonterminal_of number n from.0 = from.2 ∙ ap (λ z. nonterminal_of number z from.0) (from_zero n) in
      record { x = from.0; at = from.1; is = is; of = at_number number n a from.0 nonterminal alternative is has.has }

  record Fitting (nonterminal : Nonterminal) (alternative : CoreAlt) : Type 0 where
    fits : AreFit core nonterminal.params nonterminal.kinds alternative.steps
    differ : NoneTwice (nonterminal.params ++ flat_map names_of alternative.steps)

  -- the call of the start fits
  made_fits : NoRoot g.decls shapes → AreFit core [] [] (steps_of number (start_calls g shapes (untabbed []) core_has))
  made_fits none =
      let may = may_start g shapes (untabbed []) core_has none in
      let start = core_has.started.0 in
      let there = callee g shapes (untabbed []) core_has start 0 may in
      subst (λ z. AreFit core [] [] (steps_of number z)) (sym (calls_are g shapes (untabbed []) core_has))
      (next_step [] [] [] (step.Call (number start) [] None []) [] refl tt
      (nonterminal_of number (number start) there.0, there.1, no_kinds there.0.decl.params (ap (λ (z : Decl). length z.params) there.2 ∙ may.7)) (no_steps [] []))
    where
      no_kinds : (ps : List Param) → length ps ≡ 0 → [] ≡ map Some (map (λ p. p.kind) ps)
      no_kinds [] e = refl
      no_kinds (p ∷ ps) e = cc

  fitting : (n a : ℕ) (nonterminal : Nonterminal) (alternative : CoreAlt) → Member n a nonterminal alternative → Fitting nonterminal alternative
  fitting n a nonterminal alternative m = go (row n m.x m.at)
    where
      steps_are : alternative.steps ≡ steps_of number m.of.a.alternative.symbols
      steps_are = ap (λ (z : CoreAlt). z.steps) m.of.same

      params_are : nonterminal.params ≡ map (λ p. p.name) m.x.decl.params
      params_are = ap (λ (z : Nonterminal). z.params) m.is

      kinds_are : nonterminal.kinds ≡ map (λ p. p.kind) m.x.decl.params
      kinds_are = ap (λ (z : Nonterminal). z.kinds) m.is

      go : Row n m.x → Fitting nonterminal alternative
      go (declared_row k at shape_at) =
          let a_in : Contains (alternatives m.x.decl.levels) m.of.a.alternative =
          contains_from_at (alternatives m.x.decl.levels) m.of.numbered.0 m.of.a.alternative
          (without_level m.x.decl.levels m.of.numbered.0 m.of.a m.of.numbered.2) in
          let decl_in : Contains g.decls m.x.decl = contains_from_at g.decls k m.x.decl at in
          let all =
          all_fit g shapes scoped fit remaining m.x.decl (parameters m.x.decl.params) m.of.a.alternative.symbols
          (each_fine g shapes scoped fit remaining m.x.decl m.of.a.alternative decl_in a_in) (remaining.forms m.x.decl m.of.a.alternative decl_in a_in) in
          let names_same : names (parameters m.x.decl.params) ≡ nonterminal.params = param_names m.x.decl.params ∙ sym params_are in
          let kinds_same : kinds (parameters m.x.decl.params) ≡ nonterminal.kinds = param_kinds m.x.decl.params ∙ sym kinds_are in
          record {
            fits =
                subst (λ z. AreFit core nonterminal.params nonterminal.kinds z) (sym steps_are)
                (subst (λ z. AreFit core nonterminal.params z (steps_of number m.of.a.alternative.symbols)) kinds_same
                (subst (λ z. AreFit core z (kinds (parameters m.x.decl.params)) (steps_of number m.of.a.alternative.symbols)) names_same all.fits));
            differ =
                subst (λ z. NoneTwice (nonterminal.params ++ flat_map names_of z)) (sym steps_are)
                (subst (λ z. NoneTwice (z ++ flat_map names_of (steps_of number m.of.a.alternative.symbols))) names_same
                (all.differ (parameters_differ k m.x.decl at)));
          }
      go (made_row is none) =
          let root : m.x.decl ≡ written_root g = ap (λ (z : Shaped). z.decl) is in
          let symbols_are = written_is g shapes (untabbed []) core_has a m.of.a (subst (λ (z : Decl). IsAlternative z a m.of.a) root m.of.numbered) in
          let steps_same : steps_of number (start_calls g shapes (untabbed []) core_has) ≡ alternative.steps = ap (steps_of number) (sym symbols_are) ∙ sym steps_are in
          let no_params : [] ≡ nonterminal.params = ap (λ (z : Decl). map (λ p. p.name) z.params) (sym root) ∙ sym params_are in
          let no_kinds : [] ≡ nonterminal.kinds = ap (λ (z : Decl). map (λ p. p.kind) z.params) (sym root) ∙ sym kinds_are in
          let unbound : [] ≡ nonterminal.params ++ flat_map names_of alternative.steps =
          ap (λ z. [] ++ flat_map names_of (steps_of number z)) (sym (calls_are g shapes (untabbed []) core_has)) ∙
          ap (λ z. z ++ flat_map names_of (steps_of number (start_calls g shapes (untabbed []) core_has))) no_params ∙
          ap (λ z. nonterminal.params ++ flat_map names_of z) steps_same in
          record {
            fits =
                subst (λ z. AreFit core nonterminal.params nonterminal.kinds z) steps_same
                (subst (λ z. AreFit core nonterminal.params z (steps_of number (start_calls g shapes (untabbed []) core_has))) no_kinds
                (subst (λ z. AreFit core z [] (steps_of number (start_calls g shapes (untabbed []) core_has))) no_params (made_fits none)));
            differ = subst (λ (z : List (List ℕ)). NoneTwice z) unbound (λ i j name e f. cc);
          }

  -- how many alternatives there are
  counted : (n : ℕ) (x : Shaped) → Row n x → MayHave x.shape (length (alternatives x.decl.levels))
  counted n x (declared_row k at shape_at) = (fit.each k x.decl x.shape at shape_at).count
  counted n x (made_row is none) =
      subst (λ (z : Shaped). MayHave z.shape (length (alternatives z.decl.levels))) (sym is) refl

  own_number : (n a : ℕ) (nonterminal : Nonterminal) (alternative : CoreAlt) → IsCoreAlternative core n a nonterminal alternative →
      tag_number.number_of alternative.tag ≡ a
  own_number n a nonterminal alternative has =
      let m = member n a nonterminal alternative has in
      let within = slice_get_within (alternatives m.x.decl.levels) m.of.numbered.0 m.of.a.alternative (without_level m.x.decl.levels m.of.numbered.0 m.of.a m.of.numbered.2) in
      let is : a ≡ suc m.of.numbered.0 = m.of.numbered.1 in
      ap (λ (z : CoreAlt). tag_number.number_of z.tag) m.of.same ∙
      number_of_tag m.x.shape (length (alternatives m.x.decl.levels)) n a (counted n m.x (row n m.x m.at)) (omega (arith, is)) (omega (arith, is, within))

  tags : (n a : ℕ) (nonterminal : Nonterminal) (alternative : CoreAlt) → IsCoreAlternative core n a nonterminal alternative →
      (b : ℕ) (other : CoreAlt) → IsCoreAlternative core n b nonterminal other → other.tag ≡ alternative.tag → b ≡ a
  tags n a nonterminal alternative has b other has_b same =
      sym (own_number n b nonterminal other has_b) ∙ ap tag_number.number_of same ∙ own_number n a nonterminal alternative has

  pub rise : TagsRise core
  rise n a nonterminal alternative has b later has_b less =
      let first = own_number n a nonterminal alternative has in
      let second = own_number n b nonterminal later has_b in
      omega (arith, first, second, less)

  has_root : HasRoot core
  has_root = go (root_cases g.decls shapes)
    where
      go : ((Rattle.ig_core.specs.CoreOf.root_among g.decls shapes ≡ None) × NoRoot g.decls shapes) ⊎ ((decl : Decl) × RootAt g.decls shapes decl) → HasRoot core
      go (inl none) =
          record {
            nonterminal = nonterminal_of number 0 (shaped (written_root g) Root);
            alternative = record { tag = tag.Root; steps = steps_of number (Rattle.ig_core.specs.CoreOf.start_symbols g g.start) };
            first = ap (λ z. Some (nonterminal_of number 0 (shaped z Root))) (unrooted_root g shapes (untabbed []) core_has none.0);
            plain = refl;
            single = refl;
            unbound =
                ap (λ z. flat_map names_of (steps_of number z))
                (Rattle.ig_core.proofs.Law.symbols_are g shapes (untabbed []) core_has ∙ calls_are g shapes (untabbed []) core_has);
          }
      go (inr at) = single_root at.0 at.1 (alternatives at.0.levels) refl (core_has.rooted at.1.k at.0 at.1.decl_at at.1.shape_at).1
        where
          single_root : (decl : Decl) (r : RootAt g.decls shapes decl) (alts : List Alt) → alternatives decl.levels ≡ alts → length (alternatives decl.levels) ≡ 1 → HasRoot core
          single_root decl r [] is one = let e : length (alternatives decl.levels) ≡ 0 = ap length is in absurd (omega (arith, e, one))
          single_root decl r (b ∷ c ∷ others) is one =
              let e : length (alternatives decl.levels) ≡ suc (suc (length others)) = ap length is in absurd (omega (arith, e, one))
          single_root decl r (alt ∷ []) is one =
              let among : Contains (alternatives decl.levels) alt = subst (λ (z : List Alt). Contains z alt) (sym is) (0, omega arith, refl) in
              record {
                nonterminal = nonterminal_of number 0 (shaped decl Root);
                alternative = record { tag = tag.Root; steps = steps_of number alt.symbols };
                first = ap (λ z. Some (nonterminal_of number 0 (shaped z Root))) (rooted_root g shapes (untabbed []) core_has decl r);
                plain = ap (λ ps. map (λ p. p.name) ps) (core_has.rooted r.k decl r.decl_at r.shape_at).2;
                single = ap (λ z. Rattle.ig_core.specs.CoreOf.alternatives_of number Root 0 1 z) is;
                unbound =
                    calls_unbound number alt.symbols (remaining.forms decl alt (contains_from_at g.decls r.k decl r.decl_at) among)
                    ((root_at g shapes scoped fit remaining r.k decl r.decl_at r.shape_at).calls alt among);
              }

  pub well_kinded : StepsFit → NamesDiffer → length g.decls < most_declarations → dots core ≤ most_dots → IsWellKinded core
  well_kinded each_fits differ_at few few_dots =
      record {
        root = has_root;
        parameters = λ nonterminal among.
            let at = at_from_contains core nonterminal among in
            let from = nonterminal_from number 0 (numbered g shapes) at.0 nonterminal at.1 in
            ap (λ (z : Nonterminal). length z.kinds) from.2 ∙ length-map from.0.decl.params (λ p. p.kind) ∙
            sym (length-map from.0.decl.params (λ p. p.name)) ∙ ap (λ (z : Nonterminal). length z.params) (sym from.2);
        names = λ n a nonterminal alternative has.
            differ_at nonterminal alternative (fitting n a nonterminal alternative (member n a nonterminal alternative has)).differ;
        tags = tags;
        rules = λ n a nonterminal alternative has m k e.
            let of = member n a nonterminal alternative has in
            rule_number of.x.shape n a m k (ap (λ (z : CoreAlt). z.tag) (sym of.of.same) ∙ e);
        steps = λ n a nonterminal alternative has.
            each_fits core nonterminal alternative (fitting n a nonterminal alternative (member n a nonterminal alternative has)).fits;
        few_dots = few_dots;
        few_nonterminals =
            let all = nonterminals_length number 1 (unrooted g.decls shapes) in
            let less = unrooted_few g.decls shapes in
            omega (arith, all, less, few);
      }

pub cores_well_kinded : StepsFit → NamesDiffer → CoresAreWellKinded
cores_well_kinded each_fits differ_at g shapes ready few few_dots =
    well_kinded g shapes ready.scoped ready.fit ready.remaining each_fits differ_at few few_dots

pub tags_rise : (g : Grammar) (shapes : List Shape) → IsReady g shapes → TagsRise (core_of g shapes)
tags_rise g shapes ready = rise g shapes ready.scoped ready.fit ready.remaining
