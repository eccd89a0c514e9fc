-- What a run over the core grammar says of the grammar.
use Rattle.std.proofs.Common.{◌≡◌, ◌≢◌, ◌↔◌, ℕ, List, Contains, Option, None, Some, Result, Ok, Err, IfOk, IfErr, MatchOption, sym, ◌∙◌, subst, subst₂}
use Rattle.ig_text.specs.Input.{Input}
use Rattle.ig_text.specs.Tree.{Tree}
use Rattle.ig_grammar.specs.Checked.{CheckedGrammar}
use Rattle.ig_expr.specs.ValuedTree as valued
use Rattle.ig_meaning.specs.AnnotatedLaws.{DerivationsAreAnnotated}
use Rattle.ig_meaning.specs.Order.{Precedes}
use Rattle.ig_meaning.specs.Permitted.{Permitted}
use Rattle.ig_item.specs.Items.{Item, MoreThan, Reachable, RootIsComplete}
use Rattle.ig_item.specs.Laws.{TreesByItems}
use Rattle.ig_item.specs.Recorded.{Recording, IsRecorded}
use Rattle.ig_item.specs.Tables.{Tables, items_of}
use Rattle.ig_item.specs.WellKinded.{IsWellKinded}
use Rattle.ig_item.specs.declared.run_fault.RunFault.{RunFault}
use Rattle.ig_item.specs.declared.run_fault.RunFault.TheVariants as run_fault
use Rattle.ig_item.specs.declared.core_grammar.Nonterminal.{Nonterminal}
use Rattle.ig_core.specs.Lowered.{CoreOf, IsBuildable, IsNumbered}
use Rattle.ig_core.specs.Laws.{CoreTreesArePermitted, TagsRiseInCores, ValuesAreThoseOfCore}
use Rattle.ig_forest.specs.Cursors.{Less}
use Rattle.ig_forest_tables.specs.Forest.{Forest}
use Rattle.ig_forest.specs.Laws.{CursorsAreOrderedAsTrees, UnfoldsToCoreTrees, HasOneCursor, OnlyOne, RootIsThere}
use Rattle.ig_forest.specs.Reduced.{IsReduced}
use Rattle.ig_forest_tables.specs.Unfold.{Unfold}
use Rattle.ig_engine.specs.Running.{IsRefused}
use Rattle.ig_plain.specs.Run.{Refuses}
use Rattle.ig_query.specs.Report.{IsReport}
use Rattle.ig_show_trees.specs.declared.report.Report.{Report}
use Rattle.ig_parse.specs.Faults.{fault_of}
use Rattle.ig_parse.specs.Parses.{AreReachable, HasNone, IsForestOf, IsParsed, IsUnparsed, MayHaveForest, Finds}
use Rattle.ig_parse.specs.declared.fault.ParseFault.{ParseFault}
use Rattle.ig_parse.specs.declared.fault.ParseFault.TheVariants.{TooManyDots, Memory}

-- the laws that a parse rests on
pub record Given : Type 0 where
  pub trees : CoreTreesArePermitted
  pub roots : TreesByItems
  pub there : RootIsThere
  pub unfolds : UnfoldsToCoreTrees
  pub only : OnlyOne
  pub cursors : HasOneCursor
  pub in_order : CursorsAreOrderedAsTrees
  pub tags : TagsRiseInCores
  pub annotated : DerivationsAreAnnotated
  pub values : ValuesAreThoseOfCore

-- a core grammar of a checked grammar, as a run has it
pub record Runs (c : CheckedGrammar) (core : List Nonterminal) : Type 0 where
  pub buildable : IsBuildable c
  pub numbered : IsNumbered c
  pub is : core ≡ CoreOf c
  pub kinded : IsWellKinded core

-- what a parser keeps
pub runs_of : (c inside : CheckedGrammar) (core : List Nonterminal) → inside ≡ c →
    IsBuildable inside × IsNumbered inside × (core ≡ CoreOf inside) → IsWellKinded core → Runs c core
runs_of c inside core same kept kinded =
    subst (λ z. Runs z core) same (record { buildable = kept.0; numbered = kept.1; is = kept.2; kinded = kinded })

-- a run over a work list is refused for what saturation is refused for
pub refused : {A : Type 0} (core : List Nonterminal) (text : Input) (budget : ℕ) (r : Result A RunFault) →
    IfErr r (IsRefused core text budget) → IfErr r (Refuses core text budget)
refused core text budget (Ok a) h = tt
refused core text budget (Err run_fault.Budget) h = h
refused core text budget (Err run_fault.Memory) h = tt

-- what a run finds, and why it finds nothing
module _ (c : CheckedGrammar) (text : Input) (budget : ℕ) (core : List Nonterminal) (runs : Runs c core) where
  pub finds : (r : Result Recording RunFault) → IfOk r (λ z. z.core ≡ core) → IfOk r (λ z. z.text ≡ text) → IfOk r IsRecorded →
      IfOk r (λ _. MoreThan core text budget → ⊥) → IfErr r (Refuses core text budget) → Finds c text budget r
  finds (Ok z) core_is text_is recorded within fault =
      record {
        suffices = subst (λ k. MoreThan k text budget → ⊥) runs.is within;
        core = core_is ∙ runs.is;
        text_is = text_is;
        reachable = subst₂ (λ k t. (x : Item) → Contains (items_of z.tables) x ↔ Reachable k t x) (core_is ∙ runs.is) text_is recorded.reachable;
        once = recorded.once;
      }
  finds (Err run_fault.Budget) core_is text_is recorded within fault = subst (λ k. MoreThan k text budget) runs.is fault
  finds (Err run_fault.Memory) core_is text_is recorded within fault = tt

-- the core grammar of a recording, where it is the parser's
pub runs_recorded : (c : CheckedGrammar) (core other : List Nonterminal) → Runs c core → other ≡ CoreOf c → Runs c other
runs_recorded c core other runs is =
    record {
      buildable = runs.buildable;
      numbered = runs.numbered;
      is = is;
      kinded = subst IsWellKinded (runs.is ∙ sym is) runs.kinded;
    }

-- the items are those of the core grammar that a parser keeps
pub reached_inside : (c : CheckedGrammar) (text : Input) (core : List Nonterminal) → Runs c core → (t : Tables) → AreReachable c text t →
    (x : Item) → Contains (items_of t) x ↔ Reachable core text x
reached_inside c text core runs t reached = subst (λ z. (x : Item) → Contains (items_of t) x ↔ Reachable z text x) (sym runs.is) reached

pub reported : (c : CheckedGrammar) (text : Input) (core : List Nonterminal) → Runs c core → {E : Type 0} (r : Result Report E) →
    IfOk r (IsReport core text) → IfOk r (IsReport (CoreOf c) text)
reported c text core runs (Ok report) is = subst (λ z. IsReport z text report) runs.is is
reported c text core runs (Err e) is = tt

module _ (law : Given) (c : CheckedGrammar) (text : Input) (core : List Nonterminal) (runs : Runs c core) where
  kinded : IsWellKinded (CoreOf c)
  kinded = subst IsWellKinded runs.is runs.kinded

  -- cursors are in the order of permitted trees, since both are in that of the trees with values
  cursors_in_order : (f : Forest) → IsReduced (CoreOf c) text f → (d e : ℕ) (cs ds : List ℕ) (t u : Tree) → Unfold f d cs t → Unfold f e ds u →
      Less cs ds ↔ Precedes c.grammar c.shapes text t u
  cursors_in_order f reduced d e cs ds t u at_t at_u =
      let permitted : (b : ℕ) (ks : List ℕ) (x : Tree) → Unfold f b ks x → Permitted c.grammar c.shapes text x = λ b ks x unfolds.
      (law.trees c text x runs.buildable runs.numbered).0 ((law.unfolds (CoreOf c) text f b x kinded reduced).0 (ks, unfolds)).0 in
      let first = permitted d cs t at_t in
      let second = permitted e ds u at_u in
      let one = (law.annotated c.grammar c.shapes text).permitted first in
      let other = (law.annotated c.grammar c.shapes text).permitted second in
      let cursors = law.in_order (CoreOf c) text f d e cs ds t u in
      let tags = law.tags c runs.buildable runs.numbered in
      let values = λ (x : Tree) (v : valued.Tree). law.values c text x v runs.buildable runs.numbered in (
        λ less.
            record {
              first = first;
              second = second;
              one = one.0;
              other = other.0;
              of_first = one.1;
              of_second = other.1;
              less = (cursors one.0 other.0 kinded tags reduced at_t at_u (values t one.0 first one.1) (values u other.0 second other.1)).0 less;
            },
        λ before.
            (cursors before.one before.other kinded tags reduced at_t at_u (values t before.one before.first before.of_first)
            (values u before.other before.second before.of_second)).1
            before.less,
      )

  is_forest : (f : Forest) → IsReduced (CoreOf c) text f → IsForestOf c text f
  is_forest f reduced =
      record {
        reduced = reduced;
        only = λ other also. law.only (CoreOf c) text other f also reduced;
        unfolds = λ d t.
            let forest = law.unfolds (CoreOf c) text f d t kinded reduced in
            let tree = law.trees c text t runs.buildable runs.numbered in
            (λ u. let both = forest.0 u in (tree.0 both.0, both.1), λ p. forest.1 (tree.1 p.0, p.1));
        one_cursor = λ d e cs ds t. law.cursors (CoreOf c) text f d e cs ds t kinded reduced;
        in_order = cursors_in_order f reduced;
      }

  is_parsed : (f : Forest) → IsReduced (CoreOf c) text f → IsParsed c text
  is_parsed f reduced =
      let tree = (law.roots (CoreOf c) text kinded).0 (law.there (CoreOf c) text f reduced) in
      (tree.0, (law.trees c text tree.0 runs.buildable runs.numbered).0 tree.1)

  unparsed : (RootIsComplete core text → ⊥) → IsUnparsed c text
  unparsed none t p =
      let tree = (law.trees c text t runs.buildable runs.numbered).1 p in
      subst (λ z. RootIsComplete z text → ⊥) runs.is none ((law.roots (CoreOf c) text kinded).1 (t, tree))

  may_have : (o : Option Forest) → MatchOption o (RootIsComplete core text → ⊥) (IsReduced core text) → MayHaveForest c text o
  may_have None none = unparsed none
  may_have (Some f) reduced =
      let here : IsReduced (CoreOf c) text f = subst (λ z. IsReduced z text f) runs.is reduced in
      (is_parsed f here, is_forest f here)

  pub may_have_forest : {E : Type 0} (r : Result (Option Forest) E) →
      IfOk r (λ o. MatchOption o (RootIsComplete core text → ⊥) (IsReduced core text)) → IfOk r (MayHaveForest c text)
  may_have_forest (Ok o) is = may_have o is
  may_have_forest (Err e) is = tt

-- the parts of an answer
module _ (c : CheckedGrammar) (text : Input) (budget : ℕ) where
  pub no_items : (e : RunFault) (fault : ParseFault) → Finds c text budget (Err e) → fault ≡ fault_of e → HasNone c text budget fault
  no_items run_fault.Budget fault over is = subst (HasNone c text budget) (sym is) over
  no_items run_fault.Memory fault over is = subst (HasNone c text budget) (sym is) tt

  pub no_memory : (fault : ParseFault) → fault ≡ Memory → HasNone c text budget fault
  no_memory fault is = subst (HasNone c text budget) (sym is) tt

pub few_dots : (e : RunFault) (fault : ParseFault) → fault ≡ fault_of e → fault ≢ TooManyDots
few_dots run_fault.Budget fault is = λ h. let no = sym is ∙ h in cc
few_dots run_fault.Memory fault is = λ h. let no = sym is ∙ h in cc
