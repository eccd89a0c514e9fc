-- An item before a call is taken: the trail, as its callee is entered, and behind that.
use Rattle.std.proofs.Common.{◌≡◌, ℕ, suc, ◌+◌, List, [], Some, Option, length, set, refl, sym, ap, ◌∙◌, subst, slice_get}
use Rattle.std.specs.Prelude.{Bool, IsTrue, None, Result, Ok, OnOk}
use Rattle.ig_text.specs.Input.{Input}
use Rattle.ig_text.specs.declared.pattern.Pattern.{Pattern}
use Rattle.ig_expr.specs.Expression.{Expression}
use Rattle.ig_item.specs.Step.{Call}
use Rattle.ig_item.specs.Items.{Item, StandsBefore, span_of}
use Rattle.ig_item.specs.Laws.{ReachableIsClosed, ItemsAreInText}
use Rattle.ig_item.specs.Tables.{instance_by}
use Rattle.ig_item.specs.WellKinded.{NoneTwice}
use Rattle.ig_item.specs.declared.core_grammar.Nonterminal.{Nonterminal}
use Rattle.ig_item.specs.declared.items.InstanceKey.{InstanceKey}
use Rattle.ig_item.specs.declared.items.Item as stored
use Rattle.ig_item.specs.declared.run_fault.RunFault.{RunFault}
use Rattle.ig_item.specs.declared.ways.Way.TheVariants.{Node}
use Rattle.ig_plain.specs.declared.found.Found.{Found}
use Rattle.ig_plain.specs.declared.trail.Trail.{Trail}
use Rattle.ig_run_moves.specs.declared.waiting.Waiting.{Waiting}
use Rattle.ig_run_tables.specs.Extends.{Extends}
use Rattle.ig_plain.specs.Found.{means, Adds}
use Rattle.ig_run_moves.specs.Laws.{BeforeCalls}
use Rattle.ig_run_moves.specs.Rules.{IsPastCall, IsCallee}
use Rattle.ig_run_moves.specs.Tables.{GivesCallee}
use Rattle.ig_plain.specs.Rules.{StandsAtBareCall}
use Rattle.ig_run_moves.specs.Waiting.{called_at, lengthened, with_caller}
use Rattle.ig_plain.specs.Run.{IsRun, EntersInstance}
use Rattle.ig_plain.specs.Trail.{By, ComeByNodes, Records, HasTrail, EntersOn}
use Rattle.ig_plain.proofs.Calling as calling
use Rattle.ig_plain.proofs.Entered.{trail_moved}
use Rattle.ig_plain.proofs.Fresh.{found_by_node}
use Rattle.ig_plain.proofs.TakenOn.{idle_on, waits_on, past_on}

module _ (core : List Nonterminal) (text : Input) (law : ReachableIsClosed) (inside : ItemsAreInText) (budget k : ℕ) (s : Found) (w : Waiting)
    (item : stored.Item)
    (r : IsRun core text budget item.position k s w) (at : slice_get s.here.items k ≡ Some item) (names : List (List ℕ)) (nonterminal : ℕ)
    (arguments : List Expression) (label : Option (List ℕ)) (excluded : List Pattern)
    (before : StandsBefore core (means s item) names (Call nonterminal arguments label excluded)) (calls : BeforeCalls)
    (trail : Trail) (number : ℕ) (is : number ≡ length s.done.items + k) (h : HasTrail core text item.position k s w trail) where
  abbrev p : ℕ
  p = item.position

  -- the values of the arguments are environments now, where there are any
  module _ (s1 : Found) (envs : Extends s.envs.keys s1.envs.keys) (once : NoneTwice s1.envs.keys) (keys : s1.keys ≡ s.keys)
      (done : s1.done.items ≡ s.done.items) (here_same : s1.here.items ≡ s.here.items) (later : s1.later.items ≡ s.later.items)
      (given : Option InstanceKey)
      (gives : GivesCallee s.envs.keys s1.envs.keys item (IsCallee text names nonterminal arguments) given) where
    run_1 : IsRun core text budget p k s1 w
    run_1 =
        calling.run_1 core text law inside budget p k s w item refl r at names nonterminal arguments label excluded before calls s1 envs once keys done here_same later given gives

    trail_1 : HasTrail core text p k s1 w trail
    trail_1 =
        trail_moved core text p k s s1 w trail r.taking.stored
        (calling.moved core text law inside budget p k s w item refl r at names nonterminal arguments label excluded before calls s1 envs once keys done here_same later given gives) h keys

    -- an argument has no value
    pub no_call_on : given ≡ None → HasTrail core text p (suc k) s1 w trail
    no_call_on none =
        idle_on core text law budget p k s1 w trail item number refl run_1
        (calling.at_1 core text law inside budget p k s w item refl r at names nonterminal arguments label excluded before calls s1 envs once keys done here_same later given gives)
        (is ∙ ap (λ (z : List stored.Item). length z + k) (sym done)) trail_1
        (calling.nothing_1 core text law inside budget p k s w item refl r at names nonterminal arguments label excluded before calls s1 envs once keys done here_same later given gives none)

    -- they have values; the callee is entered
    module _ (key : InstanceKey) (key_is : given ≡ Some key) (t : Found) (v : Waiting) (i : ℕ) (entered : EntersInstance core budget key s1 t w v (Ok i))
        (u : Trail) (entered_on : EntersOn core budget key s1 t w v trail u (Ok i)) where
      start_is : key.start ≡ p
      start_is =
          calling.start_is core text law inside budget p k s w item refl r at names nonterminal arguments label excluded before calls s1 envs once keys done here_same later given gives key key_is

      run_2 : IsRun core text budget p k t v
      run_2 =
          calling.run_2 core text law inside budget p k s w item refl r at names nonterminal arguments label excluded before calls s1 envs once keys done here_same later given gives key key_is t v i entered

      pub trail_2 : HasTrail core text p k t v u
      trail_2 =
          subst (λ (n : ℕ). HasTrail core text n k t v u) start_is
          (entered_on text k (subst (λ (n : ℕ). IsRun core text budget n k s1 w) (sym start_is) run_1)
          (subst (λ (n : ℕ). HasTrail core text n k s1 w trail) (sym start_is) trail_1))

      at_2 : slice_get t.here.items k ≡ Some item
      at_2 =
          calling.at_2 core text law inside budget p k s w item refl r at names nonterminal arguments label excluded before calls s1 envs once keys done here_same later given gives key key_is t v i entered

      number_2 : number ≡ length t.done.items + k
      number_2 =
          let e = (calling.result core text law inside budget p k s w item refl r at names nonterminal arguments label excluded before calls s1 envs once keys done here_same later given gives key key_is t v i entered).done in
          is ∙ ap (λ (z : List stored.Item). length z + k) (sym (e ∙ done))

      -- what is behind the call was found by nodes
      pub by_nodes_2 : ComeByNodes t u (IsPastCall text label excluded p (means t item))
      by_nodes_2 x m j at_j =
          found_by_node core text t u _ trail_2.ways (means t item) names nonterminal arguments label excluded
          (subst (λ (z : Item). StandsBefore core z names (Call nonterminal arguments label excluded))
          (sym (calling.means_2 core text law inside budget p k s w item refl r at names nonterminal arguments label excluded before calls s1 envs once keys done here_same later given gives key key_is t v i entered)) before) x (span_of label p p) p m.1 j at_j

      -- a call that has neither a label nor an excluded pattern is bare
      bare_2 : (is_bare : Bool) → (IsTrue is_bare → (label ≡ None) × (excluded ≡ [])) → IsTrue is_bare → StandsAtBareCall core (means t item)
      bare_2 is_bare told b =
          let e = told b in
          record {
            names = names;
            callee = nonterminal;
            arguments = arguments;
            before = subst (λ (z : Item). StandsBefore core z names (Call nonterminal arguments None []))
                (sym (calling.means_2 core text law inside budget p k s w item refl r at names nonterminal arguments label excluded before calls s1 envs once keys done here_same later given gives key key_is t v i entered))
                (subst (λ (z : Option (List ℕ)). StandsBefore core (means s item) names (Call nonterminal arguments z [])) e.0
                (subst (λ (z : List Pattern). StandsBefore core (means s item) names (Call nonterminal arguments label z)) e.1 before));
          }

      module _ (x : Waiting) (is_bare : Bool) (told : IsTrue is_bare → (label ≡ None) × (excluded ≡ []))
          (cells : x.callers.items ≡ lengthened v.callers.items (called_at v i).last item number is_bare)
          (called : x.called.items ≡ set v.called.items i (with_caller (called_at v i) (suc (length v.callers.items)))) where
        -- the callee has no end here
        pub only_waits_on : ((called_at x i).last_end ≡ Some p → ⊥) → HasTrail core text p (suc k) t x u
        only_waits_on apart =
            waits_on core text law budget p k t v u item number refl run_2 at_2 number_2 trail_2 inside i (instance_by t.envs.keys key) label excluded
            (calling.instance_2 core text law inside budget p k s w item refl r at names nonterminal arguments label excluded before calls s1 envs once keys done here_same later given gives key key_is t v i entered)
            (calling.calls_2 core text law inside budget p k s w item refl r at names nonterminal arguments label excluded before calls s1 envs once keys done here_same later given gives key key_is t v i entered)
            x is_bare (bare_2 is_bare told) cells called
            (λ e. apart (calling.end_same core text law inside budget p k s w item refl r at names nonterminal arguments label excluded before calls s1 envs once keys done here_same later given gives key key_is t v i entered x number is_bare cells called ∙ e))

        -- the callee ended here
        pub goes_past_on : (d : ℕ) → (called_at x i).last_end ≡ Some p → d ≡ (called_at x i).last_done →
            (f : Found) (y : Trail) (o : Result (Unit {0}) RunFault) →
            Adds p (IsPastCall text label excluded p (means t item)) budget t f o →
            OnOk o (Records (By (Node number d) (IsPastCall text label excluded p (means t item))) t f u y) →
            OnOk o (HasTrail core text p (suc k) f x y)
        goes_past_on d last d_is f y o adds rec =
            past_on core text law budget p k t v u item number refl run_2 at_2 number_2 trail_2 inside i (instance_by t.envs.keys key) label excluded
            (calling.instance_2 core text law inside budget p k s w item refl r at names nonterminal arguments label excluded before calls s1 envs once keys done here_same later given gives key key_is t v i entered)
            (calling.calls_2 core text law inside budget p k s w item refl r at names nonterminal arguments label excluded before calls s1 envs once keys done here_same later given gives key key_is t v i entered)
            x is_bare (bare_2 is_bare told) cells called d
            (sym (calling.end_same core text law inside budget p k s w item refl r at names nonterminal arguments label excluded before calls s1 envs once keys done here_same later given gives key key_is t v i entered x number is_bare cells called) ∙ last)
            (d_is ∙ calling.done_same core text law inside budget p k s w item refl r at names nonterminal arguments label excluded before calls s1 envs once keys done here_same later given gives key key_is t v i entered x number is_bare cells called) f y o adds rec
