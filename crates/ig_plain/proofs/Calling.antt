-- An item before a call is taken: its arguments, its callee, and where the callee ended.
use Rattle.std.proofs.Common.{◌≡◌, ℕ, suc, ◌<◌, ◌≤◌, List, Some, Option, length, map, set, refl, sym, ap, ◌∙◌, subst, arith, slice_get}
use Rattle.std.specs.Prelude.{Bool, Result, Ok, Err, None, slice_index_or, option_map}
use Rattle.std.proofs.lemmas.Option.{slice_get_within, slice_get-map}
use Rattle.std.proofs.lemmas.List.{length-set}
use Rattle.ig_text.specs.Input.{Input}
use Rattle.ig_text.specs.declared.pattern.Pattern.{Pattern}
use Rattle.ig_text.proofs.Lists.{contains_from_at}
use Rattle.ig_expr.specs.Expression.{Expression}
use Rattle.ig_item.specs.Step.{Call}
use Rattle.ig_item.specs.Items.{Item, Reachable, Calls, StandsBefore}
use Rattle.ig_item.specs.Laws.{ReachableIsClosed, ItemsAreInText}
use Rattle.ig_item.specs.Tables.{instance_by}
use Rattle.ig_item.specs.WellKinded.{NoneTwice}
use Rattle.ig_item.specs.declared.core_grammar.Nonterminal.{Nonterminal}
use Rattle.ig_item.specs.declared.items.Instance.{Instance}
use Rattle.ig_item.specs.declared.items.InstanceKey.{InstanceKey}
use Rattle.ig_item.specs.declared.items.Item as stored
use Rattle.ig_item.specs.declared.run_fault.RunFault.{RunFault}
use Rattle.ig_plain.specs.declared.found.Found.{Found}
use Rattle.ig_run_moves.specs.declared.waiting.Waiting.{Waiting}
use Rattle.ig_run_moves.specs.declared.waiting.Called.{Called}
use Rattle.ig_run_tables.specs.Extends.{Extends}
use Rattle.ig_plain.specs.Found.{means, instances_in, Named, Adds, taken_in}
use Rattle.ig_run_laws.specs.Rules as rules
use Rattle.ig_run_moves.specs.Laws.{BeforeCalls}
use Rattle.ig_run_moves.specs.Rules.{IsPastCall, IsCallee, IsCallBy, Comes, NoItem, NoCall}
use Rattle.ig_run_moves.specs.Tables.{GivesCallee}
use Rattle.ig_run_laws.specs.Rules.{IsFirstOf}
use Rattle.ig_run_moves.specs.Waiting.{called_at, not_called, lengthened, with_caller}
use Rattle.ig_plain.specs.Run.{IsRun, IsTaken, IsEntered, EntersInstance, Refuses, IsWaiting}
use Rattle.ig_plain.proofs.Extending.{extends_same}
use Rattle.ig_plain.proofs.Additions.{adds_nothing}
use Rattle.ig_plain.proofs.Growth.{extends_at, instance_kept}
use Rattle.ig_plain.proofs.Running.{follows_reachable}
use Rattle.ig_plain.proofs.Alone.{takes_passing}
use Rattle.ig_plain.proofs.Completes.{item_named, set_at}
use Rattle.ig_plain.proofs.Moving.{Moved, moved_named, moved_means}
use Rattle.ig_plain.proofs.Instances.{run_moved}
use Rattle.ig_plain.proofs.Calls.{calls_only, calls_past, last_there}

module _ (core : List Nonterminal) (text : Input) (law : ReachableIsClosed) (inside : ItemsAreInText) (budget p k : ℕ) (s : Found) (w : Waiting) (item : stored.Item)
    (here : item.position ≡ p) (r : IsRun core text budget p k s w) (at : slice_get s.here.items k ≡ Some item) (names : List (List ℕ)) (nonterminal : ℕ)
    (arguments : List Expression) (label : Option (List ℕ)) (excluded : List Pattern)
    (before : StandsBefore core (means s item) names (Call nonterminal arguments label excluded)) (calls : BeforeCalls) where
  abbrev it : Item
  it = means s item

  pub named_item : Named s item
  named_item = item_named core text law budget p k s w item here r at

  -- what the call makes of the item
  comes : Comes core text it NoItem NoItem (IsCallBy text names nonterminal arguments label excluded it) ⊥
  comes = calls core text it names nonterminal arguments label excluded before

  -- the values of the arguments are environments now, where there are any
  module _ (s1 : Found) (envs : Extends s.envs.keys s1.envs.keys) (once : NoneTwice s1.envs.keys) (keys : s1.keys ≡ s.keys)
      (done : s1.done.items ≡ s.done.items) (here_same : s1.here.items ≡ s.here.items) (later : s1.later.items ≡ s.later.items)
      (given : Option InstanceKey)
      (gives : GivesCallee s.envs.keys s1.envs.keys item (IsCallee text names nonterminal arguments) given) where
    pub moved : Moved s s1
    moved =
        record {
          envs = envs;
          keys = extends_same s.keys s1.keys keys;
          done = done;
          here = here_same;
          later = later;
          tables = record { environments = once; instances = subst NoneTwice (sym keys) r.taking.stored.tables.instances };
        }

    pub run_1 : IsRun core text budget p k s1 w
    run_1 = run_moved core text budget p k s s1 w r moved keys

    pub means_1 : means s1 item ≡ it
    means_1 = moved_means s s1 moved item named_item

    pub at_1 : slice_get s1.here.items k ≡ Some item
    at_1 = subst (λ (z : List stored.Item). slice_get z k ≡ Some item) (sym here_same) at

    -- an argument has no value
    module _ (none : given ≡ None) where
      no_callee : (callee : Instance) → IsCallee text names nonterminal arguments it callee → ⊥
      no_callee callee c =
          let q = (gives.exact s.keys callee).0 c in
          let e : None ≡ Some q.0 = sym none ∙ q.1 in cc

      nothing : Comes core text it NoItem NoItem NoCall ⊥
      nothing =
          record {
            passing = comes.passing;
            reading = comes.reading;
            calling = λ callee l e. (λ c. no_callee callee ((comes.calling callee l e).0 c).2, λ c. absurd c);
            ending = comes.ending;
          }

      pub nothing_1 : Comes core text (means s1 item) NoItem NoItem NoCall ⊥
      nothing_1 = subst (λ (z : Item). Comes core text z NoItem NoItem NoCall ⊥) (sym means_1) nothing

      pub no_call : IsRun core text budget p (suc k) s1 w
      no_call =
          takes_passing core text law budget p k s1 w item here run_1 at_1 NoItem nothing_1 s1 (Ok tt)
          (adds_nothing p NoItem budget s1 (λ x m. absurd m))

    -- they have values
    module _ (key : InstanceKey) (is : given ≡ Some key) where
      callee_is : IsCallee text names nonterminal arguments it (instance_by s1.envs.keys key)
      callee_is = (gives.exact s.keys (instance_by s1.envs.keys key)).1 (key, is, refl)

      pub env_there : key.env < length s1.envs.keys
      env_there = gives.there key is

      pub start_is : key.start ≡ p
      start_is = callee_is.here ∙ here

      calls_1 : Calls core text it (instance_by s1.envs.keys key) label excluded
      calls_1 = (comes.calling (instance_by s1.envs.keys key) label excluded).1 (refl, refl, callee_is)

      reach : (x : Item) → IsFirstOf core (instance_by s1.envs.keys key) x → Reachable core text x
      reach x f =
          follows_reachable core text law budget p k s item r.taking at x
          (rules.call (instance_by s1.envs.keys key) label excluded f.nonterminal f.number f.alternative calls_1 f.has f.is)

      run_start : IsRun core text budget key.start k s1 w
      run_start = subst (λ (n : ℕ). IsRun core text budget n k s1 w) (sym start_is) run_1

      pub stops : (t : Found) (v : Waiting) (f : RunFault) → EntersInstance core budget key s1 t w v (Err f) → Refuses core text budget f
      stops t v f e = e text k run_start reach

      module _ (t : Found) (v : Waiting) (i : ℕ) (entered : EntersInstance core budget key s1 t w v (Ok i)) where
        pub result : IsEntered core text budget k key s1 t v i
        result = entered text k run_start reach

        pub run_2 : IsRun core text budget p k t v
        run_2 = subst (λ (n : ℕ). IsRun core text budget n k t v) start_is result.run

        pub means_2 : means t item ≡ it
        means_2 = result.same item (moved_named s s1 moved item named_item) ∙ means_1

        pub at_2 : slice_get t.here.items k ≡ Some item
        at_2 = extends_at s1.here.items t.here.items k item result.here at_1

        pub instance_2 : slice_get (instances_in t) i ≡ Some (instance_by t.envs.keys key)
        instance_2 = slice_get-map (instance_by t.envs.keys) t.keys i ∙ ap (option_map (instance_by t.envs.keys)) result.there

        pub calls_2 : Calls core text (means t item) (instance_by t.envs.keys key) label excluded
        calls_2 =
            subst (λ (z : Item). Calls core text z (instance_by t.envs.keys key) label excluded) (sym means_2)
            (subst (λ (z : Instance). Calls core text it z label excluded) (sym (instance_kept s1.envs.keys t.envs.keys key result.envs env_there)) calls_1)

        pub callee_there : i < length v.called.items
        callee_there =
            let l = slice_get_within (instances_in t) i (instance_by t.envs.keys key) instance_2 in let e = run_2.waiting.lengths in omega (arith, l, e)

        pub last_2 : (called_at v i).last ≤ length v.callers.items
        last_2 =
            last_there core text law inside budget p k t v item here run_2 at_2 i (instance_by t.envs.keys key) label excluded instance_2 calls_2

        pub named_2 : Named t item
        named_2 = t.named.here item (contains_from_at t.here.items k item at_2)

        module _ (u : Waiting) (number : ℕ) (is_bare : Bool) (cells : u.callers.items ≡ lengthened v.callers.items (called_at v i).last item number is_bare)
            (called : u.called.items ≡ set v.called.items i (with_caller (called_at v i) (suc (length v.callers.items)))) where
          pub end_same : (called_at u i).last_end ≡ (called_at v i).last_end
          end_same =
              ap (λ (z : List Called). (slice_index_or z i not_called).last_end) called ∙
              ap (λ (z : Called). z.last_end)
              (set_at v.called.items i (with_caller (called_at v i) (suc (length v.callers.items))) not_called callee_there)

          pub done_same : (called_at u i).last_done ≡ (called_at v i).last_done
          done_same =
              ap (λ (z : List Called). (slice_index_or z i not_called).last_done) called ∙
              ap (λ (z : Called). z.last_done)
              (set_at v.called.items i (with_caller (called_at v i) (suc (length v.callers.items))) not_called callee_there)

          pub still_there : i < length u.called.items
          still_there =
              let e = ap length called ∙ length-set v.called.items i (with_caller (called_at v i) (suc (length v.callers.items))) in
              let l = callee_there in omega (arith, e, l)

          pub only_waits : ((called_at u i).last_end ≡ Some p → ⊥) → IsRun core text budget p (suc k) t u
          only_waits apart =
              calls_only core text law inside budget p k t v item here run_2 at_2 i (instance_by t.envs.keys key) label excluded instance_2 calls_2 u number is_bare cells called
              (λ e. apart (end_same ∙ e))

          pub goes_past : (called_at u i).last_end ≡ Some p → (f : Found) (o : Result (Unit {0}) RunFault) →
              Adds p (IsPastCall text label excluded p (means t item)) budget t f o →
              IsTaken core text budget p k f u o
          goes_past last f o d =
              calls_past core text law inside budget p k t v item here run_2 at_2 i (instance_by t.envs.keys key) label excluded instance_2 calls_2 u number is_bare cells called
              (sym end_same ∙ last) f o d
