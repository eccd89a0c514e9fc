-- A run is stepped to its end, where no ticket waits.
use Rattle.std.proofs.Common.{◌≡◌, ◌↔◌, ℕ, ◌+◌, ◌-◌, ◌<◌, ◌≤◌, List, [], Contains, None, sym, ap, ◌∙◌, subst, arith, map, length}
use Rattle.std.specs.Prelude.{IfErr, IfOk, Result, Ok, Err}
use Rattle.std.specs.Result.{IsErrAnd}
use Rattle.std.proofs.lemmas.Result.{err_from_is_err_and}
use Rattle.std.proofs.lemmas.List.{length-map}
use Rattle.std.proofs.lemmas.List.Sorted.{length_permutation}
use Rattle.ig_text.specs.Input.{Input}
use Rattle.ig_text.proofs.Lists.{map_twice, same_map}
use Rattle.ig_item.specs.Items.{Item, MoreThan, Reachable}
use Rattle.ig_item.specs.Recorded.{IsRecorded, Recording, recording}
use Rattle.ig_item.specs.Tables.{HaveValues, instance_by, item_of, items_of, tables_by}
use Rattle.ig_item.specs.Ways.{AreWays, WayLists}
use Rattle.ig_item.specs.WellKinded.{NoneTwice}
use Rattle.ig_item.specs.declared.core_grammar.Nonterminal.{Nonterminal}
use Rattle.ig_item.specs.declared.items.InstanceKey.{InstanceKey}
use Rattle.ig_item.specs.declared.items.Item as stored
use Rattle.ig_item.specs.declared.run_fault.RunFault.{RunFault}
use Rattle.ig_item.specs.declared.run_fault.RunFault.TheVariants as fault
use Rattle.ig_gss.specs.Nodes as shared
use Rattle.ig_run_moves.specs.Laws.{NamedItemsAreOfTables}
use Rattle.ig_run_laws.specs.Laws.{BudgetsSuffice, EndedRunsAreComplete, EndedRunsHaveWays}
use Rattle.ig_run_laws.specs.Renaming.{GivesLeast, renamed}
use Rattle.ig_run_laws.specs.Finding.{IsTaken}
use Rattle.ig_run_laws.specs.Run.{FollowMore, IsWhole}
use Rattle.ig_run_laws.specs.Stacks.{Node, keys_of}
use Rattle.ig_engine.specs.Adding.{IsOnward, Refuses}
use Rattle.ig_engine.specs.Reached.{AreTables, IsReached, Reached, keys_in, means, node_seen, nodes_in, seen}
use Rattle.ig_engine.specs.Running.{IsBetween, IsRefused, Running}
use Rattle.ig_engine.specs.Stepping.{IsUnbegun, Steps, Took, without}
use Rattle.ig_engine.specs.declared.progress.Progress.{Progress}
use Rattle.ig_engine.specs.declared.progress.Progress.TheVariants as progress

-- at the end all items are there, in the tables
module _ (complete : EndedRunsAreComplete) (have_ways : EndedRunsHaveWays) (of_tables : NamedItemsAreOfTables) (core : List Nonterminal)
    (text : Input) (s : Reached) (tables : AreTables s) (whole : IsWhole core text (seen s) (nodes_in s)) (ended : s.found.waiting ≡ []) where
  items_are : items_of (tables_by (keys_in s) s.envs s.found.items) ≡ (seen s).items
  items_are =
      same_map (item_of (tables_by (keys_in s) s.envs s.found.items)) (means s) s.found.items
      (λ x c. of_tables s.envs (keys_in s) s.found.items x (tables.items x c))

  instances_are : keys_of (nodes_in s) ≡ map (instance_by s.envs) (keys_in s)
  instances_are =
      map_twice (node_seen s.envs) (λ (n : Node). n.key) s.nodes ∙ sym (map_twice (λ (n : shared.Node). n.key) (instance_by s.envs) s.nodes)

  recorded : (least : ℕ → ℕ) → GivesLeast s.found.ways.ends least →
      IsRecorded (recording core text (tables_by (keys_in s) s.envs s.found.items) (renamed least s.found.ways))
  recorded least gives =
      record {
        reachable = λ x.
            subst (λ (z : List Item). Contains z x ↔ Reachable core text x) (sym items_are) (complete core text (seen s) (nodes_in s) whole ended x);
        once = subst NoneTwice (sym items_are) whole.run.once;
        instances = subst NoneTwice instances_are whole.stacks.once;
        environments = tables.environments;
        are_ways = subst (λ (z : List Item). AreWays core text z (renamed least s.found.ways)) (sym items_are)
            (have_ways core text (seen s) (nodes_in s) least whole ended gives);
      }

  pub recorded_by : (keys : List InstanceKey) (items : List stored.Item) (ways : WayLists) → keys ≡ keys_in s → items ≡ s.found.items →
      ways ≡ s.found.ways → (least : ℕ → ℕ) → GivesLeast ways.ends least →
      IsRecorded (recording core text (tables_by keys s.envs items) (renamed least ways))
  recorded_by keys items ways k i w least gives =
      subst (λ (z : List InstanceKey). IsRecorded (recording core text (tables_by z s.envs items) (renamed least ways))) (sym k)
      (subst (λ (z : List stored.Item). IsRecorded (recording core text (tables_by (keys_in s) s.envs z) (renamed least ways))) (sym i)
      (subst (λ (z : WayLists). IsRecorded (recording core text (tables_by (keys_in s) s.envs s.found.items) (renamed least z))) (sym w)
      (recorded least (subst (λ (z : WayLists). GivesLeast z.ends least) w gives))))

-- what the items name is in the tables
pub values_there : (s : Reached) (keys : List InstanceKey) → AreTables s → keys ≡ keys_in s → HaveValues s.envs keys
values_there s keys tables k = subst (HaveValues s.envs) (sym k) tables.values

pub instances_there : (s : Reached) (keys : List InstanceKey) (items : List stored.Item) → AreTables s → keys ≡ keys_in s →
    items ≡ s.found.items → (x : stored.Item) → Contains items x → x.instance < length keys
instances_there s keys items tables k i x c =
    subst (λ (z : List InstanceKey). x.instance < length z) (sym k) (tables.items x (subst (λ (z : List stored.Item). Contains z x) i c)).instance

pub environments_there : (s : Reached) (items : List stored.Item) → AreTables s → items ≡ s.found.items → (x : stored.Item) →
    Contains items x → x.env < length s.envs
environments_there s items tables i x c = (tables.items x (subst (λ (z : List stored.Item). Contains z x) i c)).env

-- the items are those that were found, so they are within the budget
pub recorded_within : {E : Type 0} (r : Result Recording E) (items : List stored.Item) (budget : ℕ) →
    IfOk r (λ x. x.tables.items ≡ items) → length items ≤ budget → IfOk r (λ x. length x.tables.items ≤ budget)
recorded_within (Ok x) items budget e within = subst (λ (z : List stored.Item). length z ≤ budget) (sym e) within
recorded_within (Err f) items budget e within = tt

-- the same core grammar, text and budget
pub refused_there : (core grammar : List Nonterminal) (text string : Input) (budget most : ℕ) (f : RunFault) → grammar ≡ core →
    string ≡ text → most ≡ budget → IsRefused core text budget f → IsRefused grammar string most f
refused_there core grammar text string budget most f c t b r =
    subst (λ (z : List Nonterminal). IsRefused z string most f) (sym c)
    (subst (λ (z : Input). IsRefused core z most f) (sym t) (subst (λ (z : ℕ). IsRefused core text z f) (sym b) r))

-- where nothing waits there are no more items than the budget
module _ (complete : EndedRunsAreComplete) (suffice : BudgetsSuffice) (core : List Nonterminal) (text : Input) (budget : ℕ) (r : Running)
    (c : r.core ≡ core) (t : r.text ≡ text) (b : r.budget ≡ budget) (between : IsBetween r) (going : r.refused ≡ None)
    (ended : r.state.found.waiting ≡ []) where
  is_reached : IsReached r.core r.text r.budget r.state
  is_reached = between going

  follow_more : MoreThan r.core r.text r.budget → FollowMore r.core r.text (IsTaken (seen r.state).items r.state.found.waiting) r.budget
  follow_more m =
      record {
        items = m.items;
        different = m.different;
        follow = λ x i.
            (is_reached.whole.run.exact x).0
            ((complete r.core r.text (seen r.state) (nodes_in r.state) is_reached.whole ended x).1 (m.reachable x i));
        more = m.more;
      }

  pub fits : MoreThan core text budget → ⊥
  fits m =
      suffice r.core r.text (seen r.state) (nodes_in r.state) r.budget is_reached.whole
      (let n = length-map r.state.found.items (means r.state) in let within = is_reached.within in omega (arith, n, within))
      (follow_more (refused_there core r.core text r.text budget r.budget fault.Budget c t b m))

-- each step takes one ticket, so there are as many steps as items
pub less_is_left : (core : List Nonterminal) (text : Input) (budget later : ℕ) (a b : Reached) (p : Progress) → p ≡ progress.More →
    Steps core text budget a b (Ok p) → later ≡ budget →
    (later + length b.found.waiting) - length b.found.items < (budget + length a.found.waiting) - length a.found.items
less_is_left core text budget later a b p more step same =
    let next : (t : Took a) × IsOnward core text budget (without a t) b =
    subst (λ (z : Progress). Steps core text budget a b (Ok z)) more step in
    let taken = length_permutation _ _ next.0.took in
    let before = length-map a.found.items (means a) in
    let after = length-map b.found.items (means b) in
    let within = next.1.reached.within in
    let counts = next.1.counts in omega (arith, taken, before, after, within, counts, same)

-- when it is done, none waits
pub none_waits : (core : List Nonterminal) (text : Input) (budget : ℕ) (a b : Reached) (p : Progress) → p ≡ progress.Done →
    Steps core text budget a b (Ok p) → b.found.waiting ≡ []
none_waits core text budget a b p done step =
    let last : (a.found.waiting ≡ []) × (b ≡ a) = subst (λ (z : Progress). Steps core text budget a b (Ok z)) done step in
    ap (λ (z : Reached). z.found.waiting) last.1 ∙ last.0

-- why it was refused
refused_step : (core : List Nonterminal) (text : Input) (budget : ℕ) (s : Reached) (f : RunFault) → Refuses core text budget s f →
    IsRefused core text budget f
refused_step core text budget s fault.Budget r = r.1
refused_step core text budget s fault.Memory r = tt

unbegun : (core : List Nonterminal) (text : Input) (budget : ℕ) (f : RunFault) → IsUnbegun core text budget f → IsRefused core text budget f
unbegun core text budget fault.Budget r = r.1
unbegun core text budget fault.Memory r = tt

exit : {T : Type 0} (core : List Nonterminal) (text : Input) (budget : ℕ) (r : Result T RunFault) (f : RunFault) →
    IsErrAnd r (λ y. y ≡ f) → IsRefused core text budget f → IfErr r (IsRefused core text budget)
exit core text budget r f h d =
    let e = err_from_is_err_and r h in
    subst (λ (z : Result _ RunFault). IfErr z (IsRefused core text budget)) (sym e.1)
    (subst (λ (z : RunFault). IsRefused core text budget z) (sym e.2) d)

pub step_exit : {T : Type 0} (core grammar : List Nonterminal) (text string : Input) (budget most : ℕ) (s : Reached) (r : Result T RunFault)
    (f : RunFault) → IsErrAnd r (λ y. y ≡ f) → grammar ≡ core → string ≡ text → most ≡ budget →
    (t : Took s) × Refuses core text budget (without s t) f → IfErr r (IsRefused grammar string most)
step_exit core grammar text string budget most s r f h c t b d =
    exit grammar string most r f h
    (refused_there core grammar text string budget most f c t b (refused_step core text budget (without s d.0) f d.1))

pub start_exit : {T : Type 0} (core : List Nonterminal) (text : Input) (budget : ℕ) (r : Result T RunFault) (f : RunFault) →
    IsErrAnd r (λ y. y ≡ f) → IsUnbegun core text budget f → IfErr r (IsRefused core text budget)
start_exit core text budget r f h d = exit core text budget r f h (unbegun core text budget f d)

pub end_exit : {T : Type 0} (core grammar : List Nonterminal) (text string : Input) (budget most : ℕ) (r : Result T RunFault) (f : RunFault) →
    IsErrAnd r (λ y. y ≡ f) → grammar ≡ core → string ≡ text → most ≡ budget → IsRefused core text budget f →
    IfErr r (IsRefused grammar string most)
end_exit core grammar text string budget most r f h c t b d =
    exit grammar string most r f h (refused_there core grammar text string budget most f c t b d)
