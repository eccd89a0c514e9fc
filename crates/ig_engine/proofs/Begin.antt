-- A run begins.
use Rattle.std.proofs.Common.{◌≡◌, ◌↔◌, ℕ, zero, suc, ◌<◌, ◌≤◌, List, [], ◌∷◌, ◌++◌, length, Contains, Some, refl, sym, ap, ◌∙◌, subst, arith, slice_get, map}
use Rattle.std.specs.Prelude.{Bool, true, false, IfErr, MatchResult, Result, Ok, Err, slice_index_or}
use Rattle.std.specs.Result.{IsErrAnd}
use Rattle.std.proofs.lemmas.Result.{err_from_is_err_and}
use Rattle.std.specs.List.Sorted.{IsPermutation}
use Rattle.std.proofs.lemmas.List.Sorted.{IsPermutation-sym, Contains-permutation, length_permutation}
use Rattle.std.proofs.lemmas.List.{length-map}
use Rattle.std.proofs.lemmas.Option.{get_or_from_slice_get, slice_get_within}
use Rattle.ig_text.specs.Input.{Input}
use Rattle.ig_text.proofs.Lists.{contains_from_at, contains_one, it_is_in, none_in_nil}
use Rattle.ig_expr.specs.declared.value.Value.{Value}
use Rattle.ig_item.specs.Items.{Item, MoreThan, first, root_instance}
use Rattle.ig_item.specs.Tables.{instance_by}
use Rattle.ig_item.specs.Ways.{WayLists}
use Rattle.ig_item.specs.WellKinded.{NoneTwice}
use Rattle.ig_item.specs.declared.core_grammar.Nonterminal.{Nonterminal}
use Rattle.ig_item.specs.declared.items.Instance.{Instance}
use Rattle.ig_item.specs.declared.items.InstanceKey.{InstanceKey}
use Rattle.ig_item.specs.declared.items.Item as stored
use Rattle.ig_item.specs.declared.run_fault.RunFault.{RunFault}
use Rattle.ig_item.specs.declared.run_fault.RunFault.TheVariants as fault
use Rattle.ig_item.specs.declared.ways.Way.TheVariants.{Begin}
use Rattle.ig_queue.specs.declared.ticket.Ticket.{Ticket}
use Rattle.ig_run_moves.specs.Finding as numbered
use Rattle.ig_run_moves.specs.Finding.{Pushed, ticket_of}
use Rattle.ig_gss.specs.Nodes as shared
use Rattle.ig_run_moves.specs.Laws.{IsFirstNamed}
use Rattle.ig_run_moves.specs.Tables.{IsNamed, first_stored}
use Rattle.ig_run_laws.specs.Finding.{Finding}
use Rattle.ig_run_laws.specs.Laws.{begun}
use Rattle.ig_run_laws.specs.Run.{IsWhole}
use Rattle.ig_run_laws.specs.Stacks.{fresh}
use Rattle.ig_engine.specs.Adding.{Pushes}
use Rattle.ig_engine.specs.Given as laws
use Rattle.ig_engine.specs.Stepping.{IsBegun, IsEmpty, IsUnbegun}
use Rattle.ig_engine.specs.Reached.{Reached, AreTables, means, nodes_in, reached, seen}

module _ (given : laws.Given) (core : List Nonterminal) (text : Input) (envs : List (List Value)) (nodes : List shared.Node)
    (empty f : numbered.Finding) (env : ℕ) (once : NoneTwice envs) (at : slice_get envs env ≡ Some [])
    (nodes_are : nodes ≡ shared.fresh (record { nonterminal = 0; env = env; start = 0 }) ∷ []) (items : empty.items ≡ [])
    (ways : empty.ways ≡ record { firsts = []; further = []; ends = [] }) (waiting : empty.waiting ≡ [])
    (p : Pushed empty f (first_stored 0 (record { nonterminal = 0; env = env; start = 0 }) 1) Begin) where
  abbrev key : InstanceKey
  key = record { nonterminal = 0; env = env; start = 0 }

  abbrev s : Reached
  s = reached envs (shared.fresh key ∷ []) f

  env_is : slice_index_or envs env [] ≡ []
  env_is = get_or_from_slice_get envs env [] [] at

  root_is : instance_by envs key ≡ root_instance
  root_is = ap (λ (z : List Value). record { nonterminal = 0; values = z; start = 0 }) env_is

  one_item : f.items ≡ first_stored 0 key 1 ∷ []
  one_item = p.items ∙ ap (λ (z : List stored.Item). z ++ first_stored 0 key 1 ∷ []) items

  key_alone : NoneTwice (key ∷ [])
  key_alone i j x e f = alone i j x e f
    where
      alone : (i j : ℕ) (x : InstanceKey) → slice_get (key ∷ []) i ≡ Some x → slice_get (key ∷ []) j ≡ Some x → i ≡ j
      alone zero zero x e f = refl
      alone zero (suc j) x e f = cc
      alone (suc i) j x e f = cc

  first_named : IsFirstNamed envs (key ∷ []) 0 key 1
  first_named = given.tables.firsts_are_named envs (key ∷ []) 0 key 1 (slice_get_within envs env [] at) refl

  item_is : means s (first_stored 0 key 1) ≡ first root_instance 1
  item_is = first_named.is ∙ ap (λ (z : Instance). first z 1) root_is

  tables : AreTables s
  tables =
      record {
        environments = once;
        instances = key_alone;
        values = λ k c. subst (λ (z : InstanceKey). z.env < length envs) (sym (contains_one key k c)) (slice_get_within envs env [] at);
        items = λ x c.
            subst (λ (z : stored.Item). IsNamed envs (key ∷ []) z)
            (sym (contains_one (first_stored 0 key 1) x (subst (λ (z : List stored.Item). Contains z x) one_item c)))
            first_named.named;
        numbers = ap (λ (z : WayLists). length z.firsts) p.ways ∙ ap (λ (z : WayLists). length (z.firsts ++ Begin ∷ [])) ways ∙ sym (ap length one_item);
      }

  seen_is : seen s ≡ begun f.waiting
  seen_is =
      λ i. record {
        items = (ap (map (means s)) one_item ∙ ap (λ (z : Item). z ∷ []) item_is) i;
        lists = (p.ways ∙ ap (λ (z : WayLists). numbered.with_first z Begin) ways) i;
        waiting = f.waiting;
      }

  nodes_seen : nodes_in s ≡ fresh root_instance ∷ []
  nodes_seen = ap (λ (z : Instance). fresh z ∷ []) root_is

  put : IsPermutation (ticket_of (first_stored 0 key 1) 0 ∷ []) f.waiting
  put =
      subst (λ (z : List Ticket). IsPermutation (ticket_of (first_stored 0 key 1) 0 ∷ z) f.waiting) waiting
      (subst (λ (n : ℕ). IsPermutation (ticket_of (first_stored 0 key 1) n ∷ empty.waiting) f.waiting) (ap length items) p.waiting)

  ticket_is : (u : Ticket) → Contains f.waiting u ↔ (u ≡ ticket_of (first_stored 0 key 1) 0)
  ticket_is u = (
    λ c. contains_one (ticket_of (first_stored 0 key 1) 0) u
        (Contains-permutation f.waiting (ticket_of (first_stored 0 key 1) 0 ∷ []) u
        (IsPermutation-sym (ticket_of (first_stored 0 key 1) 0 ∷ []) f.waiting put) c),
    λ e. subst (Contains f.waiting) (sym e)
        (Contains-permutation (ticket_of (first_stored 0 key 1) 0 ∷ []) f.waiting (ticket_of (first_stored 0 key 1) 0) put
        (it_is_in (ticket_of (first_stored 0 key 1) 0))),
  )

  whole : IsWhole core text (seen s) (nodes_in s)
  whole =
      subst (λ (z : Finding). IsWhole core text z (nodes_in s)) (sym seen_is)
      (subst (IsWhole core text (begun f.waiting)) (sym nodes_seen) (given.runs.runs_begin core text f.waiting ticket_is))

  pub begins : (budget : ℕ) → length f.items ≤ budget → IsBegun core text budget (reached envs nodes f)
  begins budget within =
      subst (λ (z : List shared.Node). IsBegun core text budget (reached envs z f)) (sym nodes_are)
      (record {
        between = record {
          tables = tables;
          whole = whole;
          edges = record {
            each = λ node c e h.
                absurd (none_in_nil e (subst (λ (z : shared.Node). Contains z.edges e) (contains_one (shared.fresh key) node c) h));
          };
          indexed = λ x c later.
              let here = contains_one (first_stored 0 key 1) x (subst (λ (z : List stored.Item). Contains z x) one_item c) in
              let d = ap (λ (z : stored.Item). z.dot) here in let e = later.call.next in absurd (omega (arith, d, e));
          within = within;
        };
        first = seen_is;
        waits = ticket_is;
        alone = length_permutation (ticket_of (first_stored 0 key 1) 0 ∷ []) f.waiting put;
      })

  -- one item is reachable, so that none is in the budget
  pub none_fits : (budget : ℕ) → budget < length f.items → (budget ≡ 0) × MoreThan core text budget
  none_fits budget over =
      let n = ap length one_item in (
        omega (arith, n, over),
        record {
          items = (seen s).items;
          different = whole.run.once;
          reachable = whole.run.reachable;
          more = let m = length-map f.items (means s) in omega (arith, m, over);
        },
      )

-- from no nodes on the node of an instance is new, and the first
pub first_node : (old nodes : List shared.Node) (called : InstanceKey) (k : ℕ) (b : Bool) → old ≡ [] →
    (b ≡ false → shared.FindsNode old nodes called k) → (b ≡ true → shared.MakesNode old nodes called k) →
    (nodes ≡ shared.fresh called ∷ []) × (k ≡ 0)
first_node old nodes called k true none found made =
    let m = made refl in
    (m.0 ∙ ap (λ (z : List shared.Node). z ++ shared.fresh called ∷ []) none, m.1 ∙ ap length none)
first_node old nodes called k false none found made =
    let m = found refl in
    absurd (none_in_nil m.1.0 (contains_from_at [] k m.1.0 (ap (λ (z : List shared.Node). slice_get z k) (sym none) ∙ m.1.1)))

pub begins_with : (given : laws.Given) (core : List Nonterminal) (text : Input) (budget : ℕ) (s : Reached) → IsEmpty s →
    (envs : List (List Value)) (env : ℕ) → NoneTwice envs → slice_get envs env ≡ Some [] → (nodes : List shared.Node) (root : ℕ) →
    nodes ≡ shared.fresh (record { nonterminal = 0; env = env; start = 0 }) ∷ [] → root ≡ 0 → (f : numbered.Finding) (item : stored.Item) →
    item ≡ first_stored root (record { nonterminal = 0; env = env; start = 0 }) 1 → (r : Result (Unit {0}) RunFault) →
    Pushes s.found f item Begin budget r →
    MatchResult r (λ u. IsBegun core text budget (reached envs nodes f)) (IsUnbegun core text budget)
begins_with given core text budget s e envs env once at nodes root nodes_are root_is f item item_is r p =
    go r (subst (λ (z : stored.Item). Pushes s.found f z Begin budget r)
    (item_is ∙ ap (λ (z : ℕ). first_stored z (record { nonterminal = 0; env = env; start = 0 }) 1) root_is) p)
  where
    go : (r : Result (Unit {0}) RunFault) → Pushes s.found f (first_stored 0 (record { nonterminal = 0; env = env; start = 0 }) 1) Begin budget r →
        MatchResult r (λ u. IsBegun core text budget (reached envs nodes f)) (IsUnbegun core text budget)
    go (Ok u) q = begins given core text envs nodes s.found f env once at nodes_are e.items e.ways e.waiting q.0 budget q.1
    go (Err fault.Budget) q = none_fits given core text envs nodes s.found f env once at nodes_are e.items e.ways e.waiting q.0 budget q.1
    go (Err fault.Memory) q = tt

-- memory ran out
pub unbegun_exit : {T : Type 0} (core : List Nonterminal) (text : Input) (budget : ℕ) (P : T → Type 0) (r : Result T RunFault) →
    IsErrAnd r (λ y. y ≡ fault.Memory) → MatchResult r P (IsUnbegun core text budget)
unbegun_exit core text budget P r h =
    let e = err_from_is_err_and r h in
    subst (λ (z : Result _ RunFault). MatchResult z P (IsUnbegun core text budget)) (sym e.1)
    (subst (λ (z : RunFault). IsUnbegun core text budget z) (sym e.2) tt)

pub unbegun_stops : {T : Type 0} (core : List Nonterminal) (text : Input) (budget : ℕ) (P : T → Type 0) (r : Result T RunFault) (f : RunFault) →
    IsErrAnd r (λ y. y ≡ f) → IsUnbegun core text budget f → MatchResult r P (IsUnbegun core text budget)
unbegun_stops core text budget P r f h d =
    let e = err_from_is_err_and r h in
    subst (λ (z : Result _ RunFault). MatchResult z P (IsUnbegun core text budget)) (sym e.1)
    (subst (λ (z : RunFault). IsUnbegun core text budget z) (sym e.2) d)

pub unbegun_fault : {T : Type 0} (core : List Nonterminal) (text : Input) (budget : ℕ) (r : Result T RunFault) (f : RunFault) →
    IsErrAnd r (λ y. y ≡ f) → IsUnbegun core text budget f → IfErr r (IsUnbegun core text budget)
unbegun_fault core text budget r f h d =
    let e = err_from_is_err_and r h in
    subst (λ (z : Result _ RunFault). IfErr z (IsUnbegun core text budget)) (sym e.1)
    (subst (λ (z : RunFault). IsUnbegun core text budget z) (sym e.2) d)
