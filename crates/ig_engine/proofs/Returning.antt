-- Items behind calls.
use Rattle.std.proofs.Common.{◌≡◌, ◌⊎◌, ⊎_elim, inl, inr, ℕ, List, [], ◌∷◌, ◌++◌, length, Contains, Some, refl, sym, ap, ◌∙◌, subst, arith, map, slice_get, append_assoc, reverse}
use Rattle.std.specs.Prelude.{◌↔◌, Bool, Result, Ok, Err, OnOk, Option, None, IsTrue, true, false}
use Rattle.std.proofs.lemmas.Option.{same_Some, slice_get_within}
use Rattle.std.proofs.lemmas.List.{append-nil}
use Rattle.std.proofs.lemmas.List.Elements.{Contains-append_left, Contains-append_right, Contains-append_cases}
use Rattle.std.proofs.lemmas.List.Sorted.{IsPermutation-reverse, Contains-permutation}
use Rattle.ig_text.specs.Input.{Input}
use Rattle.ig_text.specs.declared.pattern.Pattern.{Pattern}
use Rattle.ig_text.proofs.Lists.{at_from_contains, contains_from_at, contains_one, it_is_in, left_at, mapped_at, mapped_in, none_in_nil}
use Rattle.ig_expr.specs.declared.value.Value.{Value}
use Rattle.ig_item.specs.Items.{Item, Calls, MatchesNone, past, span_of}
use Rattle.ig_item.specs.WellKinded.{NoneTwice}
use Rattle.ig_item.specs.declared.core_grammar.Nonterminal.{Nonterminal}
use Rattle.ig_item.specs.declared.items.Instance.{Instance}
use Rattle.ig_item.specs.declared.items.Item as stored
use Rattle.ig_item.specs.declared.run_fault.RunFault.{RunFault}
use Rattle.ig_item.specs.declared.ways.Way.{Way}
use Rattle.ig_item.specs.declared.ways.Way.TheVariants.{Node as Tree}
use Rattle.ig_gss.specs.Nodes as shared
use Rattle.ig_gss.specs.declared.marks.Edge.{Edge}
use Rattle.ig_run_moves.specs.Finding as numbered
use Rattle.ig_run_moves.specs.Rules.{IsCallAt, IsPastCall, step_at}
use Rattle.ig_item.specs.Step.{Call}
use Rattle.ig_run_moves.specs.Tables.{Moves}
use Rattle.ig_run_laws.specs.FirstCalls.{CallsNothing}
use Rattle.ig_run_laws.specs.Rules.{IsCaller, IsReturn}
use Rattle.ig_run_tables.specs.Extends.{Extends}
use Rattle.ig_engine.specs.Adding.{Adds, AreNew, By, IsAdded, IsReturnBy, ReturnsIn}
use Rattle.ig_engine.specs.Given as laws
use Rattle.ig_engine.specs.Reached.{Reached, AreIndexed, AreTables, IsEdge, Named, Says, keys_in, means, reached, seen}
use Rattle.ig_engine.proofs.Adding.{adds_alike, adds_nothing, adds_then, returns_add, stops_alike, stops_then, between_tables, moved_alike, moved_into, moved_named, moved_nothing}
use Rattle.ig_engine.proofs.Indexing.{behind_indexed, is_later, never_later}
use Rattle.ig_engine.proofs.Lists.{at_middle, extends_at, extends_cases, in_reverse}
use Rattle.ig_engine.proofs.Tables.{grown_means}

-- the item behind the call of the item of number n, which is this one
module _ (given : laws.Tables) (core : List Nonterminal) (text : Input) (a : Reached) (t : AreTables a) (n : ℕ) (item : stored.Item)
    (at : slice_get a.found.items n ≡ Some item) (done end : ℕ) (callee : Instance) (label : Option (List ℕ)) (excluded : List Pattern)
    (calls : Calls core text (means a item) callee label excluded) where
  abbrev Behind : Item → Item → Type 0
  Behind = IsPastCall text label excluded end

  item_named : Named a item
  item_named = t.items item (contains_from_at a.found.items n item at)

  at_seen : slice_get (seen a).items n ≡ Some (means a item)
  at_seen = mapped_at (means a) a.found.items n item at

  pub into_return : (way : Way) (x : Item) → By (Tree n done) (Behind (means a item)) way x →
      IsReturnBy core text (seen a).items n done end way x
  into_return way x h =
      (means a item, at_seen, h.0, callee, record { label = label; excluded = excluded; calls = calls; free = h.1.0; is = h.1.1 })

  from_return : (way : Way) (x : Item) → IsReturnBy core text (seen a).items n done end way x →
      By (Tree n done) (Behind (means a item)) way x
  from_return way x q = (q.2, past_call q.3 (subst (λ (z : Item). IsReturn core text z q.3 end x) same q.4))
    where
      same : q.0 ≡ means a item
      same = same_Some q.0 (means a item) (sym q.1 ∙ at_seen)

      past_call : (other : Instance) → IsReturn core text (means a item) other end x → Behind (means a item) x
      past_call other r =
          let one = given.calls_are_one core text (means a item) other callee r.label label r.excluded excluded r.calls calls in (
            subst (λ (z : List Pattern). MatchesNone text z item.position end) one.excluded r.free,
            r.is ∙ ap (λ (z : Option (List ℕ)). past (means a item) (span_of z item.position end) end) one.label,
          )

  -- after environments were added
  module _ (envs : List (List Value)) (wider : Extends a.envs envs) (once : NoneTwice envs) (o : Option stored.Item)
      (m : Moves a.envs envs item Behind o) (budget : ℕ) where
    pub returned_none : o ≡ None → Adds (IsReturnBy core text (seen a).items n done end) budget a (reached envs a.nodes a.found) (Ok tt)
    returned_none is =
        adds_alike (By (Tree n done) (Behind (means a item))) (IsReturnBy core text (seen a).items n done end) budget a
        (reached envs a.nodes a.found) (Ok tt) into_return from_return
        (moved_nothing given a t envs wider once item item_named Behind o m (Tree n done) is budget)

    pub returned_some : (y : stored.Item) → o ≡ Some y → (f : numbered.Finding) (is_first : Bool) (r : Result (Unit {0}) RunFault) →
        ReturnsIn a.found f y n done is_first budget r →
        Adds (IsReturnBy core text (seen a).items n done end) budget a (reached envs a.nodes f) r
    returned_some y is f is_first r p =
        adds_alike (By (Tree n done) (Behind (means a item))) (IsReturnBy core text (seen a).items n done end) budget a
        (reached envs a.nodes f) r into_return from_return
        (moved_alike given a t envs wider once item item_named Behind o m (Tree n done) y is budget (reached envs a.nodes f) r
        (returns_add given (reached envs a.nodes a.found) (between_tables given a t envs wider once item item_named Behind o m (Tree n done)) f y
        (moved_named given a t envs wider once item item_named Behind o m (Tree n done) y is) n done is_first budget r p))

    -- it isn't there, where nothing of the kind is
    pub new_here : AreNew a (IsReturnBy core text (seen a).items n done end) → (y : stored.Item) → o ≡ Some y → Contains a.found.items y → ⊥
    new_here new y is c =
        let same = grown_means given a envs wider t y (t.items y c) in
        new (Tree n done) (means a y)
        (into_return (Tree n done) (means a y)
        (refl, moved_into given a t envs wider once item item_named Behind o m (Tree n done) y is (means a y) (sym same)))
        (mapped_in (means a) a.found.items y c)

    -- the flag of the call
    module _ (is_first : Bool) (first : IsTrue is_first ↔ CallsNothing core (means a item).instance.nonterminal item.alternative item.dot) where
      other_call : is_first ≡ false → CallsNothing core (means a item).instance.nonterminal item.alternative item.dot → ⊥
      other_call is none = let q : false ≡ true = sym is ∙ first.1 none in cc

      -- if it is there it is indexed, where the call isn't the first
      pub indexed_here : AreIndexed core (keys_in a) a.found → is_first ≡ false → (y : stored.Item) → o ≡ Some y → Contains a.found.items y →
          Contains a.found.indexed y
      indexed_here old other y is c =
          old y c (is_later core (keys_in a) item y (m.further y is) text a refl callee label excluded calls (other_call other))

      -- and so it is afterwards
      pub indexed_then : AreIndexed core (keys_in a) a.found → (y : stored.Item) → o ≡ Some y → (f : numbered.Finding)
          (r : Result (Unit {0}) RunFault) → ReturnsIn a.found f y n done is_first budget r → OnOk r (AreIndexed core (keys_in a) f)
      indexed_then old y is f (Ok u) p =
          behind_indexed core (keys_in a) a.found f y n done is_first p.0
          (λ h. never_later core (keys_in a) item y (m.further y is) (first.0 h)) old
      indexed_then old y is f (Err e) p = tt

-- the item of an edge
module _ (core : List Nonterminal) (text : Input) (a : Reached) (edge : Edge) (e : IsEdge core text a edge) (item : stored.Item)
    (at : slice_get a.found.items edge.item ≡ Some item) where
  edge_item : e.item ≡ item
  edge_item = same_Some e.item item (sym e.there ∙ at)

  pub edge_calls : Calls core text (means a item) e.callee e.calls.label e.calls.excluded
  edge_calls =
      subst (λ (z : stored.Item). Calls core text (means a z) e.callee e.calls.label e.calls.excluded) edge_item e.calls.calls

  pub edge_caller : (callee : Instance) × IsCaller core text (means a item) callee
  edge_caller = (e.callee, record { label = e.calls.label; excluded = e.calls.excluded; calls = edge_calls })

  pub edge_says : Says core text edge (means a item)
  edge_says = subst (λ (z : stored.Item). Says core text edge (means a z)) edge_item e.says

  pub edge_bare : IsTrue edge.is_bare → Calls core text (means a item) e.callee None []
  edge_bare is =
      let b = e.says.bare is e.callee e.calls.label e.calls.excluded e.calls.calls in
      subst (λ (z : List Pattern). Calls core text (means a item) e.callee None z) b.1
      (subst (λ (z : Option (List ℕ)). Calls core text (means a item) e.callee z e.calls.excluded) b.0 edge_calls)

-- an edge stays one as items and environments are added
pub edge_on : (given : laws.Tables) (core : List Nonterminal) (text : Input) (may : Way → Item → Type 0) (budget : ℕ) (a b : Reached) →
    AreTables a → IsAdded may budget a b → (edge : Edge) → IsEdge core text a edge → IsEdge core text b edge
edge_on given core text may budget a b t d edge e =
    record {
      item = e.item;
      there = extends_at a.found.items b.found.items edge.item e.item d.items e.there;
      callee = e.callee;
      calls = subst (λ (z : Item). IsCaller core text z e.callee) (sym same) e.calls;
      says = subst (Says core text edge) (sym same) e.says;
    }
  where
    same : means b e.item ≡ means a e.item
    same =
        let named = t.items e.item (contains_from_at a.found.items edge.item e.item e.there) in
        ap (λ (z : List shared.Node). means (reached b.envs z b.found) e.item) d.nodes ∙ grown_means given a b.envs d.envs t e.item named

-- a return by the item of a number, in lists that have the same item there
same_return : (core : List Nonterminal) (text : Input) (xs ys : List Item) (n done end : ℕ) (y : Item) → slice_get xs n ≡ Some y →
    slice_get ys n ≡ Some y → (way : Way) (x : Item) → IsReturnBy core text xs n done end way x → IsReturnBy core text ys n done end way x
same_return core text xs ys n done end y at there way x q =
    (q.0, there ∙ ap Some (sym (same_Some q.0 y (sym q.1 ∙ at))), q.2, q.3, q.4)

-- x is behind a call of an item of one of these numbers
abbrev pub IsReturnOf : List Nonterminal → Input → List Item → {X : Type 0} → (X → ℕ) → (X → ℕ) → (X → ℕ) → List X → Way → Item → Type 0
IsReturnOf core text items {X} number done end xs way x =
    (v : X) × Contains xs v × IsReturnBy core text items (number v) (done v) (end v) way x

-- how far a walk has come that has these still before it
pub record Walks (core : List Nonterminal) (text : Input) (budget : ℕ) (a : Reached) {X : Type 0} (number done end : X → ℕ)
    (whole rest : List X) (b : Reached) : Type 0 where
  pub visited : List X
  pub split : visited ++ rest ≡ whole
  pub adds : IsAdded (IsReturnOf core text (seen a).items number done end visited) budget a b

-- one after the other of several returns, which come about by items of these numbers
module _ (given : laws.Tables) (core : List Nonterminal) (text : Input) (budget : ℕ) (a : Reached) (t : AreTables a) (X : Type 0)
    (number done end : X → ℕ) where
  abbrev Of : List X → Way → Item → Type 0
  Of xs = IsReturnOf core text (seen a).items number done end xs

  abbrev Walking : List X → List X → Reached → Type 0
  Walking whole rest b = Walks core text budget a number done end whole rest b

  pub walk_starts : (whole : List X) → Walking whole whole a
  walk_starts whole =
      record {
        visited = [];
        split = refl;
        adds = adds_nothing (Of []) budget a t (λ w x m. none_in_nil m.0 m.1);
      }

  module _ (whole rest : List X) (v : X) (b : Reached) (w : Walking whole (v ∷ rest) b) where
    pub in_whole : Contains whole v
    in_whole =
        subst (λ (z : List X). Contains z v) w.split
        (Contains-append_right w.visited (v ∷ rest) v (Contains-append_left (v ∷ []) rest v (it_is_in v)))

    one_into : (way : Way) (x : Item) → Of w.visited way x → Of (w.visited ++ v ∷ []) way x
    one_into way x m = (m.0, Contains-append_left w.visited (v ∷ []) m.0 m.1, m.2)

    -- where an item of that number is
    module _ (y : Item) (at : slice_get (seen a).items (number v) ≡ Some y) where
      there_too : slice_get (seen b).items (number v) ≡ Some y
      there_too = extends_at (seen a).items (seen b).items (number v) y w.adds.records.items at

      abbrev Here : Way → Item → Type 0
      Here = IsReturnBy core text (seen b).items (number v) (done v) (end v)

      here_into : (way : Way) (x : Item) → Here way x → Of (w.visited ++ v ∷ []) way x
      here_into way x m = (
        v,
        Contains-append_right w.visited (v ∷ []) v (it_is_in v),
        same_return core text (seen b).items (seen a).items (number v) (done v) (end v) y there_too at way x m,
      )

      here_or : (way : Way) (x : Item) → Of (w.visited ++ v ∷ []) way x → Of w.visited way x ⊎ Here way x
      here_or way x m =
          ⊎_elim (λ (h : Contains w.visited m.0). inl (m.0, h, m.2))
          (λ (h : Contains (v ∷ []) m.0).
          inr (same_return core text (seen a).items (seen b).items (number v) (done v) (end v) y at there_too way x
          (subst (λ (z : X). IsReturnBy core text (seen a).items (number z) (done z) (end z) way x) (contains_one v m.0 h) m.2)))
          (Contains-append_cases w.visited (v ∷ []) m.0 m.1)

      -- nothing of what comes next is there, where no other member gives the same
      pub walk_new : (key : X → ℕ) → NoneTwice (map key whole) → AreNew a (IsReturnBy core text (seen a).items (number v) (done v) (end v)) →
          ((u : X) → Contains whole u → (p q : Way) (x : Item) → IsReturnBy core text (seen a).items (number u) (done u) (end u) p x →
          IsReturnBy core text (seen a).items (number v) (done v) (end v) q x → key u ≡ key v) → AreNew b Here
      walk_new key once new apart way x h c =
          ⊎_elim (λ (l : Contains (seen a).items x). new way x back l)
          (λ (l : Contains w.adds.finds.items.more x). let f = w.adds.finds.each x l in twice f.1.0 f.1.1 (apart f.1.0 (visited_in f.1.0 f.1.1) f.0 way x f.1.2 back))
          (extends_cases (seen a).items (seen b).items x w.adds.finds.items c)
        where
          back : IsReturnBy core text (seen a).items (number v) (done v) (end v) way x
          back = same_return core text (seen b).items (seen a).items (number v) (done v) (end v) y there_too at way x h

          visited_in : (u : X) → Contains w.visited u → Contains whole u
          visited_in u i = subst (λ (z : List X). Contains z u) w.split (Contains-append_left w.visited (v ∷ rest) u i)

          twice : (u : X) → Contains w.visited u → key u ≡ key v → ⊥
          twice u i same =
              let k = at_from_contains w.visited u i in
              let lt = slice_get_within w.visited k.0 u k.1 in
              let first : slice_get whole k.0 ≡ Some u =
              subst (λ (z : List X). slice_get z k.0 ≡ Some u) w.split (left_at w.visited (v ∷ rest) k.0 u k.1) in
              let last : slice_get whole (length w.visited) ≡ Some v =
              subst (λ (z : List X). slice_get z (length w.visited) ≡ Some v) w.split (at_middle w.visited v rest) in
              let e = once k.0 (length w.visited) (key v) (mapped_at key whole k.0 u first ∙ ap Some same) (mapped_at key whole (length w.visited) v last) in
              omega (arith, e, lt)

      pub walk_goes : (c : Reached) → IsAdded Here budget b c → Walking whole rest c
      walk_goes c d =
          record {
            visited = w.visited ++ v ∷ [];
            split = append_assoc w.visited (v ∷ []) rest ∙ w.split;
            adds = adds_then (Of (w.visited ++ v ∷ [])) (Of w.visited) Here budget a b c (Ok tt) one_into here_into here_or w.adds d;
          }

      pub walk_stops : (c : Reached) (f : RunFault) → Adds Here budget b c (Err f) → Adds (Of whole) budget a c (Err f)
      walk_stops c f d =
          stops_then (Of whole) (Of w.visited) Here budget a b c f
          (λ way x m. (m.0, subst (λ (z : List X). Contains z m.0) w.split (Contains-append_left w.visited (v ∷ rest) m.0 m.1), m.2))
          (λ way x m. (v, in_whole, same_return core text (seen b).items (seen a).items (number v) (done v) (end v) y there_too at way x m))
          w.adds d

  -- all are visited, of a list that was walked from its end
  pub walk_ends : (xs rest : List X) (b : Reached) → rest ≡ [] → Walking (reverse xs) rest b → Adds (Of xs) budget a b (Ok tt)
  walk_ends xs rest b none w =
      let all : w.visited ≡ reverse xs = sym (append-nil w.visited) ∙ ap (λ (z : List X). w.visited ++ z) (sym none) ∙ w.split in
      adds_alike (Of w.visited) (Of xs) budget a b (Ok tt)
      (λ way x m. (m.0, in_reverse xs m.0 (subst (λ (z : List X). Contains z m.0) all m.1), m.2))
      (λ way x m. (
        m.0,
        subst (λ (z : List X). Contains z m.0) (sym all) (Contains-permutation xs (reverse xs) m.0 (IsPermutation-reverse xs) m.1),
        m.2,
      )) w.adds

  pub walk_stopped : (xs : List X) (b : Reached) (f : RunFault) → Adds (Of (reverse xs)) budget a b (Err f) →
      Adds (Of xs) budget a b (Err f)
  walk_stopped xs b f d =
      stops_alike (Of (reverse xs)) (Of xs) budget a b f (λ way x m. (m.0, in_reverse xs m.0 m.1, m.2)) d

-- the step of an item that calls is a call
pub call_there : (given : laws.Tables) (core : List Nonterminal) (text : Input) (it : Item) (callee : Instance) (label : Option (List ℕ))
    (excluded : List Pattern) → Calls core text it callee label excluded → (n : ℕ) → n ≡ it.instance.nonterminal →
    IsCallAt core n it.alternative it.dot label excluded
call_there given core text it callee label excluded c n is =
    record {
      callee = callee.nonterminal;
      arguments = c.arguments;
      is = ap (λ (z : ℕ). step_at core z it.alternative it.dot) is ∙
          (given.steps_are_behind core it (Call callee.nonterminal c.arguments label excluded)).0 (record { names = c.names; before = c.before });
    }
