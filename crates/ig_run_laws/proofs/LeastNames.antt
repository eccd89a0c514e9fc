-- At the end each node gets the least number of its complete items as its name.
use Rattle.std.proofs.Common.{◌≡◌, ◌⊎◌, ⊎_elim, ℕ, ◌≤◌, List, Contains, refl, sym, ap, ◌∙◌, subst, arith, Bool, true, false}
use Rattle.std.proofs.lemmas.List.{length-map}
use Rattle.std.proofs.lemmas.Option.{same_Some}
use Rattle.std.proofs.lemmas.Bool.Decides.{nat_tests}
use Rattle.std.specs.Prelude.{nat_eq, if◌then◌else◌}
use Rattle.ig_text.specs.Input.{Input}
use Rattle.ig_text.proofs.Lists.{mapped_at, mapped_in, unmapped_at, unmapped_in}
use Rattle.ig_item.specs.Gives.{NodeKey, Taken, Completes}
use Rattle.ig_item.specs.Induction.{ways_same, ends_same}
use Rattle.ig_item.specs.Items.{Item, Reachable}
use Rattle.ig_item.specs.Ways as ways
use Rattle.ig_item.specs.Ways.{WayLists, WayTo, IsEnd, IsFirstEnd, IsFurtherEnd, IsWay, Says, AreWays, AreWaysOf, AreEnds}
use Rattle.ig_item.specs.declared.core_grammar.Nonterminal.{Nonterminal}
use Rattle.ig_item.specs.declared.ways.Way.{Way}
use Rattle.ig_item.specs.declared.ways.Way.TheVariants.{Node as Tree}
use Rattle.ig_item.specs.declared.ways.FurtherWay.{FurtherWay}
use Rattle.ig_item.specs.declared.ways.FurtherEnd.{FurtherEnd}
use Rattle.ig_run_laws.specs.Finding.{Finding, IsTaken}
use Rattle.ig_run_laws.specs.Laws.{EndedRunsHaveWays}
use Rattle.ig_run_laws.specs.Renaming.{IsLeast, GivesLeast, renamed, renamed_way, renamed_further, renamed_end}
use Rattle.ig_run_laws.specs.Run.{IsWhole}
use Rattle.ig_run_laws.specs.Stacks.{Node, AreStacks, HaveNodes, IsName, pop}
use Rattle.ig_run_laws.specs.Trail as trails
use Rattle.ig_run_laws.specs.Trail.{HasTrail, SaysNamed, IsWayNamed, IsFurtherNamed}
use Rattle.ig_run_laws.proofs.After.{pop_of}
use Rattle.ig_run_laws.proofs.Budgets.{all_taken, ended_runs_are_complete}
use Rattle.ig_run_laws.proofs.Grown.{same_or}
use Rattle.ig_run_laws.proofs.Taking.{taken_found}
use Rattle.ig_run_laws.proofs.Trails.{same_key, same_end}

-- which of the two an end becomes
chosen_same : (a b x y : ℕ) → a ≡ b → (if nat_eq a b then x else y) ≡ x
chosen_same a b x y e = let h : nat_eq a b ≡ true = grind (arith, nat_tests) in ap (λ (t : Bool). (if t then x else y)) h

chosen_other : (a b x y : ℕ) → (a ≡ b → ⊥) → (if nat_eq a b then x else y) ≡ y
chosen_other a b x y n = let h : nat_eq a b ≡ false = grind (arith, nat_tests) in ap (λ (t : Bool). (if t then x else y)) h

module _ (core : List Nonterminal) (text : Input) (known : Item → Type 0) (items : List Item) (nodes : List Node) (lists : WayLists)
    (s : AreStacks core text known items nodes) (h : HaveNodes items nodes) (are_found : (y : Item) → known y → Contains items y)
    (trail : HasTrail core text known items nodes lists) (least : ℕ → ℕ) (gives : GivesLeast lists.ends least) where
  -- a name is the number of a complete item of its node
  named_end : (key : NodeKey) (d : ℕ) → IsName nodes key d → IsEnd core known items key d
  named_end key d n =
      subst (λ z. IsEnd core known items (record { instance = z; end = key.end }) d) n.2 (s.dones n.0 n.1 (pop key.end d) n.3)

  -- one item belongs to one node
  one_key : (key other : NodeKey) (d : ℕ) → IsEnd core known items key d → IsEnd core known items other d → key ≡ other
  one_key key other d e f =
      let same : e.item ≡ f.item = same_Some e.item f.item (sym e.there ∙ f.there) in
      same_key key.instance other.instance key.end other.end
      (sym e.completes.instance ∙ ap (λ (z : Item). z.instance) same ∙ f.completes.instance)
      (sym e.completes.end ∙ ap (λ (z : Item). z.position) same ∙ f.completes.end)

  -- the least number of a node by its name
  pub first_is : (key : NodeKey) (d : ℕ) → IsName nodes key d → IsFirstEnd core known items key (least d)
  first_is key d n = record { end = end; least = below }
    where
      l : IsLeast lists.ends d (least d)
      l = gives d

      own : IsEnd core known items key d
      own = named_end key d n

      end : IsEnd core known items key (least d)
      end =
          ⊎_elim (λ (e : least d ≡ d). subst (IsEnd core known items key) (sym e) own)
          (λ (c : Contains lists.ends (record { first = d; item = least d })).
          let f = (trail.ends (record { first = d; item = least d })).0 c in
          subst (λ (z : NodeKey). IsEnd core known items z (least d)) (one_key f.key key d (named_end f.key d f.name) own) f.further)
          l.one

      below : (c : ℕ) → IsEnd core known items key c → least d ≤ c
      below c e =
          ⊎_elim (λ (same : c ≡ d). let m = l.itself in omega (arith, m, same))
          (λ (differ : c ≡ d → ⊥).
          l.each (record { first = d; item = c })
          ((trail.ends (record { first = d; item = c })).1 (record { key = key; name = n; further = e; other = differ })) refl)
          (same_or c d)

  -- a way says the same by least numbers
  says_renamed : (position : ℕ) (way : Way) (prev : Item) (taken : Taken) → SaysNamed items nodes position way prev taken →
      Says core known items position (renamed_way least way) prev taken
  says_renamed position way prev taken (trails.pass k p at) = ways.pass k p at
  says_renamed position way prev taken (trails.leaf k p t at e) = ways.leaf k p t at e
  says_renamed position way prev taken (trails.node k d p key at n) = ways.node k (least d) p key at (first_is key d n)

  way_renamed : (x : Item) (way : Way) → IsWayNamed core text known items nodes x way → IsWay core text known items x (renamed_way least way)
  way_renamed x way (trails.begin e) = ways.begin e
  way_renamed x way (trails.comes v prev taken says g) =
      ways.comes (renamed_way least v) prev taken (says_renamed x.position v prev taken says) g

  abbrev new : WayLists
  new = renamed least lists

  to_renamed : (k : ℕ) (way : Way) → WayTo lists k way → WayTo new k (renamed_way least way)
  to_renamed k way (ways.found at) = ways.found (mapped_at (renamed_way least) lists.firsts k way at)
  to_renamed k way (ways.again more c e is) =
      ways.again (renamed_further least more) (mapped_in (renamed_further least) lists.further more c) e (ap (renamed_way least) is)

  from_renamed : (k : ℕ) (way : Way) → WayTo new k way → (old : Way) × WayTo lists k old × (renamed_way least old ≡ way)
  from_renamed k way (ways.found at) =
      let q = unmapped_at (renamed_way least) lists.firsts k way at in (q.0, ways.found q.1, q.2)
  from_renamed k way (ways.again more c e is) =
      let q = unmapped_in (renamed_further least) lists.further more c in (
        Tree q.0.prev q.0.done,
        ways.again q.0 q.1 (ap (λ (z : FurtherWay). z.item) q.2 ∙ e) refl,
        ap (λ (z : FurtherWay). Tree z.prev z.done) q.2 ∙ sym is,
      )

  are_ways : AreWaysOf core text known items new
  are_ways =
      record {
        number = length-map lists.firsts (renamed_way least) ∙ trail.number;
        sound = λ k x way at to.
            let q = from_renamed k way to in
            subst (IsWay core text known items x) q.2 (way_renamed x q.0 (trail.sound k x q.0 at q.1));
        complete = λ k x prev taken at g.
            let c = trail.complete k x prev taken at g in
            record {
              way = renamed_way least c.way;
              to = to_renamed k c.way c.to;
              says = says_renamed x.position c.way prev taken c.says;
            };
        there = λ more c.
            let q = unmapped_in (renamed_further least) lists.further more c in
            let l = trail.there q.0 q.1 in let e = ap (λ (z : FurtherWay). z.item) q.2 in omega (arith, l, e);
      }

  -- a further end stays one
  further_renamed : (end : FurtherEnd) → IsFurtherNamed core known items nodes end → IsFurtherEnd core known items (renamed_end least end)
  further_renamed end f =
      ⊎_elim
      (λ (same : end.item ≡ least end.first).
      let item = chosen_same end.item (least end.first) end.first end.item same in
      record {
        key = f.key;
        first = first_is f.key end.first f.name;
        further = subst (IsEnd core known items f.key) (sym item) (named_end f.key end.first f.name);
        other = λ e. f.other (same ∙ sym e ∙ item);
      })
      (λ (differ : end.item ≡ least end.first → ⊥).
      let item = chosen_other end.item (least end.first) end.first end.item differ in
      record {
        key = f.key;
        first = first_is f.key end.first f.name;
        further = subst (IsEnd core known items f.key) (sym item) f.further;
        other = λ e. differ (sym item ∙ e);
      })
      (same_or end.item (least end.first))

  from_name : (end : FurtherEnd) (f : IsFurtherEnd core known items end) (d : ℕ) → IsName nodes f.key d →
      (old : FurtherEnd) × IsFurtherNamed core known items nodes old × (renamed_end least old ≡ end)
  from_name end f d n =
      ⊎_elim
      (λ (same : end.item ≡ d).
      let old : FurtherEnd = record { first = d; item = least d } in
      let item = chosen_same (least d) (least d) d (least d) refl in (
        old,
        record { key = f.key; name = n; further = (first_is f.key d n).end; other = λ e. f.other (same ∙ sym e ∙ is_first) },
        same_end (renamed_end least old) end is_first (item ∙ sym same),
      ))
      (λ (differ : end.item ≡ d → ⊥).
      let old : FurtherEnd = record { first = d; item = end.item } in
      let item = chosen_other end.item (least d) d end.item (λ e. f.other (e ∙ is_first)) in (
        old,
        record { key = f.key; name = n; further = f.further; other = differ },
        same_end (renamed_end least old) end is_first item,
      ))
      (same_or end.item d)
    where
      is_first : least d ≡ end.first
      is_first =
          let a = first_is f.key d n in
          let l = a.least end.first f.first.end in let m = f.first.least (least d) a.end in omega (arith, l, m)

  -- a node of a known complete item has a name
  name_of : (x : Item) (key : NodeKey) → known x → Completes core x key → (d : ℕ) × IsName nodes key d
  name_of x key k c =
      let p = pop_of core text known items nodes s h are_found x k c.complete in (
        p.0,
        subst (λ (z : NodeKey). IsName nodes z p.0) (same_key x.instance key.instance x.position key.end c.instance c.end) p.1,
      )

  -- each further end is one that was renamed
  renamed_from : (end : FurtherEnd) → IsFurtherEnd core known items end →
      (old : FurtherEnd) × IsFurtherNamed core known items nodes old × (renamed_end least old ≡ end)
  renamed_from end f =
      let n = name_of f.first.end.item f.key f.first.end.is_known f.first.end.completes in from_name end f n.0 n.1

  are_ends : AreEnds core known items new
  are_ends =
      record {
        first = λ x key k c. let n = name_of x key k c in (least n.0, first_is key n.0 n.1);
        exact = λ end. (
          λ c.
              let q = unmapped_in (renamed_end least) lists.ends end c in
              subst (IsFurtherEnd core known items) q.2 (further_renamed q.0 ((trail.ends q.0).0 q.1)),
          λ f.
              let q = renamed_from end f in
              subst (Contains new.ends) q.2 (mapped_in (renamed_end least) lists.ends q.0 ((trail.ends q.0).1 q.1)),
        );
      }

module _ (core : List Nonterminal) (text : Input) (a : Finding) (nodes : List Node) (least : ℕ → ℕ) (whole : IsWhole core text a nodes)
    (gives : GivesLeast a.lists.ends least) (all : (x : Item) → Reachable core text x → IsTaken a.items a.waiting x) where
  were_found : (y : Item) → IsTaken a.items a.waiting y → Contains a.items y
  were_found = taken_found a.items a.waiting

  reached : (y : Item) → IsTaken a.items a.waiting y → Reachable core text y
  reached y k = whole.run.reachable y (were_found y k)

  pub ways_hold : AreWays core text a.items (renamed least a.lists)
  ways_hold =
      record {
        ways = ways_same core text a.items reached all
            (are_ways core text (IsTaken a.items a.waiting) a.items nodes a.lists whole.stacks whole.have_nodes were_found whole.trail least gives);
        ends = ends_same core text a.items reached all
            (are_ends core text (IsTaken a.items a.waiting) a.items nodes a.lists whole.stacks whole.have_nodes were_found whole.trail least gives);
      }

pub ended_runs_have_ways : EndedRunsHaveWays
ended_runs_have_ways core text a nodes least whole none gives =
    ways_hold core text a nodes least whole gives (λ x r. all_taken a none x ((ended_runs_are_complete core text a nodes whole none x).1 r))
