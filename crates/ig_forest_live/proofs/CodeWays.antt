-- The ways of a recording in groups are the same ways.
use Rattle.std.proofs.Common.{◌≡◌, ◌↔◌, ◌<◌, ℕ, List, [], eqb, get_or, Contains, length, refl, sym, ap, ◌∙◌, subst}
use Rattle.std.specs.List.{flat_map}
use Rattle.std.proofs.lemmas.Bool.{eqb-true}
use Rattle.std.proofs.lemmas.List.{length-map}
use Rattle.std.proofs.lemmas.List.Elements.{filter_passes, All-contains}
use Rattle.std.proofs.lemmas.Option.{slice_get_within}
use Rattle.ig_text.specs.Input.{Input}
use Rattle.ig_item.specs.Items.{Item}
use Rattle.ig_item.specs.Recorded.{Recording, IsRecorded}
use Rattle.ig_item.specs.Tables.{item_of, items_of}
use Rattle.ig_item.specs.Ways.{WayLists, WayTo, found, again, AreWays}
use Rattle.ig_item.specs.declared.core_grammar.Nonterminal.{Nonterminal}
use Rattle.ig_item.specs.declared.ways.Way.{Way}
use Rattle.ig_item.specs.declared.ways.FurtherWay.{FurtherWay}
use Rattle.ig_item.specs.declared.ways.FurtherEnd.{FurtherEnd}
use Rattle.ig_forest_live.specs.CodeGroups.{numbered}
use Rattle.ig_forest_live.specs.Links.{AreSameWays, IsSameRun, AreByNumber, AreLinks, regrouped}
use Rattle.ig_forest_live.proofs.CodeGroups.{in_groups, of_group, joined_members}

module _ {X : Type 0} (number : X → ℕ) where
  -- groups by number have their members in the groups of their numbers
  pub by_number : (given : List X) (groups : List (List X)) → ((k : ℕ) → get_or groups k [] ≡ numbered number k given) →
      AreByNumber number groups
  by_number given groups are k x c =
      eqb-true (number x) k
      (All-contains (λ y. eqb (number y) k ≡ Rattle.std.specs.Prelude.true) (numbered number k given) x
      (filter_passes (λ y. eqb (number y) k) given) (subst (λ (z : List X). Contains z x) (are k) c))

  -- the group of a number has exactly the members of that number
  pub group_members : (groups : List (List X)) → AreByNumber number groups → (k : ℕ) (x : X) →
      Contains (get_or groups k []) x ↔ (Contains (flat_map (λ group. group) groups) x × (number x ≡ k))
  group_members groups by k x = (
    λ c. (of_group groups k x c, by k x c),
    λ h.
        let r = in_groups groups x h.0 in
        let e : r.0 ≡ k = sym (by r.0 x r.1) ∙ h.1 in
        subst (λ (z : ℕ). Contains (get_or groups z []) x) e r.1,
  )

  -- a slice that is the group of a number
  pub group_slice : (slice joined : List X) (groups : List (List X)) (k : ℕ) → slice ≡ get_or groups k [] →
      flat_map (λ group. group) groups ≡ joined → AreByNumber number groups → (x : X) →
      Contains slice x ↔ (Contains joined x × (number x ≡ k))
  group_slice slice joined groups k is all by x =
      subst (λ (z : List X). Contains z x ↔ (Contains joined x × (number x ≡ k))) (sym is)
      (subst (λ (z : List X). Contains (get_or groups k []) x ↔ (Contains z x × (number x ≡ k))) all (group_members groups by k x))

-- the same ways in another order
module _ (lists others : WayLists) (same : AreSameWays lists others) where
  way_back : {k : ℕ} {way : Way} → WayTo others k way → WayTo lists k way
  way_back {k} {way} (found at) = found (ap (λ (z : List Way). Rattle.std.specs.Prelude.slice_get z k) (sym same.firsts) ∙ at)
  way_back (again more among item is) = again more ((same.further more).0 among) item is

  way_forth : {k : ℕ} {way : Way} → WayTo lists k way → WayTo others k way
  way_forth {k} {way} (found at) = found (ap (λ (z : List Way). Rattle.std.specs.Prelude.slice_get z k) same.firsts ∙ at)
  way_forth (again more among item is) = again more ((same.further more).1 among) item is

  -- they are the ways of the same items
  pub same_ways : (core : List Nonterminal) (text : Input) (items : List Item) → AreWays core text items lists → AreWays core text items others
  same_ways core text items are = record {
    ways = record {
      number = ap length same.firsts ∙ are.ways.number;
      sound = λ k x way at to. are.ways.sound k x way at (way_back to);
      complete =
          λ k x prev taken at gives.
          let c = are.ways.complete k x prev taken at gives in
          record { way = c.way; to = way_forth c.to; says = c.says };
      there = λ more among. are.ways.there more ((same.further more).0 among);
    };
    ends = record {
      first = are.ends.first;
      exact = λ e. (λ c. (are.ends.exact e).0 ((same.ends e).0 c), λ is. (same.ends e).1 ((are.ends.exact e).1 is));
    };
  }

module _ (r : Recording) (recorded : IsRecorded r) where
  -- the items of ways are there
  pub ways_there : (count : ℕ) (given : List FurtherWay) → count ≡ length r.tables.items → given ≡ r.ways.further →
      (w : FurtherWay) → Contains given w → w.item < count
  ways_there count given is same w c =
      subst (λ (n : ℕ). w.item < n) (length-map r.tables.items (item_of r.tables) ∙ sym is)
      (recorded.are_ways.ways.there w (subst (λ (z : List FurtherWay). Contains z w) same c))

  -- the first complete items of nodes are there
  pub ends_there : (count : ℕ) (given : List FurtherEnd) → count ≡ length r.tables.items → given ≡ r.ways.ends →
      (e : FurtherEnd) → Contains given e → e.first < count
  ends_there count given is same e c =
      let h = (recorded.are_ways.ends.exact e).0 (subst (λ (z : List FurtherEnd). Contains z e) same c) in
      subst (λ (n : ℕ). e.first < n) (length-map r.tables.items (item_of r.tables) ∙ sym is)
      (slice_get_within (items_of r.tables) e.first h.first.end.item h.first.end.there)

  -- the recording in groups
  module _ (further : List (List FurtherWay)) (ends : List (List FurtherEnd)) (given : List FurtherWay) (given_ends : List FurtherEnd)
      (given_is : given ≡ r.ways.further) (ends_are : given_ends ≡ r.ways.ends)
      (are : (k : ℕ) → get_or further k [] ≡ numbered (λ w. w.item) k given)
      (are_ends : (k : ℕ) → get_or ends k [] ≡ numbered (λ e. e.first) k given_ends) where
    pub same_run : IsSameRun r (regrouped r further ends)
    same_run = record {
      core = refl;
      text = refl;
      tables = refl;
      ways = record {
        firsts = refl;
        further =
            λ w. subst (λ (z : List FurtherWay). Contains (flat_map (λ group. group) further) w ↔ Contains z w) given_is
            (joined_members (λ v. v.item) given further are w);
        ends =
            λ e. subst (λ (z : List FurtherEnd). Contains (flat_map (λ group. group) ends) e ↔ Contains z e) ends_are
            (joined_members (λ v. v.first) given_ends ends are_ends e);
      };
    }

    pub are_links : AreLinks r further ends
    are_links = record {
      recorded = record {
        reachable = recorded.reachable;
        once = recorded.once;
        instances = recorded.instances;
        environments = recorded.environments;
        are_ways = same_ways r.ways (regrouped r further ends).ways same_run.ways r.core r.text (items_of r.tables) recorded.are_ways;
      };
      further = by_number (λ w. w.item) given further are;
      ends = by_number (λ e. e.first) given_ends ends are_ends;
    }
