-- At the end of the text the items found are exactly the reachable ones.
use Rattle.std.proofs.Common.{◌≡◌, ℕ, ◌<◌, ◌≤◌, List, [], ◌∷◌, ◌++◌, Some, length, map, Contains, refl, sym, ap, ◌∙◌, subst, arith, slice_get, length-append}
use Rattle.std.specs.Prelude.{slice_index_or, option_map}
use Rattle.std.proofs.lemmas.List.{append-nil, length-map}
use Rattle.std.proofs.lemmas.Option.{slice_get-map, slice_get-get_or, get_or_from_slice_get}
use Rattle.std.proofs.Math.Seq.{take-length}
use Rattle.std.proofs.lemmas.List.Elements.{Contains-append_left, Contains-append_right}
use Rattle.ig_text.specs.Input.{Input}
use Rattle.ig_text.proofs.Lists.{contains_from_at, mapped_in, same_map}
use Rattle.ig_expr.specs.declared.value.Value.{Value}
use Rattle.ig_item.specs.Induction.{kept}
use Rattle.ig_item.specs.Items.{Item, Follows, Reachable, MoreThan, root_instance}
use Rattle.ig_item.specs.Laws.{ItemsAreInText}
use Rattle.ig_item.specs.Recorded.{AreReachable}
use Rattle.ig_item.specs.Tables.{Tables, AreTables, instance_by, item_of, items_of, tables_by}
use Rattle.ig_item.specs.WellKinded.{NoneTwice}
use Rattle.ig_item.specs.declared.core_grammar.Nonterminal.{Nonterminal}
use Rattle.ig_item.specs.declared.items.Instance.{Instance}
use Rattle.ig_item.specs.declared.items.InstanceKey.{InstanceKey}
use Rattle.ig_item.specs.declared.items.Item as stored
use Rattle.ig_plain.specs.declared.found.Found.{Found}
use Rattle.ig_run_moves.specs.declared.waiting.Waiting.{Waiting}
use Rattle.ig_run_moves.specs.Tables.{IsNamed, no_key}
use Rattle.ig_plain.specs.Found.{means, found_in, later_in, taken_in, Named}
use Rattle.ig_plain.specs.Run.{IsRun}
use Rattle.ig_plain.proofs.Growth.{found_named}
use Rattle.ig_plain.proofs.Distinct.{different, counted}
use Rattle.ig_plain.proofs.Completes.{instances_once}
use Rattle.ig_plain.proofs.Fewer.{at_most}

module _ (core : List Nonterminal) (text : Input) (law : ItemsAreInText) (budget : ℕ) (s : Found) (w : Waiting)
    (r : IsRun core text budget (length text.characters) (length s.here.items) s w) where
  pub no_later : s.later.items ≡ []
  no_later = none s.later.items (λ x c. never x c)
    where
      never : (x : stored.Item) → Contains s.later.items x → ⊥
      never x c =
          let l = r.taking.stored.behind x c in
          let q = (law core text (means s x) (r.taking.reachable (means s x) (Contains-append_right (found_in s) (later_in s) (means s x) (mapped_in (means s) s.later.items x c)))).within in
          omega (arith, l, q)

      none : (xs : List stored.Item) → ((x : stored.Item) → Contains xs x → ⊥) → xs ≡ []
      none [] f = refl
      none (x ∷ xs) f = absurd (f x (contains_from_at (x ∷ xs) 0 x refl))

  abbrev found : List Item
  found = found_in s

  all_found : found_in s ++ later_in s ≡ found_in s
  all_found = ap (λ (z : List stored.Item). found_in s ++ map (means s) z) no_later ∙ append-nil (found_in s)

  pub taken_all : taken_in s (length s.here.items) ≡ found_in s
  taken_all = ap (λ (z : List stored.Item). map (means s) (s.done.items ++ z)) (take-length s.here.items)

  pub sound : (x : Item) → Contains (found_in s) x → Reachable core text x
  sound x c = r.taking.reachable x (Contains-append_left (found_in s) (later_in s) x c)

  pub complete : (x : Item) → Reachable core text x → Contains (found_in s) x
  complete x q =
      kept core text (Contains (found_in s))
      (λ y f.
      subst (λ (z : List Item). Contains z y) all_found
      (r.taking.closed y (subst (λ (z : List Item). Follows core text (Contains z) y) (sym taken_all) f))) x q

  pub once : NoneTwice (found_in s)
  once = subst NoneTwice all_found (different (length text.characters) s r.taking.stored)

  few : length (found_in s) ≤ budget
  few =
      let a = ap length all_found in let b = counted (length text.characters) s r.taking.stored in let l = r.taking.within in omega (arith, a, b, l)

  -- the tables of the answer
  abbrev tables : Tables
  tables = tables_by s.keys s.envs.keys (s.done.items ++ s.here.items)

  key_same : (x : stored.Item) → Named s x → item_of tables x ≡ means s x
  key_same x n =
      let instance : Instance = instance_by s.envs.keys (slice_index_or s.keys x.instance no_key) in
      let at : slice_get (map (instance_by s.envs.keys) s.keys) x.instance ≡ Some instance =
      slice_get-map (instance_by s.envs.keys) s.keys x.instance ∙
      ap (option_map (instance_by s.envs.keys)) (slice_get-get_or s.keys x.instance no_key n.instance) in
      ap (λ (z : Instance). record { instance = z; alternative = x.alternative; dot = x.dot; env = slice_index_or s.envs.keys x.env []; position = x.position })
      (get_or_from_slice_get (map (instance_by s.envs.keys) s.keys) x.instance instance root_instance at)

  pub items_same : items_of tables ≡ found_in s
  items_same =
      same_map (item_of tables) (means s) (s.done.items ++ s.here.items) (λ x c. key_same x (found_named s x c))

  pub exactly : AreReachable core text tables
  exactly x =
      (λ c. sound x (subst (λ (z : List Item). Contains z x) items_same c), λ q. subst (λ (z : List Item). Contains z x) (sym items_same) (complete x q))

  pub none_twice : NoneTwice (items_of tables)
  none_twice = subst NoneTwice (sym items_same) once

  pub no_more : MoreThan core text budget → ⊥
  no_more m =
      let l = at_most m.items (found_in s) m.different (λ x c. complete x (m.reachable x c)) in let f = few in let n = m.more in omega (arith, l, f, n)

  pub keys_once : NoneTwice tables.instances
  keys_once = instances_once s r.taking.stored.tables.environments r.taking.stored.tables.instances
