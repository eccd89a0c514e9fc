-- Tables that grow at their end name what they named, and name it once.
use Rattle.std.proofs.Common.{◌≡◌, ℕ, ◌<◌, ◌≤◌, List, [], Some, length, map, sym, ap, ◌∙◌, subst, arith, slice_get, length-append}
use Rattle.std.specs.Prelude.{slice_index_or, option_map}
use Rattle.std.proofs.lemmas.Option.{slice_get-get_or, slice_get_within, get_or_from_slice_get, slice_get-map}
use Rattle.ig_text.proofs.Lists.{contains_from_at, left_at}
use Rattle.ig_expr.specs.declared.value.Value.{Value}
use Rattle.ig_item.specs.Items.{Item, root_instance}
use Rattle.ig_item.specs.Tables.{instance_by, HaveValues}
use Rattle.ig_item.specs.WellKinded.{NoneTwice}
use Rattle.ig_item.specs.declared.items.Instance.{Instance}
use Rattle.ig_item.specs.declared.items.InstanceKey.{InstanceKey}
use Rattle.ig_item.specs.declared.items.Item as stored
use Rattle.ig_run_tables.specs.Extends.{Extends}
use Rattle.ig_run_moves.specs.Tables.{no_key}
use Rattle.ig_run_moves.specs.Laws.{NamesAreKept, InstancesAreKept, InstancesAreOne, ItemsAreOne, FirstsAreNamed, NamedItemsAreOfTables}

module _ {X : Type 0} where
  pub longer : (xs ys : List X) → Extends xs ys → length xs ≤ length ys
  longer xs ys e = let n = ap length e.is ∙ length-append xs e.more in omega (arith, n)

  -- what stood at a place stands there still
  pub extends_at : (xs ys : List X) (k : ℕ) (x : X) → Extends xs ys → slice_get xs k ≡ Some x → slice_get ys k ≡ Some x
  extends_at xs ys k x e at = subst (λ (z : List X). slice_get z k ≡ Some x) (sym e.is) (left_at xs e.more k x at)

  pub extends_or : (xs ys : List X) (k : ℕ) (d : X) → Extends xs ys → k < length xs → slice_index_or ys k d ≡ slice_index_or xs k d
  extends_or xs ys k d e lt =
      get_or_from_slice_get ys k (slice_index_or xs k d) d (extends_at xs ys k (slice_index_or xs k d) e (slice_get-get_or xs k d lt))

  -- equal members of a list without repeats have equal numbers
  pub same_number : (xs : List X) (i j : ℕ) (d : X) → NoneTwice xs → i < length xs → j < length xs →
      slice_index_or xs i d ≡ slice_index_or xs j d → i ≡ j
  same_number xs i j d once l m e =
      once i j (slice_index_or xs j d) (slice_get-get_or xs i d l ∙ ap Some e) (slice_get-get_or xs j d m)

pub instance_kept : (e f : List (List Value)) (key : InstanceKey) → Extends e f → key.env < length e → instance_by f key ≡ instance_by e key
instance_kept e f key x lt =
    let p = extends_or e f key.env [] x lt in
    ap (λ (z : List Value). record { nonterminal = key.nonterminal; values = z; start = key.start }) p

-- the values of a key that is named are there
pub key_values : (e : List (List Value)) (keys : List InstanceKey) (k : ℕ) → HaveValues e keys → k < length keys →
    (slice_index_or keys k no_key).env < length e
key_values e keys k have lt =
    have (slice_index_or keys k no_key) (contains_from_at keys k (slice_index_or keys k no_key) (slice_get-get_or keys k no_key lt))

pub instances_kept : InstancesAreKept
instances_kept before after key x lt =
    record { there = let l = longer before after x in omega (arith, l, lt); same = instance_kept before after key x lt }

pub names_kept : NamesAreKept
names_kept e f keys more x ex kx have n =
    record {
      named = record {
        instance = let l = longer keys more kx in let h = n.instance in omega (arith, l, h);
        env = let l = longer e f ex in let h = n.env in omega (arith, l, h);
      };
      same = let key = extends_or keys more x.instance no_key kx n.instance in
          let instance = ap (instance_by f) key ∙
          instance_kept e f (slice_index_or keys x.instance no_key) ex (key_values e keys x.instance have n.instance) in
          let env = extends_or e f x.env [] ex n.env in
          λ i. record { instance = instance i; alternative = x.alternative; dot = x.dot; env = env i; position = x.position };
    }

same_stored : (x y : stored.Item) → x.instance ≡ y.instance → x.alternative ≡ y.alternative → x.dot ≡ y.dot → x.env ≡ y.env →
    x.position ≡ y.position → x ≡ y
same_stored x y a b c d e = λ i. record { instance = a i; alternative = b i; dot = c i; env = d i; position = e i }

same_key : (x y : InstanceKey) → x.nonterminal ≡ y.nonterminal → x.env ≡ y.env → x.start ≡ y.start → x ≡ y
same_key x y a b c = λ i. record { nonterminal = a i; env = b i; start = c i }

pub instances_one : InstancesAreOne
instances_one envs x y once l m e =
    same_key x y (ap (λ (z : Instance). z.nonterminal) e) (same_number envs x.env y.env [] once l m (ap (λ (z : Instance). z.values) e))
    (ap (λ (z : Instance). z.start) e)

pub items_one : ItemsAreOne
items_one envs keys x y once keys_once have m n e =
    let key =
    instances_one envs (slice_index_or keys x.instance no_key) (slice_index_or keys y.instance no_key) once
    (key_values envs keys x.instance have m.instance) (key_values envs keys y.instance have n.instance) (ap (λ (z : Item). z.instance) e) in
    same_stored x y (same_number keys x.instance y.instance no_key keys_once m.instance n.instance key)
    (ap (λ (z : Item). z.alternative) e) (ap (λ (z : Item). z.dot) e)
    (same_number envs x.env y.env [] once m.env n.env (ap (λ (z : Item). z.env) e)) (ap (λ (z : Item). z.position) e)

pub firsts_named : FirstsAreNamed
firsts_named envs keys instance key a lt at =
    record {
      named = record { instance = slice_get_within keys instance key at; env = lt };
      is = let e = get_or_from_slice_get keys instance key no_key at in
          ap (λ (z : InstanceKey). record { instance = instance_by envs z; alternative = a; dot = 0; env = slice_index_or envs key.env []; position = key.start }) e;
    }

-- a function of a member that is there, looked up in the mapped list
mapped_or : {X Y : Type 0} (f : X → Y) (xs : List X) (k : ℕ) (d : X) (c : Y) → k < length xs →
    slice_index_or (map f xs) k c ≡ f (slice_index_or xs k d)
mapped_or f xs k d c lt =
    get_or_from_slice_get (map f xs) k (f (slice_index_or xs k d)) c
    (slice_get-map f xs k ∙ ap (option_map f) (slice_get-get_or xs k d lt))

pub named_of_tables : NamedItemsAreOfTables
named_of_tables envs keys items x n =
    let e = mapped_or (instance_by envs) keys x.instance no_key root_instance n.instance in
    ap (λ (z : Instance). record { instance = z; alternative = x.alternative; dot = x.dot; env = slice_index_or envs x.env []; position = x.position }) e
