-- Tables that grow at their end name what they named, and more items are found.
use Rattle.std.proofs.Common.{◌≡◌, ◌⊎◌, ⊎_elim, inl, inr, ℕ, ◌<◌, ◌≤◌, List, [], ◌++◌, Some, length, map, Contains, sym, ap, ◌∙◌, subst, arith, slice_get, length-append, append_assoc}
use Rattle.std.specs.Prelude.{slice_index_or}
use Rattle.std.proofs.lemmas.List.{append-nil, map-append}
use Rattle.std.proofs.lemmas.Option.{slice_get-get_or, get_or_from_slice_get}
use Rattle.std.proofs.lemmas.List.Elements.{Contains-append_left, Contains-append_right, Contains-append_cases}
use Rattle.ig_text.proofs.Lists.{contains_from_at, left_at, none_in_nil, unmapped_in, same_map}
use Rattle.ig_expr.specs.declared.value.Value.{Value}
use Rattle.ig_item.specs.Items.{Item}
use Rattle.ig_item.specs.Tables.{instance_by, HaveValues}
use Rattle.ig_item.specs.WellKinded.{NoneTwice}
use Rattle.ig_item.specs.declared.items.Instance.{Instance}
use Rattle.ig_item.specs.declared.items.InstanceKey.{InstanceKey}
use Rattle.ig_item.specs.declared.items.Item as stored
use Rattle.ig_plain.specs.declared.found.Found.{Found}
use Rattle.ig_run_tables.specs.Extends.{Extends}
use Rattle.ig_run_moves.specs.Tables.{IsNamed, item_by, no_key}
use Rattle.ig_plain.specs.Found.{means, found_in, later_in, Named, Grows}

module _ {X : Type 0} where
  pub longer : (xs ys : List X) → Extends xs ys → length xs ≤ length ys
  longer xs ys e = let n = ap length e.is ∙ length-append xs e.more in omega (arith, n)

  pub extends_at : (xs ys : List X) (k : ℕ) (x : X) → Extends xs ys → slice_get xs k ≡ Some x → slice_get ys k ≡ Some x
  extends_at xs ys k x e at = subst (λ (z : List X). slice_get z k ≡ Some x) (sym e.is) (left_at xs e.more k x at)

  pub extends_or : (xs ys : List X) (k : ℕ) (d : X) → Extends xs ys → k < length xs → slice_index_or ys k d ≡ slice_index_or xs k d
  extends_or xs ys k d e lt =
      get_or_from_slice_get ys k (slice_index_or xs k d) d (extends_at xs ys k (slice_index_or xs k d) e (slice_get-get_or xs k d lt))

  pub extends_in : (xs ys : List X) (x : X) → Extends xs ys → Contains xs x → Contains ys x
  extends_in xs ys x e c = subst (λ (z : List X). Contains z x) (sym e.is) (Contains-append_left xs e.more x c)

  abbrev pub extends_then : (xs ys zs : List X) → Extends xs ys → Extends ys zs → Extends xs zs
  extends_then xs ys zs a b =
      record { more = a.more ++ b.more; is = b.is ∙ ap (λ (z : List X). z ++ b.more) a.is ∙ append_assoc xs a.more b.more }

  pub extends_cases : (xs ys : List X) (x : X) → (e : Extends xs ys) → Contains ys x → Contains xs x ⊎ Contains e.more x
  extends_cases xs ys x e c = Contains-append_cases xs e.more x (subst (λ (z : List X). Contains z x) e.is c)

pub values_more : (e f : List (List Value)) (keys : List InstanceKey) → Extends e f → HaveValues e keys → HaveValues f keys
values_more e f keys x have key c = let l = longer e f x in omega (arith, l, have key c)

pub named_more : (e f : List (List Value)) (keys : List InstanceKey) (x : stored.Item) → Extends e f → IsNamed e keys x → IsNamed f keys x
named_more e f keys x ex n = record { instance = n.instance; env = let l = longer e f ex in omega (arith, l, n.env) }

pub instance_kept : (e f : List (List Value)) (key : InstanceKey) → Extends e f → key.env < length e → instance_by f key ≡ instance_by e key
instance_kept e f key x lt =
    let p = extends_or e f key.env [] x lt in
    ap (λ (z : List Value). record { nonterminal = key.nonterminal; values = z; start = key.start }) p

key_there : (keys : List InstanceKey) (k : ℕ) → k < length keys → Contains keys (slice_index_or keys k no_key)
key_there keys k lt = contains_from_at keys k (slice_index_or keys k no_key) (slice_get-get_or keys k no_key lt)

-- what a stored item means stays as tables grow
pub means_kept : (e f : List (List Value)) (keys more : List InstanceKey) (x : stored.Item) → Extends e f → Extends keys more →
    HaveValues e keys → IsNamed e keys x → item_by f more x ≡ item_by e keys x
means_kept e f keys more x ex kx have n =
    let key = extends_or keys more x.instance no_key kx n.instance in
    let there = have (slice_index_or keys x.instance no_key) (key_there keys x.instance n.instance) in
    let instance = ap (instance_by f) key ∙ instance_kept e f (slice_index_or keys x.instance no_key) ex there in
    let env = extends_or e f x.env [] ex n.env in
    ap (λ (z : Instance). record { instance = z; alternative = x.alternative; dot = x.dot; env = slice_index_or f x.env []; position = x.position }) instance ∙
    ap (λ (z : List Value). record { instance = instance_by e (slice_index_or keys x.instance no_key); alternative = x.alternative; dot = x.dot; env = z; position = x.position }) env

module _ (p : ℕ) where
  -- nothing was added
  pub grows_not : (may : Item → Type 0) (a b : Found) → Extends a.envs.keys b.envs.keys →
      (NoneTwice a.envs.keys → NoneTwice b.envs.keys) → b.keys ≡ a.keys → b.done.items ≡ a.done.items →
      b.here.items ≡ a.here.items → b.later.items ≡ a.later.items → Grows p may a b
  grows_not may a b envs once keys done here later =
      record {
        envs = envs;
        envs_once = once;
        keys = keys;
        done = done;
        later = later;
        here = record { more = []; is = here ∙ sym (append-nil a.here.items) };
        here_once = λ n. subst NoneTwice (sym here) n;
        at = λ x c. absurd (none_in_nil x c);
        each = λ x c. absurd (none_in_nil x c);
      }

  pub grows_weaker : (may other : Item → Type 0) (a b : Found) → ((x : Item) → may x → other x) → Grows p may a b → Grows p other a b
  grows_weaker may other a b w g =
      record {
        envs = g.envs;
        envs_once = g.envs_once;
        keys = g.keys;
        done = g.done;
        here = g.here;
        later = g.later;
        here_once = g.here_once;
        at = g.at;
        each = λ x c. w (means b x) (g.each x c);
      }

  -- an item was added at the position, if it wasn't there
  pub grows_here : (a b : Found) (x : stored.Item) → x.position ≡ p → b.envs.keys ≡ a.envs.keys → b.keys ≡ a.keys →
      b.done.items ≡ a.done.items → b.later.items ≡ a.later.items → (here : Extends a.here.items b.here.items) →
      ((y : stored.Item) → Contains here.more y → y ≡ x) →
      (NoneTwice a.here.items → NoneTwice b.here.items) → Grows p (λ y. y ≡ means a x) a b
  grows_here a b x at envs keys done later here only once =
      let same : (y : stored.Item) → item_by b.envs.keys b.keys y ≡ item_by a.envs.keys a.keys y =
      λ y. ap (λ (z : List (List Value)). item_by z b.keys y) envs ∙ ap (λ (z : List InstanceKey). item_by a.envs.keys z y) keys in
      record {
        envs = record { more = []; is = envs ∙ sym (append-nil a.envs.keys) };
        envs_once = λ n. subst NoneTwice (sym envs) n;
        keys = keys;
        done = done;
        here = here;
        later = later;
        here_once = once;
        at = λ y c. ap (λ (z : stored.Item). z.position) (only y c) ∙ at;
        each = λ y h. ap (means b) (only y h) ∙ same x;
      }

  pub means_grown : (may : Item → Type 0) (a b : Found) (x : stored.Item) → Grows p may a b → Named a x → means b x ≡ means a x
  means_grown may a b x g named =
      means_kept a.envs.keys b.envs.keys a.keys b.keys x g.envs
      (record { more = []; is = g.keys ∙ sym (append-nil a.keys) }) a.named.values named

  pub named_grown : (may : Item → Type 0) (a b : Found) (x : stored.Item) → Grows p may a b → Named a x → Named b x
  named_grown may a b x g n =
      subst (λ (z : List InstanceKey). IsNamed b.envs.keys z x) (sym g.keys) (named_more a.envs.keys b.envs.keys a.keys x g.envs n)

  -- one after the other
  pub grows_then : (may : Item → Type 0) (a b c : Found) → Grows p may a b → Grows p may b c → Grows p may a c
  grows_then may a b c g h =
      let added : (x : stored.Item) → Contains g.here.more x → Contains b.here.items x =
      λ x k. subst (λ (z : List stored.Item). Contains z x) (sym g.here.is) (Contains-append_right a.here.items g.here.more x k) in
      record {
        envs = extends_then a.envs.keys b.envs.keys c.envs.keys g.envs h.envs;
        envs_once = λ n. h.envs_once (g.envs_once n);
        keys = h.keys ∙ g.keys;
        done = h.done ∙ g.done;
        later = h.later ∙ g.later;
        here = extends_then a.here.items b.here.items c.here.items g.here h.here;
        here_once = λ n. h.here_once (g.here_once n);
        at = λ x i. ⊎_elim (λ (k : Contains g.here.more x). g.at x k) (λ (k : Contains h.here.more x). h.at x k) (Contains-append_cases g.here.more h.here.more x i);
        each = λ x i.
            ⊎_elim (λ (k : Contains g.here.more x). subst may (sym (means_grown may b c x h (b.named.here x (added x k)))) (g.each x k))
            (λ (k : Contains h.here.more x). h.each x k) (Contains-append_cases g.here.more h.here.more x i);
      }

pub found_named : (a : Found) → (x : stored.Item) → Contains (a.done.items ++ a.here.items) x → Named a x
found_named a x c = ⊎_elim (a.named.done x) (a.named.here x) (Contains-append_cases a.done.items a.here.items x c)

pub means_list : (p : ℕ) (may : Item → Type 0) (a b : Found) → Grows p may a b → (xs : List stored.Item) →
    ((x : stored.Item) → Contains xs x → Named a x) → map (means b) xs ≡ map (means a) xs
means_list p may a b g xs named = same_map (means b) (means a) xs (λ x c. means_grown p may a b x g (named x c))

pub later_same : (p : ℕ) (may : Item → Type 0) (a b : Found) → Grows p may a b → later_in b ≡ later_in a
later_same p may a b g = ap (map (means b)) g.later ∙ means_list p may a b g a.later.items a.named.later

-- what was found, and then what was added
pub found_grown : (p : ℕ) (may : Item → Type 0) (a b : Found) → (g : Grows p may a b) →
    found_in b ≡ found_in a ++ map (means b) g.here.more
found_grown p may a b g =
    let lists : b.done.items ++ b.here.items ≡ (a.done.items ++ a.here.items) ++ g.here.more =
    ap (λ (z : List stored.Item). z ++ b.here.items) g.done ∙ ap (λ (z : List stored.Item). a.done.items ++ z) g.here.is ∙
    sym (append_assoc a.done.items a.here.items g.here.more) in
    ap (map (means b)) lists ∙ map-append (means b) (a.done.items ++ a.here.items) g.here.more ∙
    ap (λ (z : List Item). z ++ map (means b) g.here.more)
    (means_list p may a b g (a.done.items ++ a.here.items) (found_named a))

pub found_kept : (p : ℕ) (may : Item → Type 0) (a b : Found) → Grows p may a b → (x : Item) → Contains (found_in a) x →
    Contains (found_in b) x
found_kept p may a b g x c =
    subst (λ (z : List Item). Contains z x) (sym (found_grown p may a b g)) (Contains-append_left (found_in a) (map (means b) g.here.more) x c)

pub later_kept : (p : ℕ) (may : Item → Type 0) (a b : Found) → Grows p may a b → (x : Item) → Contains (later_in a) x →
    Contains (later_in b) x
later_kept p may a b g x c = subst (λ (z : List Item). Contains z x) (sym (later_same p may a b g)) c

pub all_kept : (p : ℕ) (may : Item → Type 0) (a b : Found) → Grows p may a b → (x : Item) →
    Contains (found_in a ++ later_in a) x → Contains (found_in b ++ later_in b) x
all_kept p may a b g x c =
    ⊎_elim (λ (h : Contains (found_in a) x). Contains-append_left (found_in b) (later_in b) x (found_kept p may a b g x h))
    (λ (h : Contains (later_in a) x). Contains-append_right (found_in b) (later_in b) x (later_kept p may a b g x h))
    (Contains-append_cases (found_in a) (later_in a) x c)

-- what is found now was found before, or is allowed
pub found_from : (p : ℕ) (may : Item → Type 0) (a b : Found) → Grows p may a b → (x : Item) → Contains (found_in b) x →
    Contains (found_in a) x ⊎ may x
found_from p may a b g x c =
    ⊎_elim (λ (h : Contains (found_in a) x). inl h)
    (λ (h : Contains (map (means b) g.here.more) x).
    let u = unmapped_in (means b) g.here.more x h in inr (subst may u.2 (g.each u.0 u.1)))
    (Contains-append_cases (found_in a) (map (means b) g.here.more) x (subst (λ (z : List Item). Contains z x) (found_grown p may a b g) c))
