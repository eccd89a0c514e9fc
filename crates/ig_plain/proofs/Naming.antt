-- The items keep their names as tables grow and items are added.
use Rattle.std.proofs.Common.{◌≡◌, ⊎_elim, ◌<◌, ℕ, Bool, true, false, if◌then◌else◌, List, [], ◌∷◌, ◌++◌, Contains, length, arith, ap, ◌∙◌, sym, subst, length-append}
use Rattle.std.specs.Prelude.{Result, Ok, Err, IfOk, OnErr}
use Rattle.std.specs.declared.alloc.AllocError.{AllocError}
use Rattle.std.proofs.lemmas.List.Elements.{Contains-append_cases}
use Rattle.ig_text.proofs.Lists.{contains_one, none_in_nil}
use Rattle.ig_expr.specs.declared.value.Value.{Value}
use Rattle.ig_item.specs.declared.items.InstanceKey.{InstanceKey}
use Rattle.ig_item.specs.declared.items.Item as stored
use Rattle.ig_run_tables.specs.Extends.{Extends, Enters}
use Rattle.ig_plain.specs.Arrival.{WereThere}
use Rattle.ig_run_moves.specs.Tables.{IsNamed}
use Rattle.ig_plain.specs.Tables.{AreNamed}
use Rattle.ig_plain.proofs.Growth.{named_more, values_more}

-- a list of named items to which one was pushed, if memory lasted
pushed : (envs : List (List Value)) (keys : List InstanceKey) (x : stored.Item) → IsNamed envs keys x → (xs : List stored.Item) →
    ((y : stored.Item) → Contains xs y → IsNamed envs keys y) → (b : Bool) (next : List stored.Item) →
    next ≡ (if b then xs ++ x ∷ [] else xs) → (y : stored.Item) → Contains next y → IsNamed envs keys y
pushed envs keys x named xs all true next is y c =
    ⊎_elim (all y) (λ (h : Contains (x ∷ []) y). subst (IsNamed envs keys) (sym (contains_one x y h)) named)
    (Contains-append_cases xs (x ∷ []) y (subst (λ (z : List stored.Item). Contains z y) is c))
pushed envs keys x named xs all false next is y c = all y (subst (λ (z : List stored.Item). Contains z y) is c)

module _ {envs : List (List Value)} {keys : List InstanceKey} {done here later : List stored.Item} (n : AreNamed envs keys done here later) where
  -- environments were added
  pub wider : (more : List (List Value)) → Extends envs more → AreNamed more keys done here later
  wider more x =
      record {
        values = values_more envs more keys x n.values;
        done = λ y c. named_more envs more keys y x (n.done y c);
        here = λ y c. named_more envs more keys y x (n.here y c);
        later = λ y c. named_more envs more keys y x (n.later y c);
      }

  -- the instances stayed
  unchanged : {next : List InstanceKey} → next ≡ keys → AreNamed envs next done here later
  unchanged e = subst (λ (z : List InstanceKey). AreNamed envs z done here later) (sym e) n

  -- an instance was entered whose values are there, or refused
  pub entered : (next : List InstanceKey) (key : InstanceKey) (r : Result (ℕ × Bool) AllocError) → key.env < length envs →
      IfOk r (λ p. Enters keys next key p.0) → OnErr r (next ≡ keys) → AreNamed envs next done here later
  entered next key (Ok p) env e same = ⊎_elim unchanged added e.is
    where
      added : next ≡ keys ++ key ∷ [] → AreNamed envs next done here later
      added is =
          record {
            values = λ x c.
                ⊎_elim (n.values x)
                (λ (h : Contains (key ∷ []) x). subst (λ (z : InstanceKey). z.env < length envs) (sym (contains_one key x h)) env)
                (Contains-append_cases keys (key ∷ []) x (subst (λ (z : List InstanceKey). Contains z x) is c));
            done = λ x c. more x (n.done x c);
            here = λ x c. more x (n.here x c);
            later = λ x c. more x (n.later x c);
          }
        where
          more : (x : stored.Item) → IsNamed envs keys x → IsNamed envs next x
          more x h =
              record { instance = let l = ap length is ∙ length-append keys (key ∷ []) in omega (arith, l, h.instance); env = h.env }
  entered next key (Err f) env e same = unchanged same

  -- an item was pushed, if memory lasted
  pub pushed_here : (x : stored.Item) → IsNamed envs keys x → (b : Bool) (next : List stored.Item) →
      next ≡ (if b then here ++ x ∷ [] else here) → AreNamed envs keys done next later
  pushed_here x named b next is =
      record { values = n.values; done = n.done; here = pushed envs keys x named here n.here b next is; later = n.later }

  pub pushed_later : (x : stored.Item) → IsNamed envs keys x → (b : Bool) (next : List stored.Item) →
      next ≡ (if b then later ++ x ∷ [] else later) → AreNamed envs keys done here next
  pushed_later x named b next is =
      record { values = n.values; done = n.done; here = n.here; later = pushed envs keys x named later n.later b next is }

  -- those at the position were put behind those before it, if memory lasted
  pub put_behind : (xs : List stored.Item) → xs ≡ here → (b : Bool) (next : List stored.Item) →
      next ≡ (if b then done ++ xs else done) → AreNamed envs keys next here later
  put_behind xs same b next is = record { values = n.values; done = both b is; here = n.here; later = n.later }
    where
      both : (b : Bool) → next ≡ (if b then done ++ xs else done) → (y : stored.Item) → Contains next y → IsNamed envs keys y
      both true e y c =
          ⊎_elim (n.done y) (λ (h : Contains xs y). n.here y (subst (λ (z : List stored.Item). Contains z y) same h))
          (Contains-append_cases done xs y (subst (λ (z : List stored.Item). Contains z y) e c))
      both false e y c = n.done y (subst (λ (z : List stored.Item). Contains z y) e c)

  pub cleared : (next : List stored.Item) → next ≡ [] → AreNamed envs keys done next later
  cleared next e =
      record {
        values = n.values;
        done = n.done;
        here = λ y c. absurd (none_in_nil y (subst (λ (z : List stored.Item). Contains z y) e c));
        later = n.later;
      }

  -- later ones came to the position
  pub parted : (after rest : List stored.Item) → WereThere later here after rest → AreNamed envs keys done after rest
  parted after rest w =
      record {
        values = n.values;
        done = n.done;
        here = λ y c. ⊎_elim (n.here y) (n.later y) (w.at y c);
        later = λ y c. n.later y (w.behind y c);
      }
