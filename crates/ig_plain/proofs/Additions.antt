-- Functions that add items, one after the other.
use Rattle.ig_run_tables.specs.Extends.{Extends}
use Rattle.ig_item.specs.WellKinded.{NoneTwice}
use Rattle.std.proofs.Common.{◌≡◌, ◌⊎◌, ⊎_elim, ℕ, ◌<◌, ◌≤◌, List, ◌++◌, Contains, refl, sym, ap, ◌∙◌, subst, arith}
use Rattle.std.specs.Prelude.{Result, Ok, Err, OnOk, IfErr}
use Rattle.std.specs.Result.{IsErrAnd}
use Rattle.std.proofs.lemmas.Result.{err_from_is_err_and}
use Rattle.ig_expr.specs.declared.value.Value.{Value}
use Rattle.ig_item.specs.declared.items.Item as stored
use Rattle.std.proofs.lemmas.List.Elements.{Contains-append_left, Contains-append_right}
use Rattle.ig_text.proofs.Lists.{mapped_in}
use Rattle.ig_item.specs.Items.{Item}
use Rattle.ig_item.specs.declared.run_fault.RunFault.{RunFault}
use Rattle.ig_item.specs.declared.run_fault.RunFault.TheVariants.{Budget, Memory}
use Rattle.ig_item.specs.declared.items.InstanceKey.{InstanceKey}
use Rattle.ig_run_moves.specs.Tables.{item_by}
use Rattle.ig_plain.specs.declared.found.Found.{Found}
use Rattle.ig_plain.specs.Found.{means, found_in, later_in, count, Grows, GrowsLater, Has, Adds, AddsLater, Named}
use Rattle.ig_plain.proofs.Growth.{grows_not, grows_weaker, grows_then, all_kept}
use Rattle.ig_plain.proofs.Extending.{extends_itself}

same_means : (a b : Found) (x : stored.Item) → b.envs.keys ≡ a.envs.keys → b.keys ≡ a.keys → means b x ≡ means a x
same_means a b x envs keys =
    ap (λ (z : List (List Value)). item_by z b.keys x) envs ∙ ap (λ (z : List InstanceKey). item_by a.envs.keys z x) keys

module _ (p : ℕ) where
  -- memory ran out
  pub adds_fails : (may : Item → Type 0) (budget : ℕ) (a b : Found) (f : RunFault) → f ≡ Memory → Grows p may a b →
      Adds p may budget a b (Err f)
  adds_fails may budget a b f e g = record { grows = g; has = tt; within = tt; fault = λ h. let no : Memory ≡ Budget = sym e ∙ h in cc }

  pub adds_of : (may : Item → Type 0) (budget : ℕ) (a b : Found) (r : Result (Unit {0}) RunFault) → Grows p may a b → OnOk r (Has may b) →
      OnOk r (count b ≤ budget) → IfErr r (λ f. f ≡ Budget → budget < count b) → Adds p may budget a b r
  adds_of may budget a b (Ok u) g has within fault = record { grows = g; has = has; within = λ h. within; fault = tt }
  adds_of may budget a b (Err f) g has within fault = record { grows = g; has = tt; within = tt; fault = fault }

  -- nothing is to be added
  pub adds_nothing : (may : Item → Type 0) (budget : ℕ) (a : Found) → Has may a → Adds p may budget a a (Ok tt)
  adds_nothing may budget a has =
      record {
        grows = grows_not p may a a (extends_itself a.envs.keys) (λ h. h) refl refl refl refl;
        has = has;
        within = λ h. h;
        fault = tt;
      }

  -- the same items are allowed
  pub adds_alike : (may other : Item → Type 0) (budget : ℕ) (a b : Found) (r : Result (Unit {0}) RunFault) → ((x : Item) → may x → other x) →
      ((x : Item) → other x → may x) → Adds p may budget a b r → Adds p other budget a b r
  adds_alike may other budget a b (Ok u) into back d =
      record { grows = grows_weaker p may other a b into d.grows; has = λ x m. d.has x (back x m); within = d.within; fault = tt }
  adds_alike may other budget a b (Err f) into back d =
      record { grows = grows_weaker p may other a b into d.grows; has = tt; within = tt; fault = d.fault }

  -- tables grew before
  pub adds_after : (may : Item → Type 0) (budget : ℕ) (a b c : Found) (r : Result (Unit {0}) RunFault) → Grows p may a b →
      count b ≡ count a → Adds p may budget b c r → Adds p may budget a c r
  adds_after may budget a b c (Ok u) g same d =
      record { grows = grows_then p may a b c g d.grows; has = d.has; within = λ h. d.within (omega (arith, same, h)); fault = tt }
  adds_after may budget a b c (Err f) g same d =
      record { grows = grows_then p may a b c g d.grows; has = tt; within = tt; fault = d.fault }

  -- one after the other
  pub adds_then : (may : Item → Type 0) (first second : Item → Type 0) (budget : ℕ) (a b c : Found) (r : Result (Unit {0}) RunFault) → ((x : Item) → first x → may x) → ((x : Item) → second x → may x) → ((x : Item) → may x → first x ⊎ second x) →
      Adds p first budget a b (Ok tt) → Adds p second budget b c r → Adds p may budget a c r
  adds_then may first second budget a b c (Ok u) f s split d e =
      let g = grows_weaker p first may a b f d.grows in
      let h = grows_weaker p second may b c s e.grows in
      record {
        grows = grows_then p may a b c g h;
        has = λ x m.
            ⊎_elim (λ (k : first x). all_kept p may b c h x (d.has x k)) (λ (k : second x). e.has x k) (split x m);
        within = λ l. e.within (d.within l);
        fault = tt;
      }
  adds_then may first second budget a b c (Err f') f s split d e =
      let g = grows_weaker p first may a b f d.grows in
      let h = grows_weaker p second may b c s e.grows in
      record { grows = grows_then p may a b c g h; has = tt; within = tt; fault = e.fault }

  -- the exits of a `?`
  pub adds_exit : (may : Item → Type 0) (budget : ℕ) (a b : Found) (r : Result (Unit {0}) RunFault) → IsErrAnd r (λ y. y ≡ Memory) →
      Grows p may a b → Adds p may budget a b r
  adds_exit may budget a b r h g =
      let e = err_from_is_err_and r h in
      subst (Adds p may budget a b) (sym e.1) (adds_fails may budget a b e.0 e.2 g)

  pub adds_stops : (may : Item → Type 0) (budget : ℕ) (a b : Found) (r : Result (Unit {0}) RunFault) (e : RunFault) → IsErrAnd r (λ y. y ≡ e) →
      Adds p may budget a b (Err e) → Adds p may budget a b r
  adds_stops may budget a b r e h d =
      let q = err_from_is_err_and r h in
      subst (Adds p may budget a b) (sym q.1) (subst (λ (z : RunFault). Adds p may budget a b (Err z)) (sym q.2) d)

  pub adds_here : (budget : ℕ) (a b : Found) (x : stored.Item) (r : Result (Unit {0}) RunFault) → Grows p (λ y. y ≡ means a x) a b →
      b.envs.keys ≡ a.envs.keys → b.keys ≡ a.keys → Contains b.here.items x →
      OnOk r (count b ≤ budget) → IfErr r (λ f. f ≡ Budget → budget < count b) → Adds p (λ y. y ≡ means a x) budget a b r
  adds_here budget a b x (Ok u) g envs keys c within fault =
      record {
        grows = g;
        has = λ y e.
            Contains-append_left (found_in b) (later_in b) y
            (subst (Contains (found_in b)) (same_means a b x envs keys ∙ sym e)
            (mapped_in (means b) (b.done.items ++ b.here.items) x (Contains-append_right b.done.items b.here.items x c)));
        within = λ h. within;
        fault = tt;
      }
  adds_here budget a b x (Err f) g envs keys c within fault = record { grows = g; has = tt; within = tt; fault = fault }

-- an item was added at a later position
pub later_added : (p budget : ℕ) (x : Item) (a b : Found) (y : stored.Item) (r : Result (Unit {0}) RunFault) → GrowsLater p x a b →
    OnOk r (count b ≤ budget) → IfErr r (λ f. f ≡ Budget → budget < count b) → AddsLater p x budget a b r
later_added p budget x a b y (Ok u) g within fault = (g, within)
later_added p budget x a b y (Err f) g within fault = λ e. (g, fault e)
