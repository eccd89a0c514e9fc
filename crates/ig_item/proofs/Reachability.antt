-- What follows from reachable items is reachable, and what the rules keep holds of reachable items.
use Rattle.std.proofs.Common.{◌≡◌, ℕ, zero, suc, ◌+◌, List, [], ◌∷◌, ◌++◌, Some, length, Contains, slice_get, refl, ⊎_elim, subst}
use Rattle.std.specs.Prelude.{IsTrue}
use Rattle.std.proofs.lemmas.Option.{same_Some}
use Rattle.std.proofs.lemmas.List.Elements.{Contains-append_left, Contains-append_right}
use Rattle.ig_text.specs.Input.{Input}
use Rattle.ig_text.proofs.Lists.{contains_from_at, sides, left_before, right_before, all_before}
use Rattle.ig_item.specs.Items as items
use Rattle.ig_item.specs.Items.{Item, Follows, IsDerivation, Reachable}
use Rattle.ig_item.specs.Induction.{follows_more, kept}
use Rattle.ig_item.specs.Laws.{ReachableIsClosed, ReachableFollows, ReachableIsLeast, MoreGivesNoLess}
use Rattle.ig_item.specs.declared.core_grammar.Nonterminal.{Nonterminal}

module _ (core : List Nonterminal) (text : Input) where
  pub joined : (xs ys : List Item) → IsDerivation core text xs → IsDerivation core text ys →
      IsDerivation core text (xs ++ ys)
  joined xs ys dx dy n x e =
      ⊎_elim (λ (h : slice_get xs n ≡ Some x). follows_more core text (left_before xs ys n) (dx n x h))
      (λ (h : (m : ℕ) × (n ≡ length xs + m) × (slice_get ys m ≡ Some x)).
      follows_more core text (λ y. right_before xs ys n h.0 y h.1) (dy h.0 x h.2))
      (sides xs ys n x e)

  last_follows : (xs : List Item) (m : ℕ) (x y : Item) → slice_get (x ∷ []) m ≡ Some y →
      Follows core text (Contains xs) x → Follows core text (Contains xs) y
  last_follows xs zero x y e f = subst (Follows core text (Contains xs)) (same_Some x y e) f
  last_follows xs (suc m) x y e f = cc

  -- a derivation, with an item behind it that follows from its items
  pub pushed : (xs : List Item) (x : Item) → IsDerivation core text xs → Follows core text (Contains xs) x →
      IsDerivation core text (xs ++ x ∷ [])
  pushed xs x d f n y e =
      ⊎_elim (λ (h : slice_get xs n ≡ Some y). follows_more core text (left_before xs (x ∷ []) n) (d n y h))
      (λ (h : (m : ℕ) × (n ≡ length xs + m) × (slice_get (x ∷ []) m ≡ Some y)).
      follows_more core text (λ z. all_before xs (x ∷ []) n h.0 z h.1) (last_follows xs h.0 x y h.2 f))
      (sides xs (x ∷ []) n y e)

  push : (xs : List Item) (x : Item) → IsDerivation core text xs → Follows core text (Contains xs) x →
      Reachable core text x
  push xs x d f =
      record {
        items = xs ++ x ∷ [];
        derivation = pushed xs x d f;
        among = Contains-append_right xs (x ∷ []) x (contains_from_at (x ∷ []) 0 x refl);
      }

  -- what follows from reachable items is reachable
  pub reach : {x : Item} → Follows core text (Reachable core text) x → Reachable core text x
  reach (items.root x e) = push [] x (λ k y h. cc) (items.root x e)
  reach (items.test it names c x k before holds e) =
      push k.items x k.derivation (items.test it names c x k.among before holds e)
  reach (items.bind it names name c v x k before has e) =
      push k.items x k.derivation (items.bind it names name c v x k.among before has e)
  reach (items.terminal it names what label excluded j x k before matches free e) =
      push k.items x k.derivation (items.terminal it names what label excluded j x k.among before matches free e)
  reach (items.call it callee label excluded nonterminal a alternative x k calls at e) =
      push k.items x k.derivation (items.call it callee label excluded nonterminal a alternative x k.among calls at e)
  reach (items.return it done label excluded x k l calls complete free e) =
      push (k.items ++ l.items) x (joined k.items l.items k.derivation l.derivation)
      (items.return it done label excluded x (Contains-append_left k.items l.items it k.among)
      (Contains-append_right k.items l.items done l.among) calls complete free e)

  -- each reachable item follows from reachable ones
  pub follows_reachable : (x : Item) → Reachable core text x → Follows core text (Reachable core text) x
  follows_reachable x reachable =
      kept core text (λ y. Follows core text (Reachable core text) y)
      (λ y. follows_more core text (λ z. reach {x = z})) x reachable

pub is_closed : ReachableIsClosed
is_closed core text x follows = reach core text follows

pub reachable_ones_follow : ReachableFollows
reachable_ones_follow core text x reachable = follows_reachable core text x reachable

pub is_least : ReachableIsLeast
is_least core text has rule x reachable = kept core text (λ y. IsTrue (has y)) rule x reachable

pub no_less : MoreGivesNoLess
no_less core text few many more x follows = follows_more core text more follows
