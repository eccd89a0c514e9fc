-- Induction over reachable items, and what more known items change. A clause ranges over no properties of items, so these
-- facts stand here with their proofs, and not as laws of src/laws.rt; nothing of this file has to be believed.
use Rattle.std.proofs.Common.{◌≡◌, ℕ, zero, suc, ◌<◌, List, [], ◌∷◌, Some, take, Contains, slice_get, arith}
use Rattle.ig_text.specs.Input.{Input}
use Rattle.ig_text.proofs.Lists.{at_from_contains, within_take}
use Rattle.ig_item.specs.Items as items
use Rattle.ig_item.specs.Items.{Item, Follows, IsDerivation, Reachable}
use Rattle.ig_item.specs.Gives as given
use Rattle.ig_item.specs.Gives.{NodeKey, Taken, Gives}
use Rattle.ig_item.specs.Ways as ways
use Rattle.ig_item.specs.Ways.{WayLists, IsEnd, IsFirstEnd, IsFurtherEnd, Says, IsWay, CameBy, AreWaysOf, AreEnds}
use Rattle.ig_item.specs.declared.ways.Way.{Way}
use Rattle.ig_item.specs.declared.ways.FurtherEnd.{FurtherEnd}
use Rattle.ig_item.specs.declared.core_grammar.Nonterminal.{Nonterminal}

module _ (core : List Nonterminal) (text : Input) where
  -- the rules give no less from more
  pub follows_more : {known wider : Item → Type 0} {x : Item} → ((y : Item) → known y → wider y) →
      Follows core text known x → Follows core text wider x
  follows_more more (items.root x e) = items.root x e
  follows_more more (items.test it names c x k before holds e) = items.test it names c x (more it k) before holds e
  follows_more more (items.bind it names name c v x k before has e) = items.bind it names name c v x (more it k) before has e
  follows_more more (items.terminal it names what label excluded j x k before matches free e) =
      items.terminal it names what label excluded j x (more it k) before matches free e
  follows_more more (items.call it callee label excluded nonterminal a alternative x k calls at e) =
      items.call it callee label excluded nonterminal a alternative x (more it k) calls at e
  follows_more more (items.return it done label excluded x k l calls complete free e) =
      items.return it done label excluded x (more it k) (more done l) calls complete free e

  kept_below : (P : Item → Type 0) → ((x : Item) → Follows core text P x → P x) → (xs : List Item) →
      IsDerivation core text xs → (n k : ℕ) → k < n → (x : Item) → slice_get xs k ≡ Some x → P x
  kept_below P rule xs d zero k lt x e = absurd (omega arith)
  kept_below P rule xs d (suc n) k lt x e =
      rule x
      (follows_more
      (λ y c.
      let at = at_from_contains (take k xs) y c in
      let h = within_take xs k at.0 y at.1 in
      kept_below P rule xs d n at.0 (omega (arith, h.0)) y h.1)
      (d k x e))

  -- what the rules keep holds of each reachable item
  pub kept : (P : Item → Type 0) → ((x : Item) → Follows core text P x → P x) → (x : Item) →
      Reachable core text x → P x
  kept P rule x r =
      let at = at_from_contains r.items x r.among in
      kept_below P rule r.items r.derivation (suc at.0) at.0 (omega arith) x at.1

  -- the rules give no less from more, with the previous item and what is taken
  pub gives_more : {known wider : Item → Type 0} {prev x : Item} {taken : Taken} → ((y : Item) → known y → wider y) →
      Gives core text known prev taken x → Gives core text wider prev taken x
  gives_more more (given.test prev names c x k before holds e) = given.test prev names c x (more prev k) before holds e
  gives_more more (given.bind prev names name c v x k before has e) =
      given.bind prev names name c v x (more prev k) before has e
  gives_more more (given.terminal prev names what label excluded j taken x k before matches free t e) =
      given.terminal prev names what label excluded j taken x (more prev k) before matches free t e
  gives_more more (given.return prev done label excluded key x k l calls completes free e) =
      given.return prev done label excluded key x (more prev k) (more done l) calls completes free e

  module _ (items : List Item) {known wider : Item → Type 0} where
    -- a way says no less where the first complete items stay the first ones
    pub says_more : ((key : NodeKey) (d : ℕ) → IsFirstEnd core known items key d → IsFirstEnd core wider items key d) →
        {position : ℕ} {way : Way} {prev : Item} {taken : Taken} → Says core known items position way prev taken →
        Says core wider items position way prev taken
    says_more same (ways.pass k prev at) = ways.pass k prev at
    says_more same (ways.leaf k prev taken at e) = ways.leaf k prev taken at e
    says_more same (ways.node k d prev key at first) = ways.node k d prev key at (same key d first)

    -- an item comes about in no fewer ways
    pub is_way_more : ((key : NodeKey) (d : ℕ) → IsFirstEnd core known items key d → IsFirstEnd core wider items key d) →
        ((y : Item) → known y → wider y) → {x : Item} {way : Way} → IsWay core text known items x way →
        IsWay core text wider items x way
    is_way_more same more (ways.begin start) = ways.begin start
    is_way_more same more (ways.comes way prev taken says gives) =
        ways.comes way prev taken (says_more same says) (gives_more more gives)

    end_more : ((y : Item) → known y → wider y) → {key : NodeKey} {d : ℕ} → IsEnd core known items key d →
        IsEnd core wider items key d
    end_more more e = record { item = e.item; there = e.there; is_known = more e.item e.is_known; completes = e.completes }

  module _ (items : List Item) {known others : Item → Type 0} (forth : (y : Item) → known y → others y)
      (back : (y : Item) → others y → known y) where
    first_same : (key : NodeKey) (d : ℕ) → IsFirstEnd core known items key d → IsFirstEnd core others items key d
    first_same key d f =
        record { end = end_more items forth f.end; least = λ c e. f.least c (end_more items back e) }

    further_same : {e : FurtherEnd} → IsFurtherEnd core known items e → IsFurtherEnd core others items e
    further_same f =
        record {
          key = f.key;
          first = first_same f.key _ f.first;
          further = end_more items forth f.further;
          other = f.other;
        }

    -- the ways of items are the same where the same items are known
    pub ways_same : {lists : WayLists} → AreWaysOf core text known items lists → AreWaysOf core text others items lists
    ways_same are =
        record {
          number = are.number;
          sound = λ k x way at to. is_way_more items first_same forth (are.sound k x way at to);
          complete = λ k x prev taken at gives.
              let came = are.complete k x prev taken at (gives_more back gives) in
              record { way = came.way; to = came.to; says = says_more items first_same came.says };
          there = are.there;
        }

  -- and so are the ends of nodes
  pub ends_same : (items : List Item) {known others : Item → Type 0} → ((y : Item) → known y → others y) →
      ((y : Item) → others y → known y) → {lists : WayLists} → AreEnds core known items lists → AreEnds core others items lists
  ends_same items forth back are =
      record {
        first = λ x key k completes.
            let found = are.first x key (back x k) completes in (found.0, first_same items forth back key found.0 found.1);
        exact = λ end. (
          λ c. further_same items forth back ((are.exact end).0 c),
          λ f. (are.exact end).1 (further_same items back forth f),
        );
      }
