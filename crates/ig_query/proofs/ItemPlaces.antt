-- The furthest position among items that are numbered in tables.
use Rattle.std.proofs.Common.{◌≡◌, ⊎_elim, inl, inr, ℕ, ◌+◌, ◌<◌, ◌≤◌, List, Contains, max, length, take, get_or, sym, ap, ◌∙◌, subst}
use Rattle.ig_item.specs.Items.{Item, IsCompleteRoot}
use Rattle.ig_item.specs.Tables.{Tables, item_of, items_of}
use Rattle.ig_item.specs.declared.core_grammar.Nonterminal.{Nonterminal}
use Rattle.ig_item.specs.declared.items.Item as stored
use Rattle.ig_query.specs.CodeReport.{Reports, IsFurthestAmong, EndsAt}
use Rattle.std.proofs.lemmas.List.{take_more}
use Rattle.ig_text.proofs.Lists.{unmapped_in, mapped_in}
use Rattle.ig_query.proofs.Through.{IsMost, NoneHas, all_through, most_with, most_without}

module _ (core : List Nonterminal) (tables : Tables) where
  -- a stored item that reports
  abbrev pub Tells : stored.Item → Type 0
  Tells y = Reports core (item_of tables y)

  abbrev pub place : stored.Item → ℕ
  place y = y.position

  pub furthest_among : (p : ℕ) → IsMost Tells place tables.items p → IsFurthestAmong core (items_of tables) p
  furthest_among p most =
      record {
        greatest = λ x c r.
            let (y, among, is) = unmapped_in (item_of tables) tables.items x c in
            subst (λ (z : Item). z.position ≤ p) is (most.greatest y among (subst (Reports core) (sym is) r));
        reached =
            ⊎_elim (λ r. inl (item_of tables r.0, mapped_in (item_of tables) tables.items r.0 r.1, r.2, r.3))
            (λ n. inr (
              λ x c r.
                  let (y, among, is) = unmapped_in (item_of tables) tables.items x c in
                  n.0 y among (subst (Reports core) (sym is) r),
              n.1,
            )) most.reached;
      }

  -- a complete root item that is stored at the position
  abbrev pub EndsHere : ℕ → stored.Item → Type 0
  EndsHere p y = IsCompleteRoot core (item_of tables y) × (y.position ≡ p)

  pub ends : (p : ℕ) (y : stored.Item) → Contains tables.items y → EndsHere p y → EndsAt core (items_of tables) p
  ends p y among h = (item_of tables y, mapped_in (item_of tables) tables.items y among, h.1, h.0)

  pub never_ends : (p : ℕ) → NoneHas (EndsHere p) tables.items → EndsAt core (items_of tables) p → ⊥
  never_ends p none e =
      let (y, among, is) = unmapped_in (item_of tables) tables.items e.0 e.1 in
      none y among (subst (IsCompleteRoot core) (sym is) e.3, ap (λ (z : Item). z.position) is ∙ e.2)

  -- one more item
  pub furthest_with : (xs : List stored.Item) (i : ℕ) (x : stored.Item) (m n : ℕ) → i < length xs → IsMost Tells place (take i xs) m →
      Tells (get_or xs i x) → n ≡ max m (place (get_or xs i x)) → IsMost Tells place (take (i + 1) xs) n
  furthest_with xs i x m n lt most tells is =
      subst (λ (v : List stored.Item). IsMost Tells place v n) (sym (take_more xs i x lt))
      (most_with Tells place (take i xs) (get_or xs i x) m n most tells is)

  pub furthest_without : (xs : List stored.Item) (i : ℕ) (x : stored.Item) (m : ℕ) → i < length xs → IsMost Tells place (take i xs) m →
      (Tells (get_or xs i x) → ⊥) → IsMost Tells place (take (i + 1) xs) m
  furthest_without xs i x m lt most never =
      subst (λ (v : List stored.Item). IsMost Tells place v m) (sym (take_more xs i x lt))
      (most_without Tells place (take i xs) (get_or xs i x) m most never)

  pub furthest_all : (xs : List stored.Item) (i m : ℕ) → xs ≡ tables.items → length xs ≤ i → IsMost Tells place (take i xs) m →
      IsFurthestAmong core (items_of tables) m
  furthest_all xs i m same le most =
      furthest_among m
      (subst (λ (v : List stored.Item). IsMost Tells place v m) same
      (all_through (λ (v : List stored.Item). IsMost Tells place v m) i xs le most))

  pub never_ends_all : (xs : List stored.Item) (i p : ℕ) → xs ≡ tables.items → length xs ≤ i → NoneHas (EndsHere p) (take i xs) →
      EndsAt core (items_of tables) p → ⊥
  never_ends_all xs i p same le none =
      never_ends p
      (subst (λ (v : List stored.Item). NoneHas (EndsHere p) v) same
      (all_through (λ (v : List stored.Item). NoneHas (EndsHere p) v) i xs le none))
