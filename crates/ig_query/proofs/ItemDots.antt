-- The dots of items that are numbered in tables, and the patterns behind them.
use Rattle.std.proofs.Common.{◌≡◌, ◌↔◌, ◌⊎◌, ℕ, ◌+◌, ◌<◌, ◌≤◌, List, Contains, length, take, get_or, sym, ap, ◌∙◌, subst}
use Rattle.std.proofs.lemmas.List.{take_more}
use Rattle.ig_text.proofs.Lists.{unmapped_in, mapped_in}
use Rattle.ig_item.specs.Items.{Item}
use Rattle.ig_item.specs.Tables.{Tables, item_of, items_of}
use Rattle.ig_item.specs.declared.items.Item as stored
use Rattle.ig_query.specs.CodeReport.{AreDotsAt, dot_of}
use Rattle.ig_query.specs.declared.dots.Dot.{Dot}
use Rattle.ig_query.proofs.Through.{IsImage, all_through, image_with, image_without}

module _ (tables : Tables) (p : ℕ) where
  abbrev pub IsThere : stored.Item → Type 0
  IsThere y = y.position ≡ p

  abbrev pub its_dot : stored.Item → Dot
  its_dot y = dot_of (item_of tables y)

  pub dots_there : (ds : List Dot) → IsImage IsThere its_dot tables.items ds → AreDotsAt (items_of tables) p ds
  dots_there ds image d = (
    λ c. let r = (image d).0 c in (item_of tables r.0, mapped_in (item_of tables) tables.items r.0 r.1, r.2, r.3),
    λ r.
        let (y, among, is) = unmapped_in (item_of tables) tables.items r.0 r.1 in
        (image d).1 (y, among, ap (λ (z : Item). z.position) is ∙ r.2, ap dot_of is ∙ r.3),
  )

  -- one more item
  pub dots_with : (xs : List stored.Item) (i : ℕ) (x : stored.Item) (ds es : List Dot) (dot : Dot) → i < length xs →
      IsImage IsThere its_dot (take i xs) ds → IsThere (get_or xs i x) → dot ≡ its_dot (get_or xs i x) →
      ((d : Dot) → Contains es d ↔ (Contains ds d ⊎ (d ≡ dot))) → IsImage IsThere its_dot (take (i + 1) xs) es
  dots_with xs i x ds es dot lt image there same more =
      subst (λ (v : List stored.Item). IsImage IsThere its_dot v es) (sym (take_more xs i x lt))
      (image_with IsThere its_dot (take i xs) (get_or xs i x) ds es image there
      (subst (λ (z : Dot). (d : Dot) → Contains es d ↔ (Contains ds d ⊎ (d ≡ z))) same more))

  pub dots_without : (xs : List stored.Item) (i : ℕ) (x : stored.Item) (ds : List Dot) → i < length xs →
      IsImage IsThere its_dot (take i xs) ds → (IsThere (get_or xs i x) → ⊥) → IsImage IsThere its_dot (take (i + 1) xs) ds
  dots_without xs i x ds lt image never =
      subst (λ (v : List stored.Item). IsImage IsThere its_dot v ds) (sym (take_more xs i x lt))
      (image_without IsThere its_dot (take i xs) (get_or xs i x) ds image never)

  pub dots_all : (xs : List stored.Item) (i : ℕ) (ds : List Dot) → xs ≡ tables.items → length xs ≤ i →
      IsImage IsThere its_dot (take i xs) ds → AreDotsAt (items_of tables) p ds
  dots_all xs i ds same le image =
      dots_there ds
      (subst (λ (v : List stored.Item). IsImage IsThere its_dot v ds) same
      (all_through (λ (v : List stored.Item). IsImage IsThere its_dot v ds) i xs le image))
