-- The trees that a listing has given.
use Rattle.std.proofs.Common.{◌≡◌, ◌⊎◌, ℕ, zero, suc, ◌≤◌, List, [], ◌∷◌, ◌++◌, Option, Some, None, inl, inr, length, get_or, Contains, refl, sym, ap, ap₂, subst, arith}
use Rattle.std.specs.List.{AllPairs}
use Rattle.std.proofs.lemmas.List.Elements.{All-contains_itself, Contains-append_left, Contains-append_right, Contains-append_cases}
use Rattle.std.proofs.lemmas.List.Quantifiers.{all_pairs_push}
use Rattle.ig_text.specs.Tree.{Tree}
use Rattle.ig_text.proofs.Lists.{none_in_nil, contains_one, contains_from_at, contains_first, contains_later}
use Rattle.ig_forest_tables.specs.Forest.{Forest}
use Rattle.ig_forest_tables.specs.Unfold.{Unfold}
use Rattle.ig_forest.specs.declared.tree.Part.{Part}
use Rattle.ig_walker.specs.Laws.{ListingsGrow, ListingIsOne}
use Rattle.ig_walker.specs.Listed.{Listed, AreListed, HasGiven, IsListing, IsReached}
use Rattle.ig_forest.specs.Cursors.{Less}
use Rattle.ig_walker.specs.Listing.{Listing, IsBehind, GivesTree, IsOver}
use Rattle.ig_walker.proofs.Cursors.{less_same}
use Rattle.ig_walker.proofs.Flatness.{parts_one}
use Rattle.ig_walker.proofs.Orders.{onward, total}
use Rattle.ig_walker.proofs.Trees.{one_tree}

abbrev IsBefore : Listed → Listed → Type 0
IsBefore x y = Less x.cursor y.cursor

-- what was reached comes before what is behind
before : (o : Option (List ℕ)) (cs ds : List ℕ) → IsReached o cs → IsBehind o ds → Less cs ds
before None cs ds reached behind = absurd reached
before (Some last) cs ds reached behind =
    elim reached [
      | inl e ↦ subst (λ (z : List ℕ). Less z ds) (sym e) behind
      | inr less ↦ onward less ds behind
    ]

further : (o : Option (List ℕ)) (cs ds : List ℕ) → IsBehind o cs → Less cs ds → IsBehind o ds
further None cs ds behind less = tt
further (Some last) cs ds behind less = onward behind ds less

-- trees of one forest with one cursor are one
listed_one : (f : Forest) (d : ℕ) (x y : Listed) → Unfold f d x.cursor x.tree → Unfold f d y.cursor y.tree →
    x.cursor ≡ y.cursor → x ≡ y
listed_one f d x y a b e =
    let u : Unfold f d y.cursor x.tree = subst (λ (z : List ℕ). Unfold f d z x.tree) e a in
    let t : x.tree ≡ y.tree = parts_one x.tree y.tree (one_tree f f.root d y.cursor x.tree y.tree u b) in
    ap₂ (λ (c : List ℕ) (s : Tree). record { cursor = c; tree = s }) e t

no_pairs : AllPairs IsBefore []
no_pairs i j d less within = absurd (omega (arith, within))

begins : (l : Listing) → HasGiven l.last [] l
begins l =
    record {
      are = record {
        unfolded = λ x among. absurd (none_in_nil x among);
        behind = λ x among. absurd (none_in_nil x among);
        order = no_pairs;
      };
      reached = λ x among. absurd (none_in_nil x among);
      onward = λ cs behind. behind;
      whole = λ x unfolds behind. inr behind;
    }

module _ (from : Option (List ℕ)) (trees : List Listed) (l : Listing) (given : HasGiven from trees l) where
  module _ (parts : List Part) (after : Listing) (g : GivesTree l parts after) where
    abbrev last : Listed
    last = record { cursor = g.cursor; tree = g.tree }

    abbrev more : List Listed
    more = trees ++ last ∷ []

    abbrev come : Listing
    come = record { forest = l.forest; depth = l.depth; last = Some g.cursor }

    by_cases : (P : Listed → Type 0) → ((x : Listed) → Contains trees x → P x) → P last → (x : Listed) → Contains more x → P x
    by_cases P old new x among =
        elim (Contains-append_cases trees (last ∷ []) x among) [
          | inl h ↦ old x h
          | inr h ↦ subst P (sym (contains_one last x h)) new
        ]

    behind_from : IsBehind from g.cursor
    behind_from = given.onward g.cursor g.behind

    all_before : (x : Listed) → Contains trees x → Less x.cursor g.cursor
    all_before x among = before l.last x.cursor g.cursor (given.reached x among) g.behind

    are_listed : AreListed l.forest l.depth from more
    are_listed =
        record {
          unfolded = by_cases (λ x. Unfold l.forest l.depth x.cursor x.tree) given.are.unfolded g.unfolds;
          behind = by_cases (λ x. IsBehind from x.cursor) given.are.behind behind_from;
          order = all_pairs_push IsBefore trees last given.are.order
              (λ k d within. all_before (get_or trees k d) (All-contains_itself trees k d within));
        }

    found : (x : Listed) → Unfold l.forest l.depth x.cursor x.tree →
        (x.cursor ≡ g.cursor) ⊎ Less g.cursor x.cursor → Contains more x ⊎ Less g.cursor x.cursor
    found x unfolds (inl e) =
        inl (subst (Contains more) (sym (listed_one l.forest l.depth x last unfolds g.unfolds e))
        (Contains-append_right trees (last ∷ []) last (contains_from_at (last ∷ []) 0 last refl)))
    found x unfolds (inr less) = inr less

    whole_more : (x : Listed) → Unfold l.forest l.depth x.cursor x.tree → IsBehind from x.cursor →
        Contains more x ⊎ Less g.cursor x.cursor
    whole_more x unfolds behind =
        elim (given.whole x unfolds behind) [
          | inl h ↦ inl (Contains-append_left trees (last ∷ []) x h)
          | inr h ↦ found x unfolds (g.least x.cursor x.tree unfolds h)
        ]

    goes_on_come : HasGiven from more come
    goes_on_come =
        record {
          are = are_listed;
          reached = by_cases (λ x. IsReached (Some g.cursor) x.cursor) (λ x among. inr (all_before x among)) (inl refl);
          onward = λ cs less. further from g.cursor cs behind_from less;
          whole = whole_more;
        }

    goes_on : HasGiven from more after
    goes_on = subst (λ (z : Listing). HasGiven from more z) (sym g.after_is) goes_on_come

  full : IsListing l.forest l.depth from (length trees) trees
  full =
      record {
        are = given.are;
        few = omega arith;
        whole = λ x unfolds behind.
            elim (given.whole x unfolds behind) [
              | inl h ↦ inl h
              | inr h ↦ inr (refl, λ y among. before l.last y.cursor x.cursor (given.reached y among) h)
            ];
      }

  ends : (after : Listing) (count : ℕ) → IsOver l after → length trees ≤ count → IsListing l.forest l.depth from count trees
  ends after count over few =
      record {
        are = given.are;
        few = few;
        whole = λ x unfolds behind.
            elim (given.whole x unfolds behind) [
              | inl h ↦ inl h
              | inr h ↦ absurd (over.over x.cursor x.tree unfolds h)
            ];
      }

pub listings_grow : ListingsGrow
listings_grow =
    record {
      begins = begins;
      goes_on = λ from trees l after parts gives given. goes_on from trees l given parts after gives;
      full = full;
      ends = λ from trees l after count given over few. ends from trees l given after count over few;
    }

-- there is one listing
module _ (f : Forest) (d : ℕ) where
  first_before : (x : Listed) (xs : List Listed) (y : Listed) → AllPairs IsBefore (x ∷ xs) → Contains xs y → IsBefore x y
  first_before x xs y order among =
      subst (IsBefore x) among.2 (order 0 (suc among.0) y (omega arith) (omega (arith, among.1)))

  member : (x : Listed) (xs : List Listed) (y : Listed) → Contains (x ∷ xs) y → (y ≡ x) ⊎ Contains xs y
  member x xs y among =
      elim (Contains-append_cases (x ∷ []) xs y among) [ inl h ↦ inl (contains_one x y h) | inr h ↦ inr h ]

  -- what is listed elsewhere doesn't come before the head
  not_before : (from : Option (List ℕ)) (n : ℕ) (x : Listed) (xs : List Listed) (y : Listed) → IsListing f d from n (x ∷ xs) →
      Unfold f d y.cursor y.tree → IsBehind from y.cursor → Less y.cursor x.cursor → ⊥
  not_before from n x xs y l unfolds behind less =
      elim (l.whole y unfolds behind) [
        | inl h ↦
            (elim (member x xs y h) [
              | inl e ↦ less_same less (ap (λ (z : Listed). z.cursor) e)
              | inr among ↦ less_same (onward less y.cursor (first_before x xs y l.are.order among)) refl
            ])
        | inr h ↦ less_same (onward less y.cursor (h.1 x (contains_first x xs))) refl
      ]

  rest_is : (from : Option (List ℕ)) (n : ℕ) (x : Listed) (xs : List Listed) → IsListing f d from (suc n) (x ∷ xs) →
      IsListing f d (Some x.cursor) n xs
  rest_is from n x xs l =
      record {
        are = record {
          unfolded = λ y among. l.are.unfolded y (contains_later x xs y among);
          behind = λ y among. first_before x xs y l.are.order among;
          order = λ i j e less within. l.are.order (suc i) (suc j) e (omega (arith, less)) (omega (arith, within));
        };
        few = let h = l.few in omega (arith, h);
        whole = λ y unfolds less.
            elim (l.whole y unfolds (further from x.cursor y.cursor (l.are.behind x (contains_first x xs)) less)) [
              | inl h ↦
                  (elim (member x xs y h) [
                    | inl e ↦ absurd (less_same less (ap (λ (z : Listed). z.cursor) (sym e)))
                    | inr among ↦ inl among
                  ])
              | inr h ↦ inr (let e = h.0 in omega (arith, e), λ z among. h.1 z (contains_later x xs z among))
            ];
      }

  none_more : (from : Option (List ℕ)) (n : ℕ) (y : Listed) (ys : List Listed) → IsListing f d from n [] →
      IsListing f d from n (y ∷ ys) → ⊥
  none_more from n y ys l m =
      elim (l.whole y (m.are.unfolded y (contains_first y ys)) (m.are.behind y (contains_first y ys))) [
        | inl h ↦ none_in_nil y h
        | inr h ↦ (let e = h.0 in let few = m.few in omega (arith, e, few))
      ]

  heads : (from : Option (List ℕ)) (n : ℕ) (x y : Listed) (xs ys : List Listed) → IsListing f d from n (x ∷ xs) →
      IsListing f d from n (y ∷ ys) → (x.cursor ≡ y.cursor) ⊎ (Less x.cursor y.cursor ⊎ Less y.cursor x.cursor) → x ≡ y
  heads from n x y xs ys l m (inl e) =
      listed_one f d x y (l.are.unfolded x (contains_first x xs)) (m.are.unfolded y (contains_first y ys)) e
  heads from n x y xs ys l m (inr (inl less)) =
      absurd (not_before from n y ys x m (l.are.unfolded x (contains_first x xs)) (l.are.behind x (contains_first x xs)) less)
  heads from n x y xs ys l m (inr (inr less)) =
      absurd (not_before from n x xs y l (m.are.unfolded y (contains_first y ys)) (m.are.behind y (contains_first y ys)) less)

  one_listing : (from : Option (List ℕ)) (n : ℕ) (xs ys : List Listed) → IsListing f d from n xs → IsListing f d from n ys → xs ≡ ys
  one_listing from n [] [] l m = refl
  one_listing from n [] (y ∷ ys) l m = absurd (none_more from n y ys l m)
  one_listing from n (x ∷ xs) [] l m = absurd (none_more from n x xs m l)
  one_listing from zero (x ∷ xs) (y ∷ ys) l m = let few = l.few in absurd (omega (arith, few))
  one_listing from (suc n) (x ∷ xs) (y ∷ ys) l m =
      let e : x ≡ y = heads from (suc n) x y xs ys l m (total x.cursor y.cursor) in
      ap₂ (λ (z : Listed) (zs : List Listed). z ∷ zs) e
      (one_listing (Some x.cursor) n xs ys (rest_is from n x xs l)
      (subst (λ (z : Listed). IsListing f d (Some z.cursor) n ys) (sym e) (rest_is from n y ys m)))

pub listing_is_one : ListingIsOne
listing_is_one f d from count xs ys l m = one_listing f d from count xs ys l m
