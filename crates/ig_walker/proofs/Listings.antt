-- What the walks of a listing give.
use Rattle.std.proofs.Common.{◌≡◌, ℕ, List, [], ◌∷◌, Option, Some, inl, inr, refl, sym, ap, ◌∙◌, subst}
use Rattle.ig_forest_tables.specs.Forest.{Forest}
use Rattle.ig_forest_tables.specs.Unfold.{Unfold}
use Rattle.ig_forest.specs.Cursors.{Less}
use Rattle.ig_walker.specs.Listing.{Listing, GivesTree, IsOver, HasTree, HasNoTree}
use Rattle.ig_walker.specs.Options.{options, root_goal}
use Rattle.ig_walker.specs.States.{HasWalked, HasNoNext, IsNextWalk, IsAlong, IsWalkOf, last_cursor, listing_of}
use Rattle.ig_walker.specs.Walks.{Walk, cursor, Least, Next}
use Rattle.ig_walker.specs.Written.{emits}
use Rattle.ig_walker.specs.declared.goal.Goal.{Goal}
use Rattle.ig_walker.specs.declared.goal.Visit.{Visit}
use Rattle.ig_forest.specs.declared.tree.Part.{Part}
use Rattle.ig_walker.proofs.Cursors.{cursor_less}
use Rattle.ig_walker.proofs.Walking.{steps}
use Rattle.ig_walker.proofs.Unfolding.{node_walk}
use Rattle.ig_walker.proofs.Back.{tree_of}
use Rattle.ig_walker.proofs.Trees.{next_tree, no_next}

module _ (f : Forest) (d : ℕ) where
  abbrev opts : Goal → List (List Goal)
  opts = options f

  abbrev root : List Goal
  root = root_goal f d ∷ []

  not_empty : (vs : List Visit) → Walk opts root vs → vs ≡ [] → ⊥
  not_empty vs walk e = let s = steps opts (root_goal f d) [] vs walk in let p = s.whole in cc

  pub last_is : (vs : List Visit) → Walk opts root vs → last_cursor f d vs ≡ Some (cursor opts vs)
  last_is [] walk = absurd (not_empty [] walk refl)
  last_is (v ∷ vs) walk = refl

  pub has_walked : (vs : List Visit) → Walk opts root vs → HasWalked f d vs
  has_walked [] walk = tt
  has_walked (v ∷ vs) walk = walk

  next_is : (vs ws : List Visit) → IsNextWalk f d vs ws → Walk opts root ws
  next_is [] ws l = l.walk
  next_is (v ∷ vs) ws n = n.walk

  listing_is : (vs : List Visit) (cs : List ℕ) → Walk opts root vs → cursor opts vs ≡ cs →
      listing_of f d vs ≡ record { forest = f; depth = d; last = Some cs }
  listing_is vs cs walk told =
      ap (λ (z : Option (List ℕ)). record { forest = f; depth = d; last = z }) (last_is vs walk ∙ ap (λ (z : List ℕ). Some z) told)

  first_gives : (ws : List Visit) → Least opts root ws → GivesTree (listing_of f d []) (emits f [] ws) (listing_of f d ws)
  first_gives ws l =
      let h = tree_of f f.root d ws l.walk in
      record {
        cursor = cursor opts ws;
        tree = h.t;
        unfolds = h.here;
        flat_is = h.writes [];
        behind = tt;
        least = λ es u unfolds behind.
            let k = node_walk f unfolds in
            elim (l.least k.vs k.walk) [
              | inl e ↦ inl (sym k.told ∙ ap (cursor opts) e)
              | inr o ↦ inr (subst (λ (z : List ℕ). Less (cursor opts ws) z) k.told (cursor_less opts o k.walk))
            ];
        after_is = listing_is ws (cursor opts ws) l.walk refl;
      }

  later_gives : (v : Visit) (vs ws : List Visit) → Walk opts root (v ∷ vs) → Next opts root (v ∷ vs) ws →
      GivesTree (listing_of f d (v ∷ vs)) (emits f [] ws) (listing_of f d ws)
  later_gives v vs ws walk n =
      let h = next_tree f d (v ∷ vs) ws walk n in
      record {
        cursor = cursor opts ws;
        tree = h.t;
        unfolds = h.here;
        flat_is = h.flat_is;
        behind = h.after;
        least = h.least;
        after_is = listing_is ws (cursor opts ws) n.walk refl;
      }

  gives : (vs ws : List Visit) → HasWalked f d vs → IsNextWalk f d vs ws →
      GivesTree (listing_of f d vs) (emits f [] ws) (listing_of f d ws)
  gives [] ws walked l = first_gives ws l
  gives (v ∷ vs) ws walked n = later_gives v vs ws walked n

  over : (vs : List Visit) → HasWalked f d vs → HasNoNext f d vs → IsOver (listing_of f d vs) (listing_of f d vs)
  over [] walked closed =
      record { over = λ cs t unfolds behind. let k = node_walk f unfolds in closed (k.vs, k.walk); after_is = refl }
  over (v ∷ vs) walked last =
      record { over = λ cs t unfolds behind. no_next f d (v ∷ vs) walked last cs t unfolds behind; after_is = refl }

  -- for the code
  pub keeps_walked : (vs ws : List Visit) → IsNextWalk f d vs ws → HasWalked f d ws
  keeps_walked vs ws n = has_walked ws (next_is vs ws n)

  pub gives_code : (vs ws : List Visit) (parts : List Part) (before after : Listing) → HasWalked f d vs → IsNextWalk f d vs ws →
      parts ≡ emits f [] ws → listing_of f d vs ≡ before → listing_of f d ws ≡ after → GivesTree before parts after
  gives_code vs ws parts before after walked n written as_before as_after =
      subst (λ (z : Listing). GivesTree before parts z) as_after
      (subst (λ (z : Listing). GivesTree z parts (listing_of f d ws)) as_before
      (subst (λ (z : List Part). GivesTree (listing_of f d vs) z (listing_of f d ws)) (sym written) (gives vs ws walked n)))

  pub over_code : (vs : List Visit) (before after : Listing) → HasWalked f d vs → HasNoNext f d vs → listing_of f d vs ≡ before →
      after ≡ before → IsOver before after
  over_code vs before after walked closed as_before same =
      subst (λ (z : Listing). IsOver before z) (sym same)
      (subst (λ (z : Listing). IsOver z z) as_before (over vs walked closed))

  pub after_code : (vs : List Visit) (cs : List ℕ) → IsWalkOf opts root cs vs →
      listing_of f d vs ≡ record { forest = f; depth = d; last = Some cs }
  after_code vs cs h = listing_is vs cs h.walk h.told

  pub tree_code : (vs : List Visit) (cs : List ℕ) → IsWalkOf opts root cs vs → HasTree f d cs
  tree_code vs cs h =
      let t = tree_of f f.root d vs h.walk in
      (t.t, subst (λ (z : List ℕ). Unfold f d z t.t) h.told t.here)

  pub no_tree_code : (cs : List ℕ) → (IsAlong opts root cs → ⊥) → HasNoTree f d cs
  no_tree_code cs closed t unfolds = let k = node_walk f unfolds in closed (k.vs, k.walk, k.told)
