-- What a walker shows and keeps, by its fields.
use Rattle.std.proofs.Common.{◌≡◌, ℕ, List, [], ◌∷◌, Some, None, refl, sym, ap, ◌∙◌, subst}
use Rattle.ig_forest_tables.specs.Forest.{Forest}
use Rattle.ig_walker.specs.Listing.{Listing, GivesTree, IsOver}
use Rattle.ig_walker.specs.Options.{options, root_goal}
use Rattle.ig_walker.specs.States.{HasWalked, HasNoNext, IsNextWalk, IsWalkOf, last_cursor, listing_of}
use Rattle.ig_walker.specs.Walks.{cursor}
use Rattle.ig_walker.specs.Written.{emits}
use Rattle.ig_walker.specs.declared.goal.Visit.{Visit}
use Rattle.ig_forest.specs.declared.tree.Part.{Part}
use Rattle.ig_walker.proofs.Listings.{has_walked, keeps_walked, gives_code, over_code}

module _ (f : Forest) (d : ℕ) where
  pub first_keeps : (vs : List Visit) → vs ≡ [] → HasWalked f d vs
  first_keeps [] e = tt
  first_keeps (v ∷ vs) e = cc

  pub first_shows : (vs : List Visit) → vs ≡ [] → listing_of f d vs ≡ record { forest = f; depth = d; last = None }
  first_shows [] e = refl
  first_shows (v ∷ vs) e = cc

  pub after_keeps : (vs : List Visit) (cs : List ℕ) → IsWalkOf (options f) (root_goal f d ∷ []) cs vs → HasWalked f d vs
  after_keeps vs cs walk = has_walked f d vs walk.walk

  pub next_keeps : (us ws : List Visit) → IsNextWalk f d us ws → HasWalked f d ws
  next_keeps us ws n = keeps_walked f d us ws n

  pub walked_slice : (vs us : List Visit) → HasWalked f d vs → us ≡ vs → HasWalked f d us
  walked_slice vs us walked same = subst (λ (z : List Visit). HasWalked f d z) (sym same) walked

  pub gives_next : (vs us ws written : List Visit) (parts : List Part) (before after : Listing) → HasWalked f d vs → us ≡ vs →
      IsNextWalk f d us ws → written ≡ ws → parts ≡ emits f [] written → listing_of f d vs ≡ before → listing_of f d ws ≡ after →
      GivesTree before parts after
  gives_next vs us ws written parts before after walked same n slice wrote as_before as_after =
      gives_code f d us ws parts before after (walked_slice vs us walked same) n
      (wrote ∙ ap (emits f []) slice) (ap (listing_of f d) same ∙ as_before) as_after

  pub gives_none : (vs us : List Visit) (before after : Listing) → HasWalked f d vs → us ≡ vs → HasNoNext f d us →
      listing_of f d vs ≡ before → after ≡ before → IsOver before after
  gives_none vs us before after walked same none_left as_before as_after =
      over_code f d us before after (walked_slice vs us walked same) none_left (ap (listing_of f d) same ∙ as_before) as_after

  last_there : (vs : List Visit) → (vs ≡ [] → ⊥) → last_cursor f d vs ≡ Some (cursor (options f) vs)
  last_there [] e = absurd (e refl)
  last_there (v ∷ vs) e = refl

  last_missing : (vs : List Visit) → vs ≡ [] → last_cursor f d vs ≡ None
  last_missing [] e = refl
  last_missing (v ∷ vs) e = cc

  pub shows_none : (vs : List Visit) (l : Listing) → vs ≡ [] → listing_of f d vs ≡ l → None ≡ l.last
  shows_none vs l e shows = sym (last_missing vs e) ∙ ap (λ (z : Listing). z.last) shows

  pub shows_cursor : (vs us : List Visit) (told : List ℕ) (l : Listing) → (vs ≡ [] → ⊥) → us ≡ vs → told ≡ cursor (options f) us →
      listing_of f d vs ≡ l → Some told ≡ l.last
  shows_cursor vs us told l e same is shows =
      ap (λ (z : List ℕ). Some z) (is ∙ ap (cursor (options f)) same) ∙ sym (last_there vs e) ∙ ap (λ (z : Listing). z.last) shows
