-- The walks of the root: the least one, and the next behind another.
use Rattle.std.proofs.Common.{◌≡◌, ◌↔◌, ℕ, List, [], ◌∷◌, ◌++◌, Option, Some, None, Bool, true, false, IsTrue, MatchOption, reverse, refl, sym, ap, ◌∙◌, subst}
use Rattle.ig_text.proofs.Booleans.{not_both}
use Rattle.ig_forest_tables.specs.Forest.{Forest}
use Rattle.ig_walker.specs.Options.{options, root_goal}
use Rattle.ig_walker.specs.States.{Completed, HasWalked, HasNoNext, IsNextWalk}
use Rattle.ig_walker.specs.Walks.{Walk, Opens, Least, Next, Last}
use Rattle.ig_walker.specs.declared.goal.Goal.{Goal}
use Rattle.ig_walker.specs.declared.goal.Goal.TheVariants.{Node}
use Rattle.ig_walker.specs.declared.goal.Visit.{Visit}
use Rattle.ig_walker.proofs.Stacks.{popped}

module _ (f : Forest) (d : ℕ) where
  abbrev opts : Goal → List (List Goal)
  opts = options f

  abbrev root : List Goal
  root = root_goal f d ∷ []

  -- the stack that has the root's goal alone
  pub root_alone : (node : ℕ) (xs ys : List Goal) → node ≡ f.root → ys ≡ [] → xs ≡ ys ++ Node node d ∷ [] → reverse xs ≡ root
  root_alone node xs ys is empty pushed =
      popped xs ys (Node node d) pushed ∙ ap (λ (z : List Goal). Node node d ∷ reverse z) empty
      ∙ ap (λ (n : ℕ). Node n d ∷ []) is

  pub root_opens : (node : ℕ) (b : Bool) → node ≡ f.root → b ≡ true → IsTrue b ↔ Opens opts (Node node d ∷ []) → Opens opts root
  root_opens node b is holds decided =
      subst (λ (n : ℕ). Opens opts (Node n d ∷ [])) is (decided.0 holds)

  pub root_closed : (node : ℕ) (b : Bool) → node ≡ f.root → b ≡ false → IsTrue b ↔ Opens opts (Node node d ∷ []) →
      Opens opts root → ⊥
  root_closed node b is fails decided opens =
      not_both b (decided.1 (subst (λ (n : ℕ). Opens opts (Node n d ∷ [])) (sym is) opens)) fails

  pub first_opens_code : (node : ℕ) (b : Bool) (xs ys : List Goal) → node ≡ f.root → b ≡ true → IsTrue b ↔ Opens opts (Node node d ∷ []) →
      ys ≡ [] → xs ≡ ys ++ Node node d ∷ [] → Opens opts (reverse xs)
  first_opens_code node b xs ys is holds decided empty pushed =
      subst (λ (z : List Goal). Opens opts z) (sym (root_alone node xs ys is empty pushed)) (root_opens node b is holds decided)

  pub first_code : (node : ℕ) (xs ys : List Goal) (before vs : List Visit) → node ≡ f.root → ys ≡ [] → xs ≡ ys ++ Node node d ∷ [] →
      before ≡ [] → Completed f (reverse xs) before vs → Least opts root vs
  first_code node xs ys before vs is empty pushed none_yet c =
      let same : c.taken ≡ vs = sym (c.whole ∙ ap (λ (z : List Visit). z ++ c.taken) none_yet) in
      subst (λ (z : List Visit). Least opts root z) same
      (subst (λ (z : List Goal). Least opts z c.taken) (root_alone node xs ys is empty pushed) c.least)

  -- no visits, or a walk
  pub none_first : (vs : List Visit) → vs ≡ [] → (Opens opts root → ⊥) → HasNoNext f d vs
  none_first [] e closed = closed
  none_first (v ∷ vs) e closed = cc

  pub is_first : (vs ws : List Visit) → vs ≡ [] → Least opts root ws → IsNextWalk f d vs ws
  is_first [] ws e l = l
  is_first (v ∷ vs) ws e l = cc

  pub has_walk : (vs : List Visit) → (vs ≡ [] → ⊥) → HasWalked f d vs → Walk opts root vs
  has_walk [] e walked = absurd (e refl)
  has_walk (v ∷ vs) e walked = walked

  pub none_later : (vs : List Visit) → (vs ≡ [] → ⊥) → Last opts root vs → HasNoNext f d vs
  none_later [] e last = absurd (e refl)
  none_later (v ∷ vs) e last = last

  pub is_later : (vs ws : List Visit) → (vs ≡ [] → ⊥) → Next opts root vs ws → IsNextWalk f d vs ws
  is_later [] ws e n = absurd (e refl)
  is_later (v ∷ vs) ws e n = n

pub found_weaker : {X : Type 0} (o : Option X) (A B : Type 0) (P Q : X → Type 0) → (A → B) → ((x : X) → P x → Q x) → MatchOption o A P →
    MatchOption o B Q
found_weaker None A B P Q none_so some_so h = none_so h
found_weaker (Some x) A B P Q none_so some_so h = some_so x h
