-- The tests by least heights decide where walks lead.
use Rattle.std.proofs.Common.{◌≡◌, ◌↔◌, ℕ, List, [], ◌∷◌, Some, None, Bool, true, false, IsTrue, slice_get, refl, sym, ◌∙◌, subst}
use Rattle.std.proofs.lemmas.Bool.{le-leb, leb-true}
use Rattle.std.proofs.lemmas.Option.{same_Some}
use Rattle.std.proofs.Math.Dec.{leb}
use Rattle.ig_text.specs.declared.text.Span.{Span}
use Rattle.ig_text.proofs.Booleans.{not_both}
use Rattle.ig_forest_tables.specs.Forest.{Forest}
use Rattle.ig_heights.specs.Heights.{Heights, AreHeights}
use Rattle.ig_heights.specs.Laws.{DepthsAreHeights}
use Rattle.ig_walker.specs.Behind.{listed}
use Rattle.ig_walker.specs.Options.{options}
use Rattle.ig_walker.specs.States.{LeadsNowhere}
use Rattle.ig_walker.specs.Walks.{Opens}
use Rattle.ig_walker.specs.declared.goal.Behind.{Behind}
use Rattle.ig_walker.specs.declared.goal.Behind.TheVariants.{Nothing, Two}
use Rattle.ig_walker.specs.declared.goal.Goal.{Goal}
use Rattle.ig_walker.specs.declared.goal.Goal.TheVariants.{Node, Item, Leaf}
use Rattle.ig_walker.proofs.Openings.{node_fits, node_needs, no_node_opens, item_fits, item_needs, no_item_opens, leaf_opens, nothing_opens, both_open, first_opens, second_opens}

module _ (inside f : Forest) (h : Heights) (shown : inside ≡ f) (inside_are : AreHeights inside h) where
  are : AreHeights f h
  are = subst (λ (z : Forest). AreHeights z h) shown inside_are

  pub node_decided : DepthsAreHeights → (v n d : ℕ) → Some n ≡ slice_get h.nodes v → IsTrue (leb n d) ↔ Opens (options f) (Node v d ∷ [])
  node_decided law v n d there = (
    λ fits. node_fits f (law f) v n d (are.node v n (sym there)) (leb-true n d fits),
    λ opens. le-leb n d (node_needs f v n d (are.node v n (sym there)) opens),
  )

  pub node_missing : (v d : ℕ) → None ≡ slice_get h.nodes v → IsTrue false ↔ Opens (options f) (Node v d ∷ [])
  node_missing v d missing = (λ wrong. absurd (cc), λ opens. absurd (no_node_opens f h.nodes v d are.nodes (sym missing) opens))

  pub item_decided : DepthsAreHeights → (k n d : ℕ) → Some n ≡ slice_get h.items k → IsTrue (leb n d) ↔ Opens (options f) (Item k d ∷ [])
  item_decided law k n d there = (
    λ fits. item_fits f (law f) k n d (are.item k n (sym there)) (leb-true n d fits),
    λ opens. le-leb n d (item_needs f k n d (are.item k n (sym there)) opens),
  )

  pub item_missing : (k d : ℕ) → None ≡ slice_get h.items k → IsTrue false ↔ Opens (options f) (Item k d ∷ [])
  item_missing k d missing = (λ wrong. absurd (cc), λ opens. absurd (no_item_opens f h.items k d are.items (sym missing) opens))

module _ (f : Forest) where
  -- the same of the goal as the code holds it
  pub same_goal : (b : Bool) (g h : Goal) → g ≡ h → IsTrue b ↔ Opens (options f) (h ∷ []) → IsTrue b ↔ Opens (options f) (g ∷ [])
  same_goal b g h e decided = subst (λ (z : Goal). IsTrue b ↔ Opens (options f) (z ∷ [])) (sym e) decided

  pub same_behind : (b : Bool) (x y : Behind) → x ≡ y → IsTrue b ↔ Opens (options f) (listed y) → IsTrue b ↔ Opens (options f) (listed x)
  same_behind b x y e decided = subst (λ (z : Behind). IsTrue b ↔ Opens (options f) (listed z)) (sym e) decided

  pub leaf_decided : (g : Goal) (span : Span) → g ≡ Leaf span → IsTrue true ↔ Opens (options f) (g ∷ [])
  leaf_decided g span e = same_goal true g (Leaf span) e (λ holds. leaf_opens f span, λ opens. refl)

  pub nothing_decided : (x : Behind) → x ≡ Nothing → IsTrue true ↔ Opens (options f) (listed x)
  nothing_decided x e = same_behind true x Nothing e (λ holds. nothing_opens f, λ opens. refl)

  pub both_decided : (x : Behind) (g h : Goal) (a b : Bool) → x ≡ Two g h → a ≡ true → IsTrue a ↔ Opens (options f) (g ∷ []) →
      IsTrue b ↔ Opens (options f) (h ∷ []) → IsTrue b ↔ Opens (options f) (listed x)
  both_decided x g h a b e holds first second =
      same_behind b x (Two g h) e
      (λ also. both_open f g h (first.0 holds) (second.0 also), λ opens. second.1 (second_opens f g h opens))

  pub first_decided : (x : Behind) (g h : Goal) (a : Bool) → x ≡ Two g h → a ≡ false → IsTrue a ↔ Opens (options f) (g ∷ []) →
      IsTrue a ↔ Opens (options f) (listed x)
  first_decided x g h a e fails first =
      same_behind a x (Two g h) e
      (λ holds. absurd (not_both a holds fails), λ opens. first.1 (first_opens f g h opens))

  -- the option of that number, whose goals the code holds, leads nowhere
  pub nowhere : (g : Goal) (i : ℕ) (x : Behind) (b : Bool) → Some (listed x) ≡ slice_get (options f g) i → b ≡ false →
      IsTrue b ↔ Opens (options f) (listed x) → LeadsNowhere f g i
  nowhere g i x b there fails decided part has opens =
      not_both b (decided.1 (subst (λ (z : List Goal). Opens (options f) z) (same_Some part (listed x) (sym has ∙ sym there)) opens)) fails
