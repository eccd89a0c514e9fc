-- The tags of the trees of a core grammar name its nonterminals.
use Rattle.std.proofs.Common.{◌≡◌, ℕ, ◌<◌, List, [], ◌∷◌, ◌++◌, Some, inl, inr, length, sym, ap, ◌∙◌, subst}
use Rattle.std.proofs.lemmas.List.Elements.{Contains-append_cases}
use Rattle.std.proofs.lemmas.Option.{same_Some, slice_get_within}
use Rattle.ig_text.specs.Input.{Input}
use Rattle.ig_text.specs.Tree.{Tree, Trees, Leaf}
use Rattle.ig_text.specs.declared.tag.Tag.TheVariants.{Rule}
use Rattle.ig_text.proofs.Lists.{none_in_nil, contains_one}
use Rattle.ig_expr.specs.declared.value.Value.{Value}
use Rattle.ig_item.specs.CoreTrees as core_trees
use Rattle.ig_item.specs.CoreTrees.{Leads, HasTree}
use Rattle.ig_item.specs.Step.{Step}
use Rattle.ig_item.specs.WellKinded.{IsWellKinded}
use Rattle.ig_item.specs.declared.core_grammar.Nonterminal.{Nonterminal}
use Rattle.ig_forest.specs.Flat.{count, flat, flats}
use Rattle.ig_forest.specs.Laws.{UnfoldsToCoreTrees}
use Rattle.ig_forest.specs.Tags.{TagsAreNamed}
use Rattle.ig_forest.specs.TreeLaws.{TagsNameNonterminals}
use Rattle.ig_forest.specs.declared.tree.Part.{Part}

module _ (core : List Nonterminal) where
  abbrev IsNamed : Part → Type 0
  IsNamed part = (n k : ℕ) → part.tag ≡ Some (Rule n k) → n < length core

  one_named : (part : Part) → IsNamed part → TagsAreNamed core (part ∷ [])
  one_named part named p n k among e = named n k (ap (λ (z : Part). z.tag) (sym (contains_one part p among)) ∙ e)

  both_named : (xs ys : List Part) → TagsAreNamed core xs → TagsAreNamed core ys → TagsAreNamed core (xs ++ ys)
  both_named xs ys left right p n k among e =
      elim (Contains-append_cases xs ys p among) [ inl h ↦ left p n k h e | inr h ↦ right p n k h e ]

  none_named : TagsAreNamed core []
  none_named p n k among e = absurd (none_in_nil p among)

  leaf_named : (i j : ℕ) → TagsAreNamed core (flat (Leaf i j))
  leaf_named i j = one_named _ (λ n k e. cc)

  module _ (text : Input) (kinded : IsWellKinded core) where
    mutual
      tree_named : {n : ℕ} {vs : List Value} {i j : ℕ} {t : Tree} → HasTree core text n vs i j t → TagsAreNamed core (flat t)
      tree_named (core_trees.node n a vs nonterminal alternative i j ts t has leads is) =
          let named : (m k : ℕ) → Some alternative.tag ≡ Some (Rule m k) → m < length core =
          λ m k e. subst (λ (z : ℕ). z < length core)
          (sym (kinded.rules n a nonterminal alternative has m k (same_Some _ _ e)))
          (slice_get_within core n nonterminal has.there) in
          subst (λ (z : Tree). TagsAreNamed core (flat z)) (sym is)
          (both_named (record { tag = Some alternative.tag; span = record { begin = i; end = j }; children = count ts } ∷ []) (flats ts)
          (one_named _ named) (list_named leads))

      list_named : {names : List (List ℕ)} {env : List Value} {steps : List Step} {i j : ℕ} {ts : Trees} →
          Leads core text names env steps i j ts → TagsAreNamed core (flats ts)
      list_named (core_trees.done names env i) = none_named
      list_named (core_trees.test names env e others i j ts value leads) = list_named leads
      list_named (core_trees.bind names env name e v others i j ts value leads) = list_named leads
      list_named (core_trees.terminal names env what label excluded others i h j ts us matches none leads is) =
          subst (λ (z : Trees). TagsAreNamed core (flats z)) (sym is)
          (both_named (flat (Leaf i h)) (flats ts) (leaf_named i h) (list_named leads))
      list_named (core_trees.call names env callee arguments label excluded vs others i h j t ts us values tree none leads is) =
          subst (λ (z : Trees). TagsAreNamed core (flats z)) (sym is)
          (both_named (flat t) (flats ts) (tree_named tree) (list_named leads))

pub tags_name_nonterminals : UnfoldsToCoreTrees → TagsNameNonterminals
tags_name_nonterminals unfolds_to core text f d cs t kinded reduced unfolds =
    tree_named core text kinded ((unfolds_to core text f d t kinded reduced).0 (cs, unfolds)).0
