-- The tree of an ordered term is clean.
use Rattle.std.proofs.Common.{◌≡◌, ℕ, zero, suc, ◌+◌, ◌≤◌, List, [], ◌∷◌, Some, length, slice_get, refl, sym, ◌∙◌, ap, subst, arith, length-append}
use Rattle.std.proofs.lemmas.Option.{same_Some}
use Rattle.ig_text.specs.declared.tag.Tag.{Tag}
use Rattle.ig_text.specs.declared.tag.Tag.TheVariants.{Rule}
use Rattle.ig_text.specs.Tree.{Tree, Trees, Leaf, Node, none, more, one, join}
use Rattle.ig_grammar.specs.Numbering.{Levelled, by_level}
use Rattle.ig_grammar.specs.declared.declaration.Decl.{Decl}
use Rattle.ig_meaning.specs.Operands.{HasLeftOperand, HasRightOperand, left_bound, right_bound}
use Rattle.ig_meaning.specs.Clean.{Applies, EndsInOperand, BeginsWithOperand, OnRightSpine, OnLeftSpine, IsClean, Clean, right_top, right_below, left_top, left_below}
use Rattle.ig_load.specs.Operators.{Operator, power, times, plus, minus}
use Rattle.ig_load.specs.Grammar.{LoadGrammar, expressions, operand as operand_alternative, levels}
use Rattle.ig_load.proofs.Chains.{Term, operand, operation, level_of, AtLeast, IsOrdered}
use Rattle.ig_load.proofs.Derived.{before, levelled, levelled_operand, operand_stands, operation_stands, past, tree}

only : (k : ℕ) (decl : Decl) → slice_get (expressions ∷ []) k ≡ Some decl → expressions ≡ decl
only zero decl e = same_Some expressions decl e
only (suc k) decl e = absurd (cc)

-- an alternative of this number is this one
applied : (tag : Tag) (k : ℕ) (decl : Decl) (a x : Levelled) → slice_get (by_level levels) k ≡ Some x → tag ≡ Rule 1 (suc k) →
    Applies LoadGrammar tag decl a → a ≡ x
unfolding LoadGrammar
applied tag k decl a x there e h =
    let numbers : Rule 1 (suc k) ≡ Rule h.d h.k = sym e ∙ h.tagged in
    let place : h.k ≡ suc k = cc in
    let here : h.numbered.0 ≡ k = omega (arith, h.numbered.1) in
    let is = only h.declaration.0 decl h.declaration.2 in
    same_Some a x
    (sym h.numbered.2 ∙ ap (λ (z : Decl). slice_get (by_level z.levels) h.numbered.0) (sym is) ∙
    ap (slice_get (by_level levels)) here ∙ there)

-- a letter has no operand
no_left : (name : List ℕ) → HasLeftOperand name operand_alternative.symbols → ⊥
no_left name h = let e = h.split in cc

no_right : (name : List ℕ) → HasRightOperand name operand_alternative.symbols → ⊥
no_right name h =
    let e = ap length h.split in
    let l = length-append h.others (h.last ∷ []) in
    omega arith

-- the last of some trees
abbrev last : Trees → Tree → Tree
last none d = d
last (more t ts) d = last ts t

last_is : (ts : Trees) (x d : Tree) → last (join ts (one x)) d ≡ x
last_is none x d = refl
last_is (more t ts) x d = last_is ts x t

-- so its node begins and ends with none
begins_none : (tag : Tag) (ts : Trees) (a : Levelled) (x : Tree) → tag ≡ Rule 1 1 → BeginsWithOperand LoadGrammar tag ts a x → ⊥
begins_none tag ts a x e h =
    no_left h.decl.name
    (subst (λ (z : Levelled). HasLeftOperand h.decl.name z.alternative.symbols)
    (applied tag 0 h.decl a levelled_operand operand_stands e h.applies) h.has)

ends_none : (tag : Tag) (ts : Trees) (a : Levelled) (x : Tree) → tag ≡ Rule 1 1 → EndsInOperand LoadGrammar tag ts a x → ⊥
ends_none tag ts a x e h =
    no_right h.decl.name
    (subst (λ (z : Levelled). HasRightOperand h.decl.name z.alternative.symbols)
    (applied tag 0 h.decl a levelled_operand operand_stands e h.applies) h.has)

-- the alternative and the operands of an operator's node
module _ (o : Operator) (tag : Tag) (is : tag ≡ Rule 1 (suc (before o))) (ts : Trees) (left mid right : Tree)
    (children : ts ≡ more left (more mid (one right))) where
  begun_by : (a : Levelled) (x : Tree) → BeginsWithOperand LoadGrammar tag ts a x → (a ≡ levelled o) × (x ≡ left)
  begun_by a x h =
      let both : more left (more mid (one right)) ≡ more x h.after = sym children ∙ h.first in
      (applied tag (before o) h.decl a (levelled o) (operation_stands o) is h.applies, cc)

  ended_by : (a : Levelled) (x : Tree) → EndsInOperand LoadGrammar tag ts a x → (a ≡ levelled o) × (x ≡ right)
  ended_by a x h =
      let both : more left (more mid (one right)) ≡ join h.before (one x) = sym children ∙ h.last in (
        applied tag (before o) h.decl a (levelled o) (operation_stands o) is h.applies,
        sym (last_is h.before x x) ∙ sym (ap (λ (z : Trees). last z x) both),
      )

same_tag : (tag s : Tag) (i j k l : ℕ) (ts us : Trees) → Node tag i j ts ≡ Node s k l us → tag ≡ s
same_tag tag s i j k l ts us e = cc

same_children : (tag s : Tag) (i j k l : ℕ) (ts us : Trees) → Node tag i j ts ≡ Node s k l us → ts ≡ us
same_children tag s i j k l ts us e = cc

-- the levels on the right spine of a term's tree
right_levels : (t : Term) (i p : ℕ) (x : Tree) (low : Tag) (us : Trees) (b : Levelled) (other : Tree) → AtLeast p t → x ≡ tree i t →
    OnRightSpine LoadGrammar x low us → EndsInOperand LoadGrammar low us b other → p ≤ b.level
right_levels (operand n) i p x low us b other least e (right_top tag k j ts) ends =
    absurd (ends_none tag ts b other (same_tag tag (Rule 1 1) k j i (i + 1) ts _ e) ends)
right_levels (operand n) i p x low us b other least e (right_below tag k j ts a y low2 us2 first spine) ends =
    absurd (ends_none tag ts a y (same_tag tag (Rule 1 1) k j i (i + 1) ts _ e) first)
right_levels (operation o left right) i p x low us b other least e (right_top tag k j ts) ends =
    let is = (ended_by o tag (same_tag tag _ k j i _ ts _ e) ts (tree i left) _ (tree (past i left + 1) right) (same_children tag _ k j i _ ts _ e) b other ends).0 in
    subst (λ (z : Levelled). p ≤ z.level) (sym is) least.0
right_levels (operation o left right) i p x low us b other least e (right_below tag k j ts a y low2 us2 first spine) ends =
    let is = (ended_by o tag (same_tag tag _ k j i _ ts _ e) ts (tree i left) _ (tree (past i left + 1) right) (same_children tag _ k j i _ ts _ e) a y first).1 in
    right_levels right (past i left + 1) p y low us b other least.2 is spine ends

-- the levels on the left spine
left_levels : (t : Term) (i p : ℕ) (x : Tree) (low : Tag) (us : Trees) (b : Levelled) (other : Tree) → AtLeast p t → x ≡ tree i t →
    OnLeftSpine LoadGrammar x low us → BeginsWithOperand LoadGrammar low us b other → p ≤ b.level
left_levels (operand n) i p x low us b other least e (left_top tag k j ts) begins =
    absurd (begins_none tag ts b other (same_tag tag (Rule 1 1) k j i (i + 1) ts _ e) begins)
left_levels (operand n) i p x low us b other least e (left_below tag k j ts a y low2 us2 first spine) begins =
    absurd (begins_none tag ts a y (same_tag tag (Rule 1 1) k j i (i + 1) ts _ e) first)
left_levels (operation o left right) i p x low us b other least e (left_top tag k j ts) begins =
    let is = (begun_by o tag (same_tag tag _ k j i _ ts _ e) ts (tree i left) _ (tree (past i left + 1) right) (same_children tag _ k j i _ ts _ e) b other begins).0 in
    subst (λ (z : Levelled). p ≤ z.level) (sym is) least.0
left_levels (operation o left right) i p x low us b other least e (left_below tag k j ts a y low2 us2 first spine) begins =
    let is = (begun_by o tag (same_tag tag _ k j i _ ts _ e) ts (tree i left) _ (tree (past i left + 1) right) (same_children tag _ k j i _ ts _ e) a y first).1 in
    left_levels left i p y low us b other least.1 is spine begins

bounds : (o : Operator) → (left_bound (levelled o) ≤ level_of o) × (right_bound (levelled o) ≤ level_of o + 1)
bounds power = (omega arith, omega arith)
bounds times = (omega arith, omega arith)
bounds plus = (omega arith, omega arith)
bounds minus = (omega arith, omega arith)

-- an operator's node
clean_operation : (o : Operator) (i : ℕ) (left right : Term) → IsOrdered (operation o left right) →
    IsClean LoadGrammar (Rule 1 (suc (before o)))
    (more (tree i left) (more (Leaf (past i left) (past i left + 1)) (one (tree (past i left + 1) right))))
clean_operation o i left right ordered =
    record {
      left = λ a b x other low us begins spine ends.
          let is = begun_by o (Rule 1 (suc (before o))) refl _ (tree i left) _ _ refl a x begins in
          let level = right_levels left i (level_of o) x low us b other ordered.0 is.1 spine ends in
          subst (λ (z : Levelled). left_bound z ≤ b.level) (sym is.0) (let bound = (bounds o).0 in omega arith);
      right = λ a b x other low us ends spine begins.
          let is = ended_by o (Rule 1 (suc (before o))) refl _ (tree i left) _ (tree (past i left + 1) right) refl a x ends in
          let level = left_levels right (past i left + 1) (level_of o + 1) x low us b other ordered.1 is.1 spine begins in
          subst (λ (z : Levelled). right_bound z ≤ b.level) (sym is.0) (let bound = (bounds o).1 in omega arith);
    }

clean_operand : (i : ℕ) → IsClean LoadGrammar (Rule 1 1) (one (Leaf i (i + 1)))
clean_operand i =
    record {
      left = λ a b x other low us begins spine ends. absurd (begins_none (Rule 1 1) _ a x refl begins);
      right = λ a b x other low us ends spine begins. absurd (ends_none (Rule 1 1) _ a x refl ends);
    }

pub clean : (t : Term) (i : ℕ) → IsOrdered t → Clean LoadGrammar (tree i t)
clean (operand n) i ordered = (clean_operand i, (tt, tt))
clean (operation o left right) i ordered = (
  clean_operation o i left right ordered,
  (clean left i ordered.2, (tt, (clean right (past i left + 1) ordered.3, tt))),
)
