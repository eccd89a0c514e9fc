-- The tree of a term, and how the grammar derives it.
use Rattle.std.proofs.Common.{◌≡◌, ℕ, suc, ◌+◌, List, [], ◌∷◌, ◌++◌, Some, length, slice_get, refl, arith, length-append}
use Rattle.std.specs.Prelude.{codes}
use Rattle.ig_text.specs.Input.{untabbed}
use Rattle.ig_text.specs.declared.tag.Tag.TheVariants.{Rule}
use Rattle.ig_text.specs.Tree.{Tree, Leaf, Node, none, more, one}
use Rattle.ig_grammar.specs.Numbering.{Levelled, by_level, Declares, as_written}
use Rattle.ig_grammar.specs.Symbol.{Literal}
use Rattle.ig_grammar.specs.declared.declaration.Assoc.{Assoc}
use Rattle.ig_grammar.specs.declared.declaration.Assoc.TheVariants.{Free, Left}
use Rattle.ig_grammar.specs.declared.declaration.DeclKind.TheVariants.{Syntax}
use Rattle.ig_grammar.specs.declared.place.Shape.TheVariants as shape
use Rattle.ig_meaning.specs.Environment.{no_values, no_parameters}
use Rattle.ig_meaning.specs.Derivation.{Derives, Instance, empty, symbol, literal, one_of, call, alternative, no_layout}
use Rattle.ig_load.specs.Operators.{Operator, power, times, plus, minus, sign, letter}
use Rattle.ig_load.specs.Grammar.{LoadGrammar, expression, expressions, operand as operand_alternative, operation as operation_alternative, levels}
use Rattle.ig_load.proofs.Chains.{Term, operand, operation, text, level_of, HasLetters}
use Rattle.ig_load.proofs.Places.{Stands, stands_first, stands_second, spells_one, is_letter}

-- how many alternatives stand before that of the operator
abbrev pub before : Operator → ℕ
before power = 1
before times = 2
before plus = 3
before minus = 4

abbrev pub assoc_of : Operator → Assoc
assoc_of power = Free
assoc_of times = Left
assoc_of plus = Left
assoc_of minus = Left

-- the alternatives of the grammar
abbrev pub levelled : Operator → Levelled
levelled o = record { alternative = operation_alternative (sign o); level = level_of o; assoc = assoc_of o }

abbrev pub levelled_operand : Levelled
levelled_operand = record { alternative = operand_alternative; level = 4; assoc = Free }

pub operand_stands : slice_get (by_level levels) 0 ≡ Some levelled_operand
operand_stands = refl

pub operation_stands : (o : Operator) → slice_get (by_level levels) (before o) ≡ Some (levelled o)
operation_stands power = refl
operation_stands times = refl
operation_stands plus = refl
operation_stands minus = refl

-- where a term that begins at i ends
abbrev pub past : ℕ → Term → ℕ
past i (operand n) = i + 1
past i (operation o left right) = past (past i left + 1) right

abbrev pub tree : ℕ → Term → Tree
tree i (operand n) = Node (Rule 1 1) i (i + 1) (one (Leaf i (i + 1)))
tree i (operation o left right) =
    Node (Rule 1 (suc (before o))) i (past (past i left + 1) right)
    (more (tree i left) (more (Leaf (past i left) (past i left + 1)) (one (tree (past i left + 1) right))))

pub past_is : (t : Term) (i : ℕ) → past i t ≡ i + length (text t)
past_is (operand n) i = refl
past_is (operation o left right) i =
    let first = past_is left i in
    let second = past_is right (past i left + 1) in
    let long = length-append (text left) (sign o ∷ text right) in
    omega arith

-- the declaration, as it is written
pub declared : Declares LoadGrammar (as_written LoadGrammar) (codes "E") 1 expressions shape.Rule
unfolding LoadGrammar
declared = record { numbered = (0, refl, refl); shaped = (0, refl, refl); named = refl }

module _ (w : List ℕ) where
  -- the nonterminal covers this part of the text with this tree
  pub record IsDerived (i j : ℕ) (t : Tree) : Type 0 where
    pub starts : List ℕ
    pub instance : Instance LoadGrammar (as_written LoadGrammar) (untabbed w) (codes "E") [] Syntax i j t starts

  -- a letter
  derived_operand : (n i : ℕ) → HasLetters (operand n) → Stands w (letter n ∷ []) i → IsDerived i (i + 1) (tree i (operand n))
  unfolding LoadGrammar
  derived_operand n i fits s =
      record {
        starts = i ∷ [];
        instance =
            alternative (codes "E") [] Syntax 1 1 expressions shape.Rule levelled_operand [] [] i (i + 1)
            (one (Leaf i (i + 1))) (tree i (operand n)) (i ∷ []) declared (0, refl, refl) no_parameters refl
            (symbol Syntax _ [] [] [] [] i (i + 1) (i + 1) (i + 1) (one (Leaf i (i + 1))) none (one (Leaf i (i + 1)))
            (i ∷ []) [] (i ∷ [])
            (one_of Syntax _ [] i (i + 1) (i + 1) none (one (Leaf i (i + 1))) (i ∷ []) (is_letter w n i fits s)
            (no_layout (i + 1) refl) refl refl)
            (empty Syntax [] (i + 1)) refl refl)
            refl;
      }

  -- a call of the nonterminal
  called : (i j : ℕ) (t : Tree) (d : IsDerived i j t) →
      Derives LoadGrammar (as_written LoadGrammar) (untabbed w) Syntax expression [] i j j (one t) [] d.starts
  called i j t d = call Syntax Syntax (codes "E") [] [] [] i j t d.starts no_values d.instance (λ e. cc)

  -- an operator between two terms
  derived_operation : (o : Operator) (i h j : ℕ) (left right : Tree) → Stands w (sign o ∷ []) h → IsDerived i h left →
      IsDerived (h + 1) j right →
      IsDerived i j (Node (Rule 1 (suc (before o))) i j (more left (more (Leaf h (h + 1)) (one right))))
  unfolding LoadGrammar
  derived_operation o i h j left right s l r =
      record {
        starts = l.starts ++ (h ∷ [] ++ (r.starts ++ []));
        instance =
            alternative (codes "E") [] Syntax 1 (suc (before o)) expressions shape.Rule (levelled o) [] [] i j
            (more left (more (Leaf h (h + 1)) (one right))) _ (l.starts ++ (h ∷ [] ++ (r.starts ++ []))) declared
            (before o, refl, operation_stands o) no_parameters refl
            (symbol Syntax expression _ [] [] [] i h h j (one left) (more (Leaf h (h + 1)) (one right)) _ l.starts
            (h ∷ [] ++ (r.starts ++ [])) _ (called i h left l)
            (symbol Syntax (Literal (sign o ∷ [])) _ [] [] [] h (h + 1) (h + 1) j (one (Leaf h (h + 1))) (one right) _ (h ∷ [])
            (r.starts ++ []) _
            (literal Syntax (sign o ∷ []) [] h (h + 1) (h + 1) none (one (Leaf h (h + 1))) (h ∷ [])
            (spells_one w (sign o) h s) (no_layout (h + 1) refl) refl refl)
            (symbol Syntax expression [] [] [] [] (h + 1) j j j (one right) none (one right) r.starts [] (r.starts ++ [])
            (called (h + 1) j right r) (empty Syntax [] j) refl refl)
            refl refl)
            refl refl)
            refl;
      }

  -- each term that stands in the text is derived there
  pub derived : (t : Term) (i : ℕ) → HasLetters t → Stands w (text t) i → IsDerived i (past i t) (tree i t)
  derived (operand n) i fit s = derived_operand n i fit s
  derived (operation o left right) i fit s =
      let h = past i left in
      let behind = stands_second w (text left) (sign o ∷ text right) i h (past_is left i) s in
      derived_operation o i h (past (h + 1) right) (tree i left) (tree (h + 1) right)
      (stands_first w (sign o ∷ []) (text right) h behind)
      (derived left i fit.0 (stands_first w (text left) (sign o ∷ text right) i s))
      (derived right (h + 1) fit.1 (stands_second w (sign o ∷ []) (text right) h (h + 1) refl behind))
