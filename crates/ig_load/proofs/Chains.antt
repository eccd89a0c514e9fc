-- Chains as trees of operators, in which each operator binds tighter than those above it.
use Rattle.std.proofs.Common.{◌≡◌, ℕ, ◌+◌, ◌<◌, ◌≤◌, inl, inr, List, [], ◌∷◌, ◌++◌, All, refl, sym, ◌∙◌, ap, arith, append_assoc}
use Rattle.std.specs.Prelude.{flat_map}
use Rattle.std.proofs.lemmas.List.{append-nil}
use Rattle.std.proofs.lemmas.List.Elements.{All-head, All-tail}
use Rattle.std.proofs.lemmas.Bool.{cases_lt}
use Rattle.ig_load.specs.Operators.{Operator, power, times, plus, minus, sign, letter, letters, Step, step_text, chain, HasLetter}

-- a letter, or an operator between two of these
pub data Term : Type 0 where
  operand : (n : ℕ) → Term
  operation : (o : Operator) (left right : Term) → Term

abbrev pub text : Term → List ℕ
text (operand n) = letter n ∷ []
text (operation o left right) = text left ++ sign o ∷ text right

-- the level of an operator's alternative
abbrev pub level_of : Operator → ℕ
level_of power = 3
level_of times = 2
level_of plus = 1
level_of minus = 1

-- each operator has at least this level
abbrev pub AtLeast : ℕ → Term → Type 0
AtLeast p (operand n) = Unit {0}
AtLeast p (operation o left right) = (p ≤ level_of o) × AtLeast p left × AtLeast p right

-- operators on the left bind at least as tight, those on the right tighter
abbrev pub IsOrdered : Term → Type 0
IsOrdered (operand n) = Unit {0}
IsOrdered (operation o left right) =
    AtLeast (level_of o) left × AtLeast (level_of o + 1) right × IsOrdered left × IsOrdered right

abbrev pub HasLetters : Term → Type 0
HasLetters (operand n) = n < letters
HasLetters (operation o left right) = HasLetters left × HasLetters right

pub at_least_less : (p q : ℕ) (t : Term) → p ≤ q → AtLeast q t → AtLeast p t
at_least_less p q (operand n) h a = tt
at_least_less p q (operation o left right) h a =
    let first = a.0 in
    (omega arith, at_least_less p q left h a.1, at_least_less p q right h a.2)

-- a term with the text of another one and then an operator and a letter
pub record Added (o : Operator) (n : ℕ) (t : Term) : Type 0 where
  pub term : Term
  pub spelled : text term ≡ text t ++ sign o ∷ letter n ∷ []
  pub ordered : IsOrdered term
  pub lettered : HasLetters term
  pub least : (p : ℕ) → AtLeast p t → p ≤ level_of o → AtLeast p term

module _ (o : Operator) (n : ℕ) (fits : n < letters) where
  -- the operator above the whole term, where no operator of it binds less tight
  above : (t : Term) → AtLeast (level_of o) t → IsOrdered t → HasLetters t → Added o n t
  above t least ordered lettered =
      record {
        term = operation o t (operand n);
        spelled = refl;
        ordered = (least, tt, ordered, tt);
        lettered = (lettered, fits);
        least = λ p a h. (h, a, tt);
      }

  -- the operator in the right operand, where it binds tighter than the root
  below : (p : Operator) (left right : Term) → level_of p < level_of o → IsOrdered (operation p left right) →
      HasLetters (operation p left right) → Added o n right → Added o n (operation p left right)
  below p left right tight ordered lettered more =
      record {
        term = operation p left more.term;
        spelled =
            ap (λ (z : List ℕ). text left ++ sign p ∷ z) more.spelled ∙
            sym (append_assoc (text left) (sign p ∷ text right) (sign o ∷ letter n ∷ []));
        ordered = (ordered.0, more.least (level_of p + 1) ordered.1 (omega arith), ordered.2, more.ordered);
        lettered = (lettered.0, more.lettered);
        least = λ q a h. (a.0, a.1, more.least q a.2 h);
      }

  -- an operator and a letter are added behind each term
  pub add : (t : Term) → IsOrdered t → HasLetters t → Added o n t
  add (operand m) ordered lettered = above (operand m) tt ordered lettered
  add (operation p left right) ordered lettered =
      elim (cases_lt (level_of p) (level_of o)) as (λ z. Added o n (operation p left right)) [
        | inl tight ↦ below p left right tight ordered lettered (add right ordered.3 lettered.1)
        | inr loose ↦
            above (operation p left right)
            (loose, at_least_less (level_of o) (level_of p) left loose ordered.0, at_least_less (level_of o) (level_of p + 1) right (omega arith) ordered.1)
            ordered lettered
      ]

-- a term with that text
pub record IsTerm (cs : List ℕ) : Type 0 where
  pub term : Term
  pub spelled : text term ≡ cs
  pub ordered : IsOrdered term
  pub lettered : HasLetters term

-- steps are added one by one
grown : (steps : List Step) (t : Term) → All HasLetter steps → IsOrdered t → HasLetters t →
    IsTerm (text t ++ flat_map step_text steps)
grown [] t fit ordered lettered =
    record { term = t; spelled = sym (append-nil (text t)); ordered = ordered; lettered = lettered }
grown (step ∷ steps) t fit ordered lettered =
    let next = add step.operator step.operand (All-head HasLetter step steps fit) t ordered lettered in
    let whole = grown steps next.term (All-tail HasLetter step steps fit) next.ordered next.lettered in
    record {
      term = whole.term;
      spelled =
          whole.spelled ∙ ap (λ (z : List ℕ). z ++ flat_map step_text steps) next.spelled ∙
          append_assoc (text t) (step_text step) (flat_map step_text steps);
      ordered = whole.ordered;
      lettered = whole.lettered;
    }

-- each chain is the text of an ordered term
pub term_of : (first : ℕ) (steps : List Step) → first < letters → All HasLetter steps → IsTerm (chain first steps)
term_of first steps fits fit = grown steps (operand first) fit tt fits
