-- The rules of the W3C notation. In `IsX from rest` the tokens from `from` up to `rest` are an x.
use Rattle.std.specs.Prelude.{ℕ, List, [], ◌∷◌}
use Rattle.ig_text.specs.declared.class.Class.{Class}
use Rattle.ig_w3c_syntax.specs.Token.{Token, Head, Name, Text, Code, OneOf, Bar, Open, Close, Question, Star, Plus, Minus}

pub data IsSign : List Token → List Token → Type 0 where
  once : (r : List Token) → IsSign r r
  option : (r : List Token) → IsSign (Question ∷ r) r
  star : (r : List Token) → IsSign (Star ∷ r) r
  plus : (r : List Token) → IsSign (Plus ∷ r) r

pub data IsExclusion : List Token → List Token → Type 0 where
  nothing : (r : List Token) → IsExclusion r r
  excluded : (word : List ℕ) (r : List Token) → IsExclusion (Minus ∷ Text word ∷ r) r

mutual
  -- alternatives are one or more, with `|` between them
  pub data IsAlternatives : List Token → List Token → Type 0 where
    last_alternative : (s r : List Token) → IsAlternative s r → IsAlternatives s r
    further_alternative : (s m r : List Token) → IsAlternative s (Bar ∷ m) → IsAlternatives m r → IsAlternatives s r

  -- an alternative is one item or more
  pub data IsAlternative : List Token → List Token → Type 0 where
    last_item : (s r : List Token) → IsItem s r → IsAlternative s r
    further_item : (s m r : List Token) → IsItem s m → IsAlternative m r → IsAlternative s r

  -- an item is an atom, with a sign or none and a string behind `-` or none
  pub data IsItem : List Token → List Token → Type 0 where
    item : (s m q r : List Token) → IsAtom s m → IsSign m q → IsExclusion q r → IsItem s r

  pub data IsAtom : List Token → List Token → Type 0 where
    name : (x : List ℕ) (r : List Token) → IsAtom (Name x ∷ r) r
    string : (word : List ℕ) (r : List Token) → IsAtom (Text word ∷ r) r
    code : (c : ℕ) (r : List Token) → IsAtom (Code c ∷ r) r
    set : (class : Class) (r : List Token) → IsAtom (OneOf class ∷ r) r
    group : (s r : List Token) → IsAlternatives s (Close ∷ r) → IsAtom (Open ∷ s) r

-- all tokens are rules, each a head and alternatives
pub data AreRules : List Token → Type 0 where
  no_rule : AreRules []
  next_rule : (x : List ℕ) (s m : List Token) → IsAlternatives s m → AreRules m → AreRules (Head x ∷ s)

-- there is at least one
pub data KeepsRules : List Token → Type 0 where
  rules : (x : List ℕ) (s : List Token) → AreRules (Head x ∷ s) → KeepsRules (Head x ∷ s)
