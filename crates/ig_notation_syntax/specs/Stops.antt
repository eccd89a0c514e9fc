-- Where tokens, of whichever notation, stop following rules.
use Rattle.std.specs.Prelude.{◌≡◌, ℕ, List, ◌∷◌, ◌++◌, length}

-- The number, from 0, of the first token such that nothing that follows the rules begins with the tokens up to and
-- including it; where there is none, the number of all tokens.
pub record Stops {Token : Type 0} (follows : List Token → Type 0) (tokens : List Token) (number : ℕ) : Type 0 where
  pub taken : List Token
  pub left : List Token
  pub parts : tokens ≡ taken ++ left
  pub counted : number ≡ length taken
  -- something that follows the rules begins with the tokens before it
  pub before : (more : List Token) × follows (taken ++ more)
  -- nothing that does begins with them and the next one
  pub not_with : (t : Token) (others more : List Token) → left ≡ t ∷ others → follows (taken ++ t ∷ more) → ⊥
  -- the tokens themselves don't follow the rules
  pub not_all : follows tokens → ⊥
