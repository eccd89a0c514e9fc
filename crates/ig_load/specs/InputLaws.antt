-- What holds of inputs.
use Rattle.std.specs.Prelude.{◌≡◌, ℕ, ◌<◌, List, All}
use Rattle.ig_load.specs.Operators.{Step, letters, chain, HasLetter}
use Rattle.ig_load.specs.Input.{LoadInput}

-- the text is a letter, and then operators and letters
pub record IsChain (text : List ℕ) : Type 0 where
  pub first : ℕ
  pub steps : List Step
  pub first_fits : first < letters
  pub steps_fit : All HasLetter steps
  pub text_is : text ≡ chain first steps

abbrev pub InputsAreChains : Type 0
InputsAreChains = (size number : ℕ) → IsChain (LoadInput size number)
