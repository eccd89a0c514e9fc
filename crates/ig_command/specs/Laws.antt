-- What holds of commands.
use Rattle.std.specs.Prelude.{◌≡◌, ℕ, ◌≤◌, if◌then◌else◌, List, [], ◌∷◌, Some, codes}
use Rattle.ig_text.specs.Words.{is_word}
use Rattle.ig_command.specs.Words.{Parts, Setting}
use Rattle.ig_command.specs.Commands.{IsCommand, Request, batch, load, most_budget, most_size, most_turn, request_with}

-- a load that words ask for has a size that may be asked for
abbrev pub LoadSizesAreFew : Type 0
LoadSizesAreFew = (words : List (List ℕ)) (size number budget : ℕ) → IsCommand words (load size number budget) → size ≤ most_size

-- numbers that a batch may be asked for with: how many items each job may reach, and how many events a turn has
pub record AreBatchNumbers (budget turn : ℕ) : Type 0 where
  pub some_items : 1 ≤ budget
  pub few_items : budget ≤ most_budget
  pub some_events : 1 ≤ turn
  pub few_events : turn ≤ most_turn

-- a batch that words ask for has such numbers
abbrev pub BatchNumbersAreSome : Type 0
BatchNumbersAreSome =
    (words : List (List ℕ)) (list : List ℕ) (budget turn : ℕ) → IsCommand words (batch list budget turn) → AreBatchNumbers budget turn

-- the options but those of the name `order`
abbrev pub unordered : List Setting → List Setting
unordered [] = []
unordered (option ∷ options) = if is_word option.name (codes "order") then unordered options else option ∷ unordered options

-- commands whose words are the same but for the order that they name, if they name one, ask for the same
abbrev pub OrdersAskTheSame : Type 0
OrdersAskTheSame =
    (name : List ℕ) (p q : Parts) (r s : Request) → p.positional ≡ q.positional → unordered p.options ≡ unordered q.options →
    request_with name p ≡ Some r → request_with name q ≡ Some s → r ≡ s
