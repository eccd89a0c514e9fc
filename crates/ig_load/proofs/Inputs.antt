-- The input of a load is a chain, and its characters are bytes.
use Rattle.std.proofs.Common.{◌≡◌, ℕ, zero, suc, ◌+◌, ◌-◌, ◌*◌, ◌%◌, ◌<◌, ◌≤◌, List, [], ◌∷◌, ◌++◌, All, length, refl, sym, ap, ◌∙◌, subst, inl, inr, arith}
use Rattle.std.specs.Prelude.{flat_map}
use Rattle.std.specs.Prelude.{IsUtf8, chars}
use Rattle.std.specs.Str.{IsAscii}
use Rattle.std.proofs.lemmas.List.Elements.{All-nil, All-cons}
use Rattle.std.proofs.lemmas.List.{append_assoc}
use Rattle.std.proofs.lemmas.Str.{chars-IsAscii, IsUtf8-from_ascii}
use Rattle.std.proofs.lemmas.Str.Ascii.{IsAscii-cons}
use Rattle.ig_text.specs.Input.{Input, untabbed}
use Rattle.ig_text.specs.Decoding.{IsDecoded, IsFaulty}
use Rattle.ig_text.specs.declared.text.TextFault.TheVariants.{NotUtf8, TooLong}
use Rattle.ig_load.specs.Operators.{Operator, power, times, plus, minus, sign, letter, letters, step_text, HasLetter}
use Rattle.ig_load.specs.Input.{next_state, drawn, operand_at, operator_of, operator_at, steps_from, LoadInput}
use Rattle.ig_load.specs.declared.input.TheConstants.{MOST_OPERANDS}
use Rattle.ig_load.specs.InputLaws.{IsChain, InputsAreChains}

pub operand_fits : (state : ℕ) → operand_at state < letters
operand_fits state = omega arith

pub steps_fit : (n state : ℕ) → All HasLetter (steps_from state n)
steps_fit zero state = All-nil HasLetter
steps_fit (suc n) state =
    All-cons HasLetter _ _ (operand_fits (next_state (next_state state))) (steps_fit n (next_state (next_state state)))

pub inputs_are_chains : InputsAreChains
inputs_are_chains size number =
    record {
      first = operand_at (next_state number);
      steps = steps_from (next_state number) (size - 1);
      first_fits = operand_fits (next_state number);
      steps_fit = steps_fit (size - 1) (next_state number);
      text_is = refl;
    }

-- a draw that gives this number modulo 4 gives this operator
pub one_of_four : (state draw n : ℕ) → draw ≡ drawn state → draw % 4 ≡ n → sign (operator_of n) ≡ sign (operator_at state)
one_of_four state draw n is modulo = ap (λ k. sign (operator_of k)) (sym modulo ∙ ap (λ d. d % 4) is)

sign_is_ascii : (o : Operator) → sign o < 128
sign_is_ascii power = omega arith
sign_is_ascii times = omega arith
sign_is_ascii plus = omega arith
sign_is_ascii minus = omega arith

ascii_nil : IsAscii []
ascii_nil i = omega arith

steps_are_ascii : (n state : ℕ) → IsAscii (flat_map step_text (steps_from state n))
steps_are_ascii zero state = ascii_nil
steps_are_ascii (suc n) state =
    let next = next_state (next_state state) in
    let rest = flat_map step_text (steps_from next n) in
    IsAscii-cons (sign (operator_at (next_state state))) (letter (operand_at next) ∷ rest) (sign_is_ascii (operator_at (next_state state)))
    (IsAscii-cons (letter (operand_at next)) rest (let fits = operand_fits next in omega arith) (steps_are_ascii n next))

pub input_is_ascii : (size number : ℕ) → IsAscii (LoadInput size number)
input_is_ascii size number =
    IsAscii-cons (letter (operand_at (next_state number))) (flat_map step_text (steps_from (next_state number) (size - 1)))
    (let fits = operand_fits (next_state number) in omega arith)
    (steps_are_ascii (size - 1) (next_state number))

steps_width : (n state : ℕ) → length (flat_map step_text (steps_from state n)) ≡ 2 * n
steps_width zero state = refl
steps_width (suc n) state =
    let more = steps_width n (next_state (next_state state)) in omega arith

pub input_width : (size number : ℕ) → length (LoadInput size number) ≡ 1 + 2 * (size - 1)
input_width size number =
    let more = steps_width (size - 1) (next_state number) in omega arith

-- the loop that writes the input begins behind the first operand
pub first_written : (before out : List ℕ) (size number state first : ℕ) → state ≡ next_state number → first ≡ letter (operand_at state) →
    before ≡ [] → out ≡ before ++ first ∷ [] → out ++ flat_map step_text (steps_from state (size - 1)) ≡ LoadInput size number
first_written before out size number state first is_state is_first none is_out = rw (is_out, none, is_first, is_state) refl

-- one step of the loop that writes the input
pub one_more : (out one two whole : List ℕ) (size counter state first second : ℕ) →
    out ++ flat_map step_text (steps_from state (size - counter)) ≡ whole → counter < size →
    first ≡ next_state state → second ≡ next_state first → one ≡ out ++ sign (operator_at first) ∷ [] →
    two ≡ one ++ letter (operand_at second) ∷ [] → two ++ flat_map step_text (steps_from second (size - (counter + 1))) ≡ whole
one_more out one two whole size counter state first second sofar more is_first is_second is_one is_two =
    let rest = flat_map step_text (steps_from (next_state (next_state state)) (size - (counter + 1))) in
    let left : size - counter ≡ suc (size - (counter + 1)) = omega arith in
    let start : out ++ sign (operator_at (next_state state)) ∷ letter (operand_at (next_state (next_state state))) ∷ rest ≡ whole =
    rw left at sofar in
    rw (is_two, is_one, is_second, is_first)
    (append_assoc (out ++ sign (operator_at (next_state state)) ∷ []) (letter (operand_at (next_state (next_state state))) ∷ []) rest ∙
    append_assoc out (sign (operator_at (next_state state)) ∷ []) (letter (operand_at (next_state (next_state state))) ∷ rest) ∙ start)

module _ (size number : ℕ) (bytes : List ℕ) (is : bytes ≡ LoadInput size number) where
  -- its bytes are its characters
  pub decoded_input : (text : Input) → IsDecoded 1 bytes text → text ≡ untabbed (LoadInput size number)
  decoded_input text d =
      let letters : text.characters ≡ LoadInput size number =
      d.characters ∙ ap chars is ∙ chars-IsAscii (LoadInput size number) (input_is_ascii size number) in
      λ i. record { characters = letters i; tabs = d.tabs i }

  -- which are UTF-8
  pub input_is_utf8 : (at : ℕ) → IsFaulty bytes (NotUtf8 at) → ⊥
  input_is_utf8 at fault =
      fault.not_utf8 (subst IsUtf8 (sym is) (IsUtf8-from_ascii (LoadInput size number) (input_is_ascii size number)))

  -- and few
  pub input_is_short : size ≤ MOST_OPERANDS → IsFaulty bytes TooLong → ⊥
  input_is_short few (inl long) =
      let width = input_width size number in let same = ap length is in omega arith
  input_is_short few (inr long) =
      let width = input_width size number in
      let same = ap length (ap chars is ∙ chars-IsAscii (LoadInput size number) (input_is_ascii size number)) in
      let much = long.1 in
      omega arith
