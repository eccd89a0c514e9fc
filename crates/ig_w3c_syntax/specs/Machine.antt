-- A machine that reads tokens of the W3C notation one by one, and stops at the first that can't follow. It counts the
-- brackets that are open.
use Rattle.std.specs.Prelude.{ℕ, zero, suc, List, [], ◌∷◌, Option, Some, None}
use Rattle.ig_w3c_syntax.specs.declared.machine.At.{At}
use Rattle.ig_w3c_syntax.specs.declared.machine.State.{State}
use Rattle.ig_w3c_syntax.specs.declared.machine.State.TheVariants.{Begin, Item, Excluded, BehindAtom, BehindSign, BehindItem}
use Rattle.ig_w3c_syntax.specs.Token.{Token, Head, Name, Text, Code, OneOf, Bar, Open, Close, Question, Star, Plus, Minus}

abbrev pub at : State → ℕ → Option At
at state n = Some (record { state = state; brackets = n })

abbrev pub step_begin : ℕ → Token → Option At
step_begin n (Head x) = at Item n
step_begin n t = None

abbrev pub step_item : ℕ → Token → Option At
step_item n (Name x) = at BehindAtom n
step_item n (Text word) = at BehindAtom n
step_item n (Code c) = at BehindAtom n
step_item n (OneOf class) = at BehindAtom n
step_item n Open = at Item (suc n)
step_item n t = None

abbrev pub step_string : ℕ → Token → Option At
step_string n (Text word) = at BehindItem n
step_string n t = None

-- a head stands where no bracket is open, and `)` where one is
abbrev pub step_head : ℕ → Option At
step_head zero = at Item zero
step_head (suc n) = None

abbrev pub step_close : ℕ → Option At
step_close zero = None
step_close (suc n) = at BehindAtom n

abbrev pub step_behind : ℕ → Token → Option At
step_behind n (Head x) = step_head n
step_behind n Close = step_close n
step_behind n Bar = at Item n
step_behind n t = step_item n t

abbrev pub step_sign : ℕ → Token → Option At
step_sign n Minus = at Excluded n
step_sign n t = step_behind n t

abbrev pub step_atom : ℕ → Token → Option At
step_atom n Question = at BehindSign n
step_atom n Star = at BehindSign n
step_atom n Plus = at BehindSign n
step_atom n t = step_sign n t

abbrev pub step : State → ℕ → Token → Option At
step Begin n t = step_begin n t
step Item n t = step_item n t
step Excluded n t = step_string n t
step BehindAtom n t = step_atom n t
step BehindSign n t = step_sign n t
step BehindItem n t = step_behind n t

-- rules may end here
abbrev pub stop : ℕ → State → ℕ → Option ℕ
stop k BehindAtom zero = None
stop k BehindSign zero = None
stop k BehindItem zero = None
stop k state n = Some k

abbrev pub go : ℕ → (State → ℕ → Option ℕ) → Option At → Option ℕ
go k on None = Some k
go k on (Some a) = on a.state a.brackets

-- from the token of number k on: the number of the token at which the machine stops, or of all tokens where they end too
-- early; None where all is taken
abbrev pub run : ℕ → State → ℕ → List Token → Option ℕ
run k state n [] = stop k state n
run k state n (t ∷ ts) = go k (λ next m. run (suc k) next m ts) (step state n t)

-- from the first token on
abbrev pub stop_of : List Token → Option ℕ
stop_of tokens = run 0 Begin 0 tokens
