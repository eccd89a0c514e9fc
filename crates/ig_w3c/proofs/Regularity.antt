-- A grammar that is read is regular, its names are names, and it has no more declarations than its text has bytes.
use Rattle.std.proofs.Common.{◌≡◌, ◌≢◌, ℕ, suc, ◌+◌, ◌<◌, ◌≤◌, List, [], ◌∷◌, ◌++◌, Some, None, refl, subst, arith, length, map}
use Rattle.std.specs.Prelude.{chars, IsUtf8, All}
use Rattle.std.proofs.lemmas.List.Elements.{All-nil, All-cons, All-head, All-tail}
use Rattle.std.proofs.lemmas.Str.{encodes-chars, length-le-encodes}
use Rattle.ig_notation_syntax.specs.Token as own
use Rattle.ig_notation_syntax.specs.Notation.{most_bytes}
use Rattle.ig_grammar.specs.Counts.{HasFewerThan}
use Rattle.ig_grammar.specs.declared.grammar.Grammar.{Grammar}
use Rattle.ig_notation_syntax.specs.Written.{HasText}
use Rattle.ig_notation_syntax.specs.Names.{HasName}
use Rattle.ig_notation_syntax.specs.RuleLaws.{ReadsAreCounted, ReadsAreNamed, ReadsAreRegular}
use Rattle.ig_notation.specs.Outcome.{RulesHaveFormsOfText}
use Rattle.ig_w3c_syntax.specs.Token.{Token, Head, Name, Text, Code, OneOf, Bar, Open, Close, Question, Star, Plus, Minus}
use Rattle.ig_w3c_syntax.specs.TokenForms.{least, least_of, HasForm}
use Rattle.ig_w3c_syntax.specs.TokenLaws.{TokensAreFew, TokensHaveForms}
use Rattle.ig_w3c_syntax.specs.Rules.{KeepsRules, rules}
use Rattle.ig_w3c_syntax.specs.Reading.{within, declared, in_own_notation}
use Rattle.ig_w3c_syntax.specs.RuleLaws.{DeclarationsRead}
use Rattle.ig_w3c.specs.Outcome.{unplaced, IsRead}
use Rattle.ig_w3c.specs.Laws.{ReadGrammarsAreRegular, ReadNamesAreNames, ReadGrammarsAreWritten}
use Rattle.ig_w3c.specs.Steps.{own_token}
use Rattle.ig_w3c.proofs.Translated.{own_holds}

-- tokens that have forms become tokens that have texts and names
each_text : (valid : Type 0) (t : Token) → HasForm valid t → HasText (own_token t)
each_text valid (Head x) h = tt
each_text valid (Name x) h = tt
each_text valid (Text x) h = h.some
each_text valid (Code x) h = λ e. cc
each_text valid (OneOf x) h = tt
each_text valid Bar h = tt
each_text valid Open h = tt
each_text valid Close h = tt
each_text valid Question h = tt
each_text valid Star h = tt
each_text valid Plus h = tt
each_text valid Minus h = tt

each_name : (valid : Type 0) (t : Token) → HasForm valid t → HasName (own_token t)
each_name valid (Head x) h = h
each_name valid (Name x) h = h
each_name valid (Text x) h = tt
each_name valid (Code x) h = tt
each_name valid (OneOf x) h = tt
each_name valid Bar h = tt
each_name valid Open h = tt
each_name valid Close h = tt
each_name valid Question h = tt
each_name valid Star h = tt
each_name valid Plus h = tt
each_name valid Minus h = tt

texts : (valid : Type 0) (ts : List Token) → All (HasForm valid) ts → All HasText (in_own_notation ts)
texts valid ts h =
    own_holds HasText (HasForm valid)
    (record { start = tt; semicolon = tt; lexical = tt; equals = tt; each = each_text valid }) ts h

names : (valid : Type 0) (ts : List Token) → All (HasForm valid) ts → All HasName (in_own_notation ts)
names valid ts h =
    own_holds HasName (HasForm valid)
    (record { start = tt; semicolon = tt; lexical = tt; equals = tt; each = each_name valid }) ts h

pub read_named : TokensHaveForms → ReadsAreNamed → ReadNamesAreNames
read_named forms named source g read =
    named (in_own_notation (unplaced read.tokens)) g read.reads.reading
    (names _ (unplaced read.tokens) (forms 0 (chars source) read.tokens read.are_tokens.lexed))

pub read_written : RulesHaveFormsOfText → ReadGrammarsAreWritten
read_written law source g read = law (in_own_notation (unplaced read.tokens)) g read.reads.reading

-- the declarations have no more tokens than their text has characters
token_length : (t : Token) (ts : List Token) (n : ℕ) → length (within ts) ≡ n + 1 → length (within (t ∷ ts)) ≡ least t + n + 1
token_length (Head x) ts n e = omega arith
token_length (Name x) ts n e = omega arith
token_length (Text x) ts n e = omega arith
token_length (Code x) ts n e = omega arith
token_length (OneOf x) ts n e = omega arith
token_length Bar ts n e = omega arith
token_length Open ts n e = omega arith
token_length Close ts n e = omega arith
token_length Question ts n e = omega arith
token_length Star ts n e = omega arith
token_length Plus ts n e = omega arith
token_length Minus ts n e = omega arith

within_length : (placed : List (Token × ℕ)) → length (within (unplaced placed)) ≡ least_of placed + 1
within_length [] = refl
within_length (p ∷ placed) = token_length p.0 (unplaced placed) (least_of placed) (within_length placed)

-- tokens that keep the rules begin with a head
declared_length : (t : Token) (at : ℕ) (placed : List (Token × ℕ)) → KeepsRules (t ∷ unplaced placed) →
    length (declared (t ∷ unplaced placed)) ≡ least_of ((t, at) ∷ placed)
declared_length (Head x) at placed k = let l = within_length placed in omega arith
declared_length (Name x) at placed k = absurd (elim k [ ])
declared_length (Text x) at placed k = absurd (elim k [ ])
declared_length (Code x) at placed k = absurd (elim k [ ])
declared_length (OneOf x) at placed k = absurd (elim k [ ])
declared_length Bar at placed k = absurd (elim k [ ])
declared_length Open at placed k = absurd (elim k [ ])
declared_length Close at placed k = absurd (elim k [ ])
declared_length Question at placed k = absurd (elim k [ ])
declared_length Star at placed k = absurd (elim k [ ])
declared_length Plus at placed k = absurd (elim k [ ])
declared_length Minus at placed k = absurd (elim k [ ])

few_declared : (placed : List (Token × ℕ)) → KeepsRules (unplaced placed) → length (declared (unplaced placed)) ≤ least_of placed
few_declared [] k = omega arith
few_declared (p ∷ placed) k = let e = declared_length p.0 p.1 placed k in omega arith

few_own : (ts : List Token) (n : ℕ) → length (declared ts) ≤ n → length (within ts) ≤ n + 1 → length (in_own_notation ts) ≤ n + 3
few_own [] n h k = omega arith
few_own (Head x ∷ ts) n h k = omega arith
few_own (Name x ∷ ts) n h k = omega arith
few_own (Text x ∷ ts) n h k = omega arith
few_own (Code x ∷ ts) n h k = omega arith
few_own (OneOf x ∷ ts) n h k = omega arith
few_own (Bar ∷ ts) n h k = omega arith
few_own (Open ∷ ts) n h k = omega arith
few_own (Close ∷ ts) n h k = omega arith
few_own (Question ∷ ts) n h k = omega arith
few_own (Star ∷ ts) n h k = omega arith
few_own (Plus ∷ ts) n h k = omega arith
few_own (Minus ∷ ts) n h k = omega arith

-- a text has no more characters than bytes
few_characters : TokensAreFew → (source : List ℕ) (g : Grammar) → IsUtf8 source → (read : IsRead source g) → least_of read.tokens ≤ most_bytes
few_characters few_of source g utf8 read =
    let few : least_of read.tokens ≤ length (chars source) = few_of 0 (chars source) read.tokens read.are_tokens.lexed in
    let short = length-le-encodes (chars source) in
    let bytes : length (chars source) ≤ length source =
    subst (λ (z : List ℕ). length (chars source) ≤ length z) (encodes-chars source utf8) short in
    let most : length source ≤ most_bytes = read.are_tokens.bytes in
    omega arith

with_start : (most : ℕ) (g : Grammar) → HasFewerThan most (record { start = None; tabs = None; decls = g.decls }) → HasFewerThan most g
with_start most g h =
    record { declarations = h.declarations; levels = h.levels; alternatives = h.alternatives; symbols = h.symbols }

pub read_regular : TokensAreFew → TokensHaveForms → DeclarationsRead → ReadsAreRegular → ReadsAreCounted → ReadGrammarsAreRegular
read_regular few_of forms declarations regular counted source g utf8 read =
    let few = few_characters few_of source g utf8 read in
    let ts = unplaced read.tokens in
    let one : length (declared ts) ≤ least_of read.tokens = few_declared read.tokens read.reads.keeps in
    let two : length (within ts) ≡ least_of read.tokens + 1 = within_length read.tokens in
    let all = few_own ts (least_of read.tokens) one (omega (arith, two)) in (
      regular (in_own_notation ts) g read.reads.reading (texts _ ts (forms 0 (chars source) read.tokens read.are_tokens.lexed)) (omega arith),
      with_start (suc most_bytes) g
          (counted (declared ts) (record { start = None; tabs = None; decls = g.decls }) (suc most_bytes) (declarations ts g read.reads) (omega arith)),
    )
