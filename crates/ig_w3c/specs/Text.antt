-- The text of a grammar in the notation of the XML recommendation.
use Rattle.std.specs.Prelude.{ℕ, zero, suc, ◌+◌, ◌/◌, ◌%◌, nat_lt, nat_le, List, [], ◌∷◌, ◌++◌, Bool, ◌&&◌, ◌==◌, if◌then◌else◌, codes, flat_map}
use Rattle.std.specs.List.{list_any}
use Rattle.ig_text.specs.declared.class.Class.{Class}
use Rattle.ig_text.specs.declared.class.Class.TheVariants as class
use Rattle.ig_text.specs.declared.pattern.Pattern.TheVariants as patterns
use Rattle.ig_grammar.specs.Symbol.{Symbol, Symbols, no_symbols, next_symbol, Alternatives, no_alternatives, next_alternative, Literal, OneOf, Call, Opt, Star, Plus, Group, Filtered}
use Rattle.ig_grammar.specs.Alternative.{gathered_alternatives}
use Rattle.ig_grammar.specs.declared.filter.Filter.{Filter}
use Rattle.ig_grammar.specs.declared.filter.Filter.TheVariants as filters
use Rattle.ig_grammar.specs.declared.declaration.Level.{Level}
use Rattle.ig_grammar.specs.declared.declaration.Decl.{Decl}
use Rattle.ig_grammar.specs.declared.grammar.Grammar.{Grammar}

-- uppercase hexadecimal digits without leading zeros, where there are at most so many
abbrev pub digit : ℕ → ℕ
digit n = if nat_lt n 10 then 48 + n else 55 + n

abbrev pub digits_within : ℕ → ℕ → List ℕ
digits_within zero n = []
digits_within (suc most) n = if nat_lt n 16 then digit n ∷ [] else digits_within most (n / 16) ++ digit (n % 16) ∷ []

-- a character has at most six
abbrev pub code_text : ℕ → List ℕ
code_text c = 35 ∷ 120 ∷ digits_within 6 c

-- in `"`, or where it has one in `'`
abbrev pub has_quote : List ℕ → Bool
has_quote word = list_any (λ c. c == 34) word

abbrev pub between : ℕ → List ℕ → List ℕ
between quote word = quote ∷ (word ++ quote ∷ [])

abbrev pub quoted : List ℕ → List ℕ
quoted word = if has_quote word then between 39 word else between 34 word

-- one character that isn't printed as it is stands as a code
abbrev pub is_printed : ℕ → Bool
is_printed c = nat_le 33 c && nat_le c 126

abbrev pub character_text : ℕ → List ℕ
character_text c = if is_printed c then quoted (c ∷ []) else code_text c

abbrev pub literal_text : List ℕ → List ℕ
literal_text (c ∷ []) = character_text c
literal_text word = quoted word

-- a range of one character is its code; else its two ends, with `-` between
abbrev pub range_text : ℕ × ℕ → List ℕ
range_text r = if r.0 == r.1 then code_text r.0 else code_text r.0 ++ 45 ∷ code_text r.1

abbrev pub negation : Bool → List ℕ
negation negated = if negated then 94 ∷ [] else []

abbrev pub set_text : Class → List ℕ
set_text (class.Ranges negated ranges) = 91 ∷ (negation negated ++ (flat_map range_text ranges ++ 93 ∷ []))
set_text c = []

-- a string behind ` - `; other filters have no text
abbrev pub filter_text : Filter → List ℕ
filter_text (filters.Not (patterns.Literal word)) = 32 ∷ 45 ∷ 32 ∷ quoted word
filter_text f = []

abbrev mutual
  -- forms that no text reads as have none
  pub symbol_text : Symbol → List ℕ
  symbol_text (Literal word) = literal_text word
  symbol_text (OneOf c) = set_text c
  symbol_text (Call name arguments) = name
  symbol_text (Opt x) = symbol_text x ++ 63 ∷ []
  symbol_text (Star x) = symbol_text x ++ 42 ∷ []
  symbol_text (Plus x) = symbol_text x ++ 43 ∷ []
  symbol_text (Group ys) = 40 ∷ (alternatives_text [] ys ++ 41 ∷ [])
  symbol_text (Filtered x fs) = symbol_text x ++ flat_map filter_text fs
  symbol_text x = []

  -- symbols, the first behind what is given, and each other one behind a space
  pub symbols_text : List ℕ → Symbols → List ℕ
  symbols_text before no_symbols = []
  symbols_text before (next_symbol x xs) = before ++ (symbol_text x ++ symbols_text (32 ∷ []) xs)

  -- alternatives, the first behind what is given, and each other one behind ` | `
  pub alternatives_text : List ℕ → Alternatives → List ℕ
  alternatives_text before no_alternatives = []
  alternatives_text before (next_alternative xs ys) = before ++ (symbols_text [] xs ++ alternatives_text (32 ∷ 124 ∷ 32 ∷ []) ys)

abbrev pub level_text : Level → List ℕ
level_text level = alternatives_text [] (gathered_alternatives level.alts)

-- a line for each rule: its name, ` ::= ` and its alternatives
abbrev pub rule_text : Decl → List ℕ
rule_text decl = decl.name ++ 32 ∷ 58 ∷ 58 ∷ 61 ∷ 32 ∷ (flat_map level_text decl.levels ++ 10 ∷ [])

abbrev pub grammar_text : Grammar → List ℕ
grammar_text g = flat_map rule_text g.decls
