-- A text that is read has characters alone, so a grammar that is read has a reading.
use Rattle.std.proofs.Common.{◌≡◌, ℕ, ◌<◌, ◌≤◌, ◌⊎◌, inl, inr, List, [], ◌∷◌, Bool, true, false, ◌&&◌, refl, arith, chars, IsUtf8}
use Rattle.std.specs.List.{list_all}
use Rattle.std.proofs.lemmas.Bool.{and_parts}
use Rattle.std.proofs.lemmas.Bool.Decides.{nat_tests}
use Rattle.std.proofs.lemmas.Str.{scalars-chars}
use Rattle.std.proofs.Math.Utf8.{scalar, scalars, scalar_cases}
use Rattle.ig_grammar.specs.declared.grammar.Grammar.{Grammar}
use Rattle.ig_w3c_syntax.specs.Spelling.{is_character}
use Rattle.ig_w3c.specs.Outcome.{IsRead}
use Rattle.ig_w3c.specs.Laws.{ReadGrammarsHaveReadings}

by_range : (c : ℕ) → (c < 55296) ⊎ ((57344 ≤ c) × (c < 1114112)) → is_character c ≡ true
by_range c (inl h) = grind (arith, nat_tests)
by_range c (inr h) = let k = h.0 in let l = h.1 in grind (arith, nat_tests)

characters_of : (cs : List ℕ) → scalars cs ≡ true → list_all is_character cs ≡ true
characters_of [] h = refl
characters_of (c ∷ cs) h =
    let p = and_parts (scalar c) (scalars cs) h in (rw (by_range c (scalar_cases c p.0), characters_of cs p.1) refl)

pub read_readings : ReadGrammarsHaveReadings
read_readings source g utf8 read = (
  chars source,
  characters_of (chars source) (scalars-chars source utf8),
  record { placed = read.tokens; lexes = read.are_tokens.lexed; reads = read.reads },
)
