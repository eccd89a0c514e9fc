-- A text has one list of tokens, so it reads as one grammar at most, and one that is read has no fault.
use Rattle.std.proofs.Common.{◌≡◌, ℕ, ◌≤◌, List, refl, sym, subst, arith}
use Rattle.std.specs.Prelude.{chars, length}
use Rattle.ig_notation_syntax.specs.Notation.{most_bytes}
use Rattle.ig_grammar.specs.declared.grammar.Grammar.{Grammar}
use Rattle.ig_notation_terms.specs.Limits.{IsShallow}
use Rattle.ig_w3c_syntax.specs.Token.{Token}
use Rattle.ig_w3c_syntax.specs.TokenLaws.{TokensAreSingle, NeverBoth}
use Rattle.ig_w3c_syntax.specs.Reading.{ReadsAs}
use Rattle.ig_w3c_syntax.specs.RuleLaws as rules
use Rattle.ig_w3c.specs.Outcome.{unplaced, HasTokens, IsRead, IsShallowText, too_many_bytes, no_token, deep, against_rules, no_memory}
use Rattle.ig_w3c.specs.Laws.{OneReading, ReadOrRefused}

same_list : TokensAreSingle → (source : List ℕ) (g : Grammar) (read : IsRead source g) (tokens : List (Token × ℕ)) → HasTokens source tokens →
    read.tokens ≡ tokens
same_list single source g read tokens has = single 0 (chars source) read.tokens tokens read.are_tokens.lexed has.lexed

pub only_reading : TokensAreSingle → rules.OneReading → OneReading
only_reading single one source g h a b =
    one (unplaced a.tokens) g h a.reads
    (subst (λ (z : List (Token × ℕ)). ReadsAs (unplaced z) h) (sym (same_list single source g a b.tokens b.are_tokens)) b.reads)

pub not_both : TokensAreSingle → NeverBoth → ReadOrRefused
not_both single never source g fault a (too_many_bytes more) = let few : length source ≤ most_bytes = a.are_tokens.bytes in absurd (omega arith)
not_both single never source g fault a (no_token at few breaks) = absurd (never 0 (chars source) a.tokens at a.are_tokens.lexed breaks)
not_both single never source g fault a (deep tokens has large) =
    absurd (large (subst (λ (z : List (Token × ℕ)). IsShallowText z) (same_list single source g a tokens has) a.shallow))
not_both single never source g fault a (against_rules tokens number at has shallow stops e) =
    absurd (stops.not_all (g, subst (λ (z : List (Token × ℕ)). ReadsAs (unplaced z) g) (same_list single source g a tokens has) a.reads))
not_both single never source g fault a no_memory = refl
