-- A canonical text reads as its grammar, where some text does.
use Rattle.std.proofs.Common.{sym, subst, ℕ, List, map}
use Rattle.ig_notation_syntax.specs.Token.{Token}
use Rattle.ig_notation_syntax.specs.Rules.{FollowsRules}
use Rattle.ig_notation_syntax.specs.Texts as lexing
use Rattle.ig_notation_syntax.specs.Lexing.{Lexes}
use Rattle.ig_notation_syntax.specs.TokenLaws.{EndedTokensAreLongest}
use Rattle.ig_show.specs.SpellingLaws.{FixedTokensAreSpelled, TokensAreSpelled}
use Rattle.ig_show.specs.CanonicalText.{pieces_of}
use Rattle.ig_show.specs.Laws.{CanonicalTextReadsBack}
use Rattle.ig_show.proofs.Apart.{grammar_apart}
use Rattle.ig_show.proofs.Written.{AllSpelled, tokens_spelled}
use Rattle.ig_show.proofs.ReadsBack.{tokens_follow}
use Rattle.ig_show.proofs.Retokenized.{lexes, placed, placed_tokens}

all_spelled : TokensAreSpelled → {at : ℕ} {text : List ℕ} {ts : List (Token × ℕ)} → Lexes at text ts →
    AllSpelled (map (λ p. p.0) ts)
all_spelled spelled (lexing.nothing at text e) = tt
all_spelled spelled (lexing.a_separator at n text front rest ts e p q l) = all_spelled spelled l
all_spelled spelled (lexing.a_token at n text front rest t ts e p q l) =
    (spelled _ t e.stands.spelled_so, all_spelled spelled l)

pub reads_back : EndedTokensAreLongest → FixedTokensAreSpelled → TokensAreSpelled → CanonicalTextReadsBack
reads_back longest fixed spelled s g r =
    let all = tokens_spelled fixed r.follows (all_spelled spelled r.lexes) in
    record {
      placed = placed 0 (pieces_of g);
      lexes = lexes longest 0 (pieces_of g) (grammar_apart g) all;
      follows =
          subst (λ ts. FollowsRules ts g) (sym (placed_tokens 0 (pieces_of g))) (tokens_follow (map (λ p. p.0) r.placed) g r.follows);
    }
