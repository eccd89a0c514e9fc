-- A printed text reads as its grammar, where some text does.
use Rattle.std.proofs.Common.{◌≡◌, sym, subst, true, ℕ, List, [], ◌∷◌, map}
use Rattle.std.specs.Prelude.{All}
use Rattle.std.proofs.lemmas.List.Elements.{All-nil, All-cons, All-head, All-tail}
use Rattle.ig_text.specs.Ranges.{NormalFormIsNormal, NormalRangesStay}
use Rattle.ig_notation_syntax.specs.Rules.{FollowsRules}
use Rattle.ig_grammar.specs.declared.grammar.Grammar.{Grammar}
use Rattle.ig_show.specs.CanonicalText.{tokens_of}
use Rattle.ig_show.specs.Laws.{CanonicalTokensFollow}
use Rattle.ig_w3c_syntax.specs.Token.{Token, Head, Name, Text, Code, OneOf, Bar, Open, Close, Question, Star, Plus, Minus}
use Rattle.ig_w3c_syntax.specs.TokenForms.{HasForm}
use Rattle.ig_w3c_syntax.specs.TokenLaws.{FrontsAreRuns, StandingTokensAreLongest, TokensHaveForms}
use Rattle.ig_w3c_syntax.specs.RuleForms.{IsWhole, IsOfRules}
use Rattle.ig_w3c_syntax.specs.Reading.{ReadsAs, in_own_notation}
use Rattle.ig_w3c_syntax.specs.RuleLaws.{ReadsHaveForms}
use Rattle.ig_w3c_syntax.specs.Notation.{Reads}
use Rattle.ig_w3c.specs.TextLaws.{PrintedTextReadsBack}
use Rattle.ig_w3c.proofs.Shown.{rule_tokens, grammar_keeps}
use Rattle.ig_w3c.proofs.Canonical.{grammar_same}
use Rattle.ig_w3c.proofs.Lexed.{grammar_lexed}

-- tokens of a text of characters
whole : (valid : Type 0) → valid → (t : Token) → HasForm valid t → IsWhole t
whole valid v (Head x) h = h
whole valid v (Name x) h = h
whole valid v (Text x) h =
    record { quote = h.quote; is_quote = h.is_quote; inside = h.inside; some = h.some; characters = λ u. h.characters v }
whole valid v (Code x) h = h
whole valid v (OneOf x) h =
    record { negated = h.negated; first = h.first; others = h.others; class_is = h.class_is; rise = h.rise; ends = λ u. h.ends v }
whole valid v Bar h = tt
whole valid v Open h = tt
whole valid v Close h = tt
whole valid v Question h = tt
whole valid v Star h = tt
whole valid v Plus h = tt
whole valid v Minus h = tt

all_whole : (valid : Type 0) → valid → (ts : List Token) → All (HasForm valid) ts → All IsWhole ts
all_whole valid v [] h = All-nil IsWhole
all_whole valid v (t ∷ ts) h =
    All-cons IsWhole t ts (whole valid v t (All-head (HasForm valid) t ts h)) (all_whole valid v ts (All-tail (HasForm valid) t ts h))

-- the tokens of the printed text read as the grammar
tokens_read : CanonicalTokensFollow → (g : Grammar) (ts : List Token) → ReadsAs ts g → IsOfRules g → ReadsAs (rule_tokens g.decls) g
tokens_read canonical g ts r f = record {
  keeps = grammar_keeps f;
  reading = subst (λ z. FollowsRules z g) (sym (grammar_same f)) (canonical (in_own_notation ts) g r.reading);
}

pub reads_back : FrontsAreRuns → StandingTokensAreLongest → NormalFormIsNormal → NormalRangesStay → TokensHaveForms → ReadsHaveForms →
    CanonicalTokensFollow → PrintedTextReadsBack
reads_back runs longest normal stay forms shapes canonical s g characters r =
    let ts : List Token = map (λ p. p.0) r.placed in
    let f = shapes ts g r.reads (all_whole _ characters ts (forms 0 s r.placed r.lexes)) in
    let l = (grammar_lexed runs longest normal stay f).lexed 0 in
    record {
      placed = l.0;
      lexes = l.1;
      reads = subst (λ z. ReadsAs z g) (sym l.2) (tokens_read canonical g ts r.reads f);
    }
