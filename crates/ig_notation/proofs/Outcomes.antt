-- What the tests of a text find.
use Rattle.std.proofs.Common.{◌≡◌, ◌↔◌, Bool, false, ℕ, ◌≤◌, ◌<◌, List, [], ◌∷◌, length, refl, sym, ap, subst, arith}
use Rattle.std.specs.Prelude.{Result, Ok, Err, IfErr, IsTrue, chars}
use Rattle.std.specs.Result.{IsErrAnd}
use Rattle.std.proofs.lemmas.Bool.Decides.{not_from_Decides}
use Rattle.ig_notation_syntax.specs.Notation.{most_bytes}
use Rattle.ig_notation_syntax.specs.Rules.{FollowsRules}
use Rattle.ig_notation_syntax.specs.Lexing.{Lexes}
use Rattle.ig_notation_syntax.specs.Stops.{Stops}
use Rattle.ig_grammar.specs.declared.grammar.Grammar.{Grammar}
use Rattle.ig_notation_syntax.specs.View.{token_of, tokens_of}
use Rattle.ig_notation_syntax.specs.Faults.{IsFault}
use Rattle.ig_notation_syntax.specs.declared.token.Placed.{Placed}
use Rattle.ig_notation_syntax.specs.declared.token.TokenFault.{TokenFault}
use Rattle.ig_notation_syntax.specs.declared.token.TokenFault.TheVariants.{Broken, Memory as OutOfMemory}
use Rattle.ig_notation_syntax.specs.RuleLaws.{AreOfGrammar, RunStops}
use Rattle.ig_notation_syntax.specs.Machine as want
use Rattle.ig_notation_terms.specs.declared.fault.RuleFault.{RuleFault}
use Rattle.ig_notation_terms.specs.declared.fault.RuleFault.TheVariants.{Unexpected, Memory}
use Rattle.ig_notation.specs.declared.fault.ReadFault.{ReadFault}
use Rattle.ig_notation.specs.declared.fault.ReadFault.TheVariants as faults
use Rattle.ig_notation.specs.declared.fault.Large.{Large}
use Rattle.ig_notation.specs.declared.fault.Large.TheVariants as large
use Rattle.ig_notation_terms.specs.Limits.{NumbersFit, IsShallow, byte_of, meanings}
use Rattle.ig_notation.specs.Outcome.{unplaced, HasTokens, IsRead, fault_of, refusal_of, Passes, great_number, many_brackets, IsWithin, IsReadFault, no_token, large_number, deep, against_rules, no_memory}
use Rattle.ig_notation.specs.Parts.{FailsAt}

same_tokens : (placed : List Placed) → meanings placed ≡ unplaced (tokens_of placed)
same_tokens [] = refl
same_tokens (p ∷ placed) = ap (λ z. token_of p.token ∷ z) (same_tokens placed)

-- a text that is not too long
pub short_enough : (b : Bool) (most n : ℕ) → (IsTrue b ↔ (most < n)) → b ≡ false → n ≤ most
short_enough b most n h e = let f = not_from_Decides b h e in omega arith

-- the text and its tokens, as the tests find them
pub has_tokens : (source : List ℕ) (items placed : List Placed) → length source ≤ most_bytes → Lexes 0 (chars source) (tokens_of items) → placed ≡ items →
    HasTokens source (tokens_of placed)
has_tokens source items placed l h e = record { bytes = l; lexed = subst (λ z. Lexes 0 (chars source) (tokens_of z)) (sym e) h }

pub token_fault : (source : List ℕ) (fault : TokenFault) → length source ≤ most_bytes → IsFault (chars source) fault → IsReadFault source (fault_of fault)
token_fault source (Broken at) l h = no_token at l h
token_fault source OutOfMemory l h = no_memory

number_fault : (source : List ℕ) (placed : List Placed) → HasTokens source (tokens_of placed) → (NumbersFit (meanings placed) → ⊥) →
    IsReadFault source (faults.TooLarge large.Number)
number_fault source placed h f = large_number (tokens_of placed) h (subst (λ z. NumbersFit z → ⊥) (same_tokens placed) f)

nesting_fault : (source : List ℕ) (placed : List Placed) → HasTokens source (tokens_of placed) → NumbersFit (meanings placed) →
    (IsShallow (meanings placed) → ⊥) → IsReadFault source (faults.TooLarge large.Nesting)
nesting_fault source placed h n f =
    deep (tokens_of placed) h (subst NumbersFit (same_tokens placed) n) (subst (λ z. IsShallow z → ⊥) (same_tokens placed) f)

pub limit_fault : (source : List ℕ) (placed : List Placed) (which : Large) → HasTokens source (tokens_of placed) → Passes (meanings placed) which →
    IsReadFault source (faults.TooLarge which)
limit_fault source placed large.Bytes h p = elim p [ ]
limit_fault source placed large.Number h (great_number f) = number_fault source placed h f
limit_fault source placed large.Nesting h (many_brackets n f) = nesting_fault source placed h n f

pub rule_fault : (source : List ℕ) (placed : List Placed) (fault : RuleFault) → HasTokens source (tokens_of placed) → IsWithin (meanings placed) → RunStops → FailsAt want.grammar (meanings placed) 0 fault →
    IsReadFault source (refusal_of (length source) (tokens_of placed) fault)
rule_fault source placed (Unexpected n) h w law r =
    against_rules (tokens_of placed) n (byte_of (length source) (tokens_of placed) n) h (subst NumbersFit (same_tokens placed) w.numbers)
    (subst IsShallow (same_tokens placed) w.shallow) (subst (λ z. Stops AreOfGrammar z n) (same_tokens placed) (law (meanings placed) n r)) refl
rule_fault source placed Memory h w law r = no_memory

pub is_read : (source : List ℕ) (placed : List Placed) (g : Grammar) → HasTokens source (tokens_of placed) → IsWithin (meanings placed) →
    FollowsRules (meanings placed) g → IsRead source g
is_read source placed g h w r = record {
  tokens = tokens_of placed;
  are_tokens = h;
  numbers = subst NumbersFit (same_tokens placed) w.numbers;
  shallow = subst IsShallow (same_tokens placed) w.shallow;
  follows = subst (λ z. FollowsRules z g) (same_tokens placed) r;
}

pub exits_with : {X : Type 0} (source : List ℕ) (r : Result X ReadFault) (fault : TokenFault) → IsErrAnd r (λ y. y ≡ fault_of fault) →
    IsReadFault source (fault_of fault) → IfErr r (IsReadFault source)
exits_with source (Ok x) fault h f = tt
exits_with source (Err y) fault h f = subst (IsReadFault source) (sym h) f
