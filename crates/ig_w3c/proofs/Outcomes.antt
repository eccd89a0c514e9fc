-- What the tests of a text find.
use Rattle.std.proofs.Common.{◌≡◌, ◌↔◌, Bool, false, ℕ, zero, suc, ◌≤◌, ◌<◌, List, [], ◌∷◌, length, map, get_or, refl, sym, ap, subst, arith, ◌∙◌}
use Rattle.std.specs.Prelude.{Result, Ok, Err, IfErr, IsTrue, chars, Some, None}
use Rattle.std.specs.Result.{IsErrAnd}
use Rattle.std.proofs.lemmas.Bool.Decides.{not_from_Decides}
use Rattle.ig_notation_syntax.specs.Notation.{most_bytes}
use Rattle.ig_notation_syntax.specs.Rules.{FollowsRules}
use Rattle.ig_notation_syntax.specs.Texts.{Lexes}
use Rattle.ig_notation_syntax.specs.Stops.{Stops}
use Rattle.ig_grammar.specs.declared.grammar.Grammar.{Grammar}
use Rattle.ig_notation_syntax.specs.declared.token.TokenFault.{TokenFault}
use Rattle.ig_notation_syntax.specs.declared.token.TokenFault.TheVariants.{Broken, Memory as OutOfMemory}
use Rattle.ig_notation_syntax.specs.RuleLaws.{ReadRuns}
use Rattle.ig_notation_syntax.specs.Machine as own_machine
use Rattle.ig_notation_terms.specs.declared.fault.RuleFault.{RuleFault}
use Rattle.ig_notation_terms.specs.declared.fault.RuleFault.TheVariants.{Unexpected, Memory}
use Rattle.ig_notation_syntax.specs.declared.token.Placed.{Placed as OwnPlaced}
use Rattle.ig_notation_terms.specs.Limits.{IsShallow, byte_of, meanings as own_meanings}
use Rattle.ig_notation.specs.Outcome.{fault_of}
use Rattle.ig_notation.specs.Parts.{FailsAt}
use Rattle.ig_notation.specs.declared.fault.ReadFault.{ReadFault}
use Rattle.ig_notation.specs.declared.fault.ReadFault.TheVariants as faults
use Rattle.ig_notation.specs.declared.fault.Large.TheVariants as large
use Rattle.ig_w3c_syntax.specs.Token.{Token}
use Rattle.ig_w3c_syntax.specs.Spelling.{StandsFirst, IsSeparator}
use Rattle.ig_w3c_syntax.specs.View.{token_of, tokens_of, meanings}
use Rattle.ig_w3c_syntax.specs.Faults.{IsFault}
use Rattle.ig_w3c_syntax.specs.declared.token.Placed.{Placed}
use Rattle.ig_w3c_syntax.specs.Rules.{KeepsRules}
use Rattle.ig_w3c_syntax.specs.Reading.{in_own_notation}
use Rattle.ig_w3c_syntax.specs.RuleLaws.{AreOfGrammar, RunStops, RunKeeps, KeptRulesRead}
use Rattle.ig_w3c_syntax.specs.Machine.{stop_of}
use Rattle.ig_w3c.specs.Steps.{IsMemory}
use Rattle.ig_w3c.specs.Outcome.{unplaced, HasTokens, IsRead, IsReadFault, no_token, deep, against_rules, no_memory}

pub same_tokens : (placed : List Placed) → meanings placed ≡ unplaced (tokens_of placed)
same_tokens [] = refl
same_tokens (p ∷ placed) = ap (λ z. token_of p.token ∷ z) (same_tokens placed)

-- a text that is not too long
pub short_enough : (b : Bool) (most n : ℕ) → (IsTrue b ↔ (most < n)) → b ≡ false → n ≤ most
short_enough b most n h e = let f = not_from_Decides b h e in omega arith

pub token_fault : (source : List ℕ) (fault : TokenFault) → length source ≤ most_bytes → IsFault (chars source) fault → IsReadFault source (fault_of fault)
token_fault source (Broken at) l h = no_token at l h
token_fault source OutOfMemory l h = no_memory

pub exits_with : {X : Type 0} (source : List ℕ) (r : Result X ReadFault) (fault : TokenFault) → IsErrAnd r (λ y. y ≡ fault_of fault) →
    IsReadFault source (fault_of fault) → IfErr r (IsReadFault source)
exits_with source (Ok x) fault h f = tt
exits_with source (Err y) fault h f = subst (IsReadFault source) (sym h) f

pub has_tokens : (source : List ℕ) (items placed : List Placed) → length source ≤ most_bytes →
    Lexes StandsFirst IsSeparator 0 (chars source) (tokens_of items) → placed ≡ items → HasTokens source (tokens_of placed)
has_tokens source items placed l h e =
    record { bytes = l; lexed = subst (λ z. Lexes StandsFirst IsSeparator 0 (chars source) (tokens_of z)) (sym e) h }

pub nesting_fault : (source : List ℕ) (placed : List Placed) → HasTokens source (tokens_of placed) →
    (IsShallow (in_own_notation (meanings placed)) → ⊥) → IsReadFault source (faults.TooLarge large.Nesting)
nesting_fault source placed h f =
    deep (tokens_of placed) h (subst (λ z. IsShallow (in_own_notation z) → ⊥) (same_tokens placed) f)

pub rule_fault : (source : List ℕ) (placed : List Placed) (n at : ℕ) → HasTokens source (tokens_of placed) →
    IsShallow (in_own_notation (meanings placed)) → RunStops → stop_of (meanings placed) ≡ Some n →
    at ≡ byte_of (length source) (tokens_of placed) n → IsReadFault source (faults.Syntax at)
rule_fault source placed n at h shallow law r e =
    against_rules (tokens_of placed) n at h (subst (λ z. IsShallow (in_own_notation z)) (same_tokens placed) shallow)
    (subst (λ z. Stops AreOfGrammar z n) (same_tokens placed) (law (meanings placed) n r)) e

pub is_read : (source : List ℕ) (placed : List Placed) (g : Grammar) → HasTokens source (tokens_of placed) →
    IsShallow (in_own_notation (meanings placed)) → RunKeeps → stop_of (meanings placed) ≡ None →
    FollowsRules (in_own_notation (meanings placed)) g → IsRead source g
is_read source placed g h shallow law r f = record {
  tokens = tokens_of placed;
  are_tokens = h;
  shallow = subst (λ z. IsShallow (in_own_notation z)) (same_tokens placed) shallow;
  reads = record {
    keeps = subst KeepsRules (same_tokens placed) (law (meanings placed) r);
    reading = subst (λ z. FollowsRules (in_own_notation z) g) (same_tokens placed) f;
  };
}

-- tokens that keep the rules are no fault of the reader of the own notation
never_unexpected : (tokens : List Token) (n : ℕ) → KeptRulesRead → ReadRuns → KeepsRules tokens →
    FailsAt own_machine.grammar (in_own_notation tokens) 0 (Unexpected n) → ⊥
never_unexpected tokens n kept runs keeps e =
    let k = kept tokens keeps in
    let r = runs (in_own_notation tokens) k.0 k.1.reading in cc

pub memory_only : (tokens : List Token) (fault : RuleFault) → KeptRulesRead → ReadRuns → RunKeeps → stop_of tokens ≡ None →
    FailsAt own_machine.grammar (in_own_notation tokens) 0 fault → IsMemory fault
memory_only tokens (Unexpected n) kept runs keeps s e = never_unexpected tokens n kept runs (keeps tokens s) e
memory_only tokens Memory kept runs keeps s e = tt

-- the tokens in the own notation, as they are lent
pub lent : (slice items : List OwnPlaced) (tokens : List Token) → slice ≡ items → own_meanings items ≡ in_own_notation tokens →
    own_meanings slice ≡ in_own_notation tokens
lent slice items tokens e f = ap own_meanings e ∙ f

-- the byte of a token
pub byte_there : (end : ℕ) (placed : List Placed) (i : ℕ) (p : Placed) → i < length placed → ((d : Placed) → p ≡ get_or placed i d) →
    p.at ≡ byte_of end (tokens_of placed) i
byte_there end [] i p l e = absurd (omega arith)
byte_there end (q ∷ qs) zero p l e = ap (λ z. z.at) (e q)
byte_there end (q ∷ qs) (suc i) p l e = byte_there end qs i p (omega arith) e

pub byte_past : (end : ℕ) (placed : List Placed) (i : ℕ) → length placed ≤ i → end ≡ byte_of end (tokens_of placed) i
byte_past end [] i l = refl
byte_past end (q ∷ qs) zero l = absurd (omega arith)
byte_past end (q ∷ qs) (suc i) l = byte_past end qs i (omega arith)

pub out_of_memory : {X : Type 0} (source : List ℕ) (r : Result X ReadFault) → IsErrAnd r (λ y. y ≡ faults.Memory) → IfErr r (IsReadFault source)
out_of_memory source (Ok x) h = tt
out_of_memory source (Err y) h = subst (IsReadFault source) (sym h) no_memory
