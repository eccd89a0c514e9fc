-- Where no mark is in an alternative, none stands at a symbol of it.
use Rattle.std.proofs.Common.{ℕ}
use Rattle.std.specs.Prelude.{Contains}
use Rattle.ig_grammar.specs.Symbol.{Symbol, Literal, OneOf, Call, Label, Guard, Let, Opt, Star, Plus, SepStar, SepPlus, Group, Offside, Ignore, Align, Filtered, Seq, Entry}
use Rattle.ig_grammar.specs.Symbol.{Symbols, no_symbols, next_symbol, Alternatives, no_alternatives, next_alternative, gathered}
use Rattle.ig_grammar.specs.ByForm.{own_part, inner_parts, symbols_hold, alternatives_hold}
use Rattle.ig_grammar.specs.Regular.{IsNoMark, AlternativesHaveNoMark, OfEachLevel}
use Rattle.ig_grammar.specs.Standing.{HasNoMark, SymbolsHaveNoMark}
use Rattle.ig_grammar.specs.Numbering.{Levelled, IsAlternative, alternatives}
use Rattle.ig_grammar.specs.declared.declaration.Decl.{Decl}
use Rattle.ig_grammar.specs.declared.grammar.Grammar.{Grammar}
use Rattle.ig_lexical.proofs.Traversal.{Throughout, ThroughoutSymbols, ThroughoutChoices, Admits}
use Rattle.ig_text.proofs.Lists.{contains_from_at}
use Rattle.ig_pass.specs.EachLevel.{in_alternative, alternative_at}

pub admits : Admits IsNoMark (⊥) (λ bs. Unit {0})
admits = record { offside = λ x q. q; ignore = λ x q. q; align = λ x q. q; entry = λ bs x q. tt }

mutual
  pub unmarked : (x : Symbol) → HasNoMark x → Throughout IsNoMark x
  unmarked (Literal word) q = tt
  unmarked (OneOf class) q = tt
  unmarked (Call name arguments) q = tt
  unmarked (Guard e) q = tt
  unmarked (Let name e) q = tt
  unmarked (Label name x) q = (tt, unmarked x (inner_parts IsNoMark (Label name x) q))
  unmarked (Opt x) q = (tt, unmarked x (inner_parts IsNoMark (Opt x) q))
  unmarked (Star x) q = (tt, unmarked x (inner_parts IsNoMark (Star x) q))
  unmarked (Plus x) q = (tt, unmarked x (inner_parts IsNoMark (Plus x) q))
  unmarked (Filtered x fs) q = (tt, unmarked x (inner_parts IsNoMark (Filtered x fs) q))
  unmarked (Entry bs x) q = (tt, unmarked x (inner_parts IsNoMark (Entry bs x) q))
  unmarked (SepStar x s) q = let r = inner_parts IsNoMark (SepStar x s) q in (tt, unmarked x r.0, unmarked s r.1)
  unmarked (SepPlus x s) q = let r = inner_parts IsNoMark (SepPlus x s) q in (tt, unmarked x r.0, unmarked s r.1)
  unmarked (Group xs) q = (tt, unmarked_choices xs (inner_parts IsNoMark (Group xs) q))
  unmarked (Seq xs) q = (tt, unmarked_symbols xs (inner_parts IsNoMark (Seq xs) q))
  unmarked (Offside x) q = absurd (own_part IsNoMark (Offside x) q)
  unmarked (Ignore x) q = absurd (own_part IsNoMark (Ignore x) q)
  unmarked (Align x) q = absurd (own_part IsNoMark (Align x) q)

  pub unmarked_symbols : (xs : Symbols) → SymbolsHaveNoMark xs → ThroughoutSymbols IsNoMark xs
  unmarked_symbols no_symbols q = tt
  unmarked_symbols (next_symbol x xs) q = let r = symbols_hold IsNoMark (next_symbol x xs) q in (unmarked x r.0, unmarked_symbols xs r.1)

  pub unmarked_choices : (xs : Alternatives) → AlternativesHaveNoMark xs → ThroughoutChoices IsNoMark xs
  unmarked_choices no_alternatives q = tt
  unmarked_choices (next_alternative xs others) q =
      let r = alternatives_hold IsNoMark (next_alternative xs others) q in (unmarked_symbols xs r.0, unmarked_choices others r.1)

pub everywhere : (g : Grammar) → OfEachLevel AlternativesHaveNoMark g → (decl : Decl) (k : ℕ) (a : Levelled) → Contains g.decls decl → IsAlternative decl k a →
    ThroughoutSymbols IsNoMark (gathered a.alternative.symbols)
everywhere g none decl k a m numbered =
    unmarked_symbols (gathered a.alternative.symbols)
    (in_alternative IsNoMark g none decl a.alternative m
    (contains_from_at (alternatives decl.levels) numbered.0 a.alternative (alternative_at decl.levels numbered.0 a numbered.2)))
