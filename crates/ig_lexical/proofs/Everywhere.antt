-- A fact of each symbol in a symbol, over the list of them and by form; and in the rewritten symbol.
use Rattle.std.proofs.Common.{List, [], ◌∷◌, ◌++◌, sym, subst}
use Rattle.std.specs.Prelude.{All, Contains}
use Rattle.std.proofs.lemmas.List.Elements.{All-nil, All-cons, All-head, All-tail, All-append}
use Rattle.ig_text.proofs.Lists.{contains_from_at, at_from_contains, from_map, halves}
use Rattle.ig_grammar.specs.Symbol.{Symbol, Literal, OneOf, Call, Label, Guard, Let, Opt, Star, Plus, SepStar, SepPlus, Group, Offside, Ignore, Align, Filtered, Seq, Entry}
use Rattle.ig_grammar.specs.Symbol.{Symbols, no_symbols, next_symbol, Alternatives, no_alternatives, next_alternative}
use Rattle.ig_grammar.specs.Alternative.{gathered_alternatives}
use Rattle.ig_grammar.specs.Regular.{OfEachLevel}
use Rattle.ig_grammar.specs.Subterms.{subterms, subterms_of_symbols, subterms_of_alternatives}
use Rattle.ig_grammar.specs.declared.declaration.DeclKind.{DeclKind}
use Rattle.ig_grammar.specs.declared.declaration.Level.{Level}
use Rattle.ig_grammar.specs.declared.declaration.Decl.{Decl}
use Rattle.ig_grammar.specs.declared.grammar.Grammar.{Grammar}
use Rattle.ig_pass.specs.Rewriting.{within, rewritten_symbols, rewritten_choices, rewritten_level}
use Rattle.ig_pass.specs.Gathered.{choices_gathered}
use Rattle.ig_lexical.proofs.RewrittenScoped.{turned, turned_grammar}
use Rattle.ig_lexical.proofs.Traversal.{Throughout, ThroughoutSymbols, ThroughoutChoices}

module _ (N : Symbol → Type 0) where
  mutual
    throughout : (x : Symbol) → All N (subterms x) → Throughout N x
    throughout (Literal word) a = All-head N (Literal word) [] a
    throughout (OneOf class) a = All-head N (OneOf class) [] a
    throughout (Call name es) a = All-head N (Call name es) [] a
    throughout (Guard e) a = All-head N (Guard e) [] a
    throughout (Let name e) a = All-head N (Let name e) [] a
    throughout (Label name x) a = (All-head N (Label name x) (subterms x) a, throughout x (All-tail N (Label name x) (subterms x) a))
    throughout (Opt x) a = (All-head N (Opt x) (subterms x) a, throughout x (All-tail N (Opt x) (subterms x) a))
    throughout (Star x) a = (All-head N (Star x) (subterms x) a, throughout x (All-tail N (Star x) (subterms x) a))
    throughout (Plus x) a = (All-head N (Plus x) (subterms x) a, throughout x (All-tail N (Plus x) (subterms x) a))
    throughout (SepStar x s) a =
        let b = halves N (subterms x) (subterms s) (All-tail N (SepStar x s) (subterms x ++ subterms s) a) in
        (All-head N (SepStar x s) (subterms x ++ subterms s) a, throughout x b.0, throughout s b.1)
    throughout (SepPlus x s) a =
        let b = halves N (subterms x) (subterms s) (All-tail N (SepPlus x s) (subterms x ++ subterms s) a) in
        (All-head N (SepPlus x s) (subterms x ++ subterms s) a, throughout x b.0, throughout s b.1)
    throughout (Group xs) a =
        (All-head N (Group xs) (subterms_of_alternatives xs) a, throughout_choices xs (All-tail N (Group xs) (subterms_of_alternatives xs) a))
    throughout (Offside x) a = (All-head N (Offside x) (subterms x) a, throughout x (All-tail N (Offside x) (subterms x) a))
    throughout (Ignore x) a = (All-head N (Ignore x) (subterms x) a, throughout x (All-tail N (Ignore x) (subterms x) a))
    throughout (Align x) a = (All-head N (Align x) (subterms x) a, throughout x (All-tail N (Align x) (subterms x) a))
    throughout (Filtered x fs) a = (All-head N (Filtered x fs) (subterms x) a, throughout x (All-tail N (Filtered x fs) (subterms x) a))
    throughout (Seq xs) a = (All-head N (Seq xs) (subterms_of_symbols xs) a, throughout_symbols xs (All-tail N (Seq xs) (subterms_of_symbols xs) a))
    throughout (Entry bs x) a = (All-head N (Entry bs x) (subterms x) a, throughout x (All-tail N (Entry bs x) (subterms x) a))

    throughout_symbols : (xs : Symbols) → All N (subterms_of_symbols xs) → ThroughoutSymbols N xs
    throughout_symbols no_symbols a = tt
    throughout_symbols (next_symbol x xs) a = let b = halves N (subterms x) (subterms_of_symbols xs) a in (throughout x b.0, throughout_symbols xs b.1)

    pub throughout_choices : (xs : Alternatives) → All N (subterms_of_alternatives xs) → ThroughoutChoices N xs
    throughout_choices no_alternatives a = tt
    throughout_choices (next_alternative xs others) a =
        let b = halves N (subterms_of_symbols xs) (subterms_of_alternatives others) a in (throughout_symbols xs b.0, throughout_choices others b.1)

  both : (z x s : Symbol) → N z → All N (subterms x) → All N (subterms s) → All N (z ∷ subterms x ++ subterms s)
  both z x s n a b = All-cons N z (subterms x ++ subterms s) n (All-append N (subterms x) (subterms s) a b)

  mutual
    of_throughout : (x : Symbol) → Throughout N x → All N (subterms x)
    of_throughout (Literal word) q = All-cons N (Literal word) [] q (All-nil N)
    of_throughout (OneOf class) q = All-cons N (OneOf class) [] q (All-nil N)
    of_throughout (Call name es) q = All-cons N (Call name es) [] q (All-nil N)
    of_throughout (Guard e) q = All-cons N (Guard e) [] q (All-nil N)
    of_throughout (Let name e) q = All-cons N (Let name e) [] q (All-nil N)
    of_throughout (Label name x) q = All-cons N (Label name x) (subterms x) q.0 (of_throughout x q.1)
    of_throughout (Opt x) q = All-cons N (Opt x) (subterms x) q.0 (of_throughout x q.1)
    of_throughout (Star x) q = All-cons N (Star x) (subterms x) q.0 (of_throughout x q.1)
    of_throughout (Plus x) q = All-cons N (Plus x) (subterms x) q.0 (of_throughout x q.1)
    of_throughout (SepStar x s) q = both (SepStar x s) x s q.0 (of_throughout x q.1) (of_throughout s q.2)
    of_throughout (SepPlus x s) q = both (SepPlus x s) x s q.0 (of_throughout x q.1) (of_throughout s q.2)
    of_throughout (Group xs) q = All-cons N (Group xs) (subterms_of_alternatives xs) q.0 (of_throughout_choices xs q.1)
    of_throughout (Offside x) q = All-cons N (Offside x) (subterms x) q.0 (of_throughout x q.1)
    of_throughout (Ignore x) q = All-cons N (Ignore x) (subterms x) q.0 (of_throughout x q.1)
    of_throughout (Align x) q = All-cons N (Align x) (subterms x) q.0 (of_throughout x q.1)
    of_throughout (Filtered x fs) q = All-cons N (Filtered x fs) (subterms x) q.0 (of_throughout x q.1)
    of_throughout (Seq xs) q = All-cons N (Seq xs) (subterms_of_symbols xs) q.0 (of_throughout_symbols xs q.1)
    of_throughout (Entry bs x) q = All-cons N (Entry bs x) (subterms x) q.0 (of_throughout x q.1)

    of_throughout_symbols : (xs : Symbols) → ThroughoutSymbols N xs → All N (subterms_of_symbols xs)
    of_throughout_symbols no_symbols q = All-nil N
    of_throughout_symbols (next_symbol x xs) q = All-append N (subterms x) (subterms_of_symbols xs) (of_throughout x q.0) (of_throughout_symbols xs q.1)

    pub of_throughout_choices : (xs : Alternatives) → ThroughoutChoices N xs → All N (subterms_of_alternatives xs)
    of_throughout_choices no_alternatives q = All-nil N
    of_throughout_choices (next_alternative xs others) q =
        All-append N (subterms_of_symbols xs) (subterms_of_alternatives others) (of_throughout_symbols xs q.0) (of_throughout_choices others q.1)

-- a fact that the parts keep, and the pass's own rule
module _ (own : Symbol → Symbol) (N M : Symbol → Type 0) (head : (x : Symbol) → Throughout N x → M (within own x))
    (mine : (x : Symbol) → Throughout M x → Throughout M (own x)) where
  mutual
    within_throughout : (x : Symbol) → Throughout N x → Throughout M (within own x)
    within_throughout (Literal word) q = head (Literal word) q
    within_throughout (OneOf class) q = head (OneOf class) q
    within_throughout (Call name es) q = head (Call name es) q
    within_throughout (Guard e) q = head (Guard e) q
    within_throughout (Let name e) q = head (Let name e) q
    within_throughout (Label name x) q = (head (Label name x) q, within_throughout x q.1)
    within_throughout (Opt x) q = (head (Opt x) q, mine (within own x) (within_throughout x q.1))
    within_throughout (Star x) q = (head (Star x) q, mine (within own x) (within_throughout x q.1))
    within_throughout (Plus x) q = (head (Plus x) q, mine (within own x) (within_throughout x q.1))
    within_throughout (SepStar x s) q =
        (head (SepStar x s) q, mine (within own x) (within_throughout x q.1), mine (within own s) (within_throughout s q.2))
    within_throughout (SepPlus x s) q =
        (head (SepPlus x s) q, mine (within own x) (within_throughout x q.1), mine (within own s) (within_throughout s q.2))
    within_throughout (Group xs) q = (head (Group xs) q, choices_throughout xs q.1)
    within_throughout (Offside x) q = (head (Offside x) q, within_throughout x q.1)
    within_throughout (Ignore x) q = (head (Ignore x) q, within_throughout x q.1)
    within_throughout (Align x) q = (head (Align x) q, within_throughout x q.1)
    within_throughout (Filtered x fs) q = (head (Filtered x fs) q, within_throughout x q.1)
    within_throughout (Seq xs) q = (head (Seq xs) q, symbols_throughout xs q.1)
    within_throughout (Entry bs x) q = (head (Entry bs x) q, within_throughout x q.1)

    symbols_throughout : (xs : Symbols) → ThroughoutSymbols N xs → ThroughoutSymbols M (rewritten_symbols own xs)
    symbols_throughout no_symbols q = tt
    symbols_throughout (next_symbol x xs) q = (mine (within own x) (within_throughout x q.0), symbols_throughout xs q.1)

    choices_throughout : (xs : Alternatives) → ThroughoutChoices N xs → ThroughoutChoices M (rewritten_choices own xs)
    choices_throughout no_alternatives q = tt
    choices_throughout (next_alternative xs others) q = (symbols_throughout xs q.0, choices_throughout others q.1)

  pub choices_kept : (xs : Alternatives) → All N (subterms_of_alternatives xs) → All M (subterms_of_alternatives (rewritten_choices own xs))
  choices_kept xs a = of_throughout_choices M (rewritten_choices own xs) (choices_throughout xs (throughout_choices N xs a))

-- over the levels of a grammar
module _ (becomes : DeclKind → DeclKind) (own : Decl → Symbol → Symbol) (g : Grammar) where
  pub each_level : (P Q : Alternatives → Type 0) → ((decl : Decl) (xs : Alternatives) → P xs → Q (rewritten_choices (own decl) xs)) →
      OfEachLevel P g → OfEachLevel Q (turned_grammar becomes own g)
  each_level P Q f all decl level m l =
      let d = at_from_contains (turned_grammar becomes own g).decls decl m in
      let r = from_map (turned becomes own) g.decls d.0 decl d.1 in
      let k = at_from_contains (turned becomes own r.0).levels level (subst (λ (z : Decl). Contains z.levels level) r.2 l) in
      let s = from_map (rewritten_level (own r.0)) r.0.levels k.0 level k.1 in
      subst (λ (z : Level). Q (gathered_alternatives z.alts)) (sym s.2)
      (subst Q (sym (choices_gathered (own r.0) s.0.alts))
      (f r.0 (gathered_alternatives s.0.alts) (all r.0 s.0 (contains_from_at g.decls d.0 r.0 r.1) (contains_from_at r.0.levels k.0 s.0 s.1))))
