-- The machine, begun at the grammar: it stops where the tokens stop following the rules.
use Rattle.std.proofs.Common.{◌≡◌, ℕ, ◌+◌, List, [], ◌∷◌, ◌++◌, length, refl, sym, ap, subst, ◌∙◌, true, false, arith, inl, inr}
use Rattle.std.specs.Prelude.{ℤ, pos, Option, Some, None, ◌⊎◌}
use Rattle.std.proofs.lemmas.List.{append_assoc}
use Rattle.ig_notation_syntax.specs.Token.{Token}
use Rattle.ig_notation_syntax.specs.Rules as rule
use Rattle.ig_notation_syntax.specs.Rules.{ReadsDeclarations, ReadsBody, FollowsRules}
use Rattle.ig_notation_syntax.specs.Stops.{Stops}
use Rattle.ig_grammar.specs.declared.declaration.Decl.{Decl}
use Rattle.ig_grammar.specs.declared.grammar.Grammar.{Grammar}
use Rattle.ig_notation_syntax.specs.Machine.{Want, grammar, body, declarations, all_may_lack, step, run}
use Rattle.ig_notation_syntax.specs.RuleLaws.{AreOfGrammar}
use Rattle.ig_notation_syntax.proofs.Spans.{Spans, Chain, done, link}
use Rattle.ig_notation_syntax.proofs.Spans as span
use Rattle.ig_notation_syntax.proofs.Clear.{Good}
use Rattle.ig_notation_syntax.proofs.Running.{Taken, step_forth, lacking, runs_through, Halts, halts, completion}

-- what the want of a grammar permits up to the end follows the rules, and the other way round
none_declared : (r : List Token) → r ≡ [] → (ds : List Decl) × ReadsDeclarations r ds
none_declared r e = ([], subst (λ z. ReadsDeclarations z []) (sym e) rule.no_declaration)

declarations_of : {s r : List Token} → Spans declarations s r → r ≡ [] → (ds : List Decl) × ReadsDeclarations s ds
declarations_of (span.no_declaration r) e = none_declared r e
declarations_of (span.further_declaration s m r d f rest) e =
    let ds : (ds : List Decl) × ReadsDeclarations m ds = declarations_of rest e in
    (d ∷ ds.0, rule.further_declaration s m d ds.0 f ds.1)

declarations_span : {s : List Token} {ds : List Decl} → ReadsDeclarations s ds → Spans declarations s []
declarations_span rule.no_declaration = span.no_declaration []
declarations_span (rule.further_declaration s m d ds f rest) = span.further_declaration s m [] d f (declarations_span rest)

body_of : {s r : List Token} → Spans body s r → r ≡ [] → (tabs : Option ℤ) × (ds : List Decl) × ReadsBody s tabs ds
body_of (span.with_tabs n s r a) e =
    let ds : (ds : List Decl) × ReadsDeclarations s ds = declarations_of a e in (Some (pos n), ds.0, rule.with_tabs n s ds.0 ds.1)
body_of (span.without_tabs s r a) e =
    let ds : (ds : List Decl) × ReadsDeclarations s ds = declarations_of a e in (None, ds.0, rule.without_tabs s ds.0 ds.1)

body_span : {s : List Token} {tabs : Option ℤ} {ds : List Decl} → ReadsBody s tabs ds → Spans body s []
body_span (rule.with_tabs n s ds d) = span.with_tabs n s [] (declarations_span d)
body_span (rule.without_tabs s ds d) = span.without_tabs s [] (declarations_span d)

grammar_of_span : {s r : List Token} → Spans grammar s r → r ≡ [] → AreOfGrammar s
grammar_of_span (span.with_start x s r a) e = let b = body_of a e in (_, rule.with_start x s b.0 b.1 b.2)
grammar_of_span (span.without_start s r a) e = let b = body_of a e in (_, rule.without_start s b.0 b.1 b.2)

grammar_of : {s r : List Token} → Chain (grammar ∷ []) s r → r ≡ [] → AreOfGrammar s
grammar_of (link a (done r)) e = grammar_of_span a e

grammar_span : {s : List Token} {g : Grammar} → FollowsRules s g → Spans grammar s []
grammar_span (rule.with_start x s tabs ds d) = span.with_start x s [] (body_span d)
grammar_span (rule.without_start s tabs ds d) = span.without_start s [] (body_span d)

grammar_chain : {s : List Token} {g : Grammar} → FollowsRules s g → Chain (grammar ∷ []) s []
grammar_chain f = link (grammar_span f) (done [])

start_good : Good (grammar ∷ [])
start_good = (λ t b. refl, tt)

pub read_runs : (tokens : List Token) (g : Grammar) → FollowsRules tokens g → run 0 (grammar ∷ []) tokens ≡ None
read_runs tokens g f = runs_through tokens (grammar ∷ []) 0 start_good (grammar_chain f)

-- the stack where the machine stops doesn't permit what is left
not_left : (k : List Want) (left : List Token) → Good k → ((t : Token) (others : List Token) → left ≡ t ∷ others → step k t ≡ None) →
    (left ≡ [] → all_may_lack k ≡ false) → Chain k left [] → ⊥
not_left k [] g stuck wanting c = let f : all_may_lack k ≡ true = lacking c refl in let w : all_may_lack k ≡ false = wanting refl in absurd (cc)
not_left k (t ∷ others) g stuck wanting c =
    let i : Taken k t others [] = step_forth k t others g c in
    let s : step k t ≡ Some i.next = i.steps in
    let n : step k t ≡ None = stuck t others refl in
    absurd (cc)

stops_by : (tokens : List Token) (k : ℕ) → Halts (grammar ∷ []) 0 tokens k → Stops AreOfGrammar tokens k
stops_by tokens k h =
    let n : k ≡ 0 + length h.taken = h.counted in
    record {
      taken = h.taken;
      left = h.left;
      parts = h.parts;
      counted = omega (arith, n);
      before = ((completion h.stack).0, grammar_of (h.back (completion h.stack).0 (completion h.stack).1) refl);
      not_with = λ t others more e f.
          let i : Taken h.stack t more [] = step_forth h.stack t more h.good (h.forth (t ∷ more) (grammar_chain f.1)) in
          let s : step h.stack t ≡ Some i.next = i.steps in
          let n : step h.stack t ≡ None = h.stuck t others e in
          absurd (cc);
      not_all = λ f. not_left h.stack h.left h.good h.stuck h.wanting
          (h.forth h.left (subst (λ z. Chain (grammar ∷ []) z []) h.parts (grammar_chain f.1)));
    }

pub run_stops : (tokens : List Token) (k : ℕ) → run 0 (grammar ∷ []) tokens ≡ Some k → Stops AreOfGrammar tokens k
run_stops tokens k e = stops_by tokens k (halts tokens (grammar ∷ []) 0 k start_good e)

-- of two ways to part a list the second front goes on behind the first
record GoesOn (a b c d : List Token) : Type 0 where
  pub token : Token
  pub others : List Token
  pub whole : c ≡ a ++ token ∷ others
  pub rest : b ≡ token ∷ (others ++ d)

further : (t u : Token) (a b c d : List Token) → t ≡ u → GoesOn a b c d → GoesOn (t ∷ a) b (u ∷ c) d
further t u a b c d e g =
    record { token = g.token; others = g.others; whole = λ i. sym e i ∷ g.whole i; rest = g.rest }

parted : (a b c d : List Token) → a ++ b ≡ c ++ d → (a ≡ c) ⊎ (GoesOn a b c d ⊎ GoesOn c d a b)
parted [] b [] d e = inl refl
parted [] b (u ∷ c) d e = inr (inl (record { token = u; others = c; whole = refl; rest = e }))
parted (t ∷ a) b [] d e = inr (inr (record { token = t; others = a; whole = refl; rest = sym e }))
parted (t ∷ a) b (u ∷ c) d e =
    let same : t ≡ u = cc in
    let rest : a ++ b ≡ c ++ d = cc in
    elim (parted a b c d rest) [
      | inl f ↦ inl (λ i. same i ∷ f i)
      | inr (inl g) ↦ inr (inl (further t u a b c d same g))
      | inr (inr g) ↦ inr (inr (further u t c d a b (sym same) g))
    ]

not_later : (tokens : List Token) (k l : ℕ) (p : Stops AreOfGrammar tokens k) (q : Stops AreOfGrammar tokens l) →
    GoesOn p.taken p.left q.taken q.left → ⊥
not_later tokens k l p q g =
    let whole : q.taken ++ q.before.0 ≡ p.taken ++ g.token ∷ (g.others ++ q.before.0) =
    ap (λ z. z ++ q.before.0) g.whole ∙ append_assoc p.taken (g.token ∷ g.others) q.before.0 in
    p.not_with g.token (g.others ++ q.left) (g.others ++ q.before.0) g.rest (subst AreOfGrammar whole q.before.1)

pub stops_once : (tokens : List Token) (k l : ℕ) → Stops AreOfGrammar tokens k → Stops AreOfGrammar tokens l → k ≡ l
stops_once tokens k l p q =
    elim (parted p.taken p.left q.taken q.left (sym p.parts ∙ q.parts)) [
      | inl e ↦ p.counted ∙ ap length e ∙ sym q.counted
      | inr (inl g) ↦ absurd (not_later tokens k l p q g)
      | inr (inr g) ↦ absurd (not_later tokens l k q p g)
    ]
