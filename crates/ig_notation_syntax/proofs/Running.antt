-- The machine and what a stack permits: it takes what the stack permits, and stops where nothing that the stack permits
-- goes on.
use Rattle.std.proofs.Common.{◌≡◌, ℕ, suc, ◌+◌, List, [], ◌∷◌, ◌++◌, length, refl, ap, subst, Bool, true, false, arith}
use Rattle.std.specs.Prelude.{Option, Some, None, ◌&&◌, if◌then◌else◌, codes}
use Rattle.ig_notation_syntax.specs.Token.{Token, Number, Name, Literal, Semicolon, Equals, Colon, Comma, Open, Close, CloseBrace, Star, Syntax, Here, Int}
use Rattle.ig_expr.specs.declared.kind.Kind.TheVariants as kinds
use Rattle.ig_text.specs.declared.pattern.Pattern.TheVariants as patterns
use Rattle.ig_grammar.specs.Symbol as tree
use Rattle.ig_grammar.specs.Symbol.{Symbol}
use Rattle.ig_grammar.specs.declared.declaration.Assoc.TheVariants as assoc
use Rattle.ig_grammar.specs.declared.declaration.DeclKind.TheVariants as decls
use Rattle.ig_notation_syntax.specs.Rules as rule
use Rattle.ig_notation_syntax.specs.Rules.{ReadsAtom, ReadsPost, ReadsMarked, ReadsTerm}
use Rattle.ig_notation_syntax.specs.Machine.{Want, declaration, parameter, symbol, marked, post, atom, expression, term}
use Rattle.ig_notation_syntax.specs.Machine.{heading, kind, pattern, list_sign}
use Rattle.ig_notation_syntax.specs.Machine.{name, numeral, literal, semicolon, equals, colon, comma, open_bracket, close_bracket, close_brace}
use Rattle.ig_notation_syntax.specs.Machine.{may_lack, all_may_lack, after, chosen, step, go, run}
use Rattle.ig_notation_syntax.proofs.Spans.{Spans, Chain, done, link, chain_join, OnRow, Permits}
use Rattle.ig_notation_syntax.proofs.Spans as span
use Rattle.ig_notation_syntax.proofs.BackDeclarations.{lacks, step_back}
use Rattle.ig_notation_syntax.proofs.Begins.{Begins, takes, passed, begins}
use Rattle.ig_notation_syntax.proofs.Clear.{Clear, Good, step_good, barred}

-- the machine takes a token that the stack permits, and goes on with what is left
pub record Taken (k : List Want) (t : Token) (s r : List Token) : Type 0 where
  pub next : List Want
  pub steps : step k t ≡ Some next
  pub rest : Chain next s r

chosen_row : (o : Option (List Want)) (b : Bool) (k row : List Want) (past : Option (List Want)) → o ≡ Some row →
    chosen o b k past ≡ Some (row ++ k)
chosen_row o b k row past e = rw e refl

chosen_past : (o : Option (List Want)) (b : Bool) (k j : List Want) (past : Option (List Want)) →
    ((row : List Want) → o ≡ Some row → past ≡ None) → b ≡ true → past ≡ Some j → chosen o b k past ≡ Some j
chosen_past (Some row) b k j past h e f = let n : past ≡ None = h row refl in absurd (cc)
chosen_past None true k j past h e f = f
chosen_past None false k j past h e f = absurd (cc)

first_taken : (x : Want) (k : List Want) (t : Token) (u s m r : List Token) → Clear x k → Begins x s m → Chain k m r → s ≡ t ∷ u →
    (m ≡ t ∷ u → Taken k t u r) → Taken (x ∷ k) t u r
first_taken x k t u s m r clear (takes v n q row e c) d h f =
    let same : v ≡ t = cc in
    let rest : n ≡ u = cc in
    record {
      next = row ++ k;
      steps = chosen_row (after x t) (may_lack x) k row (step k t) (subst (λ z. after x z ≡ Some row) same e);
      rest = subst (λ z. Chain (row ++ k) z r) rest (chain_join c d);
    }
first_taken x k t u s m r clear (passed q e) d h f =
    let i : Taken k t u r = f h in
    record {
      next = i.next;
      steps = chosen_past (after x t) (may_lack x) k i.next (step k t) (λ row w. clear t (barred x e t row w)) e i.steps;
      rest = i.rest;
    }

takes_next : {k : List Want} {s r : List Token} → Good k → Chain k s r → (t : Token) (u : List Token) → s ≡ t ∷ u → r ≡ [] → Taken k t u r
takes_next g (done r) t u h e = absurd (cc)
takes_next g (link {x = x} {k = k} {s = s} {m = m} {r = r} first others) t u h e =
    first_taken x k t u s m r g.0 (begins first) others h (λ i. takes_next g.1 others t u i e)

pub step_forth : (k : List Want) (t : Token) (u : List Token) → Good k → Chain k (t ∷ u) [] → Taken k t u []
step_forth k t u g c = takes_next g c t u refl refl

-- where no token is left, all may lack
first_lacks : (x : Want) (k : List Want) (s m : List Token) → Begins x s m → s ≡ [] → (m ≡ [] → all_may_lack k ≡ true) →
    (may_lack x && all_may_lack k) ≡ true
first_lacks x k s m (takes t n q row e c) h f = absurd (cc)
first_lacks x k s m (passed q e) h f = rw (e, f h) refl

pub lacking : {k : List Want} {s r : List Token} → Chain k s r → s ≡ [] → all_may_lack k ≡ true
lacking (done r) h = refl
lacking (link {x = x} {k = k} {s = s} {m = m} first others) h = first_lacks x k s m (begins first) h (λ e. lacking others e)

-- the machine takes all that the stack permits
go_on : (n : ℕ) (on : List Want → Option ℕ) (o : Option (List Want)) (j : List Want) → o ≡ Some j → on j ≡ None → go n on o ≡ None
go_on n on o j e h = rw e h

pub runs_through : (tokens : List Token) (k : List Want) (n : ℕ) → Good k → Chain k tokens [] → run n k tokens ≡ None
runs_through [] k n g c = rw (lacking c refl) refl
runs_through (t ∷ u) k n g c =
    let i : Taken k t u [] = step_forth k t u g c in
    go_on n (λ j. run (suc n) j u) (step k t) i.next i.steps
    (runs_through u i.next (suc n) (subst (OnRow Good) i.steps (step_good k t g)) i.rest)

-- Where the machine stops: the stack there permits exactly what goes on from the tokens before, and no token can follow,
-- or none is left and something is wanted.
pub record Halts (k : List Want) (n : ℕ) (tokens : List Token) (m : ℕ) : Type 0 where
  pub taken : List Token
  pub left : List Token
  pub stack : List Want
  pub parts : tokens ≡ taken ++ left
  pub counted : m ≡ n + length taken
  pub good : Good stack
  pub forth : (more : List Token) → Chain k (taken ++ more) [] → Chain stack more []
  pub back : (more : List Token) → Chain stack more [] → Chain k (taken ++ more) []
  pub stuck : (t : Token) (others : List Token) → left ≡ t ∷ others → step stack t ≡ None
  pub wanting : left ≡ [] → all_may_lack stack ≡ false

at_end : (k : List Want) (n m : ℕ) → Good k → (b : Bool) → all_may_lack k ≡ b → (if b then None else Some n) ≡ Some m → Halts k n [] m
at_end k n m g true e h = absurd (cc)
at_end k n m g false e h =
    let same : n ≡ m = cc in
    record {
      taken = [];
      left = [];
      stack = k;
      parts = refl;
      counted = omega (arith, same);
      good = g;
      forth = λ more c. c;
      back = λ more c. c;
      stuck = λ t others f. absurd (cc);
      wanting = λ f. e;
    }

at_token : (k : List Want) (n m : ℕ) (t : Token) (u : List Token) → Good k → step k t ≡ None → n ≡ m → Halts k n (t ∷ u) m
at_token k n m t u g e same =
    record {
      taken = [];
      left = t ∷ u;
      stack = k;
      parts = refl;
      counted = omega (arith, same);
      good = g;
      forth = λ more c. c;
      back = λ more c. c;
      stuck = λ v others f. let w : t ≡ v = cc in subst (λ z. step k z ≡ None) w e;
      wanting = λ f. absurd (cc);
    }

same_next : (k j : List Want) (t : Token) (u : List Token) → step k t ≡ Some j → Taken k t u [] → Chain j u []
same_next k j t u e i = let s : step k t ≡ Some i.next = i.steps in let h : i.next ≡ j = cc in subst (λ z. Chain z u []) h i.rest

later : (k j : List Want) (n m : ℕ) (t : Token) (u : List Token) → Good k → step k t ≡ Some j → Halts j (suc n) u m → Halts k n (t ∷ u) m
later k j n m t u g e h =
    let count : m ≡ suc n + length h.taken = h.counted in
    record {
      taken = t ∷ h.taken;
      left = h.left;
      stack = h.stack;
      parts = ap (λ z. t ∷ z) h.parts;
      counted = omega (arith, count);
      good = h.good;
      forth = λ more c. h.forth more (same_next k j t (h.taken ++ more) e (step_forth k t (h.taken ++ more) g c));
      back = λ more c. (subst (OnRow (Permits (λ s r. Chain k (t ∷ s) r))) e (step_back k t)) (h.taken ++ more) [] (h.back more c);
      stuck = h.stuck;
      wanting = h.wanting;
    }

pub halts : (tokens : List Token) (k : List Want) (n m : ℕ) → Good k → run n k tokens ≡ Some m → Halts k n tokens m
halts [] k n m g e = at_end k n m g (all_may_lack k) refl e
halts (t ∷ u) k n m g e = next (step k t) refl e (λ j good. halts u j (suc n) m good)
  where
    next : (o : Option (List Want)) → step k t ≡ o → go n (λ j. run (suc n) j u) o ≡ Some m →
        ((j : List Want) → Good j → run (suc n) j u ≡ Some m → Halts j (suc n) u m) → Halts k n (t ∷ u) m
    next None h f ih = at_token k n m t u g h cc
    next (Some j) h f ih = later k j n m t u g h (ih j (subst (OnRow Good) h (step_good k t g)) f)

-- a name, and the text of a literal
abbrev letter : List ℕ
letter = codes "a"

-- the shortest tokens that a want permits
abbrev shortest : Want → List Token
shortest declaration = Syntax ∷ Name letter ∷ Equals ∷ Semicolon ∷ []
shortest parameter = Name letter ∷ Colon ∷ Int ∷ []
shortest symbol = Literal letter ∷ []
shortest marked = Literal letter ∷ []
shortest post = Literal letter ∷ []
shortest atom = Literal letter ∷ []
shortest expression = Here ∷ []
shortest term = Here ∷ []
shortest heading = Name letter ∷ []
shortest kind = Int ∷ []
shortest pattern = Literal letter ∷ []
shortest list_sign = Star ∷ []
shortest name = Name letter ∷ []
shortest numeral = Number 1 ∷ []
shortest literal = Literal letter ∷ []
shortest semicolon = Semicolon ∷ []
shortest equals = Equals ∷ []
shortest colon = Colon ∷ []
shortest comma = Comma ∷ []
shortest open_bracket = Open ∷ []
shortest close_bracket = Close ∷ []
shortest close_brace = CloseBrace ∷ []
shortest _ = []

literal_post : (r : List Token) → ReadsPost (Literal letter ∷ r) r (tree.Literal letter)
literal_post r = rule.atom _ r r r _ _ _ [] (rule.literal letter r) (rule.once r _) (rule.no_filter r) refl

literal_marked : (r : List Token) → ReadsMarked (Literal letter ∷ r) r (tree.Literal letter)
literal_marked r = rule.unmarked _ r _ (literal_post r)

empty_declaration : (r : List Token) → Spans declaration (Syntax ∷ Name letter ∷ Equals ∷ Semicolon ∷ r) r
empty_declaration r =
    span.of_declaration _ r _ (rule.without_parameters Syntax decls.Syntax letter (Semicolon ∷ r) r _ rule.syntax
    (rule.last_level _ _ (record { assoc = assoc.Free; alts = record { symbols = [] } ∷ [] })
    (rule.level _ _ _ _ _ _ (rule.free _) (rule.last_alternative _ _ _ (rule.no_symbol _)) refl)))

permits_shortest : (x : Want) (r : List Token) → Spans x (shortest x ++ r) r
permits_shortest declaration r = empty_declaration r
permits_shortest parameter r = span.of_parameter letter Int kinds.Int r rule.int
permits_shortest symbol r = span.of_symbol _ r _ (rule.unlabelled _ r _ (literal_marked r))
permits_shortest marked r = span.of_marked _ r _ (literal_marked r)
permits_shortest post r = span.of_post _ r _ (literal_post r)
permits_shortest atom r = span.of_atom _ r _ (rule.literal letter r)
permits_shortest expression r = span.of_expression _ r _ (rule.alone _ r _ (rule.here r))
permits_shortest term r = span.of_term _ r _ (rule.here r)
permits_shortest heading r = span.of_heading letter r
permits_shortest kind r = span.of_kind Int kinds.Int r rule.int
permits_shortest pattern r = span.of_pattern (Literal letter) (patterns.Literal letter) r (rule.literal_pattern letter)
permits_shortest list_sign r = span.of_list_sign Star r (λ x y. (tree.SepStar x y, rule.separated_star x y))
permits_shortest name r = span.of_name letter r
permits_shortest numeral r = span.of_numeral 1 r
permits_shortest literal r = span.of_literal letter r
permits_shortest semicolon r = span.of_semicolon r
permits_shortest equals r = span.of_equals r
permits_shortest colon r = span.of_colon r
permits_shortest comma r = span.of_comma r
permits_shortest open_bracket r = span.of_open r
permits_shortest close_bracket r = span.of_close r
permits_shortest close_brace r = span.of_close_brace r
permits_shortest x r = lacks x refl r

pub completion : (k : List Want) → (s : List Token) × Chain k s []
completion [] = ([], done [])
completion (x ∷ k) = (shortest x ++ (completion k).0, link (permits_shortest x (completion k).0) (completion k).1)
