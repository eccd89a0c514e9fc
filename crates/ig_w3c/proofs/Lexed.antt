-- Printed symbols, alternatives and rules have their tokens.
use Rattle.std.proofs.Common.{◌≡◌, ◌∙◌, ap, sym, subst, ℕ, List, [], ◌∷◌, ◌++◌, true, refl, append_assoc, append-nil, lit<}
use Rattle.std.specs.Prelude.{flat_map}
use Rattle.unicode_ident.proofs.IdentLemmas.{is_xid_continue-ascii}
use Rattle.ig_text.specs.Ranges.{NormalFormIsNormal, NormalRangesStay}
use Rattle.ig_text.specs.declared.class.Class.{Class}
use Rattle.ig_text.specs.declared.class.Class.TheVariants.{Ranges}
use Rattle.ig_grammar.specs.Symbol as tree
use Rattle.ig_grammar.specs.Symbol.{Symbol, Symbols, no_symbols, next_symbol, Alternatives, no_alternatives, next_alternative}
use Rattle.ig_grammar.specs.Alternative.{gathered_alternatives}
use Rattle.ig_grammar.specs.Name.{is_name}
use Rattle.ig_grammar.specs.declared.declaration.Assoc.TheVariants as assoc
use Rattle.ig_grammar.specs.declared.declaration.Level.{Level}
use Rattle.ig_grammar.specs.declared.declaration.Decl.{Decl}
use Rattle.ig_grammar.specs.declared.grammar.Grammar.{Grammar}
use Rattle.ig_w3c_syntax.specs.Token.{Token, Head, Name, Text, Code, OneOf, Bar, Open, Close, Question, Star, Plus, Minus}
use Rattle.ig_w3c_syntax.specs.TokenForms.{IsString, IsSet}
use Rattle.ig_w3c_syntax.specs.Spelling as spelling
use Rattle.ig_w3c_syntax.specs.Spelling.{AreSeparators, no_separator, next_separator, blank}
use Rattle.ig_w3c_syntax.specs.TokenLaws.{FrontsAreRuns, StandingTokensAreLongest}
use Rattle.ig_w3c_syntax.specs.RuleForms as form
use Rattle.ig_w3c.specs.Text.{quoted, set_text, symbol_text, symbols_text, alternatives_text, level_text, rule_text}
use Rattle.ig_w3c.proofs.Sets.{set_stands}
use Rattle.ig_w3c.proofs.Printed.{LexedAs, none_lexed, blank_lexed, Ends, Fresh, fresh_ends, fresh_append, NoHead, none_heads, space_ends, line_ends, question_ends, star_ends, plus_ends, close_ends, name_fresh, literal_fresh, token_lexed, string_lexed, literal_lexed}
use Rattle.ig_w3c.proofs.Shown.{literal_token, symbol_tokens, symbols_tokens, alternatives_tokens, rule_tokens}

-- what is printed of a form begins so that no `::=` does
set_fresh : (class : Class) → IsSet (Unit {0}) class → Fresh (set_text class)
set_fresh class s = subst (λ z. Fresh (set_text z)) (sym s.class_is) refl

mutual
  atom_fresh : {x : Symbol} → form.IsAtom x → Fresh (symbol_text x)
  atom_fresh (form.literal word l) = literal_fresh word
  atom_fresh (form.set class s) = set_fresh class s
  atom_fresh (form.name x n) = name_fresh x n
  atom_fresh (form.group ys a) = refl

  repeated_fresh : {x : Symbol} → form.IsRepeated x → Fresh (symbol_text x)
  repeated_fresh (form.once x a) = atom_fresh a
  repeated_fresh (form.option x a) = fresh_append (symbol_text x) (63 ∷ []) (atom_fresh a)
  repeated_fresh (form.star x a) = fresh_append (symbol_text x) (42 ∷ []) (atom_fresh a)
  repeated_fresh (form.plus x a) = fresh_append (symbol_text x) (43 ∷ []) (atom_fresh a)

  item_fresh : {x : Symbol} → form.IsItem x → Fresh (symbol_text x)
  item_fresh (form.whole x r) = repeated_fresh r
  item_fresh (form.excluding x word r w) = fresh_append (symbol_text x) _ (repeated_fresh r)

alternative_fresh : {xs : Symbols} → form.IsAlternative xs → Fresh (symbols_text [] xs)
alternative_fresh (form.last_item x i) = fresh_append (symbol_text x) [] (item_fresh i)
alternative_fresh (form.further_item x y xs i a) = fresh_append (symbol_text x) (symbols_text (32 ∷ []) (next_symbol y xs)) (item_fresh i)

alternatives_fresh : {ys : Alternatives} → form.AreAlternatives ys → Fresh (alternatives_text [] ys)
alternatives_fresh (form.last_alternative xs a) = fresh_append (symbols_text [] xs) [] (alternative_fresh a)
alternatives_fresh (form.further_alternative xs zs ys a b) =
    fresh_append (symbols_text [] xs) (alternatives_text (32 ∷ 124 ∷ 32 ∷ []) (next_alternative zs ys)) (alternative_fresh a)

heads_no : (text rest : List ℕ) → Fresh text → NoHead (text ++ rest)
heads_no text rest f = fresh_ends (text ++ rest) (fresh_append text rest f)

-- regrouping: a sign, a bracket, an exclusion
behind_sign : (text rest : List ℕ) (c : ℕ) (ts : List Token) → LexedAs (text ++ c ∷ rest) ts → LexedAs ((text ++ c ∷ []) ++ rest) ts
behind_sign text rest c ts h = subst (λ z. LexedAs z ts) (sym (append_assoc text (c ∷ []) rest)) h

excluded_text : (text word rest : List ℕ) → (text ++ ((32 ∷ 45 ∷ 32 ∷ word) ++ [])) ++ rest ≡ text ++ 32 ∷ 45 ∷ 32 ∷ (word ++ rest)
excluded_text text word rest =
    append_assoc text ((32 ∷ 45 ∷ 32 ∷ word) ++ []) rest ∙
    ap (λ z. text ++ (z ++ rest)) (append-nil (32 ∷ 45 ∷ 32 ∷ word))

-- a line: its head, with ` ::=`, its alternatives and the line feed
line_text : (x inside rest : List ℕ) →
    (x ++ 32 ∷ 58 ∷ 58 ∷ 61 ∷ 32 ∷ ((inside ++ []) ++ 10 ∷ [])) ++ rest ≡ (x ++ 32 ∷ 58 ∷ 58 ∷ 61 ∷ []) ++ 32 ∷ (inside ++ 10 ∷ rest)
line_text x inside rest =
    append_assoc x (32 ∷ 58 ∷ 58 ∷ 61 ∷ 32 ∷ ((inside ++ []) ++ 10 ∷ [])) rest ∙
    ap (λ z. x ++ 32 ∷ 58 ∷ 58 ∷ 61 ∷ 32 ∷ z)
    (append_assoc (inside ++ []) (10 ∷ []) rest ∙ ap (λ z. z ++ 10 ∷ rest) (append-nil inside)) ∙
    sym (append_assoc x (32 ∷ 58 ∷ 58 ∷ 61 ∷ []) (32 ∷ (inside ++ 10 ∷ rest)))

line_heads : (x tail rest : List ℕ) → is_name x ≡ true → NoHead ((x ++ tail) ++ rest)
line_heads x tail rest n = fresh_ends ((x ++ tail) ++ rest) (fresh_append (x ++ tail) rest (fresh_append x tail (name_fresh x n)))

rules_heads : {ds : List Decl} → form.AreRules ds → NoHead (flat_map rule_text ds)
rules_heads form.no_rule = none_heads
rules_heads (form.next_rule _ ds (form.rule x alts n a) more) =
    let level : Level = record { assoc = assoc.Free; alts = alts } in
    line_heads x (32 ∷ 58 ∷ 58 ∷ 61 ∷ 32 ∷ (flat_map level_text (level ∷ []) ++ 10 ∷ [])) (flat_map rule_text ds) n

module _ (runs : FrontsAreRuns) (longest : StandingTokensAreLongest) (normal : NormalFormIsNormal) (stay : NormalRangesStay) where
  mutual
    atom_lexed : {x : Symbol} → form.IsAtom x → (rest : List ℕ) (ts : List Token) → Ends rest → LexedAs rest ts →
        LexedAs (symbol_text x ++ rest) (symbol_tokens x ts)
    atom_lexed (form.literal word l) rest ts e h = literal_lexed runs longest word rest ts l e h
    atom_lexed (form.set class s) rest ts e h =
        token_lexed runs longest (set_text class) rest (OneOf class) ts (set_stands runs normal stay class rest s) tt h
    atom_lexed (form.name x n) rest ts e h =
        token_lexed runs longest x rest (Name x) ts (spelling.name (x ++ rest) x rest n e.word refl) e.head h
    atom_lexed (form.group ys a) rest ts e h =
        let close = token_lexed runs longest (41 ∷ []) rest Close ts (spelling.sign 41 Close rest refl) tt h in
        let inside = alternatives_lexed a (41 ∷ rest) (Close ∷ ts) (close_ends rest) close in
        token_lexed runs longest (40 ∷ []) ((alternatives_text [] ys ++ 41 ∷ []) ++ rest) Open (alternatives_tokens ys (Close ∷ ts))
        (spelling.sign 40 Open ((alternatives_text [] ys ++ 41 ∷ []) ++ rest) refl) tt
        (behind_sign (alternatives_text [] ys) rest 41 (alternatives_tokens ys (Close ∷ ts)) inside)

    repeated_lexed : {x : Symbol} → form.IsRepeated x → (rest : List ℕ) (ts : List Token) → Ends rest → LexedAs rest ts →
        LexedAs (symbol_text x ++ rest) (symbol_tokens x ts)
    repeated_lexed (form.once x a) rest ts e h = atom_lexed a rest ts e h
    repeated_lexed (form.option x a) rest ts e h =
        behind_sign (symbol_text x) rest 63 (symbol_tokens x (Question ∷ ts))
        (atom_lexed a (63 ∷ rest) (Question ∷ ts) (question_ends rest)
        (token_lexed runs longest (63 ∷ []) rest Question ts (spelling.sign 63 Question rest refl) tt h))
    repeated_lexed (form.star x a) rest ts e h =
        behind_sign (symbol_text x) rest 42 (symbol_tokens x (Star ∷ ts))
        (atom_lexed a (42 ∷ rest) (Star ∷ ts) (star_ends rest)
        (token_lexed runs longest (42 ∷ []) rest Star ts (spelling.sign 42 Star rest refl) tt h))
    repeated_lexed (form.plus x a) rest ts e h =
        behind_sign (symbol_text x) rest 43 (symbol_tokens x (Plus ∷ ts))
        (atom_lexed a (43 ∷ rest) (Plus ∷ ts) (plus_ends rest)
        (token_lexed runs longest (43 ∷ []) rest Plus ts (spelling.sign 43 Plus rest refl) tt h))

    item_lexed : {x : Symbol} → form.IsItem x → (rest : List ℕ) (ts : List Token) → Ends rest → LexedAs rest ts →
        LexedAs (symbol_text x ++ rest) (symbol_tokens x ts)
    item_lexed (form.whole x r) rest ts e h = repeated_lexed r rest ts e h
    item_lexed (form.excluding x word r w) rest ts e h =
        let string = string_lexed runs longest word rest ts w h in
        let minus = token_lexed runs longest (45 ∷ []) (32 ∷ (quoted word ++ rest)) Minus (Text word ∷ ts)
        (spelling.sign 45 Minus (32 ∷ (quoted word ++ rest)) refl) tt (blank_lexed 32 (quoted word ++ rest) (Text word ∷ ts) refl string) in
        let more : List ℕ = 45 ∷ 32 ∷ (quoted word ++ rest) in
        let before = blank_lexed 32 more (Minus ∷ Text word ∷ ts) refl minus in
        subst (λ z. LexedAs z (symbol_tokens x (Minus ∷ Text word ∷ ts))) (sym (excluded_text (symbol_text x) (quoted word) rest))
        (repeated_lexed r (32 ∷ more) (Minus ∷ Text word ∷ ts) (space_ends more (fresh_ends more refl)) before)

    alternative_lexed : {xs : Symbols} → form.IsAlternative xs → (rest : List ℕ) (ts : List Token) → Ends rest → LexedAs rest ts →
        LexedAs (symbols_text [] xs ++ rest) (symbols_tokens xs ts)
    alternative_lexed (form.last_item x i) rest ts e h =
        subst (λ z. LexedAs (z ++ rest) (symbol_tokens x ts)) (sym (append-nil (symbol_text x))) (item_lexed i rest ts e h)
    alternative_lexed (form.further_item x y xs i a) rest ts e h =
        let more : List ℕ = symbols_text [] (next_symbol y xs) ++ rest in
        let others : List Token = symbols_tokens (next_symbol y xs) ts in
        let k = alternative_lexed a rest ts e h in
        let ends = space_ends more (heads_no (symbols_text [] (next_symbol y xs)) rest (alternative_fresh a)) in
        subst (λ z. LexedAs z (symbol_tokens x others)) (sym (append_assoc (symbol_text x) (symbols_text (32 ∷ []) (next_symbol y xs)) rest))
        (item_lexed i (32 ∷ more) others ends (blank_lexed 32 more others refl k))

    alternatives_lexed : {ys : Alternatives} → form.AreAlternatives ys → (rest : List ℕ) (ts : List Token) → Ends rest → LexedAs rest ts →
        LexedAs (alternatives_text [] ys ++ rest) (alternatives_tokens ys ts)
    alternatives_lexed (form.last_alternative xs a) rest ts e h =
        subst (λ z. LexedAs (z ++ rest) (symbols_tokens xs ts)) (sym (append-nil (symbols_text [] xs))) (alternative_lexed a rest ts e h)
    alternatives_lexed (form.further_alternative xs zs ys a b) rest ts e h =
        let more : List ℕ = alternatives_text [] (next_alternative zs ys) ++ rest in
        let others : List Token = alternatives_tokens (next_alternative zs ys) ts in
        let k = alternatives_lexed b rest ts e h in
        let bar = token_lexed runs longest (124 ∷ []) (32 ∷ more) Bar others (spelling.sign 124 Bar (32 ∷ more) refl) tt
        (blank_lexed 32 more others refl k) in
        subst (λ z. LexedAs z (symbols_tokens xs (Bar ∷ others)))
        (sym (append_assoc (symbols_text [] xs) (alternatives_text (32 ∷ 124 ∷ 32 ∷ []) (next_alternative zs ys)) rest))
        (alternative_lexed a (32 ∷ 124 ∷ 32 ∷ more) (Bar ∷ others) (space_ends (124 ∷ 32 ∷ more) (fresh_ends (124 ∷ 32 ∷ more) refl))
        (blank_lexed 32 (124 ∷ 32 ∷ more) (Bar ∷ others) refl bar))

  -- a rule is a line

  rules_lexed : {ds : List Decl} → form.AreRules ds → LexedAs (flat_map rule_text ds) (rule_tokens ds)
  rules_lexed form.no_rule = none_lexed
  rules_lexed (form.next_rule _ ds (form.rule x alts n a) more) =
      let rest : List ℕ = flat_map rule_text ds in
      let inside : List ℕ = alternatives_text [] (gathered_alternatives alts) in
      let ts : List Token = alternatives_tokens (gathered_alternatives alts) (rule_tokens ds) in
      let line = blank_lexed 10 rest (rule_tokens ds) refl (rules_lexed more) in
      let body = alternatives_lexed a (10 ∷ rest) (rule_tokens ds) (line_ends rest (rules_heads more)) line in
      let spaced = blank_lexed 32 (inside ++ 10 ∷ rest) ts refl body in
      let behind : List ℕ = 32 ∷ 58 ∷ 58 ∷ 61 ∷ 32 ∷ (inside ++ 10 ∷ rest) in
      let separated : AreSeparators behind (58 ∷ 58 ∷ 61 ∷ 32 ∷ (inside ++ 10 ∷ rest)) =
      next_separator behind (58 ∷ 58 ∷ 61 ∷ 32 ∷ (inside ++ 10 ∷ rest)) (58 ∷ 58 ∷ 61 ∷ 32 ∷ (inside ++ 10 ∷ rest))
      (blank 32 (58 ∷ 58 ∷ 61 ∷ 32 ∷ (inside ++ 10 ∷ rest)) refl) (no_separator (58 ∷ 58 ∷ 61 ∷ 32 ∷ (inside ++ 10 ∷ rest))) in
      let head = token_lexed runs longest (x ++ 32 ∷ 58 ∷ 58 ∷ 61 ∷ []) (32 ∷ (inside ++ 10 ∷ rest)) (Head x) ts
      (spelling.head ((x ++ 32 ∷ 58 ∷ 58 ∷ 61 ∷ []) ++ 32 ∷ (inside ++ 10 ∷ rest)) x behind (32 ∷ (inside ++ 10 ∷ rest)) n
      (is_xid_continue-ascii 32 (lit< tt)) (append_assoc x (32 ∷ 58 ∷ 58 ∷ 61 ∷ []) (32 ∷ (inside ++ 10 ∷ rest))) separated) tt spaced in
      subst (λ z. LexedAs z (Head x ∷ ts)) (sym (line_text x inside rest)) head

  pub grammar_lexed : {g : Grammar} → form.IsOfRules g → LexedAs (flat_map rule_text g.decls) (rule_tokens g.decls)
  grammar_lexed (form.rules d ds r) = rules_lexed r
