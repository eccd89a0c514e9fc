-- The tokens of a printed text, which keep the rules.
use Rattle.std.proofs.Common.{◌≡◌, ℕ, List, [], ◌∷◌, Bool, true, false, if◌then◌else◌, refl}
use Rattle.ig_text.specs.declared.pattern.Pattern.TheVariants as patterns
use Rattle.ig_grammar.specs.Symbol as tree
use Rattle.ig_grammar.specs.Symbol.{Symbol, Symbols, no_symbols, next_symbol, Alternatives, no_alternatives, next_alternative}
use Rattle.ig_grammar.specs.Alternative.{gathered_alternatives}
use Rattle.ig_grammar.specs.declared.filter.Filter.{Filter}
use Rattle.ig_grammar.specs.declared.filter.Filter.TheVariants as filters
use Rattle.ig_grammar.specs.declared.declaration.Level.{Level}
use Rattle.ig_grammar.specs.declared.declaration.Decl.{Decl}
use Rattle.ig_grammar.specs.declared.grammar.Grammar.{Grammar}
use Rattle.ig_w3c_syntax.specs.Token.{Token, Head, Name, Text, Code, OneOf, Bar, Open, Close, Question, Star, Plus, Minus}
use Rattle.ig_w3c_syntax.specs.Rules as rule
use Rattle.ig_w3c_syntax.specs.RuleForms as form
use Rattle.ig_w3c.specs.Text.{is_printed}

abbrev pub literal_token : List ℕ → Token
literal_token (c ∷ []) = if is_printed c then Text (c ∷ []) else Code c
literal_token word = Text word

abbrev pub filter_tokens : List Filter → List Token → List Token
filter_tokens (filters.Not (patterns.Literal word) ∷ fs) ts = Minus ∷ Text word ∷ filter_tokens fs ts
filter_tokens fs ts = ts

abbrev mutual
  pub symbol_tokens : Symbol → List Token → List Token
  symbol_tokens (tree.Literal word) ts = literal_token word ∷ ts
  symbol_tokens (tree.OneOf class) ts = OneOf class ∷ ts
  symbol_tokens (tree.Call name arguments) ts = Name name ∷ ts
  symbol_tokens (tree.Opt x) ts = symbol_tokens x (Question ∷ ts)
  symbol_tokens (tree.Star x) ts = symbol_tokens x (Star ∷ ts)
  symbol_tokens (tree.Plus x) ts = symbol_tokens x (Plus ∷ ts)
  symbol_tokens (tree.Group ys) ts = Open ∷ alternatives_tokens ys (Close ∷ ts)
  symbol_tokens (tree.Filtered x fs) ts = symbol_tokens x (filter_tokens fs ts)
  symbol_tokens x ts = ts

  pub symbols_tokens : Symbols → List Token → List Token
  symbols_tokens no_symbols ts = ts
  symbols_tokens (next_symbol x xs) ts = symbol_tokens x (symbols_tokens xs ts)

  pub alternatives_tokens : Alternatives → List Token → List Token
  alternatives_tokens no_alternatives ts = ts
  alternatives_tokens (next_alternative xs ys) ts = symbols_tokens xs (further_tokens ys ts)

  pub further_tokens : Alternatives → List Token → List Token
  further_tokens no_alternatives ts = ts
  further_tokens (next_alternative xs ys) ts = Bar ∷ symbols_tokens xs (further_tokens ys ts)

abbrev pub level_tokens : List Level → List Token → List Token
level_tokens [] ts = ts
level_tokens (l ∷ ls) ts = alternatives_tokens (gathered_alternatives l.alts) (level_tokens ls ts)

abbrev pub rule_tokens : List Decl → List Token
rule_tokens [] = []
rule_tokens (d ∷ ds) = Head d.name ∷ level_tokens d.levels (rule_tokens ds)

-- a literal is a string or a code
printed_keeps : (b : Bool) (c : ℕ) (ts : List Token) → rule.IsAtom ((if b then Text (c ∷ []) else Code c) ∷ ts) ts
printed_keeps true c ts = rule.string (c ∷ []) ts
printed_keeps false c ts = rule.code c ts

literal_keeps : (word : List ℕ) (ts : List Token) → rule.IsAtom (literal_token word ∷ ts) ts
literal_keeps [] ts = rule.string [] ts
literal_keeps (c ∷ []) ts = printed_keeps (is_printed c) c ts
literal_keeps (c ∷ d ∷ word) ts = rule.string (c ∷ d ∷ word) ts

-- an atom, and its sign or none
record Keeps (s r : List Token) : Type 0 where
  behind : List Token
  atom : rule.IsAtom s behind
  sign : rule.IsSign behind r

mutual
  atom_keeps : {x : Symbol} → form.IsAtom x → (ts : List Token) → rule.IsAtom (symbol_tokens x ts) ts
  atom_keeps (form.literal word l) ts = literal_keeps word ts
  atom_keeps (form.set class s) ts = rule.set class ts
  atom_keeps (form.name x n) ts = rule.name x ts
  atom_keeps (form.group ys a) ts = rule.group (alternatives_tokens ys (Close ∷ ts)) ts (alternatives_keep a (Close ∷ ts))

  repeated_keeps : {x : Symbol} → form.IsRepeated x → (ts : List Token) → Keeps (symbol_tokens x ts) ts
  repeated_keeps (form.once x a) ts = record { behind = ts; atom = atom_keeps a ts; sign = rule.once ts }
  repeated_keeps (form.option x a) ts = record { behind = Question ∷ ts; atom = atom_keeps a (Question ∷ ts); sign = rule.option ts }
  repeated_keeps (form.star x a) ts = record { behind = Star ∷ ts; atom = atom_keeps a (Star ∷ ts); sign = rule.star ts }
  repeated_keeps (form.plus x a) ts = record { behind = Plus ∷ ts; atom = atom_keeps a (Plus ∷ ts); sign = rule.plus ts }

  item_keeps : {x : Symbol} → form.IsItem x → (ts : List Token) → rule.IsItem (symbol_tokens x ts) ts
  item_keeps (form.whole x r) ts =
      let k = repeated_keeps r ts in rule.item (symbol_tokens x ts) k.behind ts ts k.atom k.sign (rule.nothing ts)
  item_keeps (form.excluding x word r w) ts =
      let k = repeated_keeps r (Minus ∷ Text word ∷ ts) in
      rule.item (symbol_tokens x (Minus ∷ Text word ∷ ts)) k.behind (Minus ∷ Text word ∷ ts) ts k.atom k.sign (rule.excluded word ts)

  alternative_keeps : {xs : Symbols} → form.IsAlternative xs → (ts : List Token) → rule.IsAlternative (symbols_tokens xs ts) ts
  alternative_keeps (form.last_item x i) ts = rule.last_item (symbol_tokens x ts) ts (item_keeps i ts)
  alternative_keeps (form.further_item x y xs i a) ts =
      let more : List Token = symbols_tokens (next_symbol y xs) ts in
      rule.further_item (symbol_tokens x more) more ts (item_keeps i more) (alternative_keeps a ts)

  alternatives_keep : {ys : Alternatives} → form.AreAlternatives ys → (ts : List Token) → rule.IsAlternatives (alternatives_tokens ys ts) ts
  alternatives_keep (form.last_alternative xs a) ts = rule.last_alternative (symbols_tokens xs ts) ts (alternative_keeps a ts)
  alternatives_keep (form.further_alternative xs zs ys a b) ts =
      let more : List Token = alternatives_tokens (next_alternative zs ys) ts in
      rule.further_alternative (symbols_tokens xs (Bar ∷ more)) more ts (alternative_keeps a (Bar ∷ more)) (alternatives_keep b ts)

rules_keep : {ds : List Decl} → form.AreRules ds → rule.AreRules (rule_tokens ds)
rules_keep form.no_rule = rule.no_rule
rules_keep (form.next_rule _ ds (form.rule x alts n a) more) =
    rule.next_rule x (alternatives_tokens (gathered_alternatives alts) (rule_tokens ds)) (rule_tokens ds)
    (alternatives_keep a (rule_tokens ds)) (rules_keep more)

begin_keeps : (x : List ℕ) (ts : List Token) → rule.AreRules (Head x ∷ ts) → rule.KeepsRules (Head x ∷ ts)
begin_keeps x ts r = rule.rules x ts r

pub grammar_keeps : {g : Grammar} → form.IsOfRules g → rule.KeepsRules (rule_tokens g.decls)
grammar_keeps (form.rules d ds r) = begin_keeps d.name (level_tokens d.levels (rule_tokens ds)) (rules_keep r)
