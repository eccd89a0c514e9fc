-- The forms of grammars that texts of the notation read as.
use Rattle.std.specs.Prelude.{◌≡◌, ℕ, List, [], ◌∷◌, true, Some, None}
use Rattle.ig_text.specs.declared.class.Class.{Class}
use Rattle.ig_text.specs.declared.pattern.Pattern.TheVariants as patterns
use Rattle.ig_grammar.specs.Name.{is_name}
use Rattle.ig_grammar.specs.Symbol.{Symbol, Symbols, no_symbols, next_symbol, Alternatives, no_alternatives, next_alternative, Literal, OneOf, Call, Opt, Star, Plus, Group, Filtered}
use Rattle.ig_grammar.specs.Alternative.{gathered_alternatives}
use Rattle.ig_grammar.specs.declared.symbol.Alt.{Alt}
use Rattle.ig_grammar.specs.declared.filter.Filter.TheVariants as filters
use Rattle.ig_grammar.specs.declared.declaration.Decl.{Decl}
use Rattle.ig_grammar.specs.declared.declaration.DeclKind.TheVariants as decls
use Rattle.ig_grammar.specs.declared.declaration.Assoc.TheVariants as assoc
use Rattle.ig_grammar.specs.declared.grammar.Grammar.{Grammar}
use Rattle.ig_w3c_syntax.specs.Token.{Token}
use Rattle.ig_w3c_syntax.specs.Spelling.{is_character}
use Rattle.ig_w3c_syntax.specs.TokenForms.{IsString, IsSet, HasForm}

-- the token has the form of one, of whole characters
abbrev pub IsWhole : Token → Type 0
IsWhole = HasForm (Unit {0})

-- a literal comes from a string or from a code
pub data IsLiteral : List ℕ → Type 0 where
  string : (word : List ℕ) → IsString (Unit {0}) word → IsLiteral word
  code : (c : ℕ) → is_character c ≡ true → IsLiteral (c ∷ [])

mutual
  pub data IsAtom : Symbol → Type 0 where
    literal : (word : List ℕ) → IsLiteral word → IsAtom (Literal word)
    set : (class : Class) → IsSet (Unit {0}) class → IsAtom (OneOf class)
    name : (x : List ℕ) → is_name x ≡ true → IsAtom (Call x [])
    group : (ys : Alternatives) → AreAlternatives ys → IsAtom (Group ys)

  -- an atom, with a sign or none
  pub data IsRepeated : Symbol → Type 0 where
    once : (x : Symbol) → IsAtom x → IsRepeated x
    option : (x : Symbol) → IsAtom x → IsRepeated (Opt x)
    star : (x : Symbol) → IsAtom x → IsRepeated (Star x)
    plus : (x : Symbol) → IsAtom x → IsRepeated (Plus x)

  -- and a string that it isn't, or none
  pub data IsItem : Symbol → Type 0 where
    whole : (x : Symbol) → IsRepeated x → IsItem x
    excluding : (x : Symbol) (word : List ℕ) → IsRepeated x → IsString (Unit {0}) word →
        IsItem (Filtered x (filters.Not (patterns.Literal word) ∷ []))

  pub data IsAlternative : Symbols → Type 0 where
    last_item : (x : Symbol) → IsItem x → IsAlternative (next_symbol x no_symbols)
    further_item : (x y : Symbol) (xs : Symbols) → IsItem x → IsAlternative (next_symbol y xs) →
        IsAlternative (next_symbol x (next_symbol y xs))

  pub data AreAlternatives : Alternatives → Type 0 where
    last_alternative : (xs : Symbols) → IsAlternative xs → AreAlternatives (next_alternative xs no_alternatives)
    further_alternative : (xs zs : Symbols) (ys : Alternatives) → IsAlternative xs → AreAlternatives (next_alternative zs ys) →
        AreAlternatives (next_alternative xs (next_alternative zs ys))

-- a rule is a lexical declaration of one level
pub data IsRule : Decl → Type 0 where
  rule : (x : List ℕ) (alts : List Alt) → is_name x ≡ true → AreAlternatives (gathered_alternatives alts) →
      IsRule (record { kind = decls.Lexical; name = x; params = []; levels = (record { assoc = assoc.Free; alts = alts }) ∷ [] })

pub data AreRules : List Decl → Type 0 where
  no_rule : AreRules []
  next_rule : (d : Decl) (ds : List Decl) → IsRule d → AreRules ds → AreRules (d ∷ ds)

-- there is at least one, and the first is the start
pub data IsOfRules : Grammar → Type 0 where
  rules : (d : Decl) (ds : List Decl) → AreRules (d ∷ ds) → IsOfRules (record { start = Some d.name; tabs = None; decls = d ∷ ds })
