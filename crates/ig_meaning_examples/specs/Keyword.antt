-- An identifier that is no keyword.
use Rattle.std.specs.Prelude.{[], ◌∷◌, Some, codes, None}
use Rattle.ig_text.specs.declared.pattern.Pattern.TheVariants as pattern
use Rattle.ig_grammar.specs.Symbol.{OneOf, Plus, Filtered}
use Rattle.ig_grammar.specs.declared.filter.Filter.TheVariants.{NotFollowed, Not}
use Rattle.ig_grammar.specs.declared.declaration.DeclKind.TheVariants.{Syntax, Lexical}
use Rattle.ig_grammar.specs.declared.grammar.Grammar.{Grammar}
use Rattle.ig_meaning_examples.specs.Exactly.{Permits}
use Rattle.ig_meaning_examples.specs.Notation.{letter, plain, rule, name_of, root, node}

-- `start S; syntax S = Id; lexical Id = [a-z]+ !>> [a-z] \ "if";`
abbrev pub grammar : Grammar
grammar =
    record {
      start = Some (codes "S");
      tabs = None;
      decls =
          rule Syntax (codes "S") (plain (codes "Id") ∷ []) ∷ rule Lexical (codes "Id") (Filtered (Plus (OneOf letter)) (NotFollowed (pattern.OneOf letter) ∷ Not (pattern.Literal (codes "if")) ∷ []) ∷ []) ∷ [];
    }

-- `iff` is an identifier, as a whole, and `if` is none
pub record KeywordsAreExcluded : Type 0 where
  pub longer : Permits grammar (codes "iff") 8 (root 3 (node 1 1 0 3 (name_of 2 0 3 ∷ []) ∷ []) ∷ [])
  pub keyword : Permits grammar (codes "if") 8 []
