-- What the readers of declarations promise.
use Rattle.std.specs.Prelude.{◌≡◌, ℕ, List, [], ◌∷◌, ◌++◌, drop, Some}
use Rattle.ig_notation_syntax.specs.Token as token
use Rattle.ig_notation_syntax.specs.Token.{Token, Name, Equals, Semicolon}
use Rattle.ig_notation_syntax.specs.Rules.{IsDeclKind, IsKind, ReadsLevels, ReadsDeclaration, ReadsDeclarations, ReadsAssociativity}
use Rattle.ig_grammar.specs.declared.declaration.Assoc.{Assoc}
use Rattle.ig_grammar.specs.declared.declaration.DeclKind.{DeclKind}
use Rattle.ig_grammar.specs.declared.declaration.Param.{Param}
use Rattle.ig_grammar.specs.declared.declaration.Level.{Level}
use Rattle.ig_grammar.specs.declared.declaration.Decl.{Decl}
use Rattle.ig_notation_syntax.specs.Machine as want
use Rattle.ig_notation_syntax.specs.Machine.{Want, after, run}
use Rattle.ig_notation_terms.specs.declared.fault.RuleFault.{RuleFault}
use Rattle.ig_notation_terms.specs.declared.fault.RuleFault.TheVariants.{Unexpected, Memory}

-- a name, with parameters or without, behind the kind of a declaration
abbrev pub ReadsHeading : List ℕ → List Token → List Token → List Param → Type 0
ReadsHeading name from rest ps = (t : Token) (k : DeclKind) (m end : List Token) (levels : List Level) → IsDeclKind t k →
    rest ≡ Equals ∷ m → ReadsLevels m (Semicolon ∷ end) levels →
    ReadsDeclaration (t ∷ from) end (record { kind = k; name = name; params = ps; levels = levels })

-- a parameter, with others behind it or none
pub record ReadsParameter (from rest : List Token) (p : Param) : Type 0 where
  pub kind_token : Token
  pub is_kind : IsKind kind_token p.kind
  pub parts : from ≡ Name p.name ∷ token.Colon ∷ kind_token ∷ rest

-- the first declarations
abbrev pub ReadsFirst : List Token → List Token → List Decl → Type 0
ReadsFirst from rest ds = (more : List Decl) → ReadsDeclarations rest more → ReadsDeclarations from (ds ++ more)

-- a token says to which side the alternatives of a level group
pub record IsAssociativity (a : Assoc) (t : Token) : Type 0 where
  pub begins : after want.associativity t ≡ Some []
  pub reads : (rest : List Token) → ReadsAssociativity (t ∷ rest) rest a

-- at number i the want alone stops the machine where the fault says
abbrev pub FailsAt : Want → List Token → ℕ → RuleFault → Type 0
FailsAt wanted tokens i (Unexpected n) = run i (wanted ∷ []) (drop i tokens) ≡ Some n
FailsAt wanted tokens i Memory = Unit {0}
