-- What holds at the head of a declaration, where it stands.
use Rattle.std.specs.Prelude.{◌≡◌, Contains, take}
use Rattle.ig_grammar.specs.Names.{names}
use Rattle.ig_grammar.specs.Condition.{Condition, TooMany, HeadMeets, IsNotPlain}
use Rattle.ig_grammar.specs.declared.declaration.DeclKind.TheVariants.{Layout}
use Rattle.ig_scope.specs.declared.head.Head.{Head}

-- the condition holds there
abbrev pub HeadHas : Head → Condition → Type 0
HeadHas head = HeadMeets head.declarations.now head.before head.decl.now

-- an earlier declaration has the same name
abbrev pub IsDeclared : Head → Type 0
IsDeclared head = Contains (names (take head.before head.declarations.now)) head.decl.now.name

-- as a layout declaration it isn't plain
abbrev pub IsUnplain : Head → Type 0
IsUnplain head = IsNotPlain head.declarations.now head.before head.decl.now

-- it is a layout declaration that isn't
abbrev pub IsUnplainLayout : Head → Type 0
IsUnplainLayout head = (head.decl.now.kind ≡ Layout) × IsUnplain head

-- the condition is a limit, which is passed there
abbrev pub IsLimit : Condition → Type 0
IsLimit (TooMany many) = Unit {0}
IsLimit c = ⊥

abbrev pub PassesLimit : Head → Condition → Type 0
PassesLimit head c = IsLimit c × HeadHas head c
