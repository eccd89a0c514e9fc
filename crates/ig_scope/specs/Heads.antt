-- What stands before a declaration.
use Rattle.std.specs.Prelude.{◌≡◌, ◌≢◌, ℕ, Bool, true, false, List, Contains, Some, take, count_by, slice_get}
use Rattle.std.specs.List.{list_any}
use Rattle.ig_grammar.specs.Name.{is_name}
use Rattle.ig_grammar.specs.Visible.{names, parameters}
use Rattle.ig_grammar.specs.declared.declaration.Assoc.TheVariants.{Free}
use Rattle.ig_grammar.specs.declared.declaration.DeclKind.{DeclKind}
use Rattle.ig_grammar.specs.declared.declaration.DeclKind.TheVariants.{Layout}
use Rattle.ig_grammar.specs.declared.declaration.Level.{Level}
use Rattle.ig_grammar.specs.declared.declaration.Param.{Param}
use Rattle.ig_grammar.specs.declared.declaration.Decl.{Decl}

-- how many have names of the notation
abbrev pub count_names : List Decl → ℕ
count_names decls = count_by (λ d. is_name d.name) decls

abbrev pub is_layout : DeclKind → Bool
is_layout Layout = true
is_layout other = false

-- a layout declaration is among them
abbrev pub have_layout : List Decl → Bool
have_layout decls = list_any (λ d. is_layout d.kind) decls

-- a parameter has the name of an earlier one
abbrev pub HasRepeated : List Param → Type 0
HasRepeated params =
    (k : ℕ) × (p : Param) × (slice_get params k ≡ Some p) × Contains (names (parameters (take k params))) p.name

-- some level has an associativity
abbrev pub HaveAssociativity : List Level → Type 0
HaveAssociativity levels = (level : Level) × Contains levels level × (level.assoc ≢ Free)
