-- What a table of levelled declarations tells of names.
use Rattle.std.specs.Prelude.{◌≡◌, ℕ, Bool, false, List, Option, Some, None, encode_utf8_all}
use Rattle.std.specs.Cmp.Lexicographic.{slice_cmp}
use Rattle.std.specs.Ordering.{nat_cmp}
use Rattle.std.specs.BTreeMap.{BTreeMap, get_by}
use denote.Ref.{Bor}
use Rattle.ig_grammar.specs.declared.declaration.Decl.{Decl}
use Rattle.ig_levels.specs.Levels.{names_levelled}

-- what the table has at a name
abbrev pub lookup : BTreeMap (Bor (List ℕ)) Bool → List ℕ → Option Bool
lookup table name = get_by (λ k. slice_cmp nat_cmp (encode_utf8_all name) k.now) table

abbrev pub or_false : Option Bool → Bool
or_false None = false
or_false (Some b) = b

-- whether the declaration of the name is levelled, by the table
abbrev pub levelled_by : BTreeMap (Bor (List ℕ)) Bool → List ℕ → Bool
levelled_by table name = or_false (lookup table name)

-- the table tells exactly the names of levelled declarations
abbrev pub Tells : BTreeMap (Bor (List ℕ)) Bool → List Decl → Type 0
Tells table decls = (name : List ℕ) → levelled_by table name ≡ names_levelled decls name
