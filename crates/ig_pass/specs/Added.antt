-- Names that passes add to a grammar: of which form they are, and which of them are new.
use Rattle.std.specs.Prelude.{◌≡◌, ℕ, ◌<◌, List, [], ◌∷◌, ◌++◌, Contains, false, true, codes, decimal}
use Rattle.ig_text.specs.Limits.{unsigned_end}
use Rattle.ig_grammar.specs.Name.{is_name}
use Rattle.ig_grammar.specs.Names.{names}
use Rattle.ig_grammar.specs.declared.grammar.Grammar.{Grammar}

-- the name of the declaration that stands for the root
abbrev pub root_name : List ℕ
root_name = codes "$root"

abbrev pub dot : ℕ
dot = 46

abbrev pub number_sign : ℕ
number_sign = 35

-- `.l` and `.r`, the parameters that stand for the least levels on the left and on the right spine
abbrev pub left_name : List ℕ
left_name = dot ∷ 108 ∷ []

abbrev pub right_name : List ℕ
right_name = dot ∷ 114 ∷ []

-- `.m` and `.f`, the parameters that stand for the enclosing blocks: the margin, behind which tokens stand, and the first
-- position, which is free
abbrev pub margin_name : List ℕ
margin_name = dot ∷ 109 ∷ []

abbrev pub first_name : List ℕ
first_name = dot ∷ 102 ∷ []

-- `.c`, the column in which the items of an aligned list stand
abbrev pub column_name : List ℕ
column_name = dot ∷ 99 ∷ []

-- the name of the k-th nonterminal that is added for a declaration of this name
abbrev pub added_name : List ℕ → ℕ → List ℕ
added_name name k = name ++ number_sign ∷ decimal k

-- no declaration has the name
abbrev pub IsFresh : Grammar → List ℕ → Type 0
IsFresh g name = Contains (names g.decls) name → ⊥

abbrev pub HasNoSign : List ℕ → Type 0
HasNoSign name = Contains name number_sign → ⊥

-- the numbers that tell added names apart are below this
abbrev pub numbers_bound : ℕ
numbers_bound = unsigned_end

-- no name that a pass adds is one of the notation, and added names tell their declarations and their numbers
pub record AddedNamesAreNew : Type 0 where
  pub root : is_name root_name ≡ false
  pub dotted : (before after : List ℕ) → is_name (before ++ dot ∷ after) ≡ false
  pub numbered : (name : List ℕ) (k : ℕ) → is_name (added_name name k) ≡ false
  -- so a grammar all of whose names are of the notation has none of them
  pub fresh : (g : Grammar) (name : List ℕ) →
      ((declared : List ℕ) → Contains (names g.decls) declared → is_name declared ≡ true) → is_name name ≡ false →
      IsFresh g name
  -- in names of the notation and in that of the root stands no number sign
  pub unsigned : (name : List ℕ) → is_name name ≡ true → HasNoSign name
  pub root_unsigned : HasNoSign root_name
  pub apart : (a b : List ℕ) (j k : ℕ) → HasNoSign a → HasNoSign b → j < numbers_bound → k < numbers_bound →
      added_name a j ≡ added_name b k → (a ≡ b) × (j ≡ k)
  -- a name without the sign is no added one
  pub signed : (a b : List ℕ) (k : ℕ) → HasNoSign a → a ≡ added_name b k → ⊥
