-- Names that the pass adds, and those that it doesn't; environments that agree on these. Symbols without the marks round them.
use Rattle.std.specs.Prelude.{◌≡◌, ◌≢◌, ℕ, Bool, true, false, List, [], ◌∷◌, Option}
use Rattle.ig_expr.specs.Names.{look_up}
use Rattle.ig_expr.specs.Expression.{Expression}
use Rattle.ig_expr.specs.Expression as expression
use Rattle.ig_expr.specs.declared.value.Value.{Value}
use Rattle.ig_grammar.specs.Binding.{Binding}
use Rattle.ig_grammar.specs.Symbol.{Symbol, Offside, Ignore, Align}
use Rattle.ig_meaning.specs.Environment.{Environment, names, values}
use Rattle.ig_grammar.specs.declared.declaration.DeclKind.{DeclKind}
use Rattle.ig_grammar.specs.declared.declaration.DeclKind.TheVariants.{Syntax}
use Rattle.ig_blocks_parts.specs.Setting.{Setting, Pair, lacking, carried, opened, cleared, opened_by, cleared_by}

-- the names differ
pub record AreApart (s : Setting) : Type 0 where
  pub m_f : s.m ≢ s.f
  pub m_c : s.m ≢ s.c
  pub f_c : s.f ≢ s.c

-- a name that the pass doesn't add
pub record IsWritten (s : Setting) (x : List ℕ) : Type 0 where
  pub not_m : x ≢ s.m
  pub not_f : x ≢ s.f
  pub not_c : x ≢ s.c

-- each variable of an expression has a name that the pass doesn't add
abbrev pub Reads : Setting → Expression → Type 0
Reads s (expression.Integer n) = Unit {0}
Reads s (expression.Truth b) = Unit {0}
Reads s expression.Here = Unit {0}
Reads s (expression.Variable x) = IsWritten s x
Reads s (expression.Not a) = Reads s a
Reads s (expression.Negative a) = Reads s a
Reads s (expression.Binary op a b) = Reads s a × Reads s b
Reads s (expression.Of f a) = Reads s a
Reads s (expression.Same a b) = Reads s a × Reads s b
Reads s (expression.Spells a word) = Reads s a
Reads s (expression.Outer a b) = Reads s a × Reads s b
Reads s (expression.Inside a b) = Reads s a × Reads s b
Reads s (expression.FreeBefore pattern) = Unit {0}
Reads s (expression.FreeAfter pattern) = Unit {0}

abbrev pub AllRead : Setting → List Expression → Type 0
AllRead s [] = Unit {0}
AllRead s (e ∷ es) = Reads s e × AllRead s es

abbrev pub BindingsRead : Setting → List Binding → Type 0
BindingsRead s [] = Unit {0}
BindingsRead s (b ∷ bs) = (IsWritten s b.name × Reads s b.value) × BindingsRead s bs

abbrev pub IsSteady : Pair → Type 0
IsSteady lacking = Unit {0}
IsSteady carried = Unit {0}
IsSteady (opened a b) = ⊥
IsSteady cleared = ⊥

-- in a declaration of kind c tests stand only where tokens are exposed
abbrev pub IsProper : DeclKind → Pair → Type 0
IsProper c lacking = Unit {0}
IsProper c carried = c ≡ Syntax
IsProper c (opened a b) = c ≡ Syntax
IsProper c cleared = Unit {0}

-- a symbol without the marks round it, its pair, and whether it is aligned
abbrev pub bare : Symbol → Symbol
bare (Offside x) = bare x
bare (Ignore x) = bare x
bare (Align x) = x
bare x = x

abbrev pub pair_in : Setting → Pair → Symbol → Pair
pair_in s p (Offside x) = pair_in s (opened_by s p) x
pair_in s p (Ignore x) = pair_in s (cleared_by p) x
pair_in s p x = p

abbrev pub is_aligned : Symbol → Bool
is_aligned (Offside x) = is_aligned x
is_aligned (Ignore x) = is_aligned x
is_aligned (Align x) = true
is_aligned x = false

-- the value of a name
abbrev pub get : Environment → List ℕ → Option Value
get env x = look_up (names env) (values env) x

-- the environments give the same values to all names that the pass doesn't add
pub record Agree (s : Setting) (env other : Environment) : Type 0 where
  pub same : (x : List ℕ) → IsWritten s x → get env x ≡ get other x

-- the added names keep their values
pub record Keep (s : Setting) (env after : Environment) : Type 0 where
  pub keeps_m : get after s.m ≡ get env s.m
  pub keeps_f : get after s.f ≡ get env s.f
  pub keeps_c : get after s.c ≡ get env s.c
