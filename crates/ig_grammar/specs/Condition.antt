-- The conditions that no well-scoped grammar meets, each where it holds.
use Rattle.std.specs.Prelude.{◌≡◌, ◌≢◌, ℕ, ◌<◌, ◌+◌, Bool, true, false, List, [], ◌∷◌, ◌++◌, map, length, take, count_by, Contains, Option, Some, None, slice_get}
use Rattle.ig_expr.specs.Expression as tree
use Rattle.ig_expr.specs.Expression.{Expression}
use Rattle.ig_expr.specs.Names.{look_up}
use Rattle.ig_expr.specs.declared.kind.Kind.TheVariants as kind
use Rattle.ig_grammar.specs.Symbol.{Symbol, Call, Label, Guard, Let, Star, Plus, SepStar, SepPlus, Offside, Ignore, Align, Filtered, Entry, gathered}
use Rattle.ig_grammar.specs.Visible.{Visible, names, kind_at, parameters, Occurrence, inside_sequence}
use Rattle.ig_grammar.specs.Name.{is_name}
use Rattle.ig_grammar.specs.Names.{names as declared_names}
use Rattle.ig_grammar.specs.Tabs.{says_bad_width}
use Rattle.ig_grammar.specs.declared.symbol.Alt.{Alt}
use Rattle.ig_grammar.specs.declared.declaration.Assoc.TheVariants.{Free}
use Rattle.ig_grammar.specs.declared.declaration.DeclKind.{DeclKind}
use Rattle.ig_grammar.specs.declared.declaration.DeclKind.TheVariants.{Syntax, Lexical, Layout}
use Rattle.ig_grammar.specs.declared.declaration.Level.{Level}
use Rattle.ig_grammar.specs.declared.declaration.Param.{Param}
use Rattle.ig_grammar.specs.declared.declaration.Decl.{Decl}
use Rattle.ig_grammar.specs.declared.grammar.Grammar.{Grammar}

-- what a grammar has too many of
pub data Many : Type 0 where
  Nonterminals : Many
  Parameters : Many
  Variables : Many

pub data Condition : Type 0 where
  DuplicateName : Condition
  UnknownName : Condition
  WrongArity : Condition
  UnknownVariable : Condition
  DuplicateVariable : Condition
  KindMismatch : Condition
  NoStart : Condition
  StartHasParameters : Condition
  LayoutNotPlain : Condition
  AlignNotList : Condition
  MarkInLexical : Condition
  SyntaxInLexical : Condition
  TooMany : Many → Condition
  BadTabs : Condition

-- of the conditions that hold at one place the one of the least number is told
abbrev pub number : Condition → ℕ
number DuplicateName = 1
number UnknownName = 2
number WrongArity = 3
number UnknownVariable = 4
number DuplicateVariable = 5
number KindMismatch = 6
number NoStart = 7
number StartHasParameters = 8
number LayoutNotPlain = 9
number AlignNotList = 10
number MarkInLexical = 11
number SyntaxInLexical = 12
number (TooMany many) = 13
number BadTabs = 14

-- and of its cases that hold there the first
abbrev pub case_number : Condition → ℕ
case_number (TooMany Nonterminals) = 0
case_number (TooMany Parameters) = 1
case_number (TooMany Variables) = 2
case_number c = 0

-- the most declarations, parameters of a declaration, and parameters, labels and lets of an alternative
abbrev pub most_nonterminals : ℕ
most_nonterminals = 4096

abbrev pub most_parameters : ℕ
most_parameters = 16

abbrev pub most_variables : ℕ
most_variables = 32

-- the declaration of a name is the first with that name
abbrev pub declaration_of : List Decl → List ℕ → Option Decl
declaration_of decls name = look_up (declared_names decls) decls name

-- the expressions of a symbol itself
abbrev pub expressions : Symbol → List Expression
expressions (Call name arguments) = arguments
expressions (Guard e) = e ∷ []
expressions (Let name e) = e ∷ []
expressions (Entry bindings x) = map (λ b. b.value) bindings
expressions x = []

-- the variables that an expression names
abbrev pub variables : Expression → List (List ℕ)
variables (tree.Integer n) = []
variables (tree.Truth b) = []
variables tree.Here = []
variables (tree.Variable name) = name ∷ []
variables (tree.Not a) = variables a
variables (tree.Negative a) = variables a
variables (tree.Binary op a b) = variables a ++ variables b
variables (tree.Of function a) = variables a
variables (tree.Same a b) = variables a ++ variables b
variables (tree.Spells a word) = variables a
variables (tree.Outer a b) = variables a ++ variables b
variables (tree.Inside a b) = variables a ++ variables b
variables (tree.FreeBefore pattern) = []
variables (tree.FreeAfter pattern) = []

-- the expression names a variable that isn't visible
abbrev pub NamesUnknown : Visible → Expression → Type 0
NamesUnknown v e = (name : List ℕ) × Contains (variables e) name × (Contains (names v) name → ⊥)

-- its variables are visible, and it has no kind
abbrev pub HasNoKind : Visible → Expression → Type 0
HasNoKind v e = (NamesUnknown v e → ⊥) × (kind_at v e ≡ None)

-- a star, plus or separated list, filters aside
abbrev pub IsListed : Symbol → Type 0
IsListed (Star x) = Unit {0}
IsListed (Plus x) = Unit {0}
IsListed (SepStar x separator) = Unit {0}
IsListed (SepPlus x separator) = Unit {0}
IsListed (Filtered x filters) = IsListed x
IsListed x = ⊥

abbrev pub IsInLexical : DeclKind → Type 0
IsInLexical Lexical = Unit {0}
IsInLexical Layout = Unit {0}
IsInLexical other = ⊥

-- what holds at a symbol of a declaration of this kind, where these variables are visible
pub data SymbolMeets (decls : List Decl) (within : DeclKind) (v : Visible) : Symbol → Condition → Type 0 where
  -- 2: a call names no declaration
  unknown_name : (name : List ℕ) (arguments : List Expression) →
      declaration_of decls name ≡ None → SymbolMeets decls within v (Call name arguments) UnknownName
  -- 3: a call has another number of arguments than the declaration has parameters
  wrong_arity : (name : List ℕ) (arguments : List Expression) (callee : Decl) →
      declaration_of decls name ≡ Some callee → length arguments ≢ length callee.params →
      SymbolMeets decls within v (Call name arguments) WrongArity
  -- 4: an expression names a variable that isn't visible
  unknown_variable : (x : Symbol) (e : Expression) →
      Contains (expressions x) e → NamesUnknown v e → SymbolMeets decls within v x UnknownVariable
  -- 5: a label or a let has a name that is visible already
  duplicate_label : (name : List ℕ) (x : Symbol) →
      Contains (names v) name → SymbolMeets decls within v (Label name x) DuplicateVariable
  duplicate_let : (name : List ℕ) (e : Expression) →
      Contains (names v) name → SymbolMeets decls within v (Let name e) DuplicateVariable
  -- 6: an expression whose variables are all visible has no kind, a guard isn't of kind bool, or an argument hasn't
  -- its parameter's kind
  no_kind : (x : Symbol) (e : Expression) →
      Contains (expressions x) e → HasNoKind v e → SymbolMeets decls within v x KindMismatch
  guard_kind : (e : Expression) →
      kind_at v e ≢ Some kind.Bool → SymbolMeets decls within v (Guard e) KindMismatch
  argument_kind : (name : List ℕ) (arguments : List Expression) (callee : Decl) (k : ℕ) (e : Expression) (p : Param) →
      declaration_of decls name ≡ Some callee → slice_get arguments k ≡ Some e → slice_get callee.params k ≡ Some p →
      kind_at v e ≢ Some p.kind → SymbolMeets decls within v (Call name arguments) KindMismatch
  -- 10: `align` before a symbol that is no list
  align_not_list : (x : Symbol) → (IsListed x → ⊥) → SymbolMeets decls within v (Align x) AlignNotList
  -- 11: a mark in a lexical or layout declaration
  offside_in_lexical : (x : Symbol) → IsInLexical within → SymbolMeets decls within v (Offside x) MarkInLexical
  ignore_in_lexical : (x : Symbol) → IsInLexical within → SymbolMeets decls within v (Ignore x) MarkInLexical
  align_in_lexical : (x : Symbol) → IsInLexical within → SymbolMeets decls within v (Align x) MarkInLexical
  -- 12: a lexical or layout declaration calls a syntax nonterminal
  syntax_in_lexical : (name : List ℕ) (arguments : List Expression) (callee : Decl) →
      IsInLexical within → declaration_of decls name ≡ Some callee → callee.kind ≡ Syntax →
      SymbolMeets decls within v (Call name arguments) SyntaxInLexical

-- a label or a let whose name is one of the notation
abbrev pub binds_name : Symbol → Bool
binds_name (Label name x) = is_name name
binds_name (Let name e) = is_name name
binds_name x = false

-- the symbols of an alternative and those inside them, in preorder
abbrev pub symbols_of : Decl → Alt → List Occurrence
symbols_of decl alternative = inside_sequence (parameters decl.params) (gathered alternative.symbols)

-- the parameters whose names are of the notation
abbrev pub named_parameters : Decl → ℕ
named_parameters decl = count_by (λ p. is_name p.name) decl.params

-- what holds at an alternative as a whole
pub data AlternativeMeets (decl : Decl) (alternative : Alt) : Condition → Type 0 where
  -- 13: too many parameters, labels and lets; names that passes add don't count, nor their declarations
  too_many_variables : is_name decl.name ≡ true →
      most_variables < named_parameters decl + count_by (λ o. binds_name o.symbol) (symbols_of decl alternative) →
      AlternativeMeets decl alternative (TooMany Variables)

-- a layout declaration isn't plain: it has parameters, more than one level or an associativity, or isn't the first
pub data IsNotPlain (decls : List Decl) (before : ℕ) (decl : Decl) : Type 0 where
  parametrized : decl.params ≢ [] → IsNotPlain decls before decl
  levels : 1 < length decl.levels → IsNotPlain decls before decl
  associativity : (level : Level) → Contains decl.levels level → level.assoc ≢ Free → IsNotPlain decls before decl
  second : (earlier : Decl) → Contains (take before decls) earlier → earlier.kind ≡ Layout → IsNotPlain decls before decl

-- what holds at the head of a declaration that has so many before it
pub data HeadMeets (decls : List Decl) (before : ℕ) (decl : Decl) : Condition → Type 0 where
  -- 1: an earlier declaration has this name
  duplicate_name : Contains (declared_names (take before decls)) decl.name → HeadMeets decls before decl DuplicateName
  -- 5: a parameter has the name of an earlier one
  duplicate_parameter : (k : ℕ) (p : Param) → slice_get decl.params k ≡ Some p →
      Contains (names (parameters (take k decl.params))) p.name → HeadMeets decls before decl DuplicateVariable
  -- 9: a layout declaration isn't plain
  layout_not_plain : decl.kind ≡ Layout → IsNotPlain decls before decl → HeadMeets decls before decl LayoutNotPlain
  -- 13: this is the first declaration too many, or it has too many parameters; names that passes add don't count
  too_many_nonterminals : is_name decl.name ≡ true →
      count_by (λ d. is_name d.name) (take before decls) ≡ most_nonterminals →
      HeadMeets decls before decl (TooMany Nonterminals)
  too_many_parameters : is_name decl.name ≡ true → most_parameters < named_parameters decl →
      HeadMeets decls before decl (TooMany Parameters)

-- what holds at the start line
pub data StartMeets (g : Grammar) : Condition → Type 0 where
  -- 2: the start line names no declaration
  unknown_start : (name : List ℕ) → g.start ≡ Some name → declaration_of g.decls name ≡ None → StartMeets g UnknownName
  -- 7: there is no start line
  no_start : g.start ≡ None → StartMeets g NoStart
  -- 8: the start symbol's declaration has parameters
  start_has_parameters : (name : List ℕ) (decl : Decl) → g.start ≡ Some name → declaration_of g.decls name ≡ Some decl →
      decl.params ≢ [] → StartMeets g StartHasParameters
  -- 14: the grammar says a width that tabs can't have
  bad_tabs : says_bad_width g.tabs ≡ true → StartMeets g BadTabs
