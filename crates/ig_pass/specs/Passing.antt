-- What a pass gives, and that its result is then well scoped, regular in form, and free of the names that later passes add.
use Rattle.std.specs.Prelude.{◌≡◌, ◌⊎◌, ℕ, ◌≤◌, List, [], ◌++◌, map, length, All, Contains, Some, slice_get, false}
use Rattle.ig_grammar.specs.Symbol.{Symbol, gathered}
use Rattle.ig_grammar.specs.Condition.{symbols_of}
use Rattle.ig_grammar.specs.Name.{is_name}
use Rattle.ig_grammar.specs.Names.{AreDistinct, names}
use Rattle.ig_grammar.specs.Numbering.{alternatives}
use Rattle.ig_grammar.specs.Regular.{OfEachLevel, AlternativesStandWell, IsPlaced}
use Rattle.ig_grammar.specs.Subterms.{subterms_of_symbols}
use Rattle.ig_grammar.specs.Visible.{Occurrence}
use Rattle.ig_grammar.specs.WellScoped.{IsWellScoped}
use Rattle.ig_grammar.specs.declared.symbol.Alt.{Alt}
use Rattle.ig_grammar.specs.declared.declaration.Assoc.TheVariants.{Free}
use Rattle.ig_grammar.specs.declared.declaration.DeclKind.TheVariants.{Layout, Plain}
use Rattle.ig_grammar.specs.declared.declaration.Level.{Level}
use Rattle.ig_grammar.specs.declared.declaration.Param.{Param}
use Rattle.ig_grammar.specs.declared.declaration.Decl.{Decl}
use Rattle.ig_grammar.specs.declared.grammar.Grammar.{Grammar}
use Rattle.ig_pass.specs.Asked.{Asks}
use Rattle.ig_pass.specs.Binders.{binders_of_symbols}
use Rattle.ig_pass.specs.Needs.{IsEntered, AlternativesAreEntered}
use Rattle.ig_pass.specs.Unbound.{LacksName, IsUnbound}

-- a symbol stands round what it may, the bindings of its entry are wanted, and it has none of the names that later passes add
pub record IsSettled (later : List (List ℕ)) (x : Symbol) : Type 0 where
  pub placed : IsPlaced x
  pub entered : IsEntered x
  pub lacks : (name : List ℕ) → Contains later name → LacksName name x

-- and so does each symbol in the alternatives
abbrev pub Settles : List (List ℕ) → Grammar → Type 0
Settles later g =
    (decl : Decl) (a : Alt) → Contains g.decls decl → Contains (alternatives decl.levels) a →
    All (IsSettled later) (subterms_of_symbols (gathered a.symbols))

-- each symbol of the alternative gets what it asks
abbrev pub GetAll : List Decl → Decl → Alt → Type 0
GetAll decls decl a = (o : Occurrence) → Contains (symbols_of decl a) o → Asks decls decl.kind o.visible o.symbol

-- a grammar that is well scoped, in which symbols stand as they may, and which is free of the names
pub record IsReadyFor (later : List (List ℕ)) (g : Grammar) : Type 0 where
  pub scoped : IsWellScoped g
  pub well : OfEachLevel AlternativesStandWell g
  pub entered : OfEachLevel AlternativesAreEntered g
  pub free : (name : List ℕ) → Contains later name → IsUnbound g name

abbrev pub parameter_names : List Param → List (List ℕ)
parameter_names ps = map (λ p. p.name) ps

-- what a pass makes of a declaration: it keeps its name, and gets parameters behind its own, with names that differ from
-- these and from each other, and that are neither of the notation nor those of a later pass
pub record IsRemade (later : List (List ℕ)) (d e : Decl) : Type 0 where
  pub named : e.name ≡ d.name
  -- the kind stays, or the declaration becomes plain
  pub kinded : (e.kind ≡ d.kind) ⊎ (e.kind ≡ Plain)
  pub more : List Param
  pub longer : e.params ≡ d.params ++ more
  pub apart : (p : Param) → Contains more p → Contains (parameter_names d.params) p.name → ⊥
  pub distinct : AreDistinct (parameter_names more)
  pub unnamed : (p : Param) → Contains more p → is_name p.name ≡ false
  pub lacks : (p : Param) → Contains more p → Contains later p.name → ⊥
  -- layout gets no parameters and no further levels, and an associativity is free or one of the source
  pub layout : e.kind ≡ Layout → more ≡ []
  pub levels : length e.levels ≤ length d.levels
  pub associated : (level : Level) → Contains e.levels level →
      (level.assoc ≡ Free) ⊎ ((before : Level) × Contains d.levels before × (before.assoc ≡ level.assoc))

-- a declaration that a pass adds
pub record IsAdded (later : List (List ℕ)) (e : Decl) : Type 0 where
  pub unnamed : is_name e.name ≡ false
  pub kinded : e.kind ≡ Layout → ⊥
  pub distinct : AreDistinct (parameter_names e.params)
  pub lacks : (p : Param) → Contains e.params p → Contains later p.name → ⊥

-- what a pass makes of the declarations: of each one, in order, and others behind them with names of their own
pub record Remakes (later : List (List ℕ)) (g h : Grammar) : Type 0 where
  pub remade : List Decl
  pub added : List Decl
  pub decls : h.decls ≡ remade ++ added
  pub counted : length remade ≡ length g.decls
  pub each : (k : ℕ) (d e : Decl) → slice_get g.decls k ≡ Some d → slice_get remade k ≡ Some e → IsRemade later d e
  pub new : (e : Decl) → Contains added e → IsAdded later e
  pub fresh : (e : Decl) → Contains added e → Contains (names g.decls) e.name → ⊥
  pub apart : AreDistinct (names added)
  -- the start stays, and gets no parameters
  pub start : h.start ≡ g.start
  -- so does the width of tabs
  pub tabs : h.tabs ≡ g.tabs
  pub bare : (k : ℕ) (d e : Decl) → slice_get g.decls k ≡ Some d → slice_get remade k ≡ Some e → g.start ≡ Some d.name →
      e.params ≡ d.params

-- what a pass makes of an alternative: no more labels and lets with names of the notation, and its symbols get what they
-- ask where those of the source do
pub record IsGivenFrom (ds es : List Decl) (d e : Decl) (a b : Alt) : Type 0 where
  pub bound : binders_of_symbols (gathered b.symbols) ≤ binders_of_symbols (gathered a.symbols)
  pub gets : GetAll ds d a → GetAll es e b

-- what a pass gives
pub record Gives (later : List (List ℕ)) (g h : Grammar) : Type 0 where
  pub remakes : Remakes later g h
  -- each alternative is made of one
  pub each : (k : ℕ) (d e : Decl) (b : Alt) → slice_get g.decls k ≡ Some d → slice_get remakes.remade k ≡ Some e →
      Contains (alternatives e.levels) b →
      (a : Alt) × Contains (alternatives d.levels) a × IsGivenFrom g.decls h.decls d e a b
  -- and the symbols of each alternative of an added declaration get what they ask
  pub gets : (e : Decl) (b : Alt) → Contains remakes.added e → Contains (alternatives e.levels) b → GetAll h.decls e b

pub record ResultsAreReady : Type 0 where
  -- the result is well scoped, where the grammar was
  pub scoped : (later : List (List ℕ)) (g h : Grammar) → IsWellScoped g → Gives later g h → IsWellScoped h
  -- symbols of a grammar that is ready for later passes are settled
  pub settled : (later : List (List ℕ)) (g : Grammar) → IsReadyFor later g → Settles later g
  -- and where those of the result are, it is ready, too
  pub result : (later : List (List ℕ)) (g h : Grammar) → IsReadyFor later g → Gives later g h → Settles later h →
      IsReadyFor later h
