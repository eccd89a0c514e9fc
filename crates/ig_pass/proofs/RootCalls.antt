-- What the root alternative calls, and what a grammar without the name of the root calls.
use Rattle.std.proofs.Common.{◌≡◌, ◌∙◌, ℕ, zero, suc, List, [], ◌∷◌, ◌++◌, Option, Some, None, Bool, true, false, refl, sym, ap, subst, inl, inr}
use Rattle.std.specs.Prelude.{◌⊎◌, ◌≢◌, slice_get, Contains, if◌then◌else◌}
use Rattle.ig_text.proofs.Lists.{at_from_contains, contains_from_at, mapped_at}
use Rattle.ig_grammar.specs.Symbol.{Symbol, Call, gathered}
use Rattle.ig_grammar.specs.Names.{names}
use Rattle.ig_grammar.specs.Numbering.{Levelled, IsAlternative, layout_among, name_of_layout}
use Rattle.ig_grammar.specs.Condition as condition
use Rattle.ig_grammar.specs.Condition.{Condition, SymbolMeets, declaration_of, symbols_of}
use Rattle.ig_grammar.specs.Visible.{Visible, Occurrence, at, inside_sequence, parameters}
use Rattle.ig_grammar.specs.WellScoped.{IsWellScoped}
use Rattle.ig_grammar.specs.declared.declaration.DeclKind.{DeclKind}
use Rattle.ig_grammar.specs.declared.declaration.DeclKind.TheVariants.{Syntax, Lexical, Layout, Plain}
use Rattle.ig_grammar.specs.declared.declaration.Decl.{Decl}
use Rattle.ig_grammar.specs.declared.grammar.Grammar.{Grammar}
use Rattle.ig_grammar.specs.declared.place.Shape.{Shape}
use Rattle.ig_grammar.specs.declared.place.Shape.TheVariants as shape
use Rattle.ig_meaning.specs.Operands.{without_tests}
use Rattle.ig_meaning.specs.Permitted.{behind_layout}
use Rattle.ig_pass.specs.Added.{root_name, IsFresh}
use Rattle.ig_pass.specs.Rooted.{calls_of_start, has_root, is_root}
use Rattle.ig_pass.proofs.CallsOnly.{IsCallOf, EachCallsOnly, each_gathered, from_symbols}
use Rattle.ig_pass.specs.EachLevel.{alternative_at}
use Rattle.ig_pass.proofs.FirstNamed.{not_declared, layout_there}

-- another name than that of the root
abbrev pub IsOther : List ℕ → Type 0
IsOther name = name ≢ root_name

-- each symbol of the root alternative, guards and lets aside, calls the layout nonterminal or the start
pub root_calls : (l s : Option (List ℕ)) (k : ℕ) (x : Symbol) →
    slice_get (without_tests (behind_layout l (calls_of_start s))) k ≡ Some x →
    (name : List ℕ) × (x ≡ Call name []) × ((l ≡ Some name) ⊎ (s ≡ Some name))
root_calls None None k x e = absurd (cc)
root_calls None (Some s) zero x e = (s, cc, inr refl)
root_calls None (Some s) (suc k) x e = absurd (cc)
root_calls (Some w) None zero x e = (w, cc, inl refl)
root_calls (Some w) None (suc k) x e = absurd (cc)
root_calls (Some w) (Some s) zero x e = (w, cc, inl refl)
root_calls (Some w) (Some s) (suc zero) x e = (s, cc, inr refl)
root_calls (Some w) (Some s) (suc (suc k)) x e = absurd (cc)

symbol_is : (v : Visible) (x : Symbol) (o : Occurrence) → Some (at v x) ≡ Some o → o.symbol ≡ x
symbol_is v x o e = let same : at v x ≡ o = cc in ap (λ (z : Occurrence). z.symbol) (sym same)

-- and so does each occurrence in it
pub root_occurrence : (l s : Option (List ℕ)) (k : ℕ) (o : Occurrence) →
    slice_get (inside_sequence [] (gathered (behind_layout l (calls_of_start s)))) k ≡ Some o →
    (name : List ℕ) × (o.symbol ≡ Call name []) × ((l ≡ Some name) ⊎ (s ≡ Some name))
root_occurrence None None k o e = absurd (cc)
root_occurrence None (Some s) zero o e = (s, symbol_is [] (Call s []) o e, inr refl)
root_occurrence None (Some s) (suc k) o e = absurd (cc)
root_occurrence (Some w) None zero o e = (w, symbol_is [] (Call w []) o e, inl refl)
root_occurrence (Some w) None (suc k) o e = absurd (cc)
root_occurrence (Some w) (Some s) zero o e = (w, symbol_is [] (Call w []) o e, inl refl)
root_occurrence (Some w) (Some s) (suc zero) o e = (s, symbol_is [] (Call s []) o e, inr refl)
root_occurrence (Some w) (Some s) (suc (suc k)) o e = absurd (cc)

pub root_names : (Named : List ℕ → Type 0) (l s : Option (List ℕ)) → ((name : List ℕ) → l ≡ Some name → Named name) →
    ((name : List ℕ) → s ≡ Some name → Named name) → EachCallsOnly Named (behind_layout l (calls_of_start s))
root_names Named None None f h = tt
root_names Named None (Some s) f h = (h s refl, tt)
root_names Named (Some w) None f h = (f w refl, tt)
root_names Named (Some w) (Some s) f h = (f w refl, (h s refl, tt))

-- a last declaration that is no layout changes none
pub layout_kept : (decls : List Decl) (root : Decl) → root.kind ≡ Syntax → layout_among decls ≡ layout_among (decls ++ root ∷ [])
layout_kept [] root k = rw k refl
layout_kept (d ∷ ds) root k = ap (name_of_layout d.kind d.name) (layout_kept ds root k)

pub no_root_shape : (shapes : List Shape) (k : ℕ) → has_root shapes ≡ false → slice_get shapes k ≡ Some shape.Root → ⊥
no_root_shape [] k e h = cc
no_root_shape (s ∷ ss) zero e h =
    let f : has_root (shape.Root ∷ ss) ≡ false = subst (λ z. has_root (z ∷ ss) ≡ false) (let v : s ≡ shape.Root = cc in v) e in cc
no_root_shape (s ∷ ss) (suc k) e h = no_root_shape ss k (go (is_root s) e) h
  where
    go : (b : Bool) → (if b then true else has_root ss) ≡ false → has_root ss ≡ false
    go true f = absurd (cc)
    go false f = f

-- in a well-scoped grammar that doesn't have the name of the root, no symbol calls it
module _ (g : Grammar) (scoped : IsWellScoped g) (fresh : IsFresh g root_name) where
  pub start_other : (name : List ℕ) → g.start ≡ Some name → IsOther name
  start_other name started e =
      scoped (record { decl = 0; alt = 0; symbol = 0 }) condition.UnknownName
      (condition.unknown_start name started (ap (declaration_of g.decls) e ∙ not_declared g.decls root_name fresh))

  pub layout_other : (name : List ℕ) → layout_among g.decls ≡ Some name → IsOther name
  layout_other name e same =
      let r = layout_there g.decls name e in
      fresh (subst (Contains (names g.decls)) (r.3 ∙ same) (contains_from_at (names g.decls) r.0 r.1.name (mapped_at (λ (z : Decl). z.name) g.decls r.0 r.1 r.2)))

  call_other : (within : DeclKind) (o : Occurrence) → ((k : Condition) → SymbolMeets g.decls within o.visible o.symbol k → ⊥) → IsCallOf IsOther o.symbol
  call_other within o unmet = go o.symbol unmet
    where
      go : (x : Symbol) → ((k : Condition) → SymbolMeets g.decls within o.visible x k → ⊥) → IsCallOf IsOther x
      go (Call name arguments) f =
          λ e. f condition.UnknownName (condition.unknown_name name arguments (ap (declaration_of g.decls) e ∙ not_declared g.decls root_name fresh))
      go x f = tt

  pub calls_others : (b k : ℕ) (decl : Decl) (a : Levelled) → slice_get g.decls b ≡ Some decl → IsAlternative decl k a →
      EachCallsOnly IsOther a.alternative.symbols
  calls_others b k decl a declared numbered =
      each_gathered IsOther a.alternative.symbols (from_symbols IsOther (gathered a.alternative.symbols) (parameters decl.params) (λ o m.
      let there = at_from_contains (symbols_of decl a.alternative) o m in
      call_other decl.kind o (λ c meets. scoped (record { decl = suc b; alt = suc numbered.0; symbol = suc there.0 }) c
      (decl, declared, (a.alternative, alternative_at decl.levels numbered.0 a numbered.2, (o, there.1, meets))))))
