-- A well-scoped grammar stays well scoped where its root is written as a declaration.
use Rattle.std.proofs.Common.{◌≡◌, ◌∙◌, ℕ, zero, suc, ◌<◌, List, [], ◌∷◌, ◌++◌, Option, Some, None, true, false, refl, sym, ap, subst, arith, length, inl, inr}
use Rattle.std.specs.Prelude.{◌⊎◌, Contains, slice_get, count_by}
use Rattle.std.proofs.Math.Seq.{take-length}
use Rattle.std.proofs.lemmas.Option.{slice_get_within}
use Rattle.std.proofs.lemmas.List.{take-append-le}
use Rattle.ig_text.proofs.Lists.{place_cases}
use Rattle.ig_text.proofs.Emptiness.{empty_unless}
use Rattle.ig_grammar.specs.Symbol.{Symbol, Call, gathered}
use Rattle.ig_grammar.specs.Names.{names}
use Rattle.ig_grammar.specs.Name.{is_name}
use Rattle.ig_grammar.specs.Visible.{Visible, inside_sequence}
use Rattle.ig_grammar.specs.Numbering.{layout_among, alternatives}
use Rattle.ig_grammar.specs.Condition.{Condition, SymbolMeets, HeadMeets, StartMeets, IsNotPlain, declaration_of}
use Rattle.ig_grammar.specs.Condition as meets
use Rattle.ig_grammar.specs.WellScoped.{IsWellScoped, GrammarHas, DeclarationHas, AlternativeHas}
use Rattle.ig_grammar.specs.declared.symbol.Alt.{Alt}
use Rattle.ig_grammar.specs.declared.declaration.DeclKind.{DeclKind}
use Rattle.ig_grammar.specs.declared.declaration.DeclKind.TheVariants.{Syntax}
use Rattle.ig_grammar.specs.declared.declaration.Decl.{Decl}
use Rattle.ig_grammar.specs.declared.grammar.Grammar.{Grammar}
use Rattle.ig_pass.specs.Added.{root_name, IsFresh}
use Rattle.ig_pass.specs.Rooted.{root_symbols, root_declaration, rooted_grammar}
use Rattle.ig_pass.proofs.AddedNames.{root_is_no_name}
use Rattle.ig_pass.proofs.FirstNamed.{declared_last, declared_still, declared_before, undeclared_before, not_declared, found_itself, distinct, layout_there}
use Rattle.ig_pass.proofs.RootCalls.{root_occurrence}

-- no condition holds there
abbrev pub IsFine : List Decl → DeclKind → Visible → Symbol → Type 0
IsFine decls within v x = (c : Condition) → SymbolMeets decls within v x c → ⊥

-- where none holds, none holds with one declaration more
fine_still : (ds : List Decl) (r : Decl) (kind : DeclKind) (v : Visible) (x : Symbol) → IsFine ds kind v x → IsFine (ds ++ r ∷ []) kind v x
fine_still ds r kind v x f c (meets.unknown_name name arguments none) = f c (meets.unknown_name name arguments (undeclared_before ds r name none))
fine_still ds r kind v x f c (meets.wrong_arity name arguments callee found differs) =
    f c (meets.wrong_arity name arguments callee (declared_before ds r name callee (λ e. f meets.UnknownName (meets.unknown_name name arguments e)) found) differs)
fine_still ds r kind v x f c (meets.unknown_variable y e m u) = f c (meets.unknown_variable y e m u)
fine_still ds r kind v x f c (meets.duplicate_label name y m) = f c (meets.duplicate_label name y m)
fine_still ds r kind v x f c (meets.duplicate_let name e m) = f c (meets.duplicate_let name e m)
fine_still ds r kind v x f c (meets.no_kind y e m k) = f c (meets.no_kind y e m k)
fine_still ds r kind v x f c (meets.guard_kind e k) = f c (meets.guard_kind e k)
fine_still ds r kind v x f c (meets.argument_kind name arguments callee k e p found a b differs) =
    f c (meets.argument_kind name arguments callee k e p (declared_before ds r name callee (λ h. f meets.UnknownName (meets.unknown_name name arguments h)) found) a b differs)
fine_still ds r kind v x f c (meets.align_not_list y l) = f c (meets.align_not_list y l)
fine_still ds r kind v x f c (meets.offside_in_lexical y l) = f c (meets.offside_in_lexical y l)
fine_still ds r kind v x f c (meets.ignore_in_lexical y l) = f c (meets.ignore_in_lexical y l)
fine_still ds r kind v x f c (meets.align_in_lexical y l) = f c (meets.align_in_lexical y l)
fine_still ds r kind v x f c (meets.syntax_in_lexical name arguments callee i found s) =
    f c (meets.syntax_in_lexical name arguments callee i (declared_before ds r name callee (λ h. f meets.UnknownName (meets.unknown_name name arguments h)) found) s)

-- a call without arguments of a declaration without parameters, in a syntax declaration
call_fine : (decls : List Decl) (kind : DeclKind) (v : Visible) (name : List ℕ) (d : Decl) → (meets.IsInLexical kind → ⊥) →
    declaration_of decls name ≡ Some d → d.params ≡ [] → IsFine decls kind v (Call name [])
call_fine decls kind v name d apart e p c (meets.unknown_name _ _ none) = let f : None ≡ Some d = sym none ∙ e in cc
call_fine decls kind v name d apart e p c (meets.wrong_arity _ _ callee found differs) =
    differs (sym (ap length (let s : Some callee ≡ Some d = sym found ∙ e in let t : callee ≡ d = cc in ap (λ z. z.params) t ∙ p)))
call_fine decls kind v name d apart e p c (meets.unknown_variable _ f m u) = let l = m.1 in absurd (omega (arith, l))
call_fine decls kind v name d apart e p c (meets.no_kind _ f m k) = let l = m.1 in absurd (omega (arith, l))
call_fine decls kind v name d apart e p c (meets.argument_kind _ _ callee k f q found a b differs) = cc
call_fine decls kind v name d apart e p c (meets.syntax_in_lexical _ _ callee i found s) = apart i

module _ (g : Grammar) (scoped : IsWellScoped g) (fresh : IsFresh g root_name) where
  abbrev r : Decl
  r = root_declaration Syntax g

  abbrev h : Grammar
  h = rooted_grammar Syntax g

  -- a declaration without parameters, of the name
  abbrev IsFree : List ℕ → Type 0
  IsFree name = (d : Decl) × (declaration_of h.decls name ≡ Some d) × (d.params ≡ [])

  layout_free : (name : List ℕ) → layout_among g.decls ≡ Some name → IsFree name
  layout_free name e =
      let l = layout_there g.decls name e in (
        l.1,
        declared_still g.decls r name l.1 (subst (λ n. declaration_of g.decls n ≡ Some l.1) l.3 (found_itself g.decls (distinct g scoped) l.0 l.1 l.2)),
        empty_unless l.1.params (λ some. scoped (record { decl = suc l.0; alt = 0; symbol = 0 }) meets.LayoutNotPlain (l.1, l.2, meets.layout_not_plain l.4 (meets.parametrized some))),
      )

  start_free : (name : List ℕ) → g.start ≡ Some name → IsFree name
  start_free name e = go (declaration_of g.decls name) refl
    where
      go : (o : Option Decl) → declaration_of g.decls name ≡ o → IsFree name
      go None f = absurd (scoped (record { decl = 0; alt = 0; symbol = 0 }) meets.UnknownName (meets.unknown_start name e f))
      go (Some d) f = (
        d,
        declared_still g.decls r name d f,
        empty_unless d.params (λ some. scoped (record { decl = 0; alt = 0; symbol = 0 }) meets.StartHasParameters (meets.start_has_parameters name d e f some)),
      )

  root_declared : declaration_of h.decls root_name ≡ Some r
  root_declared = declared_last g.decls r (not_declared g.decls root_name fresh)

  start_fine : (c : Condition) → StartMeets h c → ⊥
  start_fine c (meets.unknown_start name started none) =
      let same : root_name ≡ name = cc in
      let f : None ≡ Some r = sym none ∙ ap (declaration_of h.decls) (sym same) ∙ root_declared in cc
  start_fine c (meets.no_start none) = cc
  start_fine c (meets.bad_tabs bad) = scoped (record { decl = 0; alt = 0; symbol = 0 }) meets.BadTabs (meets.bad_tabs bad)
  start_fine c (meets.start_has_parameters name decl started found some) =
      let same : root_name ≡ name = cc in
      let f : Some decl ≡ Some r = sym found ∙ ap (declaration_of h.decls) (sym same) ∙ root_declared in
      some (let e : decl ≡ r = cc in ap (λ z. z.params) e)

  -- at the head of an earlier declaration
  head_before : (b : ℕ) (decl : Decl) (c : Condition) → b < length g.decls → HeadMeets h.decls b decl c → HeadMeets g.decls b decl c
  head_before b decl c l (meets.duplicate_name m) =
      meets.duplicate_name (subst (λ ds. Contains (names ds) decl.name) (take-append-le b g.decls (r ∷ []) (omega (arith, l))) m)
  head_before b decl c l (meets.duplicate_parameter k p e m) = meets.duplicate_parameter k p e m
  head_before b decl c l (meets.layout_not_plain k n) = meets.layout_not_plain k (go n)
    where
      go : IsNotPlain h.decls b decl → IsNotPlain g.decls b decl
      go (meets.parametrized f) = meets.parametrized f
      go (meets.levels f) = meets.levels f
      go (meets.associativity level m f) = meets.associativity level m f
      go (meets.second earlier m f) =
          meets.second earlier (subst (λ ds. Contains ds earlier) (take-append-le b g.decls (r ∷ []) (omega (arith, l))) m) f
  head_before b decl c l (meets.too_many_nonterminals n e) =
      meets.too_many_nonterminals n (ap (count_by (λ d. is_name d.name)) (sym (take-append-le b g.decls (r ∷ []) (omega (arith, l)))) ∙ e)
  head_before b decl c l (meets.too_many_parameters n e) = meets.too_many_parameters n e

  head_root : (c : Condition) → HeadMeets h.decls (length g.decls) r c → ⊥
  head_root c (meets.duplicate_name m) =
      fresh (subst (λ ds. Contains (names ds) root_name) (take-append-le (length g.decls) g.decls (r ∷ []) (omega arith) ∙ take-length g.decls) m)
  head_root c (meets.duplicate_parameter k p e m) = cc
  head_root c (meets.layout_not_plain k n) = cc
  head_root c (meets.too_many_nonterminals n e) = let f : true ≡ false = sym n ∙ root_is_no_name in cc
  head_root c (meets.too_many_parameters n e) = let f : true ≡ false = sym n ∙ root_is_no_name in cc

  symbol_before : (b k s : ℕ) (decl : Decl) (a : Alt) (c : Condition) → slice_get g.decls b ≡ Some decl →
      slice_get (alternatives decl.levels) k ≡ Some a → AlternativeHas h.decls decl a s c → ⊥
  symbol_before b k zero decl a c e f m = scoped (record { decl = suc b; alt = suc k; symbol = 0 }) c (decl, e, (a, f, m))
  symbol_before b k (suc s) decl a c e f m =
      fine_still g.decls r decl.kind m.0.visible m.0.symbol (λ d met. scoped (record { decl = suc b; alt = suc k; symbol = suc s }) d (decl, e, (a, f, (m.0, m.1, met)))) c m.2

  free_call : (name : List ℕ) (v : Visible) → (layout_among g.decls ≡ Some name) ⊎ (g.start ≡ Some name) → IsFine h.decls Syntax v (Call name [])
  free_call name v (inl e) = let q = layout_free name e in call_fine h.decls Syntax v name q.0 (λ l. l) q.1 q.2
  free_call name v (inr e) = let q = start_free name e in call_fine h.decls Syntax v name q.0 (λ l. l) q.1 q.2

  symbol_root : (k s : ℕ) (a : Alt) (c : Condition) → slice_get (alternatives r.levels) k ≡ Some a → AlternativeHas h.decls r a s c → ⊥
  symbol_root k zero a c f (meets.too_many_variables n l) = let t : true ≡ false = sym n ∙ root_is_no_name in cc
  symbol_root zero (suc s) a c f m =
      let same : a ≡ record { symbols = root_symbols g } = cc in
      let q = root_occurrence (layout_among g.decls) g.start s m.0 (ap (λ z. slice_get (inside_sequence [] (gathered z.symbols)) s) (sym same) ∙ m.1) in
      free_call q.0 m.0.visible q.2 c (subst (λ x. SymbolMeets h.decls Syntax m.0.visible x c) q.1 m.2)
  symbol_root (suc k) (suc s) a c f m = cc

  declaration_fine : (b a s : ℕ) (decl : Decl) (c : Condition) → slice_get h.decls b ≡ Some decl → DeclarationHas h.decls b decl a s c → ⊥
  declaration_fine b a s decl c e has = go (place_cases g.decls r decl b e)
    where
      before : (a s : ℕ) → slice_get g.decls b ≡ Some decl → DeclarationHas h.decls b decl a s c → ⊥
      before zero zero f m = scoped (record { decl = suc b; alt = 0; symbol = 0 }) c (decl, f, head_before b decl c (slice_get_within g.decls b decl f) m)
      before zero (suc s) f m = m
      before (suc k) s f m = symbol_before b k s decl m.0 c f m.1 m.2

      last : (a s : ℕ) → DeclarationHas h.decls (length g.decls) r a s c → ⊥
      last zero zero m = head_root c m
      last zero (suc s) m = m
      last (suc k) s m = symbol_root k s m.0 c m.1 m.2

      go : (slice_get g.decls b ≡ Some decl) ⊎ ((b ≡ length g.decls) × (r ≡ decl)) → ⊥
      go (inl f) = before a s f has
      go (inr f) = last a s (subst (λ d. DeclarationHas h.decls (length g.decls) d a s c) (sym f.1) (subst (λ n. DeclarationHas h.decls n decl a s c) f.0 has))

  pub rooted_is_well_scoped : IsWellScoped h
  rooted_is_well_scoped place c has = go place.decl place.alt place.symbol has
    where
      go : (d a s : ℕ) → GrammarHas h d a s c → ⊥
      go zero zero zero m = start_fine c m
      go zero zero (suc s) m = m
      go zero (suc a) s m = m
      go (suc b) a s m = declaration_fine b a s m.0 c m.1 m.2
