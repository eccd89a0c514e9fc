-- A grammar with its root alternative as a declaration permits the same trees, with the same values.
use Rattle.std.proofs.Common.{◌≡◌, ◌∙◌, ℕ, zero, suc, List, [], ◌∷◌, ◌++◌, Option, Some, None, false, refl, sym, ap, subst, arith, length, inl, inr}
use Rattle.std.specs.Prelude.{◌⊎◌, slice_get, Contains}
use Rattle.std.proofs.lemmas.Option.{slice_get_within}
use Rattle.std.proofs.lemmas.List.Elements.{Contains-push}
use Rattle.ig_text.specs.Input.{Input}
use Rattle.ig_text.specs.declared.tag.Tag.{Tag}
use Rattle.ig_text.specs.Tree.{Tree, Trees}
use Rattle.ig_expr.specs.ValuedTree as valued
use Rattle.ig_text.proofs.Lists.{at_from_contains, contains_from_at, left_at, place_last, place_cases, mapped_at}
use Rattle.ig_grammar.specs.Symbol.{Symbol, Call}
use Rattle.ig_grammar.specs.Names.{names}
use Rattle.ig_grammar.specs.Numbering.{Levelled, Declares, IsDeclaration, IsAlternative, layout_among}
use Rattle.ig_grammar.specs.Condition as condition
use Rattle.ig_grammar.specs.WellScoped.{IsWellScoped}
use Rattle.ig_grammar.specs.Checked.{CheckedGrammar, FitShapes}
use Rattle.ig_grammar.specs.declared.declaration.DeclKind.{DeclKind}
use Rattle.ig_grammar.specs.declared.declaration.DeclKind.TheVariants.{Syntax}
use Rattle.ig_grammar.specs.declared.declaration.Assoc.TheVariants.{Free}
use Rattle.ig_grammar.specs.declared.declaration.Decl.{Decl}
use Rattle.ig_grammar.specs.declared.grammar.Grammar.{Grammar}
use Rattle.ig_grammar.specs.declared.place.Shape.{Shape}
use Rattle.ig_grammar.specs.declared.place.Shape.TheVariants as shape
use Rattle.ig_meaning.specs.Environment.{Environment}
use Rattle.ig_meaning.specs.Operands.{Calls, plain, labelled, HasLeftOperand, HasRightOperand, without_tests}
use Rattle.ig_meaning.specs.Clean.{Applies, EndsInOperand, BeginsWithOperand}
use Rattle.ig_meaning.specs.Derivation.{Covers}
use Rattle.ig_meaning.specs.Annotated.{Bind, Annotates}
use Rattle.ig_meaning.specs.Permitted.{behind_layout, IsRootAlternative, written, declared, Permitted}
use Rattle.ig_pass.specs.SameTrees.{PermitSame}
use Rattle.ig_pass.specs.SameValues.{KeepsValues}
use Rattle.ig_pass.specs.Added.{root_name, IsFresh}
use Rattle.ig_pass.specs.Rooted.{calls_of_start, root_symbols, root_declaration, rooted_grammar, has_root, with_root}
use Rattle.ig_pass.proofs.CallsOnly.{EachCallsOnly}
use Rattle.ig_pass.proofs.Carried.{covers_too}
use Rattle.ig_pass.proofs.CarriedValues.{bind_too}
use Rattle.ig_pass.proofs.RootCalls.{IsOther, root_calls, root_names, layout_kept, no_root_shape, start_other, layout_other, calls_others}
use Rattle.ig_pass.proofs.Spines.{cleaned}

called_name : (name : List ℕ) (x : Symbol) (n : List ℕ) → Calls name x → x ≡ Call n [] → n ≡ name
called_name name x n (plain arguments) e = cc
called_name name x n (labelled label arguments) e = absurd (cc)

only_alternative : (kind : DeclKind) (g : Grammar) (k : ℕ) (a : Levelled) → IsAlternative (root_declaration kind g) k a → a.alternative.symbols ≡ root_symbols g
only_alternative kind g k a (zero, e, h) =
    let v : Some a ≡ Some (record { alternative = record { symbols = root_symbols g }; level = 1; assoc = Free }) = sym h in ap (symbols_or (root_symbols g)) v
  where
    symbols_or : List Symbol → Option Levelled → List Symbol
    symbols_or xs None = xs
    symbols_or xs (Some b) = b.alternative.symbols
only_alternative kind g k a (suc n, e, h) = absurd (cc)

module _ (c : CheckedGrammar) (scoped : IsWellScoped c.grammar) (fit : FitShapes c.grammar c.shapes) (rootless : has_root c.shapes ≡ false)
    (fresh : IsFresh c.grammar root_name) where
  abbrev g : Grammar
  g = c.grammar

  abbrev shapes : List Shape
  shapes = c.shapes

  abbrev r : Decl
  r = root_declaration Syntax c.grammar

  abbrev h : Grammar
  h = rooted_grammar Syntax c.grammar

  abbrev forms : List Shape
  forms = c.shapes ++ shape.Root ∷ []

  -- declarations, from the one to the other and back
  numbered_there : (d : ℕ) (decl : Decl) → IsDeclaration g d decl → IsDeclaration h d decl
  numbered_there d decl n = (n.0, n.1, left_at g.decls (r ∷ []) n.0 decl n.2)

  there : (name : List ℕ) (d : ℕ) (decl : Decl) (s : Shape) → IsOther name → Declares g shapes name d decl s → Declares h forms name d decl s
  there name d decl s other a =
      record {
        numbered = numbered_there d decl a.numbered;
        shaped = (a.shaped.0, a.shaped.1, left_at shapes (shape.Root ∷ []) a.shaped.0 s a.shaped.2);
        named = a.named;
      }

  here : (name : List ℕ) (d : ℕ) (decl : Decl) (s : Shape) → IsOther name → Declares h forms name d decl s → Declares g shapes name d decl s
  here name d decl s other a = go (place_cases g.decls r decl a.numbered.0 a.numbered.2) (place_cases shapes shape.Root s a.shaped.0 a.shaped.2)
    where
      same_place : suc a.numbered.0 ≡ suc a.shaped.0
      same_place = sym a.numbered.1 ∙ a.shaped.1

      go : (slice_get g.decls a.numbered.0 ≡ Some decl) ⊎ ((a.numbered.0 ≡ length g.decls) × (r ≡ decl)) →
          (slice_get shapes a.shaped.0 ≡ Some s) ⊎ ((a.shaped.0 ≡ length shapes) × (shape.Root ≡ s)) → Declares g shapes name d decl s
      go (inl e) (inl f) = record { numbered = (a.numbered.0, a.numbered.1, e); shaped = (a.shaped.0, a.shaped.1, f); named = a.named }
      go (inl e) (inr f) =
          let w = slice_get_within g.decls a.numbered.0 decl e in let m = f.0 in let n = fit.counted in let p = same_place in
          absurd (omega (arith, w, m, n, p))
      go (inr e) f = absurd (other (sym a.named ∙ ap (λ z. z.name) (sym e.1)))

  same_layout : layout_among g.decls ≡ layout_among h.decls
  same_layout = layout_kept g.decls r refl

  called_in : (name : List ℕ) (d : ℕ) (decl : Decl) (s : Shape) (k : ℕ) (a : Levelled) → IsOther name → Declares g shapes name d decl s →
      IsAlternative decl k a → EachCallsOnly IsOther a.alternative.symbols
  called_in name d decl s k a other declares numbered = calls_others g scoped fresh declares.numbered.0 k decl a declares.numbered.2 numbered

  covers_there : (text : Input) {k : DeclKind} {xs : List Symbol} {env after : Environment} {i j : ℕ} {ts : Trees} {starts : List ℕ} →
      EachCallsOnly IsOther xs → Covers g shapes text k xs env i j ts after starts → Covers h forms text k xs env i j ts after starts
  covers_there text = covers_too g shapes h forms text IsOther there called_in same_layout (layout_other g scoped fresh)

  covers_here : (text : Input) {k : DeclKind} {xs : List Symbol} {env after : Environment} {i j : ℕ} {ts : Trees} {starts : List ℕ} →
      EachCallsOnly IsOther xs → Covers h forms text k xs env i j ts after starts → Covers g shapes text k xs env i j ts after starts
  covers_here text =
      covers_too h forms g shapes text IsOther here
      (λ name d decl s k a other declares numbered. called_in name d decl s k a other (here name d decl s other declares) numbered)
      (sym same_layout) (λ name e. layout_other g scoped fresh name (same_layout ∙ e))

  symbols_others : EachCallsOnly IsOther (root_symbols g)
  symbols_others = root_names IsOther (layout_among g.decls) g.start (layout_other g scoped fresh) (start_other g scoped fresh)

  -- the root has no operands
  no_operand : (k : ℕ) (x : Symbol) → slice_get (without_tests (root_symbols g)) k ≡ Some x → Calls root_name x → ⊥
  no_operand k x e calls = let q = root_calls (layout_among g.decls) g.start k x e in go q.0 q.1 q.2
    where
      go : (name : List ℕ) → x ≡ Call name [] → (layout_among g.decls ≡ Some name) ⊎ (g.start ≡ Some name) → ⊥
      go name f (inl w) = layout_other g scoped fresh name w (called_name root_name x name calls f)
      go name f (inr s) = start_other g scoped fresh name s (called_name root_name x name calls f)

  no_left : HasLeftOperand root_name (root_symbols g) → ⊥
  no_left a = no_operand 0 a.first (ap (λ xs. slice_get xs 0) a.split) a.calls

  no_right : HasRightOperand root_name (root_symbols g) → ⊥
  no_right a =
      let m = at_from_contains (a.first ∷ a.others ++ a.last ∷ []) a.last (Contains-push (a.first ∷ a.others) a.last) in
      no_operand m.0 a.last (ap (λ xs. slice_get xs m.0) a.split ∙ m.1) a.calls

  -- an alternative applies in the one where it applies in the other, but that of the root
  applies_there : (tag : Tag) (decl : Decl) (a : Levelled) → Applies g tag decl a → Applies h tag decl a
  applies_there tag decl a p =
      record { d = p.d; k = p.k; tagged = p.tagged; numbered = p.numbered; declaration = numbered_there p.d decl p.declaration }

  applies_here : (tag : Tag) (decl : Decl) (a : Levelled) → Applies h tag decl a →
      Applies g tag decl a ⊎ ((decl.name ≡ root_name) × (a.alternative.symbols ≡ root_symbols g))
  applies_here tag decl a p = go (place_cases g.decls r decl p.declaration.0 p.declaration.2)
    where
      go : (slice_get g.decls p.declaration.0 ≡ Some decl) ⊎ ((p.declaration.0 ≡ length g.decls) × (r ≡ decl)) →
          Applies g tag decl a ⊎ ((decl.name ≡ root_name) × (a.alternative.symbols ≡ root_symbols g))
      go (inl f) = inl (record { d = p.d; k = p.k; tagged = p.tagged; numbered = p.numbered; declaration = (p.declaration.0, p.declaration.1, f) })
      go (inr f) = inr (ap (λ z. z.name) (sym f.1), only_alternative Syntax g p.k a (subst (λ z. IsAlternative z p.k a) (sym f.1) p.numbered))

  ends_there : (tag : Tag) (ts : Trees) (a : Levelled) (t : Tree) → EndsInOperand g tag ts a t → EndsInOperand h tag ts a t
  ends_there tag ts a t e =
      record { decl = e.decl; applies = applies_there tag e.decl a e.applies; has = e.has; before = e.before; last = e.last }

  begins_there : (tag : Tag) (ts : Trees) (a : Levelled) (t : Tree) → BeginsWithOperand g tag ts a t → BeginsWithOperand h tag ts a t
  begins_there tag ts a t e =
      record { decl = e.decl; applies = applies_there tag e.decl a e.applies; has = e.has; after = e.after; first = e.first }

  ends_here : (tag : Tag) (ts : Trees) (a : Levelled) (t : Tree) → EndsInOperand h tag ts a t → EndsInOperand g tag ts a t
  ends_here tag ts a t e = go (applies_here tag e.decl a e.applies)
    where
      go : Applies g tag e.decl a ⊎ ((e.decl.name ≡ root_name) × (a.alternative.symbols ≡ root_symbols g)) → EndsInOperand g tag ts a t
      go (inl p) = record { decl = e.decl; applies = p; has = e.has; before = e.before; last = e.last }
      go (inr f) = absurd (no_right (subst (λ z. HasRightOperand z (root_symbols g)) f.0 (subst (HasRightOperand e.decl.name) f.1 e.has)))

  begins_here : (tag : Tag) (ts : Trees) (a : Levelled) (t : Tree) → BeginsWithOperand h tag ts a t → BeginsWithOperand g tag ts a t
  begins_here tag ts a t e = go (applies_here tag e.decl a e.applies)
    where
      go : Applies g tag e.decl a ⊎ ((e.decl.name ≡ root_name) × (a.alternative.symbols ≡ root_symbols g)) → BeginsWithOperand g tag ts a t
      go (inl p) = record { decl = e.decl; applies = p; has = e.has; after = e.after; first = e.first }
      go (inr f) = absurd (no_left (subst (λ z. HasLeftOperand z (root_symbols g)) f.0 (subst (HasLeftOperand e.decl.name) f.1 e.has)))

  root_there : Declares h forms root_name (suc (length g.decls)) r shape.Root
  root_there =
      record {
        numbered = (length g.decls, refl, place_last g.decls r);
        shaped = (length g.decls, refl, subst (λ k. slice_get forms k ≡ Some shape.Root) fit.counted (place_last shapes shape.Root));
        named = refl;
      }

  abbrev root_by : Levelled
  root_by = record { alternative = record { symbols = root_symbols g }; level = 1; assoc = Free }

  no_root : (name : List ℕ) (d : ℕ) (decl : Decl) → Declares g shapes name d decl shape.Root → ⊥
  no_root name d decl a = no_root_shape shapes a.shaped.0 rootless a.shaped.2

  written_out : IsRootAlternative h forms Syntax (root_symbols g)
  written_out = declared root_name (suc (length g.decls)) r root_by Syntax (root_symbols g) refl root_there (0, refl, refl) refl refl

  permitted_there : (text : Input) (t : Tree) → Permitted g shapes text t → Permitted h forms text t
  permitted_there text t p = go p.kind p.symbols p.root p.covered
    where
      go : (kind : DeclKind) (xs : List Symbol) → IsRootAlternative g shapes kind xs → Covers g shapes text kind xs [] 0 (length text.characters) p.children p.after p.starts → Permitted h forms text t
      go kind xs (written start _ started unrooted same) covered =
          let e : xs ≡ root_symbols g = same ∙ ap (λ s. behind_layout (layout_among g.decls) (calls_of_start s)) (sym started) in
          record {
            kind = Syntax;
            symbols = root_symbols g;
            children = p.children;
            after = p.after;
            starts = p.starts;
            root = written_out;
            covered = covers_there text symbols_others (subst (λ ys. Covers g shapes text Syntax ys [] 0 (length text.characters) p.children p.after p.starts) e covered);
            whole = p.whole;
            clean = cleaned g h ends_here begins_here t p.clean;
          }
      go kind xs (declared start d decl a _ _ started declares numbered same symbols) covered = absurd (no_root start d decl declares)

  -- the declaration that stands for the root
  is_the_root : (d : ℕ) (decl : Decl) → Declares h forms root_name d decl shape.Root → r ≡ decl
  is_the_root d decl a = go (place_cases g.decls r decl a.numbered.0 a.numbered.2)
    where
      go : (slice_get g.decls a.numbered.0 ≡ Some decl) ⊎ ((a.numbered.0 ≡ length g.decls) × (r ≡ decl)) → r ≡ decl
      go (inl e) = absurd (fresh (subst (Contains (names g.decls)) a.named (contains_from_at (names g.decls) a.numbered.0 decl.name (mapped_at (λ (z : Decl). z.name) g.decls a.numbered.0 decl e))))
      go (inr e) = e.1

  some_start : (s : Option (List ℕ)) → g.start ≡ s → (start : List ℕ) × (g.start ≡ Some start)
  some_start None e = absurd (scoped (record { decl = 0; alt = 0; symbol = 0 }) condition.NoStart (condition.no_start e))
  some_start (Some start) e = (start, e)

  permitted_here : (text : Input) (t : Tree) → Permitted h forms text t → Permitted g shapes text t
  permitted_here text t p = go p.kind p.symbols p.root p.covered
    where
      from : Covers h forms text Syntax (root_symbols g) [] 0 (length text.characters) p.children p.after p.starts → Permitted g shapes text t
      from covered =
          let started = some_start g.start refl in
          record {
            kind = Syntax;
            symbols = root_symbols g;
            children = p.children;
            after = p.after;
            starts = p.starts;
            root = written started.0 (root_symbols g) started.1 (λ d decl a. no_root started.0 d decl a) (ap (λ s. behind_layout (layout_among g.decls) (calls_of_start s)) started.1);
            covered = covers_here text symbols_others covered;
            whole = p.whole;
            clean = cleaned h g ends_there begins_there t p.clean;
          }

      go : (kind : DeclKind) (xs : List Symbol) → IsRootAlternative h forms kind xs → Covers h forms text kind xs [] 0 (length text.characters) p.children p.after p.starts → Permitted g shapes text t
      go kind xs (written start _ started unrooted same) covered =
          absurd (unrooted (suc (length g.decls)) r (subst (λ s. Declares h forms s (suc (length g.decls)) r shape.Root) (cc) root_there))
      go kind xs (declared start d decl a _ _ started declares numbered same symbols) covered =
          let named : root_name ≡ start = cc in
          let root = is_the_root d decl (subst (λ s. Declares h forms s d decl shape.Root) (sym named) declares) in
          let e : kind ≡ Syntax = same ∙ ap (λ z. z.kind) (sym root) in
          let f = symbols ∙ only_alternative Syntax g 1 a (subst (λ z. IsAlternative z 1 a) (sym root) numbered) in
          from (subst (λ k. Covers h forms text k (root_symbols g) [] 0 (length text.characters) p.children p.after p.starts) e
          (subst (λ ys. Covers h forms text kind ys [] 0 (length text.characters) p.children p.after p.starts) f covered))

  pub rooted_permits_same : PermitSame c (with_root Syntax c)
  rooted_permits_same = record { same = λ text t. (permitted_there text t, permitted_here text t) }

  annotates_there : (text : Input) (t : Tree) (u : valued.Tree) → Annotates g shapes text t u → Annotates h forms text t u
  annotates_there text t u a = go a.kind a.symbols a.root a.binds
    where
      go : (kind : DeclKind) (xs : List Symbol) → IsRootAlternative g shapes kind xs → Bind g shapes text kind xs [] 0 (length text.characters) a.children a.after → Annotates h forms text t u
      go kind xs (written start _ started unrooted same) binds =
          let e : xs ≡ root_symbols g = same ∙ ap (λ s. behind_layout (layout_among g.decls) (calls_of_start s)) (sym started) in
          record {
            kind = Syntax;
            symbols = root_symbols g;
            children = a.children;
            after = a.after;
            root = written_out;
            binds = bind_too g shapes h forms text IsOther there called_in same_layout (layout_other g scoped fresh) symbols_others
                (subst (λ ys. Bind g shapes text Syntax ys [] 0 (length text.characters) a.children a.after) e binds);
            whole = a.whole;
            same = a.same;
          }
      go kind xs (declared start d decl by _ _ started declares numbered same symbols) binds = absurd (no_root start d decl declares)

  pub rooted_keeps_values : KeepsValues c (with_root Syntax c)
  rooted_keeps_values = record { values = λ text t u p. annotates_there text t u }
