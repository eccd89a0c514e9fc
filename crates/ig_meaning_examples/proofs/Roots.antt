-- Which symbols stand at the root of a grammar.
use Rattle.std.proofs.Common.{◌≡◌, ◌∙◌, ℕ, zero, suc, List, [], ◌∷◌, refl, sym, ap, subst, arith, Some, inl, inr}
use Rattle.std.specs.Prelude.{◌≢◌, map, slice_get}
use Rattle.ig_grammar.specs.Symbol.{Symbol, Call}
use Rattle.ig_grammar.specs.Numbering.{Levelled, by_level, Declares, IsAlternative, layout_among, as_written}
use Rattle.ig_meaning.specs.Permitted.{IsRootAlternative, written, declared, behind_layout}
use Rattle.ig_grammar.specs.declared.declaration.DeclKind.{DeclKind}
use Rattle.ig_grammar.specs.declared.declaration.DeclKind.TheVariants.{Syntax}
use Rattle.ig_grammar.specs.declared.declaration.Decl.{Decl}
use Rattle.ig_grammar.specs.declared.grammar.Grammar.{Grammar}
use Rattle.ig_grammar.specs.declared.place.Shape.{Shape}
use Rattle.ig_grammar.specs.declared.place.Shape.TheVariants as shape
use Rattle.ig_meaning_examples.proofs.Choosing.{IsAmong, OfEach, no_root}

-- the root alternative, and no other one
pub record IsOnlyRoot (g : Grammar) (shapes : List Shape) (kind : DeclKind) (symbols : List Symbol) : Type 0 where
  pub root : IsRootAlternative g shapes kind symbols
  pub only : (k : DeclKind) (xs : List Symbol) → IsRootAlternative g shapes k xs → (k ≡ kind) × (xs ≡ symbols)

abbrev pub written_symbols : Grammar → List ℕ → List Symbol
written_symbols g start = behind_layout (layout_among g.decls) (Call start [] ∷ [])

-- where no declaration stands for the root
without_root : (g : Grammar) (shapes : List Shape) (start : List ℕ) → g.start ≡ Some start →
    ((name : List ℕ) (d : ℕ) (decl : Decl) → Declares g shapes name d decl shape.Root → ⊥) →
    IsOnlyRoot g shapes Syntax (written_symbols g start)
without_root g shapes start starts none =
    record { root = written start (written_symbols g start) starts (none start) refl; only = only_written g shapes start starts none }
  where
    only_written : (g : Grammar) (shapes : List Shape) (start : List ℕ) → g.start ≡ Some start →
        ((name : List ℕ) (d : ℕ) (decl : Decl) → Declares g shapes name d decl shape.Root → ⊥) → (k : DeclKind) (xs : List Symbol) →
        IsRootAlternative g shapes k xs → (k ≡ Syntax) × (xs ≡ written_symbols g start)
    only_written g shapes start starts none k xs (written name _ named other same) =
        let is : name ≡ start = let both : Some name ≡ Some start = sym named ∙ starts in cc in
        (refl, same ∙ ap (λ z. behind_layout (layout_among g.decls) (Call z [] ∷ [])) is)
    only_written g shapes start starts none k xs (declared name d decl a _ _ named declares numbered read same) =
        absurd (none name d decl declares)

rules_only : (decls : List Decl) → OfEach (λ s. s ≢ shape.Root) (map (λ decl. shape.Rule) decls)
rules_only [] = tt
rules_only (decl ∷ others) = ((λ e. cc), rules_only others)

-- where each declaration stands for itself
pub written_root : (g : Grammar) (start : List ℕ) → g.start ≡ Some start →
    IsOnlyRoot g (as_written g) Syntax (written_symbols g start)
written_root g start starts = without_root g (as_written g) start starts (no_root g (as_written g) (rules_only g.decls))

-- the declarations of the shape `Root`
abbrev pub roots : List Decl → List Shape → List Decl
roots [] shapes = []
roots (decl ∷ others) [] = []
roots (decl ∷ others) (shape.Root ∷ shapes) = decl ∷ roots others shapes
roots (decl ∷ others) (form ∷ shapes) = roots others shapes

root_among : (decls : List Decl) (shapes : List Shape) (k : ℕ) (decl : Decl) → slice_get decls k ≡ Some decl →
    slice_get shapes k ≡ Some shape.Root → IsAmong (roots decls shapes) decl
root_among [] shapes k decl e f = absurd (cc)
root_among (d ∷ ds) [] k decl e f = absurd (cc)
root_among (d ∷ ds) (shape.Root ∷ ss) zero decl e f = inl (cc)
root_among (d ∷ ds) (form ∷ ss) zero decl e f = absurd (cc)
root_among (d ∷ ds) (shape.Root ∷ ss) (suc k) decl e f = inr (root_among ds ss k decl e f)
root_among (d ∷ ds) (form ∷ ss) (suc k) decl e f = root_among ds ss k decl e f

among_one : (a b : Decl) → IsAmong (a ∷ []) b → b ≡ a
among_one a b (inl e) = sym e
among_one a b (inr e) = absurd e

declared_among : (g : Grammar) (shapes : List Shape) (name : List ℕ) (d : ℕ) (decl : Decl) →
    Declares g shapes name d decl shape.Root → IsAmong (roots g.decls shapes) decl
declared_among g shapes name d decl declares =
    let n = declares.numbered in
    let s = declares.shaped in
    let same : s.0 ≡ n.0 = let both : suc s.0 ≡ suc n.0 = sym s.1 ∙ n.1 in omega (arith, both) in
    root_among g.decls shapes n.0 decl n.2 (subst (λ k. slice_get shapes k ≡ Some shape.Root) same s.2)

only_declaration : (g : Grammar) (shapes : List Shape) (decl : Decl) → roots g.decls shapes ≡ decl ∷ [] → (name : List ℕ) (d : ℕ)
    (other : Decl) → Declares g shapes name d other shape.Root → other ≡ decl
only_declaration g shapes decl one name d other declares =
    among_one decl other (subst (λ ds. IsAmong ds other) one (declared_among g shapes name d other declares))

only_alternative : (decl : Decl) (a b : Levelled) → IsAlternative decl 1 a → IsAlternative decl 1 b → b ≡ a
only_alternative decl a b first second =
    let same : second.0 ≡ first.0 = let both : suc second.0 ≡ suc first.0 = sym second.1 ∙ first.1 in omega (arith, both) in
    let both : Some b ≡ Some a = sym (subst (λ k. slice_get (by_level decl.levels) k ≡ Some b) same second.2) ∙ first.2 in
    cc

-- where the start is the one declaration that stands for the root
pub declared_root : (g : Grammar) (shapes : List Shape) (start : List ℕ) (d : ℕ) (decl : Decl) (a : Levelled) → g.start ≡ Some start →
    Declares g shapes start d decl shape.Root → IsAlternative decl 1 a → roots g.decls shapes ≡ decl ∷ [] →
    IsOnlyRoot g shapes decl.kind a.alternative.symbols
declared_root g shapes start d decl a starts declares numbered one =
    record {
      root = declared start d decl a decl.kind a.alternative.symbols starts declares numbered refl refl;
      only = only_declared g shapes start d decl a starts declares numbered one;
    }
  where
    only_declared : (g : Grammar) (shapes : List Shape) (start : List ℕ) (d : ℕ) (decl : Decl) (a : Levelled) → g.start ≡ Some start →
        Declares g shapes start d decl shape.Root → IsAlternative decl 1 a → roots g.decls shapes ≡ decl ∷ [] →
        (k : DeclKind) (xs : List Symbol) → IsRootAlternative g shapes k xs → (k ≡ decl.kind) × (xs ≡ a.alternative.symbols)
    only_declared g shapes start d decl a starts declares numbered one k xs (written name _ named other same) =
        let is : start ≡ name = let both : Some start ≡ Some name = sym starts ∙ named in cc in
        absurd (other d decl (subst (λ z. Declares g shapes z d decl shape.Root) is declares))
    only_declared g shapes start d decl a starts declares numbered one k xs (declared name e other b _ _ named declares' numbered' read same) =
        let is : other ≡ decl = only_declaration g shapes decl one name e other declares' in
        let which : b ≡ a = only_alternative decl a b numbered (subst (λ z. IsAlternative z 1 b) is numbered') in
        (read ∙ ap (λ z. z.kind) is, same ∙ ap (λ z. z.alternative.symbols) which)

-- where no shape is `Root`
pub rootless_root : (g : Grammar) (shapes : List Shape) (start : List ℕ) → g.start ≡ Some start → roots g.decls shapes ≡ [] →
    IsOnlyRoot g shapes Syntax (written_symbols g start)
rootless_root g shapes start starts none = without_root g shapes start starts (λ name d decl declares. no_declaration g shapes none name d decl declares)
  where
    no_declaration : (g : Grammar) (shapes : List Shape) → roots g.decls shapes ≡ [] → (name : List ℕ) (d : ℕ) (decl : Decl) →
        Declares g shapes name d decl shape.Root → ⊥
    no_declaration g shapes none name d decl declares = subst (λ ds. IsAmong ds decl) none (declared_among g shapes name d decl declares)
