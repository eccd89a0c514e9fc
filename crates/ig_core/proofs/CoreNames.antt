-- The names of the nonterminals of a core grammar differ.
use Rattle.std.proofs.Common.{◌≡◌, ◌⊎◌, ℕ, suc, List, [], ◌∷◌, map, Bool, true, false, if◌then◌else◌, Some, None, length, slice_get, refl, sym, ap, ◌∙◌, subst, arith, inl, inr}
use Rattle.std.specs.Prelude.{◌≢◌}
use Rattle.std.specs.Option.{unwrap_or}
use Rattle.std.proofs.lemmas.Option.{same_Some}
use Rattle.std.proofs.Math.Nat.{suc_inj}
use Rattle.ig_text.proofs.Differing.{one_differs, both_differ}
use Rattle.ig_text.proofs.Lists.{at_from_contains, contains_one, unmapped_at, mapped_at}
use Rattle.ig_grammar.specs.Names.{names, AreDistinct}
use Rattle.ig_grammar.specs.declared.grammar.Grammar.{Grammar}
use Rattle.ig_grammar.specs.declared.declaration.Decl.{Decl}
use Rattle.ig_grammar.specs.declared.place.Shape.{Shape}
use Rattle.ig_grammar.specs.declared.place.Shape.TheVariants.{Root}
use Rattle.ig_item.specs.WellKinded.{NoneTwice}
use Rattle.ig_item.specs.declared.core_grammar.Nonterminal.{Nonterminal}
use Rattle.ig_core.specs.CoreOf.{Shaped, shaped, unrooted, root_among, root_of, written_root, numbered, number_of, nonterminals_of, core_of}
use Rattle.ig_pass.specs.Rooted.{is_root, has_root}
use Rattle.ig_core.specs.Ready.{IsReady}
use Rattle.ig_core.proofs.Places.{origin, root_cases, RootAt, NoRoot}
use Rattle.ig_core.proofs.Scoped.{distinct_names}

abbrev row_name : Shaped → List ℕ
row_name x = x.decl.name

-- a declaration that doesn't stand for the root, from its name among the others
record Kept (decls : List Decl) (shapes : List Shape) (name : List ℕ) : Type 0 where
  k : ℕ
  named : slice_get (names decls) k ≡ Some name
  shape : Shape
  shape_at : slice_get shapes k ≡ Some shape
  other : shape ≢ Root

kept_at : (decls : List Decl) (shapes : List Shape) (i : ℕ) (name : List ℕ) →
    slice_get (map row_name (unrooted decls shapes)) i ≡ Some name → Kept decls shapes name
kept_at decls shapes i name e =
    let row = unmapped_at row_name (unrooted decls shapes) i name e in
    let o = origin decls shapes i row.0 row.1 in
    record {
      k = o.k;
      named = mapped_at (λ (z : Decl). z.name) decls o.k row.0.decl o.decl_at ∙ ap Some row.2;
      shape = row.0.shape;
      shape_at = o.shape_at;
      other = o.other;
    }

-- a list where nothing stands twice, and one more in front that isn't in it
one_more : (x : List ℕ) (xs : List (List ℕ)) → ((j : ℕ) → slice_get xs j ≡ Some x → ⊥) → NoneTwice xs → NoneTwice (x ∷ xs)
one_more x xs fresh none =
    both_differ (x ∷ []) xs (one_differs x) none
    (λ y c d. let at = at_from_contains xs y d in fresh at.0 (at.1 ∙ ap Some (contains_one x y c)))

others_differ : (decls : List Decl) (shapes : List Shape) → AreDistinct (names decls) →
    NoneTwice (map row_name (unrooted decls shapes))
others_differ [] shapes distinct = λ i j x e f. cc
others_differ (d ∷ ds) [] distinct = λ i j x e f. cc
others_differ (d ∷ ds) (s ∷ shapes) distinct =
    go (is_root s) (others_differ ds shapes (λ i j x e f. suc_inj (distinct (suc i) (suc j) x e f)))
  where
    go : (b : Bool) → NoneTwice (map row_name (unrooted ds shapes)) →
        NoneTwice (map row_name (if b then unrooted ds shapes else shaped d s ∷ unrooted ds shapes))
    go true none = none
    go false none =
        one_more d.name (map row_name (unrooted ds shapes))
        (λ j e.
        let k = kept_at ds shapes j d.name e in
        let h : 0 ≡ suc k.k = distinct 0 (suc k.k) d.name refl k.named in
        absurd (omega (arith, h)))
        none

core_names : (number : List ℕ → ℕ) (n : ℕ) (rows : List Shaped) →
    map (λ (x : Nonterminal). x.name) (nonterminals_of number n rows) ≡ map row_name rows
core_names number n [] = refl
core_names number n (x ∷ rows) = ap (λ (ns : List (List ℕ)). x.decl.name ∷ ns) (core_names number (suc n) rows)

-- where a declaration stands for the root, there is one
some_root : (decls : List Decl) (shapes : List Shape) → length shapes ≡ length decls → has_root shapes ≡ true →
    root_among decls shapes ≡ None → ⊥
some_root [] [] same there none = cc
some_root [] (s ∷ shapes) same there none = absurd (omega (arith, same))
some_root (d ∷ ds) [] same there none = cc
some_root (d ∷ ds) (Root ∷ shapes) same there none = cc
some_root (d ∷ ds) (s ∷ shapes) same there none =
    let e : length shapes ≡ length ds = omega (arith, same) in some_root ds shapes e there none

-- the name of the root is none of the others
fresh_root : (g : Grammar) (shapes : List Shape) → AreDistinct (names g.decls) → length shapes ≡ length g.decls →
    has_root shapes ≡ true →
    ((root_among g.decls shapes ≡ None) × NoRoot g.decls shapes) ⊎ ((decl : Decl) × RootAt g.decls shapes decl) →
    (j : ℕ) → slice_get (map row_name (unrooted g.decls shapes)) j ≡ Some (root_of g shapes).name → ⊥
fresh_root g shapes distinct same there (inl none) j e = some_root g.decls shapes same there none.0
fresh_root g shapes distinct same there (inr root) j e =
    let at = root.1 in
    let root_is : (root_of g shapes).name ≡ root.0.name = ap (λ o. (unwrap_or o (written_root g)).name) at.chosen in
    let k = kept_at g.decls shapes j root.0.name (e ∙ ap Some root_is) in
    let same_place : k.k ≡ at.k = distinct k.k at.k root.0.name k.named (mapped_at (λ (z : Decl). z.name) g.decls at.k root.0 at.decl_at) in
    k.other (same_Some k.shape Root (sym k.shape_at ∙ ap (slice_get shapes) same_place ∙ at.shape_at))

pub core_names_differ : (g : Grammar) (shapes : List Shape) → IsReady g shapes → has_root shapes ≡ true →
    NoneTwice (map (λ nonterminal. nonterminal.name) (core_of g shapes))
core_names_differ g shapes ready there =
    let distinct = distinct_names g shapes ready.scoped ready.fit ready.remaining in
    subst NoneTwice (sym (core_names (number_of g shapes) 0 (numbered g shapes)))
    (one_more (root_of g shapes).name (map row_name (unrooted g.decls shapes))
    (fresh_root g shapes distinct ready.fit.counted there (root_cases g.decls shapes)) (others_differ g.decls shapes distinct))
