-- The declaration of a name is the first one with that name, and stands somewhere.
use Rattle.std.proofs.Common.{◌≡◌, ◌∙◌, ℕ, zero, suc, ◌<◌, List, [], ◌∷◌, ◌++◌, Option, Some, None, Bool, true, false, refl, sym, ap, subst, arith, take, map}
use Rattle.std.specs.Prelude.{option_map, option_and_then, slice_get, Contains, if◌then◌else◌}
use Rattle.std.specs.Cmp.Lexicographic.{bytes_decides}
use Rattle.std.proofs.lemmas.List.{take-map}
use Rattle.std.proofs.lemmas.Option.{slice_get-map, same_Some}
use Rattle.std.proofs.lemmas.List.Elements.{Contains-append_left, Contains-append_right, Contains-push}
use Rattle.ig_expr.specs.Names.{place_of}
use Rattle.ig_text.specs.Words.{is_word}
use Rattle.ig_text.proofs.Positions.{beside-cons}
use Rattle.ig_text.proofs.Differing.{all_differ}
use Rattle.ig_text.proofs.Lists.{unmapped_at, mapped_at}
use Rattle.ig_grammar.specs.Condition.{declaration_of}
use Rattle.ig_grammar.specs.Condition as meets
use Rattle.ig_grammar.specs.Names.{AreDistinct, names}
use Rattle.ig_grammar.specs.WellScoped.{IsWellScoped}
use Rattle.ig_grammar.specs.declared.declaration.Decl.{Decl}
use Rattle.ig_grammar.specs.declared.grammar.Grammar.{Grammar}
use Rattle.ig_grammar.specs.Numbering.{layout_among, name_of_layout}
use Rattle.ig_grammar.specs.declared.declaration.DeclKind.{DeclKind}
use Rattle.ig_grammar.specs.declared.declaration.DeclKind.TheVariants.{Syntax, Lexical, Layout, Plain}
use Rattle.ig_pass.specs.Found.{HasLayout, DeclarationsAreFound}

pub declaration_first : (d : Decl) (ds : List Decl) (name : List ℕ) →
    declaration_of (d ∷ ds) name ≡ (if is_word d.name name then Some d else declaration_of ds name)
declaration_first d ds name = beside-cons (λ n. is_word n name) d.name (names ds) d ds

pub itself_named : (d : Decl) → is_word d.name d.name ≡ true
itself_named d = (bytes_decides d.name d.name).1 refl

abbrev pub or_declared : Option Decl → Option Decl → Option Decl
or_declared None b = b
or_declared (Some a) b = Some a

-- with one declaration more at the end
pub declaration_pushed : (ds : List Decl) (r : Decl) (name : List ℕ) →
    declaration_of (ds ++ r ∷ []) name ≡ or_declared (declaration_of ds name) (declaration_of (r ∷ []) name)
declaration_pushed [] r name = refl
declaration_pushed (d ∷ ds) r name =
    declaration_first d (ds ++ r ∷ []) name ∙ further (is_word d.name name) (declaration_pushed ds r name) ∙
    sym (ap (λ o. or_declared o (declaration_of (r ∷ []) name)) (declaration_first d ds name))
  where
    further : (b : Bool) → declaration_of (ds ++ r ∷ []) name ≡ or_declared (declaration_of ds name) (declaration_of (r ∷ []) name) →
        (if b then Some d else declaration_of (ds ++ r ∷ []) name) ≡ or_declared (if b then Some d else declaration_of ds name) (declaration_of (r ∷ []) name)
    further true e = refl
    further false e = e

-- what is declared stays declared
pub declared_still : (ds : List Decl) (r : Decl) (name : List ℕ) (d : Decl) → declaration_of ds name ≡ Some d → declaration_of (ds ++ r ∷ []) name ≡ Some d
declared_still ds r name d e = declaration_pushed ds r name ∙ ap (λ o. or_declared o (declaration_of (r ∷ []) name)) e

-- a name that wasn't declared is that of the last
pub declared_last : (ds : List Decl) (r : Decl) → declaration_of ds r.name ≡ None → declaration_of (ds ++ r ∷ []) r.name ≡ Some r
declared_last ds r none =
    declaration_pushed ds r r.name ∙ ap (λ o. or_declared o (declaration_of (r ∷ []) r.name)) none ∙ declaration_first r [] r.name ∙ go (is_word r.name r.name) (itself_named r)
  where
    go : (b : Bool) → b ≡ true → (if b then Some r else None) ≡ Some r
    go true e = refl
    go false e = absurd (cc)

pub undeclared_before : (ds : List Decl) (r : Decl) (name : List ℕ) → declaration_of (ds ++ r ∷ []) name ≡ None → declaration_of ds name ≡ None
undeclared_before ds r name e = go (declaration_of ds name) (sym (declaration_pushed ds r name) ∙ e)
  where
    go : (o : Option Decl) → or_declared o (declaration_of (r ∷ []) name) ≡ None → o ≡ None
    go None f = refl
    go (Some d) f = absurd (cc)

-- of a declared name the declaration is the same
pub declared_before : (ds : List Decl) (r : Decl) (name : List ℕ) (callee : Decl) → (declaration_of ds name ≡ None → ⊥) →
    declaration_of (ds ++ r ∷ []) name ≡ Some callee → declaration_of ds name ≡ Some callee
declared_before ds r name callee known e = go (declaration_of ds name) known (sym (declaration_pushed ds r name) ∙ e)
  where
    go : (o : Option Decl) → (o ≡ None → ⊥) → or_declared o (declaration_of (r ∷ []) name) ≡ Some callee → o ≡ Some callee
    go None k f = absurd (k refl)
    go (Some d) k f = f

-- a fresh name is that of no declaration
pub not_declared : (ds : List Decl) (name : List ℕ) → (Contains (names ds) name → ⊥) → declaration_of ds name ≡ None
not_declared [] name fresh = refl
not_declared (d ∷ ds) name fresh =
    declaration_first d ds name ∙ go (is_word d.name name) refl
    (not_declared ds name (λ m. fresh (Contains-append_right (d.name ∷ []) (names ds) name m)))
  where
    go : (b : Bool) → is_word d.name name ≡ b → declaration_of ds name ≡ None → (if b then Some d else declaration_of ds name) ≡ None
    go true e rest = absurd (fresh (subst (λ z. Contains (d.name ∷ names ds) z) ((bytes_decides d.name name).0 e) (Contains-append_left (d.name ∷ []) (names ds) d.name (Contains-push [] d.name))))
    go false e rest = rest

pub first_at : (ds : List Decl) (k : ℕ) (decl : Decl) → slice_get ds k ≡ Some decl →
    ((j : ℕ) (d : Decl) → j < k → slice_get ds j ≡ Some d → d.name ≡ decl.name → ⊥) → declaration_of ds decl.name ≡ Some decl
first_at [] k decl e f = absurd (cc)
first_at (d ∷ ds) zero decl e f = let same : d ≡ decl = cc in subst (λ z. declaration_of (z ∷ ds) decl.name ≡ Some decl) (sym same) (declaration_first decl ds decl.name ∙ go (is_word decl.name decl.name) (itself_named decl))
  where
    go : (b : Bool) → b ≡ true → (if b then Some decl else declaration_of ds decl.name) ≡ Some decl
    go true t = refl
    go false t = absurd (cc)
first_at (d ∷ ds) (suc k) decl e f =
    declaration_first d ds decl.name ∙ go (is_word d.name decl.name) refl (first_at ds k decl e (λ j x l there same. f (suc j) x (omega (arith, l)) there same))
  where
    go : (b : Bool) → is_word d.name decl.name ≡ b → declaration_of ds decl.name ≡ Some decl → (if b then Some d else declaration_of ds decl.name) ≡ Some decl
    go true t h = absurd (f 0 d (omega arith) refl ((bytes_decides d.name decl.name).0 t))
    go false t h = h

-- where no two declarations have one name, each is found under its own
pub found_itself : (ds : List Decl) → AreDistinct (names ds) → (k : ℕ) (d : Decl) → slice_get ds k ≡ Some d → declaration_of ds d.name ≡ Some d
found_itself ds different k d e =
    first_at ds k d e (λ j x less there same.
    let one : j ≡ k = different j k d.name (mapped_at (λ (z : Decl). z.name) ds j x there ∙ ap Some same) (mapped_at (λ (z : Decl). z.name) ds k d e) in omega (arith, less, one))

-- in a well-scoped grammar no name is declared twice
pub distinct : (g : Grammar) → IsWellScoped g → AreDistinct (names g.decls)
distinct g scoped =
    all_differ (names g.decls) (λ k name e earlier.
    let d = unmapped_at (λ (x : Decl). x.name) g.decls k name e in
    scoped (record { decl = suc k; alt = 0; symbol = 0 }) meets.DuplicateName (
      d.0,
      d.1,
      meets.duplicate_name (subst (λ (z : List (List ℕ)). Contains z d.0.name) (take-map (λ (x : Decl). x.name) k g.decls)
          (subst (Contains (take k (names g.decls))) (sym d.2) earlier)),
    ))

-- each declaration changed, and under its name
module _ (change : Decl → Decl) (kept : (d : Decl) → (change d).name ≡ d.name) where
  names_kept : (ds : List Decl) → names (map change ds) ≡ names ds
  names_kept [] = refl
  names_kept (d ∷ ds) = rw (kept d, names_kept ds) refl

  found_along : (ds : List Decl) (p : Option ℕ) → option_and_then (slice_get (map change ds)) p ≡ option_map change (option_and_then (slice_get ds) p)
  found_along ds None = refl
  found_along ds (Some k) = slice_get-map change ds k

  changed : (ds : List Decl) (name : List ℕ) → declaration_of (map change ds) name ≡ option_map change (declaration_of ds name)
  changed ds name =
      ap (λ ns. option_and_then (slice_get (map change ds)) (place_of ns name)) (names_kept ds) ∙ found_along ds (place_of (names ds) name)

-- a declaration that is found stands at a place, under its name
pub found_at : (ds : List Decl) (name : List ℕ) (d : Decl) → declaration_of ds name ≡ Some d → (k : ℕ) × (slice_get ds k ≡ Some d) × (d.name ≡ name)
found_at [] name d e = let none : declaration_of [] name ≡ None = refl in absurd (cc)
found_at (x ∷ ds) name d e = go (is_word x.name name) refl (sym (declaration_first x ds name) ∙ e) (λ f. found_at ds name d f)
  where
    go : (b : Bool) → is_word x.name name ≡ b → (if b then Some x else declaration_of ds name) ≡ Some d →
        (declaration_of ds name ≡ Some d → (k : ℕ) × (slice_get ds k ≡ Some d) × (d.name ≡ name)) →
        (k : ℕ) × (slice_get (x ∷ ds) k ≡ Some d) × (d.name ≡ name)
    go true w f rest =
        let same : x ≡ d = same_Some x d f in (0, f, ap (λ (z : Decl). z.name) (sym same) ∙ (bytes_decides x.name name).0 w)
    go false w f rest = let r = rest f in (suc r.0, r.1, r.2)

-- and so does the layout nonterminal
pub layout_there : (ds : List Decl) (name : List ℕ) → layout_among ds ≡ Some name → HasLayout ds name
layout_there [] name e = absurd (cc)
layout_there (d ∷ ds) name e = go d.kind refl e (λ f. let r = layout_there ds name f in (suc r.0, r.1, r.2, r.3, r.4))
  where
    go : (k : DeclKind) → d.kind ≡ k → name_of_layout d.kind d.name (layout_among ds) ≡ Some name → (layout_among ds ≡ Some name → HasLayout (d ∷ ds) name) → HasLayout (d ∷ ds) name
    go Layout f h rest = (zero, d, refl, (let v : Some d.name ≡ Some name = subst (λ z. name_of_layout z d.name (layout_among ds) ≡ Some name) f h in cc), f)
    go Syntax f h rest = rest (subst (λ z. name_of_layout z d.name (layout_among ds) ≡ Some name) f h)
    go Lexical f h rest = rest (subst (λ z. name_of_layout z d.name (layout_among ds) ≡ Some name) f h)
    go Plain f h rest = rest (subst (λ z. name_of_layout z d.name (layout_among ds) ≡ Some name) f h)

pub found : DeclarationsAreFound
found =
    record {
      first = declaration_first;
      itself = found_itself;
      distinct = distinct;
      changed = changed;
      place = found_at;
      layout = layout_there;
    }
