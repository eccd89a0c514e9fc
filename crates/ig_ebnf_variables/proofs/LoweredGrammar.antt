-- The pass's grammar has what the induction uses.
use Rattle.ig_text.proofs.Differing.{both_differ}
use Rattle.ig_text.proofs.Lists.{at_from_contains, left_at, mapped_at, either_place, from_map}
use Rattle.std.proofs.lemmas.Option.{same_Some}
use Rattle.std.proofs.Common.{◌≡◌, ℕ, suc, ◌+◌, ◌<◌, List, [], ◌∷◌, ◌++◌, map, length, refl, sym, ◌∙◌, ap, subst}
use Rattle.std.proofs.Common.{Some, None, inl, inr, arith}
use Rattle.std.specs.Prelude.{◌⊎◌, slice_get}
use Rattle.std.proofs.lemmas.Option.{slice_get_within}
use Rattle.std.proofs.lemmas.List.{length-map, map-append}
use Rattle.ig_ebnf_variables.proofs.Definitions.{AllDeclared, Takes, DeclaredAs, NumberedTo, NumberedFrom, IsOld, MayBeLowered}
use Rattle.ig_ebnf_variables.proofs.AddedNames.{titles, titles_distinct, AllPlain, all_plain}
use Rattle.ig_ebnf_variables.proofs.Elements.{declared_first, declared_second}
use Rattle.ig_ebnf_variables.specs.Lists.{lowered_grammar, Made, new_symbols, added_symbols, new_alts, added_alts, new_levels}
use Rattle.ig_ebnf_variables.specs.Lists.{added_levels, count_symbols}
use Rattle.ig_ebnf_variables.specs.Lists.{new_declaration, added_by, all_added, decls_of, forms_of}
use Rattle.ig_grammar.specs.Names.{names, AreDistinct}
use Rattle.ig_grammar.specs.Numbering.{Levelled, Declares, IsAlternative, by_level, layout_among, name_of_layout}
use Rattle.ig_grammar.specs.Symbol.{gathered}
use Rattle.ig_grammar.specs.Visible.{Visible, parameters}
use Rattle.ig_grammar.specs.declared.declaration.Assoc.{Assoc}
use Rattle.ig_grammar.specs.declared.declaration.Decl.{Decl}
use Rattle.ig_grammar.specs.declared.declaration.Level.{Level}
use Rattle.ig_grammar.specs.declared.grammar.Grammar.{Grammar}
use Rattle.ig_grammar.specs.declared.place.Shape.{Shape}
use Rattle.ig_grammar.specs.declared.symbol.Alt.{Alt}
use Rattle.ig_meaning.specs.Laws.{HasNoOperators}

pub further : {X : Type 0} (xs ys : List X) (k n : ℕ) → n ≡ length xs + k → slice_get (xs ++ ys) n ≡ slice_get ys k
further [] ys k n e = ap (slice_get ys) (omega (arith, e))
further (x ∷ xs) ys k ℕ.zero e = absurd (let f : ⊥ = omega (arith, e) in f)
further (x ∷ xs) ys k (suc n) e = further xs ys k n (omega (arith, e))

pub layout_plain : (ms : List Made) → AllPlain ms → layout_among (decls_of ms) ≡ None
layout_plain [] p = refl
layout_plain (m ∷ ms) p = ap (λ z. name_of_layout z m.decl.name (layout_among (decls_of ms))) p.0.kind ∙
    layout_plain ms p.1

layout_new : (ds es : List Decl) → layout_among es ≡ None →
    layout_among (map new_declaration ds ++ es) ≡ layout_among ds
layout_new [] es e = e
layout_new (d ∷ ds) es e = ap (name_of_layout d.kind d.name) (layout_new ds es e)

-- alternatives, with where their numbers begin
module _ (g' : Grammar) (shapes' : List Shape) (of : List ℕ) (v : Visible) where
  pub record AltTo (a lower : Levelled) : Type 0 where
    pub k : ℕ
    pub same : lower.alternative.symbols ≡ new_symbols of v k (gathered a.alternative.symbols)
    pub present : AllDeclared g' shapes' (added_symbols of v k (gathered a.alternative.symbols))

  abbrev leveled : Assoc → List Alt → List Level
  leveled assoc alts = record { assoc = assoc; alts = alts } ∷ []

  May : List ℕ → Type 0
  May name = Unit {0}

  alts_to : (assoc : Assoc) (alts : List Alt) (k m : ℕ) (a : Levelled) →
      slice_get (by_level (leveled assoc alts)) m ≡ Some a → AllDeclared g' shapes' (added_alts of v k alts) →
      (lower : Levelled) × (slice_get (by_level (leveled assoc (new_alts of v k alts))) m ≡ Some lower) × AltTo a
      lower
  alts_to assoc [] k m a e d = absurd (cc)
  alts_to assoc (x ∷ alts) k ℕ.zero a e d =
      let same : record { alternative = x; level = 1; assoc = assoc } ≡ a =
      same_Some (record { alternative = x; level = 1; assoc = assoc }) a e in (
        record {
          alternative = record { symbols = new_symbols of v k (gathered x.symbols) };
          level = 1;
          assoc = assoc;
        },
        refl,
        subst
            (λ z. AltTo z
            (record
            { alternative = record { symbols = new_symbols of v k (gathered x.symbols) }; level = 1; assoc = assoc }))
            same
            (record {
              k = k;
              same = refl;
              present =
                  declared_first g' shapes' May (added_symbols of v k (gathered x.symbols))
                  (added_alts of v (k + count_symbols (gathered x.symbols)) alts) d;
            }),
      )
  alts_to assoc (x ∷ alts) k (suc m) a e d =
      alts_to assoc alts (k + count_symbols (gathered x.symbols)) m a e
      (declared_second g' shapes' May (added_symbols of v k (gathered x.symbols))
      (added_alts of v (k + count_symbols (gathered x.symbols)) alts) d)

  alts_from : (assoc : Assoc) (alts : List Alt) (k m : ℕ) (lower : Levelled) →
      slice_get (by_level (leveled assoc (new_alts of v k alts))) m ≡ Some lower →
      AllDeclared g' shapes' (added_alts of v k alts) →
      (a : Levelled) × (slice_get (by_level (leveled assoc alts)) m ≡ Some a) × AltTo a lower
  alts_from assoc [] k m lower e d = absurd (cc)
  alts_from assoc (x ∷ alts) k ℕ.zero lower e d =
      let low : Levelled =
      record {
        alternative = record { symbols = new_symbols of v k (gathered x.symbols) };
        level = 1;
        assoc = assoc;
      } in
      let same : low ≡ lower = same_Some low lower e in (
        record { alternative = x; level = 1; assoc = assoc },
        refl,
        subst (AltTo (record { alternative = x; level = 1; assoc = assoc })) same
            (record {
              k = k;
              same = refl;
              present =
                  declared_first g' shapes' May (added_symbols of v k (gathered x.symbols))
                  (added_alts of v (k + count_symbols (gathered x.symbols)) alts) d;
            }),
      )
  alts_from assoc (x ∷ alts) k (suc m) lower e d =
      alts_from assoc alts (k + count_symbols (gathered x.symbols)) m lower e
      (declared_second g' shapes' May (added_symbols of v k (gathered x.symbols))
      (added_alts of v (k + count_symbols (gathered x.symbols)) alts) d)

  pub levels_to : (levels : List Level) → HasNoOperators levels → (m : ℕ) (a : Levelled) →
      slice_get (by_level levels) m ≡ Some a → AllDeclared g' shapes' (added_levels of v 1 levels) →
      (lower : Levelled) × (slice_get (by_level (new_levels of v 1 levels)) m ≡ Some lower) × AltTo a lower
  levels_to [] free m a e d = absurd (cc)
  levels_to (level ∷ []) free m a e d =
      alts_to level.assoc level.alts 1 m a e (declared_first g' shapes' May (added_alts of v 1 level.alts) [] d)
  levels_to (level ∷ next ∷ others) free m a e d = absurd free

  pub levels_from : (levels : List Level) → HasNoOperators levels → (m : ℕ) (lower : Levelled) →
      slice_get (by_level (new_levels of v 1 levels)) m ≡ Some lower →
      AllDeclared g' shapes' (added_levels of v 1 levels) →
      (a : Levelled) × (slice_get (by_level levels) m ≡ Some a) × AltTo a lower
  levels_from [] free m a e d = absurd (cc)
  levels_from (level ∷ []) free m a e d =
      alts_from level.assoc level.alts 1 m a e (declared_first g' shapes' May (added_alts of v 1 level.alts) [] d)
  levels_from (level ∷ next ∷ others) free m a e d = absurd free

pub new_free : (of : List ℕ) (v : Visible) (levels : List Level) → HasNoOperators levels →
    HasNoOperators (new_levels of v 1 levels)
new_free of v [] h = tt
new_free of v (level ∷ []) h = h
new_free of v (level ∷ next ∷ others) h = absurd h

module _ (g : Grammar) (shapes : List Shape) (may : MayBeLowered g shapes) where
  abbrev g' : Grammar
  g' = lowered_grammar g

  abbrev shapes' : List Shape
  shapes' = shapes ++ forms_of (all_added g.decls)

  abbrev made : List Made
  made = all_added g.decls

  forth : (name : List ℕ) (d : ℕ) (decl : Decl) (shape : Shape) → Declares g shapes name d decl shape →
      Declares g' shapes' name d (new_declaration decl) shape
  forth name d decl shape declares =
      let at = declares.numbered in
      record {
        numbered = (
          at.0,
          at.1,
          left_at (map new_declaration g.decls) (decls_of made) at.0 (new_declaration decl)
              (mapped_at new_declaration g.decls at.0 decl at.2),
        );
        shaped = (
          declares.shaped.0,
          declares.shaped.1,
          left_at shapes (forms_of made) declares.shaped.0 shape declares.shaped.2,
        );
        named = declares.named;
      }

  places : (d : ℕ) (a b : ℕ) → d ≡ suc a → d ≡ suc b → a ≡ b
  places d a b p q = let e : suc a ≡ suc b = sym p ∙ q in omega (arith, e)

  back : (name : List ℕ) (d : ℕ) (lower : Decl) (shape : Shape) → IsOld g name →
      Declares g' shapes' name d lower shape → DeclaredAs g shapes name d lower shape
  back name d lower shape old declares =
      go (either_place (map new_declaration g.decls) (decls_of made) declares.numbered.0 lower declares.numbered.2)
    where
      shaped : declares.numbered.0 < length g.decls → slice_get shapes declares.shaped.0 ≡ Some shape
      shaped within = at (either_place shapes (forms_of made) declares.shaped.0 shape declares.shaped.2)
        where
          at : (slice_get shapes declares.shaped.0 ≡ Some shape) ⊎
              ((m : ℕ) × (slice_get (forms_of made) m ≡ Some shape) × (declares.shaped.0 ≡ length shapes + m)) →
              slice_get shapes declares.shaped.0 ≡ Some shape
          at (inl e) = e
          at (inr e) =
              let p : suc declares.numbered.0 ≡ suc declares.shaped.0 = sym declares.numbered.1 ∙ declares.shaped.1 in
              let q = e.2 in
              let r = may.lengths in
              absurd (let f : ⊥ = omega (arith, p, q, r, within) in f)

      added_at : (m : ℕ) → slice_get (decls_of made) m ≡ Some lower → ⊥
      added_at m e =
          let from = from_map (λ (x : Made). x.decl) made m lower e in
          old.not_added m from.0 from.1 (sym (ap (λ (z : Decl). z.name) from.2) ∙ declares.named)

      go : (slice_get (map new_declaration g.decls) declares.numbered.0 ≡ Some lower) ⊎
          ((m : ℕ) × (slice_get (decls_of made) m ≡ Some lower) ×
          (declares.numbered.0 ≡ length (map new_declaration g.decls) + m)) →
          DeclaredAs g shapes name d lower shape
      go (inl e) =
          let from = from_map new_declaration g.decls declares.numbered.0 lower e in
          record {
            decl = from.0;
            declares = record {
              numbered = (declares.numbered.0, declares.numbered.1, from.1);
              shaped = (
                declares.shaped.0,
                declares.shaped.1,
                shaped (slice_get_within g.decls declares.numbered.0 from.0 from.1),
              );
              named = sym (ap (λ (z : Decl). z.name) from.2) ∙ declares.named;
            };
            same = from.2;
          }
      go (inr e) = absurd (added_at e.0 e.1)

  -- no two names
  names_new : (ds : List Decl) → names (map new_declaration ds) ≡ names ds
  names_new [] = refl
  names_new (d ∷ ds) = ap (λ z. d.name ∷ z) (names_new ds)

  names_made : (ms : List Made) → names (decls_of ms) ≡ titles ms
  names_made [] = refl
  names_made (m ∷ ms) = ap (λ z. m.decl.name ∷ z) (names_made ms)

  names_all : names g'.decls ≡ names g.decls ++ titles made
  names_all =
      map-append (λ (d : Decl). d.name) (map new_declaration g.decls) (decls_of made) ∙
      (λ z. names_new g.decls z ++ names_made made z)

  pub distinct : AreDistinct (names g'.decls)
  distinct =
      subst AreDistinct (sym names_all)
      (both_differ (names g.decls) (titles made) may.distinct (titles_distinct may.new g.decls may.unsigned may.few may.distinct)
      (λ name c d. let i = at_from_contains _ name c in let j = at_from_contains _ name d in apart i.0 j.0 name i.1 j.1))
    where
      apart : (i j : ℕ) (name : List ℕ) → slice_get (names g.decls) i ≡ Some name →
          slice_get (titles made) j ≡ Some name → ⊥
      apart i j name e f =
          let decl = from_map (λ (d : Decl). d.name) g.decls i name e in
          let from = from_map (λ (m : Made). m.decl.name) made j name f in
          (may.old i decl.0 decl.1).not_added j from.0 from.1 (sym from.2 ∙ decl.2)

  once : (name : List ℕ) (d e : ℕ) (decl other : Decl) (shape form : Shape) → Declares g' shapes' name d decl shape →
      Declares g' shapes' name e other form → (decl ≡ other) × (shape ≡ form)
  once name d e decl other shape form a b =
      let same : a.numbered.0 ≡ b.numbered.0 =
      distinct a.numbered.0 b.numbered.0 name
      (mapped_at (λ (d : Decl). d.name) g'.decls a.numbered.0 decl a.numbered.2 ∙ ap Some a.named)
      (mapped_at (λ (d : Decl). d.name) g'.decls b.numbered.0 other b.numbered.2 ∙ ap Some b.named) in
      let shaped : a.shaped.0 ≡ b.shaped.0 =
      places d a.shaped.0 a.numbered.0 a.shaped.1 a.numbered.1 ∙ same ∙
      places e b.numbered.0 b.shaped.0 b.numbered.1 b.shaped.1 in (
        same_Some decl other (sym a.numbered.2 ∙ ap (slice_get g'.decls) same ∙ b.numbered.2),
        same_Some shape form (sym a.shaped.2 ∙ ap (slice_get shapes') shaped ∙ b.shaped.2),
      )

  -- each added declaration is declared
  made_at : (n : ℕ) (x : Made) → slice_get made n ≡ Some x →
      (d : ℕ) × Declares g' shapes' x.decl.name d x.decl x.shape
  made_at n x e =
      let k = length g.decls + n in (
        suc k,
        record {
          numbered = (
            k,
            refl,
            further (map new_declaration g.decls) (decls_of made) n k
                (ap (λ z. z + n) (sym (length-map g.decls new_declaration))) ∙
                mapped_at (λ (z : Made). z.decl) made n x e,
          );
          shaped = (
            k,
            refl,
            further shapes (forms_of made) n k (ap (λ z. z + n) (sym may.lengths)) ∙
                mapped_at (λ (z : Made). z.shape) made n x e,
          );
          named = refl;
        },
      )

  all_from : (xs : List Made) →
      ((n : ℕ) (x : Made) → slice_get xs n ≡ Some x → (d : ℕ) × Declares g' shapes' x.decl.name d x.decl x.shape) →
      AllDeclared g' shapes' xs
  all_from [] each = tt
  all_from (x ∷ xs) each = (each 0 x refl, all_from xs (λ n y e. each (suc n) y e))

  by_decl : (ds : List Decl) (n : ℕ) (decl : Decl) → slice_get ds n ≡ Some decl →
      AllDeclared g' shapes' (all_added ds) → AllDeclared g' shapes' (added_by decl)
  by_decl [] n decl e all = absurd (cc)
  by_decl (d ∷ ds) ℕ.zero decl e all =
      let same : d ≡ decl = same_Some d decl e in
      subst (λ z. AllDeclared g' shapes' (added_by z)) same
      (declared_first g' shapes' (IsOld g) (added_by d) (all_added ds) all)
  by_decl (d ∷ ds) (suc n) decl e all =
      by_decl ds n decl e (declared_second g' shapes' (IsOld g) (added_by d) (all_added ds) all)

  pub present : (n : ℕ) (decl : Decl) → slice_get g.decls n ≡ Some decl → AllDeclared g' shapes' (added_by decl)
  present n decl e = by_decl g.decls n decl e (all_from made made_at)

  numbered_to : (name : List ℕ) (d : ℕ) (decl : Decl) (shape : Shape) → Declares g shapes name d decl shape →
      (n : ℕ) (a : Levelled) →
      IsAlternative decl n a → NumberedTo g' shapes' (IsOld g) decl n a
  numbered_to name d decl shape declares n a numbered =
      let at = declares.numbered in
      let to =
      levels_to g' shapes' decl.name (parameters decl.params) decl.levels (may.free at.0 decl at.2) numbered.0 a
      numbered.2 (present at.0 decl at.2) in
      record {
        begins = record { k = to.2.k; proper = may.proper at.0 decl n a at.2 numbered; present = to.2.present };
        lower = to.0;
        numbered = (numbered.0, numbered.1, to.1);
        same = to.2.same;
      }

  numbered_from : (name : List ℕ) (d : ℕ) (decl : Decl) (shape : Shape) → Declares g shapes name d decl shape →
      (n : ℕ) (lower : Levelled) →
      IsAlternative (new_declaration decl) n lower → NumberedFrom g' shapes' (IsOld g) decl n lower
  numbered_from name d decl shape declares n lower numbered =
      let at = declares.numbered in
      let from =
      levels_from g' shapes' decl.name (parameters decl.params) decl.levels (may.free at.0 decl at.2) numbered.0
      lower numbered.2 (present at.0 decl at.2) in
      record {
        a = from.0;
        numbered = (numbered.0, numbered.1, from.1);
        begins =
            record {
              k = from.2.k;
              proper = may.proper at.0 decl n from.0 at.2 (numbered.0, numbered.1, from.1);
              present = from.2.present;
            };
        same = from.2.same;
      }

  pub takes_of : Takes g (lowered_grammar g) shapes (shapes ++ forms_of (all_added g.decls)) (IsOld g)
  takes_of =
      record {
        forth = forth;
        back = back;
        once = once;
        numbered_to = numbered_to;
        numbered_from = numbered_from;
        quiet = λ name d decl shape declares e. may.no_layout;
        layout = layout_new g.decls (decls_of made) (layout_plain made (all_plain g.decls));
      }
