-- What is lowered is well scoped.
use Rattle.std.proofs.Common.{◌≡◌, ◌∙◌, ℕ, zero, suc, ◌+◌, inl, false, List, [], ◌∷◌, map}
use Rattle.std.proofs.Common.{length, Some, refl, sym, ap, subst, arith}
use Rattle.std.specs.Prelude.{◌≤◌, ◌++◌, Contains, slice_get}
use Rattle.std.proofs.lemmas.Option.{same_Some, slice_get_within}
use Rattle.std.proofs.lemmas.List.{append-nil, length-map, map-append}
use Rattle.ig_text.proofs.Lists.{at_from_contains, contains_from_at, contains_one, none_in_nil, left_at, right_at, mapped_at, from_map}
use Rattle.ig_grammar.specs.Name.{is_name}
use Rattle.ig_grammar.specs.Names.{names, AreDistinct}
use Rattle.ig_grammar.specs.Checked.{CheckedGrammar}
use Rattle.ig_grammar.specs.Condition.{symbols_of}
use Rattle.ig_grammar.specs.Condition as meets
use Rattle.ig_grammar.specs.Numbering.{Levelled, by_level, alternatives}
use Rattle.ig_grammar.specs.Symbol.{gathered}
use Rattle.ig_grammar.specs.Visible.{Visible, inside_sequence, parameters}
use Rattle.ig_grammar.specs.WellScoped.{IsWellScoped}
use Rattle.ig_grammar.specs.declared.symbol.Alt.{Alt}
use Rattle.ig_grammar.specs.declared.declaration.Assoc.{Assoc}
use Rattle.ig_grammar.specs.declared.declaration.Assoc.TheVariants.{Free}
use Rattle.ig_grammar.specs.declared.declaration.DeclKind.TheVariants.{Plain, Layout}
use Rattle.ig_grammar.specs.declared.declaration.Level.{Level}
use Rattle.ig_grammar.specs.declared.declaration.Decl.{Decl}
use Rattle.ig_grammar.specs.declared.grammar.Grammar.{Grammar}
use Rattle.ig_grammar.specs.declared.place.Shape.{Shape}
use Rattle.ig_meaning.specs.Laws.{HasNoOperators}
use Rattle.ig_ebnf_variables.specs.Lists.{Made, new_declaration, new_levels, new_symbols, added_symbols, added_by, all_added}
use Rattle.ig_ebnf_variables.specs.Lists.{decls_of, all_elements, lowered}
use Rattle.ig_ebnf_variables.proofs.Definitions.{IsOld, MayBeLowered, AllDeclared}
use Rattle.ig_ebnf_variables.proofs.AddedNames.{IsPlainly, all_plain, title_at}
use Rattle.ig_ebnf_variables.proofs.LoweredGrammar.{new_free, distinct, present, levels_from}
use Rattle.ig_ebnf_variables.proofs.OldNames.{declared_old}
use Rattle.ig_ebnf_variables.proofs.Premises.{Given, may_be_lowered, calm_alternative, clear_alternative, proper_alternative}
use Rattle.ig_ebnf_variables.proofs.Premises.{alternative_there}
use Rattle.ig_ebnf_variables.proofs.Elements.{all_ready}
use Rattle.ig_ebnf_variables.proofs.Occurrences.{Calm, AllCalm, of_at}
use Rattle.ig_ebnf_variables.proofs.LoweredCalm.{Distinct, elements_calm}
use Rattle.ig_ebnf_variables.proofs.SourceCalm.{all_source_calm}
use Rattle.ig_ebnf_variables.proofs.AddedCalm.{IsCalm, AltsCalm, LevelsCalm, symbols_calm}
use Rattle.ig_ebnf_variables.proofs.OfAdded.{OfAdded, of_added_at, by_levels, by_declarations}
use Rattle.ig_ebnf_variables.proofs.Binders.{all_fewer}
use Rattle.ig_pass.specs.Binders.{binders_of_symbols}
use Rattle.ig_pass.specs.Passing.{GetAll, IsRemade, IsAdded, Remakes, IsGivenFrom, Gives, parameter_names}
use Rattle.ig_ebnf_variables.proofs.Heads.{distinct_parameters, different}

-- where no declaration has operators, an alternative by its level
in_level : (assoc : Assoc) (alts : List Alt) (m : ℕ) (a : Alt) → slice_get alts m ≡ Some a →
    (l : Levelled) × (slice_get (by_level (record { assoc = assoc; alts = alts } ∷ [])) m ≡ Some l) ×
    (a ≡ l.alternative)
in_level assoc [] m a e = absurd (cc)
in_level assoc (x ∷ alts) zero a e =
    (record { alternative = x; level = 1; assoc = assoc }, refl, sym (same_Some x a e))
in_level assoc (x ∷ alts) (suc m) a e = in_level assoc alts m a e

pub levelled_at : (levels : List Level) → HasNoOperators levels → (m : ℕ) (a : Alt) →
    slice_get (alternatives levels) m ≡ Some a →
    (l : Levelled) × (slice_get (by_level levels) m ≡ Some l) × (a ≡ l.alternative)
levelled_at [] free m a e = absurd (cc)
levelled_at (level ∷ []) free m a e =
    in_level level.assoc level.alts m a (ap (λ z. slice_get z m) (sym (append-nil level.alts)) ∙ e)
levelled_at (level ∷ next ∷ others) free m a e = absurd free

alts_calm_at : (h : Grammar) (w : Visible) (alts : List Alt) → AltsCalm h w alts → (m : ℕ) (a : Alt) →
    slice_get alts m ≡ Some a →
    AllCalm h Plain (inside_sequence w (gathered a.symbols))
alts_calm_at h w [] calm m a e = absurd (cc)
alts_calm_at h w (x ∷ alts) calm zero a e =
    subst (λ (z : Alt). AllCalm h Plain (inside_sequence w (gathered z.symbols))) (same_Some x a e) calm.0
alts_calm_at h w (x ∷ alts) calm (suc m) a e = alts_calm_at h w alts calm.1 m a e

levels_calm_at : (h : Grammar) (w : Visible) (levels : List Level) → HasNoOperators levels → LevelsCalm h w levels →
    (m : ℕ) (a : Alt) →
    slice_get (alternatives levels) m ≡ Some a → AllCalm h Plain (inside_sequence w (gathered a.symbols))
levels_calm_at h w [] free calm m a e = absurd (cc)
levels_calm_at h w (level ∷ []) free calm m a e =
    alts_calm_at h w level.alts calm.0 m a (ap (λ z. slice_get z m) (sym (append-nil level.alts)) ∙ e)
levels_calm_at h w (level ∷ next ∷ others) free calm m a e = absurd free

-- where no declaration has operators, each level is free, and as many are made
each_free : (levels : List Level) → HasNoOperators levels → (level : Level) → Contains levels level → level.assoc ≡ Free
each_free [] free level m = absurd (none_in_nil level m)
each_free (first ∷ []) free level m = ap (λ (z : Level). z.assoc) (contains_one first level m) ∙ free
each_free (first ∷ next ∷ others) free level m = absurd free

as_many : (of : List ℕ) (v : Visible) (levels : List Level) → HasNoOperators levels → length (new_levels of v 1 levels) ≤ length levels
as_many of v [] free = omega arith
as_many of v (level ∷ []) free = omega arith
as_many of v (level ∷ next ∷ others) free = absurd free

same_names : (ds : List Decl) → names (map new_declaration ds) ≡ names ds
same_names [] = refl
same_names (d ∷ ds) = ap (λ ns. d.name ∷ ns) (same_names ds)

module _ (c : CheckedGrammar) (given : Given c) where
  abbrev g : Grammar
  g = c.grammar

  abbrev h : Grammar
  h = (lowered c).grammar

  abbrev shapes' : List Shape
  shapes' = (lowered c).shapes

  may : MayBeLowered g c.shapes
  may = may_be_lowered c given

  once : AreDistinct (names h.decls)
  once = distinct g c.shapes may

  -- the alternative that was lowered
  pub record LoweredFrom (decl : Decl) (m : ℕ) (lower : Alt) : Type 0 where
    pub a : Alt
    pub there : slice_get (alternatives decl.levels) m ≡ Some a
    pub k : ℕ
    pub same : lower.symbols ≡ new_symbols decl.name (parameters decl.params) k (gathered a.symbols)
    pub present : AllDeclared h shapes' (added_symbols decl.name (parameters decl.params) k (gathered a.symbols))

  pub lowered_from : (n : ℕ) (decl : Decl) (m : ℕ) (lower : Alt) → slice_get g.decls n ≡ Some decl →
      slice_get (alternatives (new_declaration decl).levels) m ≡ Some lower → LoweredFrom decl m lower
  lowered_from n decl m lower e f =
      let v = parameters decl.params in
      let l =
      levelled_at (new_levels decl.name v 1 decl.levels) (new_free decl.name v decl.levels (may.free n decl e)) m
      lower f in
      let from =
      levels_from h shapes' decl.name v decl.levels (may.free n decl e) m l.0 l.1
      (present g c.shapes may n decl e) in
      record {
        a = from.0.alternative;
        there = alternative_there decl.levels (may.free n decl e) m from.0 from.1;
        k = from.2.k;
        same = ap (λ (z : Alt). z.symbols) l.2 ∙ from.2.same;
        present = from.2.present;
      }

  -- the parameters of a declaration have names that differ
  distinct_source : (n : ℕ) (decl : Decl) → slice_get g.decls n ≡ Some decl → Distinct (parameters decl.params)
  distinct_source n decl e =
      distinct_parameters decl.params (λ k p f among.
      given.sound.scoped (record { decl = suc n; alt = 0; symbol = 0 }) meets.DuplicateVariable
      (decl, e, meets.duplicate_parameter k p f among))

  calm_lowered : (n : ℕ) (decl : Decl) (m : ℕ) (lower : Alt) → slice_get g.decls n ≡ Some decl →
      slice_get (alternatives (new_declaration decl).levels) m ≡ Some lower →
      AllCalm h decl.kind (inside_sequence (parameters decl.params) (gathered lower.symbols))
  calm_lowered n decl m lower e f =
      let v = parameters decl.params in
      let from = lowered_from n decl m lower e f in
      let xs = gathered from.a.symbols in
      let proper = proper_alternative c given n decl m from.a e from.there in
      let source = all_source_calm g decl.kind xs v from.k (distinct_source n decl e)
      (calm_alternative c given n decl m from.a e from.there)
      (clear_alternative c given n decl m from.a e from.there) in
      subst (λ z. AllCalm h decl.kind (inside_sequence v (gathered z))) (sym from.same)
      (elements_calm given.elsewhere g h shapes' decl.kind decl.kind (λ l. l) (IsOld g) (declared_old g) (given.found.itself h.decls once) decl.name
      (all_elements v from.k xs) v v _
      (all_ready h shapes' (IsOld g) decl.name xs v from.k proper from.present) source.0
      (record { at = λ n u. refl; less = λ n u. u }))

  -- in no added declaration a condition holds
  made_calm : OfAdded (IsCalm h) (all_added g.decls)
  made_calm = by_declarations (IsCalm h) g.decls each
    where
      by_alternative : (n : ℕ) (decl : Decl) → slice_get g.decls n ≡ Some decl → (m : ℕ) (a : Alt) →
          slice_get (alternatives decl.levels) m ≡ Some a → (k : ℕ) →
          AllDeclared h shapes' (added_symbols decl.name (parameters decl.params) k (gathered a.symbols)) →
          OfAdded (IsCalm h) (added_symbols decl.name (parameters decl.params) k (gathered a.symbols))
      by_alternative n decl e m a f k d =
          symbols_calm given.elsewhere g h shapes' decl.kind (IsOld g) (declared_old g) (given.found.itself h.decls once) decl.name (gathered a.symbols)
          (parameters decl.params) k
          (proper_alternative c given n decl m a e f) d (distinct_source n decl e)
          (calm_alternative c given n decl m a e f)
          (clear_alternative c given n decl m a e f)

      each : (n : ℕ) (decl : Decl) → slice_get g.decls n ≡ Some decl → OfAdded (IsCalm h) (added_by decl)
      each n decl e =
          by_levels (IsCalm h) h shapes' decl.name (parameters decl.params) decl.levels (may.free n decl e)
          (λ m a f. by_alternative n decl e m a f) (present g c.shapes may n decl e)

  -- a declaration is that of the source, or added
  pub record AddedAt (decl : Decl) : Type 0 where
    pub place : ℕ
    pub made : Made
    pub there : slice_get (all_added g.decls) place ≡ Some made
    pub same : decl ≡ made.decl

  pub added_at : (m : ℕ) (decl : Decl) → slice_get (decls_of (all_added g.decls)) m ≡ Some decl → AddedAt decl
  added_at m decl e =
      let from = from_map (λ (x : Made). x.decl) (all_added g.decls) m decl e in
      record { place = m; made = from.0; there = from.1; same = from.2 }

  -- the name of an added declaration is none of the notation
  pub added_is_no_name : (decl : Decl) → AddedAt decl → is_name decl.name ≡ false
  added_is_no_name decl at =
      let title =
      title_at g.decls may.few at.place at.made.decl.name
      (mapped_at (λ (x : Made). x.decl.name) (all_added g.decls) at.place at.made at.there) in
      ap is_name (ap (λ (z : Decl). z.name) at.same ∙ title.same) ∙ given.new.numbered title.decl.name title.k

  pub added_plainly : (decl : Decl) (at : AddedAt decl) → IsPlainly at.made
  added_plainly decl at = of_added_at IsPlainly (all_added g.decls) (all_plain g.decls) at.place at.made at.there

  added_calm : (decl : Decl) (at : AddedAt decl) → IsCalm h at.made
  added_calm decl at = of_added_at (IsCalm h) (all_added g.decls) made_calm at.place at.made at.there

  -- a declaration of the source without lists
  remade : (n : ℕ) (decl : Decl) → slice_get g.decls n ≡ Some decl → IsRemade [] decl (new_declaration decl)
  remade n decl e =
      record {
        named = refl;
        kinded = inl refl;
        more = [];
        longer = sym (append-nil decl.params);
        apart = λ p m. absurd (none_in_nil p m);
        distinct = λ i j name p q. absurd (cc);
        unnamed = λ p m. absurd (none_in_nil p m);
        lacks = λ p m. absurd (none_in_nil p m);
        layout = λ f. refl;
        levels = as_many decl.name (parameters decl.params) decl.levels (may.free n decl e);
        associated = λ level m.
            inl (each_free (new_levels decl.name (parameters decl.params) 1 decl.levels)
            (new_free decl.name (parameters decl.params) decl.levels (may.free n decl e)) level m);
      }

  -- and one that is added
  new : (decl : Decl) → Contains (decls_of (all_added g.decls)) decl → IsAdded [] decl
  new decl m =
      let b = at_from_contains (decls_of (all_added g.decls)) decl m in
      let at = added_at b.0 decl b.1 in
      record {
        unnamed = added_is_no_name decl at;
        kinded = λ f. (let bad : Plain ≡ Layout = sym (added_plainly decl at).kind ∙ ap (λ (z : Decl). z.kind) (sym at.same) ∙ f in absurd (cc));
        distinct = subst (λ (z : Decl). AreDistinct (parameter_names z.params)) (sym at.same)
            (different at.made.decl.params (added_calm decl at).0);
        lacks = λ p among l. none_in_nil p.name l;
      }

  abbrev titles : List (List ℕ)
  titles = names (decls_of (all_added g.decls))

  all_once : AreDistinct (names g.decls ++ titles)
  all_once =
      subst AreDistinct
      (map-append (λ (z : Decl). z.name) (map new_declaration g.decls) (decls_of (all_added g.decls)) ∙
      ap (λ ns. ns ++ titles) (same_names g.decls)) once

  new_at : (k : ℕ) (d e : Decl) → slice_get g.decls k ≡ Some d → slice_get (map new_declaration g.decls) k ≡ Some e → new_declaration d ≡ e
  new_at k d e before after = same_Some (new_declaration d) e (sym (mapped_at new_declaration g.decls k d before) ∙ after)

  pub remakes : Remakes [] g h
  remakes =
      record {
        remade = map new_declaration g.decls;
        added = decls_of (all_added g.decls);
        decls = refl;
        counted = length-map g.decls new_declaration;
        each = λ k d e before after. subst (IsRemade [] d) (new_at k d e before after) (remade k d before);
        new = new;
        fresh = fresh;
        apart = λ i j name p q.
            (let n = length (names g.decls) in
            let same = all_once (n + i) (n + j) name (right_at (names g.decls) titles (n + i) i name refl p)
            (right_at (names g.decls) titles (n + j) j name refl q) in omega (arith, same));
        start = refl;
        tabs = refl;
        bare = λ k d e before after started. ap (λ (z : Decl). z.params) (sym (new_at k d e before after));
      }
    where
      fresh : (e : Decl) → Contains (decls_of (all_added g.decls)) e → Contains (names g.decls) e.name → ⊥
      fresh e m l =
          let i = at_from_contains (names g.decls) e.name l in
          let j = at_from_contains (decls_of (all_added g.decls)) e m in
          let there = mapped_at (λ (z : Decl). z.name) (decls_of (all_added g.decls)) j.0 e j.1 in
          let same =
          all_once i.0 (length (names g.decls) + j.0) e.name (left_at (names g.decls) titles i.0 e.name i.1)
          (right_at (names g.decls) titles (length (names g.decls) + j.0) j.0 e.name refl there) in
          let within = slice_get_within (names g.decls) i.0 e.name i.1 in omega (arith, same, within)

  -- an alternative of a declaration of the source
  alternative : (n : ℕ) (decl : Decl) (b : Alt) → slice_get g.decls n ≡ Some decl → Contains (alternatives (new_declaration decl).levels) b →
      (a : Alt) × Contains (alternatives decl.levels) a × IsGivenFrom g.decls h.decls decl (new_declaration decl) a b
  alternative n decl b e among =
      let m = at_from_contains (alternatives (new_declaration decl).levels) b among in
      let from = lowered_from n decl m.0 b e m.1 in
      let fewer = all_fewer decl.name (gathered from.a.symbols) (parameters decl.params) from.k in
      let same = ap (λ xs. binders_of_symbols (gathered xs)) from.same in (
        from.a,
        contains_from_at (alternatives decl.levels) m.0 from.a from.there,
        record {
          bound = omega (arith, fewer, same);
          gets = λ before o there.
              let k = at_from_contains (symbols_of (new_declaration decl) b) o there in
              of_at (Calm h decl.kind) (symbols_of (new_declaration decl) b) (calm_lowered n decl m.0 b e m.1) k.0 o k.1;
        },
      )

  -- and of one that is added
  added_gets : (decl : Decl) (b : Alt) → Contains (decls_of (all_added g.decls)) decl → Contains (alternatives decl.levels) b →
      GetAll h.decls decl b
  added_gets decl b m among o there =
      let place = at_from_contains (decls_of (all_added g.decls)) decl m in
      let at = added_at place.0 decl place.1 in
      let plain : decl.kind ≡ Plain = ap (λ (z : Decl). z.kind) at.same ∙ (added_plainly decl at).kind in
      let k = at_from_contains (alternatives decl.levels) b among in
      let calm =
      levels_calm_at h (parameters at.made.decl.params) at.made.decl.levels (added_plainly decl at).free
      (added_calm decl at).1 k.0 b
      (ap (λ (z : Decl). slice_get (alternatives z.levels) k.0) (sym at.same) ∙ k.1) in
      let here =
      subst (λ (z : Decl). AllCalm h Plain (inside_sequence (parameters z.params) (gathered b.symbols)))
      (sym at.same) calm in
      let s = at_from_contains (symbols_of decl b) o there in
      subst (λ z. Calm h z o.visible o.symbol) (sym plain) (of_at (Calm h Plain) (symbols_of decl b) here s.0 o s.1)

  gives : Gives [] g h
  unfolding remakes
  gives =
      record {
        remakes = remakes;
        each = λ k d e b before after m.
            let same = new_at k d e before after in
            subst (λ (y : Decl). (a : Alt) × Contains (alternatives d.levels) a × IsGivenFrom g.decls h.decls d y a b) same
            (alternative k d b before (subst (λ (y : Decl). Contains (alternatives y.levels) b) (sym same) m));
        gets = added_gets;
      }

  pub lowered_is_well_scoped : IsWellScoped h
  lowered_is_well_scoped = given.passes.scoped [] g h given.sound.scoped gives
