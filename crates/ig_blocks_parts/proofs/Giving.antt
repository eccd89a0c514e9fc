-- What the pass gives, for the lowered grammar to be well scoped and regular in form.
use Rattle.std.proofs.Common.{◌≡◌, ◌≢◌, ◌∙◌, ◌≤◌, ℕ, zero, suc, Bool, true, false, List, [], ◌∷◌, ◌++◌, length, Some, refl, sym, ap, subst, inl, inr, arith, if◌then◌else◌}
use Rattle.std.specs.Prelude.{◌⊎◌, Contains, slice_get}
use Rattle.std.proofs.lemmas.List.{append-nil, length-map}
use Rattle.std.proofs.lemmas.Option.{same_Some}
use Rattle.ig_text.proofs.Differing.{two_differ}
use Rattle.ig_text.proofs.Lists.{at_from_contains, contains_from_at, none_in_nil, unmapped_in}
use Rattle.ig_grammar.specs.Checked.{CheckedGrammar}
use Rattle.ig_grammar.specs.Name.{is_name}
use Rattle.ig_grammar.specs.Names.{AreDistinct}
use Rattle.ig_grammar.specs.Numbering.{alternatives}
use Rattle.ig_grammar.specs.Symbol.{gathered}
use Rattle.ig_grammar.specs.declared.declaration.DeclKind.TheVariants.{Layout}
use Rattle.ig_grammar.specs.declared.declaration.Decl.{Decl}
use Rattle.ig_grammar.specs.declared.declaration.Level.{Level}
use Rattle.ig_grammar.specs.declared.declaration.Param.{Param}
use Rattle.ig_grammar.specs.declared.grammar.Grammar.{Grammar}
use Rattle.ig_grammar.specs.declared.place.Shape.{Shape}
use Rattle.ig_grammar.specs.declared.place.Shape.TheVariants as shape
use Rattle.ig_grammar.specs.declared.symbol.Alt.{Alt}
use Rattle.ig_pass.specs.Added.{AddedNamesAreNew}
use Rattle.ig_pass.specs.Asked.{SymbolsAsk, AsksElsewhere}
use Rattle.ig_pass.specs.Binders.{binders_of_symbols}
use Rattle.ig_pass.specs.EachLevel.{in_levels, from_occurrences}
use Rattle.ig_grammar.specs.Visible.{parameters}
use Rattle.ig_pass.specs.Found.{DeclarationsAreFound}
use Rattle.ig_pass.specs.KeptByRoot.{RootAt}
use Rattle.ig_pass.specs.Passing.{IsSettled, Settles, IsReadyFor, IsRemade, Remakes, IsGivenFrom, Gives, parameter_names}
use Rattle.ig_pass.specs.Rooted.{is_root}
use Rattle.ig_blocks_parts.specs.Setting.{Setting, extra_by}
use Rattle.ig_blocks_parts.specs.Blocks.{setting_of, int_param, level_by, declaration_by, root_by, lowered_declaration, lowered_grammar}
use Rattle.ig_blocks_parts.proofs.Counting.{sequence_count}
use Rattle.ig_blocks_parts.proofs.Choices.{gathered_by}
use Rattle.ig_blocks_parts.proofs.Permitting.{apart, pair_at, levels_are}
use Rattle.ig_blocks_parts.proofs.Readiness.{one_place}
use Rattle.ig_blocks_parts.proofs.Rooting.{IsPrepared}
use Rattle.ig_blocks_parts.proofs.Shaped.{length_lowered}
use Rattle.ig_blocks_parts.proofs.Taking.{zip_back, kind_kept, name_kept}
use Rattle.ig_blocks_parts.proofs.Whole.{sound_there}
use Rattle.ig_blocks_parts.proofs.Located.{made_alternative}

-- the pair as parameters
extra_name : (b : Bool) (m f : List ℕ) (k : ℕ) (p : Param) → slice_get (extra_by b (int_param m) (int_param f)) k ≡ Some p → (p.name ≡ m) ⊎ (p.name ≡ f)
extra_name true m f zero p e = inl (ap (λ (z : Param). z.name) (sym (same_Some (int_param m) p e)))
extra_name true m f (suc zero) p e = inr (ap (λ (z : Param). z.name) (sym (same_Some (int_param f) p e)))
extra_name true m f (suc (suc k)) p e = absurd (cc)
extra_name false m f k p e = absurd (cc)

extra_distinct : (b : Bool) (m f : List ℕ) → m ≢ f → AreDistinct (parameter_names (extra_by b (int_param m) (int_param f)))
extra_distinct false m f ne = λ i j n p q. absurd (cc)
extra_distinct true m f ne = two_differ m f ne

-- a grammar that is prepared is ready, since later passes add no names of variables
pub ready_for : (c : CheckedGrammar) → IsPrepared c → IsReadyFor [] c.grammar
ready_for c prepared =
    record {
      scoped = prepared.sound.scoped;
      well = prepared.sound.well;
      entered = prepared.sound.entered;
      free = λ name l. absurd (none_in_nil name l);
    }

-- what a declaration gets
record IsLonger (s : Setting) (d e : Decl) : Type 0 where
  pub paired : Bool
  pub longer : e.params ≡ d.params ++ extra_by paired (int_param s.m) (int_param s.f)
  pub layout : d.kind ≡ Layout → paired ≡ false

module _ (ask : SymbolsAsk) (elsewhere : AsksElsewhere) (found : DeclarationsAreFound) (new : AddedNamesAreNew) (c : CheckedGrammar) (prepared : IsPrepared c) (root_at : RootAt c) where
  abbrev g : Grammar
  g = c.grammar

  abbrev shapes : List Shape
  shapes = c.shapes

  abbrev s : Setting
  s = setting_of g.decls shapes

  abbrev h : Grammar
  h = lowered_grammar g shapes

  longer : (sh : Shape) (d : Decl) → IsLonger s d (lowered_declaration s sh d)
  longer sh d = go (is_root sh)
    where
      go : (r : Bool) → IsLonger s d (if r then root_by s d else declaration_by s d)
      go true = record { paired = false; longer = sym (append-nil d.params); layout = λ e. refl }
      go false = record { paired = s.paired d.kind; longer = refl; layout = λ e. ap s.paired e }

  module _ (n : ℕ) (d : Decl) (sh : Shape) (at : slice_get g.decls n ≡ Some d) where
    abbrev e : Decl
    e = lowered_declaration s sh d

    abbrev gets : IsLonger s d e
    gets = longer sh d

    abbrev more : List Param
    more = extra_by gets.paired (int_param s.m) (int_param s.f)

    name_of : (p : Param) → Contains more p → (p.name ≡ s.m) ⊎ (p.name ≡ s.f)
    name_of p m = let k = at_from_contains more p m in extra_name gets.paired s.m s.f k.0 p k.1

    remade : IsRemade [] d e
    remade =
        record {
          named = name_kept s sh d;
          kinded = inl (kind_kept s sh d);
          more = more;
          longer = gets.longer;
          apart = λ p m there. not_there p there (name_of p m);
          distinct = extra_distinct gets.paired s.m s.f ((apart g.decls shapes).m_f);
          unnamed = λ p m. no_name p (name_of p m);
          lacks = λ p m l. none_in_nil p.name l;
          layout = λ k. ap (λ z. extra_by z (int_param s.m) (int_param s.f)) (gets.layout (sym (kind_kept s sh d) ∙ k));
          levels = as_many;
          associated = λ level m. inr (from level m);
        }
      where
        among : Contains g.decls d
        among = contains_from_at g.decls n d at

        not_there : (p : Param) → Contains (parameter_names d.params) p.name → (p.name ≡ s.m) ⊎ (p.name ≡ s.f) → ⊥
        not_there p there (inl is) = prepared.margin.parameters d among (subst (Contains (parameter_names d.params)) is there)
        not_there p there (inr is) = prepared.first.parameters d among (subst (Contains (parameter_names d.params)) is there)

        no_name : (p : Param) → (p.name ≡ s.m) ⊎ (p.name ≡ s.f) → is_name p.name ≡ false
        no_name p (inl is) = ap is_name is ∙ new.dotted [] (109 ∷ [])
        no_name p (inr is) = ap is_name is ∙ new.dotted [] (102 ∷ [])

        as_many : length e.levels ≤ length d.levels
        as_many = let same = ap length (levels_are s sh d) ∙ length-map d.levels (level_by s (pair_at s sh d)) in omega (arith, same)

        from : (level : Level) → Contains e.levels level → (before : Level) × Contains d.levels before × (before.assoc ≡ level.assoc)
        from level m =
            let r = unmapped_in (level_by s (pair_at s sh d)) d.levels level (subst (λ ls. Contains ls level) (levels_are s sh d) m) in
            (r.0, r.1, ap (λ (z : Level). z.assoc) r.2)

    -- the start stands for the root, and gets no pair
    bare : slice_get shapes n ≡ Some sh → g.start ≡ Some d.name → e.params ≡ d.params
    bare shaped start =
        let named : d.name ≡ root_at.decl.name = same_Some d.name root_at.decl.name (sym start ∙ root_at.start) in
        let place : n ≡ root_at.before = one_place found g prepared.sound.scoped n root_at.before d root_at.decl at root_at.declared named in
        let root : sh ≡ shape.Root = same_Some sh shape.Root (sym shaped ∙ ap (slice_get shapes) place ∙ root_at.shaped) in
        ap (λ z. (lowered_declaration s z d).params) root

    alternative : (b : Alt) → slice_get h.decls n ≡ Some e → Contains (alternatives e.levels) b →
        (a : Alt) × Contains (alternatives d.levels) a × IsGivenFrom g.decls h.decls d e a b
    alternative b there m =
        let p = pair_at s sh d in
        let r = made_alternative s p d.levels b (subst (λ ls. Contains (alternatives ls) b) (levels_are s sh d) m) in
        let same : binders_of_symbols (gathered b.symbols) ≡ binders_of_symbols (gathered r.1.symbols) =
        ap (λ (z : Alt). binders_of_symbols (gathered z.symbols)) (sym r.4) ∙ ap binders_of_symbols (gathered_by s p r.1.symbols) ∙
        sequence_count s (gathered r.1.symbols) p in (
          r.1,
          in_levels d.levels r.0 r.1 r.2 r.3,
          record {
            bound = omega (arith, same);
            gets = λ before o among. (sound_there ask elsewhere found c prepared n e b there m o among).asks;
          },
        )

  pub remakes : Remakes [] g h
  remakes =
      record {
        remade = h.decls;
        added = [];
        decls = sym (append-nil h.decls);
        counted = length_lowered s shapes g.decls prepared.sound.fit.counted;
        each = λ k d e at there. by_place (IsRemade []) k d e at there (λ sh shaped. remade k d sh at);
        new = λ e m. absurd (none_in_nil e m);
        fresh = λ e m l. none_in_nil e m;
        apart = λ i j name p q. absurd (cc);
        start = refl;
        tabs = refl;
        bare = λ k d e at there start. by_place (λ x y. y.params ≡ x.params) k d e at there (λ sh shaped. bare k d sh at shaped start);
      }
    where
      by_place : (P : Decl → Decl → Type 0) (k : ℕ) (d e : Decl) → slice_get g.decls k ≡ Some d → slice_get h.decls k ≡ Some e →
          ((sh : Shape) → slice_get shapes k ≡ Some sh → P d (lowered_declaration s sh d)) → P d e
      by_place P k d e at there f =
          let z = zip_back s shapes g.decls k e there in
          let same : z.d ≡ d = same_Some z.d d (sym z.has ∙ at) in
          subst (P d) (ap (lowered_declaration s z.shape) (sym same) ∙ z.made) (f z.shape z.shaped)

  pub gives : Gives [] g h
  unfolding remakes
  gives =
      record {
        remakes = remakes;
        each = λ k d e b at there m.
            let z = zip_back s shapes g.decls k e there in
            let same : z.d ≡ d = same_Some z.d d (sym z.has ∙ at) in
            let made : lowered_declaration s z.shape d ≡ e = ap (lowered_declaration s z.shape) (sym same) ∙ z.made in
            subst (λ (y : Decl). (a : Alt) × Contains (alternatives d.levels) a × IsGivenFrom g.decls h.decls d y a b) made
            (alternative k d z.shape at b (there ∙ ap Some (sym made)) (subst (λ (y : Decl). Contains (alternatives y.levels) b) (sym made) m));
        gets = λ e b m l. absurd (none_in_nil e m);
      }

  -- and each symbol is settled
  pub settles : Settles [] h
  settles e b among m =
      let k = at_from_contains h.decls e among in
      from_occurrences (IsSettled []) (gathered b.symbols) (parameters e.params)
      (λ o there.
      let x = sound_there ask elsewhere found c prepared k.0 e b k.1 m o there in
      record { placed = x.placed; entered = x.entered; lacks = λ name l. absurd (none_in_nil name l) })
