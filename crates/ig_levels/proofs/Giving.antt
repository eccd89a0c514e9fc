-- What the pass gives, for the grammar without levels to be well scoped, regular in form, and free of names.
use Rattle.std.proofs.Common.{◌≡◌, ◌≢◌, ◌≤◌, ◌∙◌, ℕ, zero, suc, Bool, true, false, List, [], ◌∷◌, ◌++◌, length, Some, refl, sym, ap, subst, inl, inr, arith}
use Rattle.std.specs.Prelude.{◌⊎◌, All, Contains, option_map, slice_get}
use Rattle.std.proofs.lemmas.List.{append-nil, length-map}
use Rattle.std.proofs.lemmas.Option.{same_Some, slice_get-map}
use Rattle.ig_text.proofs.Differing.{two_differ}
use Rattle.ig_text.proofs.Lists.{at_from_contains, contains_from_at, contains_one, none_in_nil}
use Rattle.ig_grammar.specs.Condition.{symbols_of}
use Rattle.ig_grammar.specs.Name.{is_name}
use Rattle.ig_grammar.specs.Names.{AreDistinct}
use Rattle.ig_grammar.specs.Numbering.{Levelled, by_level, alternatives}
use Rattle.ig_grammar.specs.Symbol.{Symbol, gathered}
use Rattle.ig_grammar.specs.Subterms.{subterms_of_symbols}
use Rattle.ig_expr.specs.declared.kind.Kind.TheVariants.{Int}
use Rattle.ig_text.proofs.Options.{mapped}
use Rattle.ig_levels.proofs.Kinding.{find}
use Rattle.ig_grammar.specs.Visible.{Occurrence, at, parameters}
use Rattle.ig_grammar.specs.declared.declaration.Assoc.TheVariants.{Free}
use Rattle.ig_grammar.specs.declared.declaration.Decl.{Decl}
use Rattle.ig_grammar.specs.declared.declaration.Level.{Level}
use Rattle.ig_grammar.specs.declared.declaration.Param.{Param}
use Rattle.ig_grammar.specs.declared.grammar.Grammar.{Grammar}
use Rattle.ig_grammar.specs.declared.place.Shape.{Shape}
use Rattle.ig_grammar.specs.declared.symbol.Alt.{Alt}
use Rattle.ig_pass.specs.Added.{AddedNamesAreNew, left_name, right_name}
use Rattle.ig_pass.specs.Asked.{Asks, AsksElsewhere}
use Rattle.ig_pass.specs.Binders.{BindersAreCounted}
use Rattle.ig_pass.specs.EachLevel.{alternative_at, at_occurrence, from_occurrences}
use Rattle.ig_pass.specs.Found.{DeclarationsAreFound}
use Rattle.ig_pass.specs.Passing.{IsSettled, Settles, GetAll, IsRemade, IsGivenFrom, Gives, parameter_names}
use Rattle.ig_levels.specs.Levels.{is_levelled, names_levelled, added_parameters, one_level, lowered_alternative, lowered_declaration, lowered_grammar}
use Rattle.ig_levels.proofs.Alternatives.{alternative_before}
use Rattle.ig_levels.proofs.Asking.{asks_there}
use Rattle.ig_levels.proofs.WithBounds.{IsSource, ParametersOfSource}
use Rattle.ig_levels.proofs.Keeping.{Keeps, test}
use Rattle.ig_levels.proofs.Kinded.{InsertedKinds}
use Rattle.ig_levels.proofs.Lacking.{keeps_lacking}
use Rattle.ig_levels.proofs.Partners.{IsTest, Partner, occurs, counted, parameters_inserted}
use Rattle.ig_levels.proofs.Premises.{Lowerable, levelled_known}
use Rattle.ig_levels.proofs.Sequences.{left_kind, right_kind, test_kind}
use Rattle.ig_levels.proofs.Standing.{keeps_placed}
use Rattle.ig_levels.proofs.Wanting.{keeps_entered}
use Rattle.ig_pass.specs.Unbound.{LacksName}

source_name : (ps : List Param) (name : List ℕ) → ParametersOfSource ps → Contains (parameter_names ps) name → IsSource name
source_name ps name source among = let k = at_from_contains (parameter_names ps) name among in go ps k.0 source k.1
  where
    go : (qs : List Param) (k : ℕ) → ParametersOfSource qs → slice_get (parameter_names qs) k ≡ Some name → IsSource name
    go [] k s e = absurd (cc)
    go (q ∷ qs) zero s e = subst IsSource (same_Some q.name name e) s.0
    go (q ∷ qs) (suc k) s e = go qs k s.1 e

added_name_at : (b : Bool) (k : ℕ) (p : Param) → slice_get (added_parameters b) k ≡ Some p → (p.name ≡ left_name) ⊎ (p.name ≡ right_name)
added_name_at true zero p e = inl (ap (λ (z : Param). z.name) (sym (same_Some _ p e)))
added_name_at true (suc zero) p e = inr (ap (λ (z : Param). z.name) (sym (same_Some _ p e)))
added_name_at true (suc (suc k)) p e = absurd (cc)
added_name_at false k p e = absurd (cc)

added_name : (b : Bool) (p : Param) → Contains (added_parameters b) p → (p.name ≡ left_name) ⊎ (p.name ≡ right_name)
added_name b p m = let k = at_from_contains (added_parameters b) p m in added_name_at b k.0 p k.1

abbrev second : List ℕ → ℕ
second [] = 0
second (x ∷ []) = 0
second (x ∷ y ∷ zs) = y

apart : left_name ≡ right_name → ⊥
apart e = let f : 108 ≡ 114 = ap second e in omega (arith, f)

added_distinct : (b : Bool) → AreDistinct (parameter_names (added_parameters b))
added_distinct false = λ i j n p q. absurd (cc)
added_distinct true = two_differ left_name right_name apart

-- at most one level, which is free
fewer : (levels : List Level) (alts : List Alt) → length (one_level levels alts) ≤ length levels
fewer [] alts = omega arith
fewer (level ∷ others) alts = omega arith

free : (levels : List Level) (alts : List Alt) (level : Level) → Contains (one_level levels alts) level → level.assoc ≡ Free
free [] alts level m = absurd (none_in_nil level m)
free (first ∷ others) alts level m = ap (λ (z : Level). z.assoc) (contains_one (record { assoc = Free; alts = alts }) level m)

-- the laws that it stands on
pub record LawsBelow : Type 0 where
  pub new : AddedNamesAreNew
  pub found : DeclarationsAreFound
  pub elsewhere : AsksElsewhere
  pub counts : BindersAreCounted

module _ (laws : LawsBelow) (later : List (List ℕ)) (not_left : Contains later left_name → ⊥) (not_right : Contains later right_name → ⊥)
    (g : Grammar) (shapes : List Shape) (may : Lowerable g shapes)
    (start_plain : (k : ℕ) (d : Decl) → slice_get g.decls k ≡ Some d → g.start ≡ Some d.name → is_levelled d.levels ≡ false) where
  abbrev levelled : List ℕ → Bool
  levelled = names_levelled g.decls

  abbrev turn : Decl → Decl
  turn = lowered_declaration levelled

  abbrev h : Grammar
  h = lowered_grammar g

  -- a later name is none of the bounds
  is_later : (name bound : List ℕ) → (Contains later bound → ⊥) → Contains later name → name ≢ bound
  is_later name bound none l e = none (subst (Contains later) e l)

  module _ (b : ℕ) (d : Decl) (there : slice_get g.decls b ≡ Some d) where
    abbrev m : Bool
    m = is_levelled d.levels

    source : ParametersOfSource d.params
    source = may.parameters (suc b) d (b, refl, there)

    remade : IsRemade later d (turn d)
    remade =
        record {
          named = refl;
          kinded = inl refl;
          more = added_parameters m;
          longer = refl;
          apart = λ p among before. not_before (source_name d.params p.name source before) (added_name m p among);
          distinct = added_distinct m;
          unnamed = λ p among. no_name (added_name m p among);
          lacks = λ p among l. not_later l (added_name m p among);
          layout = λ k. ap added_parameters (may.plain_layout (suc b) d (b, refl, there) k);
          levels = fewer d.levels _;
          associated = λ level among. inl (free d.levels _ level among);
        }
      where
        not_before : {name : List ℕ} → IsSource name → (name ≡ left_name) ⊎ (name ≡ right_name) → ⊥
        not_before s (inl e) = s.not_left e
        not_before s (inr e) = s.not_right e

        no_name : {name : List ℕ} → (name ≡ left_name) ⊎ (name ≡ right_name) → is_name name ≡ false
        no_name (inl e) = ap is_name e ∙ laws.new.dotted [] (108 ∷ [])
        no_name (inr e) = ap is_name e ∙ laws.new.dotted [] (114 ∷ [])

        not_later : {name : List ℕ} → Contains later name → (name ≡ left_name) ⊎ (name ≡ right_name) → ⊥
        not_later l (inl e) = not_left (subst (Contains later) e l)
        not_later l (inr e) = not_right (subst (Contains later) e l)

    module _ (k : ℕ) (a : Levelled) (numbered : slice_get (by_level d.levels) k ≡ Some a) where
      abbrev lower : Alt
      lower = lowered_alternative levelled d a

      inserted : InsertedKinds m (parameters d.params) (parameters (turn d).params)
      inserted = parameters_inserted levelled d.params m source

      met_by : (o : Occurrence) → Contains (symbols_of (turn d) lower) o →
          IsTest m (parameters (turn d).params) o ⊎ Partner levelled m (symbols_of d a.alternative) o
      met_by = occurs levelled d a source (may.clear (suc b) d (suc k) a (b, refl, there) (k, refl, numbered))

      gets : GetAll g.decls d a.alternative → GetAll h.decls (turn d) lower
      gets before o among = go (met_by o among)
        where
          tested : (t : IsTest m (parameters (turn d).params) o) → (t.name ≡ left_name) ⊎ (t.name ≡ right_name) → Asks h.decls d.kind o.visible o.symbol
          tested t bound =
              subst (λ (z : Occurrence). Asks h.decls d.kind z.visible z.symbol) (sym t.same)
              (test_kind (parameters (turn d).params) t.name t.level (kind_of bound))
            where
              kind_of : (t.name ≡ left_name) ⊎ (t.name ≡ right_name) → find (parameters (turn d).params) t.name ≡ Some Int
              kind_of (inl e) = ap (find (parameters (turn d).params)) e ∙ left_kind inserted t.active
              kind_of (inr e) = ap (find (parameters (turn d).params)) e ∙ right_kind inserted t.active

          go : IsTest m (parameters (turn d).params) o ⊎ Partner levelled m (symbols_of d a.alternative) o → Asks h.decls d.kind o.visible o.symbol
          go (inl t) = tested t t.bound
          go (inr p) =
              subst (Asks h.decls d.kind o.visible) (sym p.same)
              (asks_there laws.elsewhere levelled g.decls h.decls d.kind (laws.found.changed turn (λ z. refl) g.decls) (levelled_known laws.found g.decls)
              p.v o.visible p.inserted p.x p.pair p.fits p.clear (before (at p.v p.x) p.there))

      -- what each symbol of the source has, and added tests have, each symbol has
      pub kept : (P : Symbol → Type 0) → Keeps levelled P P → All P (subterms_of_symbols (gathered a.alternative.symbols)) →
          All P (subterms_of_symbols (gathered lower.symbols))
      kept P keeps before = from_occurrences P (gathered lower.symbols) (parameters (turn d).params) (λ o among. go o (met_by o among))
        where
          tested : (level : ℕ) (name : List ℕ) → (name ≡ left_name) ⊎ (name ≡ right_name) → P (test level name)
          tested level name (inl e) = subst (λ z. P (test level z)) (sym e) (keeps.left_test level)
          tested level name (inr e) = subst (λ z. P (test level z)) (sym e) (keeps.right_test level)

          go : (o : Occurrence) → IsTest m (parameters (turn d).params) o ⊎ Partner levelled m (symbols_of d a.alternative) o → P o.symbol
          go o (inl t) = subst (λ (z : Occurrence). P z.symbol) (sym t.same) (tested t.level t.name t.bound)
          go o (inr p) =
              subst P (sym p.same) (keeps.symbol p.x p.pair p.fits.own (at_occurrence P (gathered a.alternative.symbols) (parameters d.params) before (at p.v p.x) p.there))

      settled : All (IsSettled later) (subterms_of_symbols (gathered a.alternative.symbols)) → All (IsSettled later) (subterms_of_symbols (gathered lower.symbols))
      settled =
          kept (IsSettled later)
          (record {
            symbol = λ x p own s.
                record {
                  placed = (keeps_placed levelled).symbol x p own s.placed;
                  entered = (keeps_entered levelled).symbol x p own s.entered;
                  lacks = λ name l. (lacking name l).symbol x p own (s.lacks name l);
                };
            left_test = λ level.
                record {
                  placed = (keeps_placed levelled).left_test level;
                  entered = (keeps_entered levelled).left_test level;
                  lacks = λ name l. (lacking name l).left_test level;
                };
            right_test = λ level.
                record {
                  placed = (keeps_placed levelled).right_test level;
                  entered = (keeps_entered levelled).right_test level;
                  lacks = λ name l. (lacking name l).right_test level;
                };
          })
        where
          lacking : (name : List ℕ) → Contains later name → Keeps levelled (LacksName name) (LacksName name)
          lacking name l = keeps_lacking levelled name (is_later name left_name not_left l) (is_later name right_name not_right l)

      alternative : IsGivenFrom g.decls h.decls d (turn d) a.alternative lower
      alternative =
          let same = sym (laws.counts (gathered lower.symbols) (parameters (turn d).params)) ∙
          counted levelled d a source (may.clear (suc b) d (suc k) a (b, refl, there) (k, refl, numbered)) ∙
          laws.counts (gathered a.alternative.symbols) (parameters d.params) in
          record { bound = omega (arith, same); gets = gets }

  turned : (k : ℕ) (d e : Decl) → slice_get g.decls k ≡ Some d → slice_get h.decls k ≡ Some e → turn d ≡ e
  turned k d e before after = same_Some (turn d) e (sym (slice_get-map turn g.decls k ∙ ap (option_map turn) before) ∙ after)

  -- the alternative that was lowered
  record Origin (k : ℕ) (d : Decl) (b : Alt) : Type 0 where
    pub place : ℕ
    pub a : Levelled
    pub numbered : slice_get (by_level d.levels) place ≡ Some a
    pub among : Contains (alternatives d.levels) a.alternative
    pub same : b ≡ lowered_alternative levelled d a

  origin : (k : ℕ) (d : Decl) (b : Alt) → Contains (alternatives (turn d).levels) b → Origin k d b
  origin k d b among =
      let n = at_from_contains (alternatives (turn d).levels) b among in
      let r = alternative_before levelled d n.0 b n.1 in
      record {
        place = n.0;
        a = r.0;
        numbered = r.1;
        among = contains_from_at (alternatives d.levels) n.0 r.0.alternative (alternative_at d.levels n.0 r.0 r.1);
        same = r.2;
      }

  by_place : (k : ℕ) (d : Decl) (b : Alt) → slice_get g.decls k ≡ Some d → Contains (alternatives (turn d).levels) b →
      (a : Alt) × Contains (alternatives d.levels) a × IsGivenFrom g.decls h.decls d (turn d) a b
  by_place k d b before among =
      let r = origin k d b among in (
        r.a.alternative,
        r.among,
        subst (IsGivenFrom g.decls h.decls d (turn d) r.a.alternative) (sym r.same) (alternative k d before r.place r.a r.numbered),
      )

  pub gives : Gives later g h
  gives =
      record {
        remakes =
            record {
              remade = h.decls;
              added = [];
              decls = sym (append-nil h.decls);
              counted = length-map g.decls turn;
              each = λ k d e before after. subst (IsRemade later d) (turned k d e before after) (remade k d before);
              new = λ e m. absurd (none_in_nil e m);
              fresh = λ e m l. none_in_nil e m;
              apart = λ i j name p q. absurd (cc);
              start = refl;
              tabs = refl;
              bare = λ k d e before after start.
                  ap (λ (z : Decl). z.params) (sym (turned k d e before after)) ∙ ap (λ z. d.params ++ added_parameters z) (start_plain k d before start) ∙ append-nil d.params;
            };
        each = λ k d e b before after among.
            let same = turned k d e before after in
            subst (λ (y : Decl). (a : Alt) × Contains (alternatives d.levels) a × IsGivenFrom g.decls h.decls d y a b) same
            (by_place k d b before (subst (λ (y : Decl). Contains (alternatives y.levels) b) (sym same) among));
        gets = λ e b m l. absurd (none_in_nil e m);
      }

  -- and each symbol stays settled
  pub settles : Settles later g → Settles later h
  settles source e b among m =
      let k = at_from_contains h.decls e among in
      let from = mapped turn (slice_get g.decls k.0) e (sym (slice_get-map turn g.decls k.0) ∙ k.1) in
      let r = origin k.0 from.0 b (subst (λ (y : Decl). Contains (alternatives y.levels) b) from.2 m) in
      subst (λ (y : Alt). All (IsSettled later) (subterms_of_symbols (gathered y.symbols))) (sym r.same)
      (settled k.0 from.0 from.1 r.place r.a r.numbered (source from.0 r.a.alternative (contains_from_at g.decls k.0 from.0 from.1) r.among))
