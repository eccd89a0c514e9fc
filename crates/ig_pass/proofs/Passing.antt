-- What a pass gives is enough for its result to be well scoped, regular in form, and free of the names.
use Rattle.std.proofs.Common.{◌≡◌, ◌∙◌, ℕ, zero, suc, ◌+◌, ◌<◌, ◌≤◌, List, [], ◌∷◌, ◌++◌, Option, Some, None, cond, true, false, refl, sym, ap, ap₂, subst, length, take, inl, inr, arith}
use Rattle.std.specs.Prelude.{◌⊎◌, All, Contains, slice_get, count_by}
use Rattle.std.proofs.lemmas.List.{map-append, take-map, take-append-le}
use Rattle.std.proofs.lemmas.List.Elements.{Contains-append_cases}
use Rattle.std.proofs.lemmas.List.Sums.{sum_by-append, sum_by-cons}
use Rattle.std.proofs.lemmas.Option.{same_Some, slice_get_within}
use Rattle.ig_grammar.specs.Tabs.{says_bad_width}
use Rattle.ig_text.proofs.Lists.{at_from_contains, contains_from_at, contains_first, contains_later, contains_one, none_in_nil, get_within, in_take, within_take, left_at, sides, mapped_at}
use Rattle.ig_text.proofs.Booleans.{not_both}
use Rattle.ig_text.proofs.Differing.{not_before, all_differ, both_differ}
use Rattle.ig_grammar.specs.Condition.{Condition, HeadMeets, StartMeets, IsNotPlain, declaration_of, symbols_of, named_parameters, most_variables, most_parameters, binds_name}
use Rattle.ig_grammar.specs.Condition as meets
use Rattle.ig_grammar.specs.Name.{is_name}
use Rattle.ig_grammar.specs.Names.{AreDistinct, names}
use Rattle.ig_grammar.specs.Numbering.{alternatives}
use Rattle.ig_grammar.specs.Regular.{OfEachLevel, IsPlaced}
use Rattle.ig_grammar.specs.Subterms.{subterms_of_alternatives}
use Rattle.ig_grammar.specs.Symbol.{Symbol, gathered}
use Rattle.ig_grammar.specs.Visible.{parameters}
use Rattle.ig_grammar.specs.Visible as visible
use Rattle.ig_grammar.specs.WellScoped.{IsWellScoped, GrammarHas, DeclarationHas, AlternativeHas}
use Rattle.ig_grammar.specs.declared.symbol.Alt.{Alt}
use Rattle.ig_grammar.specs.declared.declaration.Assoc.TheVariants.{Free}
use Rattle.ig_grammar.specs.declared.declaration.DeclKind.TheVariants.{Layout, Plain}
use Rattle.ig_grammar.specs.declared.declaration.Level.{Level}
use Rattle.ig_grammar.specs.declared.declaration.Param.{Param}
use Rattle.ig_grammar.specs.declared.declaration.Decl.{Decl}
use Rattle.ig_grammar.specs.declared.grammar.Grammar.{Grammar}
use Rattle.ig_pass.specs.EachLevel.{in_alternative, of_each_level}
use Rattle.ig_pass.specs.Needs.{IsEntered}
use Rattle.ig_pass.specs.Passing.{IsSettled, Settles, GetAll, IsReadyFor, IsRemade, IsAdded, Remakes, Gives, ResultsAreReady, parameter_names}
use Rattle.ig_pass.specs.Unbound.{LacksName}
use Rattle.ig_pass.proofs.Asking.{symbols_ask}
use Rattle.ig_pass.proofs.Counting.{symbols_counted}
use Rattle.ig_pass.proofs.FirstNamed.{found_itself, distinct, found_at}

-- the same names in the same order
same_names : (ds es : List Decl) → length es ≡ length ds →
    ((k : ℕ) (d e : Decl) → slice_get ds k ≡ Some d → slice_get es k ≡ Some e → e.name ≡ d.name) → names es ≡ names ds
same_names [] [] l f = refl
same_names [] (e ∷ es) l f = absurd (omega (arith, l))
same_names (d ∷ ds) [] l f = absurd (omega (arith, l))
same_names (d ∷ ds) (e ∷ es) l f =
    ap₂ (λ n ns. n ∷ ns) (f 0 d e refl refl) (same_names ds es (omega (arith, l)) (λ k x y a b. f (suc k) x y a b))

visible_names : (ps : List Param) → visible.names (parameters ps) ≡ parameter_names ps
visible_names [] = refl
visible_names (p ∷ ps) = ap (λ z. p.name ∷ z) (visible_names ps)

parameter_at : (ps : List Param) (k : ℕ) (p : Param) → slice_get ps k ≡ Some p → slice_get (parameter_names ps) k ≡ Some p.name
parameter_at [] k p e = cc
parameter_at (q ∷ ps) zero p e = ap (λ (z : Param). Some z.name) (same_Some q p e)
parameter_at (q ∷ ps) (suc k) p e = parameter_at ps k p e

parameter_from : (ps : List Param) (k : ℕ) (n : List ℕ) → slice_get (parameter_names ps) k ≡ Some n → (p : Param) × (slice_get ps k ≡ Some p) × (p.name ≡ n)
parameter_from [] k n e = cc
parameter_from (q ∷ ps) zero n e = (q, refl, same_Some q.name n e)
parameter_from (q ∷ ps) (suc k) n e = parameter_from ps k n e

-- a name among those of parameters is that of one
parameter_named : (ps : List Param) (n : List ℕ) → Contains (parameter_names ps) n → (p : Param) × Contains ps p × (p.name ≡ n)
parameter_named ps n m =
    let at = at_from_contains (parameter_names ps) n m in
    let r = parameter_from ps at.0 n at.1 in (r.0, contains_from_at ps at.0 r.0 r.1, r.2)

-- the parameters before one, by their names
earlier_names : (ps : List Param) (k : ℕ) → visible.names (parameters (take k ps)) ≡ take k (parameter_names ps)
earlier_names ps k = visible_names (take k ps) ∙ sym (take-map (λ (p : Param). p.name) k ps)

count_names : (ds : List Decl) → count_by (λ d. is_name d.name) ds ≡ count_by is_name (names ds)
count_names [] = refl
count_names (d ∷ ds) =
    sum_by-cons (λ e. cond (is_name e.name) 1 0) d ds ∙ ap (λ n. cond (is_name d.name) 1 0 + n) (count_names ds) ∙
    sym (sum_by-cons (λ n. cond (is_name n) 1 0) d.name (names ds))

none_counted : (ps : List Param) → ((p : Param) → Contains ps p → is_name p.name ≡ false) → count_by (λ p. is_name p.name) ps ≡ 0
none_counted [] f = refl
none_counted (p ∷ ps) f =
    sum_by-cons (λ (q : Param). cond (is_name q.name) 1 0) p ps ∙
    ap₂ (λ a b. a + b) (ap (λ z. cond z 1 0) (f p (contains_first p ps))) (none_counted ps (λ q m. f q (contains_later p ps q m)))

-- what the conditions say of a well-scoped grammar
module _ (g : Grammar) (scoped : IsWellScoped g) where
  pub different_parameters : (b : ℕ) (d : Decl) → slice_get g.decls b ≡ Some d → AreDistinct (parameter_names d.params)
  different_parameters b d e =
      all_differ (parameter_names d.params) (λ k n at among.
      let p = parameter_from d.params k n at in
      scoped (record { decl = suc b; alt = 0; symbol = 0 }) meets.DuplicateVariable (
        d,
        e,
        meets.duplicate_parameter k p.0 p.1
            (subst (λ z. Contains z p.0.name) (sym (earlier_names d.params k)) (subst (Contains (take k (parameter_names d.params))) (sym p.2) among)),
      ))

-- the declaration of a name in the result
record IsDeclaredToo (later : List (List ℕ)) (h : Grammar) (name : List ℕ) (d : Decl) : Type 0 where
  pub e : Decl
  pub declared : declaration_of h.decls name ≡ Some e
  pub remade : IsRemade later d e

-- the declarations
module _ (later : List (List ℕ)) (g h : Grammar) (scoped : IsWellScoped g) (makes : Remakes later g h) where
  named : names makes.remade ≡ names g.decls
  named = same_names g.decls makes.remade makes.counted (λ k d e a b. (makes.each k d e a b).named)

  different : AreDistinct (names h.decls)
  different =
      subst AreDistinct (sym (ap names makes.decls ∙ map-append (λ (d : Decl). d.name) makes.remade makes.added ∙ ap (λ z. z ++ names makes.added) named))
      (both_differ (names g.decls) (names makes.added) (distinct g scoped) makes.apart (λ n here there. go n here (added_named makes.added n there)))
    where
      added_named : (ds : List Decl) (n : List ℕ) → Contains (names ds) n → (e : Decl) × Contains ds e × (e.name ≡ n)
      added_named [] n m = absurd (none_in_nil n m)
      added_named (d ∷ ds) n m = at (Contains-append_cases (d.name ∷ []) (names ds) n m) (λ c. added_named ds n c)
        where
          at : Contains (d.name ∷ []) n ⊎ Contains (names ds) n → (Contains (names ds) n → (e : Decl) × Contains ds e × (e.name ≡ n)) →
              (e : Decl) × Contains (d ∷ ds) e × (e.name ≡ n)
          at (inl c) rest = (d, contains_first d ds, sym (contains_one d.name n c))
          at (inr c) rest = let r = rest c in (r.0, contains_later d ds r.0 r.1, r.2)

      go : (n : List ℕ) → Contains (names g.decls) n → (e : Decl) × Contains makes.added e × (e.name ≡ n) → ⊥
      go n here r = makes.fresh r.0 r.1 (subst (Contains (names g.decls)) (sym r.2) here)

  -- a place of the result
  pub data At (b : ℕ) (e : Decl) : Type 0 where
    remade_at : (d : Decl) → slice_get g.decls b ≡ Some d → slice_get makes.remade b ≡ Some e → At b e
    added_at : Contains makes.added e → length makes.remade ≤ b → At b e

  pub at_place : (b : ℕ) (e : Decl) → slice_get h.decls b ≡ Some e → At b e
  at_place b e there = go (sides makes.remade makes.added b e (subst (λ ds. slice_get ds b ≡ Some e) makes.decls there))
    where
      go : (slice_get makes.remade b ≡ Some e) ⊎ ((m : ℕ) × (b ≡ length makes.remade + m) × (slice_get makes.added m ≡ Some e)) → At b e
      go (inl f) =
          let less = slice_get_within makes.remade b e f in
          let counted = makes.counted in
          let d = get_within g.decls b (omega (arith, less, counted)) in remade_at d.0 d.1 f
      go (inr f) = let place = f.1 in added_at (contains_from_at makes.added f.0 e f.2) (omega (arith, place))

  declared_too : (name : List ℕ) (d : Decl) → declaration_of g.decls name ≡ Some d → IsDeclaredToo later h name d
  declared_too name d e =
      let at = found_at g.decls name d e in
      let less = slice_get_within g.decls at.0 d at.1 in
      let counted = makes.counted in
      let r = get_within makes.remade at.0 (omega (arith, less, counted)) in
      let made = makes.each at.0 d r.0 at.1 r.1 in
      let there : slice_get h.decls at.0 ≡ Some r.0 =
      subst (λ ds. slice_get ds at.0 ≡ Some r.0) (sym makes.decls) (left_at makes.remade makes.added at.0 r.0 r.1) in
      record {
        e = r.0;
        declared = ap (declaration_of h.decls) (sym at.2 ∙ sym made.named) ∙ found_itself h.decls different at.0 r.0 there;
        remade = made;
      }

  start_there : (c : Condition) → StartMeets h c → ⊥
  start_there c (meets.no_start none) =
      scoped (record { decl = 0; alt = 0; symbol = 0 }) meets.NoStart (meets.no_start (sym makes.start ∙ none))
  start_there c (meets.bad_tabs bad) =
      scoped (record { decl = 0; alt = 0; symbol = 0 }) meets.BadTabs (meets.bad_tabs (ap says_bad_width (sym makes.tabs) ∙ bad))
  start_there c (meets.unknown_start name started none) = go (declaration_of g.decls name) refl
    where
      go : (o : Option Decl) → declaration_of g.decls name ≡ o → ⊥
      go None e = scoped (record { decl = 0; alt = 0; symbol = 0 }) meets.UnknownName (meets.unknown_start name (sym makes.start ∙ started) e)
      go (Some d) e = let r = declared_too name d e in let f : Some r.e ≡ None = sym r.declared ∙ none in cc
  start_there c (meets.start_has_parameters name e started found some) = go (declaration_of g.decls name) refl
    where
      before : g.start ≡ Some name
      before = sym makes.start ∙ started

      go : (o : Option Decl) → declaration_of g.decls name ≡ o → ⊥
      go None f = scoped (record { decl = 0; alt = 0; symbol = 0 }) meets.UnknownName (meets.unknown_start name before f)
      go (Some d) f =
          let at = found_at g.decls name d f in
          let less = slice_get_within g.decls at.0 d at.1 in
          let counted = makes.counted in
          let r = get_within makes.remade at.0 (omega (arith, less, counted)) in
          let made = makes.each at.0 d r.0 at.1 r.1 in
          let there : slice_get h.decls at.0 ≡ Some r.0 =
          subst (λ ds. slice_get ds at.0 ≡ Some r.0) (sym makes.decls) (left_at makes.remade makes.added at.0 r.0 r.1) in
          let itself = ap (declaration_of h.decls) (sym at.2 ∙ sym made.named) ∙ found_itself h.decls different at.0 r.0 there in
          let same : e ≡ r.0 = same_Some e r.0 (sym found ∙ itself) in
          let bare = makes.bare at.0 d r.0 at.1 r.1 (before ∙ ap Some (sym at.2)) in
          scoped (record { decl = 0; alt = 0; symbol = 0 }) meets.StartHasParameters
          (meets.start_has_parameters name d before f (λ none. some (ap (λ (z : Decl). z.params) same ∙ bare ∙ none)))

  named_more : (d e : Decl) (made : IsRemade later d e) → named_parameters e ≡ named_parameters d
  named_more d e made =
      ap (count_by (λ (p : Param). is_name p.name)) made.longer ∙ sum_by-append (λ (p : Param). cond (is_name p.name) 1 0) d.params made.more ∙
      (let none = none_counted made.more made.unnamed in omega (arith, none))

  module _ (b : ℕ) (e : Decl) (there : slice_get h.decls b ≡ Some e) where
    name_once : Contains (names (take b h.decls)) e.name → ⊥
    name_once m =
        not_before (names h.decls) different b e.name (mapped_at (λ (z : Decl). z.name) h.decls b e there)
        (subst (λ z. Contains z e.name) (sym (take-map (λ (d : Decl). d.name) b h.decls)) m)

    parameter_once : AreDistinct (parameter_names e.params) → (k : ℕ) (p : Param) → slice_get e.params k ≡ Some p →
        Contains (visible.names (parameters (take k e.params))) p.name → ⊥
    parameter_once once k p at m =
        not_before (parameter_names e.params) once k p.name (parameter_at e.params k p at) (subst (λ z. Contains z p.name) (earlier_names e.params k) m)

    added_head : IsAdded later e → (c : Condition) → HeadMeets h.decls b e c → ⊥
    added_head new c (meets.duplicate_name m) = name_once m
    added_head new c (meets.duplicate_parameter k p at m) = parameter_once new.distinct k p at m
    added_head new c (meets.layout_not_plain k n) = new.kinded k
    added_head new c (meets.too_many_nonterminals n m) = not_both (is_name e.name) n new.unnamed
    added_head new c (meets.too_many_parameters n m) = not_both (is_name e.name) n new.unnamed

    module _ (d : Decl) (before : slice_get g.decls b ≡ Some d) (at : slice_get makes.remade b ≡ Some e) where
      made : IsRemade later d e
      made = makes.each b d e before at

      within : b ≤ length makes.remade
      within = let less = slice_get_within makes.remade b e at in omega (arith, less)

      once : AreDistinct (parameter_names e.params)
      once =
          subst AreDistinct (sym (ap parameter_names made.longer ∙ map-append (λ (p : Param). p.name) d.params made.more))
          (both_differ (parameter_names d.params) (parameter_names made.more) (different_parameters g scoped b d before) made.distinct
          (λ n l m. let p = parameter_named made.more n m in made.apart p.0 p.1 (subst (Contains (parameter_names d.params)) (sym p.2) l)))

      same_layout : (x y : Decl) → IsRemade later x y → y.kind ≡ Layout → x.kind ≡ Layout
      same_layout x y r e2 = go r.kinded
        where
          go : (y.kind ≡ x.kind) ⊎ (y.kind ≡ Plain) → x.kind ≡ Layout
          go (inl f) = sym f ∙ e2
          go (inr f) = let bad : Plain ≡ Layout = sym f ∙ e2 in absurd (cc)

      not_plain : e.kind ≡ Layout → IsNotPlain h.decls b e → IsNotPlain g.decls b d
      not_plain k (meets.parametrized f) =
          meets.parametrized (λ none. f (made.longer ∙ ap₂ (λ x y. x ++ y) none (made.layout k)))
      not_plain k (meets.levels f) = let less = made.levels in meets.levels (omega (arith, f, less))
      not_plain k (meets.associativity level m f) = go (made.associated level m)
        where
          go : (level.assoc ≡ Free) ⊎ ((l : Level) × Contains d.levels l × (l.assoc ≡ level.assoc)) → IsNotPlain g.decls b d
          go (inl free) = absurd (f free)
          go (inr l) = meets.associativity l.0 l.1 (λ free. f (sym l.2 ∙ free))
      not_plain k (meets.second earlier m f) =
          let i = at_from_contains (take b h.decls) earlier m in
          let w = within_take h.decls b i.0 earlier i.1 in go i.0 w.0 (at_place i.0 earlier w.1)
        where
          go : (i : ℕ) → i < b → At i earlier → IsNotPlain g.decls b d
          go i less (remade_at x here made_here) =
              meets.second x (contains_from_at (take b g.decls) i x (in_take g.decls b i x less here))
              (same_layout x earlier (makes.each i x earlier here made_here) f)
          go i less (added_at among behind) = let end = within in absurd (omega (arith, less, behind, end))

      names_before : names (take b h.decls) ≡ names (take b g.decls)
      names_before =
          ap (λ ds. names (take b ds)) makes.decls ∙ ap names (take-append-le b makes.remade makes.added within) ∙
          sym (take-map (λ (x : Decl). x.name) b makes.remade) ∙ ap (take b) named ∙ take-map (λ (x : Decl). x.name) b g.decls

      remade_head : (c : Condition) → HeadMeets h.decls b e c → ⊥
      remade_head c (meets.duplicate_name m) = name_once m
      remade_head c (meets.duplicate_parameter k p there2 m) = parameter_once once k p there2 m
      remade_head c (meets.layout_not_plain k n) =
          scoped (record { decl = suc b; alt = 0; symbol = 0 }) meets.LayoutNotPlain
          (d, before, meets.layout_not_plain (same_layout d e made k) (not_plain k n))
      remade_head c (meets.too_many_nonterminals n f) =
          scoped (record { decl = suc b; alt = 0; symbol = 0 }) (meets.TooMany meets.Nonterminals) (
            d,
            before,
            meets.too_many_nonterminals (ap is_name (sym made.named) ∙ n)
                (count_names (take b g.decls) ∙ ap (count_by is_name) (sym names_before) ∙ sym (count_names (take b h.decls)) ∙ f),
          )
      remade_head c (meets.too_many_parameters n l) =
          scoped (record { decl = suc b; alt = 0; symbol = 0 }) (meets.TooMany meets.Parameters)
          (d, before, meets.too_many_parameters (ap is_name (sym made.named) ∙ n) (subst (λ m. most_parameters < m) (named_more d e made) l))

module _ (later : List (List ℕ)) (g h : Grammar) (scoped : IsWellScoped g) (gives : Gives later g h) where
  -- the symbols of each alternative of the source get what they ask
  gets_before : (d : Decl) (a : Alt) → Contains g.decls d → Contains (alternatives d.levels) a → GetAll g.decls d a
  gets_before d a among m o there =
      let b = at_from_contains g.decls d among in
      let k = at_from_contains (alternatives d.levels) a m in
      let s = at_from_contains (symbols_of d a) o there in
      symbols_ask.asks g.decls d.kind o.visible o.symbol
      (λ c met. scoped (record { decl = suc b.0; alt = suc k.0; symbol = suc s.0 }) c (d, b.1, (a, k.1, (o, s.1, met))))

  -- and so do those of the result
  gets_there : (b : ℕ) (e : Decl) (y : Alt) → At later g h scoped gives.remakes b e → Contains (alternatives e.levels) y → GetAll h.decls e y
  gets_there b e y (remade_at d before at) m =
      let r = gives.each b d e y before at m in
      r.2.gets (gets_before d r.0 (contains_from_at g.decls b d before) r.1)
  gets_there b e y (added_at among behind) m = gives.gets e y among m

  few_there : (b : ℕ) (e : Decl) (y : Alt) → At later g h scoped gives.remakes b e → Contains (alternatives e.levels) y → is_name e.name ≡ true →
      most_variables < named_parameters e + count_by (λ o. binds_name o.symbol) (symbols_of e y) → ⊥
  few_there b e y (remade_at d before at) m n l =
      let kept = gives.remakes.each b d e before at in
      let r = gives.each b d e y before at m in
      let k = at_from_contains (alternatives d.levels) r.0 r.1 in
      let here = symbols_counted (gathered y.symbols) (parameters e.params) in
      let there = symbols_counted (gathered r.0.symbols) (parameters d.params) in
      let bound = r.2.bound in
      let same = named_more later g h scoped gives.remakes d e kept in
      let more : most_variables < named_parameters d + count_by (λ o. binds_name o.symbol) (symbols_of d r.0) = omega (arith, l, here, there, bound, same) in
      scoped (record { decl = suc b; alt = suc k.0; symbol = 0 }) (meets.TooMany meets.Variables)
      (d, before, (r.0, k.1, meets.too_many_variables (ap is_name (sym kept.named) ∙ n) more))
  few_there b e y (added_at among behind) m n l = not_both (is_name e.name) n (gives.remakes.new e among).unnamed

  alternative_there : (b : ℕ) (e : Decl) (y : Alt) (s : ℕ) (c : Condition) → At later g h scoped gives.remakes b e → Contains (alternatives e.levels) y →
      AlternativeHas h.decls e y s c → ⊥
  alternative_there b e y zero c at m (meets.too_many_variables n l) = few_there b e y at m n l
  alternative_there b e y (suc s) c at m met =
      let asks = gets_there b e y at m met.0 (contains_from_at (symbols_of e y) s met.0 met.1) in
      symbols_ask.unmet h.decls e.kind met.0.visible met.0.symbol asks c met.2

  head_there : (b : ℕ) (e : Decl) (c : Condition) → slice_get h.decls b ≡ Some e → At later g h scoped gives.remakes b e → HeadMeets h.decls b e c → ⊥
  head_there b e c there (remade_at d before at) met = remade_head later g h scoped gives.remakes b e there d before at c met
  head_there b e c there (added_at among behind) met = added_head later g h scoped gives.remakes b e there (gives.remakes.new e among) c met

  declaration_there : (b : ℕ) (e : Decl) (a s : ℕ) (c : Condition) → slice_get h.decls b ≡ Some e → DeclarationHas h.decls b e a s c → ⊥
  declaration_there b e zero zero c there met = head_there b e c there (at_place later g h scoped gives.remakes b e there) met
  declaration_there b e zero (suc s) c there met = met
  declaration_there b e (suc k) s c there met =
      alternative_there b e met.0 s c (at_place later g h scoped gives.remakes b e there)
      (contains_from_at (alternatives e.levels) k met.0 met.1) met.2

  pub scoped_there : IsWellScoped h
  scoped_there place c has = go place.decl place.alt place.symbol has
    where
      go : (d a s : ℕ) → GrammarHas h d a s c → ⊥
      go zero zero zero met = start_there later g h scoped gives.remakes c met
      go zero zero (suc s) met = met
      go zero (suc a) s met = met
      go (suc b) a s met = declaration_there b met.0 a s c met.1 met.2

-- each symbol of a grammar that is ready is settled
settled_before : (later : List (List ℕ)) (g : Grammar) → IsReadyFor later g → Settles later g
settled_before later g ready decl a among m k d within =
    record {
      placed = in_alternative IsPlaced g ready.well decl a among m k d within;
      entered = in_alternative IsEntered g ready.entered decl a among m k d within;
      lacks = λ name l. in_alternative (LacksName name) g (ready.free name l).symbols decl a among m k d within;
    }

module _ (later : List (List ℕ)) (g h : Grammar) (ready : IsReadyFor later g) (gives : Gives later g h) (settles : Settles later h) where
  -- what holds of each settled symbol holds at each level
  each_level : (P : Symbol → Type 0) → ((x : Symbol) → IsSettled later x → P x) → OfEachLevel (λ choices. All P (subterms_of_alternatives choices)) h
  each_level P f = of_each_level P h (λ e y among m k d within. f _ (settles e y among m k d within))

  no_parameter : (name : List ℕ) → Contains later name → (b : ℕ) (e : Decl) → At later g h ready.scoped gives.remakes b e → Contains (parameter_names e.params) name → ⊥
  no_parameter name l b e (added_at among behind) m =
      let p = parameter_named e.params name m in
      (gives.remakes.new e among).lacks p.0 p.1 (subst (Contains later) (sym p.2) l)
  no_parameter name l b e (remade_at d before at) m =
      let kept = gives.remakes.each b d e before at in
      go kept (Contains-append_cases (parameter_names d.params) (parameter_names kept.more) name
      (subst (λ z. Contains z name) (ap parameter_names kept.longer ∙ map-append (λ (p : Param). p.name) d.params kept.more) m))
    where
      go : (kept : IsRemade later d e) → Contains (parameter_names d.params) name ⊎ Contains (parameter_names kept.more) name → ⊥
      go kept (inl c) = (ready.free name l).parameters d (contains_from_at g.decls b d before) c
      go kept (inr c) = let p = parameter_named kept.more name c in kept.lacks p.0 p.1 (subst (Contains later) (sym p.2) l)

  pub ready_there : IsReadyFor later h
  ready_there =
      record {
        scoped = scoped_there later g h ready.scoped gives;
        well = each_level IsPlaced (λ x s. s.placed);
        entered = each_level IsEntered (λ x s. s.entered);
        free = λ name l.
            record {
              parameters = λ e among m.
                  let b = at_from_contains h.decls e among in no_parameter name l b.0 e (at_place later g h ready.scoped gives.remakes b.0 e b.1) m;
              symbols = each_level (LacksName name) (λ x s. s.lacks name l);
            };
      }

pub results_are_ready : ResultsAreReady
results_are_ready = record { scoped = scoped_there; settled = settled_before; result = ready_there }
