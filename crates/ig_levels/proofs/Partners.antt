-- Beside each occurrence of the lowered alternative stands one of the source, or it is a test.
use Rattle.std.proofs.Common.{◌≡◌, ◌⊎◌, ◌∙◌, ℕ, ◌+◌, Bool, true, false, List, [], ◌∷◌, ◌++◌, cond, map, refl, sym, ap, subst, inl, inr, arith}
use Rattle.std.specs.Prelude.{Contains, count_by}
use Rattle.std.proofs.lemmas.List.{append-nil}
use Rattle.std.proofs.lemmas.List.Sums.{sum_by-cons}
use Rattle.ig_grammar.specs.Symbol.{Symbol, Literal, OneOf, Call, Label, Guard, Let, Opt, Star, Plus, SepStar, SepPlus, Group, Offside, Ignore, Align, Filtered, Seq, Entry}
use Rattle.ig_grammar.specs.Symbol.{gathered}
use Rattle.ig_grammar.specs.Condition.{binds_name, symbols_of}
use Rattle.ig_grammar.specs.Numbering.{Levelled}
use Rattle.ig_grammar.specs.Visible.{Visible, Occurrence, at, inside_sequence, parameters}
use Rattle.ig_grammar.specs.declared.declaration.Param.{Param}
use Rattle.ig_grammar.specs.declared.declaration.Decl.{Decl}
use Rattle.ig_pass.specs.Added.{left_name, right_name}
use Rattle.ig_levels.specs.Levels.{Pair, with_pair, added_parameters, is_levelled, lowered, lowered_alternative, lowered_declaration, place_in, has_left, has_right, test_of}
use Rattle.ig_levels.proofs.WithBounds.{AllClear, Clear, ParametersOfSource}
use Rattle.ig_levels.proofs.Finding.{left_found, right_found}
use Rattle.ig_levels.proofs.Keeping.{test}
use Rattle.ig_text.proofs.Lists.{contains_first, contains_later, in_rest}
use Rattle.ig_levels.proofs.Kinded.{bound_kinds, InsertedKinds, here, behind, PairFits, Paired, no_pairs, next_pair}
use Rattle.ig_levels.proofs.Sequences.{lowered_paired}
use Rattle.ig_text.proofs.Lists.{none_in_nil}
use Rattle.ig_text.proofs.Numbers.{from_zero}

-- the occurrence of the source that stands beside one of the lowered alternative
pub record Partner (levelled : List ℕ → Bool) (m : Bool) (os : List Occurrence) (o : Occurrence) : Type 0 where
  pub v : Visible
  pub x : Symbol
  pub pair : Pair
  pub there : Contains os (at v x)
  pub inserted : InsertedKinds m v o.visible
  pub fits : PairFits o.visible pair
  pub clear : Clear x
  pub same : o.symbol ≡ with_pair levelled pair x

-- a test of a bound, where it is visible
pub record IsTest (m : Bool) (w : Visible) (o : Occurrence) : Type 0 where
  pub active : m ≡ true
  pub level : ℕ
  pub name : List ℕ
  pub bound : (name ≡ left_name) ⊎ (name ≡ right_name)
  pub same : o ≡ at w (test level name)

partner_in : (levelled : List ℕ → Bool) {m : Bool} {os us : List Occurrence} → Paired levelled m os us → (o : Occurrence) → Contains us o → Partner levelled m os o
partner_in levelled no_pairs o among = absurd (none_in_nil o among)
partner_in levelled {m = m} (next_pair v w x p os us ins fits clear rest) o among =
    go (in_rest (at w (with_pair levelled p x)) us o among) (partner_in levelled rest o)
  where
    go : (at w (with_pair levelled p x) ≡ o) ⊎ Contains us o → (Contains us o → Partner levelled m os o) → Partner levelled m (at v x ∷ os) o
    go (inl e) below =
        subst (Partner levelled m (at v x ∷ os)) e
        (record { v = v; x = x; pair = p; there = contains_first (at v x) os; inserted = ins; fits = fits; clear = clear; same = refl })
    go (inr i) below =
        let f = below i in
        record { v = f.v; x = f.x; pair = f.pair; there = contains_later (at v x) os (at f.v f.x) f.there; inserted = f.inserted; fits = f.fits; clear = f.clear; same = f.same }

module _ (levelled : List ℕ → Bool) where
  same_binder : (x : Symbol) (p : Pair) → binds_name (with_pair levelled p x) ≡ binds_name x
  same_binder (Literal word) p = refl
  same_binder (OneOf class) p = refl
  same_binder (Call name arguments) p = refl
  same_binder (Label name x) p = refl
  same_binder (Guard e) p = refl
  same_binder (Let name e) p = refl
  same_binder (Opt x) p = refl
  same_binder (Star x) p = refl
  same_binder (Plus x) p = refl
  same_binder (SepStar x separator) p = refl
  same_binder (SepPlus x separator) p = refl
  same_binder (Group choices) p = refl
  same_binder (Offside x) p = refl
  same_binder (Ignore x) p = refl
  same_binder (Align x) p = refl
  same_binder (Filtered x filters) p = refl
  same_binder (Seq xs) p = refl
  same_binder (Entry bindings x) p = refl

  abbrev binding : Occurrence → Bool
  binding o = binds_name o.symbol

  abbrev one_if : Bool → ℕ
  one_if b = cond b 1 0

  count-cons : (o : Occurrence) (os : List Occurrence) → count_by binding (o ∷ os) ≡ one_if (binding o) + count_by binding os
  count-cons o os = sum_by-cons (λ (p : Occurrence). one_if (binding p)) o os

  same_count : {m : Bool} {os us : List Occurrence} → Paired levelled m os us → count_by binding us ≡ count_by binding os
  same_count no_pairs = refl
  same_count (next_pair v w x p os us ins fits clear rest) =
      count-cons (at w (with_pair levelled p x)) us ∙ (λ z. one_if (same_binder x p z) + same_count rest z) ∙ sym (count-cons (at v x) os)

  -- an occurrence among tests and what follows them
  behind_test : (b : Bool) (level : ℕ) (name : List ℕ) (xs : List Symbol) (w : Visible) →
      inside_sequence w (gathered (test_of b level name ++ xs)) ≡ map (at w) (test_of b level name) ++ inside_sequence w (gathered xs)
  behind_test true level name xs w = ap (λ z. at w (test level name) ∷ inside_sequence z (gathered xs)) (append-nil w)
  behind_test false level name xs w = refl

  among_test : (m b : Bool) → (b ≡ true → m ≡ true) → (level : ℕ) (name : List ℕ) → (name ≡ left_name) ⊎ (name ≡ right_name) → (w : Visible) (os : List Occurrence) (o : Occurrence) →
      Contains (map (at w) (test_of b level name) ++ os) o → IsTest m w o ⊎ Contains os o
  among_test m true active level name bound w os o among = go (in_rest (at w (test level name)) os o among)
    where
      go : (at w (test level name) ≡ o) ⊎ Contains os o → IsTest m w o ⊎ Contains os o
      go (inl e) = inl (record { active = active refl; level = level; name = name; bound = bound; same = sym e })
      go (inr i) = inr i
  among_test m false active level name bound w os o among = inr among

  count_behind : (b : Bool) (level : ℕ) (name : List ℕ) (w : Visible) (os : List Occurrence) →
      count_by binding (map (at w) (test_of b level name) ++ os) ≡ count_by binding os
  count_behind true level name w os = count-cons (at w (test level name)) os ∙ from_zero (count_by binding os)
  count_behind false level name w os = refl

  pub parameters_inserted : (ps : List Param) (m : Bool) → ParametersOfSource ps → InsertedKinds m (parameters ps) (parameters (ps ++ added_parameters m))
  parameters_inserted [] true s = here [] (bound_kinds true) refl
  parameters_inserted [] false s = here [] [] refl
  parameters_inserted (p ∷ ps) m s = behind p.name p.kind (parameters ps) (parameters (ps ++ added_parameters m)) s.0 (parameters_inserted ps m s.1)

  module _ (decl : Decl) (a : Levelled) (source : ParametersOfSource decl.params) (clear : AllClear a.alternative.symbols) where
    abbrev m : Bool
    m = is_levelled decl.levels

    abbrev xs : List Symbol
    xs = a.alternative.symbols

    abbrev w : Visible
    w = parameters (decl.params ++ added_parameters m)

    abbrev lower : List Occurrence
    lower = symbols_of (lowered_declaration levelled decl) (lowered_alternative levelled decl a)

    inserted : InsertedKinds m (parameters decl.params) w
    inserted = parameters_inserted decl.params m source

    paired : Paired levelled m (symbols_of decl a.alternative) (inside_sequence w (gathered (lowered levelled (place_in decl a) true xs)))
    paired = lowered_paired levelled xs (place_in decl a) true (parameters decl.params) w inserted (λ e. e) clear

    abbrev tests_and_lowered : List Occurrence
    tests_and_lowered =
        map (at w) (test_of (has_left (place_in decl a) true xs) a.level left_name) ++
        (map (at w) (test_of (has_right (place_in decl a) true xs) a.level right_name) ++ inside_sequence w (gathered (lowered levelled (place_in decl a) true xs)))

    parted : lower ≡ tests_and_lowered
    parted =
        behind_test (has_left (place_in decl a) true xs) a.level left_name (test_of (has_right (place_in decl a) true xs) a.level right_name ++ lowered levelled (place_in decl a) true xs) w ∙
        ap (λ z. map (at w) (test_of (has_left (place_in decl a) true xs) a.level left_name) ++ z)
        (behind_test (has_right (place_in decl a) true xs) a.level right_name (lowered levelled (place_in decl a) true xs) w)

    pub occurs : (o : Occurrence) → Contains lower o → IsTest m w o ⊎ Partner levelled m (symbols_of decl a.alternative) o
    occurs o among =
        first (among_test m (has_left (place_in decl a) true xs) (λ e. (left_found (place_in decl a) xs e).active) a.level left_name (inl refl) w _ o (subst (λ z. Contains z o) parted among))
      where
        second : IsTest m w o ⊎ Contains (inside_sequence w (gathered (lowered levelled (place_in decl a) true xs))) o → IsTest m w o ⊎ Partner levelled m (symbols_of decl a.alternative) o
        second (inl t) = inl t
        second (inr i) = inr (partner_in levelled paired o i)

        first : IsTest m w o ⊎ Contains (map (at w) (test_of (has_right (place_in decl a) true xs) a.level right_name) ++ inside_sequence w (gathered (lowered levelled (place_in decl a) true xs))) o →
            IsTest m w o ⊎ Partner levelled m (symbols_of decl a.alternative) o
        first (inl t) = inl t
        first (inr i) = second (among_test m (has_right (place_in decl a) true xs) (λ e. (right_found (place_in decl a) true xs e).active) a.level right_name (inr refl) w _ o i)

    pub counted : count_by binding lower ≡ count_by binding (symbols_of decl a.alternative)
    counted =
        ap (count_by binding) parted ∙ count_behind (has_left (place_in decl a) true xs) a.level left_name w _ ∙
        count_behind (has_right (place_in decl a) true xs) a.level right_name w _ ∙ same_count paired
