-- The names of added declarations: `A#k`, numbered in preorder.
use Rattle.ig_ebnf_variables.proofs.OfAdded.{OfAdded, of_added_both}
use Rattle.ig_pass.specs.Added.{AddedNamesAreNew, HasNoSign}
use Rattle.ig_text.proofs.Differing.{both_differ}
use Rattle.ig_text.proofs.Lists.{at_from_contains, either_place, mapped_at}
use Rattle.std.proofs.Common.{◌≡◌, ℕ, suc, ◌+◌, ◌<◌, List, [], ◌∷◌, ◌++◌, map, length, refl, sym, ◌∙◌, ap, subst}
use Rattle.std.proofs.Common.{Some, inl, inr, arith}
use Rattle.std.specs.Prelude.{◌≢◌, ◌⊎◌, slice_get, ◌^◌}
use Rattle.std.proofs.lemmas.List.{map-append}
use Rattle.ig_ebnf_variables.proofs.Definitions.{Small}
use Rattle.ig_ebnf_variables.specs.Lists.{Made, count, count_symbols, count_alternatives, count_alts, added, added_symbols}
use Rattle.ig_ebnf_variables.specs.Lists.{added_alternatives, added_alts}
use Rattle.ig_ebnf_variables.specs.Lists.{added_levels, added_by, all_added, count_levels}
use Rattle.ig_grammar.specs.Checked.{IsOneFreeLevel, MayHave}
use Rattle.ig_grammar.specs.Numbering.{alternatives}
use Rattle.ig_grammar.specs.declared.place.Shape.TheVariants.{Rule, Root}
use Rattle.ig_grammar.specs.Names.{names, AreDistinct}
use Rattle.ig_grammar.specs.Symbol.{Symbol, Literal, OneOf, Call, Label, Guard, Let, Opt, Star, Plus, SepStar}
use Rattle.ig_grammar.specs.Symbol.{SepPlus, Group, Offside, Ignore, Align}
use Rattle.ig_grammar.specs.Symbol.{Filtered, Seq, Entry, gathered, Symbols, no_symbols, next_symbol, Alternatives}
use Rattle.ig_grammar.specs.Symbol.{no_alternatives, next_alternative}
use Rattle.ig_grammar.specs.Visible.{Visible, binds, replaced, parameters}
use Rattle.ig_grammar.specs.declared.declaration.Decl.{Decl}
use Rattle.ig_grammar.specs.declared.declaration.DeclKind.TheVariants.{Plain}
use Rattle.ig_grammar.specs.declared.declaration.Level.{Level}
use Rattle.ig_grammar.specs.declared.symbol.Alt.{Alt}
use Rattle.ig_meaning.specs.Laws.{HasNoOperators}
use Rattle.ig_pass.specs.Added.{added_name}

abbrev pub titles : List Made → List (List ℕ)
titles ms = map (λ (m : Made). m.decl.name) ms

abbrev pub numbers : ℕ → ℕ → List ℕ
numbers k ℕ.zero = []
numbers k (suc n) = k ∷ numbers (suc k) n

numbers_append : (k m n : ℕ) → numbers k (m + n) ≡ numbers k m ++ numbers (k + m) n
numbers_append k ℕ.zero n =
    let p : 0 + n ≡ n = omega arith in
    let q : k ≡ k + 0 = omega arith in
    ap (numbers k) p ∙ ap (λ z. numbers z n) q
numbers_append k (suc m) n =
    let p : suc m + n ≡ suc (m + n) = omega arith in
    let q : suc k + m ≡ k + suc m = omega arith in
    ap (numbers k) p ∙ ap (λ z. k ∷ z) (numbers_append (suc k) m n ∙ ap (λ z. numbers (suc k) m ++ numbers z n) q)

pub numbered_at : (f : ℕ → List ℕ) (k n i : ℕ) (name : List ℕ) → slice_get (map f (numbers k n)) i ≡ Some name →
    (name ≡ f (k + i)) × (i < n)
numbered_at f k ℕ.zero i name e = absurd (cc)
numbered_at f k (suc n) ℕ.zero name e = let same : f k ≡ name = cc in (sym same ∙ ap f (omega arith), omega arith)
numbered_at f k (suc n) (suc i) name e =
    let below = numbered_at f (suc k) n i name e in
    let within = below.1 in
    (below.0 ∙ ap f (omega arith), omega (arith, within))

joined : (of : List ℕ) (xs ys : List Made) (k m n : ℕ) → titles xs ≡ map (added_name of) (numbers k m) →
    titles ys ≡ map (added_name of) (numbers (k + m) n) →
    titles (xs ++ ys) ≡ map (added_name of) (numbers k (m + n))
joined of xs ys k m n p q =
    map-append (λ (z : Made). z.decl.name) xs ys ∙ (λ z. p z ++ q z) ∙
    sym (map-append (added_name of) (numbers k m) (numbers (k + m) n)) ∙
    ap (map (added_name of)) (sym (numbers_append k m n))

module _ (of : List ℕ) where
  mutual
    pub titled : (x : Symbol) (v : Visible) (k : ℕ) →
        titles (added of v k x) ≡ map (added_name of) (numbers k (count x))
    titled (Literal w) v k = refl
    titled (OneOf w) v k = refl
    titled (Call m es) v k = refl
    titled (Label m x) v k = titled x v k
    titled (Guard e) v k = refl
    titled (Let m e) v k = refl
    titled (Opt x) v k = ap (λ z. added_name of k ∷ z) (titled x v (suc k))
    titled (Star x) v k = ap (λ z. added_name of k ∷ z) (titled x v (suc k))
    titled (Plus x) v k = ap (λ z. added_name of k ∷ z) (titled x v (suc k))
    titled (SepStar x s) v k = ap (λ z. added_name of k ∷ added_name of (suc k) ∷ z)
        (joined of (added of v (suc (suc k)) x) (added of v (suc (suc k) + count x) s) (suc (suc k)) (count x)
        (count s) (titled x v (suc (suc k))) (titled s v (suc (suc k) + count x)))
    titled (SepPlus x s) v k = ap (λ z. added_name of k ∷ z)
        (joined of (added of v (suc k) x) (added of v (suc k + count x) s) (suc k) (count x) (count s)
        (titled x v (suc k)) (titled s v (suc k + count x)))
    titled (Group ys) v k = ap (λ z. added_name of k ∷ z) (alternatives_titled ys v (suc k))
    titled (Offside x) v k = titled x v k
    titled (Ignore x) v k = titled x v k
    titled (Align x) v k = titled x v k
    titled (Filtered x fs) v k = titled x v k
    titled (Seq xs) v k = symbols_titled xs v k
    titled (Entry bs x) v k = titled x (replaced v v bs) k

    symbols_titled : (xs : Symbols) (v : Visible) (k : ℕ) →
        titles (added_symbols of v k xs) ≡ map (added_name of) (numbers k (count_symbols xs))
    symbols_titled no_symbols v k = refl
    symbols_titled (next_symbol x xs) v k =
        joined of (added of v k x) (added_symbols of (v ++ binds v x) (k + count x) xs) k (count x) (count_symbols xs)
        (titled x v k) (symbols_titled xs (v ++ binds v x) (k + count x))

    alternatives_titled : (ys : Alternatives) (v : Visible) (k : ℕ) →
        titles (added_alternatives of v k ys) ≡ map (added_name of) (numbers k (count_alternatives ys))
    alternatives_titled no_alternatives v k = refl
    alternatives_titled (next_alternative xs ys) v k =
        joined of (added_symbols of v k xs) (added_alternatives of v (k + count_symbols xs) ys) k (count_symbols xs)
        (count_alternatives ys) (symbols_titled xs v k) (alternatives_titled ys v (k + count_symbols xs))

  alts_titled : (v : Visible) (k : ℕ) (alts : List Alt) →
      titles (added_alts of v k alts) ≡ map (added_name of) (numbers k (count_alts alts))
  alts_titled v k [] = refl
  alts_titled v k (a ∷ alts) =
      joined of (added_symbols of v k (gathered a.symbols))
      (added_alts of v (k + count_symbols (gathered a.symbols)) alts) k (count_symbols (gathered a.symbols))
      (count_alts alts)
      (symbols_titled (gathered a.symbols) v k) (alts_titled v (k + count_symbols (gathered a.symbols)) alts)

  levels_titled : (v : Visible) (k : ℕ) (levels : List Level) →
      titles (added_levels of v k levels) ≡ map (added_name of) (numbers k (count_levels levels))
  levels_titled v k [] = refl
  levels_titled v k (level ∷ levels) =
      joined of (added_alts of v k level.alts) (added_levels of v (k + count_alts level.alts) levels) k
      (count_alts level.alts) (count_levels levels)
      (alts_titled v k level.alts) (levels_titled v (k + count_alts level.alts) levels)

-- added declarations are plain, with one level, and fit their shapes, which are those of lists, options and groups
pub record IsPlainly (m : Made) : Type 0 where
  pub kind : m.decl.kind ≡ Plain
  pub free : HasNoOperators m.decl.levels
  pub level : IsOneFreeLevel m.decl.levels
  pub count : MayHave m.shape (length (alternatives m.decl.levels))
  pub no_rule : m.shape ≢ Rule
  pub no_root : m.shape ≢ Root

abbrev pub AllPlain : List Made → Type 0
AllPlain = OfAdded IsPlainly

plain_append : (xs ys : List Made) → AllPlain xs → AllPlain ys → AllPlain (xs ++ ys)
plain_append = of_added_both IsPlainly

module _ (of : List ℕ) where
  mutual
    plainly : (x : Symbol) (v : Visible) (k : ℕ) → AllPlain (added of v k x)
    plainly (Literal w) v k = tt
    plainly (OneOf w) v k = tt
    plainly (Call m es) v k = tt
    plainly (Label m x) v k = plainly x v k
    plainly (Guard e) v k = tt
    plainly (Let m e) v k = tt
    plainly (Opt x) v k = (
      record {
        kind = refl;
        free = refl;
        level = refl;
        count = refl;
        no_rule = λ e. absurd (cc);
        no_root = λ e. absurd (cc);
      },
      plainly x v (suc k),
    )
    plainly (Star x) v k = (
      record {
        kind = refl;
        free = refl;
        level = refl;
        count = refl;
        no_rule = λ e. absurd (cc);
        no_root = λ e. absurd (cc);
      },
      plainly x v (suc k),
    )
    plainly (Plus x) v k = (
      record {
        kind = refl;
        free = refl;
        level = refl;
        count = refl;
        no_rule = λ e. absurd (cc);
        no_root = λ e. absurd (cc);
      },
      plainly x v (suc k),
    )
    plainly (SepStar x s) v k = (
      record {
        kind = refl;
        free = refl;
        level = refl;
        count = refl;
        no_rule = λ e. absurd (cc);
        no_root = λ e. absurd (cc);
      },
      (
        record {
          kind = refl;
          free = refl;
          level = refl;
          count = refl;
          no_rule = λ e. absurd (cc);
          no_root = λ e. absurd (cc);
        },
        plain_append (added of v (suc (suc k)) x) (added of v (suc (suc k) + count x) s) (plainly x v (suc (suc k)))
            (plainly s v (suc (suc k) + count x)),
      ),
    )
    plainly (SepPlus x s) v k = (
      record {
        kind = refl;
        free = refl;
        level = refl;
        count = refl;
        no_rule = λ e. absurd (cc);
        no_root = λ e. absurd (cc);
      },
      plain_append (added of v (suc k) x) (added of v (suc k + count x) s) (plainly x v (suc k))
          (plainly s v (suc k + count x)),
    )
    plainly (Group ys) v k = (
      record {
        kind = refl;
        free = refl;
        level = refl;
        count = tt;
        no_rule = λ e. absurd (cc);
        no_root = λ e. absurd (cc);
      },
      alternatives_plainly ys v (suc k),
    )
    plainly (Offside x) v k = plainly x v k
    plainly (Ignore x) v k = plainly x v k
    plainly (Align x) v k = plainly x v k
    plainly (Filtered x fs) v k = plainly x v k
    plainly (Seq xs) v k = symbols_plainly xs v k
    plainly (Entry bs x) v k = plainly x (replaced v v bs) k

    symbols_plainly : (xs : Symbols) (v : Visible) (k : ℕ) → AllPlain (added_symbols of v k xs)
    symbols_plainly no_symbols v k = tt
    symbols_plainly (next_symbol x xs) v k =
        plain_append (added of v k x) (added_symbols of (v ++ binds v x) (k + count x) xs) (plainly x v k)
        (symbols_plainly xs (v ++ binds v x) (k + count x))

    alternatives_plainly : (ys : Alternatives) (v : Visible) (k : ℕ) → AllPlain (added_alternatives of v k ys)
    alternatives_plainly no_alternatives v k = tt
    alternatives_plainly (next_alternative xs ys) v k =
        plain_append (added_symbols of v k xs) (added_alternatives of v (k + count_symbols xs) ys)
        (symbols_plainly xs v k) (alternatives_plainly ys v (k + count_symbols xs))

  alts_plainly : (v : Visible) (k : ℕ) (alts : List Alt) → AllPlain (added_alts of v k alts)
  alts_plainly v k [] = tt
  alts_plainly v k (a ∷ alts) =
      plain_append (added_symbols of v k (gathered a.symbols))
      (added_alts of v (k + count_symbols (gathered a.symbols)) alts) (symbols_plainly (gathered a.symbols) v k)
      (alts_plainly v (k + count_symbols (gathered a.symbols)) alts)

  levels_plainly : (v : Visible) (k : ℕ) (levels : List Level) → AllPlain (added_levels of v k levels)
  levels_plainly v k [] = tt
  levels_plainly v k (level ∷ levels) =
      plain_append (added_alts of v k level.alts) (added_levels of v (k + count_alts level.alts) levels)
      (alts_plainly v k level.alts) (levels_plainly v (k + count_alts level.alts) levels)

pub all_plain : (ds : List Decl) → AllPlain (all_added ds)
all_plain [] = tt
all_plain (d ∷ ds) =
    plain_append (added_by d) (all_added ds) (levels_plainly d.name (parameters d.params) 1 d.levels) (all_plain ds)

-- where an added name comes from
pub record TitleAt (ds : List Decl) (name : List ℕ) : Type 0 where
  pub place : ℕ
  pub decl : Decl
  pub there : slice_get ds place ≡ Some decl
  pub k : ℕ
  pub small : k < 2 ^ 64
  pub same : name ≡ added_name decl.name k

pub by_titles : (d : Decl) → titles (added_by d) ≡ map (added_name d.name) (numbers 1 (count_levels d.levels))
by_titles d = levels_titled d.name (parameters d.params) 1 d.levels

pub title_at : (ds : List Decl) →
    ((n : ℕ) (decl : Decl) → slice_get ds n ≡ Some decl → Small (count_levels decl.levels)) →
    (i : ℕ) (name : List ℕ) → slice_get (titles (all_added ds)) i ≡ Some name → TitleAt ds name
title_at [] few i name e = absurd (cc)
title_at (d ∷ ds) few i name e =
    go
    (either_place (titles (added_by d)) (titles (all_added ds)) i name
    (ap (λ z. slice_get z i) (sym (map-append (λ (m : Made). m.decl.name) (added_by d) (all_added ds))) ∙ e))
    (λ m f. title_at ds (λ n decl. few (suc n) decl) m name f)
  where
    go : (slice_get (titles (added_by d)) i ≡ Some name) ⊎
        ((m : ℕ) × (slice_get (titles (all_added ds)) m ≡ Some name) × (i ≡ length (titles (added_by d)) + m)) →
        ((m : ℕ) → slice_get (titles (all_added ds)) m ≡ Some name → TitleAt ds name) → TitleAt (d ∷ ds) name
    go (inl f) below =
        let at =
        numbered_at (added_name d.name) 1 (count_levels d.levels) i name
        (ap (λ z. slice_get z i) (sym (by_titles d)) ∙ f) in
        let within = at.1 in
        record {
          place = 0;
          decl = d;
          there = refl;
          k = 1 + i;
          small = few 0 d refl (1 + i) (omega (arith, within));
          same = at.0;
        }
    go (inr f) below =
        let at = below f.0 f.1 in
        record { place = suc at.place; decl = at.decl; there = at.there; k = at.k; small = at.small; same = at.same }

pub titles_distinct : AddedNamesAreNew → (ds : List Decl) →
    ((n : ℕ) (decl : Decl) → slice_get ds n ≡ Some decl → HasNoSign decl.name) →
    ((n : ℕ) (decl : Decl) → slice_get ds n ≡ Some decl → Small (count_levels decl.levels)) → AreDistinct (names ds) →
    AreDistinct (titles (all_added ds))
titles_distinct new [] unsigned few distinct = λ i j name e f. absurd (cc)
titles_distinct new (d ∷ ds) unsigned few distinct =
    subst AreDistinct (sym (map-append (λ (m : Made). m.decl.name) (added_by d) (all_added ds)))
    (both_differ (titles (added_by d)) (titles (all_added ds)) own
    (titles_distinct new ds (λ n decl. unsigned (suc n) decl) (λ n decl. few (suc n) decl)
    (λ i j name p q. let e : suc i ≡ suc j = distinct (suc i) (suc j) name p q in omega (arith, e)))
    (λ name c d. let i = at_from_contains _ name c in let j = at_from_contains _ name d in apart i.0 j.0 name i.1 j.1))
  where
    at : (i : ℕ) (name : List ℕ) → slice_get (titles (added_by d)) i ≡ Some name →
        (name ≡ added_name d.name (1 + i)) × (i < count_levels d.levels)
    at i name e =
        numbered_at (added_name d.name) 1 (count_levels d.levels) i name
        (ap (λ z. slice_get z i) (sym (by_titles d)) ∙ e)

    own : AreDistinct (titles (added_by d))
    own i j name e f =
        let a = at i name e in
        let b = at j name f in
        let p = a.1 in
        let q = b.1 in
        let same =
        (new.apart d.name d.name (1 + i) (1 + j) (unsigned 0 d refl) (unsigned 0 d refl)
        (few 0 d refl (1 + i) (omega (arith, p))) (few 0 d refl (1 + j) (omega (arith, q))) (sym a.0 ∙ b.0)).1 in
        omega (arith, same)

    apart : (i j : ℕ) (name : List ℕ) → slice_get (titles (added_by d)) i ≡ Some name →
        slice_get (titles (all_added ds)) j ≡ Some name → ⊥
    apart i j name e f =
        let a = at i name e in
        let p = a.1 in
        let b = title_at ds (λ n decl. few (suc n) decl) j name f in
        let same =
        (new.apart d.name b.decl.name (1 + i) b.k (unsigned 0 d refl) (unsigned (suc b.place) b.decl b.there)
        (few 0 d refl (1 + i) (omega (arith, p))) b.small (sym a.0 ∙ b.same)).0 in
        let place : ℕ.zero ≡ suc b.place =
        distinct 0 (suc b.place) d.name refl
        (mapped_at (λ (z : Decl). z.name) (d ∷ ds) (suc b.place) b.decl b.there ∙ ap Some (sym same)) in
        let bad : ⊥ = omega (arith, place) in bad
