-- Which declaration a nonterminal of a core grammar comes from, and which alternative.
use Rattle.std.proofs.Common.{◌≡◌, ℕ, zero, suc, ◌+◌, ◌<◌, List, [], ◌∷◌, Option, Some, None, Bool, true, false, if◌then◌else◌, slice_get, refl, sym, ap, ap₂, ◌∙◌, arith, inl, inr}
use Rattle.std.specs.Prelude.{◌≢◌, ◌⊎◌, option_map}
use Rattle.std.specs.Cmp.Lexicographic.{bytes_decides}
use Rattle.std.proofs.lemmas.Option.{same_Some, slice_get-map}
use Rattle.ig_text.specs.Words.{is_word}
use Rattle.ig_grammar.specs.Numbering.{Levelled, by_level, alternatives, tag_of}
use Rattle.ig_grammar.specs.declared.declaration.Decl.{Decl}
use Rattle.ig_grammar.specs.declared.declaration.Level.{Level}
use Rattle.ig_grammar.specs.declared.symbol.Alt.{Alt}
use Rattle.ig_grammar.specs.declared.place.Shape.{Shape}
use Rattle.ig_grammar.specs.declared.place.Shape.TheVariants.{Rule, Opt, Star, Plus, SepPlus, SepStar, Group, Root}
use Rattle.ig_item.specs.declared.core_grammar.Nonterminal.{Nonterminal}
use Rattle.ig_item.specs.declared.core_grammar.CoreAlt.{CoreAlt}
use Rattle.ig_core.specs.CoreOf.{Shaped, shaped, unrooted, root_among, place, alternative_of, alternatives_of, nonterminal_of, nonterminals_of}
use Rattle.ig_pass.specs.Rooted.{is_root}
use Rattle.ig_pass.specs.EachLevel.{alternatives_by_level}

-- no declaration before so many stands for the root
abbrev pub NoneBefore : List Shape → ℕ → Type 0
NoneBefore shapes k = (r : ℕ) → slice_get shapes r ≡ Some Root → k < r

none_after : (s : Shape) (shapes : List Shape) (k : ℕ) → NoneBefore (s ∷ shapes) (suc k) → NoneBefore shapes k
none_after s shapes k free r at = let h : suc k < suc r = free (suc r) at in omega arith

root_is : (s : Shape) → is_root s ≡ true → s ≡ Root
root_is Root e = refl
root_is s e = absurd (cc)

no_root : (s : Shape) → is_root s ≡ false → s ≢ Root
no_root s e same = let h : is_root s ≡ true = ap is_root same in cc

no_root_first : (s : Shape) (shapes : List Shape) (k : ℕ) → is_root s ≡ true → NoneBefore (s ∷ shapes) k → ⊥
no_root_first s shapes k is free = let h : k < 0 = free 0 (ap Some (root_is s is)) in absurd (omega arith)

-- a declaration that doesn't stand for the root is among them
pub record Kept (decls : List Decl) (shapes : List Shape) (k : ℕ) (decl : Decl) (shape : Shape) : Type 0 where
  pub m : ℕ
  pub at : slice_get (unrooted decls shapes) m ≡ Some (shaped decl shape)

pub kept : (decls : List Decl) (shapes : List Shape) (k : ℕ) (decl : Decl) (shape : Shape) → slice_get decls k ≡ Some decl →
    slice_get shapes k ≡ Some shape → shape ≢ Root → Kept decls shapes k decl shape
kept [] shapes k decl shape e f other = cc
kept (d ∷ decls) [] k decl shape e f other = cc
kept (d ∷ decls) (s ∷ shapes) zero decl shape e f other = go (is_root s) refl
  where
    go : (b : Bool) → is_root s ≡ b → Kept (d ∷ decls) (s ∷ shapes) 0 decl shape
    go true is = absurd (other (sym (same_Some s shape f) ∙ root_is s is))
    go false is =
        record {
          m = 0;
          at =
              ap (λ (b : Bool). slice_get (if b then unrooted decls shapes else shaped d s ∷ unrooted decls shapes) 0) is ∙
              ap₂ (λ (x : Decl) (y : Shape). Some (shaped x y)) (same_Some d decl e) (same_Some s shape f);
        }
kept (d ∷ decls) (s ∷ shapes) (suc k) decl shape e f other = go (is_root s) refl (kept decls shapes k decl shape e f other)
  where
    go : (b : Bool) → is_root s ≡ b → Kept decls shapes k decl shape → Kept (d ∷ decls) (s ∷ shapes) (suc k) decl shape
    go true is next =
        record {
          m = next.m;
          at = ap (λ (b : Bool). slice_get (if b then unrooted decls shapes else shaped d s ∷ unrooted decls shapes) next.m) is ∙ next.at;
        }
    go false is next =
        record {
          m = suc next.m;
          at = ap (λ (b : Bool). slice_get (if b then unrooted decls shapes else shaped d s ∷ unrooted decls shapes) (suc next.m)) is ∙ next.at;
        }

-- where one of them comes from
pub record Origin (decls : List Decl) (shapes : List Shape) (m : ℕ) (x : Shaped) : Type 0 where
  pub k : ℕ
  pub decl_at : slice_get decls k ≡ Some x.decl
  pub shape_at : slice_get shapes k ≡ Some x.shape
  pub other : x.shape ≢ Root
  pub same : NoneBefore shapes k → m ≡ k

pub origin : (decls : List Decl) (shapes : List Shape) (m : ℕ) (x : Shaped) → slice_get (unrooted decls shapes) m ≡ Some x →
    Origin decls shapes m x
origin [] shapes m x e = cc
origin (d ∷ decls) [] m x e = cc
origin (d ∷ decls) (s ∷ shapes) zero x e = go (is_root s) refl (λ h. origin decls shapes 0 x h)
  where
    go : (b : Bool) → is_root s ≡ b → (slice_get (unrooted decls shapes) 0 ≡ Some x → Origin decls shapes 0 x) → Origin (d ∷ decls) (s ∷ shapes) 0 x
    go true is others =
        let next =
        others
        (ap (λ (b : Bool). slice_get (if b then unrooted decls shapes else shaped d s ∷ unrooted decls shapes) 0) (sym is) ∙ e) in
        record {
          k = suc next.k;
          decl_at = next.decl_at;
          shape_at = next.shape_at;
          other = next.other;
          same = λ free. absurd (no_root_first s shapes (suc next.k) is free);
        }
    go false is others =
        let here : shaped d s ≡ x =
        same_Some (shaped d s) x (ap (λ (b : Bool). slice_get (if b then unrooted decls shapes else shaped d s ∷ unrooted decls shapes) 0) (sym is) ∙ e) in
        record {
          k = 0;
          decl_at = ap (λ (z : Shaped). Some z.decl) here;
          shape_at = ap (λ (z : Shaped). Some z.shape) here;
          other = λ same. no_root s is (ap (λ (z : Shaped). z.shape) here ∙ same);
          same = λ free. refl;
        }
origin (d ∷ decls) (s ∷ shapes) (suc m) x e = go (is_root s) refl (λ h. origin decls shapes (suc m) x h) (λ h. origin decls shapes m x h)
  where
    go : (b : Bool) → is_root s ≡ b → (slice_get (unrooted decls shapes) (suc m) ≡ Some x → Origin decls shapes (suc m) x) →
        (slice_get (unrooted decls shapes) m ≡ Some x → Origin decls shapes m x) → Origin (d ∷ decls) (s ∷ shapes) (suc m) x
    go true is others below =
        let next =
        others
        (ap (λ (b : Bool). slice_get (if b then unrooted decls shapes else shaped d s ∷ unrooted decls shapes) (suc m)) (sym is) ∙ e) in
        record {
          k = suc next.k;
          decl_at = next.decl_at;
          shape_at = next.shape_at;
          other = next.other;
          same = λ free. absurd (no_root_first s shapes (suc next.k) is free);
        }
    go false is others below =
        let next =
        below
        (ap (λ (b : Bool). slice_get (if b then unrooted decls shapes else shaped d s ∷ unrooted decls shapes) (suc m)) (sym is) ∙ e) in
        record {
          k = suc next.k;
          decl_at = next.decl_at;
          shape_at = next.shape_at;
          other = next.other;
          same = λ free. ap suc (next.same (none_after s shapes next.k free));
        }

-- the declaration that stands for the root, or none
pub record RootAt (decls : List Decl) (shapes : List Shape) (decl : Decl) : Type 0 where
  pub k : ℕ
  pub chosen : root_among decls shapes ≡ Some decl
  pub decl_at : slice_get decls k ≡ Some decl
  pub shape_at : slice_get shapes k ≡ Some Root

abbrev pub NoRoot : List Decl → List Shape → Type 0
NoRoot decls shapes = (k : ℕ) (decl : Decl) → slice_get decls k ≡ Some decl → slice_get shapes k ≡ Some Root → ⊥

pub root_cases : (decls : List Decl) (shapes : List Shape) →
    ((root_among decls shapes ≡ None) × NoRoot decls shapes) ⊎ ((decl : Decl) × RootAt decls shapes decl)
root_cases [] shapes = inl (refl, λ k decl e f. cc)
root_cases (d ∷ decls) [] = inl (refl, λ k decl e f. cc)
root_cases (d ∷ decls) (s ∷ shapes) = go (is_root s) refl (root_cases decls shapes)
  where
    go : (b : Bool) → is_root s ≡ b → ((root_among decls shapes ≡ None) × NoRoot decls shapes) ⊎ ((decl : Decl) × RootAt decls shapes decl) →
        ((root_among (d ∷ decls) (s ∷ shapes) ≡ None) × NoRoot (d ∷ decls) (s ∷ shapes)) ⊎ ((decl : Decl) × RootAt (d ∷ decls) (s ∷ shapes) decl)
    go true is others =
        inr (
          d,
          record {
            k = 0;
            chosen = ap (λ (b : Bool). if b then Some d else root_among decls shapes) is;
            decl_at = refl;
            shape_at = ap Some (root_is s is);
          },
        )
    go false is (inl none) = inl (ap (λ (b : Bool). if b then Some d else root_among decls shapes) is ∙ none.0, never)
      where
        never : NoRoot (d ∷ decls) (s ∷ shapes)
        never zero decl e f = no_root s is (same_Some s Root f)
        never (suc k) decl e f = none.1 k decl e f
    go false is (inr there) =
        inr (
          there.0,
          record {
            k = suc there.1.k;
            chosen = ap (λ (b : Bool). if b then Some d else root_among decls shapes) is ∙ there.1.chosen;
            decl_at = there.1.decl_at;
            shape_at = there.1.shape_at;
          },
        )

-- at the place of a name stands one of that name
pub found : (all : List Shaped) (name : List ℕ) (x : Shaped) → slice_get all (place all name) ≡ Some x → x.decl.name ≡ name
found [] name x e = cc
found (y ∷ all) name x e = go (is_word y.decl.name name) refl (λ h. found all name x h)
  where
    go : (b : Bool) → is_word y.decl.name name ≡ b → (slice_get all (place all name) ≡ Some x → x.decl.name ≡ name) → x.decl.name ≡ name
    go true is others =
        ap (λ (z : Shaped). z.decl.name)
        (sym (same_Some y x (ap (λ (b : Bool). slice_get (y ∷ all) (if b then 0 else suc (place all name))) (sym is) ∙ e))) ∙
        (bytes_decides y.decl.name name).0 is
    go false is others = others (ap (λ (b : Bool). slice_get (y ∷ all) (if b then 0 else suc (place all name))) (sym is) ∙ e)

-- where there is one of that name
pub there : (all : List Shaped) (name : List ℕ) (m : ℕ) (y : Shaped) → slice_get all m ≡ Some y → y.decl.name ≡ name →
    (x : Shaped) × (slice_get all (place all name) ≡ Some x)
there [] name m y e named = cc
there (z ∷ all) name m y e named = go (is_word z.decl.name name) refl (λ n f. there all name n y f named)
  where
    go : (b : Bool) → is_word z.decl.name name ≡ b → ((n : ℕ) → slice_get all n ≡ Some y → (x : Shaped) × (slice_get all (place all name) ≡ Some x)) →
        (x : Shaped) × (slice_get (z ∷ all) (place (z ∷ all) name) ≡ Some x)
    go true is others = (z, ap (λ (b : Bool). slice_get (z ∷ all) (if b then 0 else suc (place all name))) is)
    go false is others = behind m e
      where
        behind : (n : ℕ) → slice_get (z ∷ all) n ≡ Some y → (x : Shaped) × (slice_get (z ∷ all) (place (z ∷ all) name) ≡ Some x)
        behind zero f =
            let own : is_word z.decl.name name ≡ true = (bytes_decides z.decl.name name).1 (ap (λ (w : Shaped). w.decl.name) (same_Some z y f) ∙ named) in
            absurd (cc)
        behind (suc n) f =
            let next = others n f in
            (next.0, ap (λ (b : Bool). slice_get (z ∷ all) (if b then 0 else suc (place all name))) is ∙ next.1)

-- the nonterminals, numbered from n on
pub nonterminal_to : (number : List ℕ → ℕ) (n : ℕ) (all : List Shaped) (m : ℕ) (x : Shaped) → slice_get all m ≡ Some x →
    slice_get (nonterminals_of number n all) m ≡ Some (nonterminal_of number (n + m) x)
nonterminal_to number n [] m x e = cc
nonterminal_to number n (y ∷ all) zero x e =
    let same : n ≡ n + 0 = omega arith in
    ap₂ (λ (k : ℕ) (z : Shaped). Some (nonterminal_of number k z)) same (same_Some y x e)
nonterminal_to number n (y ∷ all) (suc m) x e =
    let same : suc n + m ≡ n + suc m = omega arith in
    nonterminal_to number (suc n) all m x e ∙ ap (λ (k : ℕ). Some (nonterminal_of number k x)) same

pub nonterminal_from : (number : List ℕ → ℕ) (n : ℕ) (all : List Shaped) (m : ℕ) (nonterminal : Nonterminal) →
    slice_get (nonterminals_of number n all) m ≡ Some nonterminal →
    (x : Shaped) × (slice_get all m ≡ Some x) × (nonterminal ≡ nonterminal_of number (n + m) x)
nonterminal_from number n [] m nonterminal e = cc
nonterminal_from number n (y ∷ all) zero nonterminal e =
    let same : n ≡ n + 0 = omega arith in
    (y, refl, sym (same_Some (nonterminal_of number n y) nonterminal e) ∙ ap (λ (k : ℕ). nonterminal_of number k y) same)
nonterminal_from number n (y ∷ all) (suc m) nonterminal e =
    let same : suc n + m ≡ n + suc m = omega arith in
    let next = nonterminal_from number (suc n) all m nonterminal e in
    (next.0, next.1, next.2 ∙ ap (λ (k : ℕ). nonterminal_of number k next.0) same)

-- the alternatives, numbered from k on
pub alternative_to : (number : List ℕ → ℕ) (shape : Shape) (n k : ℕ) (alts : List Alt) (a : ℕ) (alt : Alt) → slice_get alts a ≡ Some alt →
    slice_get (alternatives_of number shape n k alts) a ≡ Some (alternative_of number shape n (k + a) alt)
alternative_to number shape n k [] a alt e = cc
alternative_to number shape n k (y ∷ alts) zero alt e =
    let same : k ≡ k + 0 = omega arith in
    ap₂ (λ (j : ℕ) (z : Alt). Some (alternative_of number shape n j z)) same (same_Some y alt e)
alternative_to number shape n k (y ∷ alts) (suc a) alt e =
    let same : suc k + a ≡ k + suc a = omega arith in
    alternative_to number shape n (suc k) alts a alt e ∙ ap (λ (j : ℕ). Some (alternative_of number shape n j alt)) same

pub alternative_from : (number : List ℕ → ℕ) (shape : Shape) (n k : ℕ) (alts : List Alt) (a : ℕ) (made : CoreAlt) →
    slice_get (alternatives_of number shape n k alts) a ≡ Some made →
    (alt : Alt) × (slice_get alts a ≡ Some alt) × (made ≡ alternative_of number shape n (k + a) alt)
alternative_from number shape n k [] a made e = cc
alternative_from number shape n k (y ∷ alts) zero made e =
    let same : k ≡ k + 0 = omega arith in
    (y, refl, sym (same_Some (alternative_of number shape n k y) made e) ∙ ap (λ (j : ℕ). alternative_of number shape n j y) same)
alternative_from number shape n k (y ∷ alts) (suc a) made e =
    let same : suc k + a ≡ k + suc a = omega arith in
    let next = alternative_from number shape n (suc k) alts a made e in
    (next.0, next.1, next.2 ∙ ap (λ (j : ℕ). alternative_of number shape n j next.0) same)

-- with or without the number of the level, they are in one order
with_level_of : (o : Option Levelled) (alt : Alt) → option_map (λ (b : Levelled). b.alternative) o ≡ Some alt →
    (a : Levelled) × (o ≡ Some a) × (a.alternative ≡ alt)
with_level_of None alt e = cc
with_level_of (Some a) alt e = (a, refl, (cc))

pub with_level : (levels : List Level) (n : ℕ) (alt : Alt) → slice_get (alternatives levels) n ≡ Some alt →
    (a : Levelled) × (slice_get (by_level levels) n ≡ Some a) × (a.alternative ≡ alt)
with_level levels n alt at =
    with_level_of (slice_get (by_level levels) n) alt
    (sym (slice_get-map (λ (b : Levelled). b.alternative) (by_level levels) n) ∙
    ap (λ (xs : List Alt). slice_get xs n) (alternatives_by_level levels) ∙ at)

-- only the tag of a rule has the number of its nonterminal
pub same_tag : (shape : Shape) (n d k : ℕ) → (shape ≡ Rule → n ≡ d) → tag_of shape n k ≡ tag_of shape d k
same_tag Rule n d k same = ap (λ (z : ℕ). tag_of Rule z k) (same refl)
same_tag Opt n d k same = refl
same_tag Star n d k same = refl
same_tag Plus n d k same = refl
same_tag SepPlus n d k same = refl
same_tag SepStar n d k same = refl
same_tag Group n d k same = refl
same_tag Root n d k same = refl

-- counted from the first
one_more : (m : ℕ) → 1 + m ≡ suc m
one_more m = omega arith

pub nonterminal_at : (number : List ℕ → ℕ) (all : List Shaped) (m : ℕ) (x : Shaped) → slice_get all m ≡ Some x →
    slice_get (nonterminals_of number 1 all) m ≡ Some (nonterminal_of number (suc m) x)
nonterminal_at number all m x e =
    nonterminal_to number 1 all m x e ∙ ap (λ (k : ℕ). Some (nonterminal_of number k x)) (one_more m)

pub nonterminal_was : (number : List ℕ → ℕ) (all : List Shaped) (m : ℕ) (nonterminal : Nonterminal) →
    slice_get (nonterminals_of number 1 all) m ≡ Some nonterminal →
    (x : Shaped) × (slice_get all m ≡ Some x) × (nonterminal ≡ nonterminal_of number (suc m) x)
nonterminal_was number all m nonterminal e =
    let from = nonterminal_from number 1 all m nonterminal e in
    (from.0, from.1, from.2 ∙ ap (λ (k : ℕ). nonterminal_of number k from.0) (one_more m))

pub alternative_at : (number : List ℕ → ℕ) (shape : Shape) (n : ℕ) (alts : List Alt) (a : ℕ) (alt : Alt) → slice_get alts a ≡ Some alt →
    slice_get (alternatives_of number shape n 1 alts) a ≡ Some (alternative_of number shape n (suc a) alt)
alternative_at number shape n alts a alt e =
    alternative_to number shape n 1 alts a alt e ∙ ap (λ (j : ℕ). Some (alternative_of number shape n j alt)) (one_more a)

pub alternative_was : (number : List ℕ → ℕ) (shape : Shape) (n : ℕ) (alts : List Alt) (a : ℕ) (made : CoreAlt) →
    slice_get (alternatives_of number shape n 1 alts) a ≡ Some made →
    (alt : Alt) × (slice_get alts a ≡ Some alt) × (made ≡ alternative_of number shape n (suc a) alt)
alternative_was number shape n alts a made e =
    let from = alternative_from number shape n 1 alts a made e in
    (from.0, from.1, from.2 ∙ ap (λ (j : ℕ). alternative_of number shape n j from.0) (one_more a))
