-- Names that stand among earlier ones.
use Rattle.std.proofs.Common.{◌≡◌, ℕ, zero, suc, ◌<◌, ◌+◌, inl, inr, List, [], ◌∷◌, ◌++◌, length, get_or, take, map, Option, Some, None, Bool, true, false, cond, refl, sym, ◌∙◌, ap, subst, arith, true≢false}
use Rattle.std.specs.Prelude.{Contains, IsTrue, ◌↔◌, slice_get, is_some, nat_lt, ◌||◌, not}
use Rattle.std.specs.List.{list_any}
use Rattle.std.specs.Cmp.Lexicographic.{bytes_decides}
use Rattle.std.proofs.lemmas.Bool.Decides.{nat_tests}
use Rattle.std.proofs.lemmas.List.{take-map, map_more}
use Rattle.std.proofs.lemmas.Option.{slice_get-get_or, slice_get_within}
use Rattle.std.proofs.lemmas.Bool.{or_right, not-true, not-false}
use denote.Ref.{Bor}
use Rattle.indexmap.specs.IndexSet.{insert_key}
use Rattle.ig_text.specs.Words.{is_word}
use Rattle.ig_text.proofs.Positions.{place_behind}
use Rattle.ig_text.proofs.Orders.{below_or_at}
use Rattle.ig_expr.specs.Names.{place_of}
use Rattle.ig_grammar.specs.Names.{names as declared_names}
use Rattle.ig_grammar.specs.Visible.{names, parameters}
use Rattle.ig_grammar.specs.declared.declaration.Param.{Param}
use Rattle.ig_grammar.specs.declared.declaration.Decl.{Decl}
use Rattle.ig_scope.specs.Heads.{HasRepeated}
use Rattle.ig_text.proofs.WordPlaces.{word_place-cons, placed_where_contained}

-- a place is before n
abbrev pub before : Option ℕ → ℕ → Bool
before (Some p) n = nat_lt p n
before None n = false

never : (r : Option ℕ) → false ≡ before r 0
never None = refl
never (Some p) = let h : nat_lt p 0 ≡ false = grind (arith, nat_tests) in sym h

later_before : (p n : ℕ) → nat_lt p n ≡ nat_lt (p + 1) (suc n)
later_before p n = go (nat_lt p n) refl
  where
    go : (b : Bool) → nat_lt p n ≡ b → b ≡ nat_lt (p + 1) (suc n)
    go true e = let h : nat_lt (p + 1) (suc n) ≡ true = grind (arith, nat_tests) in sym h
    go false e = let h : nat_lt (p + 1) (suc n) ≡ false = grind (arith, nat_tests) in sym h

behind_step : (b : Bool) (s r : Option ℕ) (n : ℕ) → is_some s ≡ before r n → is_some (place_behind b s) ≡ before (place_behind b r) (suc n)
behind_step true s r n e = let h : nat_lt 0 (suc n) ≡ true = grind (arith, nat_tests) in sym h
behind_step false None None n e = refl
behind_step false None (Some p) n e = e ∙ later_before p n
behind_step false (Some q) None n e = e
behind_step false (Some q) (Some p) n e = e ∙ later_before p n

place_take : (n : ℕ) (ns : List (List ℕ)) (name : List ℕ) → is_some (place_of (take n ns) name) ≡ before (place_of ns name) n
place_take zero ns name = never (place_of ns name)
place_take (suc n) [] name = refl
place_take (suc n) (x ∷ ns) name =
    ap is_some (word_place-cons x (take n ns) name) ∙
    behind_step (is_word x name) (place_of (take n ns) name) (place_of ns name) n (place_take n ns name) ∙
    ap (λ r. before r (suc n)) (sym (word_place-cons x ns name))

pub before_told : (decls : List Decl) (n : ℕ) (name : List ℕ) (r : Option ℕ) (b : Bool) → r ≡ place_of (declared_names decls) name → b ≡ before r n →
    IsTrue b ↔ Contains (declared_names (take n decls)) name
before_told decls n name r b e h =
    placed_where_contained (declared_names (take n decls)) name b
    (ap (λ z. is_some (place_of z name)) (sym (take-map (λ (d : Decl). d.name) n decls)) ∙ place_take n (declared_names decls) name ∙
    ap (λ z. before z n) (sym e) ∙ sym h)

-- whether a name is among the keys of a set
pub any_contains : (keys : List (Bor (List ℕ))) (name : List ℕ) → list_any (λ k. is_word name k.now) keys ≡ true → Contains (map (λ k. k.now) keys) name
any_contains [] name e = cc
any_contains (k ∷ keys) name e = go (is_word name k.now) refl (any_contains keys name)
  where
    go : (b : Bool) → is_word name k.now ≡ b → (list_any (λ k. is_word name k.now) keys ≡ true → Contains (map (λ k. k.now) keys) name) →
        Contains (map (λ k. k.now) (k ∷ keys)) name
    go true w h = (0, omega arith, sym ((bytes_decides name k.now).0 w))
    go false w h = let c = h (sym (ap (λ b. b || list_any (λ k. is_word name k.now) keys) w) ∙ e) in (suc c.0, (let l = c.1 in omega arith), c.2)

pub contains_any : (keys : List (Bor (List ℕ))) (name : List ℕ) → Contains (map (λ k. k.now) keys) name → list_any (λ k. is_word name k.now) keys ≡ true
contains_any [] name m = let l = m.1 in let f : ⊥ = omega arith in absurd f
contains_any (k ∷ keys) name m = go m.0 m.1 m.2 (contains_any keys name)
  where
    go : (i : ℕ) → i < length (map (λ k. k.now) (k ∷ keys)) → get_or (map (λ k. k.now) (k ∷ keys)) i name ≡ name →
        (Contains (map (λ k. k.now) keys) name → list_any (λ k. is_word name k.now) keys ≡ true) → list_any (λ k. is_word name k.now) (k ∷ keys) ≡ true
    go zero l e h = let w : is_word name k.now ≡ true = (bytes_decides name k.now).1 (sym e) in ap (λ b. b || list_any (λ k. is_word name k.now) keys) w
    go (suc i) l e h = or_right (is_word name k.now) (list_any (λ k. is_word name k.now) keys) (h (i, omega arith, e))

-- no parameter before n repeats an earlier name
abbrev pub NoneRepeated : List Param → ℕ → Type 0
NoneRepeated ps n = (k : ℕ) (p : Param) → k < n → slice_get ps k ≡ Some p → Contains (names (parameters (take k ps))) p.name → ⊥

-- the keys are the names of the first parameters, which differ
pub record HasNames (keys : List (Bor (List ℕ))) (ps : List Param) (n : ℕ) : Type 0 where
  pub same : map (λ k. k.now) keys ≡ names (parameters (take n ps))
  pub apart : NoneRepeated ps n

parameter_names : (ps : List Param) → names (parameters ps) ≡ map (λ p. p.name) ps
parameter_names [] = refl
parameter_names (p ∷ ps) = ap (λ z. p.name ∷ z) (parameter_names ps)

got : (ps : List Param) (i : ℕ) (x : Param) → i < length ps → x ≡ get_or ps i x → slice_get ps i ≡ Some x
got ps i x l e = slice_get-get_or ps i x l ∙ ap Some (sym e)

pub repeated_found : (keys : List (Bor (List ℕ))) (ps : List Param) (i : ℕ) (x : Param) (word : List ℕ) (b : Bool) → i < length ps → x ≡ get_or ps i x → word ≡ x.name →
    HasNames keys ps i → b ≡ not (list_any (λ k. is_word word k.now) keys) → b ≡ false → HasRepeated ps
repeated_found keys ps i x word b l e w h a f =
    (i, x, got ps i x l e, subst (Contains (names (parameters (take i ps)))) w (subst (λ z. Contains z word) h.same (any_contains keys word (not-false (list_any (λ k. is_word word k.now) keys) (sym a ∙ f)))))

pub names_more : (old new : List (Bor (List ℕ))) (ps : List Param) (i : ℕ) (x : Param) (key : Bor (List ℕ)) (b : Bool) → i < length ps → x ≡ get_or ps i x → key.now ≡ x.name →
    HasNames old ps i → b ≡ not (list_any (λ k. is_word key.now k.now) old) → b ≡ true →
    new ≡ insert_key (λ x y. is_word x.now y.now) old key → HasNames new ps (i + 1)
names_more old new ps i x key b l e w h a t n =
    let absent : list_any (λ k. is_word key.now k.now) old ≡ false = not-true (list_any (λ k. is_word key.now k.now) old) (sym a ∙ t) in
    record {
      same =
          ap (map (λ k. k.now)) (n ∙ ap (λ b. cond b old (old ++ key ∷ [])) absent) ∙ map_pushed old ∙
          (λ j. h.same j ++ w j ∷ []) ∙ sym (more_names);
      apart = λ k p s g m. go absent k p s g m;
    }
  where
    map_pushed : (keys : List (Bor (List ℕ))) → map (λ k. k.now) (keys ++ key ∷ []) ≡ map (λ k. k.now) keys ++ key.now ∷ []
    map_pushed [] = refl
    map_pushed (k ∷ keys) = ap (λ z. k.now ∷ z) (map_pushed keys)

    more_names : names (parameters (take (i + 1) ps)) ≡ names (parameters (take i ps)) ++ x.name ∷ []
    more_names =
        parameter_names (take (i + 1) ps) ∙ map_more (λ (p : Param). p.name) ps i x l ∙
        ap (λ (z : Param). map (λ (p : Param). p.name) (take i ps) ++ z.name ∷ []) (sym e) ∙
        ap (λ z. z ++ x.name ∷ []) (sym (parameter_names (take i ps)))

    last : (k : ℕ) (p : Param) → k ≡ i → slice_get ps k ≡ Some p → x ≡ p
    last k p s g = let z : Some x ≡ Some p = sym (got ps i x l e) ∙ ap (slice_get ps) (sym s) ∙ g in cc

    go : list_any (λ k. is_word key.now k.now) old ≡ false → NoneRepeated ps (i + 1)
    go absent k p s g m =
        elim (below_or_at k i s) [
          | inl r ↦ h.apart k p r g m
          | inr r ↦ true≢false (sym (contains_any old key.now (subst (λ z. Contains z key.now) (sym h.same)
              (subst (λ j. Contains (names (parameters (take j ps))) key.now) r (subst (Contains (names (parameters (take k ps)))) (ap (λ (z : Param). z.name) (sym (last k p r g)) ∙ sym w) m)))) ∙ absent)
        ]

pub none_repeated : (keys : List (Bor (List ℕ))) (ps : List Param) (i : ℕ) → (i < length ps → ⊥) → HasNames keys ps i → IsTrue false ↔ HasRepeated ps
none_repeated keys ps i l h = (
  (λ t. let z : false ≡ true = t in absurd (true≢false (sym z))),
  (λ r. absurd (h.apart r.0 r.1 (let w = slice_get_within ps r.0 r.1 r.2 in omega arith) r.2 r.3)),
)

pub none_yet : (keys : List (Bor (List ℕ))) (ps : List Param) → keys ≡ [] → HasNames keys ps 0
none_yet keys ps e = record {
  same = ap (map (λ k. k.now)) e;
  apart = λ k p l s m. (let f : ⊥ = omega arith in f);
}
