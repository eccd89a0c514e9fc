-- Tables of names: what they have, and how they grow by a declaration.
use Rattle.std.proofs.Common.{◌≡◌, ℕ, suc, ◌+◌, List, [], ◌∷◌, ◌++◌, Option, Some, None, Bool, cond, true, false, refl, sym, ◌∙◌, ap, subst, arith, length}
use Rattle.std.specs.Prelude.{bytes_eq, encode_utf8_all, if◌then◌else◌}
use Rattle.std.specs.Cmp.Lexicographic.{slice_cmp, bytes_decides}
use Rattle.std.specs.Ordering.{nat_cmp}
use Rattle.std.specs.BTreeMap as tree
use Rattle.std.specs.BTreeMap.{BTreeMap}
use denote.Ref.{Bor}
use Rattle.std.proofs.lemmas.Slice.Eq.{bytes_eq-Decides}
use Rattle.std.proofs.lemmas.Str.{encodes_same}
use Rattle.std.proofs.lemmas.Map.Text.{btree_map_updates_str}
use Rattle.ig_text.specs.Words.{is_word}
use Rattle.ig_text.proofs.Lists.{within_take, mapped_at}
use Rattle.std.specs.Prelude.{slice_get}
use Rattle.std.proofs.Common.{take, get_or, ◌<◌}
use Rattle.std.proofs.lemmas.Option.{slice_get_read}
use Rattle.ig_grammar.specs.Names.{names, AreDistinct}
use Rattle.ig_grammar.specs.declared.declaration.Decl.{Decl}
use Rattle.ig_grammar.specs.declared.place.Shape.{Shape}
use Rattle.ig_core.proofs.Building.{row_added, row_passed, count_more, count_same}
use Rattle.ig_core.specs.CoreOf.{Shaped, shaped, unrooted}
use Rattle.ig_pass.specs.Rooted.{is_root}
use Rattle.ig_core.specs.Tables.{lookup, found_from, Numbers}

-- one more, of a new name
found_push : (n : ℕ) (all : List Shaped) (x : Shaped) (name : List ℕ) → found_from n all name ≡ None →
    found_from n (all ++ x ∷ []) name ≡ (if is_word x.decl.name name then Some (n + length all) else None)
found_push n [] x name e = let z : n ≡ n + 0 = omega arith in ap (λ k. if is_word x.decl.name name then Some k else None) z
found_push n (y ∷ all) x name e = go (is_word y.decl.name name) refl (found_push (suc n) all x name)
  where
    go : (b : Bool) → is_word y.decl.name name ≡ b →
        (found_from (suc n) all name ≡ None → found_from (suc n) (all ++ x ∷ []) name ≡ (if is_word x.decl.name name then Some (suc n + length all) else None)) →
        found_from n (y ∷ all ++ x ∷ []) name ≡ (if is_word x.decl.name name then Some (n + suc (length all)) else None)
    go true h i = let f : found_from n (y ∷ all) name ≡ Some n = rw h refl in cc
    go false h i =
        let f : found_from (suc n) all name ≡ None = rw h at e in
        let q : suc n + length all ≡ n + suc (length all) = omega arith in
        rw h (i f ∙ ap (λ k. if is_word x.decl.name name then Some k else None) q)

found_stays : (n : ℕ) (all : List Shaped) (x : Shaped) (name : List ℕ) (k : ℕ) → found_from n all name ≡ Some k → found_from n (all ++ x ∷ []) name ≡ Some k
found_stays n [] x name k e = cc
found_stays n (y ∷ all) x name k e = go (is_word y.decl.name name) refl (found_stays (suc n) all x name k)
  where
    go : (b : Bool) → is_word y.decl.name name ≡ b → (found_from (suc n) all name ≡ Some k → found_from (suc n) (all ++ x ∷ []) name ≡ Some k) →
        found_from n (y ∷ all ++ x ∷ []) name ≡ Some k
    go true h i = let f : Some n ≡ Some k = rw h at e in rw h f
    go false h i = let f : found_from (suc n) all name ≡ Some k = rw h at e in rw h (i f)

other_name : (all : List Shaped) (x : Shaped) (name : List ℕ) → (x.decl.name ≡ name → ⊥) → found_from 1 (all ++ x ∷ []) name ≡ found_from 1 all name
other_name all x name n = go (found_from 1 all name) refl (is_word x.decl.name name) refl
  where
    go : (o : Option ℕ) → found_from 1 all name ≡ o → (b : Bool) → is_word x.decl.name name ≡ b → found_from 1 (all ++ x ∷ []) name ≡ found_from 1 all name
    go o e true t = absurd (n ((bytes_decides x.decl.name name).0 t))
    go None e false t = found_push 1 all x name e ∙ rw t (sym e)
    go (Some k) e false t = found_stays 1 all x name k e ∙ sym e

new_name : (all : List Shaped) (x : Shaped) (name : List ℕ) → found_from 1 all x.decl.name ≡ None → x.decl.name ≡ name →
    found_from 1 (all ++ x ∷ []) name ≡ Some (1 + length all)
new_name all x name e q =
    let f : found_from 1 all name ≡ None = subst (λ (z : List ℕ). found_from 1 all z ≡ None) q e in
    let t : is_word x.decl.name name ≡ true = (bytes_decides x.decl.name name).1 q in
    found_push 1 all x name f ∙ rw t refl

pub numbers_push : (m t : BTreeMap (Bor (List ℕ)) ℕ) (all : List Shaped) (x : Shaped) (bytes : List ℕ) (w : Option ℕ) → Numbers m all →
    found_from 1 all x.decl.name ≡ None → bytes ≡ encode_utf8_all x.decl.name → w ≡ Some (1 + length all) →
    tree.UpdatesBy (λ x y. slice_cmp nat_cmp x.now y.now) (λ k. slice_cmp nat_cmp bytes k.now) m t w → Numbers t (all ++ x ∷ [])
numbers_push m t all x bytes w h e b v u =
    λ name. go name (bytes_eq bytes (encode_utf8_all name)) refl (btree_map_updates_str bytes m t w u (encode_utf8_all name))
  where
    go : (name : List ℕ) (r : Bool) → bytes_eq bytes (encode_utf8_all name) ≡ r →
        lookup t name ≡ cond (bytes_eq bytes (encode_utf8_all name)) w (lookup m name) → lookup t name ≡ found_from 1 (all ++ x ∷ []) name
    go name true q s =
        let p : encode_utf8_all x.decl.name ≡ encode_utf8_all name = sym b ∙ (bytes_eq-Decides bytes (encode_utf8_all name)).0 q in
        let y : lookup t name ≡ w = rw q at s in
        y ∙ v ∙ sym (new_name all x name e (encodes_same x.decl.name name p))
    go name false q s =
        let y : lookup t name ≡ lookup m name = rw q at s in
        y ∙ h name ∙ sym (other_name all x name (λ p.
        let z : bytes_eq bytes (encode_utf8_all name) ≡ true = (bytes_eq-Decides bytes (encode_utf8_all name)).1 (b ∙ ap encode_utf8_all p) in cc))

-- a name of none of the declarations isn't found
absent : (n : ℕ) (decls : List Decl) (shapes : List Shape) (name : List ℕ) →
    ((k : ℕ) (d : Decl) → slice_get decls k ≡ Some d → d.name ≡ name → ⊥) → found_from n (unrooted decls shapes) name ≡ None
absent n [] shapes name none = refl
absent n (d ∷ decls) [] name none = refl
absent n (d ∷ decls) (s ∷ shapes) name none =
    go (is_root s) (is_word d.name name) refl (λ m. absent m decls shapes name (λ k x at. none (suc k) x at))
  where
    go : (b w : Bool) → is_word d.name name ≡ w → ((m : ℕ) → found_from m (unrooted decls shapes) name ≡ None) →
        found_from n (if b then unrooted decls shapes else shaped d s ∷ unrooted decls shapes) name ≡ None
    go true w is others = others n
    go false true is others = absurd (none 0 d refl ((bytes_decides d.name name).0 is))
    go false false is others = ap (λ (w : Bool). if w then Some n else found_from (suc n) (unrooted decls shapes) name) is ∙ others (suc n)

pub fresh : (decls : List Decl) (shapes : List Shape) (i : ℕ) (decl : Decl) → AreDistinct (names decls) → i < length decls → decl ≡ get_or decls i decl →
    found_from 1 (unrooted (take i decls) (take i shapes)) decl.name ≡ None
fresh decls shapes i decl distinct within read =
    absent 1 (take i decls) (take i shapes) decl.name
    (λ k d at same.
    let w = within_take decls i k d at in
    let here : slice_get decls i ≡ Some decl = slice_get_read decls (length decls) i decl refl within read in
    let one = distinct k i decl.name (mapped_at (λ (z : Decl). z.name) decls k d w.1 ∙ ap Some same) (mapped_at (λ (z : Decl). z.name) decls i decl here) in
    let less = w.0 in
    absurd (omega (arith, one, less)))

-- a table without entries has no names
pub numbers_begin : (m : BTreeMap (Bor (List ℕ)) ℕ) → m.entries ≡ [] → Numbers m []
numbers_begin m empty name = rw empty refl

pub names_more : (decls : List Decl) (shapes : List Shape) (i : ℕ) (decl : Decl) (r : Shape) (m t u : BTreeMap (Bor (List ℕ)) ℕ) (bytes : List ℕ) (next : ℕ) →
    length shapes ≡ length decls → AreDistinct (names decls) → i < length decls → decl ≡ get_or decls i decl → is_root (get_or shapes i r) ≡ false →
    Numbers m (unrooted (take i decls) (take i shapes)) → next ≡ suc (length (unrooted (take i decls) (take i shapes))) → bytes ≡ encode_utf8_all decl.name →
    tree.UpdatesBy (λ x y. slice_cmp nat_cmp x.now y.now) (λ k. slice_cmp nat_cmp bytes k.now) m t (Some next) → u ≡ t →
    Numbers u (unrooted (take (i + 1) decls) (take (i + 1) shapes))
names_more decls shapes i decl r m t u bytes next same distinct within read is numbers is_next spelled updates now =
    subst (λ z. Numbers z (unrooted (take (i + 1) decls) (take (i + 1) shapes))) (sym now)
    (subst (λ (z : List Shaped). Numbers t z) (sym (row_added decls shapes i decl (get_or shapes i r) r same within read refl is))
    (numbers_push m t (unrooted (take i decls) (take i shapes)) (shaped decl (get_or shapes i r)) bytes (Some next) numbers
    (fresh decls shapes i decl distinct within read) spelled
    (ap Some (is_next ∙ (let e : suc (length (unrooted (take i decls) (take i shapes))) ≡ 1 + length (unrooted (take i decls) (take i shapes)) = omega arith in e))) updates))

pub names_same : (decls : List Decl) (shapes : List Shape) (i : ℕ) (decl : Decl) (r : Shape) (m u : BTreeMap (Bor (List ℕ)) ℕ) → length shapes ≡ length decls →
    i < length decls → decl ≡ get_or decls i decl → is_root (get_or shapes i r) ≡ true → Numbers m (unrooted (take i decls) (take i shapes)) → u ≡ m →
    Numbers u (unrooted (take (i + 1) decls) (take (i + 1) shapes))
names_same decls shapes i decl r m u same within read is numbers now =
    subst (λ z. Numbers z (unrooted (take (i + 1) decls) (take (i + 1) shapes))) (sym now)
    (subst (λ (z : List Shaped). Numbers m z) (sym (row_passed decls shapes i decl (get_or shapes i r) r same within read refl is)) numbers)

pub next_more : (decls : List Decl) (shapes : List Shape) (i : ℕ) (decl : Decl) (r : Shape) (n m : ℕ) → length shapes ≡ length decls → i < length decls →
    decl ≡ get_or decls i decl → is_root (get_or shapes i r) ≡ false → n ≡ suc (length (unrooted (take i decls) (take i shapes))) → m ≡ n + 1 →
    m ≡ suc (length (unrooted (take (i + 1) decls) (take (i + 1) shapes)))
next_more decls shapes i decl r n m same within read is have more =
    let l = length (unrooted (take i decls) (take i shapes)) in
    let e = count_more decls shapes i decl r l (l + 1) same within read is refl refl in
    omega (arith, e, have, more)

pub next_same : (decls : List Decl) (shapes : List Shape) (i : ℕ) (decl : Decl) (r : Shape) (n m : ℕ) → length shapes ≡ length decls → i < length decls →
    decl ≡ get_or decls i decl → is_root (get_or shapes i r) ≡ true → n ≡ suc (length (unrooted (take i decls) (take i shapes))) → m ≡ n →
    m ≡ suc (length (unrooted (take (i + 1) decls) (take (i + 1) shapes)))
next_same decls shapes i decl r n m same within read is have more =
    let l = length (unrooted (take i decls) (take i shapes)) in
    let e = count_same decls shapes i decl r l l same within read is refl refl in
    omega (arith, e, have, more)
