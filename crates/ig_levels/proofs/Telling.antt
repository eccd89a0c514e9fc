-- A table of levelled declarations, with one declaration more before the others.
use Rattle.std.proofs.Common.{◌≡◌, ◌∙◌, ℕ, ◌+◌, ◌<◌, Bool, true, false, List, [], ◌∷◌, Some, None, cond, drop, get_or, length, refl, sym, ap, subst}
use Rattle.std.specs.Prelude.{bytes_eq, encode_utf8_all}
use Rattle.std.specs.Cmp.Lexicographic.{slice_cmp, bytes_decides}
use Rattle.std.specs.Ordering.{nat_cmp}
use Rattle.std.specs.BTreeMap as tree
use Rattle.std.specs.BTreeMap.{BTreeMap}
use denote.Ref.{Bor}
use Rattle.std.proofs.lemmas.List.{drop_more}
use Rattle.std.proofs.lemmas.Slice.Eq.{bytes_eq-Decides}
use Rattle.std.proofs.lemmas.Str.{encodes_same}
use Rattle.std.proofs.lemmas.Map.Text.{btree_map_updates_str}
use Rattle.ig_text.specs.Words.{is_word}
use Rattle.ig_grammar.specs.declared.declaration.Decl.{Decl}
use Rattle.ig_levels.specs.Levels.{is_levelled, names_levelled}
use Rattle.ig_levels.specs.Tables.{lookup, or_false, levelled_by, Tells}

-- nothing is levelled where there is no declaration
pub tells_none : (m : BTreeMap (Bor (List ℕ)) Bool) → ((name : List ℕ) → lookup m name ≡ None) → Tells m []
tells_none m empty = λ name. ap or_false (empty name)

tells_next : (m t : BTreeMap (Bor (List ℕ)) Bool) (d : Decl) (ds : List Decl) (bytes : List ℕ) (b : Bool) → Tells m ds → bytes ≡ encode_utf8_all d.name →
    b ≡ is_levelled d.levels → tree.UpdatesBy (λ x y. slice_cmp nat_cmp x.now y.now) (λ k. slice_cmp nat_cmp bytes k.now) m t (Some b) → Tells t (d ∷ ds)
tells_next m t d ds bytes b tells spelled is u =
    λ name. go name (bytes_eq bytes (encode_utf8_all name)) refl (btree_map_updates_str bytes m t (Some b) u (encode_utf8_all name))
  where
    go : (name : List ℕ) (r : Bool) → bytes_eq bytes (encode_utf8_all name) ≡ r →
        lookup t name ≡ cond (bytes_eq bytes (encode_utf8_all name)) (Some b) (lookup m name) → levelled_by t name ≡ names_levelled (d ∷ ds) name
    go name true q s =
        let p : encode_utf8_all d.name ≡ encode_utf8_all name = sym spelled ∙ (bytes_eq-Decides bytes (encode_utf8_all name)).0 q in
        let same : is_word d.name name ≡ true = (bytes_decides d.name name).1 (encodes_same d.name name p) in
        let y : lookup t name ≡ Some b = rw q at s in
        ap or_false y ∙ is ∙ sym (ap (λ z. cond z (is_levelled d.levels) (names_levelled ds name)) same)
    go name false q s =
        let y : lookup t name ≡ lookup m name = rw q at s in
        ap or_false y ∙ tells name ∙ sym (ap (λ z. cond z (is_levelled d.levels) (names_levelled ds name)) (other (is_word d.name name) refl))
      where
        other : (v : Bool) → is_word d.name name ≡ v → is_word d.name name ≡ false
        other true e =
            let z : bytes_eq bytes (encode_utf8_all name) ≡ true =
            (bytes_eq-Decides bytes (encode_utf8_all name)).1 (spelled ∙ ap encode_utf8_all ((bytes_decides d.name name).0 e)) in
            let f : true ≡ false = sym z ∙ q in absurd (cc)
        other false e = e

pub tells_more : (m t u : BTreeMap (Bor (List ℕ)) Bool) (ds : List Decl) (i : ℕ) (d : Decl) (bytes : List ℕ) (b : Bool) → i < length ds → d ≡ get_or ds i d →
    Tells m (drop (i + 1) ds) → bytes ≡ encode_utf8_all d.name → b ≡ is_levelled d.levels →
    tree.UpdatesBy (λ x y. slice_cmp nat_cmp x.now y.now) (λ k. slice_cmp nat_cmp bytes k.now) m t (Some b) → u ≡ t → Tells u (drop i ds)
tells_more m t u ds i d bytes b within read tells spelled is updates now =
    subst (λ z. Tells z (drop i ds)) (sym now)
    (subst (Tells t) (sym (drop_more ds i d within ∙ ap (λ z. z ∷ drop (i + 1) ds) (sym read)))
    (tells_next m t d (drop (i + 1) ds) bytes b tells spelled is updates))
