-- The table of the kinds of declarations, from the last declaration to the first.
use Rattle.std.proofs.Common.{◌≡◌, ◌∙◌, ℕ, suc, ◌≤◌, List, ◌∷◌, Option, Some, Bool, cond, true, false, ◌&&◌, not, refl, sym, ap, ap₂, arith, length, drop, get_or, if◌then◌else◌, drop-cons}
use Rattle.std.specs.Prelude.{bytes_eq, encode_utf8_all}
use Rattle.std.specs.Cmp.Lexicographic.{bytes_decides, slice_cmp}
use Rattle.std.specs.Ordering.{nat_cmp}
use Rattle.std.specs.BTreeMap as tree
use Rattle.std.specs.BTreeMap.{BTreeMap}
use denote.Ref.{Bor}
use Rattle.std.proofs.lemmas.Slice.Eq.{bytes_eq-Decides}
use Rattle.std.proofs.lemmas.Str.{encodes_same}
use Rattle.std.proofs.lemmas.Map.Text.{btree_map_updates_str}
use Rattle.ig_text.specs.Words.{is_word}
use Rattle.ig_text.proofs.Characters.{differs}
use Rattle.ig_grammar.specs.declared.declaration.Decl.{Decl}
use Rattle.ig_grammar.specs.declared.declaration.DeclKind.{DeclKind}
use Rattle.ig_grammar.specs.declared.place.Shape.{Shape}
use Rattle.ig_pass.specs.Rooted.{is_root}
use Rattle.ig_blocks_parts.specs.Blocks.{kind_called}
use Rattle.ig_blocks_parts.specs.ColumnCode.{kind_by}

-- the table, and the kinds of the declarations from a place on
abbrev pub Has : BTreeMap (Bor (List ℕ)) DeclKind → List Decl → List Shape → Type 0
Has kinds decls shapes = (name : List ℕ) → kind_by kinds name ≡ kind_called decls shapes name

-- a declaration more, in front
has_more : (m t : BTreeMap (Bor (List ℕ)) DeclKind) (d : Decl) (ds : List Decl) (shape : Shape) (shapes : List Shape) (bytes : List ℕ) (w : Option DeclKind) →
    Has m ds shapes → is_root shape ≡ false → bytes ≡ encode_utf8_all d.name → w ≡ Some d.kind →
    tree.UpdatesBy (λ x y. slice_cmp nat_cmp x.now y.now) (λ k. slice_cmp nat_cmp bytes k.now) m t w → Has t (d ∷ ds) (shape ∷ shapes)
has_more m t d ds shape shapes bytes w h plain b v u =
    λ name. go name (bytes_eq bytes (encode_utf8_all name)) refl (btree_map_updates_str bytes m t w u (encode_utf8_all name))
  where
    go : (name : List ℕ) (r : Bool) → bytes_eq bytes (encode_utf8_all name) ≡ r →
        kind_by t name ≡ cond (bytes_eq bytes (encode_utf8_all name)) w (kind_by m name) → kind_by t name ≡ kind_called (d ∷ ds) (shape ∷ shapes) name
    go name true q s =
        let p : encode_utf8_all d.name ≡ encode_utf8_all name = sym b ∙ (bytes_eq-Decides bytes (encode_utf8_all name)).0 q in
        let y : kind_by t name ≡ w = rw q at s in
        let here : (is_word d.name name && not (is_root shape)) ≡ true =
        ap₂ (λ u v. u && not v) ((bytes_decides d.name name).1 (encodes_same d.name name p)) plain in
        y ∙ v ∙ sym (ap (λ z. if z then Some d.kind else kind_called ds shapes name) here)
    go name false q s =
        let y : kind_by t name ≡ kind_by m name = rw q at s in
        let other : is_word d.name name ≡ false =
        differs d.name name (λ p. let z : bytes_eq bytes (encode_utf8_all name) ≡ true = (bytes_eq-Decides bytes (encode_utf8_all name)).1 (b ∙ ap encode_utf8_all p) in cc) in
        let there : (is_word d.name name && not (is_root shape)) ≡ false = ap (λ u. u && not (is_root shape)) other in
        y ∙ h name ∙ sym (ap (λ z. if z then Some d.kind else kind_called ds shapes name) there)

-- the root in front is not called
root_passed : (d : Decl) (ds : List Decl) (shape : Shape) (shapes : List Shape) (name : List ℕ) → is_root shape ≡ true →
    kind_called (d ∷ ds) (shape ∷ shapes) name ≡ kind_called ds shapes name
root_passed d ds shape shapes name root = go (is_word d.name name)
  where
    there : (b : Bool) → (b && not (is_root shape)) ≡ false
    there true = ap not root
    there false = refl

    go : (b : Bool) → (if b && not (is_root shape) then Some d.kind else kind_called ds shapes name) ≡ kind_called ds shapes name
    go b = ap (λ z. if z then Some d.kind else kind_called ds shapes name) (there b)

module _ (decls : List Decl) (shapes : List Shape) (n i : ℕ) (d : Decl) (r shape : Shape) (beside : length shapes ≡ length decls) (next : n ≡ suc i) (within : n ≤ length decls)
    (read : d ≡ get_or decls i d) (shaped : shape ≡ get_or shapes i r) where
  split : kind_called (drop i decls) (drop i shapes) ≡ kind_called (d ∷ drop n decls) (shape ∷ drop n shapes)
  split =
      ap₂ kind_called (drop-cons decls i d (omega (arith, within, next)) ∙ ap₂ (λ x k. x ∷ drop k decls) (sym read) (sym next))
      (drop-cons shapes i r (omega (arith, within, beside, next)) ∙ ap₂ (λ x k. x ∷ drop k shapes) (sym shaped) (sym next))

  pub kinds_more : (m t : BTreeMap (Bor (List ℕ)) DeclKind) (bytes : List ℕ) → is_root shape ≡ false →
      Has m (drop n decls) (drop n shapes) → bytes ≡ encode_utf8_all d.name →
      tree.UpdatesBy (λ x y. slice_cmp nat_cmp x.now y.now) (λ k. slice_cmp nat_cmp bytes k.now) m t (Some d.kind) → Has t (drop i decls) (drop i shapes)
  kinds_more m t bytes plain has spelled updates =
      λ name. has_more m t d (drop n decls) shape (drop n shapes) bytes (Some d.kind) has plain spelled refl updates name ∙ ap (λ f. f name) (sym split)

  pub kinds_same : (m : BTreeMap (Bor (List ℕ)) DeclKind) → is_root shape ≡ true →
      Has m (drop n decls) (drop n shapes) → Has m (drop i decls) (drop i shapes)
  kinds_same m root has =
      λ name. has name ∙ sym (root_passed d (drop n decls) shape (drop n shapes) name root) ∙ ap (λ f. f name) (sym split)
