-- What rewriting the parts of a symbol does to tokens: nothing.
use Rattle.std.proofs.Common.{◌≡◌, List, true, refl, sym, ap}
use Rattle.ig_grammar.specs.Binding.{Binding}
use Rattle.ig_grammar.specs.Symbol.{Symbol, Label, Filtered}
use Rattle.ig_grammar.specs.declared.declaration.Decl.{Decl}
use Rattle.ig_lexical.proofs.Alike.{IsLeaf, Alike, leaf, label_alike, opt_alike, star_alike, plus_alike, sep_star_alike, sep_plus_alike, group_alike, offside_alike, ignore_alike, align_alike, filtered_alike, seq_alike, entry_alike}
use Rattle.ig_lexical.specs.Layout.{is_token}

abbrev pub SameLeaf : Symbol → Symbol → Type 0
SameLeaf x y = x ≡ y

pub leaf_kept : (x : Symbol) → IsLeaf x → SameLeaf x x
leaf_kept x l = refl

module _ (decls : List Decl) (P : Symbol → Symbol → Type 0) (Marks : Type 0) (Enters : List Binding → Type 0) where
  pub token_same : (x y : Symbol) → Alike SameLeaf P Marks Enters x y → is_token decls y ≡ is_token decls x
  token_same x y (leaf _ _ l q) = ap (is_token decls) (sym q)
  token_same x y (label_alike name u v a) = token_same u v a
  token_same x y (opt_alike u v p) = refl
  token_same x y (star_alike u v p) = refl
  token_same x y (plus_alike u v p) = refl
  token_same x y (sep_star_alike u v s t p q) = refl
  token_same x y (sep_plus_alike u v s t p q) = refl
  token_same x y (group_alike us vs p) = refl
  token_same x y (offside_alike u v mark a) = refl
  token_same x y (ignore_alike u v mark a) = refl
  token_same x y (align_alike u v mark a) = refl
  token_same x y (filtered_alike u v filters a) = token_same u v a
  token_same x y (seq_alike us vs p) = refl
  token_same x y (entry_alike bs u v n a) = refl

  pub token_kept : (x y : Symbol) → Alike SameLeaf P Marks Enters x y → is_token decls x ≡ true → x ≡ y
  token_kept x y (leaf _ _ l q) e = q
  token_kept x y (label_alike name u v a) e = ap (Label name) (token_kept u v a e)
  token_kept x y (opt_alike u v p) e = absurd (cc)
  token_kept x y (star_alike u v p) e = absurd (cc)
  token_kept x y (plus_alike u v p) e = absurd (cc)
  token_kept x y (sep_star_alike u v s t p q) e = absurd (cc)
  token_kept x y (sep_plus_alike u v s t p q) e = absurd (cc)
  token_kept x y (group_alike us vs p) e = absurd (cc)
  token_kept x y (offside_alike u v mark a) e = absurd (cc)
  token_kept x y (ignore_alike u v mark a) e = absurd (cc)
  token_kept x y (align_alike u v mark a) e = absurd (cc)
  token_kept x y (filtered_alike u v filters a) e = ap (λ z. Filtered z filters) (token_kept u v a e)
  token_kept x y (seq_alike us vs p) e = absurd (cc)
  token_kept x y (entry_alike bs u v n a) e = absurd (cc)
