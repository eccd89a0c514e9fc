-- What holds of each symbol at what is visible there, the layout pass's own rule keeps.
use Rattle.std.proofs.Common.{◌≡◌, ◌∙◌, ℕ, List, [], ◌∷◌, ◌++◌, Bool, true, false, map, refl, sym, ap, subst}
use Rattle.std.specs.Prelude.{if◌then◌else◌}
use Rattle.std.proofs.lemmas.List.{append-nil}
use Rattle.ig_expr.specs.declared.kind.Kind.TheVariants.{Span}
use Rattle.ig_grammar.specs.Symbol.{Symbol, Call, Label, Filtered, Seq, Entry}
use Rattle.ig_grammar.specs.Symbol.{Symbols, no_symbols, next_symbol, gathered}
use Rattle.ig_grammar.specs.Visible.{Visible, binds, replaced}
use Rattle.ig_grammar.specs.declared.declaration.Decl.{Decl}
use Rattle.ig_pass.specs.Rewriting.{within, rewritten, rewritten_symbols}
use Rattle.ig_lexical.proofs.Alike.{IsLeaf}
use Rattle.ig_lexical.proofs.Traversal.{ThroughoutSymbols, symbols_alike}
use Rattle.ig_pass.specs.Throughout.{Placed, PlacedSymbols}
use Rattle.ig_lexical.proofs.Placing.{SameHead, label_head, filtered_head, entry_head, Stays, each_stays, alike_stays}
use Rattle.ig_pass.specs.Gathered.{symbols_gathered}
use Rattle.ig_lexical.specs.Layout.{is_token, then_layout, laid_inside, laid}
use Rattle.ig_grammar.specs.Regular.{IsNoMark}
use Rattle.ig_lexical.proofs.Unmarked.{admits}

module _ (N : Visible → Symbol → Type 0) (heads : (v : Visible) (x y : Symbol) → SameHead x y → N v x → N v y) where
  -- the rewritten symbol satisfies N throughout, and binds the same
  abbrev pub Keeps : (Symbol → Symbol) → Type 0
  Keeps own = (x : Symbol) (v : Visible) → Placed N x v → Placed N (own x) v × (binds v (own x) ≡ binds v x)

  pub symbols_kept : (own : Symbol → Symbol) → Keeps own → (xs : List Symbol) → ThroughoutSymbols IsNoMark (gathered xs) → (v : Visible) →
      PlacedSymbols N (gathered xs) v → PlacedSymbols N (gathered (map (rewritten own) xs)) v
  symbols_kept own keeps xs q v p =
      let S : Symbol → Symbol → Type 0 = Stays N N heads in
      let leaves : (x y : Symbol) → IsLeaf x → S x y → S x y = λ x y l s. s in
      let each = symbols_alike own IsNoMark (⊥) (λ bs. Unit {0}) S S admits
      (λ x l n. record { placed = λ v p. p; bound = λ v p. refl })
      (λ x n a. let r = alike_stays N N heads S leaves x (within own x) a in
      record { placed = λ v p. (keeps (within own x) v (r.placed v p)).0; bound = λ v p. (keeps (within own x) v (r.placed v p)).1 ∙ r.bound v p })
      (gathered xs) q in
      subst (λ ys. PlacedSymbols N ys v) (sym (symbols_gathered own xs)) ((each_stays N N heads S leaves (gathered xs) (rewritten_symbols own (gathered xs)) each).placed v p)

  pub same_keeps : Keeps (λ x. x)
  same_keeps x v p = (p, refl)

  module _ (decls : List Decl) (w : List ℕ) (sequences : (v : Visible) (xs : Symbols) → N v (Seq xs)) (calls : (v : Visible) → N v (Call w [])) where
    then_keeps : Keeps (then_layout w)
    then_keeps x v p = ((sequences v (next_symbol x (next_symbol (Call w []) no_symbols)), (p, (calls (v ++ binds v x), tt))), append-nil (binds v x))

    chosen : (x : Symbol) (v : Visible) → Placed N x v → Placed N (laid_inside decls w x) v × (binds v (laid_inside decls w x) ≡ binds v x) →
        Placed N (laid decls w x) v × (binds v (laid decls w x) ≡ binds v x)
    chosen x v p q = go (is_token decls x)
      where
        go : (b : Bool) → Placed N (if b then then_layout w x else laid_inside decls w x) v × (binds v (if b then then_layout w x else laid_inside decls w x) ≡ binds v x)
        go true = then_keeps x v p
        go false = q

    inside_keeps : Keeps (laid_inside decls w)
    inside_keeps (Label name x) v p =
        let r = inside_keeps x v p.1 in
        ((heads v (Label name x) (Label name (laid_inside decls w x)) (label_head name x (laid_inside decls w x)) p.0, r.0), ap (λ b. b ++ (name, Span) ∷ []) r.1)
    inside_keeps (Filtered x fs) v p =
        let r = inside_keeps x v p.1 in
        ((heads v (Filtered x fs) (Filtered (laid_inside decls w x) fs) (filtered_head x (laid_inside decls w x) fs) p.0, r.0), r.1)
    inside_keeps (Entry bs x) v p =
        let r = chosen x (replaced v v bs) p.1 (inside_keeps x (replaced v v bs) p.1) in
        ((heads v (Entry bs x) (Entry bs (laid decls w x)) (entry_head bs x (laid decls w x)) p.0, r.0), refl)
    inside_keeps x v p = (p, refl)

    pub laid_keeps : Keeps (laid decls w)
    laid_keeps x v p = chosen x v p (inside_keeps x v p)
