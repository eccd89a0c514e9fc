-- The shapes of a grammar whose symbols a pass rewrites fit it, where the own rule keeps the root one.
use Rattle.std.proofs.Common.{◌≡◌, ◌∙◌, ℕ, suc, List, [], ◌∷◌, Some, map, length, refl, sym, ap, subst}
use Rattle.std.specs.Prelude.{◌≢◌, All, Contains, slice_get}
use Rattle.std.proofs.lemmas.List.{length-map, map-append}
use Rattle.ig_expr.specs.Expression.{Expression}
use Rattle.ig_grammar.specs.Symbol.{Symbol, Call}
use Rattle.ig_grammar.specs.Symbol.{Symbols, no_symbols, next_symbol, gathered, listed}
use Rattle.ig_grammar.specs.Visible.{Visible, Occurrence, parameters}
use Rattle.ig_grammar.specs.Regular.{AlternativesHaveNoMark, OfEachLevel}
use Rattle.ig_grammar.specs.Condition.{symbols_of}
use Rattle.ig_grammar.specs.Numbering.{Levelled, by_level, alternatives}
use Rattle.ig_grammar.specs.Checked.{FitShapes, FitsShape, IsRoot, IsOfCalls, IsOneFreeLevel, MayHave}
use Rattle.ig_grammar.specs.declared.symbol.Alt.{Alt}
use Rattle.ig_grammar.specs.declared.declaration.DeclKind.{DeclKind}
use Rattle.ig_grammar.specs.declared.declaration.Level.{Level}
use Rattle.ig_grammar.specs.declared.declaration.Decl.{Decl}
use Rattle.ig_grammar.specs.declared.grammar.Grammar.{Grammar}
use Rattle.ig_grammar.specs.declared.place.Shape.{Shape}
use Rattle.ig_grammar.specs.declared.place.Shape.TheVariants as shape
use Rattle.ig_pass.specs.Rewriting.{rewritten, rewritten_symbols, rewritten_alternative, rewritten_level}
use Rattle.ig_text.proofs.Lists.{contains_from_at, at_from_contains, from_map}
use Rattle.ig_pass.specs.EachLevel.{alternative_at}
use Rattle.ig_pass.specs.Throughout.{placed_symbols, of_placed_symbols}
use Rattle.ig_lexical.proofs.Placing.{SameHead, label_head, opt_head, star_head, plus_head, sep_star_head, sep_plus_head, group_head, offside_head, ignore_head, filtered_head, seq_head, entry_head}
use Rattle.ig_lexical.proofs.Unmarked.{everywhere}
use Rattle.ig_lexical.proofs.Keeping.{Keeps, symbols_kept}
use Rattle.ig_lexical.proofs.RewrittenScoped.{KeepsKinds, turned, turned_grammar, alternative_before}

alternatives_rewritten : (own : Symbol → Symbol) (levels : List Level) → alternatives (map (rewritten_level own) levels) ≡ map (rewritten_alternative own) (alternatives levels)
alternatives_rewritten own [] = refl
alternatives_rewritten own (level ∷ others) = (rw (alternatives_rewritten own others) refl) ∙ sym (map-append (rewritten_alternative own) level.alts (alternatives others))

pub listed_rewritten : (own : Symbol → Symbol) (xs : Symbols) → listed (rewritten_symbols own xs) ≡ map (rewritten own) (listed xs)
listed_rewritten own no_symbols = refl
listed_rewritten own (next_symbol x xs) = ap (λ zs. rewritten own x ∷ zs) (listed_rewritten own xs)

one_free : (own : Symbol → Symbol) (levels : List Level) → IsOneFreeLevel levels → IsOneFreeLevel (map (rewritten_level own) levels)
one_free own [] f = f
one_free own (level ∷ []) f = f
one_free own (level ∷ next ∷ others) f = f

-- no call of the name
abbrev pub IsUncalled : List ℕ → Visible → Symbol → Type 0
IsUncalled name v x = (arguments : List Expression) → x ≢ Call name arguments

no_call : (x y : Symbol) (name : List ℕ) (arguments : List Expression) → SameHead x y → y ≡ Call name arguments → ⊥
no_call x y name arguments (label_head _ _ _) e = cc
no_call x y name arguments (opt_head _ _) e = cc
no_call x y name arguments (star_head _ _) e = cc
no_call x y name arguments (plus_head _ _) e = cc
no_call x y name arguments (sep_star_head _ _ _ _) e = cc
no_call x y name arguments (sep_plus_head _ _ _ _) e = cc
no_call x y name arguments (group_head _ _) e = cc
no_call x y name arguments (offside_head _ _) e = cc
no_call x y name arguments (ignore_head _ _) e = cc
no_call x y name arguments (filtered_head _ _ _) e = cc
no_call x y name arguments (seq_head _ _) e = cc
no_call x y name arguments (entry_head _ _ _) e = cc

pub heads : (name : List ℕ) (v : Visible) (x y : Symbol) → SameHead x y → IsUncalled name v x → IsUncalled name v y
heads name v x y same f arguments e = no_call x y name arguments same e

module _ (becomes : DeclKind → DeclKind) (own : Decl → Symbol → Symbol) (kinds : KeepsKinds becomes)
    (g : Grammar) (shapes : List Shape) (none : OfEachLevel AlternativesHaveNoMark g) (fit : FitShapes g shapes) where
  abbrev turn : Decl → Decl
  turn = turned becomes own

  abbrev h : Grammar
  h = turned_grammar becomes own g

  -- what the own rule gives at a declaration that stands for the root
  pub record KeepsRoot (before : ℕ) (decl : Decl) : Type 0 where
    pub uncalled : (kind : Decl) → Keeps (IsUncalled decl.name) (heads decl.name) (own kind)
    pub calls : (a : Alt) → Contains (alternatives decl.levels) a → All IsOfCalls (map (rewritten (own decl)) a.symbols)

  module _ (before : ℕ) (decl : Decl) (root : IsRoot g shapes before decl) (keeps : KeepsRoot before decl) where
    uncalled_there : (other : Decl) (b k : ℕ) (a : Levelled) → slice_get g.decls b ≡ Some other → slice_get (by_level other.levels) k ≡ Some a →
        (o : Occurrence) → Contains (symbols_of (turn other) (rewritten_alternative (own other) a.alternative)) o → IsUncalled decl.name o.visible o.symbol
    uncalled_there other b k a e f =
        of_placed_symbols (IsUncalled decl.name) (gathered (map (rewritten (own other)) a.alternative.symbols)) (parameters other.params)
        (symbols_kept (IsUncalled decl.name) (heads decl.name) (own other) (keeps.uncalled other) a.alternative.symbols
        (everywhere g none other (suc k) a (contains_from_at g.decls b other e) (k, refl, f)) (parameters other.params)
        (placed_symbols (IsUncalled decl.name) (gathered a.alternative.symbols) (parameters other.params)
        (λ o m arguments. root.uncalled other a.alternative o arguments (contains_from_at g.decls b other e)
        (contains_from_at (alternatives other.levels) k a.alternative (alternative_at other.levels k a f)) m)))

    uncalled : (other : Decl) (a : Alt) (o : Occurrence) (arguments : List Expression) → Contains h.decls other → Contains (alternatives other.levels) a →
        Contains (symbols_of other a) o → o.symbol ≢ Call decl.name arguments
    uncalled other a o arguments among has occurs =
        let b = at_from_contains h.decls other among in
        let r = from_map turn g.decls b.0 other b.1 in
        let k = at_from_contains (alternatives other.levels) a has in
        let s = alternative_before (own r.0) r.0.levels k.0 a (subst (λ z. slice_get (alternatives z.levels) k.0 ≡ Some a) r.2 k.1) in
        uncalled_there r.0 b.0 k.0 s.0 r.1 s.1 o
        (subst (λ z. Contains (symbols_of (turn r.0) z) o) s.2 (subst (λ z. Contains (symbols_of z a) o) r.2 occurs)) arguments

    calls : (a : Alt) → Contains (alternatives (turn decl).levels) a → All IsOfCalls a.symbols
    calls a has =
        let k = at_from_contains (alternatives (turn decl).levels) a has in
        let s = alternative_before (own decl) decl.levels k.0 a k.1 in
        let m = contains_from_at (alternatives decl.levels) k.0 s.0.alternative (alternative_at decl.levels k.0 s.0 s.1) in
        subst (λ (z : Alt). All IsOfCalls z.symbols) (sym s.2) (keeps.calls s.0.alternative m)

    root_kept : IsRoot h shapes before (turn decl)
    root_kept = record { start = root.start; no_layout = λ e. root.no_layout (kinds.layout decl.kind e); after_rules = root.after_rules; uncalled = uncalled; calls = calls }

  module _ (keeps : (before : ℕ) (decl : Decl) → slice_get g.decls before ≡ Some decl → slice_get shapes before ≡ Some shape.Root →
      IsRoot g shapes before decl → KeepsRoot before decl) where
    each : (before : ℕ) (other : Decl) (s : Shape) → slice_get h.decls before ≡ Some other → slice_get shapes before ≡ Some s → FitsShape h shapes before other s
    each before other s e f =
        let r = from_map turn g.decls before other e in
        let q = fit.each before r.0 s r.1 f in
        let counted : length (alternatives (turn r.0).levels) ≡ length (alternatives r.0.levels) =
        ap length (alternatives_rewritten (own r.0) r.0.levels) ∙ length-map (alternatives r.0.levels) (rewritten_alternative (own r.0)) in
        subst (λ z. FitsShape h shapes before z s) (sym r.2)
        (record {
          count = subst (MayHave s) (sym counted) q.count;
          level = λ n. one_free (own r.0) r.0.levels (q.level n);
          root = λ t. root_kept before r.0 (q.root t) (keeps before r.0 r.1 (f ∙ ap Some t) (q.root t));
        })

    pub turned_fits : FitShapes h shapes
    turned_fits = record { counted = fit.counted ∙ sym (length-map g.decls turn); each = each }
