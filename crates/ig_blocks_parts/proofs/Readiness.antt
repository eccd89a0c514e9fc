-- A prepared grammar in which a declaration stands for the root is ready.
use Rattle.std.proofs.Common.{◌≡◌, ◌∙◌, ℕ, suc, List, Some, Bool, true, false, refl, sym, ap, subst, length, map}
use Rattle.std.specs.Prelude.{◌≢◌, All, Contains, slice_get}
use Rattle.std.proofs.lemmas.List.Elements.{All-weaker}
use Rattle.ig_text.proofs.Lists.{at_from_contains, contains_from_at, mapped_at}
use Rattle.ig_text.proofs.Lists.{all_both}
use Rattle.ig_grammar.specs.Checked.{CheckedGrammar, IsRoot}
use Rattle.ig_grammar.specs.Regular.{IsPlaced}
use Rattle.ig_grammar.specs.Condition.{symbols_of}
use Rattle.ig_grammar.specs.Numbering.{Levelled, IsAlternative, alternatives}
use Rattle.ig_grammar.specs.Subterms.{subterms_of_symbols}
use Rattle.ig_grammar.specs.Symbol.{Symbol, Offside}
use Rattle.ig_grammar.specs.Symbol.{gathered}
use Rattle.ig_grammar.specs.Visible.{Occurrence, parameters}
use Rattle.ig_grammar.specs.WellScoped.{IsWellScoped}
use Rattle.ig_grammar.specs.declared.declaration.DeclKind.TheVariants.{Plain}
use Rattle.ig_grammar.specs.declared.declaration.Decl.{Decl}
use Rattle.ig_grammar.specs.declared.grammar.Grammar.{Grammar}
use Rattle.ig_grammar.specs.declared.place.Shape.{Shape}
use Rattle.ig_grammar.specs.declared.place.Shape.TheVariants as shape
use Rattle.ig_pass.specs.Asked.{SymbolsAsk}
use Rattle.ig_pass.specs.Found.{DeclarationsAreFound}
use Rattle.ig_pass.specs.KeptByRoot.{RootAt}
use Rattle.ig_pass.specs.Unbound.{LacksName}
use Rattle.ig_blocks_parts.specs.Setting.{Setting}
use Rattle.ig_blocks_parts.specs.Blocks.{is_marked, setting_of}
use Rattle.ig_blocks_parts.proofs.Fitting.{AreFit}
use Rattle.ig_blocks_parts.proofs.Takes.{AreWritten}
use Rattle.ig_blocks_parts.proofs.Ready.{IsReady}
use Rattle.ig_pass.specs.Throughout.{PlacedSymbols}
use Rattle.ig_pass.specs.Throughout.{placed_symbols}
use Rattle.ig_pass.specs.EachLevel.{alternative_at, everywhere}
use Rattle.ig_blocks_parts.proofs.Marking.{IsNoBlock, unmarked_is, none_blocked}
use Rattle.ig_blocks_parts.proofs.Rooting.{IsPrepared}
use Rattle.ig_blocks_parts.proofs.Suiting.{IsGood, LacksAdded, MayBlock, params_written, symbols_fit}
use Rattle.ig_pass.specs.Added.{margin_name, first_name, column_name}

-- a name stands at one place
pub one_place : DeclarationsAreFound → (g : Grammar) → IsWellScoped g → (n k : ℕ) (d e : Decl) → slice_get g.decls n ≡ Some d → slice_get g.decls k ≡ Some e → d.name ≡ e.name → n ≡ k
one_place found g scoped n k d e a b same = found.distinct g scoped n k d.name (mapped_at (λ (z : Decl). z.name) g.decls n d a) (mapped_at (λ (z : Decl). z.name) g.decls k e b ∙ ap Some (sym same))

module _ (found : DeclarationsAreFound) (c : CheckedGrammar) (prepared : IsPrepared c) where
  abbrev g : Grammar
  g = c.grammar

  abbrev shapes : List Shape
  shapes = c.shapes

  abbrev s : Setting
  s = setting_of g.decls shapes

  abbrev place : (n k : ℕ) (d e : Decl) → slice_get g.decls n ≡ Some d → slice_get g.decls k ≡ Some e → d.name ≡ e.name → n ≡ k
  place = one_place found g prepared.sound.scoped

  abbrev counted : length shapes ≡ length g.decls
  counted = prepared.sound.fit.counted

  -- a declaration that stands for the root
  pub root_of : (n : ℕ) (decl : Decl) → slice_get g.decls n ≡ Some decl → slice_get shapes n ≡ Some shape.Root → IsRoot g shapes n decl
  root_of n decl at shaped = let q = prepared.sound.fit.each n decl shape.Root at shaped in q.root refl

  -- a declaration of a marked grammar isn't plain
  pub marked_kind : (b : ℕ) (decl : Decl) → slice_get g.decls b ≡ Some decl → is_marked g.decls ≡ true → decl.kind ≢ Plain
  marked_kind b decl at marked plain =
      let clash : true ≡ false = sym marked ∙ unmarked_is g (prepared.plain decl (contains_from_at g.decls b decl at) plain) in cc

  may_block : (b k : ℕ) (decl : Decl) (a : Levelled) → slice_get g.decls b ≡ Some decl → IsAlternative decl k a →
      All (MayBlock found g shapes counted place decl.kind) (subterms_of_symbols (gathered a.alternative.symbols))
  may_block b k decl a at numbered = go (is_marked g.decls) refl
    where
      every : is_marked g.decls ≡ true → (x : Symbol) → MayBlock found g shapes counted place decl.kind x
      every e (Offside x) = (e, marked_kind b decl at e)
      every e x = tt

      none : (x : Symbol) → IsNoBlock x → MayBlock found g shapes counted place decl.kind x
      none (Offside x) h = absurd h
      none x h = tt

      go : (marked : Bool) → is_marked g.decls ≡ marked → All (MayBlock found g shapes counted place decl.kind) (subterms_of_symbols (gathered a.alternative.symbols))
      go true e = λ k d within. every e _
      go false e =
          All-weaker IsNoBlock (MayBlock found g shapes counted place decl.kind) none (subterms_of_symbols (gathered a.alternative.symbols))
          (everywhere IsNoBlock g (none_blocked g e) b k decl a at numbered)

  pub all_lack : (b k : ℕ) (decl : Decl) (a : Levelled) → slice_get g.decls b ≡ Some decl → IsAlternative decl k a →
      All (LacksAdded s) (subterms_of_symbols (gathered a.alternative.symbols))
  all_lack b k decl a at numbered n d within =
      let m = everywhere (LacksName margin_name) g prepared.margin.symbols b k decl a at numbered in
      let f = everywhere (LacksName first_name) g prepared.first.symbols b k decl a at numbered in
      let o = everywhere (LacksName column_name) g prepared.column.symbols b k decl a at numbered in
      (m n d within, f n d within, o n d within)

  pub parameters_written : (b : ℕ) (decl : Decl) → slice_get g.decls b ≡ Some decl → AreWritten s decl.params
  parameters_written b decl at =
      let m = contains_from_at g.decls b decl at in
      params_written s decl.params (λ n has.
      record {
        not_m = λ e. prepared.margin.parameters decl m (subst (Contains (map (λ p. p.name) decl.params)) e has);
        not_f = λ e. prepared.first.parameters decl m (subst (Contains (map (λ p. p.name) decl.params)) e has);
        not_c = λ e. prepared.column.parameters decl m (subst (Contains (map (λ p. p.name) decl.params)) e has);
      })

  module _ (ask : SymbolsAsk) where
    good : (b k : ℕ) (decl : Decl) (a : Levelled) → slice_get g.decls b ≡ Some decl → IsAlternative decl k a → (o : Occurrence) →
        Contains (symbols_of decl a.alternative) o → IsGood g shapes decl.kind o.visible o.symbol
    good b k decl a declared numbered o m =
        let there = at_from_contains (symbols_of decl a.alternative) o m in
        let at = alternative_at decl.levels numbered.0 a numbered.2 in
        record {
          asks = ask.asks g.decls decl.kind o.visible o.symbol (λ condition met.
              prepared.sound.scoped (record { decl = suc b; alt = suc numbered.0; symbol = suc there.0 }) condition
              (decl, declared, (a.alternative, at, (o, there.1, met))));
          uncalled = λ n root arguments e f.
              let r = root_of n root e f in
              r.uncalled decl a.alternative o arguments (contains_from_at g.decls b decl declared) (contains_from_at (alternatives decl.levels) numbered.0 a.alternative at) m;
        }

    -- each symbol of an alternative is so
    pub all_good : (b k : ℕ) (decl : Decl) (a : Levelled) → slice_get g.decls b ≡ Some decl → IsAlternative decl k a →
        PlacedSymbols (IsGood g shapes decl.kind) (gathered a.alternative.symbols) (parameters decl.params)
    all_good b k decl a declared numbered =
        placed_symbols (IsGood g shapes decl.kind) (gathered a.alternative.symbols) (parameters decl.params) (λ o m. good b k decl a declared numbered o m)

    pub all_fit : (b k : ℕ) (decl : Decl) (a : Levelled) → slice_get g.decls b ≡ Some decl → IsAlternative decl k a →
        AreFit s decl.kind (gathered a.alternative.symbols)
    all_fit b k decl a at numbered =
        symbols_fit found g shapes counted place decl.kind (marked_kind b decl at) (gathered a.alternative.symbols) (parameters decl.params)
        (all_good b k decl a at numbered)
        (all_both (LacksAdded s) (MayBlock found g shapes counted place decl.kind) (subterms_of_symbols (gathered a.alternative.symbols))
        (all_lack b k decl a at numbered) (may_block b k decl a at numbered))

    pub ready : RootAt c → IsReady g shapes
    ready at =
        record {
          distinct = found.distinct g prepared.sound.scoped;
          as_many = counted;
          params = parameters_written;
          well = λ n d k a declared numbered. everywhere IsPlaced g prepared.sound.well n k d a declared numbered;
          fit = λ n d k a declared numbered. all_fit n k d a declared numbered;
          layout_no_root = λ n d declared kind shaped. let q = root_of n d declared shaped in q.no_layout kind;
          rooted = (at.decl.name, at.before, at.decl, at.start, at.declared, refl, at.shaped);
        }
