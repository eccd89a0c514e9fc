-- What a pass gives that rewrites symbols, and keeps names, parameters and levels: its own rule keeps what symbols ask, what
-- is bound, and how many names are bound.
use Rattle.std.proofs.Common.{◌≡◌, ◌∙◌, ℕ, suc, List, [], Some, map, refl, sym, ap, subst, inr, arith}
use Rattle.std.specs.Prelude.{◌⊎◌, Contains, slice_get, option_map}
use Rattle.std.proofs.lemmas.List.{length-map, append-nil}
use Rattle.ig_text.proofs.Lists.{contains_from_at, at_from_contains, none_in_nil, from_map}
use Rattle.std.proofs.lemmas.Option.{same_Some, slice_get-map}
use Rattle.ig_grammar.specs.Symbol.{Symbol, Call, Label, Guard, Let, Offside, Ignore, Align, Entry, gathered}
use Rattle.ig_grammar.specs.Visible.{Visible, parameters}
use Rattle.ig_grammar.specs.Regular.{AlternativesHaveNoMark, OfEachLevel}
use Rattle.ig_grammar.specs.Condition.{IsInLexical}
use Rattle.ig_grammar.specs.Numbering.{Levelled, by_level, IsAlternative, alternatives}
use Rattle.ig_grammar.specs.WellScoped.{IsWellScoped}
use Rattle.ig_grammar.specs.declared.symbol.Alt.{Alt}
use Rattle.ig_grammar.specs.declared.declaration.DeclKind.{DeclKind}
use Rattle.ig_grammar.specs.declared.declaration.DeclKind.TheVariants.{Syntax, Layout, Plain}
use Rattle.ig_grammar.specs.declared.declaration.Level.{Level}
use Rattle.ig_grammar.specs.declared.declaration.Decl.{Decl}
use Rattle.ig_grammar.specs.declared.grammar.Grammar.{Grammar}
use Rattle.ig_pass.specs.Found.{DeclarationsAreFound}
use Rattle.ig_pass.specs.Rewriting.{rewritten, rewritten_alternative, rewritten_level}
use Rattle.ig_pass.specs.Asked.{Asks}
use Rattle.ig_pass.specs.EachLevel.{alternatives_by_level, alternative_at}
use Rattle.ig_pass.specs.Passing.{GetAll, IsRemade, IsGivenFrom, Gives, ResultsAreReady}
use Rattle.ig_pass.specs.Throughout.{placed_symbols, of_placed_symbols}
use Rattle.ig_lexical.proofs.Pass.{rewritten_by_level, levels_rewritten}
use Rattle.ig_lexical.proofs.Placing.{SameHead, label_head, opt_head, star_head, plus_head, sep_star_head, sep_plus_head, group_head, offside_head, ignore_head, filtered_head, seq_head, entry_head}
use Rattle.ig_lexical.proofs.Unmarked.{everywhere}
use Rattle.ig_lexical.proofs.Keeping.{Keeps, symbols_kept}
use Rattle.ig_pass.specs.Binders.{binders, binders_of_symbols}
use Rattle.ig_lexical.proofs.Counting.{same_binders}

-- the alternative that was rewritten
pub alternative_before : (own : Symbol → Symbol) (levels : List Level) (k : ℕ) (b : Alt) → slice_get (alternatives (map (rewritten_level own) levels)) k ≡ Some b →
    (a : Levelled) × (slice_get (by_level levels) k ≡ Some a) × (b ≡ rewritten_alternative own a.alternative)
alternative_before own levels k b e =
    let r = from_map (λ a. a.alternative) (by_level (map (rewritten_level own) levels)) k b (ap (λ xs. slice_get xs k) (alternatives_by_level (map (rewritten_level own) levels)) ∙ e) in
    let s = from_map (rewritten_by_level own) (by_level levels) k r.0 (ap (λ xs. slice_get xs k) (sym (levels_rewritten own levels)) ∙ r.1) in
    (s.0, s.1, r.2 ∙ ap (λ z. z.alternative) s.2)

-- what a pass makes of kinds: each stays, or becomes plain
pub record KeepsKinds (becomes : DeclKind → DeclKind) : Type 0 where
  pub kept : (k : DeclKind) → (becomes k ≡ k) ⊎ (becomes k ≡ Plain)
  -- so no declaration becomes lexical, a syntax declaration or that of layout
  pub lexical : (k : DeclKind) → IsInLexical (becomes k) → IsInLexical k
  pub syntax : (k : DeclKind) → becomes k ≡ Syntax → k ≡ Syntax
  pub layout : (k : DeclKind) → becomes k ≡ Layout → k ≡ Layout

-- a declaration of which the kind and the symbols change
abbrev pub turned : (DeclKind → DeclKind) → (Decl → Symbol → Symbol) → Decl → Decl
turned becomes own decl =
    record { kind = becomes decl.kind; name = decl.name; params = decl.params; levels = map (rewritten_level (own decl)) decl.levels }

abbrev pub turned_grammar : (DeclKind → DeclKind) → (Decl → Symbol → Symbol) → Grammar → Grammar
turned_grammar becomes own g = record { start = g.start; tabs = g.tabs; decls = map (turned becomes own) g.decls }

-- a symbol asks by its head alone
pub heads : (g : Grammar) (kind : DeclKind) (v : Visible) (x y : Symbol) → SameHead x y → Asks g.decls kind v x → Asks g.decls kind v y
heads g kind v x y (label_head name u w) asks = asks
heads g kind v x y (opt_head u w) asks = tt
heads g kind v x y (star_head u w) asks = tt
heads g kind v x y (plus_head u w) asks = tt
heads g kind v x y (sep_star_head u w p q) asks = tt
heads g kind v x y (sep_plus_head u w p q) asks = tt
heads g kind v x y (group_head us ws) asks = tt
heads g kind v x y (offside_head u w) asks = asks
heads g kind v x y (ignore_head u w) asks = asks
heads g kind v x y (filtered_head u w fs) asks = tt
heads g kind v x y (seq_head us ws) asks = tt
heads g kind v x y (entry_head bs u w) asks = asks

module _ (passes : ResultsAreReady) (found : DeclarationsAreFound) (becomes : DeclKind → DeclKind) (own : Decl → Symbol → Symbol) (kinds : KeepsKinds becomes) (g : Grammar) where
  abbrev turn : Decl → Decl
  turn = turned becomes own

  abbrev h : Grammar
  h = turned_grammar becomes own g

  -- what a symbol asks it gets among the new declarations, too
  turned_asks : (kind : DeclKind) (v : Visible) (x : Symbol) → Asks g.decls kind v x → Asks h.decls (becomes kind) v x
  turned_asks kind v (Call name arguments) asks =
      record {
        callee = turn asks.callee;
        declared = found.changed turn (λ d. refl) g.decls name ∙ ap (option_map turn) asks.declared;
        fit = asks.fit;
        allowed = λ l s. asks.allowed (kinds.lexical kind l) (kinds.syntax asks.callee.kind s);
      }
  turned_asks kind v (Label name x) asks = asks
  turned_asks kind v (Guard e) asks = asks
  turned_asks kind v (Let name e) asks = asks
  turned_asks kind v (Offside x) asks = λ l. asks (kinds.lexical kind l)
  turned_asks kind v (Ignore x) asks = λ l. asks (kinds.lexical kind l)
  turned_asks kind v (Align x) asks = (asks.0, λ l. asks.1 (kinds.lexical kind l))
  turned_asks kind v (Entry bindings x) asks = asks
  turned_asks kind v x asks = tt

  remade : (d : Decl) → IsRemade [] d (turn d)
  remade d =
      record {
        named = refl;
        kinded = kinds.kept d.kind;
        more = [];
        longer = sym (append-nil d.params);
        apart = λ p m. absurd (none_in_nil p m);
        distinct = λ i j name p q. absurd (cc);
        unnamed = λ p m. absurd (none_in_nil p m);
        lacks = λ p m. absurd (none_in_nil p m);
        layout = λ e. refl;
        levels = (let same = length-map d.levels (rewritten_level (own d)) in omega (arith, same));
        associated = λ level m.
            let at = at_from_contains (turn d).levels level m in
            let r = from_map (rewritten_level (own d)) d.levels at.0 level at.1 in
            inr (r.0, contains_from_at d.levels at.0 r.0 r.1, ap (λ (z : Level). z.assoc) (sym r.2));
      }

  turned_back : (k : ℕ) (d e : Decl) → slice_get g.decls k ≡ Some d → slice_get h.decls k ≡ Some e → turn d ≡ e
  turned_back k d e before after = same_Some (turn d) e (sym (slice_get-map turn g.decls k ∙ ap (option_map turn) before) ∙ after)

  module _ (scoped : IsWellScoped g) (none : OfEachLevel AlternativesHaveNoMark g)
      (keeps_in : (decl : Decl) → Keeps (Asks g.decls decl.kind) (heads g decl.kind) (own decl))
      (binders_in : (decl : Decl) (x : Symbol) → binders (own decl x) ≡ binders x) where
    -- the symbols of a rewritten alternative get what they ask
    gets : (k : ℕ) (decl : Decl) (a : Levelled) → Contains g.decls decl → IsAlternative decl k a → GetAll g.decls decl a.alternative →
        GetAll h.decls (turn decl) (rewritten_alternative (own decl) a.alternative)
    gets k decl a declared numbered before o among =
        turned_asks decl.kind o.visible o.symbol
        (of_placed_symbols (Asks g.decls decl.kind) (gathered (map (rewritten (own decl)) a.alternative.symbols)) (parameters decl.params)
        (symbols_kept (Asks g.decls decl.kind) (heads g decl.kind) (own decl) (keeps_in decl) a.alternative.symbols
        (everywhere g none decl k a declared numbered) (parameters decl.params)
        (placed_symbols (Asks g.decls decl.kind) (gathered a.alternative.symbols) (parameters decl.params) before)) o among)

    alternative : (k : ℕ) (d : Decl) (b : Alt) → slice_get g.decls k ≡ Some d → Contains (alternatives (turn d).levels) b →
        (a : Alt) × Contains (alternatives d.levels) a × IsGivenFrom g.decls h.decls d (turn d) a b
    alternative k d b before m =
        let n = at_from_contains (alternatives (turn d).levels) b m in
        let r = alternative_before (own d) d.levels n.0 b n.1 in
        let among = contains_from_at g.decls k d before in
        let same = ap (λ (z : Alt). binders_of_symbols (gathered z.symbols)) r.2 ∙ same_binders (own d) (binders_in d) r.0.alternative.symbols in (
          r.0.alternative,
          contains_from_at (alternatives d.levels) n.0 r.0.alternative (alternative_at d.levels n.0 r.0 r.1),
          record {
            bound = omega (arith, same);
            gets = λ source. subst (GetAll h.decls (turn d)) (sym r.2) (gets (suc n.0) d r.0 among (n.0, refl, r.1) source);
          },
        )

    gives : Gives [] g h
    gives =
        record {
          remakes =
              record {
                remade = h.decls;
                added = [];
                decls = sym (append-nil h.decls);
                counted = length-map g.decls turn;
                each = λ k d e before after. subst (IsRemade [] d) (turned_back k d e before after) (remade d);
                new = λ e m. absurd (none_in_nil e m);
                fresh = λ e m. absurd (none_in_nil e m);
                apart = λ i j name p q. absurd (cc);
                start = refl;
                tabs = refl;
                bare = λ k d e before after start. ap (λ (z : Decl). z.params) (sym (turned_back k d e before after));
              };
          each = λ k d e b before after m.
              let same = turned_back k d e before after in
              subst (λ (y : Decl). (a : Alt) × Contains (alternatives d.levels) a × IsGivenFrom g.decls h.decls d y a b) same
              (alternative k d b before (subst (λ (y : Decl). Contains (alternatives y.levels) b) (sym same) m));
          gets = λ e b m. absurd (none_in_nil e m);
        }

    pub turned_is_well_scoped : IsWellScoped h
    turned_is_well_scoped = passes.scoped [] g h scoped gives
