-- Each alternative of the lowered grammar is sound.
use Rattle.std.proofs.Common.{◌≡◌, ◌≢◌, ◌∙◌, ℕ, suc, Bool, true, false, List, [], ◌∷◌, ◌++◌, length, Some, None, refl, sym, ap, subst, if◌then◌else◌}
use Rattle.std.specs.Prelude.{All, Contains, slice_get}
use Rattle.std.specs.Option.{option_or}
use Rattle.std.proofs.lemmas.List.{map-append, append-nil}
use Rattle.ig_text.proofs.Lists.{at_from_contains, contains_from_at}
use Rattle.ig_text.proofs.Characters.{differs}
use Rattle.ig_text.proofs.Fallbacks.{or_none}
use Rattle.ig_text.specs.Words.{is_word}
use Rattle.ig_expr.specs.declared.kind.Kind.TheVariants as kind
use Rattle.ig_grammar.specs.Checked.{CheckedGrammar}
use Rattle.ig_grammar.specs.Condition.{symbols_of}
use Rattle.ig_grammar.specs.Numbering.{alternatives}
use Rattle.ig_grammar.specs.Regular.{IsPlaced}
use Rattle.ig_grammar.specs.Subterms.{subterms_of_symbols}
use Rattle.ig_grammar.specs.Symbol.{Symbol, gathered}
use Rattle.ig_grammar.specs.Visible.{Visible, Occurrence, parameters}
use Rattle.ig_grammar.specs.declared.declaration.Decl.{Decl}
use Rattle.ig_grammar.specs.declared.declaration.Level.{Level}
use Rattle.ig_grammar.specs.declared.declaration.Param.{Param}
use Rattle.ig_grammar.specs.declared.grammar.Grammar.{Grammar}
use Rattle.ig_grammar.specs.declared.place.Shape.{Shape}
use Rattle.ig_grammar.specs.declared.symbol.Alt.{Alt}
use Rattle.ig_pass.specs.Added.{margin_name, first_name, column_name}
use Rattle.ig_pass.specs.Asked.{SymbolsAsk, AsksElsewhere}
use Rattle.ig_pass.specs.Found.{DeclarationsAreFound}
use Rattle.ig_pass.specs.Needs.{IsEntered}
use Rattle.ig_pass.specs.Rooted.{is_root}
use Rattle.ig_pass.specs.Unbound.{LacksName}
use Rattle.ig_blocks_parts.specs.Setting.{Setting, lacking, carried, pair_for, pair_by, extra_by}
use Rattle.ig_blocks_parts.specs.Blocks.{setting_of, int_param, alternative_by, declaration_by, root_by, lowered_declaration, lowered_declarations}
use Rattle.ig_blocks_parts.proofs.Reading.{IsWritten, AreApart}
use Rattle.ig_blocks_parts.proofs.Takes.{AreWritten}
use Rattle.ig_blocks_parts.proofs.Looking.{find, find_cons, find_join, if_true, if_false, same_word}
use Rattle.ig_blocks_parts.proofs.Choices.{gathered_by}
use Rattle.ig_pass.specs.Throughout.{PlacedSymbols}
use Rattle.ig_pass.specs.Throughout.{placed_symbols, of_placed_symbols}
use Rattle.ig_blocks_parts.proofs.Suiting.{IsGood}
use Rattle.ig_blocks_parts.proofs.Sights.{Sight, no_pair, handed_pair}
use Rattle.ig_blocks_parts.proofs.Heads.{IsSoundAt}
use Rattle.ig_blocks_parts.proofs.Sounding.{Info, symbols_sound}
use Rattle.ig_blocks_parts.proofs.Located.{made_alternative}
use Rattle.ig_pass.specs.EachLevel.{in_levels, in_alternative}
use Rattle.ig_blocks_parts.proofs.Rooting.{IsPrepared}
use Rattle.ig_blocks_parts.proofs.Readiness.{one_place, root_of, parameters_written}
use Rattle.ig_blocks_parts.proofs.Permitting.{apart, pair_at, levels_are}
use Rattle.ig_blocks_parts.proofs.Taking.{zip_back, kind_kept}

module _ (s : Setting) where
  unseen : (ps : List Param) (n : List ℕ) → AreWritten s ps → ((y : List ℕ) → IsWritten s y → y ≢ n) → find (parameters ps) n ≡ None
  unseen [] n w ne = refl
  unseen (p ∷ ps) n w ne =
      find_cons p.name p.kind (parameters ps) n ∙ if_false (is_word p.name n) (Some p.kind) (find (parameters ps) n) (differs p.name n (ne p.name w.0)) ∙ unseen ps n w.1 ne

  abbrev two : Visible
  two = (s.m, kind.Int) ∷ (s.f, kind.Int) ∷ []

  two_other : (n : List ℕ) → IsWritten s n → find two n ≡ None
  two_other n w =
      find_cons s.m kind.Int ((s.f, kind.Int) ∷ []) n ∙ if_false (is_word s.m n) _ _ (differs s.m n (λ e. w.not_m (sym e))) ∙
      find_cons s.f kind.Int [] n ∙ if_false (is_word s.f n) _ _ (differs s.f n (λ e. w.not_f (sym e)))

  two_first : find two s.m ≡ Some kind.Int
  two_first = find_cons s.m kind.Int ((s.f, kind.Int) ∷ []) s.m ∙ if_true (is_word s.m s.m) _ _ (same_word s.m s.m refl)

  two_second : s.m ≢ s.f → find two s.f ≡ Some kind.Int
  two_second ne =
      find_cons s.m kind.Int ((s.f, kind.Int) ∷ []) s.f ∙ if_false (is_word s.m s.f) _ _ (differs s.m s.f ne) ∙
      find_cons s.f kind.Int [] s.f ∙ if_true (is_word s.f s.f) _ _ (same_word s.f s.f refl)

  -- at the start of an alternative
  pub first_sight : AreApart s → (b : Bool) (ps : List Param) → AreWritten s ps →
      Sight s (pair_by b) (parameters ps) (parameters (ps ++ extra_by b (int_param s.m) (int_param s.f)))
  first_sight apart false ps w =
      subst (λ z. Sight s lacking (parameters ps) (parameters z)) (sym (append-nil ps)) (record { seen = record { same = λ n h. refl }; pair = no_pair })
  first_sight apart true ps w =
      let v = parameters ps in
      let there : Sight s carried v (v ++ two) =
      record {
        seen = record { same = λ n h. sym (find_join v two n ∙ ap (option_or (find v n)) (two_other n h) ∙ or_none (find v n)) };
        pair = handed_pair
            (find_join v two s.m ∙ ap (λ z. option_or z (find two s.m)) (unseen ps s.m w (λ y h. h.not_m)) ∙ two_first)
            (find_join v two s.f ∙ ap (λ z. option_or z (find two s.f)) (unseen ps s.f w (λ y h. h.not_f)) ∙ two_second apart.m_f);
      } in
      subst (λ z. Sight s carried v z) (sym (map-append (λ (p : Param). (p.name, p.kind)) ps (int_param s.m ∷ int_param s.f ∷ []))) there

module _ (ask : SymbolsAsk) (elsewhere : AsksElsewhere) (found : DeclarationsAreFound) (c : CheckedGrammar) (prepared : IsPrepared c) where
  abbrev g : Grammar
  g = c.grammar

  abbrev shapes : List Shape
  shapes = c.shapes

  abbrev s : Setting
  s = setting_of g.decls shapes

  abbrev lowered : List Decl
  lowered = lowered_declarations s shapes g.decls

  abbrev place : (n k : ℕ) (d e : Decl) → slice_get g.decls n ≡ Some d → slice_get g.decls k ≡ Some e → d.name ≡ e.name → n ≡ k
  place = one_place found g prepared.sound.scoped

  abbrev counted : length shapes ≡ length g.decls
  counted = prepared.sound.fit.counted

  abbrev Sound : Decl → Visible → Symbol → Type 0
  Sound d = IsSoundAt g shapes lowered d.kind

  good : (n : ℕ) (d : Decl) (a : Alt) → slice_get g.decls n ≡ Some d → Contains (alternatives d.levels) a →
      PlacedSymbols (IsGood g shapes d.kind) (gathered a.symbols) (parameters d.params)
  good n d a at m =
      placed_symbols (IsGood g shapes d.kind) (gathered a.symbols) (parameters d.params) (λ o h. one o h)
    where
      one : (o : Occurrence) → Contains (symbols_of d a) o → IsGood g shapes d.kind o.visible o.symbol
      one o h =
          let k = at_from_contains (alternatives d.levels) a m in
          let there = at_from_contains (symbols_of d a) o h in
          record {
            asks = ask.asks g.decls d.kind o.visible o.symbol (λ condition met.
                prepared.sound.scoped (record { decl = suc n; alt = suc k.0; symbol = suc there.0 }) condition (d, at, (a, k.1, (o, there.1, met))));
            uncalled = λ j root arguments e f. let r = root_of found c prepared j root e f in r.uncalled d a o arguments (contains_from_at g.decls n d at) m h;
          }

  info : (n : ℕ) (d : Decl) (level : Level) (a : Alt) → slice_get g.decls n ≡ Some d → Contains d.levels level → Contains level.alts a →
      All (Info elsewhere found g shapes counted place (apart g.decls shapes) d.kind) (subterms_of_symbols (gathered a.symbols))
  info n d level a at l m k e within =
      let here = contains_from_at g.decls n d at in
      let among = in_levels d.levels level a l m in
      let margin = in_alternative (LacksName margin_name) g prepared.margin.symbols d a here among in
      let first = in_alternative (LacksName first_name) g prepared.first.symbols d a here among in
      let column = in_alternative (LacksName column_name) g prepared.column.symbols d a here among in
      let well = in_alternative IsPlaced g prepared.sound.well d a here among in
      let entered = in_alternative IsEntered g prepared.sound.entered d a here among in
      ((margin k e within, first k e within, column k e within), well k e within, entered k e within)

  -- the parameters, and the pair
  pub sight_at : (n : ℕ) (shape : Shape) (d : Decl) → slice_get g.decls n ≡ Some d →
      Sight s (pair_at s shape d) (parameters d.params) (parameters (lowered_declaration s shape d).params)
  sight_at n shape d at = go (is_root shape)
    where
      written : AreWritten s d.params
      written = parameters_written found c prepared n d at

      go : (b : Bool) → Sight s (if b then lacking else pair_for s d.kind) (parameters d.params) (parameters (if b then root_by s d else declaration_by s d).params)
      go true = record { seen = record { same = λ n h. refl }; pair = no_pair }
      go false = first_sight s (apart g.decls shapes) (s.paired d.kind) d.params written

  -- the symbols of an alternative are sound
  pub alternative_sound : (n : ℕ) (shape : Shape) (d : Decl) (level : Level) (a : Alt) → slice_get g.decls n ≡ Some d → Contains d.levels level → Contains level.alts a →
      PlacedSymbols (Sound d) (gathered (alternative_by s (pair_at s shape d) a).symbols) (parameters (lowered_declaration s shape d).params)
  alternative_sound n shape d level a at l m =
      let r = symbols_sound elsewhere found g shapes counted place (apart g.decls shapes) d.kind (gathered a.symbols) (pair_at s shape d) (parameters d.params)
      (parameters (lowered_declaration s shape d).params) (sight_at n shape d at) (good n d a at (in_levels d.levels level a l m)) (info n d level a at l m) in
      subst (λ z. PlacedSymbols (Sound d) z (parameters (lowered_declaration s shape d).params)) (sym (gathered_by s (pair_at s shape d) a.symbols)) r.0

  -- so is each symbol of the lowered grammar
  pub sound_there : (n : ℕ) (other : Decl) (b : Alt) → slice_get lowered n ≡ Some other → Contains (alternatives other.levels) b →
      (o : Occurrence) → Contains (symbols_of other b) o → IsSoundAt g shapes lowered other.kind o.visible o.symbol
  sound_there n other b at m =
      let z = zip_back s shapes g.decls n other at in
      let p = pair_at s z.shape z.d in
      let r = made_alternative s p z.d.levels b
      (subst (λ ls. Contains (alternatives ls) b) (levels_are s z.shape z.d) (subst (λ (q : Decl). Contains (alternatives q.levels) b) (sym z.made) m)) in
      subst (λ (q : Decl). (o : Occurrence) → Contains (symbols_of q b) o → IsSoundAt g shapes lowered q.kind o.visible o.symbol) z.made
      (subst (λ k. (o : Occurrence) → Contains (symbols_of (lowered_declaration s z.shape z.d) b) o → IsSoundAt g shapes lowered k o.visible o.symbol)
      (sym (kind_kept s z.shape z.d))
      (subst (λ a. (o : Occurrence) → Contains (symbols_of (lowered_declaration s z.shape z.d) a) o → Sound z.d o.visible o.symbol) r.4
      (of_placed_symbols (Sound z.d) (gathered (alternative_by s p r.1).symbols) (parameters (lowered_declaration s z.shape z.d).params)
      (alternative_sound n z.shape z.d r.0 r.1 z.has r.2 r.3))))
