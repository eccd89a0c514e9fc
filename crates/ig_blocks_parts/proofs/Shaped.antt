-- The shapes fit the lowered grammar.
use Rattle.std.proofs.Common.{◌≡◌, ◌≢◌, ◌∙◌, ℕ, suc, false, List, [], ◌∷◌, ◌++◌, map, length, Option, Some, None, refl, sym, ap, subst, arith}
use Rattle.std.specs.Prelude.{All, Contains, slice_get}
use Rattle.std.proofs.lemmas.List.{map-append, length-map}
use Rattle.std.proofs.lemmas.List.Elements.{All-nil, All-cons, All-head, All-tail}
use Rattle.ig_expr.specs.Expression.{Expression}
use Rattle.ig_grammar.specs.Checked.{CheckedGrammar, FitShapes, FitsShape, IsRoot, IsOfCalls, IsCall, MayHave, IsOneFreeLevel}
use Rattle.ig_grammar.specs.Condition.{symbols_of}
use Rattle.ig_grammar.specs.Numbering.{alternatives}
use Rattle.ig_grammar.specs.Symbol.{Symbol, Call, Seq, Symbols, no_symbols, next_symbol, gathered, listed}
use Rattle.ig_grammar.specs.Visible.{Occurrence}
use Rattle.ig_grammar.specs.declared.declaration.DeclKind.{DeclKind}
use Rattle.ig_grammar.specs.declared.declaration.DeclKind.TheVariants.{Syntax, Lexical, Layout, Plain}
use Rattle.ig_grammar.specs.declared.declaration.Decl.{Decl}
use Rattle.ig_grammar.specs.declared.declaration.Level.{Level}
use Rattle.ig_grammar.specs.declared.grammar.Grammar.{Grammar}
use Rattle.ig_grammar.specs.declared.place.Shape.{Shape}
use Rattle.ig_grammar.specs.declared.place.Shape.TheVariants as shape
use Rattle.ig_grammar.specs.declared.symbol.Alt.{Alt}
use Rattle.ig_pass.specs.Asked.{SymbolsAsk, AsksElsewhere}
use Rattle.ig_pass.specs.Found.{DeclarationsAreFound}
use Rattle.ig_blocks_parts.specs.Setting.{Setting, Pair, lacking, wrapped}
use Rattle.ig_blocks_parts.specs.Body.{call_tests, tests_of, body_of, sequence_of}
use Rattle.ig_blocks_parts.specs.Blocks.{setting_of, symbols_by, alternative_by, level_by, lowered_declaration, lowered_declarations, lowered_grammar}
use Rattle.ig_blocks_parts.proofs.Located.{made_alternative}
use Rattle.ig_pass.specs.EachLevel.{in_levels}
use Rattle.ig_text.proofs.Lists.{at_from_contains}
use Rattle.ig_grammar.specs.Gathered.{listed_gathered}
use Rattle.ig_blocks_parts.proofs.Rooting.{IsPrepared}
use Rattle.ig_blocks_parts.proofs.Readiness.{root_of}
use Rattle.ig_blocks_parts.proofs.Taking.{zip_back}
use Rattle.ig_blocks_parts.proofs.Permitting.{pair_at, levels_are}
use Rattle.ig_blocks_parts.proofs.Whole.{sound_there}

pub length_lowered : (s : Setting) (shapes : List Shape) (ds : List Decl) → length shapes ≡ length ds → length (lowered_declarations s shapes ds) ≡ length ds
length_lowered s [] [] e = refl
length_lowered s [] (d ∷ ds) e = absurd (omega (arith, e))
length_lowered s (x ∷ shapes) [] e = refl
length_lowered s (x ∷ shapes) (d ∷ ds) e = ap suc (length_lowered s shapes ds (omega (arith, e)))

alternatives_mapped : (s : Setting) (p : Pair) (levels : List Level) → alternatives (map (level_by s p) levels) ≡ map (alternative_by s p) (alternatives levels)
alternatives_mapped s p [] = refl
alternatives_mapped s p (level ∷ levels) =
    ap (λ z. map (alternative_by s p) level.alts ++ z) (alternatives_mapped s p levels) ∙ sym (map-append (alternative_by s p) level.alts (alternatives levels))

one_free : (s : Setting) (p : Pair) (levels : List Level) → IsOneFreeLevel levels → IsOneFreeLevel (map (level_by s p) levels)
one_free s p [] f = f
one_free s p (level ∷ []) f = f
one_free s p (level ∷ next ∷ others) f = f

module _ (s : Setting) where
  -- a call without a pair stays a call
  no_tests : (kind : Option DeclKind) → call_tests s lacking kind ≡ []
  no_tests (Some Lexical) = refl
  no_tests (Some Syntax) = refl
  no_tests (Some Layout) = refl
  no_tests (Some Plain) = refl
  no_tests None = refl

  abbrev written : Symbol → Symbol
  written x = wrapped (tests_of s lacking x) (body_of s false lacking x)

  pub call_kept : (x : Symbol) → IsCall x → IsCall (written x)
  call_kept (Call name arguments) h = subst (λ gs. IsCall (wrapped gs (body_of s false lacking (Call name arguments)))) (sym (no_tests (s.kind_of name))) tt
  call_kept x h = absurd h

  each_kept : (P : Symbol → Type 0) → ((x : Symbol) → P x → P (written x)) → (xs : Symbols) → All P (listed xs) → All P (listed (sequence_of s lacking xs))
  each_kept P f no_symbols all = All-nil P
  each_kept P f (next_symbol x xs) all =
      All-cons P (written x) (listed (sequence_of s lacking xs)) (f x (All-head P x (listed xs) all)) (each_kept P f xs (All-tail P x (listed xs) all))

  calls_kept : (x : Symbol) → IsOfCalls x → IsOfCalls (written x)
  calls_kept (Call name arguments) h = subst (λ gs. IsOfCalls (wrapped gs (body_of s false lacking (Call name arguments)))) (sym (no_tests (s.kind_of name))) tt
  calls_kept (Seq xs) h = each_kept IsCall call_kept xs h
  calls_kept x h = absurd h

  pub all_kept : (P : Symbol → Type 0) → ((x : Symbol) → P x → P (written x)) → (xs : List Symbol) → All P xs → All P (symbols_by s lacking xs)
  all_kept P f xs all = each_kept P f (gathered xs) (subst (All P) (sym (listed_gathered xs)) all)

module _ (ask : SymbolsAsk) (elsewhere : AsksElsewhere) (found : DeclarationsAreFound) (c : CheckedGrammar) (prepared : IsPrepared c) where
  abbrev g : Grammar
  g = c.grammar

  abbrev shapes : List Shape
  shapes = c.shapes

  abbrev s : Setting
  s = setting_of g.decls shapes

  abbrev h : Grammar
  h = lowered_grammar g shapes

  -- the root's alternatives, before and behind
  pub root_alternatives : (P : Symbol → Type 0) → ((x : Symbol) → P x → P (wrapped (tests_of s lacking x) (body_of s false lacking x))) → (d : Decl) →
      ((a : Alt) → Contains (alternatives d.levels) a → All P a.symbols) → (a : Alt) → Contains (alternatives (lowered_declaration s shape.Root d).levels) a → All P a.symbols
  root_alternatives P f d each a m =
      let r = made_alternative s lacking d.levels a m in
      subst (λ (z : Alt). All P z.symbols) r.4 (all_kept s P f r.1.symbols (each r.1 (in_levels d.levels r.0 r.1 r.2 r.3)))

  uncalled : (n : ℕ) (root : Decl) → slice_get g.decls n ≡ Some root → slice_get shapes n ≡ Some shape.Root → (other : Decl) (a : Alt) (o : Occurrence) (arguments : List Expression) →
      Contains h.decls other → Contains (alternatives other.levels) a → Contains (symbols_of other a) o → o.symbol ≢ Call root.name arguments
  uncalled n root at shaped other a o arguments among has occurs =
      let k = at_from_contains h.decls other among in
      let sound = sound_there ask elsewhere found c prepared k.0 other a k.1 has o occurs in sound.uncalled n root arguments at shaped

  root_kept : (n : ℕ) (d : Decl) → slice_get g.decls n ≡ Some d → slice_get shapes n ≡ Some shape.Root → IsRoot h shapes n (lowered_declaration s shape.Root d)
  root_kept n d at shaped =
      let root = root_of found c prepared n d at shaped in
      record {
        start = root.start;
        no_layout = root.no_layout;
        after_rules = root.after_rules;
        uncalled = λ other a o arguments among has occurs. uncalled n d at shaped other a o arguments among has occurs;
        calls = root_alternatives IsOfCalls (calls_kept s) d root.calls;
      }

  each : (before : ℕ) (other : Decl) (sh : Shape) → slice_get h.decls before ≡ Some other → slice_get shapes before ≡ Some sh → FitsShape h shapes before other sh
  each before other sh e f =
      let z = zip_back s shapes g.decls before other e in
      let both : Some z.shape ≡ Some sh = sym z.shaped ∙ f in
      let same : z.shape ≡ sh = cc in
      let q = prepared.sound.fit.each before z.d sh z.has f in
      let levels : (lowered_declaration s sh z.d).levels ≡ map (level_by s (pair_at s sh z.d)) z.d.levels = levels_are s sh z.d in
      let counted : length (alternatives (lowered_declaration s sh z.d).levels) ≡ length (alternatives z.d.levels) =
      ap (λ ls. length (alternatives ls)) levels ∙ ap length (alternatives_mapped s (pair_at s sh z.d) z.d.levels) ∙ length-map (alternatives z.d.levels) (alternative_by s (pair_at s sh z.d)) in
      subst (λ o. FitsShape h shapes before o sh) (ap (λ k. lowered_declaration s k z.d) (sym same) ∙ z.made)
      (record {
        count = subst (MayHave sh) (sym counted) q.count;
        level = λ n. subst IsOneFreeLevel (sym levels) (one_free s (pair_at s sh z.d) z.d.levels (q.level n));
        root = λ t. subst (λ k. IsRoot h shapes before (lowered_declaration s k z.d)) (sym t) (root_kept before z.d z.has (f ∙ ap Some t));
      })

  pub lowered_fits : FitShapes h shapes
  lowered_fits = record { counted = prepared.sound.fit.counted ∙ sym (length_lowered s shapes g.decls prepared.sound.fit.counted); each = each }

  pub lowered_root_calls : (before : ℕ) (other : Decl) (a : Alt) → slice_get h.decls before ≡ Some other → slice_get shapes before ≡ Some shape.Root → other.kind ≡ Syntax →
      Contains (alternatives other.levels) a → All IsCall a.symbols
  lowered_root_calls before other a e f kind m =
      let z = zip_back s shapes g.decls before other e in
      let both : Some z.shape ≡ Some shape.Root = sym z.shaped ∙ f in
      let same : z.shape ≡ shape.Root = cc in
      let made : lowered_declaration s shape.Root z.d ≡ other = ap (λ k. lowered_declaration s k z.d) (sym same) ∙ z.made in
      root_alternatives IsCall (call_kept s) z.d (λ b n. prepared.sound.root_calls before z.d b z.has f (ap (λ (q : Decl). q.kind) made ∙ kind) n) a
      (subst (λ (q : Decl). Contains (alternatives q.levels) a) (sym made) m)
