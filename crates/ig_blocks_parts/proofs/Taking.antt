-- What the pass makes of a grammar is what the relation on grammars says.
use Rattle.std.proofs.Common.{◌≡◌, ◌⊎◌, ◌<◌, ◌∙◌, ℕ, zero, suc, Bool, true, false, ◌&&◌, not, if◌then◌else◌, List, [], ◌∷◌, length, Some, refl, sym, ap, ap₂, subst, inl, inr, arith}
use Rattle.std.specs.Prelude.{slice_get}
use Rattle.std.specs.Cmp.Lexicographic.{bytes_decides}
use Rattle.std.proofs.lemmas.Option.{slice_get_within, same_Some}
use Rattle.std.proofs.Math.Nat.{suc_inj}
use Rattle.ig_text.specs.Words.{is_word}
use Rattle.ig_text.proofs.Lists.{get_within, mapped_at}
use Rattle.ig_grammar.specs.Symbol.{Symbol, gathered}
use Rattle.ig_grammar.specs.Numbering.{Levelled, by_level, Declares, HasShape, IsAlternative, layout_among, name_of_layout}
use Rattle.ig_meaning.specs.Permitted.{IsRootAlternative, written, declared}
use Rattle.ig_meaning.specs.Laws.{SpansAreInOrder}
use Rattle.ig_meaning.specs.Inversion.{DerivationsInvert}
use Rattle.ig_grammar.specs.Standing.{SymbolsStandWell}
use Rattle.ig_grammar.specs.declared.declaration.DeclKind.{DeclKind}
use Rattle.ig_grammar.specs.declared.declaration.DeclKind.TheVariants.{Syntax, Lexical, Layout, Plain}
use Rattle.ig_grammar.specs.declared.declaration.Decl.{Decl}
use Rattle.ig_grammar.specs.declared.grammar.Grammar.{Grammar}
use Rattle.ig_grammar.specs.declared.place.Shape.{Shape}
use Rattle.ig_grammar.specs.declared.place.Shape.TheVariants.{Root}
use Rattle.ig_grammar.specs.Gathered.{listed_gathered}
use Rattle.ig_blocks_parts.specs.Setting.{Setting, Pair, lacking, pair_for, pair_by}
use Rattle.ig_blocks_parts.proofs.Reading.{IsSteady}
use Rattle.ig_blocks_parts.proofs.Lowered.{Covered}
use Rattle.ig_blocks_parts.proofs.Fitting.{AreFit, Suits}
use Rattle.ig_blocks_parts.specs.Blocks.{is_marked, symbols_by, declaration_by}
use Rattle.ig_pass.specs.Rooted.{is_root}
use Rattle.ig_blocks_parts.specs.Blocks.{kind_called, setting_of, root_by, lowered_declaration, lowered_declarations, lowered_grammar}
use Rattle.ig_blocks_parts.proofs.Ready.{IsReady}
use Rattle.ig_blocks_parts.proofs.Takes.{Takes, IsRemade}
use Rattle.ig_blocks_parts.proofs.Takes.{TakesRoot}
use Rattle.ig_blocks_parts.proofs.Looking.{same_word, if_true, if_false}
use Rattle.ig_blocks_parts.proofs.Lowers.{lowers_sequence}
use Rattle.ig_blocks_parts.proofs.Forth.{pair_steady}
use Rattle.ig_blocks_parts.proofs.Remaking.{levelled_by, alternative_forth, alternative_back, layout_at}

pub zip_forth : (s : Setting) (shapes : List Shape) (ds : List Decl) (n : ℕ) (shape : Shape) (d : Decl) → slice_get shapes n ≡ Some shape →
    slice_get ds n ≡ Some d → slice_get (lowered_declarations s shapes ds) n ≡ Some (lowered_declaration s shape d)
zip_forth s [] ds n shape d a b = absurd (cc)
zip_forth s (x ∷ shapes) [] n shape d a b = absurd (cc)
zip_forth s (x ∷ shapes) (y ∷ ds) zero shape d a b =
    let e : x ≡ shape = cc in
    let f : y ≡ d = cc in
    ap Some (ap₂ (lowered_declaration s) e f)
zip_forth s (x ∷ shapes) (y ∷ ds) (suc n) shape d a b = zip_forth s shapes ds n shape d a b

pub record Zipped (s : Setting) (shapes : List Shape) (ds : List Decl) (n : ℕ) (other : Decl) : Type 0 where
  pub d : Decl
  pub shape : Shape
  pub has : slice_get ds n ≡ Some d
  pub shaped : slice_get shapes n ≡ Some shape
  pub made : lowered_declaration s shape d ≡ other

pub zip_back : (s : Setting) (shapes : List Shape) (ds : List Decl) (n : ℕ) (other : Decl) → slice_get (lowered_declarations s shapes ds) n ≡ Some other → Zipped s shapes ds n other
zip_back s [] ds n other e = absurd (cc)
zip_back s (x ∷ shapes) [] n other e = absurd (cc)
zip_back s (x ∷ shapes) (y ∷ ds) zero other e = record { d = y; shape = x; has = refl; shaped = refl; made = cc }
zip_back s (x ∷ shapes) (y ∷ ds) (suc n) other e =
    let r = zip_back s shapes ds n other e in record { d = r.d; shape = r.shape; has = r.has; shaped = r.shaped; made = r.made }

pub not_root : (s : Setting) (shape : Shape) (d : Decl) → is_root shape ≡ false → lowered_declaration s shape d ≡ declaration_by s d
not_root s shape d e = if_false (is_root shape) (root_by s d) (declaration_by s d) e

record Called (ds : List Decl) (shapes : List Shape) (name : List ℕ) (kind : DeclKind) : Type 0 where
  pub n : ℕ
  pub d : Decl
  pub shape : Shape
  pub has : slice_get ds n ≡ Some d
  pub shaped : slice_get shapes n ≡ Some shape
  pub plain : is_root shape ≡ false
  pub named : d.name ≡ name
  pub kinded : d.kind ≡ kind

both_true : (a b : Bool) → (a && not b) ≡ true → (a ≡ true) × (b ≡ false)
both_true true true e = absurd (cc)
both_true true false e = (refl, refl)
both_true false b e = absurd (cc)

called_at : (ds : List Decl) (shapes : List Shape) (name : List ℕ) (kind : DeclKind) → kind_called ds shapes name ≡ Some kind → Called ds shapes name kind
called_at [] shapes name kind e = absurd (cc)
called_at (d ∷ ds) [] name kind e = absurd (cc)
called_at (d ∷ ds) (shape ∷ shapes) name kind e = go (is_word d.name name && not (is_root shape)) refl (λ h. called_at ds shapes name kind h)
  where
    go : (b : Bool) → (is_word d.name name && not (is_root shape)) ≡ b → (kind_called ds shapes name ≡ Some kind → Called ds shapes name kind) →
        Called (d ∷ ds) (shape ∷ shapes) name kind
    go true t later =
        let found : Some d.kind ≡ Some kind = sym (if_true (is_word d.name name && not (is_root shape)) (Some d.kind) (kind_called ds shapes name) t) ∙ e in
        let w = both_true (is_word d.name name) (is_root shape) t in
        record { n = 0; d = d; shape = shape; has = refl; shaped = refl; plain = w.1; named = (bytes_decides d.name name).0 w.0; kinded = cc }
    go false t later =
        let r = later (sym (if_false (is_word d.name name && not (is_root shape)) (Some d.kind) (kind_called ds shapes name) t) ∙ e) in
        record { n = suc r.n; d = r.d; shape = r.shape; has = r.has; shaped = r.shaped; plain = r.plain; named = r.named; kinded = r.kinded }

-- the declaration of a name, where names differ and it doesn't stand for the root
pub called_from : (ds : List Decl) (shapes : List Shape) → ((n k : ℕ) (d e : Decl) → slice_get ds n ≡ Some d → slice_get ds k ≡ Some e → d.name ≡ e.name → n ≡ k) →
    (n : ℕ) (d : Decl) (shape : Shape) → slice_get ds n ≡ Some d → slice_get shapes n ≡ Some shape → is_root shape ≡ false → kind_called ds shapes d.name ≡ Some d.kind
called_from [] shapes same n d shape a b plain = absurd (cc)
called_from (x ∷ ds) [] same n d shape a b plain = absurd (cc)
called_from (x ∷ ds) (y ∷ shapes) same zero d shape a b plain =
    let e : x ≡ d = cc in
    let f : y ≡ shape = cc in
    let w : is_word x.name d.name ≡ true = same_word x.name d.name (ap (λ z. z.name) e) in
    let q : is_root y ≡ false = ap is_root f ∙ plain in
    let both : (is_word x.name d.name && not (is_root y)) ≡ true = ap₂ (λ u v. u && not v) w q in
    if_true (is_word x.name d.name && not (is_root y)) _ _ both ∙ ap (λ z. Some z.kind) e
called_from (x ∷ ds) (y ∷ shapes) same (suc n) d shape a b plain =
    go (is_word x.name d.name) refl (called_from ds shapes (λ p q d e u v w. suc_inj (same (suc p) (suc q) d e u v w)) n d shape a b plain)
  where
    go : (w : Bool) → is_word x.name d.name ≡ w → kind_called ds shapes d.name ≡ Some d.kind → kind_called (x ∷ ds) (y ∷ shapes) d.name ≡ Some d.kind
    go true t later = let e : 0 ≡ suc n = same 0 (suc n) x d refl a ((bytes_decides x.name d.name).0 t) in absurd (omega (arith, e))
    go false t later = if_false (is_word x.name d.name && not (is_root y)) _ _ (ap (λ z. z && not (is_root y)) t) ∙ later

pub kind_kept : (s : Setting) (shape : Shape) (d : Decl) → (lowered_declaration s shape d).kind ≡ d.kind
kind_kept s shape d = go (is_root shape)
  where
    go : (b : Bool) → (if b then root_by s d else declaration_by s d).kind ≡ d.kind
    go true = refl
    go false = refl

pub name_kept : (s : Setting) (shape : Shape) (d : Decl) → (lowered_declaration s shape d).name ≡ d.name
name_kept s shape d = go (is_root shape)
  where
    go : (b : Bool) → (if b then root_by s d else declaration_by s d).name ≡ d.name
    go true = refl
    go false = refl

pub layout_kept : (s : Setting) (shapes : List Shape) (ds : List Decl) → length shapes ≡ length ds → layout_among (lowered_declarations s shapes ds) ≡ layout_among ds
layout_kept s [] [] e = refl
layout_kept s [] (d ∷ ds) e = absurd (omega (arith, e))
layout_kept s (x ∷ shapes) [] e = refl
layout_kept s (x ∷ shapes) (d ∷ ds) e =
    ap₂ (λ k n. name_of_layout k n (layout_among (lowered_declarations s shapes ds))) (kind_kept s x d) (name_kept s x d) ∙
    ap (name_of_layout d.kind d.name) (layout_kept s shapes ds (omega (arith, e)))

pub root_or_not : (shape : Shape) → (shape ≡ Root) ⊎ (is_root shape ≡ false)
root_or_not Root = inl refl
root_or_not shape = inr refl

module _ (in_order : SpansAreInOrder) (inverts : DerivationsInvert) (g : Grammar) (shapes : List Shape) (ready : IsReady g shapes) where
  abbrev s : Setting
  s = setting_of g.decls shapes

  place : (n k : ℕ) (d e : Decl) → slice_get g.decls n ≡ Some d → slice_get g.decls k ≡ Some e → d.name ≡ e.name → n ≡ k
  place n k d e a b same = ready.distinct n k d.name (mapped_at (λ (z : Decl). z.name) g.decls n d a) (mapped_at (λ (z : Decl). z.name) g.decls k e b ∙ ap Some (sym same))

  suits : (c : DeclKind) → Suits s c (pair_for s c)
  suits Syntax = go (is_marked g.decls) refl
    where
      go : (b : Bool) → is_marked g.decls ≡ b → Suits s Syntax (pair_by (is_marked g.decls))
      go true e = inl (refl, e)
      go false e = inr (ap pair_by e)
  suits Lexical = inr refl
  suits Layout = inr refl
  suits Plain = inr refl

  covered_by : (c : DeclKind) (p : Pair) (xs : List Symbol) → Suits s c p → IsSteady p → SymbolsStandWell (gathered xs) → AreFit s c (gathered xs) →
      Covered s c p xs (symbols_by s p xs)
  covered_by c p xs h steady well fit =
      subst (λ z. Covered s c p z (symbols_by s p xs)) (listed_gathered xs) (lowers_sequence s c (gathered xs) p h steady well fit)

  remade : (n : ℕ) (d : Decl) (k : ℕ) (a : Levelled) → slice_get g.decls n ≡ Some d → IsAlternative d k a →
      IsRemade s d (declaration_by s d) a (levelled_by s (pair_for s d.kind) a)
  remade n d k a at alt =
      record {
        kind = refl;
        params = refl;
        written = ready.params n d at;
        symbols = covered_by d.kind (pair_for s d.kind) a.alternative.symbols (suits d.kind) (pair_steady (s.paired d.kind)) (ready.well n d k a at alt) (ready.fit n d k a at alt);
      }

  -- a called declaration doesn't stand for the root
  called_plain : (name : List ℕ) (kind : DeclKind) (n : ℕ) (d : Decl) (shape : Shape) → s.kind_of name ≡ Some kind → slice_get g.decls n ≡ Some d → d.name ≡ name →
      slice_get shapes n ≡ Some shape → (is_root shape ≡ false) × (d.kind ≡ kind)
  called_plain name kind n d shape known at named shaped =
      let r = called_at g.decls shapes name kind known in
      let same : r.n ≡ n = place r.n n r.d d r.has at (r.named ∙ sym named) in
      let one : Some r.shape ≡ Some shape = sym r.shaped ∙ ap (slice_get shapes) same ∙ shaped in
      let other : Some r.d ≡ Some d = sym r.has ∙ ap (slice_get g.decls) same ∙ at in
      let e : r.shape ≡ shape = cc in
      let f : r.d ≡ d = cc in
      (sym (ap is_root e) ∙ r.plain, sym (ap (λ z. z.kind) f) ∙ r.kinded)

  aligned_shape : (d n : ℕ) (shape : Shape) → d ≡ suc n → HasShape shapes d shape → slice_get shapes n ≡ Some shape
  aligned_shape d n shape e h = let same : n ≡ h.0 = omega (arith, e, h.1) in ap (slice_get shapes) same ∙ h.2

  abbrev Old : List ℕ → ℕ → ℕ → Decl → Shape → Levelled → Type 0
  Old name d k other shape b =
      (decl : Decl) × (a : Levelled) × Declares g shapes name d decl shape × IsAlternative decl k a × IsRemade s decl other a b

  olds : (name : List ℕ) (kind : DeclKind) (d k : ℕ) (other : Decl) (shape : Shape) (b : Levelled) → s.kind_of name ≡ Some kind →
      Declares (lowered_grammar g shapes) shapes name d other shape → IsAlternative other k b → Old name d k other shape b
  olds name kind d k other shape b known declares alt =
      let n = declares.numbered.0 in
      let z = zip_back s shapes g.decls n other declares.numbered.2 in
      let named : z.d.name ≡ name = sym (name_kept s z.shape z.d) ∙ ap (λ q. q.name) z.made ∙ declares.named in
      let w = called_plain name kind n z.d z.shape known z.has named z.shaped in
      let made : declaration_by s z.d ≡ other = sym (not_root s z.shape z.d w.0) ∙ z.made in
      let r = alternative_back s (pair_for s z.d.kind) z.d.levels alt.0 b (ap (λ q. slice_get (by_level q.levels) alt.0) made ∙ alt.2) in
      let numbered : IsAlternative z.d k r.0 = (alt.0, alt.1, r.1) in (
        z.d,
        r.0,
        record { numbered = (n, declares.numbered.1, z.has); shaped = declares.shaped; named = named },
        numbered,
        subst (λ q. IsRemade s z.d q r.0 b) made (subst (λ q. IsRemade s z.d (declaration_by s z.d) r.0 q) r.2 (remade n z.d k r.0 z.has numbered)),
      )

  abbrev New : List ℕ → ℕ → ℕ → Decl → Shape → Levelled → Type 0
  New name d k decl shape a =
      (other : Decl) × (b : Levelled) × Declares (lowered_grammar g shapes) shapes name d other shape × IsAlternative other k b × IsRemade s decl other a b

  news : (name : List ℕ) (kind : DeclKind) (d k : ℕ) (decl : Decl) (shape : Shape) (a : Levelled) → s.kind_of name ≡ Some kind →
      Declares g shapes name d decl shape → IsAlternative decl k a → New name d k decl shape a
  news name kind d k decl shape a known declares alt =
      let n = declares.numbered.0 in
      let shaped = aligned_shape d n shape declares.numbered.1 declares.shaped in
      let w = called_plain name kind n decl shape known declares.numbered.2 declares.named shaped in (
        declaration_by s decl,
        levelled_by s (pair_for s decl.kind) a,
        record {
          numbered = (n, declares.numbered.1, zip_forth s shapes g.decls n shape decl shaped declares.numbered.2 ∙ ap Some (not_root s shape decl w.0));
          shaped = declares.shaped;
          named = declares.named;
        },
        (alt.0, alt.1, alternative_forth s (pair_for s decl.kind) decl.levels alt.0 a alt.2),
        remade n decl k a declares.numbered.2 alt,
      )

  pub takes : Takes s g (lowered_grammar g shapes) shapes shapes
  takes = record {
    kinds = λ name kind d decl shape known declares.
        (called_plain name kind declares.numbered.0 decl shape known declares.numbered.2 declares.named (aligned_shape d declares.numbered.0 shape declares.numbered.1 declares.shaped)).1;
    forth = news;
    back = olds;
    layout = layout_kept s shapes g.decls ready.as_many;
    layout_kind = λ name e.
        let r = layout_at g.decls name e in
        let within : r.0 < length g.decls = slice_get_within g.decls r.0 r.1 r.2 in
        let sh = get_within shapes r.0 (omega (arith, within, ready.as_many)) in
        subst (λ z. kind_called g.decls shapes z ≡ Some Layout) r.3
        (called_from g.decls shapes place r.0 r.1 sh.0 r.2 sh.1 (plain_shape r.0 r.1 sh.0 r.2 r.4 sh.1 (root_or_not sh.0)) ∙ ap Some r.4);
    layout_unpaired = refl;
    lexical_unpaired = refl;
    in_order = in_order;
    inverts = inverts;
  }
    where
      plain_shape : (n : ℕ) (d : Decl) (shape : Shape) → slice_get g.decls n ≡ Some d → d.kind ≡ Layout → slice_get shapes n ≡ Some shape →
          (shape ≡ Root) ⊎ (is_root shape ≡ false) → is_root shape ≡ false
      plain_shape n d shape at kind shaped (inl e) = absurd (ready.layout_no_root n d at kind (shaped ∙ ap Some e))
      plain_shape n d shape at kind shaped (inr e) = e

  root_forth : (kind : DeclKind) (xs : List Symbol) → IsRootAlternative g shapes kind xs →
      (ys : List Symbol) × IsRootAlternative (lowered_grammar g shapes) shapes kind ys × Covered s kind lacking xs ys
  root_forth kind xs (written start symbols is no_root are) =
      let r = ready.rooted in
      absurd (no_root (suc r.1) r.2 (record { numbered = (r.1, refl, r.4); shaped = (r.1, refl, r.6); named = r.5 ∙ same_Some r.0 start (sym r.3 ∙ is) }))
  root_forth kind xs (declared start d decl a kind2 symbols is declares alt same are) =
      let n = declares.numbered.0 in
      let shaped = aligned_shape d n Root declares.numbered.1 declares.shaped in (
        symbols_by s lacking a.alternative.symbols,
        declared start d (root_by s decl) (levelled_by s lacking a) kind2 (symbols_by s lacking a.alternative.symbols) is
            (record { numbered = (n, declares.numbered.1, zip_forth s shapes g.decls n Root decl shaped declares.numbered.2); shaped = declares.shaped; named = declares.named })
            (alt.0, alt.1, alternative_forth s lacking decl.levels alt.0 a alt.2) same refl,
        subst (λ z. Covered s kind2 lacking z (symbols_by s lacking a.alternative.symbols)) (sym are)
            (subst (λ z. Covered s z lacking a.alternative.symbols (symbols_by s lacking a.alternative.symbols)) (sym same)
            (covered_by decl.kind lacking a.alternative.symbols (inr refl) tt (ready.well n decl 1 a declares.numbered.2 alt) (ready.fit n decl 1 a declares.numbered.2 alt))),
      )

  root_back : (kind : DeclKind) (ys : List Symbol) → IsRootAlternative (lowered_grammar g shapes) shapes kind ys →
      (xs : List Symbol) × IsRootAlternative g shapes kind xs × Covered s kind lacking xs ys
  root_back kind ys (written start symbols is no_root are) =
      let r = ready.rooted in
      absurd (no_root (suc r.1) (root_by s r.2)
      (record { numbered = (r.1, refl, zip_forth s shapes g.decls r.1 Root r.2 r.6 r.4); shaped = (r.1, refl, r.6); named = r.5 ∙ same_Some r.0 start (sym r.3 ∙ is) }))
  root_back kind ys (declared start d other b kind2 symbols is declares alt same are) =
      let n = declares.numbered.0 in
      let shaped = aligned_shape d n Root declares.numbered.1 declares.shaped in
      let z = zip_back s shapes g.decls n other declares.numbered.2 in
      let both : Some z.shape ≡ Some Root = sym z.shaped ∙ shaped in
      let root : z.shape ≡ Root = cc in
      let made : root_by s z.d ≡ other = sym (ap (λ q. lowered_declaration s q z.d) root) ∙ z.made in
      let r = alternative_back s lacking z.d.levels alt.0 b (ap (λ q. slice_get (by_level q.levels) alt.0) made ∙ alt.2) in
      let a = r.0 in
      let numbered : IsAlternative z.d 1 a = (alt.0, alt.1, r.1) in
      let kind_is : kind2 ≡ z.d.kind = same ∙ sym (ap (λ q. q.kind) made) in (
        a.alternative.symbols,
        declared start d z.d a kind2 a.alternative.symbols is
            (record { numbered = (n, declares.numbered.1, z.has); shaped = declares.shaped; named = ap (λ q. q.name) made ∙ declares.named }) numbered kind_is refl,
        subst (λ q. Covered s kind2 lacking a.alternative.symbols q) (ap (λ q. q.alternative.symbols) r.2 ∙ sym are)
            (subst (λ q. Covered s q lacking a.alternative.symbols (symbols_by s lacking a.alternative.symbols)) (sym kind_is)
            (covered_by z.d.kind lacking a.alternative.symbols (inr refl) tt (ready.well n z.d 1 a z.has numbered) (ready.fit n z.d 1 a z.has numbered))),
      )

  pub takes_root : TakesRoot s g (lowered_grammar g shapes) shapes shapes
  takes_root = record { forth = root_forth; back = root_back }
