-- The shapes of what is lowered fit it.
use Rattle.std.proofs.Common.{◌≡◌, ◌∙◌, ℕ, suc, ◌+◌, ◌<◌, ◌⊎◌, inl, inr, Bool, true, false, List, [], ◌∷◌, ◌++◌, map}
use Rattle.std.proofs.Common.{length, Some, refl, sym, ap, subst, arith, length-append}
use Rattle.std.specs.Prelude.{◌≢◌, All, Contains, slice_get, if◌then◌else◌}
use Rattle.std.proofs.lemmas.Option.{same_Some, slice_get_within}
use Rattle.std.proofs.lemmas.List.{length-map, map-append}
use Rattle.std.proofs.lemmas.List.Elements.{All-append, All-nil, All-cons, All-head, All-tail}
use Rattle.ig_expr.specs.Expression.{Expression}
use Rattle.ig_text.proofs.Lists.{at_from_contains, contains_from_at, mapped_at, either_place, from_map}
use Rattle.ig_grammar.specs.Names.{names}
use Rattle.ig_grammar.specs.Checked.{CheckedGrammar, FitShapes, FitsShape, IsRoot, IsCall, IsOfCalls, IsOneFreeLevel}
use Rattle.ig_grammar.specs.Checked.{MayHave}
use Rattle.ig_grammar.specs.Condition.{symbols_of}
use Rattle.ig_grammar.specs.Numbering.{alternatives}
use Rattle.ig_grammar.specs.Symbol.{Symbol, Literal, OneOf, Call, Label, Guard, Let, Opt, Star, Plus, SepStar}
use Rattle.ig_grammar.specs.Symbol.{SepPlus, Group, Offside, Ignore, Align}
use Rattle.ig_grammar.specs.Symbol.{Filtered, Seq, Entry, Symbols, no_symbols, next_symbol, gathered, listed}
use Rattle.ig_grammar.specs.Visible.{Visible, Occurrence, binds, parameters}
use Rattle.ig_grammar.specs.declared.symbol.Alt.{Alt}
use Rattle.ig_grammar.specs.declared.declaration.Level.{Level}
use Rattle.ig_grammar.specs.declared.declaration.Decl.{Decl}
use Rattle.ig_grammar.specs.declared.grammar.Grammar.{Grammar}
use Rattle.ig_grammar.specs.declared.place.Shape.{Shape}
use Rattle.ig_grammar.specs.declared.place.Shape.TheVariants.{Rule}
use Rattle.ig_pass.specs.Added.{HasNoSign, IsFresh, added_name, root_name}
use Rattle.ig_pass.specs.Rooted.{has_root, is_root}
use Rattle.ig_ebnf_variables.specs.Lists.{Made, count, elements, all_elements, new_declaration, new_element, new_levels}
use Rattle.ig_ebnf_variables.specs.Lists.{new_alts, new_symbols, new, added_symbols, added_by}
use Rattle.ig_ebnf_variables.specs.Lists.{count_alts, count_symbols, all_added, decls_of, forms_of, lowered}
use Rattle.ig_ebnf_variables.proofs.Definitions.{MayBeLowered, SymbolsProper}
use Rattle.ig_ebnf_variables.proofs.AddedNames.{IsPlainly, all_plain, title_at}
use Rattle.ig_ebnf_variables.proofs.LoweredGrammar.{present}
use Rattle.ig_ebnf_variables.proofs.Premises.{Given, may_be_lowered, calm_alternative, clear_alternative}
use Rattle.ig_ebnf_variables.proofs.Occurrences.{Calm, of_all, of_at}
use Rattle.ig_ebnf_variables.proofs.ProperSymbols.{symbols_proper}
use Rattle.ig_ebnf_variables.proofs.OfAdded.{OfAdded, of_added_at, by_levels, by_declarations}
use Rattle.ig_ebnf_variables.proofs.Remaining.{AllRemain, MadeRemains, levels_remain_at, news_remain, symbols_remain}
use Rattle.ig_ebnf_variables.proofs.Calls.{MayCall, all_calls}
use Rattle.ig_ebnf_variables.proofs.LoweredScoped.{lowered_from, added_at, added_plainly}

-- as many alternatives as before
alts_counted : (of : List ℕ) (v : Visible) (alts : List Alt) (k : ℕ) → length (new_alts of v k alts) ≡ length alts
alts_counted of v [] k = refl
alts_counted of v (a ∷ alts) k = ap suc (alts_counted of v alts (k + count_symbols (gathered a.symbols)))

levels_counted : (of : List ℕ) (v : Visible) (levels : List Level) (k : ℕ) →
    length (alternatives (new_levels of v k levels)) ≡ length (alternatives levels)
levels_counted of v [] k = refl
levels_counted of v (level ∷ levels) k =
    length-append (new_alts of v k level.alts) (alternatives (new_levels of v (k + count_alts level.alts) levels)) ∙
    (λ z. alts_counted of v level.alts k z + levels_counted of v levels (k + count_alts level.alts) z) ∙
    sym (length-append level.alts (alternatives levels))

one_free : (of : List ℕ) (v : Visible) (levels : List Level) → IsOneFreeLevel levels →
    IsOneFreeLevel (new_levels of v 1 levels)
one_free of v [] h = h
one_free of v (level ∷ []) h = h
one_free of v (level ∷ next ∷ others) h = h

-- calls stay calls, and so do sequences of calls
call_of_calls : (x : Symbol) → IsCall x → IsOfCalls x
call_of_calls (Call m es) h = tt
call_of_calls (Literal w) h = absurd h
call_of_calls (OneOf w) h = absurd h
call_of_calls (Label m x) h = absurd h
call_of_calls (Guard e) h = absurd h
call_of_calls (Let m e) h = absurd h
call_of_calls (Opt x) h = absurd h
call_of_calls (Star x) h = absurd h
call_of_calls (Plus x) h = absurd h
call_of_calls (SepStar x s) h = absurd h
call_of_calls (SepPlus x s) h = absurd h
call_of_calls (Group ys) h = absurd h
call_of_calls (Offside x) h = absurd h
call_of_calls (Ignore x) h = absurd h
call_of_calls (Align x) h = absurd h
call_of_calls (Filtered x fs) h = absurd h
call_of_calls (Seq xs) h = absurd h
call_of_calls (Entry bs x) h = absurd h

module _ (of : List ℕ) where
  one_call : (x : Symbol) (v : Visible) (k : ℕ) → IsCall x → All IsOfCalls (new of v k x)
  one_call (Call m es) v k h = All-cons IsOfCalls (Call m es) [] tt (All-nil IsOfCalls)
  one_call (Literal w) v k h = absurd h
  one_call (OneOf w) v k h = absurd h
  one_call (Label m x) v k h = absurd h
  one_call (Guard e) v k h = absurd h
  one_call (Let m e) v k h = absurd h
  one_call (Opt x) v k h = absurd h
  one_call (Star x) v k h = absurd h
  one_call (Plus x) v k h = absurd h
  one_call (SepStar x s) v k h = absurd h
  one_call (SepPlus x s) v k h = absurd h
  one_call (Group ys) v k h = absurd h
  one_call (Offside x) v k h = absurd h
  one_call (Ignore x) v k h = absurd h
  one_call (Align x) v k h = absurd h
  one_call (Filtered x fs) v k h = absurd h
  one_call (Seq xs) v k h = absurd h
  one_call (Entry bs x) v k h = absurd h

  -- where each lowered symbol makes calls, all do
  by_symbols : (P : Symbol → Type 0) → ((x : Symbol) (v : Visible) (k : ℕ) → P x → All IsOfCalls (new of v k x)) →
      (xs : Symbols) (v : Visible) (k : ℕ) → All P (listed xs) → All IsOfCalls (new_symbols of v k xs)
  by_symbols P each no_symbols v k h = All-nil IsOfCalls
  by_symbols P each (next_symbol x xs) v k h =
      let u = v ++ binds v x in
      subst (All IsOfCalls) (sym (map-append (new_element of) (elements v k x) (all_elements u (k + count x) xs)))
      (All-append IsOfCalls (new of v k x) (new_symbols of u (k + count x) xs) (each x v k (All-head P x (listed xs) h))
      (by_symbols P each xs u (k + count x) (All-tail P x (listed xs) h)))

  of_calls : (x : Symbol) (v : Visible) (k : ℕ) → IsOfCalls x → All IsOfCalls (new of v k x)
  of_calls (Call m es) v k h = one_call (Call m es) v k tt
  of_calls (Seq xs) v k h = by_symbols IsCall one_call xs v k h
  of_calls (Literal w) v k h = absurd h
  of_calls (OneOf w) v k h = absurd h
  of_calls (Label m x) v k h = absurd h
  of_calls (Guard e) v k h = absurd h
  of_calls (Let m e) v k h = absurd h
  of_calls (Opt x) v k h = absurd h
  of_calls (Star x) v k h = absurd h
  of_calls (Plus x) v k h = absurd h
  of_calls (SepStar x s) v k h = absurd h
  of_calls (SepPlus x s) v k h = absurd h
  of_calls (Group ys) v k h = absurd h
  of_calls (Offside x) v k h = absurd h
  of_calls (Ignore x) v k h = absurd h
  of_calls (Align x) v k h = absurd h
  of_calls (Filtered x fs) v k h = absurd h
  of_calls (Entry bs x) v k h = absurd h

  listed_all : (xs : List Symbol) → All IsOfCalls xs → All IsOfCalls (listed (gathered xs))
  listed_all [] h = All-nil IsOfCalls
  listed_all (x ∷ xs) h =
      All-cons IsOfCalls x (listed (gathered xs)) (All-head IsOfCalls x xs h)
      (listed_all xs (All-tail IsOfCalls x xs h))

  pub calls_stay : (xs : List Symbol) (v : Visible) (k : ℕ) → All IsOfCalls xs →
      All IsOfCalls (new_symbols of v k (gathered xs))
  calls_stay xs v k h = by_symbols IsOfCalls of_calls (gathered xs) v k (listed_all xs h)

module _ (c : CheckedGrammar) (given : Given c) where
  abbrev g : Grammar
  g = c.grammar

  abbrev h : Grammar
  h = (lowered c).grammar

  abbrev shapes' : List Shape
  shapes' = (lowered c).shapes

  may : MayBeLowered g c.shapes
  may = may_be_lowered c given

  -- a declaration that was lowered
  pub record SourceAt (b : ℕ) (decl : Decl) : Type 0 where
    pub source : Decl
    pub there : slice_get g.decls b ≡ Some source
    pub same : decl ≡ new_declaration source

  pub either_decl : (b : ℕ) (decl : Decl) → slice_get h.decls b ≡ Some decl →
      SourceAt b decl ⊎
      ((m : ℕ) × (slice_get (decls_of (all_added g.decls)) m ≡ Some decl) × (b ≡ length g.decls + m))
  either_decl b decl e = go (either_place (map new_declaration g.decls) (decls_of (all_added g.decls)) b decl e)
    where
      go : (slice_get (map new_declaration g.decls) b ≡ Some decl) ⊎
          ((m : ℕ) × (slice_get (decls_of (all_added g.decls)) m ≡ Some decl) ×
          (b ≡ length (map new_declaration g.decls) + m)) →
          SourceAt b decl ⊎
          ((m : ℕ) × (slice_get (decls_of (all_added g.decls)) m ≡ Some decl) × (b ≡ length g.decls + m))
      go (inl f) = let from = from_map new_declaration g.decls b decl f in
          inl (record { source = from.0; there = from.1; same = from.2 })
      go (inr f) = inr (f.0, f.1, f.2 ∙ ap (λ z. z + f.0) (length-map g.decls new_declaration))

  -- which names are called in what is lowered, where calls in the source have such names
  module _ (May : List ℕ → Type 0) (added_may : (of : List ℕ) (k : ℕ) → May (added_name of k))
      (calls : (n : ℕ) (decl : Decl) (m : ℕ) (a : Alt) → slice_get g.decls n ≡ Some decl →
      slice_get (alternatives decl.levels) m ≡ Some a →
      (o : Occurrence) → Contains (symbols_of decl a) o → MayCall May o.visible o.symbol) where
    abbrev Known : Decl → Visible → Symbol → Type 0
    Known decl v x = Calm g decl.kind v x × MayCall May v x

    proper_source : (n : ℕ) (decl : Decl) (m : ℕ) (a : Alt) → slice_get g.decls n ≡ Some decl →
        slice_get (alternatives decl.levels) m ≡ Some a →
        SymbolsProper May (parameters decl.params) (gathered a.symbols)
    proper_source n decl m a e f =
        symbols_proper g decl.kind (Known decl) (λ v x known. known.0) May (λ v name es known. known.1 name es refl)
        (gathered a.symbols) (parameters decl.params)
        (of_all (Known decl) (symbols_of decl a) (λ s o at. (
          of_at (Calm g decl.kind) (symbols_of decl a) (calm_alternative c given n decl m a e f) s o at,
          calls n decl m a e f o (contains_from_at (symbols_of decl a) s o at),
        )))
        (clear_alternative c given n decl m a e f)

    source_remains : (n : ℕ) (decl : Decl) (m : ℕ) (lower : Alt) → slice_get g.decls n ≡ Some decl →
        slice_get (alternatives (new_declaration decl).levels) m ≡ Some lower → AllRemain May lower.symbols
    source_remains n decl m lower e f =
        let from = lowered_from c given n decl m lower e f in
        subst (AllRemain May) (sym from.same)
        (news_remain May decl.name (added_may decl.name) (gathered from.a.symbols) (parameters decl.params) from.k
        (proper_source n decl m from.a e from.there)
        (clear_alternative c given n decl m from.a e from.there))

    added_remain : OfAdded (MadeRemains May) (all_added g.decls)
    added_remain = by_declarations (MadeRemains May) g.decls each
      where
        by_alternative : (n : ℕ) (decl : Decl) → slice_get g.decls n ≡ Some decl → (m : ℕ) (a : Alt) →
            slice_get (alternatives decl.levels) m ≡ Some a → (k : ℕ) →
            OfAdded (MadeRemains May) (added_symbols decl.name (parameters decl.params) k (gathered a.symbols))
        by_alternative n decl e m a f k =
            symbols_remain May decl.name (added_may decl.name) (gathered a.symbols) (parameters decl.params) k
            (proper_source n decl m a e f)
            (clear_alternative c given n decl m a e f)

        each : (n : ℕ) (decl : Decl) → slice_get g.decls n ≡ Some decl → OfAdded (MadeRemains May) (added_by decl)
        each n decl e =
            by_levels (MadeRemains May) h shapes' decl.name (parameters decl.params) decl.levels (may.free n decl e)
            (λ m a f k d. by_alternative n decl e m a f k) (present g c.shapes may n decl e)

    pub all_remain : (decl : Decl) (a : Alt) → Contains h.decls decl → Contains (alternatives decl.levels) a →
        AllRemain May a.symbols
    all_remain decl a among has =
        let b = at_from_contains h.decls decl among in
        let m = at_from_contains (alternatives decl.levels) a has in
        go b.0 m.0 m.1 (either_decl b.0 decl b.1)
      where
        go : (b m : ℕ) → slice_get (alternatives decl.levels) m ≡ Some a →
            SourceAt b decl ⊎
            ((k : ℕ) × (slice_get (decls_of (all_added g.decls)) k ≡ Some decl) × (b ≡ length g.decls + k)) →
            AllRemain May a.symbols
        go b m e (inl at) =
            source_remains b at.source m a at.there
            (subst (λ (z : Decl). slice_get (alternatives z.levels) m ≡ Some a) at.same e)
        go b m e (inr f) =
            let at = added_at c given f.0 decl f.1 in
            levels_remain_at May at.made.decl.levels (added_plainly c given decl at).free
            (of_added_at (MadeRemains May) (all_added g.decls) added_remain at.place at.made at.there) m a
            (subst (λ (z : Decl). slice_get (alternatives z.levels) m ≡ Some a) at.same e)

  pub record FormAt (b : ℕ) (form : Shape) : Type 0 where
    pub place : ℕ
    pub made : Made
    pub there : slice_get (all_added g.decls) place ≡ Some made
    pub same : form ≡ made.shape
    pub behind : b ≡ length g.decls + place

  pub either_shape : (b : ℕ) (form : Shape) → slice_get shapes' b ≡ Some form → (slice_get c.shapes b ≡ Some form) ⊎
      FormAt b form
  either_shape b form e = go (either_place c.shapes (forms_of (all_added g.decls)) b form e)
    where
      go : (slice_get c.shapes b ≡ Some form) ⊎
          ((m : ℕ) × (slice_get (forms_of (all_added g.decls)) m ≡ Some form) × (b ≡ length c.shapes + m)) →
          (slice_get c.shapes b ≡ Some form) ⊎ FormAt b form
      go (inl f) = inl f
      go (inr f) =
          let from = from_map (λ (x : Made). x.shape) (all_added g.decls) f.0 form f.1 in
          inr
          (record {
            place = f.0;
            made = from.0;
            there = from.1;
            same = from.2;
            behind = f.2 ∙
                ap (λ z. z + f.0) may.lengths;
          })

  pub form_plainly : (b : ℕ) (form : Shape) (at : FormAt b form) → IsPlainly at.made
  form_plainly b form at = of_added_at IsPlainly (all_added g.decls) (all_plain g.decls) at.place at.made at.there

  -- the root stays the root
  module _ (before : ℕ) (decl : Decl) (e : slice_get g.decls before ≡ Some decl)
      (root : IsRoot g c.shapes before decl) where
    unsigned : HasNoSign decl.name
    unsigned = given.sound.unsigned decl (contains_from_at g.decls before decl e)

    abbrev NotRoot : List ℕ → Type 0
    NotRoot name = name ≢ decl.name

    uncalled : (other : Decl) (a : Alt) (o : Occurrence) (arguments : List Expression) → Contains h.decls other →
        Contains (alternatives other.levels) a →
        Contains (symbols_of other a) o → o.symbol ≢ Call decl.name arguments
    uncalled other a o arguments among has occurs same =
        let remain = all_remain NotRoot (λ of k same. given.new.signed decl.name of k unsigned (sym same))
        (λ n source m x p q occurrence inside name es is is_root.
        root.uncalled source x occurrence es (contains_from_at g.decls n source p)
        (contains_from_at (alternatives source.levels) m x q) inside
        (is ∙ ap (λ z. Call z es) is_root)) other a among has in
        let at = at_from_contains (symbols_of other a) o occurs in
        of_at (MayCall NotRoot) (symbols_of other a) (all_calls NotRoot a.symbols (parameters other.params) remain)
        at.0 o at.1 decl.name arguments same refl

    calls : (a : Alt) → Contains (alternatives (new_declaration decl).levels) a → All IsOfCalls a.symbols
    calls a has =
        let m = at_from_contains (alternatives (new_declaration decl).levels) a has in
        let from = lowered_from c given before decl m.0 a e m.1 in
        subst (All IsOfCalls) (sym from.same)
        (calls_stay decl.name from.a.symbols (parameters decl.params) from.k
        (root.calls from.a (contains_from_at (alternatives decl.levels) m.0 from.a from.there)))

    after_rules : (k : ℕ) → slice_get shapes' k ≡ Some Rule → k < before
    after_rules k f = go (either_shape k Rule f)
      where
        go : (slice_get c.shapes k ≡ Some Rule) ⊎ FormAt k Rule → k < before
        go (inl p) = root.after_rules k p
        go (inr at) = absurd ((form_plainly k Rule at).no_rule (sym at.same))

    root_stays : IsRoot h shapes' before (new_declaration decl)
    root_stays =
        record {
          start = root.start;
          no_layout = root.no_layout;
          after_rules = after_rules;
          uncalled = uncalled;
          calls = calls;
        }

  source_fits : (b : ℕ) (decl : Decl) (form : Shape) → slice_get g.decls b ≡ Some decl →
      slice_get c.shapes b ≡ Some form → FitsShape h shapes' b (new_declaration decl) form
  source_fits b decl form e f =
      let q = given.sound.fit.each b decl form e f in
      record {
        count = subst (MayHave form) (sym (levels_counted decl.name (parameters decl.params) decl.levels 1)) q.count;
        level = λ n. one_free decl.name (parameters decl.params) decl.levels (q.level n);
        root = λ t. root_stays b decl e (q.root t);
      }

  within_source : (b : ℕ) (form : Shape) → slice_get c.shapes b ≡ Some form → b < length g.decls
  within_source b form f = subst (λ z. b < z) may.lengths (slice_get_within c.shapes b form f)

  each : (b : ℕ) (decl : Decl) (form : Shape) → slice_get h.decls b ≡ Some decl → slice_get shapes' b ≡ Some form →
      FitsShape h shapes' b decl form
  each b decl form e f = go (either_decl b decl e) (either_shape b form f)
    where
      go : SourceAt b decl ⊎
          ((m : ℕ) × (slice_get (decls_of (all_added g.decls)) m ≡ Some decl) × (b ≡ length g.decls + m)) →
          (slice_get c.shapes b ≡ Some form) ⊎ FormAt b form → FitsShape h shapes' b decl form
      go (inl at) (inl p) =
          subst (λ z. FitsShape h shapes' b z form) (sym at.same) (source_fits b at.source form at.there p)
      go (inl at) (inr p) =
          let within = slice_get_within g.decls b at.source at.there in let behind = p.behind in
          absurd (omega (arith, within, behind))
      go (inr m) (inl p) = let within = within_source b form p in let behind = m.2 in
          absurd (omega (arith, within, behind))
      go (inr m) (inr p) =
          let at = from_map (λ (x : Made). x.decl) (all_added g.decls) m.0 decl m.1 in
          let behind = m.2 in
          let behind_too = p.behind in
          let place : m.0 ≡ p.place = omega (arith, behind, behind_too) in
          let made : at.0 ≡ p.made =
          same_Some at.0 p.made (sym at.1 ∙ ap (slice_get (all_added g.decls)) place ∙ p.there) in
          let plain = form_plainly b form p in
          let is : decl ≡ p.made.decl = at.2 ∙ ap (λ (z : Made). z.decl) made in
          subst (λ z. FitsShape h shapes' b z form) (sym is)
          (subst (λ z. FitsShape h shapes' b p.made.decl z) (sym p.same)
          (record { count = plain.count; level = λ n. plain.level; root = λ t. absurd (plain.no_root t) }))

  pub lowered_fits : FitShapes h shapes'
  lowered_fits =
      record {
        counted = length-append c.shapes (forms_of (all_added g.decls)) ∙
            (λ z. may.lengths
            z + (length-map (all_added g.decls) (λ (x : Made). x.shape) ∙
            sym (length-map (all_added g.decls) (λ (x : Made). x.decl))) z) ∙
            ap (λ z. z + length (decls_of (all_added g.decls))) (sym (length-map g.decls new_declaration)) ∙
            sym (length-append (map new_declaration g.decls) (decls_of (all_added g.decls)));
        each = each;
      }

  -- where there is no root, its name is new
  no_root_before : (forms others : List Shape) → has_root (forms ++ others) ≡ false → has_root forms ≡ false
  no_root_before [] others e = refl
  no_root_before (form ∷ forms) others e = go (is_root form) e (no_root_before forms others)
    where
      go : (b : Bool) → (if b then true else has_root (forms ++ others)) ≡ false →
          (has_root (forms ++ others) ≡ false → has_root forms ≡ false) →
          (if b then true else has_root forms) ≡ false
      go true e below = e
      go false e below = below e

  pub root_is_fresh : has_root shapes' ≡ false → IsFresh h root_name
  root_is_fresh none among =
      let at = at_from_contains (names h.decls) root_name among in
      let decl = from_map (λ (z : Decl). z.name) h.decls at.0 root_name at.1 in
      go at.0 decl.0 decl.2 (either_decl at.0 decl.0 decl.1)
    where
      go : (b : ℕ) (decl : Decl) → root_name ≡ decl.name →
          SourceAt b decl ⊎
          ((m : ℕ) × (slice_get (decls_of (all_added g.decls)) m ≡ Some decl) × (b ≡ length g.decls + m)) → ⊥
      go b decl named (inl at) =
          let is : root_name ≡ at.source.name = named ∙ ap (λ (z : Decl). z.name) at.same in
          let there = given.sound.fresh (subst (Contains (names g.decls)) (sym is)
          (contains_from_at (names g.decls) b at.source.name
          (mapped_at (λ (z : Decl). z.name) g.decls b at.source at.there))) in
          let bad : true ≡ false = sym there ∙ no_root_before c.shapes (forms_of (all_added g.decls)) none in
          absurd (cc)
      go b decl named (inr m) =
          let at = added_at c given m.0 decl m.1 in
          let title =
          title_at g.decls may.few at.place at.made.decl.name
          (mapped_at (λ (x : Made). x.decl.name) (all_added g.decls) at.place at.made at.there) in
          given.new.signed root_name title.decl.name title.k given.new.root_unsigned
          (named ∙ ap (λ (z : Decl). z.name) at.same ∙ title.same)
