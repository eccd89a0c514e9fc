-- A sound grammar may be lowered.
use Rattle.std.proofs.Common.{◌≡◌, ℕ, zero, suc, List, [], ◌∷◌, Option, Some, None, refl, sym}
use Rattle.std.proofs.Common.{◌∙◌, ap, subst, arith}
use Rattle.std.specs.Prelude.{Contains, All, slice_get}
use Rattle.std.proofs.lemmas.List.{append-nil}
use Rattle.std.proofs.lemmas.Option.{same_Some}
use Rattle.ig_text.proofs.Lists.{contains_from_at, mapped_at}
use Rattle.ig_grammar.specs.Symbol.{gathered}
use Rattle.ig_grammar.specs.Alternative.{gathered_alternatives}
use Rattle.ig_grammar.specs.Subterms.{subterms_of_alternatives}
use Rattle.ig_grammar.specs.Visible.{inside_sequence, parameters}
use Rattle.ig_grammar.specs.Condition.{symbols_of, declaration_of}
use Rattle.ig_grammar.specs.Condition as condition
use Rattle.ig_grammar.specs.Names.{AreDistinct, names}
use Rattle.ig_grammar.specs.Numbering.{Levelled, IsDeclaration, HasShape, by_level, alternatives, layout_among}
use Rattle.ig_grammar.specs.Checked.{CheckedGrammar}
use Rattle.ig_grammar.specs.declared.symbol.Alt.{Alt}
use Rattle.ig_grammar.specs.declared.declaration.Assoc.{Assoc}
use Rattle.ig_grammar.specs.declared.declaration.Level.{Level}
use Rattle.ig_grammar.specs.declared.declaration.Param.{Param}
use Rattle.ig_grammar.specs.declared.declaration.Decl.{Decl}
use Rattle.ig_grammar.specs.declared.grammar.Grammar.{Grammar}
use Rattle.ig_grammar.specs.declared.place.Shape.{Shape}
use Rattle.ig_grammar.specs.declared.place.Shape.TheVariants.{Root}
use Rattle.ig_meaning.specs.Laws.{HasNoOperators}
use Rattle.ig_pass.specs.Asked.{SymbolsAsk, AsksElsewhere}
use Rattle.ig_pass.specs.Passing.{ResultsAreReady}
use Rattle.ig_pass.specs.Found.{DeclarationsAreFound}
use Rattle.ig_pass.specs.Added.{AddedNamesAreNew, HasNoSign}
use Rattle.ig_pass.specs.Sound.{IsSound, IsFree, IsUnmarked, HasExclusionsAlone}
use Rattle.ig_ebnf_variables.specs.Lists.{Made, HasFewLists, count_levels, all_added}
use Rattle.ig_ebnf_variables.proofs.Definitions.{IsOld, MayBeLowered, Small, SymbolsProper}
use Rattle.ig_ebnf_variables.proofs.AddedNames.{title_at}
use Rattle.ig_ebnf_variables.proofs.Occurrences.{Calm, AllCalm, of_all}
use Rattle.ig_ebnf_variables.proofs.ClearSymbols.{IsFit, SymbolsClear, clear_at}
use Rattle.ig_ebnf_variables.proofs.ProperSymbols.{symbols_proper}

-- where no declaration has operators, each alternative is one of the only level
alternative_in : (assoc : Assoc) (alts : List Alt) (m : ℕ) (a : Levelled) →
    slice_get (by_level (record { assoc = assoc; alts = alts } ∷ [])) m ≡ Some a →
    slice_get alts m ≡ Some a.alternative
alternative_in assoc [] m a e = absurd (cc)
alternative_in assoc (x ∷ alts) zero a e =
    let first : Levelled = record { alternative = x; level = 1; assoc = assoc } in
    ap (λ (z : Levelled). Some z.alternative) (same_Some first a e)
alternative_in assoc (x ∷ alts) (suc m) a e = alternative_in assoc alts m a e

pub alternative_there : (levels : List Level) → HasNoOperators levels → (m : ℕ) (a : Levelled) →
    slice_get (by_level levels) m ≡ Some a →
    slice_get (alternatives levels) m ≡ Some a.alternative
alternative_there [] free m a e = absurd (cc)
alternative_there (level ∷ []) free m a e = ap (λ z. slice_get z m) (append-nil level.alts) ∙
    alternative_in level.assoc level.alts m a e
alternative_there (level ∷ next ∷ others) free m a e = absurd free

clear_there : (levels : List Level) → HasNoOperators levels →
    ((level : Level) → Contains levels level →
    All IsFit (subterms_of_alternatives (gathered_alternatives level.alts))) →
    (m : ℕ) (a : Alt) → slice_get (alternatives levels) m ≡ Some a → SymbolsClear (gathered a.symbols)
clear_there [] free each m a e = absurd (cc)
clear_there (level ∷ []) free each m a e =
    clear_at level.alts m a (each level (0, omega arith, refl))
    (ap (λ z. slice_get z m) (sym (append-nil level.alts)) ∙ e)
clear_there (level ∷ next ∷ others) free each m a e = absurd free

-- the laws and premises
pub record Given (c : CheckedGrammar) : Type 0 where
  pub new : AddedNamesAreNew
  pub ask : SymbolsAsk
  pub elsewhere : AsksElsewhere
  pub passes : ResultsAreReady
  pub found : DeclarationsAreFound
  pub sound : IsSound c
  pub free : IsFree c.grammar
  pub unmarked : IsUnmarked c.grammar
  pub no_layout : layout_among c.grammar.decls ≡ None
  pub excluding : HasExclusionsAlone c.grammar
  pub few : HasFewLists c.grammar

module _ (c : CheckedGrammar) (given : Given c) where
  abbrev g : Grammar
  g = c.grammar

  pub distinct_names : AreDistinct (names g.decls)
  distinct_names = given.found.distinct g given.sound.scoped

  small : (n : ℕ) (decl : Decl) → slice_get g.decls n ≡ Some decl → Small (count_levels decl.levels)
  small n decl e k within = let below = given.few decl (contains_from_at g.decls n decl e) in
      omega (arith, below, within)

  pub old_of : (name : List ℕ) → HasNoSign name → IsOld g name
  old_of name unsigned =
      record {
        not_added = λ n x e same.
            let at =
            title_at g.decls small n x.decl.name
            (mapped_at (λ (m : Made). m.decl.name) (all_added g.decls) n x e) in
            given.new.signed name at.decl.name at.k unsigned (sym same ∙ at.same);
      }

  old : (n : ℕ) (decl : Decl) → slice_get g.decls n ≡ Some decl → IsOld g decl.name
  old n decl e = old_of decl.name (given.sound.unsigned decl (contains_from_at g.decls n decl e))

  called : (name : List ℕ) → (declaration_of g.decls name ≡ None → ⊥) → IsOld g name
  called name some = go (declaration_of g.decls name) refl
    where
      go : (o : Option Decl) → declaration_of g.decls name ≡ o → IsOld g name
      go None e = absurd (some e)
      go (Some d) e = let at = given.found.place g.decls name d e in subst (IsOld g) at.2 (old at.0 d at.1)

  started : (start : List ℕ) × (g.start ≡ Some start) × IsOld g start
  started = go g.start refl
    where
      go : (o : Option (List ℕ)) → g.start ≡ o → (start : List ℕ) × (g.start ≡ Some start) × IsOld g start
      go None e =
          absurd
          (given.sound.scoped (record { decl = 0; alt = 0; symbol = 0 }) condition.NoStart (condition.no_start e))
      go (Some start) e = (
        start,
        e,
        called start (λ none.
            given.sound.scoped (record { decl = 0; alt = 0; symbol = 0 }) condition.UnknownName
            (condition.unknown_start start e none)),
      )

  bare : (n : ℕ) (decl : Decl) → slice_get g.decls n ≡ Some decl → g.start ≡ Some decl.name → decl.params ≡ []
  bare n decl e starts = go decl.params refl
    where
      go : (ps : List Param) → decl.params ≡ ps → decl.params ≡ []
      go [] is = is
      go (p ∷ ps) is =
          absurd (given.sound.scoped (record { decl = 0; alt = 0; symbol = 0 }) condition.StartHasParameters
          (condition.start_has_parameters decl.name decl starts (given.found.itself g.decls distinct_names n decl e)
          (λ none. let bad : p ∷ ps ≡ [] = sym is ∙ none in absurd (cc))))

  free_at : (n : ℕ) (decl : Decl) → slice_get g.decls n ≡ Some decl → HasNoOperators decl.levels
  free_at n decl e = given.free decl (contains_from_at g.decls n decl e)

  -- what is known of an alternative
  pub calm_alternative : (n : ℕ) (decl : Decl) (m : ℕ) (a : Alt) → slice_get g.decls n ≡ Some decl →
      slice_get (alternatives decl.levels) m ≡ Some a →
      AllCalm g decl.kind (inside_sequence (parameters decl.params) (gathered a.symbols))
  calm_alternative n decl m a e there =
      of_all (Calm g decl.kind) (symbols_of decl a) (λ s o f.
      given.ask.asks g.decls decl.kind o.visible o.symbol (λ met meets.
      given.sound.scoped (record { decl = suc n; alt = suc m; symbol = suc s }) met
      (decl, e, (a, there, (o, f, meets)))))

  pub clear_alternative : (n : ℕ) (decl : Decl) (m : ℕ) (a : Alt) → slice_get g.decls n ≡ Some decl →
      slice_get (alternatives decl.levels) m ≡ Some a →
      SymbolsClear (gathered a.symbols)
  clear_alternative n decl m a e there =
      let among = contains_from_at g.decls n decl e in
      clear_there decl.levels (free_at n decl e)
      (λ level has k d lt. record {
        placed = given.sound.well decl level among has k d lt;
        bare = given.unmarked decl level among has k d lt;
        entered = given.sound.entered decl level among has k d lt;
        excluding = given.excluding decl level among has k d lt;
      }) m a there

  pub proper_alternative : (n : ℕ) (decl : Decl) (m : ℕ) (a : Alt) → slice_get g.decls n ≡ Some decl →
      slice_get (alternatives decl.levels) m ≡ Some a →
      SymbolsProper (IsOld g) (parameters decl.params) (gathered a.symbols)
  proper_alternative n decl m a e there =
      symbols_proper g decl.kind (Calm g decl.kind) (λ v x calm. calm) (IsOld g)
      (λ v name es calm. called name (λ none. let clash : Some calm.callee ≡ None = sym calm.declared ∙ none in absurd (cc)))
      (gathered a.symbols) (parameters decl.params) (calm_alternative n decl m a e there)
      (clear_alternative n decl m a e there)

  places : (d : ℕ) (decl : Decl) (shape : Shape) →
      (at : IsDeclaration g d decl) (shaped : HasShape c.shapes d shape) → slice_get c.shapes at.0 ≡ Some shape
  places d decl shape at shaped =
      let same : shaped.0 ≡ at.0 = (let e : suc shaped.0 ≡ suc at.0 = sym shaped.1 ∙ at.1 in omega (arith, e)) in
      subst (λ z. slice_get c.shapes z ≡ Some shape) same shaped.2

  pub may_be_lowered : MayBeLowered g c.shapes
  may_be_lowered =
      record {
        distinct = distinct_names;
        lengths = given.sound.fit.counted;
        started = started;
        rooted =
            λ d decl at shaped.
            ((given.sound.fit.each at.0 decl Root at.2 (places d decl Root at shaped)).root refl).start;
        bare = bare;
        no_layout = given.no_layout;
        new = given.new;
        unsigned = λ n decl e. given.sound.unsigned decl (contains_from_at g.decls n decl e);
        free = free_at;
        old = old;
        few = small;
        proper = λ n decl k a e numbered.
            proper_alternative n decl numbered.0 a.alternative e
            (alternative_there decl.levels (free_at n decl e) numbered.0 a numbered.2);
      }
