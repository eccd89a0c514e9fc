-- A checked grammar of forms that remain has a core grammar.
use Rattle.std.proofs.Common.{◌≡◌, ℕ, suc, List, [], ◌∷◌, ◌++◌, All, Option, Some, None, length, slice_get, Contains, refl, sym, ap, ◌∙◌, subst, inl, inr, take}
use Rattle.std.specs.Prelude.{◌≢◌, ◌⊎◌}
use Rattle.std.proofs.lemmas.List.{take-map}
use Rattle.std.proofs.lemmas.Option.{same_Some}
use Rattle.std.proofs.lemmas.List.Elements.{All-nil, All-cons, All-head, All-tail, Contains-append_left, Contains-append_right}
use Rattle.ig_expr.specs.Expression.{Expression}
use Rattle.ig_grammar.specs.Symbol.{Symbol, Literal, OneOf, Call, Label, Guard, Let, Filtered, gathered}
use Rattle.ig_grammar.specs.Names.{names, AreDistinct}
use Rattle.ig_grammar.specs.Numbering.{alternatives}
use Rattle.ig_grammar.specs.Visible.{Visible, Occurrence, at, binds, inside, inside_sequence, parameters}
use Rattle.ig_grammar.specs.Condition.{Condition, SymbolMeets, declaration_of, symbols_of, unknown_name, wrong_arity, duplicate_name, unknown_start, no_start, start_has_parameters}
use Rattle.ig_grammar.specs.Condition as condition
use Rattle.ig_grammar.specs.WellScoped.{IsWellScoped}
use Rattle.ig_grammar.specs.Checked.{FitShapes, IsRoot}
use Rattle.ig_grammar.specs.declared.declaration.Decl.{Decl}
use Rattle.ig_grammar.specs.declared.symbol.Alt.{Alt}
use Rattle.ig_grammar.specs.declared.grammar.Grammar.{Grammar}
use Rattle.ig_grammar.specs.declared.place.Shape.{Shape}
use Rattle.ig_grammar.specs.declared.place.Shape.TheVariants.{Root}
use Rattle.ig_pass.specs.Remaining.{IsTerm, IsExcluding, Remains, main_of, unfiltered}
use Rattle.ig_core.proofs.Premises.{IsCalled, HasCore}
use Rattle.ig_core.specs.Ready.{IsReady}
use Rattle.ig_pass.specs.Remaining.{IsRemaining}
use Rattle.ig_text.proofs.Differing.{all_differ}
use Rattle.ig_text.proofs.Lists.{contains_first, contains_later, at_from_contains, unmapped_at, mapped_at}
use Rattle.ig_text.proofs.Orders.{equal_unless}
use Rattle.ig_text.proofs.Pairwise.{beside}
use Rattle.ig_text.proofs.Emptiness.{empty_unless}
use Rattle.ig_core.proofs.Lookups.{declared_named}

abbrev pub Any : List ℕ → ℕ → Type 0
Any name n = Unit {0}

-- the main symbol is among what stands inside
pub main_in : (v : Visible) (x : Symbol) → Remains Any x → Contains (at v x ∷ inside v x) (at v (main_of x))
main_in v (Label name (Filtered y fs)) ok =
    contains_later (at v (Label name (Filtered y fs))) (inside v (Label name (Filtered y fs))) (at v y)
    (contains_later (at v (Filtered y fs)) (inside v (Filtered y fs)) (at v y) (contains_first (at v y) (inside v y)))
main_in v (Label name (Literal w)) ok = contains_later (at v (Label name (Literal w))) (inside v (Label name (Literal w))) (at v (Literal w)) (contains_first (at v (Literal w)) [])
main_in v (Label name (OneOf w)) ok = contains_later (at v (Label name (OneOf w))) (inside v (Label name (OneOf w))) (at v (OneOf w)) (contains_first (at v (OneOf w)) [])
main_in v (Label name (Call n es)) ok = contains_later (at v (Label name (Call n es))) (inside v (Label name (Call n es))) (at v (Call n es)) (contains_first (at v (Call n es)) [])
main_in v (Label name x) ok = absurd ok
main_in v (Filtered y fs) ok = contains_later (at v (Filtered y fs)) (inside v (Filtered y fs)) (at v y) (contains_first (at v y) (inside v y))
main_in v (Literal w) ok = contains_first (at v (Literal w)) []
main_in v (OneOf w) ok = contains_first (at v (OneOf w)) []
main_in v (Call n es) ok = contains_first (at v (Call n es)) []
main_in v (Guard e) ok = contains_first (at v (Guard e)) []
main_in v (Let n e) ok = contains_first (at v (Let n e)) []
main_in v x ok = absurd ok

-- what holds of each occurrence holds at each symbol of a sequence
abbrev pub Each : (Occurrence → Type 0) → Visible → List Symbol → Type 0
Each P v [] = Unit {0}
Each P v (x ∷ xs) = ((o : Occurrence) → Contains (at v x ∷ inside v x) o → P o) × Each P (v ++ binds v x) xs

pub each_of : (P : Occurrence → Type 0) (v : Visible) (xs : List Symbol) →
    ((o : Occurrence) → Contains (inside_sequence v (gathered xs)) o → P o) → Each P v xs
each_of P v [] all = tt
each_of P v (x ∷ xs) all =
    let rest = inside_sequence (v ++ binds v x) (gathered xs) in (
      (λ o here. all o (Contains-append_left (at v x ∷ inside v x) rest o here)),
      each_of P (v ++ binds v x) xs (λ o there. all o (Contains-append_right (at v x ∷ inside v x) rest o there)),
    )

-- the calls of a symbol are those of its main symbol
within_filters : (May : List ℕ → ℕ → Type 0) (x : Symbol) → IsExcluding Any x → (IsTerm Any (unfiltered x) → IsTerm May (unfiltered x)) → IsExcluding May x
within_filters May (Filtered y fs) ok more = (ok.0, more ok.1)
within_filters May (Literal w) ok more = ok
within_filters May (OneOf w) ok more = ok
within_filters May (Call n es) ok more = more ok
within_filters May x ok more = absurd ok

remains_by : (May : List ℕ → ℕ → Type 0) (x : Symbol) → Remains Any x → (IsTerm Any (main_of x) → IsTerm May (main_of x)) → Remains May x
remains_by May (Label name x) ok more = within_filters May x ok more
remains_by May (Guard e) ok more = tt
remains_by May (Let n e) ok more = tt
remains_by May (Filtered y fs) ok more = within_filters May (Filtered y fs) ok more
remains_by May (Literal w) ok more = ok
remains_by May (OneOf w) ok more = ok
remains_by May (Call n es) ok more = more ok
remains_by May x ok more = absurd ok

-- no condition is met there, and no declaration of the root is called
pub record Fine (g : Grammar) (shapes : List Shape) (decl : Decl) (o : Occurrence) : Type 0 where
  pub unmet : (c : Condition) → SymbolMeets g.decls decl.kind o.visible o.symbol c → ⊥
  pub no_root : (k : ℕ) (root : Decl) (arguments : List Expression) → slice_get g.decls k ≡ Some root → slice_get shapes k ≡ Some Root →
      o.symbol ≢ Call root.name arguments

module _ (g : Grammar) (shapes : List Shape) (scoped : IsWellScoped g) (fit : FitShapes g shapes) (remaining : IsRemaining g) where
  pub distinct_names : AreDistinct (names g.decls)
  distinct_names =
      all_differ (names g.decls) (λ k name e earlier.
      let d = unmapped_at (λ (x : Decl). x.name) g.decls k name e in
      scoped (record { decl = suc k; alt = 0; symbol = 0 }) condition.DuplicateName (
        d.0,
        d.1,
        duplicate_name (subst (λ (z : List (List ℕ)). Contains z d.0.name) (take-map (λ (x : Decl). x.name) k g.decls)
            (subst (Contains (take k (names g.decls))) (sym d.2) earlier)),
      ))

  pub root_at : (k : ℕ) (decl : Decl) → slice_get g.decls k ≡ Some decl → slice_get shapes k ≡ Some Root → IsRoot g shapes k decl
  root_at k decl e f = (fit.each k decl Root e f).root refl

  -- the occurrences of an alternative are fine
  pub all_fine : (decl : Decl) (a : Alt) → Contains g.decls decl → Contains (alternatives decl.levels) a →
      (o : Occurrence) → Contains (symbols_of decl a) o → Fine g shapes decl o
  all_fine decl a decl_in a_in o o_in =
      let d = at_from_contains g.decls decl decl_in in
      let k = at_from_contains (alternatives decl.levels) a a_in in
      let p = at_from_contains (symbols_of decl a) o o_in in
      record {
        unmet = λ c meets. scoped (record { decl = suc d.0; alt = suc k.0; symbol = suc p.0 }) c (decl, d.1, (a, k.1, (o, p.1, meets)));
        no_root = λ r root arguments e f. (root_at r root e f).uncalled decl a o arguments decl_in a_in o_in;
      }

  pub may_call : (decl : Decl) (o : Occurrence) (name : List ℕ) (arguments : List Expression) → Fine g shapes decl o → o.symbol ≡ Call name arguments →
      IsCalled g shapes name (length arguments)
  may_call decl o name arguments fine is = go (declared_named g.decls name)
    where
      unmet : (c : Condition) → SymbolMeets g.decls decl.kind o.visible (Call name arguments) c → ⊥
      unmet c meets = fine.unmet c (subst (λ z. SymbolMeets g.decls decl.kind o.visible z c) (sym is) meets)

      go : (declaration_of g.decls name ≡ None) ⊎ ((k : ℕ) × (d : Decl) × (declaration_of g.decls name ≡ Some d) × (slice_get g.decls k ≡ Some d) × (d.name ≡ name)) →
          IsCalled g shapes name (length arguments)
      go (inl none) = absurd (unmet condition.UnknownName (unknown_name name arguments none))
      go (inr h) =
          let shape = beside g.decls shapes h.0 h.1 fit.counted h.3 in (
            h.0,
            h.1,
            shape.0,
            h.3,
            shape.1,
            (λ same. fine.no_root h.0 h.1 arguments h.3 (shape.1 ∙ ap Some same) (is ∙ ap (λ z. Call z arguments) (sym h.4))),
            h.4,
            equal_unless (length h.1.params) (length arguments)
                (λ other. unmet condition.WrongArity (wrong_arity name arguments h.1 h.2 (λ e. other (sym e)))),
          )

  term_called : (decl : Decl) (v : Visible) (m : Symbol) → Fine g shapes decl (at v m) → IsTerm Any m → IsTerm (IsCalled g shapes) m
  term_called decl v (Literal w) fine ok = ok
  term_called decl v (OneOf w) fine ok = ok
  term_called decl v (Call name arguments) fine ok = may_call decl (at v (Call name arguments)) name arguments fine refl
  term_called decl v m fine ok = absurd ok

  all_remain : (decl : Decl) (v : Visible) (xs : List Symbol) → Each (Fine g shapes decl) v xs → All (Remains Any) xs → All (Remains (IsCalled g shapes)) xs
  all_remain decl v [] each all = All-nil (Remains (IsCalled g shapes))
  all_remain decl v (x ∷ xs) each all =
      let ok = All-head (Remains Any) x xs all in
      All-cons (Remains (IsCalled g shapes)) x xs
      (remains_by (IsCalled g shapes) x ok (term_called decl v (main_of x) (each.0 (at v (main_of x)) (main_in v x ok))))
      (all_remain decl (v ++ binds v x) xs each.1 (All-tail (Remains Any) x xs all))

  pub each_fine : (decl : Decl) (a : Alt) → Contains g.decls decl → Contains (alternatives decl.levels) a →
      Each (Fine g shapes decl) (parameters decl.params) a.symbols
  each_fine decl a decl_in a_in = each_of (Fine g shapes decl) (parameters decl.params) a.symbols (all_fine decl a decl_in a_in)

  -- the start
  pub start_at : (start : List ℕ) → g.start ≡ Some start → (k : ℕ) × (d : Decl) × (slice_get g.decls k ≡ Some d) × (d.name ≡ start) × (d.params ≡ [])
  start_at start is = go (declared_named g.decls start)
    where
      go : (declaration_of g.decls start ≡ None) ⊎ ((k : ℕ) × (d : Decl) × (declaration_of g.decls start ≡ Some d) × (slice_get g.decls k ≡ Some d) × (d.name ≡ start)) →
          (k : ℕ) × (d : Decl) × (slice_get g.decls k ≡ Some d) × (d.name ≡ start) × (d.params ≡ [])
      go (inl none) = absurd (scoped (record { decl = 0; alt = 0; symbol = 0 }) condition.UnknownName (unknown_start start is none))
      go (inr h) = (
        h.0,
        h.1,
        h.3,
        h.4,
        empty_unless h.1.params
            (λ some. scoped (record { decl = 0; alt = 0; symbol = 0 }) condition.StartHasParameters (start_has_parameters start h.1 is h.2 some)),
      )

  started : (start : List ℕ) × (g.start ≡ Some start)
  started = go g.start refl
    where
      go : (o : Option (List ℕ)) → g.start ≡ o → (start : List ℕ) × (g.start ≡ Some start)
      go None e = absurd (scoped (record { decl = 0; alt = 0; symbol = 0 }) condition.NoStart (no_start e))
      go (Some start) e = (start, e)

  root_plain : (k : ℕ) (decl : Decl) → slice_get g.decls k ≡ Some decl → slice_get shapes k ≡ Some Root → decl.params ≡ []
  root_plain k decl e f =
      let start = start_at decl.name (root_at k decl e f).start in
      let same : start.0 ≡ k = distinct_names start.0 k decl.name (mapped_at (λ (z : Decl). z.name) g.decls start.0 start.1 start.2 ∙ ap Some start.3) (mapped_at (λ (z : Decl). z.name) g.decls k decl e) in
      let decl_same : start.1 ≡ decl = same_Some start.1 decl (sym start.2 ∙ ap (slice_get g.decls) same ∙ e) in
      ap (λ (z : Decl). z.params) (sym decl_same) ∙ start.4

  pub has_core : HasCore g shapes
  has_core =
      let start = started in
      let at_start = start_at start.0 start.1 in
      record {
        distinct = distinct_names;
        counted = fit.counted;
        no_layout = remaining.no_layout;
        free = remaining.free;
        remains = λ decl a decl_in a_in.
            all_remain decl (parameters decl.params) a.symbols (each_fine decl a decl_in a_in) (remaining.forms decl a decl_in a_in);
        started = (start.0, start.1, (at_start.0, at_start.1, at_start.2, at_start.3, ap length at_start.4));
        rooted = λ k decl e f. ((root_at k decl e f).start, (fit.each k decl Root e f).count, root_plain k decl e f);
        after_rules = λ k r e f.
            let root = beside shapes g.decls r Root (sym fit.counted) f in (root_at r root.0 root.1 f).after_rules k e;
      }

pub ready_has_core : (g : Grammar) (shapes : List Shape) → IsReady g shapes → HasCore g shapes
ready_has_core g shapes ready = has_core g shapes ready.scoped ready.fit ready.remaining
