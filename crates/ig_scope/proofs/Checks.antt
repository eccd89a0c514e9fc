-- From the parts of a grammar to the whole of it.
use Rattle.std.proofs.Common.{◌≡◌, ℕ, zero, suc, ◌<◌, ◌≤◌, ◌+◌, ◌⊎◌, inl, inr, List, [], ◌∷◌, length, get_or, take, Some, Bool, true, false, ◌||◌, cond, refl, sym, ◌∙◌, ap, subst, arith, Result, Ok, Err}
use Rattle.std.specs.Prelude.{slice_get}
use Rattle.std.specs.Result.{IsErrAnd}
use Rattle.std.proofs.lemmas.List.Sums.{count_by_more_yes, count_by_more_no}
use Rattle.ig_grammar.specs.Numbering.{alternatives}
use Rattle.ig_grammar.specs.Name.{is_name}
use Rattle.ig_grammar.specs.Condition.{Condition, HeadMeets, StartMeets, too_many_parameters, TooMany, Parameters, most_parameters, named_parameters}
use Rattle.ig_grammar.specs.WellScoped.{IsLeast, IsFirst, IsBefore, GrammarHas, DeclarationHas, AlternativeHas}
use Rattle.ig_grammar.specs.declared.symbol.Alt.{Alt}
use Rattle.ig_grammar.specs.declared.declaration.Decl.{Decl}
use Rattle.ig_grammar.specs.declared.grammar.Grammar.{Grammar}
use Rattle.ig_grammar.specs.declared.place.Place.{Place}
use Rattle.ig_scope.specs.Causes.{condition_of, NoneHolds}
use Rattle.std.proofs.lemmas.Option.{slice_get-get_or, slice_get_within}
use Rattle.ig_scope.specs.Room.{HasFewParameters}
use Rattle.ig_scope.specs.Heads.{count_names, is_layout, have_layout}
use Rattle.ig_scope.specs.AlternativesTold.{FirstIn, AlternativeFree, AlternativeCaught, OfAlternatives}
use Rattle.ig_scope.specs.Told.{FirstPair, TellsDeclaration, AreFree, TellsDeclarations, TellsGrammar}
use Rattle.ig_scope.specs.declared.fault.ScopeFault.{ScopeFault}
use Rattle.ig_scope.specs.declared.fault.ScopeFault.TheVariants.{Broken, Memory}
use Rattle.ig_text.proofs.Options.{one_value}
use Rattle.ig_text.proofs.Orders.{below_or_at}
use Rattle.ig_scope.specs.Firsts.{first_there, first_before, free_at}
use Rattle.std.proofs.lemmas.List.Folds.{list_any_more}
use Rattle.std.proofs.lemmas.Result.{err_from_is_err_and}

module _ (decls : List Decl) (index : ℕ) (decl : Decl) where
  pub head_told : (c : Condition) → IsLeast (HeadMeets decls index decl) c → FirstPair (DeclarationHas decls index decl) 0 0 c
  head_told c h = record { there = h; none_before = λ b t other l m. go b t l }
    where
      go : (b t : ℕ) → (b < 0) ⊎ ((b ≡ 0) × (t < 0)) → ⊥
      go b t (inl l) = omega arith
      go b t (inr l) = let z = l.1 in omega arith

  -- a declaration with few parameters, where nothing holds at its head
  pub few_parameters : NoneHolds (HeadMeets decls index decl) → HasFewParameters decl
  few_parameters n e = go (named_parameters decl) (λ l. n (TooMany Parameters) (too_many_parameters e l))
    where
      go : (k : ℕ) → (most_parameters < k → ⊥) → k ≤ most_parameters
      go k f = grind (arith, f)

  caught_alternative : (k s : ℕ) (c : Condition) → NoneHolds (HeadMeets decls index decl) →
      FirstIn (AlternativeFree decls decl) (AlternativeCaught decls decl s c) (alternatives decl.levels) k → FirstPair (DeclarationHas decls index decl) (suc k) s c
  caught_alternative k s c n f =
      let t = first_there (AlternativeFree decls decl) (AlternativeCaught decls decl s c) (alternatives decl.levels) k f in
      record {
        there = record {
          holds = (t.0, t.1, t.2.there.holds);
          least = λ other h. t.2.there.least other (subst (λ a. AlternativeHas decls decl a s other) (one_value (slice_get (alternatives decl.levels) k) h.0 t.0 h.1 t.1) h.2);
          first_case = λ other h e. t.2.there.first_case other (subst (λ a. AlternativeHas decls decl a s other) (one_value (slice_get (alternatives decl.levels) k) h.0 t.0 h.1 t.1) h.2) e;
        };
        none_before = λ b u other l h. go b u other l h t;
      }
    where
      go : (b u : ℕ) (other : Condition) → (b < suc k) ⊎ ((b ≡ suc k) × (u < s)) → DeclarationHas decls index decl b u other →
          (a : Alt) × (slice_get (alternatives decl.levels) k ≡ Some a) × AlternativeCaught decls decl s c a → ⊥
      go zero zero other l h t = n other h
      go zero (suc u) other l h t = h
      go (suc j) u other (inl l) h t =
          first_before (AlternativeFree decls decl) (AlternativeCaught decls decl s c) (alternatives decl.levels) k f j h.0 (omega arith) h.1 u other h.2
      go (suc j) u other (inr l) h t =
          let same : j ≡ k = (let z = l.0 in omega arith) in
          let a = one_value (slice_get (alternatives decl.levels) k) h.0 t.0 (ap (slice_get (alternatives decl.levels)) (sym same) ∙ h.1) t.1 in
          t.2.none_before u other l.1 (subst (λ a. AlternativeHas decls decl a u other) a h.2)

pub declaration_told : (decls : List Decl) (decl : Decl) (index : ℕ) (r : Result (Unit {0}) ScopeFault) →
    NoneHolds (HeadMeets decls index decl) → OfAlternatives decls decl (index + 1) r → TellsDeclaration decls decl index r
declaration_told decls decl index (Ok done) n h = λ a s c m. go a s c m
  where
    go : (a s : ℕ) (c : Condition) → DeclarationHas decls index decl a s c → ⊥
    go zero zero c m = n c m
    go zero (suc s) c m = m
    go (suc j) s c m = free_at (AlternativeFree decls decl) (AlternativeFree decls decl) (alternatives decl.levels) h j m.0 m.1 s c m.2
declaration_told decls decl index (Err (Broken cause place)) n h = (
  h.1,
  subst (λ k. FirstPair (DeclarationHas decls index decl) k place.symbol (condition_of cause)) (let e = h.2 in let z : suc h.0 ≡ place.alt = omega arith in z)
      (caught_alternative decls index decl h.0 place.symbol (condition_of cause) n h.3),
)
declaration_told decls decl index (Err Memory) n h = tt

pub free_more : (decls : List Decl) (i : ℕ) (decl : Decl) → i < length decls → decl ≡ get_or decls i decl → AreFree decls i →
    ((a s : ℕ) → NoneHolds (DeclarationHas decls i decl a s)) → AreFree decls (i + 1)
free_more decls i decl l e f h k d a s c m g p =
    elim (below_or_at k i m) [
      | inl r ↦ f k d a s c r g p
      | inr r ↦
          let same = one_value (slice_get decls i) d decl (ap (slice_get decls) (sym r) ∙ g) (slice_get-get_or decls i decl l ∙ ap Some (sym e)) in
          h a s c (subst (λ z. DeclarationHas decls i z a s c) same (subst (λ z. DeclarationHas decls z d a s c) r p))
    ]

pub declarations_stopped : (decls : List Decl) (i : ℕ) (decl : Decl) (fault : ScopeFault) (r : Result (Unit {0}) ScopeFault) → IsErrAnd r (λ f. f ≡ fault) →
    i < length decls → decl ≡ get_or decls i decl → AreFree decls i → TellsDeclaration decls decl i {T = Unit {0}} (Err fault) → TellsDeclarations decls r
declarations_stopped decls i decl fault r p l e f h =
    let told = err_from_is_err_and r p in
    subst (TellsDeclarations decls) (sym (told.1 ∙ ap Err told.2)) (go fault h)
  where
    go : (fault : ScopeFault) → TellsDeclaration decls decl i {T = Unit {0}} (Err fault) → TellsDeclarations decls {T = Unit {0}} (Err fault)
    go (Broken cause place) h = (i, decl, slice_get-get_or decls i decl l ∙ ap Some (sym e), h.0, h.1, f)
    go Memory h = tt

pub named_more : (decls : List Decl) (i n m : ℕ) (decl : Decl) (b : Bool) → i < length decls → decl ≡ get_or decls i decl → b ≡ is_name decl.name →
    n ≡ count_names (take i decls) → m ≡ cond b (n + 1) n → m ≡ count_names (take (i + 1) decls)
named_more decls i n m decl true l e b h k =
    k ∙ ap (λ z. z + 1) h ∙ sym (count_by_more_yes (λ (d : Decl). is_name d.name) decls i decl l (ap (λ (d : Decl). is_name d.name) (sym e) ∙ sym b))
named_more decls i n m decl false l e b h k =
    k ∙ h ∙ sym (count_by_more_no (λ (d : Decl). is_name d.name) decls i decl l (ap (λ (d : Decl). is_name d.name) (sym e) ∙ sym b))

pub layout_more : (decls : List Decl) (i : ℕ) (decl : Decl) (b c : Bool) → i < length decls → decl ≡ get_or decls i decl →
    b ≡ have_layout (take i decls) → c ≡ is_layout decl.kind → (b || c) ≡ have_layout (take (i + 1) decls)
layout_more decls i decl b c l e h k =
    (λ n. h n || (k ∙ ap (λ (d : Decl). is_layout d.kind) e) n) ∙ sym (list_any_more (λ (d : Decl). is_layout d.kind) decls i decl l)

module _ (g : Grammar) where
  pub start_told : (c : Condition) (place : Place) → place ≡ record { decl = 0; alt = 0; symbol = 0 } → IsLeast (StartMeets g) c → IsFirst g place c
  start_told c place e h =
      subst (λ p. IsFirst g p c) (sym e) (record { there = h; none_before = λ p other l m. go p l })
    where
      go : (p : Place) → IsBefore p (record { decl = 0; alt = 0; symbol = 0 }) → ⊥
      go p (inl l) = omega arith
      go p (inr (l, inl m)) = omega arith
      go p (inr (l, inr m)) = let z = m.1 in omega arith

  caught_declaration : (index a s : ℕ) (decl : Decl) (c : Condition) → NoneHolds (StartMeets g) → slice_get g.decls index ≡ Some decl →
      FirstPair (DeclarationHas g.decls index decl) a s c → AreFree g.decls index → IsFirst g (record { decl = suc index; alt = a; symbol = s }) c
  caught_declaration index a s decl c n at f free = record {
    there = record {
      holds = (decl, at, f.there.holds);
      least = λ other h. f.there.least other (subst (λ d. DeclarationHas g.decls index d a s other) (one_value (slice_get g.decls index) h.0 decl h.1 at) h.2);
      first_case = λ other h e. f.there.first_case other (subst (λ d. DeclarationHas g.decls index d a s other) (one_value (slice_get g.decls index) h.0 decl h.1 at) h.2) e;
    };
    none_before = λ p other l h. go p.decl p.alt p.symbol other l h;
  }
    where
      go : (d b t : ℕ) (other : Condition) → (d < suc index) ⊎ ((d ≡ suc index) × ((b < a) ⊎ ((b ≡ a) × (t < s)))) → GrammarHas g d b t other → ⊥
      go zero zero zero other l h = n other h
      go zero zero (suc t) other l h = h
      go zero (suc b) t other l h = h
      go (suc j) b t other (inl l) h = free j h.0 b t other (omega arith) h.1 h.2
      go (suc j) b t other (inr l) h =
          let same : j ≡ index = (let z = l.0 in omega arith) in
          let d = one_value (slice_get g.decls index) h.0 decl (ap (slice_get g.decls) (sym same) ∙ h.1) at in
          f.none_before b t other l.1 (subst (λ z. DeclarationHas g.decls index z b t other) d (subst (λ z. DeclarationHas g.decls z h.0 b t other) same h.2))

  pub grammar_told : (r : Result (Unit {0}) ScopeFault) → NoneHolds (StartMeets g) → TellsDeclarations g.decls r → TellsGrammar g r
  grammar_told (Ok done) n h = λ place c m. go place.decl place.alt place.symbol c m
    where
      go : (d b t : ℕ) (c : Condition) → GrammarHas g d b t c → ⊥
      go zero zero zero c m = n c m
      go zero zero (suc t) c m = m
      go zero (suc b) t c m = m
      go (suc j) b t c m = h j m.0 b t c (slice_get_within g.decls j m.0 m.1) m.1 m.2
  grammar_told (Err (Broken cause place)) n h =
      subst (λ p. IsFirst g p (condition_of cause)) (place_is place (h.0 + 1) h.3 ∙ refl)
      (subst (λ k. IsFirst g (record { decl = k; alt = place.alt; symbol = place.symbol }) (condition_of cause)) (let z : suc h.0 ≡ h.0 + 1 = omega arith in z)
      (caught_declaration h.0 place.alt place.symbol h.1 (condition_of cause) n h.2 h.4 h.5))
    where
      place_is : (p : Place) (k : ℕ) → p.decl ≡ k → record { decl = k; alt = p.alt; symbol = p.symbol } ≡ p
      place_is p k e = ap (λ n. record { decl = n; alt = p.alt; symbol = p.symbol }) (sym e)
  grammar_told (Err Memory) n h = tt
