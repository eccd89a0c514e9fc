-- The alternatives of a declaration, one after the other.
use Rattle.std.proofs.Common.{◌≡◌, ℕ, zero, suc, ◌<◌, ◌≤◌, ◌+◌, ◌-◌, cond, List, [], ◌∷◌, ◌++◌, length, get_or, take, Option, Some, None, Bool, true, false, refl, sym, ◌∙◌, ap, subst, arith, length-append, Result, Ok, Err, true≢false}
use Rattle.std.specs.Prelude.{All, Contains, IsTrue, ◌↔◌, slice_get, is_none}
use Rattle.std.specs.Result.{IsErrAnd}
use Rattle.std.proofs.lemmas.List.{take_more, take_all, append-nil}
use Rattle.std.proofs.lemmas.Grind.{flat_map-append}
use Rattle.std.proofs.lemmas.List.Elements.{All-append, Contains-append_left, Contains-append_right}
use Rattle.ig_grammar.specs.Numbering.{alternatives}
use Rattle.ig_grammar.specs.Name.{is_name}
use Rattle.ig_grammar.specs.Visible.{Occurrence}
use Rattle.ig_grammar.specs.Condition.{Condition, number, case_number, SymbolMeets, AlternativeMeets, TooMany, Variables, most_variables, too_many_variables, named_parameters, symbols_of}
use Rattle.ig_grammar.specs.WellScoped.{AlternativeHas}
use Rattle.ig_grammar.specs.declared.symbol.Alt.{Alt}
use Rattle.ig_grammar.specs.declared.declaration.Level.{Level}
use Rattle.ig_grammar.specs.declared.declaration.Decl.{Decl}
use Rattle.ig_grammar.specs.declared.place.Place.{Place}
use Rattle.ig_scope.specs.Binders.{Leaves, binders}
use Rattle.ig_scope.specs.Causes.{condition_of}
use Rattle.ig_scope.specs.Room.{HasFewParameters, room_of}
use Rattle.ig_scope.specs.AlternativesTold.{FirstIn, here, later, FirstNumber, SymbolFree, SymbolCaught, AlternativeFree, AlternativeCaught}
use Rattle.ig_scope.specs.AlternativesTold.{StoppedAt, OfAlternative, OfLevel, OfAlternatives}
use Rattle.ig_scope.specs.declared.fault.ScopeFault.{ScopeFault}
use Rattle.ig_scope.specs.declared.fault.ScopeFault.TheVariants.{Broken, Memory}
use Rattle.ig_scope.specs.Firsts.{first_left, first_right, first_there, first_before, free_at}
use Rattle.ig_text.specs.Limits.{numbers_end}
use Rattle.ig_text.proofs.Options.{passed_on}

-- more labels and lets than there is room for
left_told : (decl : Decl) (a : Alt) (room : ℕ) (r : Option ℕ) → is_name decl.name ≡ true → room + named_parameters decl ≡ most_variables →
    Leaves room (binders (symbols_of decl a)) r → IsTrue (is_none r) ↔ AlternativeMeets decl a (TooMany Variables)
left_told decl a room None n e h = ((λ _. too_many_variables n (omega arith)), (λ _. refl))
left_told decl a room (Some left) n e h = (
  (λ t. let z : false ≡ true = t in absurd (true≢false (sym z))),
  (λ m. go m),
)
  where
    go : AlternativeMeets decl a (TooMany Variables) → IsTrue false
    go (too_many_variables k l) = let f : ⊥ = omega arith in absurd f

room_is : (b : Bool) (n room : ℕ) → Some room ≡ cond b (Some (most_variables - n)) None → (b ≡ true) × (room ≡ most_variables - n)
room_is true n room e = (refl, (let z : Some room ≡ Some (most_variables - n) = e in cc))
room_is false n room e = let z : Some room ≡ None = e in cc

pub passed_told : (decl : Decl) (a : Alt) (room : ℕ) (r : Option ℕ) → HasFewParameters decl → Some room ≡ room_of decl →
    Leaves room (binders (symbols_of decl a)) r → IsTrue (is_none r) ↔ AlternativeMeets decl a (TooMany Variables)
passed_told decl a room r few e h =
    let k = room_is (is_name decl.name) (named_parameters decl) room e in
    let l = few k.0 in let z = k.1 in
    left_told decl a room r k.0 (omega arith) h

unnamed : (b : Bool) (n : ℕ) → None ≡ cond b (Some (most_variables - n)) None → b ≡ false
unnamed true n e = let z : None ≡ Some (most_variables - n) = e in cc
unnamed false n e = refl

-- where they aren't counted there are never too many
pub uncounted : (decl : Decl) (a : Alt) → None ≡ room_of decl → IsTrue false ↔ AlternativeMeets decl a (TooMany Variables)
uncounted decl a e = ((λ t. let z : false ≡ true = t in absurd (true≢false (sym z))), (λ m. go m))
  where
    go : AlternativeMeets decl a (TooMany Variables) → IsTrue false
    go (too_many_variables k l) = absurd (true≢false (sym k ∙ unnamed (is_name decl.name) (named_parameters decl) e))

unmet : (decl : Decl) (a : Alt) → (AlternativeMeets decl a (TooMany Variables) → ⊥) → (c : Condition) → AlternativeMeets decl a c → ⊥
unmet decl a n c (too_many_variables k l) = n (too_many_variables k l)

module _ (decls : List Decl) (decl : Decl) where
  pub alternative_passed : (a : Alt) → AlternativeMeets decl a (TooMany Variables) → FirstNumber (AlternativeHas decls decl a) 0 (TooMany Variables)
  alternative_passed a m = record {
    there = record { holds = m; least = λ other h. go other h; first_case = λ other h e. case other h };
    none_before = λ k other l h. (let f : ⊥ = omega arith in f);
  }
    where
      go : (other : Condition) → AlternativeMeets decl a other → 13 ≤ number other
      go other (too_many_variables k l) = omega arith

      case : (other : Condition) → AlternativeMeets decl a other → 2 ≤ case_number other
      case other (too_many_variables k l) = omega arith

  one : (xs : List Occurrence) (k : ℕ) (o p : Occurrence) → slice_get xs k ≡ Some o → slice_get xs k ≡ Some p → o ≡ p
  one xs k o p e f = let z : Some o ≡ Some p = sym e ∙ f in cc

  caught_symbol : (a : Alt) (k : ℕ) (c : Condition) → (AlternativeMeets decl a (TooMany Variables) → ⊥) →
      FirstIn (SymbolFree decls decl.kind) (SymbolCaught decls decl.kind c) (symbols_of decl a) k → FirstNumber (AlternativeHas decls decl a) (suc k) c
  caught_symbol a k c n f =
      let t = first_there (SymbolFree decls decl.kind) (SymbolCaught decls decl.kind c) (symbols_of decl a) k f in
      record {
        there = record {
          holds = (t.0, t.1, t.2.holds);
          least = λ other h. t.2.least other (subst (λ (o : Occurrence). SymbolMeets decls decl.kind o.visible o.symbol other) (one (symbols_of decl a) k h.0 t.0 h.1 t.1) h.2);
          first_case = λ other h e. t.2.first_case other (subst (λ (o : Occurrence). SymbolMeets decls decl.kind o.visible o.symbol other) (one (symbols_of decl a) k h.0 t.0 h.1 t.1) h.2) e;
        };
        none_before = λ m other l h. go m other l h;
      }
    where
      go : (m : ℕ) (other : Condition) → m < suc k → AlternativeHas decls decl a m other → ⊥
      go zero other l h = unmet decl a n other h
      go (suc j) other l h =
          first_before (SymbolFree decls decl.kind) (SymbolCaught decls decl.kind c) (symbols_of decl a) k f j h.0 (omega arith) h.1 other h.2

  pub alternative_free : (a : Alt) (os : List Occurrence) → (AlternativeMeets decl a (TooMany Variables) → ⊥) → os ≡ symbols_of decl a →
      All (SymbolFree decls decl.kind) os → AlternativeFree decls decl a
  alternative_free a os n e h zero = unmet decl a n
  alternative_free a os n e h (suc j) = λ c m. free_at (SymbolFree decls decl.kind) (SymbolFree decls decl.kind) (symbols_of decl a) (subst (All (SymbolFree decls decl.kind)) e h) j m.0 m.1 c m.2

  first_at : {X : Type 0} (Free Caught : X → Type 0) (xs : List X) (i : ℕ) (x : X) → i < length xs → x ≡ get_or xs i x → All Free (take i xs) → Caught x → FirstIn Free Caught xs i
  first_at Free Caught [] i x l e a c = let f : ⊥ = omega arith in absurd f
  first_at Free Caught (y ∷ xs) zero x l e a c = here y xs (subst Caught e c)
  first_at Free Caught (y ∷ xs) (suc i) x l e a c =
      later y xs i (a 0 y (omega arith)) (first_at Free Caught xs i x (omega arith) e (λ k d m. a (suc k) d (omega arith)) c)

  pub alternative_stopped : (nr alt : ℕ) (a : Alt) (os : List Occurrence) (fault : ScopeFault) (r : Result (Unit {0}) ScopeFault) →
      IsErrAnd r (λ f. f ≡ fault) → (AlternativeMeets decl a (TooMany Variables) → ⊥) → os ≡ symbols_of decl a →
      StoppedAt decls decl.kind nr alt 0 os fault → OfAlternative decls decl nr alt a r
  alternative_stopped nr alt a os (Broken cause place) r p n e h =
      subst (OfAlternative decls decl nr alt a) (sym (passed_on r (Broken cause place) p)) (
        ap (λ (z : Place). z.decl) h.1,
        ap (λ (z : Place). z.alt) h.1,
        subst (λ k. FirstNumber (AlternativeHas decls decl a) k (condition_of cause))
            (let z : place.symbol ≡ 0 + h.0 + 1 = ap (λ (z : Place). z.symbol) h.1 in let y : suc h.0 ≡ place.symbol = omega arith in y)
            (caught_symbol a h.0 (condition_of cause) n (subst (λ z. FirstIn (SymbolFree decls decl.kind) (SymbolCaught decls decl.kind (condition_of cause)) z h.0) e h.2)),
      )
  alternative_stopped nr alt a os Memory r p n e h = subst (OfAlternative decls decl nr alt a) (sym (passed_on r Memory p)) tt

  pub level_stopped : (nr before : ℕ) (alts : List Alt) (i next : ℕ) (a : Alt) (fault : ScopeFault) (r : Result ℕ ScopeFault) → IsErrAnd r (λ f. f ≡ fault) →
      i < length alts → a ≡ get_or alts i a → next ≡ before + i + 1 → All (AlternativeFree decls decl) (take i alts) →
      OfAlternative decls decl nr next a {T = Unit {0}} (Err fault) → OfLevel decls decl nr before alts r
  level_stopped nr before alts i next a (Broken cause place) r p l e n f h =
      subst (OfLevel decls decl nr before alts) (sym (passed_on r (Broken cause place) p))
      (i, h.0, h.1 ∙ n, first_at (AlternativeFree decls decl) (AlternativeCaught decls decl place.symbol (condition_of cause)) alts i a l e f h.2)
  level_stopped nr before alts i next a Memory r p l e n f h = subst (OfLevel decls decl nr before alts) (sym (passed_on r Memory p)) tt

  -- a level behind those before it
  pub levels_step : (nr : ℕ) (done more : List Alt) (before : ℕ) (next : ℕ) → OfLevel decls decl nr 0 done (Ok before) → OfLevel decls decl nr before more (Ok next) →
      OfLevel decls decl nr 0 (done ++ more) (Ok next)
  levels_step nr done more before next g h =
      ((let a = g.0 in let b = h.0 in let l = length-append done more in omega arith), All-append (AlternativeFree decls decl) done more g.1 h.1)

  pub levels_stopped : (nr : ℕ) (done more rest : List Alt) (before : ℕ) (fault : ScopeFault) (r : Result (Unit {0}) ScopeFault) → IsErrAnd r (λ f. f ≡ fault) →
      alternatives decl.levels ≡ (done ++ more) ++ rest → OfLevel decls decl nr 0 done (Ok before) → OfLevel decls decl nr before more (Err fault) →
      OfAlternatives decls decl nr r
  levels_stopped nr done more rest before (Broken cause place) r p e g h =
      subst (OfAlternatives decls decl nr) (sym (passed_on r (Broken cause place) p)) (
        before + h.0,
        h.1,
        h.2,
        subst (λ z. FirstIn (AlternativeFree decls decl) (AlternativeCaught decls decl place.symbol (condition_of cause)) z (before + h.0)) (sym e)
            (first_left (AlternativeFree decls decl) (AlternativeCaught decls decl place.symbol (condition_of cause)) (done ++ more) rest (before + h.0)
            (first_right (AlternativeFree decls decl) (AlternativeCaught decls decl place.symbol (condition_of cause)) done more h.0 (before + h.0) g.1 h.3 (let a = g.0 in omega arith))),
      )
  levels_stopped nr done more rest before Memory r p e g h = subst (OfAlternatives decls decl nr) (sym (passed_on r Memory p)) tt

pub record SplitsLevels (all front : List Level) (level : Level) : Type 0 where
  pub rest : List Alt
  pub whole : alternatives all ≡ (alternatives front ++ level.alts) ++ rest

append_assoc_back : (xs ys zs : List Alt) → xs ++ (ys ++ zs) ≡ (xs ++ ys) ++ zs
append_assoc_back [] ys zs = refl
append_assoc_back (x ∷ xs) ys zs = ap (λ z. x ∷ z) (append_assoc_back xs ys zs)

pub split_levels : (all : List Level) (i : ℕ) (level : Level) → i < length all → level ≡ get_or all i level → SplitsLevels all (take i all) level
split_levels [] i level l e = let f : ⊥ = omega arith in absurd f
split_levels (x ∷ all) zero level l e = record { rest = alternatives all; whole = ap (λ (z : Level). z.alts ++ alternatives all) (sym e) }
split_levels (x ∷ all) (suc i) level l e =
    let h = split_levels all i level (omega arith) e in
    record {
      rest = h.rest;
      whole =
          ap (λ z. x.alts ++ z) h.whole ∙ append_assoc_back x.alts (alternatives (take i all) ++ level.alts) h.rest ∙
          ap (λ z. z ++ h.rest) (append_assoc_back x.alts (alternatives (take i all)) level.alts);
    }

pub more_levels : (all : List Level) (i : ℕ) (level : Level) → i < length all → level ≡ get_or all i level →
    alternatives (take (i + 1) all) ≡ alternatives (take i all) ++ level.alts
more_levels all i level l e =
    ap alternatives (take_more all i level l ∙ ap (λ z. take i all ++ z ∷ []) (sym e)) ∙
    flat_map-append (λ (z : Level). z.alts) (take i all) (level ∷ []) ∙ ap (λ z. alternatives (take i all) ++ z) (append-nil level.alts)

pub level_fits : (all front : List Level) (level : Level) (before : ℕ) → SplitsLevels all front level → before ≡ length (alternatives front) →
    length (alternatives all) < numbers_end → before + length level.alts < numbers_end
level_fits all front level before s e l =
    let a : length (alternatives all) ≡ length (alternatives front ++ level.alts) + length s.rest = ap length s.whole ∙ length-append (alternatives front ++ level.alts) s.rest in
    let b = length-append (alternatives front) level.alts in omega arith

pub level_within : (all front : List Level) (level : Level) (a : Alt) → SplitsLevels all front level → Contains level.alts a → Contains (alternatives all) a
level_within all front level a s m =
    subst (λ z. Contains z a) (sym s.whole) (Contains-append_left (alternatives front ++ level.alts) s.rest a (Contains-append_right (alternatives front) level.alts a m))

pub level_done : (decls : List Decl) (decl : Decl) (nr before next i : ℕ) (alts : List Alt) → next ≡ before + i →
    All (AlternativeFree decls decl) (take i alts) → i ≤ length alts → length alts ≤ i → OfLevel decls decl nr before alts (Ok next)
level_done decls decl nr before next i alts e a l m =
    ((let z : i ≡ length alts = omega arith in omega arith), subst (All (AlternativeFree decls decl)) (take_all i alts m) a)
