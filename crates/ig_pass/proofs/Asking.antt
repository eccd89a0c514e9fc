-- A symbol gets what it asks exactly where no condition holds of it.
use Rattle.std.proofs.Common.{◌≡◌, ◌∙◌, ℕ, zero, suc, List, [], ◌∷◌, ◌++◌, Option, Some, None, Bool, cond, true, false, refl, sym, ap, ap₂, subst, length, inl, inr, arith}
use Rattle.std.specs.Prelude.{◌≢◌, ◌⊎◌, Contains, slice_get}
use Rattle.std.specs.Cmp.Lexicographic.{bytes_decides}
use Rattle.std.proofs.lemmas.Option.{same_Some}
use Rattle.std.proofs.lemmas.List.Elements.{Contains-append_cases, Contains-append_left, Contains-append_right}
use Rattle.ig_text.specs.Words.{is_word}
use Rattle.ig_text.proofs.Lists.{at_from_contains, contains_first, contains_later, contains_one, none_in_nil}
use Rattle.ig_text.proofs.Positions.{beside-cons}
use Rattle.ig_text.proofs.Orders.{equal_unless}
use Rattle.ig_expr.specs.Expression as tree
use Rattle.ig_expr.specs.Expression.{Expression}
use Rattle.ig_expr.specs.Kinds.{of_one, of_two, of_equals, kind_of_operation, argument_of}
use Rattle.ig_expr.specs.Names.{look_up}
use Rattle.ig_expr.specs.declared.kind.Kind.{Kind}
use Rattle.ig_expr.specs.declared.kind.Kind.TheVariants as kind
use Rattle.ig_expr.specs.declared.operator.Op.{Op}
use Rattle.ig_expr.specs.declared.operator.Op.TheVariants.{Add, Sub, Mul, Div, Mod, Less, LessEqual, Greater, GreaterEqual, Equal, NotEqual, And, Or}
use Rattle.ig_grammar.specs.Condition.{Condition, SymbolMeets, IsListed, declaration_of, expressions, variables}
use Rattle.ig_grammar.specs.Condition as meets
use Rattle.ig_grammar.specs.Symbol.{Symbol, Call, Label, Guard, Let, Star, Plus, SepStar, SepPlus, Offside, Ignore, Align, Filtered, Entry}
use Rattle.ig_grammar.specs.Visible.{Visible, names, kinds, kind_at}
use Rattle.ig_grammar.specs.declared.declaration.DeclKind.{DeclKind}
use Rattle.ig_grammar.specs.declared.declaration.Param.{Param}
use Rattle.ig_grammar.specs.declared.declaration.Decl.{Decl}
use Rattle.ig_pass.specs.Asked.{IsKinded, Fit, Calls, Asks, SymbolsAsk, AsksElsewhere, kind_of}

-- a name that has a kind is visible
found_named : (v : Visible) (x : List ℕ) (k : Kind) → look_up (names v) (kinds v) x ≡ Some k → Contains (names v) x
found_named [] x k e = let none : look_up {A = Kind} [] [] x ≡ None = refl in absurd (cc)
found_named (pair ∷ v) x k e =
    go (is_word pair.0 x) refl (sym (beside-cons (λ z. is_word z x) pair.0 (names v) pair.1 (kinds v)) ∙ e) (λ f. found_named v x k f)
  where
    go : (b : Bool) → is_word pair.0 x ≡ b → cond b (Some pair.1) (look_up (names v) (kinds v) x) ≡ Some k →
        (look_up (names v) (kinds v) x ≡ Some k → Contains (names v) x) → Contains (pair.0 ∷ names v) x
    go true t f later = subst (Contains (pair.0 ∷ names v)) ((bytes_decides pair.0 x).0 t) (contains_first pair.0 (names v))
    go false t f later = contains_later pair.0 (names v) x (later f)

-- where a whole has a kind, its parts have one
abbrev Has : Option Kind → Type 0
Has o = (k : Kind) × (o ≡ Some k)

by_one : (takes gives : Kind) (a : Option Kind) (k : Kind) → of_one takes gives a ≡ Some k → Has a
by_one takes gives None k e = cc
by_one takes gives (Some j) k e = (j, refl)

by_two : (takes gives : Kind) (a b : Option Kind) (k : Kind) → of_two takes gives a b ≡ Some k → Has a × Has b
by_two takes gives None b k e = cc
by_two takes gives (Some i) None k e = cc
by_two takes gives (Some i) (Some j) k e = ((i, refl), (j, refl))

by_equals : (a b : Option Kind) (k : Kind) → of_equals a b ≡ Some k → Has a × Has b
by_equals None b k e = cc
by_equals (Some i) None k e = cc
by_equals (Some i) (Some j) k e = ((i, refl), (j, refl))

by_operation : (op : Op) (a b : Option Kind) (k : Kind) → kind_of_operation op a b ≡ Some k → Has a × Has b
by_operation Add a b k e = by_two kind.Int kind.Int a b k e
by_operation Sub a b k e = by_two kind.Int kind.Int a b k e
by_operation Mul a b k e = by_two kind.Int kind.Int a b k e
by_operation Div a b k e = by_two kind.Int kind.Int a b k e
by_operation Mod a b k e = by_two kind.Int kind.Int a b k e
by_operation Less a b k e = by_two kind.Int kind.Bool a b k e
by_operation LessEqual a b k e = by_two kind.Int kind.Bool a b k e
by_operation Greater a b k e = by_two kind.Int kind.Bool a b k e
by_operation GreaterEqual a b k e = by_two kind.Int kind.Bool a b k e
by_operation Equal a b k e = by_equals a b k e
by_operation NotEqual a b k e = by_equals a b k e
by_operation And a b k e = by_two kind.Bool kind.Bool a b k e
by_operation Or a b k e = by_two kind.Bool kind.Bool a b k e

in_either : (xs ys : List (List ℕ)) (n : List ℕ) (all : List (List ℕ)) → (Contains xs n → Contains all n) → (Contains ys n → Contains all n) →
    Contains (xs ++ ys) n → Contains all n
in_either xs ys n all f h m = go (Contains-append_cases xs ys n m)
  where
    go : Contains xs n ⊎ Contains ys n → Contains all n
    go (inl c) = f c
    go (inr c) = h c

module _ (v : Visible) where
  -- of an expression that has a kind all variables are visible
  known : (e : Expression) (k : Kind) → kind_at v e ≡ Some k → (n : List ℕ) → Contains (variables e) n → Contains (names v) n
  known (tree.Integer z) k e n m = absurd (none_in_nil n m)
  known (tree.Truth b) k e n m = absurd (none_in_nil n m)
  known tree.Here k e n m = absurd (none_in_nil n m)
  known (tree.Variable x) k e n m = subst (Contains (names v)) (sym (contains_one x n m)) (found_named v x k e)
  known (tree.Not a) k e n m = let r = by_one kind.Bool kind.Bool (kind_at v a) k e in known a r.0 r.1 n m
  known (tree.Negative a) k e n m = let r = by_one kind.Int kind.Int (kind_at v a) k e in known a r.0 r.1 n m
  known (tree.Binary op a b) k e n m =
      let r = by_operation op (kind_at v a) (kind_at v b) k e in
      in_either (variables a) (variables b) n (names v) (λ c. known a r.0.0 r.0.1 n c) (λ c. known b r.1.0 r.1.1 n c) m
  known (tree.Of f a) k e n m = let r = by_one (argument_of f) kind.Int (kind_at v a) k e in known a r.0 r.1 n m
  known (tree.Same a b) k e n m =
      let r = by_two kind.Span kind.Bool (kind_at v a) (kind_at v b) k e in
      in_either (variables a) (variables b) n (names v) (λ c. known a r.0.0 r.0.1 n c) (λ c. known b r.1.0 r.1.1 n c) m
  known (tree.Spells a word) k e n m = let r = by_one kind.Span kind.Bool (kind_at v a) k e in known a r.0 r.1 n m
  known (tree.Outer a b) k e n m =
      let r = by_two kind.Int kind.Int (kind_at v a) (kind_at v b) k e in
      in_either (variables a) (variables b) n (names v) (λ c. known a r.0.0 r.0.1 n c) (λ c. known b r.1.0 r.1.1 n c) m
  known (tree.Inside a b) k e n m =
      let r = by_two kind.Int kind.Bool (kind_at v a) (kind_at v b) k e in
      in_either (variables a) (variables b) n (names v) (λ c. known a r.0.0 r.0.1 n c) (λ c. known b r.1.0 r.1.1 n c) m
  known (tree.FreeBefore pattern) k e n m = absurd (none_in_nil n m)
  known (tree.FreeAfter pattern) k e n m = absurd (none_in_nil n m)

-- a kind that can't fail to be given is given
same_kind : (o : Option Kind) (k : Kind) → ((o ≢ Some k) → ⊥) → o ≡ Some k
same_kind None k f = absurd (f (λ e. cc))
same_kind (Some kind.Int) kind.Int f = refl
same_kind (Some kind.Int) kind.Bool f = absurd (f (λ e. cc))
same_kind (Some kind.Int) kind.Span f = absurd (f (λ e. cc))
same_kind (Some kind.Bool) kind.Int f = absurd (f (λ e. cc))
same_kind (Some kind.Bool) kind.Bool f = refl
same_kind (Some kind.Bool) kind.Span f = absurd (f (λ e. cc))
same_kind (Some kind.Span) kind.Int f = absurd (f (λ e. cc))
same_kind (Some kind.Span) kind.Bool f = absurd (f (λ e. cc))
same_kind (Some kind.Span) kind.Span f = refl

is_listed : (x : Symbol) → ((IsListed x → ⊥) → ⊥) → IsListed x
is_listed (Star x) f = tt
is_listed (Plus x) f = tt
is_listed (SepStar x separator) f = tt
is_listed (SepPlus x separator) f = tt
is_listed (Filtered x filters) f = is_listed x f
is_listed x f = absurd (f (λ z. z))

fit_each : (v : Visible) (es : List Expression) (ps : List Param) → length es ≡ length ps →
    ((i : ℕ) (e : Expression) (p : Param) → slice_get es i ≡ Some e → slice_get ps i ≡ Some p → kind_at v e ≡ Some p.kind) → Fit v es ps
fit_each v [] [] l f = tt
fit_each v [] (p ∷ ps) l f = absurd (omega (arith, l))
fit_each v (e ∷ es) [] l f = absurd (omega (arith, l))
fit_each v (e ∷ es) (p ∷ ps) l f = (f 0 e p refl refl, fit_each v es ps (omega (arith, l)) (λ i d q a b. f (suc i) d q a b))

fit_length : (v : Visible) (es : List Expression) (ps : List Param) → Fit v es ps → length es ≡ length ps
fit_length v [] [] h = refl
fit_length v [] (p ∷ ps) h = absurd h
fit_length v (e ∷ es) [] h = absurd h
fit_length v (e ∷ es) (p ∷ ps) h = ap suc (fit_length v es ps h.1)

fit_at : (v : Visible) (es : List Expression) (ps : List Param) (i : ℕ) (e : Expression) → Fit v es ps → slice_get es i ≡ Some e →
    (p : Param) × (slice_get ps i ≡ Some p) × (kind_at v e ≡ Some p.kind)
fit_at v [] [] i e h a = cc
fit_at v [] (p ∷ ps) i e h a = absurd h
fit_at v (d ∷ es) [] i e h a = absurd h
fit_at v (d ∷ es) (p ∷ ps) zero e h a = (p, refl, ap (kind_at v) (sym (same_Some d e a)) ∙ h.0)
fit_at v (d ∷ es) (p ∷ ps) (suc i) e h a = fit_at v es ps i e h.1 a

module _ (decls : List Decl) (within : DeclKind) (v : Visible) where
  abbrev Fine : Symbol → Type 0
  Fine x = (c : Condition) → SymbolMeets decls within v x c → ⊥

  kinded : (x : Symbol) → Fine x → (e : Expression) → Contains (expressions x) e → IsKinded v e
  kinded x fine e m = go (kind_at v e) refl
    where
      go : (o : Option Kind) → kind_at v e ≡ o → (k : Kind) × (o ≡ Some k)
      go (Some k) h = (k, refl)
      go None h =
          absurd (fine meets.KindMismatch (meets.no_kind x e m ((λ u. fine meets.UnknownVariable (meets.unknown_variable x e m u)), h)))

  calls : (name : List ℕ) (arguments : List Expression) → Fine (Call name arguments) → Calls decls within v name arguments
  calls name arguments fine = go (declaration_of decls name) refl
    where
      go : (o : Option Decl) → declaration_of decls name ≡ o → Calls decls within v name arguments
      go None h = absurd (fine meets.UnknownName (meets.unknown_name name arguments h))
      go (Some d) h =
          record {
            callee = d;
            declared = h;
            fit = fit_each v arguments d.params
                (equal_unless (length arguments) (length d.params) (λ f. fine meets.WrongArity (meets.wrong_arity name arguments d h f)))
                (λ i e p a b. same_kind (kind_at v e) p.kind (λ f. fine meets.KindMismatch (meets.argument_kind name arguments d i e p h a b f)));
            allowed = λ l s. fine meets.SyntaxInLexical (meets.syntax_in_lexical name arguments d l h s);
          }

  asks : (x : Symbol) → Fine x → Asks decls within v x
  asks (Call name arguments) fine = calls name arguments fine
  asks (Label name x) fine = λ m. fine meets.DuplicateVariable (meets.duplicate_label name x m)
  asks (Guard e) fine = same_kind (kind_at v e) kind.Bool (λ f. fine meets.KindMismatch (meets.guard_kind e f))
  asks (Let name e) fine =
      ((λ m. fine meets.DuplicateVariable (meets.duplicate_let name e m)), kinded (Let name e) fine e (contains_first e []))
  asks (Offside x) fine = λ l. fine meets.MarkInLexical (meets.offside_in_lexical x l)
  asks (Ignore x) fine = λ l. fine meets.MarkInLexical (meets.ignore_in_lexical x l)
  asks (Align x) fine = (
    is_listed x (λ f. fine meets.AlignNotList (meets.align_not_list x f)),
    λ l. fine meets.MarkInLexical (meets.align_in_lexical x l),
  )
  asks (Entry bindings x) fine = λ e m. kinded (Entry bindings x) fine e m
  asks x fine = tt

  asked_kinded : (x : Symbol) → Asks decls within v x → (e : Expression) → Contains (expressions x) e → IsKinded v e
  asked_kinded (Call name arguments) a e m =
      let at = at_from_contains arguments e m in let r = fit_at v arguments a.callee.params at.0 e a.fit at.1 in (r.0.kind, r.2)
  asked_kinded (Guard d) a e m = (kind.Bool, ap (kind_at v) (contains_one d e m) ∙ a)
  asked_kinded (Let name d) a e m = (a.1.0, ap (kind_at v) (contains_one d e m) ∙ a.1.1)
  asked_kinded (Entry bindings x) a e m = a e m
  asked_kinded x a e m = absurd (none_in_nil e m)

  one_callee : (name : List ℕ) (arguments : List Expression) (a : Calls decls within v name arguments) (d : Decl) → declaration_of decls name ≡ Some d → a.callee ≡ d
  one_callee name arguments a d h = same_Some a.callee d (sym a.declared ∙ h)

  unmet : (x : Symbol) → Asks decls within v x → Fine x
  unmet x a c (meets.unknown_name name arguments none) = let clash : Some a.callee ≡ None = sym a.declared ∙ none in cc
  unmet x a c (meets.wrong_arity name arguments callee found differs) =
      differs (fit_length v arguments a.callee.params a.fit ∙ ap (λ (d : Decl). length d.params) (one_callee name arguments a callee found))
  unmet x a c (meets.unknown_variable _ e m u) = let r = asked_kinded x a e m in u.2 (known v e r.0 r.1 u.0 u.1)
  unmet x a c (meets.duplicate_label name y m) = a m
  unmet x a c (meets.duplicate_let name e m) = a.0 m
  unmet x a c (meets.no_kind _ e m n) = let r = asked_kinded x a e m in let clash : Some r.0 ≡ None = sym r.1 ∙ n.1 in cc
  unmet x a c (meets.guard_kind e f) = f a
  unmet x a c (meets.argument_kind name arguments callee i e p found at there differs) =
      let r = fit_at v arguments a.callee.params i e a.fit at in
      let same : r.0 ≡ p =
      same_Some r.0 p (sym r.1 ∙ ap (λ (d : Decl). slice_get d.params i) (one_callee name arguments a callee found) ∙ there) in
      differs (r.2 ∙ ap (λ (q : Param). Some q.kind) same)
  unmet x a c (meets.align_not_list y f) = f a.0
  unmet x a c (meets.offside_in_lexical y l) = a l
  unmet x a c (meets.ignore_in_lexical y l) = a l
  unmet x a c (meets.align_in_lexical y l) = a.1 l
  unmet x a c (meets.syntax_in_lexical name arguments callee l found s) =
      a.allowed l (ap (λ (d : Decl). d.kind) (one_callee name arguments a callee found) ∙ s)

pub symbols_ask : SymbolsAsk
symbols_ask = record { asks = asks; unmet = unmet }

-- a visible name has a kind
named_found : (v : Visible) (x : List ℕ) → Contains (names v) x → kind_of v x ≡ None → ⊥
named_found [] x m e = none_in_nil x m
named_found (pair ∷ v) x m e =
    go (is_word pair.0 x) refl (sym (beside-cons (λ z. is_word z x) pair.0 (names v) pair.1 (kinds v)) ∙ e)
    (Contains-append_cases (pair.0 ∷ []) (names v) x m) (λ c f. named_found v x c f)
  where
    go : (b : Bool) → is_word pair.0 x ≡ b → cond b (Some pair.1) (kind_of v x) ≡ None →
        Contains (pair.0 ∷ []) x ⊎ Contains (names v) x → (Contains (names v) x → kind_of v x ≡ None → ⊥) → ⊥
    go true t f c later = cc
    go false t f (inl c) later =
        let clash : true ≡ false = sym ((bytes_decides pair.0 x).1 (sym (contains_one pair.0 x c))) ∙ t in cc
    go false t f (inr c) later = later c f

still_new : (v w : Visible) (name : List ℕ) → kind_of w name ≡ kind_of v name → (Contains (names v) name → ⊥) → Contains (names w) name → ⊥
still_new v w name same new m = go (kind_of v name) refl
  where
    go : (o : Option Kind) → kind_of v name ≡ o → ⊥
    go None e = named_found w name m (same ∙ e)
    go (Some k) e = new (found_named v name k e)

module _ (v w : Visible) where
  abbrev Alike : List (List ℕ) → Type 0
  Alike ns = (name : List ℕ) → Contains ns name → kind_of w name ≡ kind_of v name

  first_of : (ns ms : List (List ℕ)) → Alike (ns ++ ms) → Alike ns
  first_of ns ms f name m = f name (Contains-append_left ns ms name m)

  second_of : (ns ms : List (List ℕ)) → Alike (ns ++ ms) → Alike ms
  second_of ns ms f name m = f name (Contains-append_right ns ms name m)

  kinds_same : (e : Expression) → Alike (variables e) → kind_at w e ≡ kind_at v e
  kinds_same (tree.Integer z) f = refl
  kinds_same (tree.Truth b) f = refl
  kinds_same tree.Here f = refl
  kinds_same (tree.Variable x) f = f x (contains_first x [])
  kinds_same (tree.Not a) f = ap (of_one kind.Bool kind.Bool) (kinds_same a f)
  kinds_same (tree.Negative a) f = ap (of_one kind.Int kind.Int) (kinds_same a f)
  kinds_same (tree.Binary op a b) f =
      ap₂ (kind_of_operation op) (kinds_same a (first_of (variables a) (variables b) f)) (kinds_same b (second_of (variables a) (variables b) f))
  kinds_same (tree.Of function a) f = ap (of_one (argument_of function) kind.Int) (kinds_same a f)
  kinds_same (tree.Same a b) f =
      ap₂ (of_two kind.Span kind.Bool) (kinds_same a (first_of (variables a) (variables b) f)) (kinds_same b (second_of (variables a) (variables b) f))
  kinds_same (tree.Spells a word) f = ap (of_one kind.Span kind.Bool) (kinds_same a f)
  kinds_same (tree.Outer a b) f =
      ap₂ (of_two kind.Int kind.Int) (kinds_same a (first_of (variables a) (variables b) f)) (kinds_same b (second_of (variables a) (variables b) f))
  kinds_same (tree.Inside a b) f =
      ap₂ (of_two kind.Int kind.Bool) (kinds_same a (first_of (variables a) (variables b) f)) (kinds_same b (second_of (variables a) (variables b) f))
  kinds_same (tree.FreeBefore pattern) f = refl
  kinds_same (tree.FreeAfter pattern) f = refl

fit_still : (v w : Visible) (es : List Expression) (ps : List Param) → ((e : Expression) → Contains es e → kind_at w e ≡ kind_at v e) →
    Fit v es ps → Fit w es ps
fit_still v w [] [] f h = tt
fit_still v w [] (p ∷ ps) f h = absurd h
fit_still v w (e ∷ es) [] f h = absurd h
fit_still v w (e ∷ es) (p ∷ ps) f h =
    (f e (contains_first e es) ∙ h.0, fit_still v w es ps (λ d m. f d (contains_later e es d m)) h.1)

fit_more : (v : Visible) (es ds : List Expression) (ps qs : List Param) → Fit v es ps → Fit v ds qs → Fit v (es ++ ds) (ps ++ qs)
fit_more v [] ds [] qs h m = m
fit_more v [] ds (p ∷ ps) qs h m = absurd h
fit_more v (e ∷ es) ds [] qs h m = absurd h
fit_more v (e ∷ es) ds (p ∷ ps) qs h m = (h.0, fit_more v es ds ps qs h.1 m)

pub asks_elsewhere : AsksElsewhere
asks_elsewhere = record { same_kind = kinds_same; still_new = still_new; fit_still = fit_still; fit_more = fit_more }
