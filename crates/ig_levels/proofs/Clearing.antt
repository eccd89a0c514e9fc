-- Where nothing binds or reads the bounds' names, every name is one of the source.
use Rattle.std.proofs.Common.{ℕ, List, [], ◌∷◌, ◌++◌, map, subst}
use Rattle.std.specs.Prelude.{All, Contains}
use Rattle.std.specs.List.{flat_map}
use Rattle.std.proofs.lemmas.List.Elements.{All-nil, All-cons, All-head, All-tail, Contains-append_left, Contains-append_right}
use Rattle.std.proofs.lemmas.List.Concat.{flat_map-cons}
use Rattle.ig_expr.specs.Expression.{Expression, Integer, Truth, Here, Variable, Not, Negative, Binary, Of, Same, Spells, Outer, Inside, FreeBefore, FreeAfter}
use Rattle.ig_grammar.specs.Binding.{Binding}
use Rattle.ig_grammar.specs.Condition.{variables}
use Rattle.ig_grammar.specs.Subterms.{subterms, subterms_of_symbols, subterms_of_alternatives}
use Rattle.ig_grammar.specs.Symbol.{Symbol, Literal, OneOf, Call, Label, Guard, Let, Opt, Star, Plus, SepStar, SepPlus, Group, Offside, Ignore, Align, Filtered, Seq, Entry}
use Rattle.ig_grammar.specs.Symbol.{Symbols, no_symbols, next_symbol, Alternatives, no_alternatives, next_alternative, gathered}
use Rattle.ig_grammar.specs.declared.declaration.Param.{Param}
use Rattle.ig_grammar.specs.declared.grammar.Grammar.{Grammar}
use Rattle.ig_pass.specs.Added.{left_name, right_name}
use Rattle.ig_pass.specs.Unbound.{IsUnbound, LacksName}
use Rattle.ig_levels.proofs.WithBounds.{IsSource, OfSource, AllOfSource, BindingsOfSource, ParametersOfSource, Clear, SymbolsClear, AlternativesClear, AllClear}
use Rattle.ig_pass.specs.EachLevel.{everywhere}
use Rattle.ig_text.proofs.Lists.{contains_first}
use Rattle.ig_text.proofs.Lists.{contains_from_at, halves}
use Rattle.ig_levels.proofs.Premises.{IsClear}

-- neither name of a bound is among these
pub record LackBounds (names : List (List ℕ)) : Type 0 where
  pub left : Contains names left_name → ⊥
  pub right : Contains names right_name → ⊥

first_lacks : (xs ys : List (List ℕ)) → LackBounds (xs ++ ys) → LackBounds xs
first_lacks xs ys l =
    record { left = λ h. l.left (Contains-append_left xs ys left_name h); right = λ h. l.right (Contains-append_left xs ys right_name h) }

others_lack : (xs ys : List (List ℕ)) → LackBounds (xs ++ ys) → LackBounds ys
others_lack xs ys l =
    record { left = λ h. l.left (Contains-append_right xs ys left_name h); right = λ h. l.right (Contains-append_right xs ys right_name h) }

of_source : (name : List ℕ) (names : List (List ℕ)) → LackBounds (name ∷ names) → IsSource name
of_source name names l =
    record {
      not_left = λ e. l.left (subst (Contains (name ∷ names)) e (contains_first name names));
      not_right = λ e. l.right (subst (Contains (name ∷ names)) e (contains_first name names));
    }

expression_of_source : (e : Expression) → LackBounds (variables e) → OfSource e
expression_of_source (Integer n) l = tt
expression_of_source (Truth b) l = tt
expression_of_source Here l = tt
expression_of_source (Variable x) l = of_source x [] l
expression_of_source (Not a) l = expression_of_source a l
expression_of_source (Negative a) l = expression_of_source a l
expression_of_source (Binary op a b) l =
    (expression_of_source a (first_lacks (variables a) (variables b) l), expression_of_source b (others_lack (variables a) (variables b) l))
expression_of_source (Of f a) l = expression_of_source a l
expression_of_source (Same a b) l =
    (expression_of_source a (first_lacks (variables a) (variables b) l), expression_of_source b (others_lack (variables a) (variables b) l))
expression_of_source (Spells a word) l = expression_of_source a l
expression_of_source (Outer a b) l =
    (expression_of_source a (first_lacks (variables a) (variables b) l), expression_of_source b (others_lack (variables a) (variables b) l))
expression_of_source (Inside a b) l =
    (expression_of_source a (first_lacks (variables a) (variables b) l), expression_of_source b (others_lack (variables a) (variables b) l))
expression_of_source (FreeBefore pattern) l = tt
expression_of_source (FreeAfter pattern) l = tt

all_of_source : (es : List Expression) → LackBounds (flat_map variables es) → AllOfSource es
all_of_source [] l = tt
all_of_source (e ∷ es) l =
    let both = subst LackBounds (flat_map-cons variables e es) l in
    (expression_of_source e (first_lacks (variables e) (flat_map variables es) both), all_of_source es (others_lack (variables e) (flat_map variables es) both))

bindings_of_source : (bs : List Binding) → LackBounds (map (λ (b : Binding). b.name) bs) → LackBounds (flat_map variables (map (λ (b : Binding). b.value) bs)) → BindingsOfSource bs
bindings_of_source [] n l = tt
bindings_of_source (b ∷ bs) n l =
    let values : List Expression = map (λ (z : Binding). z.value) bs in
    let both = subst LackBounds (flat_map-cons variables b.value values) l in (
      of_source b.name (map (λ (z : Binding). z.name) bs) n,
      expression_of_source b.value (first_lacks (variables b.value) (flat_map variables values) both),
      bindings_of_source bs (others_lack (b.name ∷ []) (map (λ (z : Binding). z.name) bs) n) (others_lack (variables b.value) (flat_map variables values) both),
    )

parameters_of_source : (ps : List Param) → LackBounds (map (λ (p : Param). p.name) ps) → ParametersOfSource ps
parameters_of_source [] l = tt
parameters_of_source (p ∷ ps) l =
    (of_source p.name (map (λ (z : Param). z.name) ps) l, parameters_of_source ps (others_lack (p.name ∷ []) (map (λ (z : Param). z.name) ps) l))

-- neither name is bound or read at the symbol itself
abbrev LacksBoth : Symbol → Type 0
LacksBoth x = LacksName left_name x × LacksName right_name x

mutual
  clear : (x : Symbol) → All LacksBoth (subterms x) → Clear x
  clear (Literal word) a = tt
  clear (OneOf class) a = tt
  clear (Call name arguments) a = let h = All-head LacksBoth (Call name arguments) [] a in all_of_source arguments (record { left = h.0; right = h.1 })
  clear (Label name x) a =
      let h = All-head LacksBoth (Label name x) (subterms x) a in
      (of_source name [] (record { left = h.0; right = h.1 }), clear x (All-tail LacksBoth (Label name x) (subterms x) a))
  clear (Guard e) a =
      let h = All-head LacksBoth (Guard e) [] a in
      expression_of_source e (first_lacks (variables e) [] (record { left = h.0; right = h.1 }))
  clear (Let name e) a =
      let h = All-head LacksBoth (Let name e) [] a in
      let l : LackBounds (name ∷ (variables e ++ [])) = record { left = h.0; right = h.1 } in
      (of_source name (variables e ++ []) l, expression_of_source e (first_lacks (variables e) [] (others_lack (name ∷ []) (variables e ++ []) l)))
  clear (Opt x) a = clear x (All-tail LacksBoth (Opt x) (subterms x) a)
  clear (Star x) a = clear x (All-tail LacksBoth (Star x) (subterms x) a)
  clear (Plus x) a = clear x (All-tail LacksBoth (Plus x) (subterms x) a)
  clear (SepStar x separator) a =
      let b = All-tail LacksBoth (SepStar x separator) (subterms x ++ subterms separator) a in
      (clear x (halves LacksBoth (subterms x) (subterms separator) b).0, clear separator (halves LacksBoth (subterms x) (subterms separator) b).1)
  clear (SepPlus x separator) a =
      let b = All-tail LacksBoth (SepPlus x separator) (subterms x ++ subterms separator) a in
      (clear x (halves LacksBoth (subterms x) (subterms separator) b).0, clear separator (halves LacksBoth (subterms x) (subterms separator) b).1)
  clear (Group choices) a = clear_alternatives choices (All-tail LacksBoth (Group choices) (subterms_of_alternatives choices) a)
  clear (Offside x) a = clear x (All-tail LacksBoth (Offside x) (subterms x) a)
  clear (Ignore x) a = clear x (All-tail LacksBoth (Ignore x) (subterms x) a)
  clear (Align x) a = clear x (All-tail LacksBoth (Align x) (subterms x) a)
  clear (Filtered x filters) a = clear x (All-tail LacksBoth (Filtered x filters) (subterms x) a)
  clear (Seq xs) a = clear_symbols xs (All-tail LacksBoth (Seq xs) (subterms_of_symbols xs) a)
  clear (Entry bindings x) a =
      let h = All-head LacksBoth (Entry bindings x) (subterms x) a in
      let names : List (List ℕ) = map (λ (b : Binding). b.name) bindings in
      let read : List (List ℕ) = flat_map variables (map (λ (b : Binding). b.value) bindings) in
      let l : LackBounds (names ++ read) = record { left = h.0; right = h.1 } in
      (bindings_of_source bindings (first_lacks names read l) (others_lack names read l), clear x (All-tail LacksBoth (Entry bindings x) (subterms x) a))

  clear_symbols : (xs : Symbols) → All LacksBoth (subterms_of_symbols xs) → SymbolsClear xs
  clear_symbols no_symbols a = tt
  clear_symbols (next_symbol x xs) a =
      (clear x (halves LacksBoth (subterms x) (subterms_of_symbols xs) a).0, clear_symbols xs (halves LacksBoth (subterms x) (subterms_of_symbols xs) a).1)

  clear_alternatives : (choices : Alternatives) → All LacksBoth (subterms_of_alternatives choices) → AlternativesClear choices
  clear_alternatives no_alternatives a = tt
  clear_alternatives (next_alternative xs others) a = (
    clear_symbols xs (halves LacksBoth (subterms_of_symbols xs) (subterms_of_alternatives others) a).0,
    clear_alternatives others (halves LacksBoth (subterms_of_symbols xs) (subterms_of_alternatives others) a).1,
  )

all_clear : (xs : List Symbol) → SymbolsClear (gathered xs) → AllClear xs
all_clear [] c = tt
all_clear (x ∷ xs) c = (c.0, all_clear xs c.1)

both_lack : (xs : List Symbol) → All (LacksName left_name) xs → All (LacksName right_name) xs → All LacksBoth xs
both_lack [] a b = All-nil LacksBoth
both_lack (x ∷ xs) a b =
    All-cons LacksBoth x xs (All-head (LacksName left_name) x xs a, All-head (LacksName right_name) x xs b)
    (both_lack xs (All-tail (LacksName left_name) x xs a) (All-tail (LacksName right_name) x xs b))

pub clear_of : (g : Grammar) → IsUnbound g left_name → IsUnbound g right_name → IsClear g
clear_of g left right =
    record {
      parameters = λ d decl at.
          let m = contains_from_at g.decls at.0 decl at.2 in
          parameters_of_source decl.params (record { left = left.parameters decl m; right = right.parameters decl m });
      clear = λ d decl k a at numbered.
          all_clear a.alternative.symbols (clear_symbols (gathered a.alternative.symbols)
          (both_lack (subterms_of_symbols (gathered a.alternative.symbols))
          (everywhere (LacksName left_name) g left.symbols at.0 k decl a at.2 numbered)
          (everywhere (LacksName right_name) g right.symbols at.0 k decl a at.2 numbered)));
    }
