-- The grammar is well scoped.
use Rattle.std.proofs.Common.{◌≡◌, ℕ, zero, suc, List, [], ◌∷◌, Some, None, true, false, Contains, length, slice_get, refl, sym, ◌∙◌, ap, subst, arith}
use Rattle.std.specs.Prelude.{codes, count_by}
use Rattle.std.proofs.lemmas.Option.{same_Some}
use Rattle.ig_text.proofs.Lists.{none_in_nil}
use Rattle.ig_expr.specs.Expression.{Expression}
use Rattle.ig_grammar.specs.Condition as condition
use Rattle.ig_grammar.specs.Condition.{Condition, declaration_of, symbols_of, binds_name, SymbolMeets, AlternativeMeets, HeadMeets, StartMeets}
use Rattle.ig_grammar.specs.Condition.{unknown_name, wrong_arity, unknown_variable, duplicate_label, duplicate_let, no_kind, guard_kind, argument_kind, align_not_list, offside_in_lexical, ignore_in_lexical, align_in_lexical, syntax_in_lexical}
use Rattle.ig_grammar.specs.Condition.{too_many_variables, duplicate_name, duplicate_parameter, layout_not_plain, too_many_nonterminals, too_many_parameters, unknown_start, no_start, start_has_parameters, bad_tabs}
use Rattle.ig_grammar.specs.Numbering.{alternatives}
use Rattle.ig_grammar.specs.Symbol.{Symbol, Literal, OneOf, Call}
use Rattle.ig_grammar.specs.Visible.{Visible, Occurrence}
use Rattle.ig_grammar.specs.WellScoped.{AlternativeHas, DeclarationHas, GrammarHas, IsWellScoped}
use Rattle.ig_grammar.specs.declared.symbol.Alt.{Alt}
use Rattle.ig_grammar.specs.declared.declaration.Decl.{Decl}
use Rattle.ig_grammar.specs.declared.declaration.DeclKind.TheVariants.{Syntax}
use Rattle.ig_load.specs.Grammar.{LoadGrammar, expressions, levels, operand, operation}

-- a literal, a class, or a call of the nonterminal
abbrev pub IsPlain : Symbol → Type 0
IsPlain (Literal word) = Unit {0}
IsPlain (OneOf class) = Unit {0}
IsPlain (Call name arguments) = (name ≡ codes "E") × (arguments ≡ [])
IsPlain x = ⊥

no_expressions : (x : Symbol) → IsPlain x → condition.expressions x ≡ []
no_expressions (Literal word) plain = refl
no_expressions (OneOf class) plain = refl
no_expressions (Call name arguments) plain = plain.1
no_expressions x plain = absurd plain

none_among : (x : Symbol) (e : Expression) → IsPlain x → Contains (condition.expressions x) e → ⊥
none_among x e plain among = none_in_nil e (subst (λ (es : List Expression). Contains es e) (no_expressions x plain) among)

-- the name is that of the declaration
called : (name : List ℕ) (callee : Decl) → name ≡ codes "E" → declaration_of (expressions ∷ []) name ≡ Some callee → expressions ≡ callee
called name callee is found =
    same_Some expressions callee (sym (ap (declaration_of (expressions ∷ [])) is) ∙ found)

none_at : {A : Type 0} (xs : List A) (k : ℕ) (x : A) → xs ≡ [] → slice_get xs k ≡ Some x → ⊥
none_at {A = A} xs k x e there = let none : None ≡ Some x = sym (ap (λ (z : List A). slice_get z k) e) ∙ there in cc

-- nothing is told of such a symbol
symbol_well : (v : Visible) (x : Symbol) (c : Condition) → IsPlain x → SymbolMeets (expressions ∷ []) Syntax v x c → ⊥
symbol_well v x c plain (unknown_name name arguments none) =
    let found : declaration_of (expressions ∷ []) name ≡ Some expressions = ap (declaration_of (expressions ∷ [])) plain.0 in cc
symbol_well v x c plain (wrong_arity name arguments callee found differ) =
    differ (ap length plain.1 ∙ ap (λ (d : Decl). length d.params) (called name callee plain.0 found))
symbol_well v x c plain (unknown_variable y e among unknown) = none_among y e plain among
symbol_well v x c plain (duplicate_label name y among) = plain
symbol_well v x c plain (duplicate_let name e among) = plain
symbol_well v x c plain (no_kind y e among none) = none_among y e plain among
symbol_well v x c plain (guard_kind e differ) = plain
symbol_well v x c plain (argument_kind name arguments callee k e p found argument parameter differ) =
    none_at arguments k e plain.1 argument
symbol_well v x c plain (align_not_list y no_list) = plain
symbol_well v x c plain (offside_in_lexical y lexical) = plain
symbol_well v x c plain (ignore_in_lexical y lexical) = plain
symbol_well v x c plain (align_in_lexical y lexical) = plain
symbol_well v x c plain (syntax_in_lexical name arguments callee lexical found syntax) = lexical

abbrev ArePlain : List Occurrence → Type 0
ArePlain [] = Unit {0}
ArePlain (o ∷ os) = IsPlain o.symbol × ArePlain os

plain_at : (os : List Occurrence) (k : ℕ) (o : Occurrence) → ArePlain os → slice_get os k ≡ Some o → IsPlain o.symbol
plain_at [] k o plain e = absurd (cc)
plain_at (p ∷ os) zero o plain e = subst (λ (z : Occurrence). IsPlain z.symbol) (same_Some p o e) plain.0
plain_at (p ∷ os) (suc k) o plain e = plain_at os k o plain.1 e

-- an alternative of plain symbols that bind nothing
pub record IsWell (a : Alt) : Type 0 where
  pub plain : ArePlain (symbols_of expressions a)
  pub unbound : count_by (λ o. binds_name o.symbol) (symbols_of expressions a) ≡ 0

operand_well : IsWell operand
operand_well = record { plain = (tt, tt); unbound = refl }

operation_well : (sign : ℕ) → IsWell (operation sign)
operation_well sign = record { plain = ((refl, refl), (tt, ((refl, refl), tt))); unbound = refl }

alternative_well : (k : ℕ) (a : Alt) → slice_get (alternatives levels) k ≡ Some a → IsWell a
alternative_well zero a e = subst IsWell (same_Some operand a e) operand_well
alternative_well (suc zero) a e = subst IsWell (same_Some (operation 94) a e) (operation_well 94)
alternative_well (suc (suc zero)) a e = subst IsWell (same_Some (operation 42) a e) (operation_well 42)
alternative_well (suc (suc (suc zero))) a e = subst IsWell (same_Some (operation 43) a e) (operation_well 43)
alternative_well (suc (suc (suc (suc zero)))) a e = subst IsWell (same_Some (operation 45) a e) (operation_well 45)
alternative_well (suc (suc (suc (suc (suc k))))) a e = absurd (cc)

few_variables : (a : Alt) (c : Condition) → IsWell a → AlternativeMeets expressions a c → ⊥
few_variables a c well (too_many_variables named many) = let none = well.unbound in omega arith

alternative_has : (a : Alt) (symbol : ℕ) (c : Condition) → IsWell a → AlternativeHas (expressions ∷ []) expressions a symbol c → ⊥
alternative_has a zero c well meets = few_variables a c well meets
alternative_has a (suc before) c well meets =
    symbol_well meets.0.visible meets.0.symbol c (plain_at (symbols_of expressions a) before meets.0 well.plain meets.1) meets.2

head_well : (c : Condition) → HeadMeets (expressions ∷ []) 0 expressions c → ⊥
head_well c (duplicate_name among) = none_in_nil (codes "E") among
head_well c (duplicate_parameter k p there among) = none_at [] k p refl there
head_well c (layout_not_plain is no_plain) = cc
head_well c (too_many_nonterminals named many) = omega arith
head_well c (too_many_parameters named many) = omega arith

declaration_has : (alternative symbol : ℕ) (c : Condition) → DeclarationHas (expressions ∷ []) 0 expressions alternative symbol c → ⊥
declaration_has zero zero c meets = head_well c meets
declaration_has zero (suc symbol) c meets = meets
declaration_has (suc before) symbol c meets =
    alternative_has meets.0 symbol c (alternative_well before meets.0 meets.1) meets.2

start_well : (c : Condition) → StartMeets LoadGrammar c → ⊥
unfolding LoadGrammar
start_well c (unknown_start name is none) =
    let found : declaration_of (expressions ∷ []) name ≡ Some expressions =
    ap (declaration_of (expressions ∷ [])) (sym (same_Some (codes "E") name is)) in cc
start_well c (no_start none) = cc
start_well c (start_has_parameters name decl is found differ) =
    differ (ap (λ (d : Decl). d.params) (sym (called name decl (sym (same_Some (codes "E") name is)) found)))
start_well c (bad_tabs bad) = let no : false ≡ true = bad in cc

only : (k : ℕ) (decl : Decl) → slice_get (expressions ∷ []) k ≡ Some decl → (k ≡ 0) × (decl ≡ expressions)
only zero decl e = (refl, sym (same_Some expressions decl e))
only (suc k) decl e = absurd (cc)

grammar_has : (d a s : ℕ) (c : Condition) → GrammarHas LoadGrammar d a s c → ⊥
unfolding LoadGrammar
grammar_has zero zero zero c meets = start_well c meets
grammar_has zero zero (suc s) c meets = meets
grammar_has zero (suc a) s c meets = meets
grammar_has (suc before) a s c meets =
    let is = only before meets.0 meets.1 in
    declaration_has a s c
    (subst (λ (k : ℕ). DeclarationHas (expressions ∷ []) k expressions a s c) is.0
    (subst (λ (z : Decl). DeclarationHas (expressions ∷ []) before z a s c) is.1 meets.2))

pub well_scoped : IsWellScoped LoadGrammar
well_scoped place c has = grammar_has place.decl place.alt place.symbol c has
