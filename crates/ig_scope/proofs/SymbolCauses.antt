-- What holds at a symbol of each form.
use Rattle.std.proofs.Common.{◌≡◌, ◌≢◌, ℕ, zero, suc, ◌≤◌, List, [], ◌∷◌, length, map, Option, Some, None, refl, sym, ◌∙◌, ap, subst, arith}
use Rattle.std.specs.Prelude.{Contains, slice_get}
use Rattle.ig_expr.specs.Expression.{Expression}
use Rattle.ig_expr.specs.declared.kind.Kind.TheVariants as kind
use Rattle.ig_grammar.specs.Binding.{Binding}
use Rattle.ig_grammar.specs.Symbol.{Symbol, Literal, OneOf, Call, Label, Guard, Let, Opt, Star, Plus, SepStar, SepPlus, Group, Offside, Ignore, Align, Filtered, Seq, Entry}
use Rattle.ig_grammar.specs.Visible.{Visible, names, kind_at}
use Rattle.ig_grammar.specs.Condition as condition
use Rattle.ig_grammar.specs.Condition.{Condition, number, SymbolMeets, declaration_of, NamesUnknown, IsListed, IsInLexical}
use Rattle.ig_grammar.specs.Condition.{unknown_name, wrong_arity, unknown_variable, duplicate_label, duplicate_let, no_kind, guard_kind, argument_kind, align_not_list, offside_in_lexical, ignore_in_lexical, align_in_lexical, syntax_in_lexical}
use Rattle.ig_grammar.specs.WellScoped.{IsLeast}
use Rattle.ig_grammar.specs.declared.declaration.DeclKind.{DeclKind}
use Rattle.ig_grammar.specs.declared.declaration.DeclKind.TheVariants.{Syntax}
use Rattle.ig_grammar.specs.declared.declaration.Param.{Param}
use Rattle.ig_grammar.specs.declared.declaration.Decl.{Decl}
use Rattle.ig_scope.specs.Causes.{Tells, NoneHolds}
use Rattle.ig_text.proofs.Options.{not_none, one_value}
use Rattle.ig_text.proofs.Lists.{none_in_nil, it_is_in, at_from_contains, contains_one}
use Rattle.ig_text.proofs.Pairwise.{beside}
use Rattle.ig_scope.specs.Symbols.{HasUnknown, HasUnkinded, IsMismatched, TellsMark}
use Rattle.ig_scope.specs.declared.cause.ScopeCause.{ScopeCause}
use Rattle.ig_scope.specs.declared.cause.ScopeCause.TheVariants.{MarkInLexical}

known_only : (v : Visible) (x : Expression) → (NamesUnknown v x → ⊥) → HasUnknown v (x ∷ []) → ⊥
known_only v x n h = n (subst (NamesUnknown v) (contains_one x h.0 h.1) h.2)

pub mismatch_same : (v : Visible) {es fs : List Expression} {ps qs : List Param} → es ≡ fs → ps ≡ qs → IsMismatched v es ps → IsMismatched v fs qs
mismatch_same v {es} {fs} {ps} {qs} e p h = subst (IsMismatched v fs) p (subst (λ z. IsMismatched v z ps) e h)

module _ (decls : List Decl) (within : DeclKind) (v : Visible) where
  -- a form without expressions of its own, at which nothing else is asked
  abbrev pub IsQuiet : Symbol → Type 0
  IsQuiet (Literal word) = Unit {0}
  IsQuiet (OneOf class) = Unit {0}
  IsQuiet (Opt x) = Unit {0}
  IsQuiet (Star x) = Unit {0}
  IsQuiet (Plus x) = Unit {0}
  IsQuiet (SepStar x separator) = Unit {0}
  IsQuiet (SepPlus x separator) = Unit {0}
  IsQuiet (Group choices) = Unit {0}
  IsQuiet (Filtered x filters) = Unit {0}
  IsQuiet (Seq xs) = Unit {0}
  IsQuiet x = ⊥

  pub label_twice : (name : List ℕ) (x : Symbol) → Contains (names v) name → IsLeast (SymbolMeets decls within v (Label name x)) condition.DuplicateVariable
  label_twice name x m = record { holds = duplicate_label name x m; least = λ other h. go other h; first_case = λ other p e. omega arith }
    where
      go : (other : Condition) → SymbolMeets decls within v (Label name x) other → 5 ≤ number other
      go other (unknown_variable y e n u) = absurd (none_in_nil e n)
      go other (duplicate_label n y p) = omega arith
      go other (no_kind y e n u) = absurd (none_in_nil e n)

  pub label_once : (name : List ℕ) (x : Symbol) → (Contains (names v) name → ⊥) → NoneHolds (SymbolMeets decls within v (Label name x))
  label_once name x m c (unknown_variable y e n u) = none_in_nil e n
  label_once name x m c (duplicate_label n y p) = m p
  label_once name x m c (no_kind y e n u) = none_in_nil e n

  -- a cause that is a mark's, by the form that the mark has
  marked : (x : Symbol) (cause : ScopeCause) → cause ≡ MarkInLexical → SymbolMeets decls within v x condition.MarkInLexical →
      ((other : Condition) → SymbolMeets decls within v x other → 11 ≤ number other) → Tells (SymbolMeets decls within v x) (Some cause)
  marked x cause e h l = subst (λ z. Tells (SymbolMeets decls within v x) (Some z)) (sym e) (record { holds = h; least = l; first_case = λ other p e. omega arith })

  pub tells_offside : (x : Symbol) (r : Option ScopeCause) → TellsMark within r → Tells (SymbolMeets decls within v (Offside x)) r
  tells_offside x None m = λ c h. go c h
    where
      go : (c : Condition) → SymbolMeets decls within v (Offside x) c → ⊥
      go c (unknown_variable y e n u) = none_in_nil e n
      go c (no_kind y e n u) = none_in_nil e n
      go c (offside_in_lexical y i) = m i
  tells_offside x (Some cause) m = marked (Offside x) cause m.0 (offside_in_lexical x m.1) (λ other h. go other h)
    where
      go : (other : Condition) → SymbolMeets decls within v (Offside x) other → 11 ≤ number other
      go other (unknown_variable y e n u) = absurd (none_in_nil e n)
      go other (no_kind y e n u) = absurd (none_in_nil e n)
      go other (offside_in_lexical y i) = omega arith

  pub tells_ignore : (x : Symbol) (r : Option ScopeCause) → TellsMark within r → Tells (SymbolMeets decls within v (Ignore x)) r
  tells_ignore x None m = λ c h. go c h
    where
      go : (c : Condition) → SymbolMeets decls within v (Ignore x) c → ⊥
      go c (unknown_variable y e n u) = none_in_nil e n
      go c (no_kind y e n u) = none_in_nil e n
      go c (ignore_in_lexical y i) = m i
  tells_ignore x (Some cause) m = marked (Ignore x) cause m.0 (ignore_in_lexical x m.1) (λ other h. go other h)
    where
      go : (other : Condition) → SymbolMeets decls within v (Ignore x) other → 11 ≤ number other
      go other (unknown_variable y e n u) = absurd (none_in_nil e n)
      go other (no_kind y e n u) = absurd (none_in_nil e n)
      go other (ignore_in_lexical y i) = omega arith

  pub tells_align : (x : Symbol) (r : Option ScopeCause) → IsListed x → TellsMark within r → Tells (SymbolMeets decls within v (Align x)) r
  tells_align x None l m = λ c h. go c h
    where
      go : (c : Condition) → SymbolMeets decls within v (Align x) c → ⊥
      go c (unknown_variable y e n u) = none_in_nil e n
      go c (no_kind y e n u) = none_in_nil e n
      go c (align_not_list y i) = i l
      go c (align_in_lexical y i) = m i
  tells_align x (Some cause) l m = marked (Align x) cause m.0 (align_in_lexical x m.1) (λ other h. go other h)
    where
      go : (other : Condition) → SymbolMeets decls within v (Align x) other → 11 ≤ number other
      go other (unknown_variable y e n u) = absurd (none_in_nil e n)
      go other (no_kind y e n u) = absurd (none_in_nil e n)
      go other (align_not_list y i) = absurd (i l)
      go other (align_in_lexical y i) = omega arith

  pub align_unlisted : (x : Symbol) → (IsListed x → ⊥) → IsLeast (SymbolMeets decls within v (Align x)) condition.AlignNotList
  align_unlisted x l = record { holds = align_not_list x l; least = λ other h. go other h; first_case = λ other p e. omega arith }
    where
      go : (other : Condition) → SymbolMeets decls within v (Align x) other → 10 ≤ number other
      go other (unknown_variable y e n u) = absurd (none_in_nil e n)
      go other (no_kind y e n u) = absurd (none_in_nil e n)
      go other (align_not_list y i) = omega arith
      go other (align_in_lexical y i) = omega arith

  pub guard_unknown : (e : Expression) → NamesUnknown v e → IsLeast (SymbolMeets decls within v (Guard e)) condition.UnknownVariable
  guard_unknown e n = record { holds = unknown_variable (Guard e) e (it_is_in e) n; least = λ other h. go other h; first_case = λ other p e. omega arith }
    where
      go : (other : Condition) → SymbolMeets decls within v (Guard e) other → 4 ≤ number other
      go other (unknown_variable y d m u) = omega arith
      go other (no_kind y d m u) = omega arith
      go other (guard_kind d k) = omega arith

  pub guard_mismatched : (e : Expression) → (NamesUnknown v e → ⊥) → kind_at v e ≢ Some kind.Bool → IsLeast (SymbolMeets decls within v (Guard e)) condition.KindMismatch
  guard_mismatched e n k = record { holds = guard_kind e k; least = λ other h. go other h; first_case = λ other p e. omega arith }
    where
      go : (other : Condition) → SymbolMeets decls within v (Guard e) other → 6 ≤ number other
      go other (unknown_variable y d m u) = absurd (known_only v e n (d, m, u))
      go other (no_kind y d m u) = omega arith
      go other (guard_kind d l) = omega arith

  pub guard_free : (e : Expression) → (NamesUnknown v e → ⊥) → kind_at v e ≡ Some kind.Bool → NoneHolds (SymbolMeets decls within v (Guard e))
  guard_free e n k c (unknown_variable y d m u) = known_only v e n (d, m, u)
  guard_free e n k c (no_kind y d m u) = let s = ap (kind_at v) (contains_one e d m) in let t = u.1 in cc
  guard_free e n k c (guard_kind d l) = l k

  pub let_unknown : (name : List ℕ) (e : Expression) → NamesUnknown v e → IsLeast (SymbolMeets decls within v (Let name e)) condition.UnknownVariable
  let_unknown name e n = record { holds = unknown_variable (Let name e) e (it_is_in e) n; least = λ other h. go other h; first_case = λ other p e. omega arith }
    where
      go : (other : Condition) → SymbolMeets decls within v (Let name e) other → 4 ≤ number other
      go other (unknown_variable y d m u) = omega arith
      go other (duplicate_let m d p) = omega arith
      go other (no_kind y d m u) = omega arith

  pub let_twice : (name : List ℕ) (e : Expression) → (NamesUnknown v e → ⊥) → Contains (names v) name →
      IsLeast (SymbolMeets decls within v (Let name e)) condition.DuplicateVariable
  let_twice name e n s = record { holds = duplicate_let name e s; least = λ other h. go other h; first_case = λ other p e. omega arith }
    where
      go : (other : Condition) → SymbolMeets decls within v (Let name e) other → 5 ≤ number other
      go other (unknown_variable y d m u) = absurd (known_only v e n (d, m, u))
      go other (duplicate_let m d p) = omega arith
      go other (no_kind y d m u) = omega arith

  pub let_unkinded : (name : List ℕ) (e : Expression) → (NamesUnknown v e → ⊥) → (Contains (names v) name → ⊥) → kind_at v e ≡ None →
      IsLeast (SymbolMeets decls within v (Let name e)) condition.KindMismatch
  let_unkinded name e n s k = record { holds = no_kind (Let name e) e (it_is_in e) (n, k); least = λ other h. go other h; first_case = λ other p e. omega arith }
    where
      go : (other : Condition) → SymbolMeets decls within v (Let name e) other → 6 ≤ number other
      go other (unknown_variable y d m u) = absurd (known_only v e n (d, m, u))
      go other (duplicate_let m d p) = absurd (s p)
      go other (no_kind y d m u) = omega arith

  pub let_free : (name : List ℕ) (e : Expression) → (NamesUnknown v e → ⊥) → (Contains (names v) name → ⊥) → kind_at v e ≢ None →
      NoneHolds (SymbolMeets decls within v (Let name e))
  let_free name e n s k c (unknown_variable y d m u) = known_only v e n (d, m, u)
  let_free name e n s k c (duplicate_let m d p) = s p
  let_free name e n s k c (no_kind y d m u) = k (ap (kind_at v) (sym (contains_one e d m)) ∙ u.1)

  pub entry_unknown : (bs : List Binding) (x : Symbol) → HasUnknown v (map (λ b. b.value) bs) → IsLeast (SymbolMeets decls within v (Entry bs x)) condition.UnknownVariable
  entry_unknown bs x n = record { holds = unknown_variable (Entry bs x) n.0 n.1 n.2; least = λ other h. go other h; first_case = λ other p e. omega arith }
    where
      go : (other : Condition) → SymbolMeets decls within v (Entry bs x) other → 4 ≤ number other
      go other (unknown_variable y d m u) = omega arith
      go other (no_kind y d m u) = omega arith

  pub entry_unkinded : (bs : List Binding) (x : Symbol) → (HasUnknown v (map (λ b. b.value) bs) → ⊥) → HasUnkinded v (map (λ b. b.value) bs) →
      IsLeast (SymbolMeets decls within v (Entry bs x)) condition.KindMismatch
  entry_unkinded bs x n k = record { holds = no_kind (Entry bs x) k.0 k.1 ((λ u. n (k.0, k.1, u)), k.2); least = λ other h. go other h; first_case = λ other p e. omega arith }
    where
      go : (other : Condition) → SymbolMeets decls within v (Entry bs x) other → 6 ≤ number other
      go other (unknown_variable y d m u) = absurd (n (d, m, u))
      go other (no_kind y d m u) = omega arith

  pub entry_free : (bs : List Binding) (x : Symbol) → (HasUnknown v (map (λ b. b.value) bs) → ⊥) → (HasUnkinded v (map (λ b. b.value) bs) → ⊥) →
      NoneHolds (SymbolMeets decls within v (Entry bs x))
  entry_free bs x n k c (unknown_variable y d m u) = n (d, m, u)
  entry_free bs x n k c (no_kind y d m u) = k (d, m, u.1)

  pub call_undeclared : (name : List ℕ) (es : List Expression) → declaration_of decls name ≡ None →
      IsLeast (SymbolMeets decls within v (Call name es)) condition.UnknownName
  call_undeclared name es d = record { holds = unknown_name name es d; least = λ other h. go other h; first_case = λ other p e. omega arith }
    where
      go : (other : Condition) → SymbolMeets decls within v (Call name es) other → 2 ≤ number other
      go other (unknown_name n m p) = omega arith
      go other (wrong_arity n m callee p q) = omega arith
      go other (unknown_variable y e m u) = omega arith
      go other (no_kind y e m u) = omega arith
      go other (argument_kind n m callee k e p q r s t) = omega arith
      go other (syntax_in_lexical n m callee i p q) = omega arith

  module _ (name : List ℕ) (es : List Expression) (callee : Decl) (found : declaration_of decls name ≡ Some callee) where
    pub call_arity : length es ≢ length callee.params → IsLeast (SymbolMeets decls within v (Call name es)) condition.WrongArity
    call_arity a = record { holds = wrong_arity name es callee found a; least = λ other h. go other h; first_case = λ other p e. omega arith }
      where
        go : (other : Condition) → SymbolMeets decls within v (Call name es) other → 3 ≤ number other
        go other (unknown_name n m p) = absurd (not_none (declaration_of decls name) callee p found)
        go other (wrong_arity n m d p q) = omega arith
        go other (unknown_variable y e m u) = omega arith
        go other (no_kind y e m u) = omega arith
        go other (argument_kind n m d k e p q r s t) = omega arith
        go other (syntax_in_lexical n m d i p q) = omega arith

    pub call_unknown : length es ≡ length callee.params → HasUnknown v es → IsLeast (SymbolMeets decls within v (Call name es)) condition.UnknownVariable
    call_unknown a h = record { holds = unknown_variable (Call name es) h.0 h.1 h.2; least = λ other h. go other h; first_case = λ other p e. omega arith }
      where
        go : (other : Condition) → SymbolMeets decls within v (Call name es) other → 4 ≤ number other
        go other (unknown_name n m p) = absurd (not_none (declaration_of decls name) callee p found)
        go other (wrong_arity n m d p q) = absurd (q (a ∙ ap (λ (z : Decl). length z.params) (one_value (declaration_of decls name) callee d found p)))
        go other (unknown_variable y e m u) = omega arith
        go other (no_kind y e m u) = omega arith
        go other (argument_kind n m d k e p q r s t) = omega arith
        go other (syntax_in_lexical n m d i p q) = omega arith

    pub call_mismatched : length es ≡ length callee.params → (HasUnknown v es → ⊥) → IsMismatched v es callee.params →
        IsLeast (SymbolMeets decls within v (Call name es)) condition.KindMismatch
    call_mismatched a n h = record {
      holds = argument_kind name es callee h.place h.argument h.parameter found h.argument_is h.parameter_is h.differ;
      least = λ other h. go other h;
      first_case = λ other p e. omega arith;
    }
      where
        go : (other : Condition) → SymbolMeets decls within v (Call name es) other → 6 ≤ number other
        go other (unknown_name n m p) = absurd (not_none (declaration_of decls name) callee p found)
        go other (wrong_arity n m d p q) = absurd (q (a ∙ ap (λ (z : Decl). length z.params) (one_value (declaration_of decls name) callee d found p)))
        go other (unknown_variable y e m u) = absurd (n (e, m, u))
        go other (no_kind y e m u) = omega arith
        go other (argument_kind n m d k e p q r s t) = omega arith
        go other (syntax_in_lexical n m d i p q) = omega arith

    -- an argument that fits has a kind
    fitting : length es ≡ length callee.params → (IsMismatched v es callee.params → ⊥) → (k : ℕ) (e : Expression) → slice_get es k ≡ Some e → kind_at v e ≡ None → ⊥
    fitting a f k e s u =
        let g = beside es callee.params k e (sym a) s in
        f (record { place = k; argument = e; parameter = g.0; argument_is = s; parameter_is = g.1; differ = λ t. not_none (kind_at v e) g.0.kind u t })

    pub call_syntax : length es ≡ length callee.params → (HasUnknown v es → ⊥) → (IsMismatched v es callee.params → ⊥) → IsInLexical within → callee.kind ≡ Syntax →
        IsLeast (SymbolMeets decls within v (Call name es)) condition.SyntaxInLexical
    call_syntax a n f i s = record { holds = syntax_in_lexical name es callee i found s; least = λ other h. go other h; first_case = λ other p e. omega arith }
      where
        go : (other : Condition) → SymbolMeets decls within v (Call name es) other → 12 ≤ number other
        go other (unknown_name x m p) = absurd (not_none (declaration_of decls name) callee p found)
        go other (wrong_arity x m d p q) = absurd (q (a ∙ ap (λ (z : Decl). length z.params) (one_value (declaration_of decls name) callee d found p)))
        go other (unknown_variable y e m u) = absurd (n (e, m, u))
        go other (no_kind y e m u) = let c = at_from_contains es e m in absurd (fitting a f c.0 e c.1 u.1)
        go other (argument_kind x m d k e p q r t w) =
            let z = one_value (declaration_of decls name) d callee q found in
            absurd (f (record { place = k; argument = e; parameter = p; argument_is = r; parameter_is = subst (λ (y : Decl). slice_get y.params k ≡ Some p) z t; differ = w }))
        go other (syntax_in_lexical x m d j p q) = omega arith

    pub call_free : length es ≡ length callee.params → (HasUnknown v es → ⊥) → (IsMismatched v es callee.params → ⊥) → (IsInLexical within → callee.kind ≡ Syntax → ⊥) →
        NoneHolds (SymbolMeets decls within v (Call name es))
    call_free a n f i c (unknown_name x m p) = not_none (declaration_of decls name) callee p found
    call_free a n f i c (wrong_arity x m d p q) = q (a ∙ ap (λ (z : Decl). length z.params) (one_value (declaration_of decls name) callee d found p))
    call_free a n f i c (unknown_variable y e m u) = n (e, m, u)
    call_free a n f i c (no_kind y e m u) = let k = at_from_contains es e m in fitting a f k.0 e k.1 u.1
    call_free a n f i c (argument_kind x m d k e p q r t w) =
        let z = one_value (declaration_of decls name) d callee q found in
        f (record { place = k; argument = e; parameter = p; argument_is = r; parameter_is = subst (λ (y : Decl). slice_get y.params k ≡ Some p) z t; differ = w })
    call_free a n f i c (syntax_in_lexical x m d j p q) =
        i j (ap (λ (z : Decl). z.kind) (one_value (declaration_of decls name) callee d found p) ∙ q)
