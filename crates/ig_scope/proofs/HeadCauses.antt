-- What holds at a head.
use Rattle.std.proofs.Common.{◌≡◌, ◌≢◌, ◌<◌, ◌≤◌, List, [], length, take, Option, Some, None, Bool, true, false, refl, sym, ◌∙◌, ap, arith, true≢false}
use Rattle.std.specs.List.{Any}
use Rattle.std.specs.Prelude.{Contains, IsTrue, ◌↔◌}
use Rattle.std.proofs.lemmas.List.Folds.{Any-from_list_any, list_any_at}
use Rattle.ig_grammar.specs.Name.{is_name}
use Rattle.ig_grammar.specs.Condition as condition
use Rattle.ig_grammar.specs.Condition.{Condition, number, case_number, most_nonterminals, most_parameters, named_parameters}
use Rattle.ig_grammar.specs.Condition.{parametrized, levels, associativity, second, duplicate_name, duplicate_parameter, layout_not_plain, too_many_nonterminals, too_many_parameters}
use Rattle.ig_grammar.specs.WellScoped.{IsLeast}
use Rattle.ig_grammar.specs.declared.declaration.DeclKind.{DeclKind}
use Rattle.ig_grammar.specs.declared.declaration.DeclKind.TheVariants.{Syntax, Lexical, Layout, Plain}
use Rattle.ig_grammar.specs.declared.declaration.Decl.{Decl}
use Rattle.ig_scope.specs.Causes.{NoneHolds, Tells, condition_of}
use Rattle.ig_scope.specs.Heads.{HasRepeated, HaveAssociativity, is_layout, have_layout}
use Rattle.ig_scope.specs.AtHeads.{HeadHas, IsDeclared, IsUnplain, IsLimit, PassesLimit}
use Rattle.ig_scope.specs.declared.cause.ScopeCause.{ScopeCause}
use Rattle.ig_scope.specs.declared.head.Head.{Head}

-- a layout declaration is found exactly where one is among them
layout_found : (decls : List Decl) → have_layout decls ≡ true → (d : Decl) × Contains decls d × (d.kind ≡ Layout)
layout_found decls t = go decls (Any-from_list_any (λ (d : Decl). is_layout d.kind) decls t)
  where
    one : (k : DeclKind) → is_layout k ≡ true → k ≡ Layout
    one Layout e = refl
    one Syntax e = cc
    one Lexical e = cc
    one Plain e = cc

    go : (decls : List Decl) → Any (λ d. is_layout d.kind ≡ true) decls → (d : Decl) × Contains decls d × (d.kind ≡ Layout)
    go decls a = (a.1, (a.0, a.2, a.3), one a.1.kind a.4)

layout_told : (decls : List Decl) (d : Decl) → Contains decls d → d.kind ≡ Layout → have_layout decls ≡ true
layout_told decls d m k =
    list_any_at (λ (d : Decl). is_layout d.kind) decls m.0 d m.1 (ap (λ (d : Decl). is_layout d.kind) m.2 ∙ ap is_layout k)

module _ (head : Head) where
  abbrev decls : List Decl
  decls = head.declarations.now

  abbrev decl : Decl
  decl = head.decl.now

  pub plain_told : IsUnplain head → IsTrue true ↔ IsUnplain head
  plain_told p = ((λ _. p), (λ _. refl))

  pub not_plain_second : head.has_layout ≡ true → IsTrue true ↔ IsUnplain head
  not_plain_second t = let l = layout_found (take head.before decls) (sym head.layout ∙ t) in plain_told (second l.0 l.1 l.2)

  pub not_plain_last : (r : Bool) → IsTrue r ↔ HaveAssociativity decl.levels → head.has_layout ≡ false → decl.params ≡ [] → (1 < length decl.levels → ⊥) →
      IsTrue r ↔ IsUnplain head
  not_plain_last r a f p l = ((λ t. let x = a.0 t in associativity x.0 x.1 x.2), (λ n. go n))
    where
      go : IsUnplain head → IsTrue r
      go (parametrized q) = absurd (q p)
      go (levels q) = absurd (l q)
      go (associativity level m q) = a.1 (level, m, q)
      go (second e m q) = absurd (true≢false (sym (layout_told (take head.before decls) e m q) ∙ sym head.layout ∙ f))

  pub limit_nonterminals : is_name decl.name ≡ true → head.named ≡ most_nonterminals → IsLeast (PassesLimit head) (condition.TooMany condition.Nonterminals)
  limit_nonterminals n e = record {
    holds = (tt, too_many_nonterminals n (sym head.count ∙ e));
    least = λ other m. go other m.1 m.0;
    first_case = λ other m e. omega arith;
  }
    where
      go : (other : Condition) → HeadHas head other → IsLimit other → 13 ≤ number other
      go other (duplicate_name p) l = absurd l
      go other (duplicate_parameter k p q r) l = absurd l
      go other (layout_not_plain p q) l = absurd l
      go other (too_many_nonterminals p q) l = omega arith
      go other (too_many_parameters p q) l = omega arith

  pub limit_parameters : is_name decl.name ≡ true → head.named ≢ most_nonterminals → most_parameters < named_parameters decl →
      IsLeast (PassesLimit head) (condition.TooMany condition.Parameters)
  limit_parameters n e l = record {
    holds = (tt, too_many_parameters n l);
    least = λ other m. go other m.1 m.0;
    first_case = λ other m s. first other m.1 m.0;
  }
    where
      go : (other : Condition) → HeadHas head other → IsLimit other → 13 ≤ number other
      go other (duplicate_name p) l = absurd l
      go other (duplicate_parameter k p q r) l = absurd l
      go other (layout_not_plain p q) l = absurd l
      go other (too_many_nonterminals p q) l = omega arith
      go other (too_many_parameters p q) l = omega arith

      first : (other : Condition) → HeadHas head other → IsLimit other → 1 ≤ case_number other
      first other (duplicate_name p) l = absurd l
      first other (duplicate_parameter k p q r) l = absurd l
      first other (layout_not_plain p q) l = absurd l
      first other (too_many_nonterminals p q) l = absurd (e (head.count ∙ q))
      first other (too_many_parameters p q) l = omega arith

  pub limit_none : head.named ≢ most_nonterminals → (most_parameters < named_parameters decl → ⊥) → NoneHolds (PassesLimit head)
  limit_none e few c m = go c m.1 m.0
    where
      go : (c : Condition) → HeadHas head c → IsLimit c → ⊥
      go c (duplicate_name p) l = l
      go c (duplicate_parameter k p q r) l = l
      go c (layout_not_plain p q) l = l
      go c (too_many_nonterminals p q) l = e (head.count ∙ q)
      go c (too_many_parameters p q) l = few q

  pub head_duplicate : IsDeclared head → IsLeast (HeadHas head) condition.DuplicateName
  head_duplicate m = record { holds = duplicate_name m; least = λ other p. go other p; first_case = λ other p e. omega arith }
    where
      go : (other : Condition) → HeadHas head other → 1 ≤ number other
      go other (duplicate_name p) = omega arith
      go other (duplicate_parameter k p q r) = omega arith
      go other (layout_not_plain p q) = omega arith
      go other (too_many_nonterminals p q) = omega arith
      go other (too_many_parameters p q) = omega arith

  module _ (first : IsDeclared head → ⊥) where
    pub head_repeated : HasRepeated decl.params → IsLeast (HeadHas head) condition.DuplicateVariable
    head_repeated r = record { holds = duplicate_parameter r.0 r.1 r.2 r.3; least = λ other p. go other p; first_case = λ other p e. omega arith }
      where
        go : (other : Condition) → HeadHas head other → 5 ≤ number other
        go other (duplicate_name p) = absurd (first p)
        go other (duplicate_parameter k p q r) = omega arith
        go other (layout_not_plain p q) = omega arith
        go other (too_many_nonterminals p q) = omega arith
        go other (too_many_parameters p q) = omega arith

    module _ (apart : HasRepeated decl.params → ⊥) where
      pub head_not_plain : decl.kind ≡ Layout → IsUnplain head → IsLeast (HeadHas head) condition.LayoutNotPlain
      head_not_plain k n = record { holds = layout_not_plain k n; least = λ other p. go other p; first_case = λ other p e. omega arith }
        where
          go : (other : Condition) → HeadHas head other → 9 ≤ number other
          go other (duplicate_name p) = absurd (first p)
          go other (duplicate_parameter k p q r) = absurd (apart (k, p, q, r))
          go other (layout_not_plain p q) = omega arith
          go other (too_many_nonterminals p q) = omega arith
          go other (too_many_parameters p q) = omega arith

      -- what is left are the limits
      pub head_limit : (decl.kind ≡ Layout → IsUnplain head → ⊥) → (r : Option ScopeCause) →
          Tells (PassesLimit head) r → Tells (HeadHas head) r
      head_limit n None t = λ c m. go c m
        where
          go : (c : Condition) → HeadHas head c → ⊥
          go c (duplicate_name p) = first p
          go c (duplicate_parameter k p q r) = apart (k, p, q, r)
          go c (layout_not_plain p q) = n p q
          go c (too_many_nonterminals p q) = t (condition.TooMany condition.Nonterminals) (tt, too_many_nonterminals p q)
          go c (too_many_parameters p q) = t (condition.TooMany condition.Parameters) (tt, too_many_parameters p q)
      head_limit n (Some cause) t = record {
        holds = t.holds.1;
        least = λ other m. go other m;
        first_case = λ other m e. case other m e;
      }
        where
          case : (other : Condition) → HeadHas head other → number other ≡ number (condition_of cause) →
              case_number (condition_of cause) ≤ case_number other
          case other (duplicate_name p) e = absurd (first p)
          case other (duplicate_parameter k p q r) e = absurd (apart (k, p, q, r))
          case other (layout_not_plain p q) e = absurd (n p q)
          case other (too_many_nonterminals p q) e =
              t.first_case (condition.TooMany condition.Nonterminals) (tt, too_many_nonterminals p q) e
          case other (too_many_parameters p q) e =
              t.first_case (condition.TooMany condition.Parameters) (tt, too_many_parameters p q) e

          go : (other : Condition) → HeadHas head other → number (condition_of cause) ≤ number other
          go other (duplicate_name p) = absurd (first p)
          go other (duplicate_parameter k p q r) = absurd (apart (k, p, q, r))
          go other (layout_not_plain p q) = absurd (n p q)
          go other (too_many_nonterminals p q) = t.least (condition.TooMany condition.Nonterminals) (tt, too_many_nonterminals p q)
          go other (too_many_parameters p q) = t.least (condition.TooMany condition.Parameters) (tt, too_many_parameters p q)
