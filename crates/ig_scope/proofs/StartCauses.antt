-- What holds at the start line.
use Rattle.std.proofs.Common.{◌≡◌, ◌≢◌, ℕ, ◌≤◌, List, [], Bool, true, false, cond, Some, None, refl, sym, ◌∙◌, ap, arith}
use Rattle.ig_grammar.specs.Condition as condition
use Rattle.ig_grammar.specs.Condition.{Condition, number, StartMeets, declaration_of, unknown_start, no_start, start_has_parameters, bad_tabs}
use Rattle.ig_grammar.specs.Tabs.{says_bad_width}
use Rattle.ig_grammar.specs.WellScoped.{IsLeast}
use Rattle.ig_scope.specs.Causes.{Tells}
use Rattle.ig_scope.specs.declared.cause.ScopeCause.TheVariants.{BadTabs}
use Rattle.ig_grammar.specs.declared.declaration.Decl.{Decl}
use Rattle.ig_grammar.specs.declared.grammar.Grammar.{Grammar}
use Rattle.ig_text.proofs.Options.{not_none, one_value}

module _ (g : Grammar) where
  pub start_missing : g.start ≡ None → IsLeast (StartMeets g) condition.NoStart
  start_missing n = record { holds = no_start n; least = λ other h. go other h; first_case = λ other p e. omega arith }
    where
      go : (other : Condition) → StartMeets g other → 7 ≤ number other
      go other (unknown_start name s d) = absurd (not_none g.start name n s)
      go other (no_start s) = omega arith
      go other (start_has_parameters name decl s d p) = omega arith
      go other (bad_tabs b) = omega arith

  pub start_unknown : (name : List ℕ) → g.start ≡ Some name → declaration_of g.decls name ≡ None → IsLeast (StartMeets g) condition.UnknownName
  start_unknown name s d = record { holds = unknown_start name s d; least = λ other h. go other h; first_case = λ other p e. omega arith }
    where
      go : (other : Condition) → StartMeets g other → 2 ≤ number other
      go other (unknown_start n t e) = omega arith
      go other (no_start t) = omega arith
      go other (start_has_parameters n decl t e p) = omega arith
      go other (bad_tabs b) = omega arith

  pub start_parametrized : (name : List ℕ) (decl : Decl) → g.start ≡ Some name → declaration_of g.decls name ≡ Some decl → decl.params ≢ [] →
      IsLeast (StartMeets g) condition.StartHasParameters
  start_parametrized name decl s d p = record { holds = start_has_parameters name decl s d p; least = λ other h. go other h; first_case = λ other p e. omega arith }
    where
      go : (other : Condition) → StartMeets g other → 8 ≤ number other
      go other (unknown_start n t e) = absurd (not_none (declaration_of g.decls name) decl (ap (declaration_of g.decls) (one_value g.start name n s t) ∙ e) d)
      go other (no_start t) = absurd (not_none g.start name t s)
      go other (start_has_parameters n e t f q) = omega arith
      go other (bad_tabs b) = omega arith

  -- the start line is fine
  module _ (name : List ℕ) (decl : Decl) (s : g.start ≡ Some name) (d : declaration_of g.decls name ≡ Some decl) (p : decl.params ≡ []) where
    bad_alone : (c : Condition) → StartMeets g c → (c ≡ condition.BadTabs) × (says_bad_width g.tabs ≡ true)
    bad_alone c (unknown_start n t e) = absurd (not_none (declaration_of g.decls name) decl (ap (declaration_of g.decls) (one_value g.start name n s t) ∙ e) d)
    bad_alone c (no_start t) = absurd (not_none g.start name t s)
    bad_alone c (start_has_parameters n e t f q) =
        let same : decl ≡ e = one_value (declaration_of g.decls name) decl e d (ap (declaration_of g.decls) (one_value g.start name n s t) ∙ f) in
        absurd (q (ap (λ (z : Decl). z.params) (sym same) ∙ p))
    bad_alone c (bad_tabs b) = (refl, b)

    -- then the width of tabs decides
    pub tabs_told : (b : Bool) → says_bad_width g.tabs ≡ b → Tells (StartMeets g) (cond b (Some BadTabs) None)
    tabs_told true e =
        record {
          holds = bad_tabs e;
          least = λ other h. let q = bad_alone other h in rw q.0 (omega arith);
          first_case = λ other h f. omega arith;
        }
    tabs_told false e = λ c h. let q = bad_alone c h in let t : true ≡ false = sym q.1 ∙ e in cc
