-- What comes of an item, by the form of its step.
use Rattle.std.proofs.Common.{◌≡◌, ℕ, List, length, map, sym, ap, ◌∙◌, subst, arith, true}
use Rattle.std.specs.Prelude.{Option}
use Rattle.std.proofs.lemmas.Option.{slice_get_within, same_Some}
use Rattle.ig_text.specs.Input.{Input}
use Rattle.ig_text.specs.Pattern.{Matches}
use Rattle.ig_text.specs.declared.pattern.Pattern.{Pattern}
use Rattle.ig_text.proofs.Equal.{same_listed}
use Rattle.ig_expr.specs.Expression.{Expression}
use Rattle.ig_expr.specs.Evaluation.{value_of}
use Rattle.ig_expr.specs.declared.value.Value.{Value}
use Rattle.ig_expr.specs.declared.value.Value.TheVariants.{Bool as truth}
use Rattle.ig_item.specs.Step.{Step, Test, Bind, Term, Call}
use Rattle.ig_item.specs.Core.{numbered}
use Rattle.ig_item.specs.Items.{Item, Calls, IsComplete, StandsBefore, HasValue, HaveValues, MatchesNone, past, span_of}
use Rattle.ig_item.specs.Laws.{StandsBeforeOne}
use Rattle.ig_item.specs.declared.core_grammar.Nonterminal.{Nonterminal}
use Rattle.ig_item.specs.declared.core_grammar.CoreAlt.{CoreAlt}
use Rattle.ig_item.specs.declared.items.Instance.{Instance}
use Rattle.ig_run_moves.specs.Rules as rules
use Rattle.ig_run_moves.specs.Rules.{PassesTo, ReadsTo, Comes, NoItem, NoCall, IsBehindTest, IsBehindBind, IsBehind, IsCallBy, IsCallee}
use Rattle.ig_run_moves.specs.Laws.{CompleteItemsEnd, CallsAreOne}

-- no complete item stands before a step
not_both : (core : List Nonterminal) (it : Item) (names : List (List ℕ)) (s : Step) → StandsBefore core it names s → IsComplete core it → ⊥
not_both core it names s p q =
    let m : p.nonterminal ≡ q.nonterminal = same_Some p.nonterminal q.nonterminal (sym p.has.there ∙ q.has.there) in
    let e : p.alternative ≡ q.alternative =
    same_Some p.alternative q.alternative
    (sym p.has.has ∙ ap (λ (z : Nonterminal). numbered z.alternatives it.alternative) m ∙ q.has.has) in
    let lt = slice_get_within p.alternative.steps it.dot s p.next in
    let len = ap (λ (z : CoreAlt). length z.steps) e in let last = q.last in omega (arith, lt, len, last)

module _ (law : StandsBeforeOne) (core : List Nonterminal) (text : Input) (it : Item) where
  same_step : (names others : List (List ℕ)) (s t : Step) → StandsBefore core it names s → StandsBefore core it others t → s ≡ t
  same_step names others s t p q = (law core it names others s t p q).1

  same_names : (names others : List (List ℕ)) (s t : Step) → StandsBefore core it names s → StandsBefore core it others t → names ≡ others
  same_names names others s t p q = (law core it names others s t p q).0

  -- a value by the same names and expression
  value_same : (names others : List (List ℕ)) (e f : Expression) (v : Value) → names ≡ others → e ≡ f → HasValue text it names e v →
      HasValue text it others f v
  value_same names others e f v n s h =
      subst (λ (z : Expression). HasValue text it others z v) s (subst (λ (z : List (List ℕ)). HasValue text it z e v) n h)

  pub before_test : (names : List (List ℕ)) (e : Expression) → StandsBefore core it names (Test e) →
      Comes core text it (IsBehindTest text names e it) NoItem NoCall ⊥
  before_test names e before =
      record {
        passing = λ x. (only x, λ m. rules.test names e before m);
        reading = λ x. (λ r. let z = same_step r.names names (Term r.what r.label r.excluded) (Test e) r.before before in cc, λ h. absurd h);
        calling = λ callee label excluded. (
          λ c. let z = same_step c.names names (Call callee.nonterminal c.arguments label excluded) (Test e) c.before before in cc,
          λ h. absurd h,
        );
        ending = (not_both core it names (Test e) before, λ h. absurd h);
      }
    where
      only : (x : Item) → PassesTo core text it x → IsBehindTest text names e it x
      only x (rules.test ns f b m) =
          let z = same_step ns names (Test f) (Test e) b before in let q : f ≡ e = cc z in
          (value_same ns names f e (truth true) (same_names ns names (Test f) (Test e) b before) q m.0, m.1)
      only x (rules.bind ns name f b m) = let z = same_step ns names (Bind name f) (Test e) b before in cc

  pub before_bind : (names : List (List ℕ)) (name : List ℕ) (e : Expression) → StandsBefore core it names (Bind name e) →
      Comes core text it (IsBehindBind text names e it) NoItem NoCall ⊥
  before_bind names name e before =
      record {
        passing = λ x. (only x, λ m. rules.bind names name e before m);
        reading = λ x. (λ r. let z = same_step r.names names (Term r.what r.label r.excluded) (Bind name e) r.before before in cc, λ h. absurd h);
        calling = λ callee label excluded. (
          λ c. let z = same_step c.names names (Call callee.nonterminal c.arguments label excluded) (Bind name e) c.before before in cc,
          λ h. absurd h,
        );
        ending = (not_both core it names (Bind name e) before, λ h. absurd h);
      }
    where
      only : (x : Item) → PassesTo core text it x → IsBehindBind text names e it x
      only x (rules.test ns f b m) = let z = same_step ns names (Test f) (Bind name e) b before in cc
      only x (rules.bind ns other f b m) =
          let z = same_step ns names (Bind other f) (Bind name e) b before in let q : f ≡ e = cc z in
          (m.0, value_same ns names f e m.0 (same_names ns names (Bind other f) (Bind name e) b before) q m.1, m.2)

  -- before a terminal or a call it passes to nothing
  passes_not : (names : List (List ℕ)) (s : Step) → StandsBefore core it names s → ((e : Expression) → s ≡ Test e → ⊥) →
      ((name : List ℕ) (e : Expression) → s ≡ Bind name e → ⊥) → (x : Item) → PassesTo core text it x → ⊥
  passes_not names s before no_test no_bind x (rules.test ns f b m) = no_test f (same_step names ns s (Test f) before b)
  passes_not names s before no_test no_bind x (rules.bind ns name f b m) = no_bind name f (same_step names ns s (Bind name f) before b)

  pub before_terminal : (names : List (List ℕ)) (what : Pattern) (label : Option (List ℕ)) (excluded : List Pattern) →
      StandsBefore core it names (Term what label excluded) → Comes core text it NoItem (IsBehind text what label excluded it) NoCall ⊥
  before_terminal names what label excluded before =
      record {
        passing = λ x. (
          passes_not names (Term what label excluded) before (λ e z. cc) (λ name e z. cc) x,
          λ h. absurd h,
        );
        reading = λ x. (
          λ r.
              let z = same_step r.names names (Term r.what r.label r.excluded) (Term what label excluded) r.before before in
              let q : r.what ≡ what = cc z in let n : r.label ≡ label = cc z in let o : r.excluded ≡ excluded = cc z in (
                r.is.0,
                subst (λ (y : Pattern). Matches text y it.position r.is.0) q r.is.1,
                subst (λ (y : List Pattern). MatchesNone text y it.position r.is.0) o r.is.2,
                r.is.3 ∙ ap (λ (y : Option (List ℕ)). past it (span_of y it.position r.is.0) r.is.0) n,
              ),
          λ m. record { names = names; what = what; label = label; excluded = excluded; before = before; is = m },
        );
        calling = λ callee l e. (
          λ c. let z = same_step c.names names (Call callee.nonterminal c.arguments l e) (Term what label excluded) c.before before in cc,
          λ h. absurd h,
        );
        ending = (not_both core it names (Term what label excluded) before, λ h. absurd h);
      }

  -- the values by the same names and expressions
  values_same : (names others : List (List ℕ)) (es fs : List Expression) (vs : List Value) → names ≡ others → es ≡ fs →
      HaveValues text it names es vs → HaveValues text it others fs vs
  values_same names others es fs vs n s h =
      subst (λ (z : List Expression). HaveValues text it others z vs) s (subst (λ (z : List (List ℕ)). HaveValues text it z es vs) n h)

  pub before_call : (names : List (List ℕ)) (callee : ℕ) (arguments : List Expression) (label : Option (List ℕ)) (excluded : List Pattern) →
      StandsBefore core it names (Call callee arguments label excluded) →
      Comes core text it NoItem NoItem (IsCallBy text names callee arguments label excluded it) ⊥
  before_call names callee arguments label excluded before =
      record {
        passing = λ x. (
          passes_not names (Call callee arguments label excluded) before (λ e z. cc) (λ name e z. cc) x,
          λ h. absurd h,
        );
        reading = λ x. (
          λ r. let z = same_step r.names names (Term r.what r.label r.excluded) (Call callee arguments label excluded) r.before before in cc,
          λ h. absurd h,
        );
        calling = λ i l e. (called i l e, calls i l e);
        ending = (not_both core it names (Call callee arguments label excluded) before, λ h. absurd h);
      }
    where
      called : (i : Instance) (l : Option (List ℕ)) (e : List Pattern) → Calls core text it i l e →
          IsCallBy text names callee arguments label excluded it i l e
      called i l e c =
          let z = same_step c.names names (Call i.nonterminal c.arguments l e) (Call callee arguments label excluded) c.before before in
          let n = same_names c.names names (Call i.nonterminal c.arguments l e) (Call callee arguments label excluded) c.before before in
          let args : c.arguments ≡ arguments = cc z in (
            cc z,
            cc z,
            record { of = cc z; values = values_same c.names names c.arguments arguments i.values n args c.values; here = c.here },
          )

      calls : (i : Instance) (l : Option (List ℕ)) (e : List Pattern) → IsCallBy text names callee arguments label excluded it i l e →
          Calls core text it i l e
      calls i l e h =
          let step : Call callee arguments label excluded ≡ Call i.nonterminal arguments l e =
          λ k. Call (sym h.2.of k) arguments (sym h.0 k) (sym h.1 k) in
          record {
            names = names;
            arguments = arguments;
            before = subst (StandsBefore core it names) step before;
            values = h.2.values;
            here = h.2.here;
          }

pub complete_ends : CompleteItemsEnd
complete_ends core text it complete =
    record {
      passing = λ x. (passes x, λ h. absurd h);
      reading = λ x. (λ r. not_both core it r.names (Term r.what r.label r.excluded) r.before complete, λ h. absurd h);
      calling = λ callee label excluded. (
        λ c. not_both core it c.names (Call callee.nonterminal c.arguments label excluded) c.before complete,
        λ h. absurd h,
      );
      ending = (λ c. c, λ c. c);
    }
  where
    passes : (x : Item) → PassesTo core text it x → ⊥
    passes x (rules.test ns f b m) = not_both core it ns (Test f) b complete
    passes x (rules.bind ns name f b m) = not_both core it ns (Bind name f) b complete

pub calls_one : StandsBeforeOne → CallsAreOne
calls_one law core text it a b l m e f p q =
    let z = (law core it p.names q.names (Call a.nonterminal p.arguments l e) (Call b.nonterminal q.arguments m f) p.before q.before).1 in
    let names = (law core it p.names q.names (Call a.nonterminal p.arguments l e) (Call b.nonterminal q.arguments m f) p.before q.before).0 in
    let n : a.nonterminal ≡ b.nonterminal = cc z in
    let args : p.arguments ≡ q.arguments = cc z in
    let vals : map (value_of text p.names it.env it.position) p.arguments ≡ map (value_of text q.names it.env it.position) q.arguments =
    ap (λ (z : List (List ℕ)). map (value_of text z it.env it.position) p.arguments) names ∙ ap (map (value_of text q.names it.env it.position)) args in
    let v : a.values ≡ b.values = same_listed a.values b.values (sym p.values ∙ vals ∙ q.values) in
    let s : a.start ≡ b.start = p.here ∙ sym q.here in
    record { callee = λ i. record { nonterminal = n i; values = v i; start = s i }; label = cc z; excluded = cc z }
