-- What the rules say at each step.
use Rattle.std.proofs.Common.{◌≡◌, ℕ, ◌<◌, List, [], ◌∷◌, Some, Option, length, refl, sym, ap, ◌∙◌, subst, subst₂}
use Rattle.std.proofs.lemmas.Option.{slice_get-get_or}
use Rattle.ig_text.specs.Input.{Input}
use Rattle.ig_text.specs.declared.pattern.Pattern.{Pattern}
use Rattle.ig_text.specs.Pattern.{Matches}
use Rattle.ig_text.proofs.Rising.{one_place}
use Rattle.ig_text.proofs.Equal.{same_listed}
use Rattle.ig_expr.specs.Expression.{Expression}
use Rattle.ig_expr.specs.declared.value.Value.{Value}
use Rattle.ig_expr.specs.declared.value.Value.TheVariants.{Bool}
use Rattle.ig_item.specs.Step.{Test, Bind, Term, Call}
use Rattle.ig_item.specs.Items.{Item, Reachable, StandsBefore, HasValue, MatchesNone, past, span_of, IsComplete}
use Rattle.ig_item.specs.declared.core_grammar.Nonterminal.{Nonterminal}
use Rattle.ig_item.specs.Laws.{StandsBeforeOne}
use Rattle.ig_item.specs.Gives as rules
use Rattle.ig_item.specs.Gives.{NodeKey, Taken, Completes, nothing, leaf, tree}
use Rattle.ig_forest_live.specs.Live.{Gives}
use Rattle.ig_forest.specs.CodeTables.{item_by}
use Rattle.ig_forest_tables.specs.Tables.{list_at}
use Rattle.ig_expr.specs.ValueOrder.{values_cmp}
use Rattle.ig_forest.specs.CodeDone.{StandsLast}
use Rattle.ig_forest_live.specs.declared.rows.ItemRow.{ItemRow}
use Rattle.ig_forest.proofs.Uniqueness.{same_key}
use Rattle.ig_expr.specs.Ordered.{list_total}
use Rattle.std.specs.List.Sorted.{IsStrictlySortedBy}

abbrev pub complete_from_last : (core : List Nonterminal) (lists : List (List Value)) (row : ItemRow) → StandsLast core row → IsComplete core (item_by lists row)
complete_from_last core lists row s = record { nonterminal = s.nonterminal; alternative = s.alternative; has = s.has; last = s.last }

abbrev pub last_from_complete : (core : List Nonterminal) (lists : List (List Value)) (row : ItemRow) → IsComplete core (item_by lists row) → StandsLast core row
last_from_complete core lists row s = record { nonterminal = s.nonterminal; alternative = s.alternative; has = s.has; last = s.last }

module _ (core : List Nonterminal) (text : Input) (before_one : StandsBeforeOne) where
  pub by_test : {prev x : Item} {taken : Taken} → Gives core text prev taken x → (names : List (List ℕ)) (e : Expression) →
      StandsBefore core prev names (Test e) →
      (taken ≡ nothing) × HasValue text prev names e (Bool Rattle.std.specs.Prelude.true) × (x ≡ past prev [] prev.position)
  by_test (rules.test prev ns f x r before holds is) names e stands =
      let s = before_one core prev ns names (Test f) (Test e) before stands in
      let t = s.1 in
      let fe : f ≡ e = cc in (
        refl,
        subst₂ (λ (z : List (List ℕ)) (w : Expression). HasValue text prev z w (Bool Rattle.std.specs.Prelude.true)) s.0 fe holds,
        is,
      )
  by_test (rules.bind prev ns name f v x r before has is) names e stands =
      let s = (before_one core prev ns names (Bind name f) (Test e) before stands).1 in cc
  by_test (rules.terminal prev ns what label excluded j taken x r before matches free t is) names e stands =
      let s = (before_one core prev ns names (Term what label excluded) (Test e) before stands).1 in cc
  by_test (rules.return prev done label excluded key x r d calls c free is) names e stands =
      let s = (before_one core prev calls.names names (Call key.instance.nonterminal calls.arguments label excluded) (Test e) calls.before stands).1 in cc

  pub by_bind : {prev x : Item} {taken : Taken} → Gives core text prev taken x → (names : List (List ℕ)) (name : List ℕ) (e : Expression) →
      StandsBefore core prev names (Bind name e) →
      (taken ≡ nothing) × (v : Value) × HasValue text prev names e v × (x ≡ past prev (v ∷ []) prev.position)
  by_bind (rules.test prev ns f x r before holds is) names name e stands =
      let s = (before_one core prev ns names (Test f) (Bind name e) before stands).1 in cc
  by_bind (rules.bind prev ns other f v x r before has is) names name e stands =
      let s = before_one core prev ns names (Bind other f) (Bind name e) before stands in
      let t = s.1 in
      let fe : f ≡ e = cc in
      (refl, v, subst₂ (λ (z : List (List ℕ)) (w : Expression). HasValue text prev z w v) s.0 fe has, is)
  by_bind (rules.terminal prev ns what label excluded j taken x r before matches free t is) names name e stands =
      let s = (before_one core prev ns names (Term what label excluded) (Bind name e) before stands).1 in cc
  by_bind (rules.return prev done label excluded key x r d calls c free is) names name e stands =
      let s = (before_one core prev calls.names names (Call key.instance.nonterminal calls.arguments label excluded) (Bind name e) calls.before stands).1 in cc

  pub record ByTerm (prev : Item) (taken : Taken) (x : Item) (what : Pattern) (label : Option (List ℕ)) (excluded : List Pattern) : Type 0 where
    pub end : ℕ
    pub matches : Matches text what prev.position end
    pub free : MatchesNone text excluded prev.position end
    pub takes : taken ≡ leaf (record { begin = prev.position; end = end })
    pub item : x ≡ past prev (span_of label prev.position end) end

  pub by_term : {prev x : Item} {taken : Taken} → Gives core text prev taken x → (names : List (List ℕ)) (what : Pattern) (label : Option (List ℕ))
      (excluded : List Pattern) → StandsBefore core prev names (Term what label excluded) → ByTerm prev taken x what label excluded
  by_term (rules.test prev ns f x r before holds is) names what label excluded stands =
      let s = (before_one core prev ns names (Test f) (Term what label excluded) before stands).1 in cc
  by_term (rules.bind prev ns other f v x r before has is) names what label excluded stands =
      let s = (before_one core prev ns names (Bind other f) (Term what label excluded) before stands).1 in cc
  by_term (rules.terminal prev ns w l ex j taken x r before matches free t is) names what label excluded stands =
      let s = (before_one core prev ns names (Term w l ex) (Term what label excluded) before stands).1 in
      let we : w ≡ what = cc in
      let le : l ≡ label = cc in
      let xe : ex ≡ excluded = cc in
      record {
        end = j;
        matches = subst (λ (z : Pattern). Matches text z prev.position j) we matches;
        free = subst (λ (z : List Pattern). MatchesNone text z prev.position j) xe free;
        takes = t;
        item = is ∙ ap (λ (z : Option (List ℕ)). past prev (span_of z prev.position j) j) le;
      }
  by_term (rules.return prev done l ex key x r d calls c free is) names what label excluded stands =
      let s = (before_one core prev calls.names names (Call key.instance.nonterminal calls.arguments l ex) (Term what label excluded) calls.before stands).1 in cc

  pub record ByCall (prev : Item) (taken : Taken) (x : Item) (names : List (List ℕ)) (callee : ℕ) (arguments : List Expression) (label : Option (List ℕ)) (excluded : List Pattern) : Type 0 where
    pub key : NodeKey
    pub done : Item
    pub reached : Reachable core text done
    pub completes : Completes core done key
    pub nonterminal : key.instance.nonterminal ≡ callee
    pub values : Rattle.ig_item.specs.Items.HaveValues text prev names arguments key.instance.values
    pub here : key.instance.start ≡ prev.position
    pub free : MatchesNone text excluded prev.position key.end
    pub takes : taken ≡ tree key
    pub item : x ≡ past prev (span_of label prev.position key.end) key.end

  pub by_call : {prev x : Item} {taken : Taken} → Gives core text prev taken x → (names : List (List ℕ)) (callee : ℕ) (arguments : List Expression)
      (label : Option (List ℕ)) (excluded : List Pattern) → StandsBefore core prev names (Call callee arguments label excluded) →
      ByCall prev taken x names callee arguments label excluded
  by_call (rules.test prev ns f x r before holds is) names callee arguments label excluded stands =
      let s = (before_one core prev ns names (Test f) (Call callee arguments label excluded) before stands).1 in cc
  by_call (rules.bind prev ns other f v x r before has is) names callee arguments label excluded stands =
      let s = (before_one core prev ns names (Bind other f) (Call callee arguments label excluded) before stands).1 in cc
  by_call (rules.terminal prev ns w l ex j taken x r before matches free t is) names callee arguments label excluded stands =
      let s = (before_one core prev ns names (Term w l ex) (Call callee arguments label excluded) before stands).1 in cc
  by_call (rules.return prev done l ex key x r d calls c free is) names callee arguments label excluded stands =
      let b = before_one core prev calls.names names (Call key.instance.nonterminal calls.arguments l ex) (Call callee arguments label excluded) calls.before stands in
      let s = b.1 in
      let ne : key.instance.nonterminal ≡ callee = cc in
      let ae : calls.arguments ≡ arguments = cc in
      let le : l ≡ label = cc in
      let xe : ex ≡ excluded = cc in
      record {
        key = key;
        done = done;
        reached = d;
        completes = c;
        nonterminal = ne;
        values = subst₂ (λ (z : List (List ℕ)) (w : List Expression). Rattle.ig_item.specs.Items.HaveValues text prev z w key.instance.values) b.0 ae calls.values;
        here = calls.here;
        free = subst (λ (z : List Pattern). MatchesNone text z prev.position key.end) xe free;
        takes = refl;
        item = is ∙ ap (λ (z : Option (List ℕ)). past prev (span_of z prev.position key.end) key.end) le;
      }

  -- the rules take one thing from one item to another
  pub gives_one : {prev x : Item} {taken other : Taken} → Gives core text prev taken x → Gives core text prev other x → taken ≡ other
  gives_one (rules.test prev ns f x r before holds is) g = sym (by_test g ns f before).0
  gives_one (rules.bind prev ns name f v x r before has is) g = sym (by_bind g ns name f before).0
  gives_one (rules.terminal prev ns what label excluded j taken x r before matches free t is) g =
      let b = by_term g ns what label excluded before in
      let e : j ≡ b.end = ap (λ (z : Item). z.position) (sym is ∙ b.item) in
      t ∙ ap (λ (z : ℕ). leaf (record { begin = prev.position; end = z })) e ∙ sym b.takes
  gives_one (rules.return prev done label excluded key x r d calls c free is) g =
      let b = by_call g calls.names key.instance.nonterminal calls.arguments label excluded calls.before in
      let v : key.instance.values ≡ b.key.instance.values = same_listed key.instance.values b.key.instance.values (sym calls.values ∙ b.values) in
      let e : key.end ≡ b.key.end = ap (λ (z : Item). z.position) (sym is ∙ b.item) in
      ap tree (same_key key b.key (sym b.nonterminal) v (calls.here ∙ sym b.here) e) ∙ sym b.takes

-- lists at two places of a table in which each stands once
pub same_list_place : (lists : List (List Value)) (p q : ℕ) → IsStrictlySortedBy values_cmp lists → p < length lists → q < length lists →
    list_at lists p ≡ list_at lists q → p ≡ q
same_list_place lists p q sorted lt mt same =
    one_place values_cmp list_total lists p q (list_at lists p) sorted (slice_get-get_or lists p [] lt)
    (slice_get-get_or lists q [] mt ∙ ap Some (sym same))
