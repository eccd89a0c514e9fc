-- What symbols of the source bind, the lowered ones bind under the pair.
use Rattle.std.proofs.Common.{◌≡◌, ◌≤◌, ◌∙◌, ℕ, Bool, true, false, List, [], ◌∷◌, ◌++◌, map, length, append_assoc, Option, Some, None, refl, sym, ap, subst, inl, inr, arith}
use Rattle.std.proofs.lemmas.List.{append-nil, map-append}
use Rattle.ig_text.specs.Input.{Input}
use Rattle.ig_text.specs.declared.tag.Tag.{Tag}
use Rattle.ig_text.specs.Lines.{column_of}
use Rattle.ig_expr.specs.ValuedTree.{Tree, Trees, Node, none, more, one, join, bare_tree, bare_trees}
use Rattle.ig_expr.specs.declared.value.Value.{Value}
use Rattle.ig_expr.specs.JoinedTrees.{join-none}
use Rattle.ig_grammar.specs.Symbol.{Symbol, Label, Guard, Entry, listed, gathered}
use Rattle.ig_grammar.specs.Numbering.{tag_of}
use Rattle.ig_grammar.specs.declared.declaration.DeclKind.{DeclKind}
use Rattle.ig_grammar.specs.declared.declaration.DeclKind.TheVariants.{Lexical, Layout}
use Rattle.ig_grammar.specs.declared.grammar.Grammar.{Grammar}
use Rattle.ig_grammar.specs.declared.place.Shape.{Shape}
use Rattle.ig_meaning.specs.Annotated.{HasParts, Bind, Binds, BindApart, Within, Behind}
use Rattle.ig_meaning.specs.Annotated as a
use Rattle.ig_meaning.specs.Derivation.{span_value}
use Rattle.ig_meaning.specs.Environment.{Environment, HaveValues, AreBound, replaced}
use Rattle.ig_pass.specs.Grown.{bound_alike}
use Rattle.ig_blocks_parts.specs.Allowed.{IsBefore, outer_column}
use Rattle.ig_blocks_parts.specs.Setting as setting
use Rattle.ig_blocks_parts.specs.Setting.{Setting, Pair, m_of, f_of, opened_by, cleared_by, pair_bindings, column_bindings, guards, column_guards, extra_by, pair_by, wrapped}
use Rattle.ig_blocks_parts.proofs.Reading as reading
use Rattle.ig_blocks_parts.proofs.Reading.{AreApart, IsWritten, IsSteady, pair_in, is_aligned, Agree, Keep}
use Rattle.ig_blocks_parts.proofs.Lowered as low
use Rattle.ig_blocks_parts.proofs.Lowered.{Lowered, Item, Covered}
use Rattle.ig_blocks_parts.proofs.Takes.{Takes, IsRemade}
use Rattle.ig_blocks_parts.proofs.Values.{agree_bound, keep_all, keep_then, keep_bound, value_agrees, have_forth}
use Rattle.ig_blocks_parts.proofs.Situations.{pair_values, column_values, Situated, situated_later, situated_opened, situated_cleared, have_append, pair_values_had, inside_box, box_values, inside_entry, inner_steady}
use Rattle.ig_blocks_parts.proofs.Tests.{pair_bound, pair_args, pair_params, bound_forth, situated_first}
use Rattle.ig_blocks_parts.proofs.Forth.{pair_steady, read_values, extra_had, no_extra, no_extra_more}
use Rattle.ig_blocks_parts.proofs.Ordered.{IsOrdered, AllOrdered, ordered_parts, within_spans, binds_spans}
use Rattle.ig_blocks_parts.proofs.Wholes as wholes
use Rattle.ig_blocks_parts.proofs.Wholes.{Part, Parts, Boxed, Listed, parts_to, boxed, unmarked, listed_form, listed_box}

abbrev AreTests : List Symbol → Type 0
AreTests [] = Unit {0}
AreTests (Guard e ∷ gs) = AreTests gs
AreTests (x ∷ gs) = ⊥

tests_join : (gs hs : List Symbol) → AreTests gs → AreTests hs → AreTests (gs ++ hs)
tests_join [] hs t u = u
tests_join (Guard e ∷ gs) hs t u = tests_join gs hs t u
tests_join (x ∷ gs) hs t u = absurd t

guards_test : (s : Setting) (p : Pair) → AreTests (guards s p)
guards_test s setting.lacking = tt
guards_test s setting.carried = tt
guards_test s (setting.opened d e) = tt
guards_test s setting.cleared = tt

column_guards_test : (s : Setting) (al : Bool) → AreTests (column_guards s al)
column_guards_test s false = tt
column_guards_test s true = tt

module _ (s : Setting) (apart : AreApart s) (g g2 : Grammar) (shapes shapes2 : List Shape) (text : Input) (takes : Takes s g g2 shapes shapes2) where
  abbrev n : ℕ
  n = length text.characters

  -- the environment of the other grammar grows by the same names and values
  record Target (c : DeclKind) (gs : List Symbol) (y : Symbol) (env other : Environment) (i e j : ℕ) (ts : Trees) (after : Environment) : Type 0 where
    grown : Environment
    source : after ≡ env ++ grown
    binds : Binds g2 shapes2 text c y other i e j ts (other ++ grown)
    agrees : Agree s after (other ++ grown)
    keeps : Keep s other (other ++ grown)
    tests : AreTests gs

  -- with its tests, a symbol in place
  record ItemTarget (c : DeclKind) (z : Symbol) (env other : Environment) (i j : ℕ) (ts : Trees) (after : Environment) : Type 0 where
    own : ℕ
    grown : Environment
    source : after ≡ env ++ grown
    binds : Binds g2 shapes2 text c z other i own j ts (other ++ grown)
    agrees : Agree s after (other ++ grown)
    keeps : Keep s other (other ++ grown)

  pub record BindTarget (c : DeclKind) (ys : List Symbol) (env other : Environment) (i j : ℕ) (ts : Trees) (after : Environment) : Type 0 where
    pub grown : Environment
    pub source : after ≡ env ++ grown
    pub bind : Bind g2 shapes2 text c ys other i j ts (other ++ grown)
    agrees : Agree s after (other ++ grown)
    keeps : Keep s other (other ++ grown)

  within_kind : {name : List ℕ} {vs : List Value} {kind : DeclKind} {i e : ℕ} {t : Tree} (k : DeclKind) →
      Within g shapes text name vs kind i e t → s.kind_of name ≡ Some k → kind ≡ k
  within_kind kd (a.alternative name vs kind d k decl shape by env after i e ts t declares numbered bound same inner tree) known =
      same ∙ takes.kinds name kd d decl shape known declares

  -- nothing is bound
  still : (c : DeclKind) (gs : List Symbol) (y : Symbol) (env other : Environment) (i e j : ℕ) (ts : Trees) → AreTests gs → Agree s env other →
      Binds g2 shapes2 text c y other i e j ts other → Target c gs y env other i e j ts env
  still c gs y env other i e j ts tests agree binds =
      let same : other ≡ other ++ [] = sym (append-nil other) in
      record {
        grown = [];
        source = sym (append-nil env);
        binds = subst (Binds g2 shapes2 text c y other i e j ts) same binds;
        agrees = subst (Agree s env) same agree;
        keeps = subst (Keep s other) same (keep_all s other);
        tests = tests;
      }

  -- with a label
  label_forth : (c : DeclKind) (gs : List Symbol) (name : List ℕ) (y : Symbol) (env between after other : Environment) (i e j : ℕ) (ts : Trees) → IsWritten s name →
      after ≡ between ++ (name, span_value i e) ∷ [] → Target c gs y env other i e j ts between → Target c gs (Label name y) env other i e j ts after
  label_forth c gs name y env between after other i e j ts written bound d =
      let new : Environment = (name, span_value i e) ∷ [] in
      let same : (other ++ d.grown) ++ new ≡ other ++ (d.grown ++ new) = append_assoc other d.grown new in
      record {
        grown = d.grown ++ new;
        source = bound ∙ ap (λ z. z ++ new) d.source ∙ append_assoc env d.grown new;
        binds = subst (Binds g2 shapes2 text c (Label name y) other i e j ts) same
            (a.label c name y other (other ++ d.grown) ((other ++ d.grown) ++ new) i e j ts d.binds refl);
        agrees = subst (Agree s after) same
            (subst (λ z. Agree s z ((other ++ d.grown) ++ new)) (sym bound) (agree_bound s between (other ++ d.grown) name (span_value i e) d.agrees));
        keeps = subst (Keep s other) same (keep_bound s other (other ++ d.grown) name (span_value i e) written d.keeps);
        tests = d.tests;
      }

  -- tests before a symbol
  guarded : (c : DeclKind) (gs : List Symbol) (y : Symbol) (other left : Environment) (i e j : ℕ) (ts : Trees) → AreTests gs →
      Binds g2 shapes2 text c y other i e j ts left → Bind g2 shapes2 text c (listed (gathered (gs ++ y ∷ []))) other i j ts left
  guarded c [] y other left i e j ts t d = a.next c y [] other left left i e j j ts none ts d (a.nothing c left j) (sym (join-none ts))
  guarded c (Guard condition ∷ gs) y other left i e j ts t d =
      a.next c (Guard condition) (listed (gathered (gs ++ y ∷ []))) other other left i i i j none ts ts
      (a.guard c condition other i) (guarded c gs y other left i e j ts t d) refl
  guarded c (x ∷ gs) y other left i e j ts t d = absurd t

  in_place : (c : DeclKind) (gs : List Symbol) (y : Symbol) (env other : Environment) (i e j : ℕ) (ts : Trees) (after : Environment) → AreTests gs →
      Target c [] y env other i e j ts after → ItemTarget c (wrapped gs y) env other i j ts after
  in_place c [] y env other i e j ts after t d =
      record { own = e; grown = d.grown; source = d.source; binds = d.binds; agrees = d.agrees; keeps = d.keeps }
  in_place c (x ∷ gs) y env other i e j ts after t d =
      record {
        own = j;
        grown = d.grown;
        source = d.source;
        binds = a.sequence c (gathered (x ∷ gs ++ y ∷ [])) other (other ++ d.grown) i j ts (guarded c (x ∷ gs) y other (other ++ d.grown) i e j ts t d.binds);
        agrees = d.agrees;
        keeps = d.keeps;
      }

  -- a symbol, with others behind it
  next_forth : (c : DeclKind) (y : Symbol) (ys : List Symbol) (env between after other : Environment) (i h j : ℕ) (ts us vs : Trees) → vs ≡ join ts us →
      (d : ItemTarget c y env other i h ts between) → BindTarget c ys between (other ++ d.grown) h j us after → BindTarget c (y ∷ ys) env other i j vs after
  next_forth c y ys env between after other i h j ts us vs trees d b =
      let same : (other ++ d.grown) ++ b.grown ≡ other ++ (d.grown ++ b.grown) = append_assoc other d.grown b.grown in
      record {
        grown = d.grown ++ b.grown;
        source = b.source ∙ ap (λ z. z ++ b.grown) d.source ∙ append_assoc env d.grown b.grown;
        bind = subst (Bind g2 shapes2 text c (y ∷ ys) other i j vs) same
            (a.next c y ys other (other ++ d.grown) ((other ++ d.grown) ++ b.grown) i d.own h j ts us vs d.binds b.bind trees);
        agrees = subst (Agree s after) same b.agrees;
        keeps = subst (Keep s other) same (keep_then s other (other ++ d.grown) ((other ++ d.grown) ++ b.grown) d.keeps b.keeps);
      }

  -- a symbol in place, from what it becomes
  item_forth : (c : DeclKind) (al : Bool) (p : Pair) (x z : Symbol) (env other : Environment) (i e j : ℕ) (ts : Trees) (after : Environment) →
      Item s c al p x z →
      ((gs : List Symbol) (y : Symbol) → Lowered s c (is_aligned x) (pair_in s p x) (reading.bare x) gs y → Target c gs y env other i e j ts after) →
      ItemTarget c z env other i j ts after
  item_forth c al p x z env other i e j ts after (low.item al2 p2 x2 y z2 gs l is) forth =
      let d = forth gs y l in
      subst (λ q. ItemTarget c q env other i j ts after) (sym is)
      (in_place c (column_guards s al ++ gs) y env other i e j ts after (tests_join (column_guards s al) gs (column_guards_test s al) d.tests)
      (record { grown = d.grown; source = d.source; binds = d.binds; agrees = d.agrees; keeps = d.keeps; tests = tt }))

  part_forth : (c : DeclKind) (p : Pair) (x z : Symbol) (env other : Environment) (i e j : ℕ) (ts : Trees) (after : Environment) → IsSteady p →
      Part s c p x z →
      ((gs : List Symbol) (y : Symbol) → Lowered s c (is_aligned x) (pair_in s p x) (reading.bare x) gs y → Target c gs y env other i e j ts after) →
      ((gs : List Symbol) (y : Symbol) → Listed s c p x gs y → Target c gs y env other i e j ts after) → ItemTarget c z env other i j ts after
  part_forth c p x z env other i e j ts after steady (wholes.itself al x2 z2 w) forth lists =
      in_place c [] z env other i e j ts after tt (lists [] z (wholes.part al x z steady w))
  part_forth c p x z env other i e j ts after steady (wholes.item al x2 z2 it) forth lists = item_forth c al p x z env other i e j ts after it forth

  -- an option, a list or a group in place or with bindings, from its parts
  node_forth : (c : DeclKind) (al : Bool) (p : Pair) (m : ℕ) (f : Option ℕ) (x y : Symbol) (form : Tag) (parts : List Symbol) (env other : Environment) (i j : ℕ) (ts : Trees)
      (bound : List Value) → HasParts x form parts → Boxed s c al p x y → Situated s text env other p m f i →
      ((q : Pair) (home : Environment) (others : List Symbol) → IsSteady q → Parts s c q parts others → Situated s text env home q m f i →
      BindApart g2 shapes2 text c others home i j ts bound) →
      Binds g2 shapes2 text c y other i j j (one (Node form bound i j ts)) other
  node_forth c al p m f x y form parts env other i j ts bound has (wholes.in_place steady w) at inner =
      let q = parts_to s c al p y has steady w in
      a.node c y form q.others other i j ts bound q.has (inner p other q.others steady q.each at)
  node_forth c al p m f x y form parts env other i j ts bound has (wholes.in_box bs z w is shown) at inner =
      let steady = inner_steady s text apart p in
      let q = parts_to s c al (setting.inner p) z has steady w in
      let b = inside_box s text apart env other al p m f i at in
      let home = replaced other (pair_bindings s p ++ column_bindings s al) (pair_values p m f ++ column_values al (column_of text i)) in
      let trees = one (Node form bound i j ts) in
      subst (λ v. Binds g2 shapes2 text c v other i j j trees other) (sym shown)
      (subst (λ v. Binds g2 shapes2 text c (Entry v z) other i j j trees other) (sym is)
      (a.entry c (pair_bindings s p ++ column_bindings s al) z (pair_values p m f ++ column_values al (column_of text i)) other home home i j j trees
      (box_values s text apart other al p m f i at.within at.holds) refl
      (a.node c z form q.others home i j ts bound q.has (inner (setting.inner p) home q.others steady q.each b.situated))))

  no_tests : (gs : List Symbol) → gs ≡ [] → AreTests gs
  no_tests gs e = subst AreTests (sym e) tt

  mutual
    pub to_bind : {c : DeclKind} {xs : List Symbol} {env after : Environment} {i j : ℕ} {ts : Trees} →
        Bind g shapes text c xs env i j ts after → AllOrdered n (bare_trees ts) → (p : Pair) (m : ℕ) (f : Option ℕ) (other : Environment) (ys : List Symbol) →
        IsSteady p → Covered s c p xs ys → Situated s text env other p m f i → BindTarget c ys env other i j ts after
    to_bind (a.nothing c env i) o p m f other ys steady (low.nothing p2) at =
        let same : other ≡ other ++ [] = sym (append-nil other) in
        record {
          grown = [];
          source = sym (append-nil env);
          bind = subst (Bind g2 shapes2 text c [] other i i none) same (a.nothing c other i);
          agrees = subst (Agree s env) same at.agree;
          keeps = subst (Keep s other) same (keep_all s other);
        }
    to_bind (a.next c x others env between after i e h j ts us vs first rest trees) o p m f other ys steady (low.next p2 x2 y xs2 ys2 it more2) at =
        let parts = ordered_parts n ts us vs trees o in
        let span = binds_spans g shapes text first parts.0 in
        let d = item_forth c false p x y env other i e h ts between it (λ gs z l. to_binds first parts.0 p m f other gs z l at) in
        next_forth c y ys2 env between after other i h j ts us vs trees d
        (to_bind rest parts.1 p m f (other ++ d.grown) ys2 steady more2
        (situated_later s text env other between (other ++ d.grown) p m f i h steady (omega (arith, span.begins, span.ends)) (span.within at.within) d.agrees d.keeps at))

    to_binds : {c : DeclKind} {x : Symbol} {env after : Environment} {i e j : ℕ} {ts : Trees} →
        Binds g shapes text c x env i e j ts after → AllOrdered n (bare_trees ts) → (p : Pair) (m : ℕ) (f : Option ℕ) (other : Environment) (gs : List Symbol) (y : Symbol) →
        Lowered s c (is_aligned x) (pair_in s p x) (reading.bare x) gs y → Situated s text env other p m f i → Target c gs y env other i e j ts after
    to_binds (a.literal c word env i e j us behind) o p m f other gs y (low.literal p2 word2 gs2 proper tests) at =
        still c gs y env other i e j _ (subst AreTests (sym tests) (guards_test s p)) at.agree
        (a.literal c word other i e j us (let own = o.0 in to_behind behind o.1 (own.within at.within)))
    to_binds (a.one_of c class env i e j us behind) o p m f other gs y (low.one_of p2 class2 gs2 proper tests) at =
        still c gs y env other i e j _ (subst AreTests (sym tests) (guards_test s p)) at.agree
        (a.one_of c class other i e j us (let own = o.0 in to_behind behind o.1 (own.within at.within)))
    to_binds (a.call c kind name arguments vs env i e j t us have within behind) o p m f other gs y (low.token p2 name2 arguments2 gs2 known read proper tests) at =
        let own = within_spans g shapes text within o.0 in
        still c gs y env other i e j _ (subst AreTests (sym tests) (guards_test s p)) at.agree
        (a.call c kind name arguments vs other i e j t us (have_forth s text env other i at.agree have read)
        (subst (λ z. Within g2 shapes2 text name z kind i e t) (no_extra s apart g g2 shapes shapes2 text takes vs (s.paired Lexical) 0 None takes.lexical_unpaired)
        (to_within within o.0 Lexical known 0 None (λ z. (refl, refl)) (omega arith) at.within))
        (to_behind behind o.1 (own.within at.within)))
    to_binds (a.call c kind name arguments vs env i e j t us have within behind) o p m f other gs y (low.call p2 name2 arguments2 more2 kind2 known not_lexical into (inl paired) read is) at =
        let own = within_spans g shapes text within o.0 in
        still c gs y env other i e j _ tt at.agree
        (a.call c kind name more2 (vs ++ pair_args s text (s.paired kind2) m f) other i e j t us
        (subst (λ z. HaveValues text other i z (vs ++ pair_args s text (s.paired kind2) m f)) (sym is)
        (have_append s text other i (extra_by (s.paired kind2) (m_of s p) (f_of s p)) (pair_args s text (s.paired kind2) m f)
        (have_forth s text env other i at.agree have read) (extra_had s apart g g2 shapes shapes2 text takes (s.paired kind2) p m f other i at.holds)))
        (to_within within o.0 kind2 known m f (λ z. absurd (cc)) at.before at.within)
        (to_behind behind o.1 (own.within at.within)))
    to_binds (a.call c kind name arguments vs env i e j t us have within behind) o p m f other gs y (low.call p2 name2 arguments2 more2 kind2 known not_lexical into (inr unpaired) read is) at =
        let own = within_spans g shapes text within o.0 in
        still c gs y env other i e j _ tt at.agree
        (a.call c kind name more2 (vs ++ pair_args s text (s.paired kind2) m f) other i e j t us
        (subst (λ z. HaveValues text other i z (vs ++ pair_args s text (s.paired kind2) m f)) (sym is)
        (have_append s text other i (extra_by (s.paired kind2) (m_of s p) (f_of s p)) (pair_args s text (s.paired kind2) m f)
        (have_forth s text env other i at.agree have read) (extra_had s apart g g2 shapes shapes2 text takes (s.paired kind2) p m f other i at.holds)))
        (subst (λ z. Within g2 shapes2 text name z kind i e t) (no_extra_more s apart g g2 shapes shapes2 text takes vs (s.paired kind2) 0 m None f unpaired.0)
        (to_within within o.0 kind2 known 0 None (λ z. (refl, refl)) (omega arith) at.within))
        (to_behind behind o.1 (own.within at.within)))
    to_binds (a.label c name x env between after i e j ts inner bound) o p m f other gs y (low.label p2 name2 x2 y2 gs2 written (low.placed p3 x3 y3 gs3 l)) at =
        label_forth c gs name y2 env between after other i e j ts written bound (to_binds inner o p m f other gs y2 l at)
    to_binds (a.guard c condition env i) o p m f other gs y (low.guard p2 e2 read) at = still c gs y env other i i i none tt at.agree (a.guard c condition other i)
    to_binds (a.let_be c name expression v env after i has bound) o p m f other gs y (low.let_be p2 name2 e2 written read) at =
        record {
          grown = (name, v) ∷ [];
          source = bound;
          binds = a.let_be c name expression v other (other ++ (name, v) ∷ []) i (sym (value_agrees s text env other at.agree i expression read) ∙ has) refl;
          agrees = subst (λ z. Agree s z (other ++ (name, v) ∷ [])) (sym bound) (agree_bound s env other name v at.agree);
          keeps = keep_bound s other other name v written (keep_all s other);
          tests = tt;
        }
    to_binds (a.node c x form parts env i j ts bound has inner) o p m f other gs y l at =
        let b = boxed s c has (unmarked s c has l) in
        still c gs y env other i j j (one (Node form bound i j ts)) (no_tests gs b.0) at.agree
        (node_forth c false p m f x y form parts env other i j ts bound has b.1 at
        (λ q home others steady each there. to_apart inner o.0.1 q m f home others steady each there))
    to_binds (a.round c x _ env after i e j ts a.offside inner) o p m f other gs y l at =
        to_binds inner o (opened_by s p) (outer_column text i m f) (Some i) other gs y l (situated_opened s text env other p m f i at)
    to_binds (a.round c x _ env after i e j ts a.ignore inner) o p m f other gs y l at =
        to_binds inner o (cleared_by p) 0 None other gs y l (situated_cleared s text env other p m f i at)
    to_binds (a.round c x _ env after i e j ts a.align inner) o p m f other gs y l at =
        to_listed inner o p m f other gs y (wholes.aligned x y gs l) at
    to_binds (a.round c x _ env after i e j ts (a.filtered filters) inner) o p m f other gs y (low.filtered p2 x2 y2 filters2 gs2 (low.placed p3 x3 y3 gs3 l)) at =
        let r = to_binds inner o p m f other gs y2 l at in
        record {
          grown = r.grown;
          source = r.source;
          binds = a.round c y2 y other (other ++ r.grown) i e j ts (a.filtered filters) r.binds;
          agrees = r.agrees;
          keeps = r.keeps;
          tests = r.tests;
        }
    to_binds (a.sequence c xs env after i j ts inner) o p m f other gs y (low.seq p2 xs2 ys steady cv) at =
        let r = to_bind inner o p m f other (listed ys) steady cv at in
        record {
          grown = r.grown;
          source = r.source;
          binds = a.sequence c ys other (other ++ r.grown) i j ts r.bind;
          agrees = r.agrees;
          keeps = r.keeps;
          tests = tt;
        }
    to_binds (a.entry c bindings x vs env within after i e j ts have renewed inner) o p m f other gs y (low.entry p2 bindings2 more2 x2 y2 read (low.placed p3 x3 y3 gs3 l) is) at =
        let had : HaveValues text other i (map (λ b. b.value) bindings) vs = have_forth s text env other i at.agree have (read_values s bindings read) in
        let home = replaced other (bindings ++ pair_bindings s p) (vs ++ pair_values p m f) in
        let there : Situated s text within home (setting.inner p) m f i =
        subst (λ z. Situated s text z home (setting.inner p) m f i) (sym renewed) (inside_entry s text apart env other bindings vs p m f i read had at) in
        let r = to_binds inner o (setting.inner p) m f home [] y2 l there in
        still c gs y env other i j j ts tt at.agree
        (a.entry c more2 y2 (vs ++ pair_values p m f) other home (home ++ r.grown) i e j ts
        (subst (λ z. HaveValues text other i (map (λ b. b.value) z) (vs ++ pair_values p m f)) (sym is)
        (subst (λ z. HaveValues text other i z (vs ++ pair_values p m f)) (sym (map-append (λ b. b.value) bindings (pair_bindings s p)))
        (have_append s text other i (map (λ b. b.value) (pair_bindings s p)) (pair_values p m f) had (pair_values_had s text p m f other i at.holds))))
        (ap (λ z. replaced other z (vs ++ pair_values p m f)) (sym is)) r.binds)

    to_listed : {c : DeclKind} {x : Symbol} {env after : Environment} {i e j : ℕ} {ts : Trees} →
        Binds g shapes text c x env i e j ts after → AllOrdered n (bare_trees ts) → (p : Pair) (m : ℕ) (f : Option ℕ) (other : Environment) (gs : List Symbol) (y : Symbol) →
        Listed s c p x gs y → Situated s text env other p m f i → Target c gs y env other i e j ts after
    to_listed (a.literal c word env i e j us behind) o p m f other gs y l at = absurd (listed_form s c l)
    to_listed (a.one_of c class env i e j us behind) o p m f other gs y l at = absurd (listed_form s c l)
    to_listed (a.call c kind name arguments vs env i e j t us have within behind) o p m f other gs y l at = absurd (listed_form s c l)
    to_listed (a.label c name x env between after i e j ts inner bound) o p m f other gs y l at = absurd (listed_form s c l)
    to_listed (a.guard c condition env i) o p m f other gs y l at = absurd (listed_form s c l)
    to_listed (a.let_be c name expression v env after i has bound) o p m f other gs y l at = absurd (listed_form s c l)
    to_listed (a.node c x form parts env i j ts bound has inner) o p m f other gs y l at =
        let b = listed_box s c has l in
        still c gs y env other i j j (one (Node form bound i j ts)) (no_tests gs b.0) at.agree
        (node_forth c b.1 p m f x y form parts env other i j ts bound has b.2 at
        (λ q home others steady each there. to_apart inner o.0.1 q m f home others steady each there))
    to_listed (a.round c x _ env after i e j ts a.offside inner) o p m f other gs y l at = absurd (listed_form s c l)
    to_listed (a.round c x _ env after i e j ts a.ignore inner) o p m f other gs y l at = absurd (listed_form s c l)
    to_listed (a.round c x _ env after i e j ts a.align inner) o p m f other gs y l at = absurd (listed_form s c l)
    to_listed (a.round c x _ env after i e j ts (a.filtered filters) inner) o p m f other gs y (wholes.aligned _ _ _ (low.filtered_list p2 x2 y2 filters2 gs2 l)) at =
        let r = to_listed inner o p m f other gs y2 (wholes.aligned x y2 gs l) at in
        record {
          grown = r.grown;
          source = r.source;
          binds = a.round c y2 y other (other ++ r.grown) i e j ts (a.filtered filters) r.binds;
          agrees = r.agrees;
          keeps = r.keeps;
          tests = r.tests;
        }
    to_listed (a.round c x _ env after i e j ts (a.filtered filters) inner) o p m f other gs y (wholes.part al _ _ steady w) at = elim w [ ]
    to_listed (a.sequence c xs env after i j ts inner) o p m f other gs y l at = absurd (listed_form s c l)
    to_listed (a.entry c bindings x vs env within after i e j ts have renewed inner) o p m f other gs y l at = absurd (listed_form s c l)

    to_apart : {c : DeclKind} {parts : List Symbol} {env : Environment} {i j : ℕ} {ts : Trees} {bound : List Value} →
        BindApart g shapes text c parts env i j ts bound → AllOrdered n (bare_trees ts) → (p : Pair) (m : ℕ) (f : Option ℕ) (other : Environment) (others : List Symbol) →
        IsSteady p → Parts s c p parts others → Situated s text env other p m f i → BindApart g2 shapes2 text c others other i j ts bound
    to_apart (a.no_part c env i) o p m f other others steady wholes.no_parts at = a.no_part c other i
    to_apart (a.next_part c x xs env after i e h j ts us vs some bound first rest trees all) o p m f other others steady (wholes.more_parts x2 y xs2 ys it more2) at =
        let parts = ordered_parts n ts us vs trees o in
        let span = binds_spans g shapes text first parts.0 in
        let d = part_forth c p x y env other i e h ts after steady it
        (λ gs z l. to_binds first parts.0 p m f other gs z l at) (λ gs z l. to_listed first parts.0 p m f other gs z l at) in
        let there = situated_later s text env other env other p m f i h steady (omega (arith, span.begins, span.ends)) (span.within at.within) at.agree (keep_all s other) at in
        a.next_part c y ys other (other ++ d.grown) i d.own h j ts us vs some bound d.binds (to_apart rest parts.1 p m f other ys steady more2 there) trees
        (all ∙ ap (λ z. z ++ some) (bound_alike env after other d.grown d.source))

    to_within : {name : List ℕ} {vs : List Value} {kind : DeclKind} {i e : ℕ} {t : Tree} →
        Within g shapes text name vs kind i e t → IsOrdered n (bare_tree t) → (kd : DeclKind) → s.kind_of name ≡ Some kd → (m : ℕ) (f : Option ℕ) →
        (s.paired kd ≡ false → (m ≡ 0) × (f ≡ None)) → IsBefore f i → i ≤ n →
        Within g2 shapes2 text name (vs ++ pair_args s text (s.paired kd) m f) kind i e t
    to_within (a.alternative name vs kind d k decl shape by env after i e ts t declares numbered bound same inner tree) o kd known m f unpaired before within =
        let is : decl.kind ≡ kd = takes.kinds name kd d decl shape known declares in
        let new = takes.forth name kd d k decl shape by known declares numbered in
        let made : IsRemade s decl new.0 by new.1 = new.4 in
        let cv : Covered s kind (pair_by (s.paired kd)) by.alternative.symbols new.1.alternative.symbols =
        subst (λ z. Covered s z (pair_by (s.paired kd)) by.alternative.symbols new.1.alternative.symbols) (sym same)
        (subst (λ z. Covered s decl.kind (pair_by (s.paired z)) by.alternative.symbols new.1.alternative.symbols) is made.symbols) in
        let pairs = pair_bound s text (s.paired kd) m f in
        let params : new.0.params ≡ decl.params ++ pair_params s text (s.paired kd) =
        made.params ∙ ap (λ z. decl.params ++ pair_params s text (s.paired z)) is in
        let inside = subst (λ z. IsOrdered n (bare_tree z)) tree o in
        let r = to_bind inner inside.1 (pair_by (s.paired kd)) m f (env ++ pairs) new.1.alternative.symbols (pair_steady (s.paired kd)) cv
        (situated_first s text apart (s.paired kd) m f i bound made.written unpaired before within) in
        a.alternative name (vs ++ pair_args s text (s.paired kd) m f) kind d k new.0 shape new.1 (env ++ pairs) ((env ++ pairs) ++ r.grown) i e ts t new.2 new.3
        (subst (λ z. AreBound z (vs ++ pair_args s text (s.paired kd) m f) (env ++ pairs)) (sym params) (bound_forth s text (s.paired kd) m f bound))
        (same ∙ sym made.kind) r.bind
        (tree ∙ ap (λ z. Node (tag_of shape d k) z i e ts) (bound_alike env after (env ++ pairs) r.grown r.source))

    to_behind : {c kind : DeclKind} {e j : ℕ} {ts : Trees} → Behind g shapes text c kind e j ts → AllOrdered n (bare_trees ts) → e ≤ n → Behind g2 shapes2 text c kind e j ts
    to_behind (a.layout name kind e j t declared inner) o within =
        let known = takes.layout_kind name declared in
        a.layout name kind e j t (takes.layout ∙ declared)
        (subst (λ z. Within g2 shapes2 text name z kind e j t) (no_extra s apart g g2 shapes shapes2 text takes [] (s.paired Layout) 0 None takes.layout_unpaired)
        (to_within inner o.0 Layout known 0 None (λ z. (refl, refl)) (omega arith) within))
    to_behind (a.no_layout c kind e undeclared) o within = a.no_layout c kind e (λ syntax lexical. takes.layout ∙ undeclared syntax lexical)
