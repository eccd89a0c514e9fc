-- What the source derives with allowed starts, the lowered grammar derives under the pair.
use Rattle.std.proofs.Common.{◌≡◌, ◌≢◌, ◌⊎◌, ◌<◌, ◌≤◌, ◌∙◌, ℕ, ◌+◌, Bool, true, false, List, [], ◌∷◌, ◌++◌, map, length, Option, Some, None, Contains, refl, sym, ap, subst, inl, inr, arith}
use Rattle.std.proofs.lemmas.Option.{slice_get_within}
use Rattle.std.proofs.lemmas.List.{append-nil, map-append}
use Rattle.ig_text.specs.Input.{Input}
use Rattle.ig_text.specs.Lines.{column_of}
use Rattle.ig_text.specs.Tree.{Tree, Trees, Node, none, one}
use Rattle.ig_text.proofs.Trees.{join-none}
use Rattle.ig_text.proofs.Lists.{it_is_in}
use Rattle.ig_expr.specs.Expression.{Expression}
use Rattle.ig_expr.specs.declared.value.Value.{Value}
use Rattle.ig_grammar.specs.Binding.{Binding}
use Rattle.ig_grammar.specs.Symbol.{Symbol, Call, Opt, Star, Plus, SepStar, SepPlus, Group, Entry, Guard, listed, gathered}
use Rattle.ig_meaning.specs.Environment.{Environment, HaveValues, no_values, next_value, AreBound, replaced}
use Rattle.ig_grammar.specs.Numbering.{Levelled, Declares, IsAlternative, tag_of}
use Rattle.ig_meaning.specs.Blocks.{AreAligned}
use Rattle.ig_meaning.specs.Derivation.{exposed, span_value, Covers, Derives, Lists, Items, Instance, Trails}
use Rattle.ig_meaning.specs.Derivation.{empty, symbol, literal, one_of, token, call, label, guard, let_be, absent, present, star, plus, sep_star, sep_plus, group, offside, ignore, align, filtered, sequence, entry}
use Rattle.ig_meaning.specs.Derivation.{nil, snoc, one_item, more_items, first_item, further_item, no_item, some_items, bare, with_filters, alternative, layout, no_layout, outside}
use Rattle.ig_grammar.specs.declared.declaration.DeclKind.{DeclKind}
use Rattle.ig_grammar.specs.declared.declaration.DeclKind.TheVariants.{Syntax, Lexical, Layout}
use Rattle.ig_grammar.specs.declared.declaration.Decl.{Decl}
use Rattle.ig_grammar.specs.declared.grammar.Grammar.{Grammar}
use Rattle.ig_grammar.specs.declared.place.Shape.{Shape}
use Rattle.ig_blocks_parts.specs.Allowed.{IsBefore, Allows, outer_column}
use Rattle.ig_blocks_parts.specs.Setting as setting
use Rattle.ig_blocks_parts.proofs.Reading as reading
use Rattle.ig_blocks_parts.specs.Setting.{Setting, Pair, lacking, carried, opened, cleared, m_of, f_of, opened_by, cleared_by, inner, pair_bindings, column_bindings, guards, column_guards, extra_by, pair_by, wrapped}
use Rattle.ig_blocks_parts.proofs.Reading.{AreApart, IsWritten, Reads, AllRead, BindingsRead, IsSteady, pair_in, is_aligned, Agree, Keep}
use Rattle.ig_blocks_parts.proofs.Lowered as low
use Rattle.ig_blocks_parts.proofs.Lowered.{Lowered, Placed, Item, Listing, Covered, Choices}
use Rattle.ig_blocks_parts.proofs.Takes.{Takes, IsRemade}
use Rattle.ig_blocks_parts.proofs.Columns.{all_allowed, allows_block}
use Rattle.ig_blocks_parts.proofs.Values.{agree_bound, keep_all, keep_then, keep_bound, value_agrees, have_forth}
use Rattle.ig_blocks_parts.proofs.Starts.{Each, each_left, each_right, each_none, derives_after, items_begin}
use Rattle.ig_blocks_parts.proofs.Wholes.{choose}
use Rattle.ig_blocks_parts.proofs.Situations.{int, start_int, pair_values, column_values, Holds, Situated, situated_later, situated_opened, situated_cleared, have_append, pair_values_had, HasColumn, inside_box, box_values, inside_entry, inner_steady}
use Rattle.ig_blocks_parts.proofs.Tests.{AreTrue, true_join, allowed_guards, column_true, pair_bound, pair_args, pair_params, bound_forth, situated_first}

pub pair_steady : (b : Bool) → IsSteady (pair_by b)
pair_steady false = tt
pair_steady true = tt

pub read_values : (s : Setting) (bs : List Binding) → BindingsRead s bs → AllRead s (map (λ b. b.value) bs)
read_values s [] r = tt
read_values s (b ∷ bs) r = (r.0.1, read_values s bs r.1)

exposed_allowed : (P : ℕ → Type 0) (c : DeclKind) (i : ℕ) (starts : List ℕ) → starts ≡ exposed c i → Each P starts → c ≡ Syntax → P i
exposed_allowed P c i starts e all same =
    all i (subst (λ z. Contains z i) (sym e) (subst (λ z. Contains (exposed z i) i) (sym same) (it_is_in i)))

module _ (s : Setting) (apart : AreApart s) (g g2 : Grammar) (shapes shapes2 : List Shape) (text : Input) (takes : Takes s g g2 shapes shapes2) where
  pub record Target (c : DeclKind) (gs : List Symbol) (y : Symbol) (other : Environment) (i e j : ℕ) (ts : Trees) (after : Environment) : Type 0 where
    pub left : Environment
    pub exposes : List ℕ
    pub derived : Derives g2 shapes2 text c y other i e j ts left exposes
    pub agrees : Agree s after left
    pub keeps : Keep s other left
    pub tests : AreTrue s text other i gs

  -- with its tests, a symbol in place
  pub record ItemTarget (c : DeclKind) (z : Symbol) (other : Environment) (i j : ℕ) (ts : Trees) (after : Environment) : Type 0 where
    pub own : ℕ
    pub left : Environment
    pub exposes : List ℕ
    pub derived : Derives g2 shapes2 text c z other i own j ts left exposes
    pub agrees : Agree s after left
    pub keeps : Keep s other left

  pub record CoversTarget (c : DeclKind) (ys : List Symbol) (other : Environment) (i j : ℕ) (ts : Trees) (after : Environment) : Type 0 where
    pub left : Environment
    pub exposes : List ℕ
    pub covered : Covers g2 shapes2 text c ys other i j ts left exposes
    pub agrees : Agree s after left
    pub keeps : Keep s other left

  pub record ListsTarget (c : DeclKind) (y : Symbol) (other : Environment) (i j : ℕ) (t : Tree) : Type 0 where
    pub exposes : List ℕ
    pub begins : List ℕ
    pub listed : Lists g2 shapes2 text c y other i j t exposes begins

  pub record InstanceTarget (name : List ℕ) (vs : List Value) (kind : DeclKind) (i e : ℕ) (t : Tree) : Type 0 where
    pub exposes : List ℕ
    pub there : Instance g2 shapes2 text name vs kind i e t exposes

  pub instance_kind : {name : List ℕ} {vs : List Value} {kind : DeclKind} {i e : ℕ} {t : Tree} {starts : List ℕ} (k : DeclKind) →
      Instance g shapes text name vs kind i e t starts → s.kind_of name ≡ Some k → kind ≡ k
  instance_kind kd (alternative name vs kind d k decl shape a env after i e ts t starts declares numbered bound same covers tree) known =
      same ∙ takes.kinds name kd d decl shape known declares

  -- true tests before a symbol
  guarded : (c : DeclKind) (gs : List Symbol) (y : Symbol) (other left : Environment) (i e j : ℕ) (ts : Trees) (starts : List ℕ) →
      AreTrue s text other i gs → Derives g2 shapes2 text c y other i e j ts left starts →
      Covers g2 shapes2 text c (listed (gathered (gs ++ y ∷ []))) other i j ts left (starts ++ [])
  guarded c [] y other left i e j ts starts t d =
      symbol c y [] other left left i e j j ts none ts starts [] (starts ++ []) d (empty c left j) (sym (join-none ts)) refl
  guarded c (Guard condition ∷ gs) y other left i e j ts starts t d =
      symbol c (Guard condition) (listed (gathered (gs ++ y ∷ []))) other other left i i i j none ts ts [] (starts ++ []) (starts ++ [])
      (guard c condition other i t.0) (guarded c gs y other left i e j ts starts t.1 d) refl refl
  guarded c (x ∷ gs) y other left i e j ts starts t d = absurd t.0

  pub in_place : (c : DeclKind) (gs : List Symbol) (y : Symbol) (other : Environment) (i e j : ℕ) (ts : Trees) (after : Environment) →
      AreTrue s text other i gs → Target c [] y other i e j ts after → ItemTarget c (wrapped gs y) other i j ts after
  in_place c [] y other i e j ts after t d =
      record { own = e; left = d.left; exposes = d.exposes; derived = d.derived; agrees = d.agrees; keeps = d.keeps }
  in_place c (x ∷ gs) y other i e j ts after t d =
      record {
        own = j;
        left = d.left;
        exposes = d.exposes ++ [];
        derived = sequence c (gathered (x ∷ gs ++ y ∷ [])) other d.left i j ts (d.exposes ++ []) (guarded c (x ∷ gs) y other d.left i e j ts d.exposes t d.derived);
        agrees = d.agrees;
        keeps = d.keeps;
      }

  -- a symbol in place, from what it becomes
  item_forth : (c : DeclKind) (al : Bool) (p : Pair) (x z : Symbol) (other : Environment) (i e j : ℕ) (ts : Trees) (after : Environment) →
      Item s c al p x z → AreTrue s text other i (column_guards s al) →
      ((gs : List Symbol) (y : Symbol) → Lowered s c (is_aligned x) (pair_in s p x) (reading.bare x) gs y → Target c gs y other i e j ts after) →
      ItemTarget c z other i j ts after
  item_forth c al p x z other i e j ts after (low.item al2 p2 x2 y z2 gs l is) t forth =
      let d = forth gs y l in
      subst (λ q. ItemTarget c q other i j ts after) (sym is)
      (in_place c (column_guards s al ++ gs) y other i e j ts after (true_join s text other i (column_guards s al) gs t d.tests)
      (record { left = d.left; exposes = d.exposes; derived = d.derived; agrees = d.agrees; keeps = d.keeps; tests = tt }))

  -- what is derived inside bindings
  box_forth : (c : DeclKind) (al : Bool) (p : Pair) (m : ℕ) (f : Option ℕ) (env other left : Environment) (bs : List Binding) (y : Symbol)
      (i e j : ℕ) (ts : Trees) (starts : List ℕ) → bs ≡ pair_bindings s p ++ column_bindings s al → Situated s text env other p m f i →
      Derives g2 shapes2 text c y (replaced other (pair_bindings s p ++ column_bindings s al) (pair_values p m f ++ column_values al (column_of text i))) i e j ts left starts →
      Target c [] (Entry bs y) other i j j ts env
  box_forth c al p m f env other left bs y i e j ts starts is at d =
      record {
        left = other;
        exposes = starts;
        derived = subst (λ z. Derives g2 shapes2 text c (Entry z y) other i j j ts other starts) (sym is)
            (entry c (pair_bindings s p ++ column_bindings s al) y (pair_values p m f ++ column_values al (column_of text i)) other
            (replaced other (pair_bindings s p ++ column_bindings s al) (pair_values p m f ++ column_values al (column_of text i))) left i e j ts starts
            (box_values s text apart other al p m f i at.within at.holds) refl d);
        agrees = at.agree;
        keeps = keep_all s other;
        tests = tt;
      }

  list_box : (c : DeclKind) (al : Bool) (p : Pair) (m : ℕ) (f : Option ℕ) (env other : Environment) (bs : List Binding) (x y : Symbol)
      (i j : ℕ) (t : Tree) → bs ≡ pair_bindings s p ++ column_bindings s al → Situated s text env other p m f i → Listing s c al (inner p) x y →
      ListsTarget c y (replaced other (pair_bindings s p ++ column_bindings s al) (pair_values p m f ++ column_values al (column_of text i))) i j t →
      Target c [] (Entry bs y) other i j j (one t) env
  list_box c al p m f env other bs x y i j t is at (low.stars al2 p2 x2 z steady it) r =
      box_forth c al p m f env other _ bs (Star z) i j j (one t) r.exposes is at (star c z _ i j t r.exposes r.begins r.listed)
  list_box c al p m f env other bs x y i j t is at (low.pluses al2 p2 x2 z steady it) r =
      box_forth c al p m f env other _ bs (Plus z) i j j (one t) r.exposes is at (plus c z _ i j t r.exposes r.begins r.listed)
  list_box c al p m f env other bs x y i j t is at (low.sep_stars al2 p2 x2 z sep sep2 steady it it2) r =
      box_forth c al p m f env other _ bs (SepStar z sep2) i j j (one t) r.exposes is at (sep_star c z sep2 _ i j t r.exposes r.begins r.listed)
  list_box c al p m f env other bs x y i j t is at (low.sep_pluses al2 p2 x2 z sep sep2 steady it it2) r =
      box_forth c al p m f env other _ bs (SepPlus z sep2) i j j (one t) r.exposes is at (sep_plus c z sep2 _ i j t r.exposes r.begins r.listed)

  list_in : (c : DeclKind) (p : Pair) (env other : Environment) (x y : Symbol) (i j : ℕ) (t : Tree) → Agree s env other →
      Listing s c false p x y → ListsTarget c y other i j t → Target c [] y other i j j (one t) env
  list_in c p env other x y i j t agree (low.stars al2 p2 x2 z steady it) r =
      record { left = other; exposes = r.exposes; derived = star c z other i j t r.exposes r.begins r.listed; agrees = agree; keeps = keep_all s other; tests = tt }
  list_in c p env other x y i j t agree (low.pluses al2 p2 x2 z steady it) r =
      record { left = other; exposes = r.exposes; derived = plus c z other i j t r.exposes r.begins r.listed; agrees = agree; keeps = keep_all s other; tests = tt }
  list_in c p env other x y i j t agree (low.sep_stars al2 p2 x2 z sep sep2 steady it it2) r =
      record { left = other; exposes = r.exposes; derived = sep_star c z sep2 other i j t r.exposes r.begins r.listed; agrees = agree; keeps = keep_all s other; tests = tt }
  list_in c p env other x y i j t agree (low.sep_pluses al2 p2 x2 z sep sep2 steady it it2) r =
      record { left = other; exposes = r.exposes; derived = sep_plus c z sep2 other i j t r.exposes r.begins r.listed; agrees = agree; keeps = keep_all s other; tests = tt }

  -- the values of arguments, with the pair behind them
  pub extra_had : (b : Bool) (p : Pair) (m : ℕ) (f : Option ℕ) (other : Environment) (i : ℕ) → Holds s text p m f other i →
      HaveValues text other i (extra_by b (m_of s p) (f_of s p)) (pair_args s text b m f)
  extra_had false p m f other i h = no_values
  extra_had true p m f other i h =
      next_value (m_of s p) (f_of s p ∷ []) (int m) (start_int f ∷ []) h.column (next_value (f_of s p) [] (start_int f) [] h.start no_values)

  call_forth : (c kind kd : DeclKind) (p : Pair) (name : List ℕ) (arguments more2 : List Expression) (vs : List Value) (env other : Environment)
      (m : ℕ) (f : Option ℕ) (i j : ℕ) (t : Tree) → kind ≡ kd → kind ≢ Lexical → AllRead s arguments → HaveValues text env i arguments vs →
      more2 ≡ arguments ++ extra_by (s.paired kd) (m_of s p) (f_of s p) → Situated s text env other p m f i →
      InstanceTarget name (vs ++ pair_args s text (s.paired kd) m f) kind i j t → Target c [] (Call name more2) other i j j (one t) env
  call_forth c kind kd p name arguments more2 vs env other m f i j t same other_kind read have is at r =
      record {
        left = other;
        exposes = r.exposes;
        derived = call c kind name more2 (vs ++ pair_args s text (s.paired kd) m f) other i j t r.exposes
            (subst (λ z. HaveValues text other i z (vs ++ pair_args s text (s.paired kd) m f)) (sym is)
            (have_append s text other i (extra_by (s.paired kd) (m_of s p) (f_of s p)) (pair_args s text (s.paired kd) m f)
            (have_forth s text env other i at.agree have read) (extra_had (s.paired kd) p m f other i at.holds)))
            r.there other_kind;
        agrees = at.agree;
        keeps = keep_all s other;
        tests = tt;
      }

  pub no_extra : (vs : List Value) (b : Bool) (m : ℕ) (f : Option ℕ) → b ≡ false → vs ++ pair_args s text b m f ≡ vs
  no_extra vs b m f e = ap (λ z. vs ++ pair_args s text z m f) e ∙ append-nil vs

  pub no_extra_more : (vs : List Value) (b : Bool) (m m2 : ℕ) (f f2 : Option ℕ) → b ≡ false → vs ++ pair_args s text b m f ≡ vs ++ pair_args s text b m2 f2
  no_extra_more vs b m m2 f f2 e = no_extra vs b m f e ∙ sym (no_extra vs b m2 f2 e)

  remade : (kind kd : DeclKind) (name : List ℕ) (vs : List Value) (d k : ℕ) (decl new : Decl) (shape : Shape) (a b : Levelled) (env : Environment) (m : ℕ) (f : Option ℕ)
      (i e : ℕ) (ts : Trees) (after : Environment) → kind ≡ decl.kind → decl.kind ≡ kd → Declares g2 shapes2 name d new shape → IsAlternative new k b → IsRemade s decl new a b →
      AreBound decl.params vs env → CoversTarget kind b.alternative.symbols (env ++ pair_bound s text (s.paired kd) m f) i e ts after →
      (t : Tree) → t ≡ Node (tag_of shape d k) i e ts → InstanceTarget name (vs ++ pair_args s text (s.paired kd) m f) kind i e t
  remade kind kd name vs d k decl new shape a b env m f i e ts after same is declares numbered made bound r t tree =
      let params : new.params ≡ decl.params ++ pair_params s text (s.paired kd) =
      made.params ∙ ap (λ z. decl.params ++ pair_params s text (s.paired z)) is in
      record {
        exposes = r.exposes;
        there = alternative name (vs ++ pair_args s text (s.paired kd) m f) kind d k new shape b (env ++ pair_bound s text (s.paired kd) m f) r.left i e ts t r.exposes
            declares numbered (subst (λ z. AreBound z (vs ++ pair_args s text (s.paired kd) m f) (env ++ pair_bound s text (s.paired kd) m f)) (sym params) (bound_forth s text (s.paired kd) m f bound))
            (same ∙ sym made.kind) r.covered tree;
      }

  columns : {c : DeclKind} {x : Symbol} {env : Environment} {i j : ℕ} {t : Tree} {starts items : List ℕ} →
      Lists g shapes text c x env i j t starts items → AreAligned text items → Each (λ q. column_of text q ≡ column_of text i) items
  columns {i = i} {j = j} {items = items} list aligned q h = go (items_begin takes.in_order g shapes text list)
    where
      go : Contains items i ⊎ ((items ≡ []) × (i ≡ j)) → column_of text q ≡ column_of text i
      go (inl b) = aligned q i h b
      go (inr b) = absurd (each_none (λ z. ⊥) q (subst (λ z. Contains z q) b.0 h))

  mutual
    pub to_covers : {c : DeclKind} {xs : List Symbol} {env after : Environment} {i j : ℕ} {vs : Trees} {starts : List ℕ} →
        Covers g shapes text c xs env i j vs after starts → (p : Pair) (m : ℕ) (f : Option ℕ) (other : Environment) (ys : List Symbol) →
        IsSteady p → Covered s c p xs ys → Situated s text env other p m f i → Each (Allows text m f) starts → CoversTarget c ys other i j vs after
    to_covers (empty c env i) p m f other ys steady (low.nothing p2) at all =
        record { left = other; exposes = []; covered = empty c other i; agrees = at.agree; keeps = keep_all s other }
    to_covers (symbol c x others env between after i e h j ts us vs ks ls starts first rest trees exposes) p m f other ys steady (low.next p2 x2 y xs2 ys2 it more2) at all =
        let wo = takes.in_order g shapes text in let o = wo.derives first in
        let a = item_forth c false p x y other i e h ts between it tt (λ gs z l. to_derives first p m f other gs z l at (each_left (Allows text m f) ks ls starts exposes all)) in
        let b = to_covers rest p m f a.left ys2 steady more2
        (situated_later s text env other between a.left p m f i h steady (omega (arith, o.begins, o.ends)) (o.within at.within) a.agrees a.keeps at)
        (each_right (Allows text m f) ks ls starts exposes all) in
        record {
          left = b.left;
          exposes = a.exposes ++ b.exposes;
          covered = symbol c y ys2 other a.left b.left i a.own h j ts us vs a.exposes b.exposes (a.exposes ++ b.exposes) a.derived b.covered trees refl;
          agrees = b.agrees;
          keeps = keep_then s other a.left b.left a.keeps b.keeps;
        }

    pub to_derives : {c : DeclKind} {x : Symbol} {env after : Environment} {i e j : ℕ} {ts : Trees} {starts : List ℕ} →
        Derives g shapes text c x env i e j ts after starts → (p : Pair) (m : ℕ) (f : Option ℕ) (other : Environment) (gs : List Symbol) (y : Symbol) →
        Lowered s c (is_aligned x) (pair_in s p x) (reading.bare x) gs y → Situated s text env other p m f i → Each (Allows text m f) starts →
        Target c gs y other i e j ts after
    to_derives (literal c word env i e j us ts starts spells trails trees exposes) p m f other gs y (low.literal p2 word2 gs2 proper tests) at all =
        record {
          left = other;
          exposes = starts;
          derived = literal c word other i e j us ts starts spells (to_trails trails spells.within) trees exposes;
          agrees = at.agree;
          keeps = keep_all s other;
          tests = subst (AreTrue s text other i) (sym tests) (allowed_guards s text c p m f other i proper at.holds at.before at.within (exposed_allowed (Allows text m f) c i starts exposes all));
        }
    to_derives (one_of c class env i e j us ts starts among trails trees exposes) p m f other gs y (low.one_of p2 class2 gs2 proper tests) at all =
        let here : i < length text.characters = slice_get_within text.characters i among.character among.there in
        let next : e ≡ i + 1 = among.next in
        let inner_end : e ≤ length text.characters = omega (arith, next, here) in
        record {
          left = other;
          exposes = starts;
          derived = one_of c class other i e j us ts starts among (to_trails trails inner_end) trees exposes;
          agrees = at.agree;
          keeps = keep_all s other;
          tests = subst (AreTrue s text other i) (sym tests) (allowed_guards s text c p m f other i proper at.holds at.before at.within (exposed_allowed (Allows text m f) c i starts exposes all));
        }
    to_derives (token c name arguments vs env i e j t us ts ks starts have instance trails trees exposes) p m f other gs y (low.token p2 name2 arguments2 gs2 known read proper tests) at all =
        let wo = takes.in_order g shapes text in let o = wo.instance instance in
        let r = to_instance instance Lexical known 0 None (λ z. (refl, refl)) (omega arith) at.within (λ q h. all_allowed text q) in
        record {
          left = other;
          exposes = starts;
          derived = token c name arguments vs other i e j t us ts r.exposes starts (have_forth s text env other i at.agree have read)
              (subst (λ z. Instance g2 shapes2 text name z Lexical i e t r.exposes) (no_extra vs (s.paired Lexical) 0 None takes.lexical_unpaired) r.there)
              (to_trails trails (o.within at.within)) trees exposes;
          agrees = at.agree;
          keeps = keep_all s other;
          tests = subst (AreTrue s text other i) (sym tests) (allowed_guards s text c p m f other i proper at.holds at.before at.within (exposed_allowed (Allows text m f) c i starts exposes all));
        }
    to_derives (token c name arguments vs env i e j t us ts ks starts have instance trails trees exposes) p m f other gs y (low.call p2 name2 arguments2 more2 kind2 known not_lexical into handed read is) at all =
        absurd (not_lexical (sym (instance_kind kind2 instance known)))
    to_derives (call c kind name arguments vs env i j t starts have instance other_kind) p m f other gs y (low.token p2 name2 arguments2 gs2 known read proper tests) at all =
        absurd (other_kind (instance_kind Lexical instance known))
    to_derives (call c kind name arguments vs env i j t starts have instance other_kind) p m f other gs y (low.call p2 name2 arguments2 more2 kind2 known not_lexical into (inl paired) read is) at all =
        call_forth c kind kind2 p name arguments more2 vs env other m f i j t (instance_kind kind2 instance known) other_kind read have is at
        (to_instance instance kind2 known m f (λ z. absurd (cc)) at.before at.within all)
    to_derives (call c kind name arguments vs env i j t starts have instance other_kind) p m f other gs y (low.call p2 name2 arguments2 more2 kind2 known not_lexical into (inr unpaired) read is) at all =
        call_forth c kind kind2 p name arguments more2 vs env other m f i j t (instance_kind kind2 instance known) other_kind read have is at
        (subst (λ z. InstanceTarget name z kind i j t) (no_extra_more vs (s.paired kind2) 0 m None f unpaired.0)
        (to_instance instance kind2 known 0 None (λ z. (refl, refl)) (omega arith) at.within (λ q h. all_allowed text q)))
    to_derives (label c name x env between after i e j ts starts inside bound) p m f other gs y (low.label p2 name2 x2 y2 gs2 written (low.placed p3 x3 y3 gs3 l)) at all =
        let r = to_derives inside p m f other gs y2 l at all in
        record {
          left = r.left ++ (name, span_value i e) ∷ [];
          exposes = r.exposes;
          derived = label c name y2 other r.left (r.left ++ (name, span_value i e) ∷ []) i e j ts r.exposes r.derived refl;
          agrees = subst (λ z. Agree s z (r.left ++ (name, span_value i e) ∷ [])) (sym bound) (agree_bound s between r.left name (span_value i e) r.agrees);
          keeps = keep_bound s other r.left name (span_value i e) written r.keeps;
          tests = r.tests;
        }
    to_derives (guard c condition env i holds) p m f other gs y (low.guard p2 e2 read) at all =
        record {
          left = other;
          exposes = [];
          derived = guard c condition other i (sym (value_agrees s text env other at.agree i condition read) ∙ holds);
          agrees = at.agree;
          keeps = keep_all s other;
          tests = tt;
        }
    to_derives (let_be c name expression v env after i has bound) p m f other gs y (low.let_be p2 name2 e2 written read) at all =
        record {
          left = other ++ (name, v) ∷ [];
          exposes = [];
          derived = let_be c name expression v other (other ++ (name, v) ∷ []) i (sym (value_agrees s text env other at.agree i expression read) ∙ has) refl;
          agrees = subst (λ z. Agree s z (other ++ (name, v) ∷ [])) (sym bound) (agree_bound s env other name v at.agree);
          keeps = keep_bound s other other name v written (keep_all s other);
          tests = tt;
        }
    to_derives (absent c x env i) p m f other gs y (low.opt_in p2 x2 z steady it) at all =
        record { left = other; exposes = []; derived = absent c z other i; agrees = at.agree; keeps = keep_all s other; tests = tt }
    to_derives (absent c x env i) p m f other gs y (low.opt_box p2 bs x2 z it is) at all =
        box_forth c false p m f env other _ bs (Opt z) i i i _ [] is at (absent c z _ i)
    to_derives (present c x env between i e j ts starts inside) p m f other gs y (low.opt_in p2 x2 z steady it) at all =
        let r = item_forth c false p x z other i e j ts between it tt (λ gs2 z2 l. to_derives inside p m f other gs2 z2 l at all) in
        record { left = other; exposes = r.exposes; derived = present c z other r.left i r.own j ts r.exposes r.derived; agrees = at.agree; keeps = keep_all s other; tests = tt }
    to_derives (present c x env between i e j ts starts inside) p m f other gs y (low.opt_box p2 bs x2 z it is) at all =
        let b = inside_box s text apart env other false p m f i at in
        let home = replaced other (pair_bindings s p ++ column_bindings s false) (pair_values p m f ++ column_values false (column_of text i)) in
        let r = item_forth c false (setting.inner p) x z home i e j ts between it tt (λ gs2 z2 l. to_derives inside (setting.inner p) m f home gs2 z2 l b.situated all) in
        box_forth c false p m f env other home bs (Opt z) i j j _ r.exposes is at (present c z home r.left i r.own j ts r.exposes r.derived)
    to_derives (star c x env i j t starts items list) p m f other gs y (low.star_in p2 x2 z steady it) at all =
        let ll : Listing s c false p (Star x) (Star z) = low.stars false p x z steady it in
        list_in c p env other (Star x) (Star z) i j t at.agree ll (to_lists list false p m f other (Star z) ll at 0 tt (λ e. absurd (cc)) all)
    to_derives (star c x env i j t starts items list) p m f other gs y (low.star_box al p2 bs x2 z it is) at all =
        let b = inside_box s text apart env other false p m f i at in
        let ll : Listing s c false (setting.inner p) (Star x) (Star z) = low.stars false (setting.inner p) x z (inner_steady s text apart p) it in
        list_box c false p m f env other bs (Star x) (Star z) i j t is at ll (to_lists list false (setting.inner p) m f _ (Star z) ll b.situated (column_of text i) b.column (λ e. absurd (cc)) all)
    to_derives (plus c x env i j t starts items list) p m f other gs y (low.plus_in p2 x2 z steady it) at all =
        let ll : Listing s c false p (Plus x) (Plus z) = low.pluses false p x z steady it in
        list_in c p env other (Plus x) (Plus z) i j t at.agree ll (to_lists list false p m f other (Plus z) ll at 0 tt (λ e. absurd (cc)) all)
    to_derives (plus c x env i j t starts items list) p m f other gs y (low.plus_box al p2 bs x2 z it is) at all =
        let b = inside_box s text apart env other false p m f i at in
        let ll : Listing s c false (setting.inner p) (Plus x) (Plus z) = low.pluses false (setting.inner p) x z (inner_steady s text apart p) it in
        list_box c false p m f env other bs (Plus x) (Plus z) i j t is at ll (to_lists list false (setting.inner p) m f _ (Plus z) ll b.situated (column_of text i) b.column (λ e. absurd (cc)) all)
    to_derives (sep_star c x separator env i j t starts items list) p m f other gs y (low.sep_star_in p2 x2 z sep2 z2 steady it it2) at all =
        let ll : Listing s c false p (SepStar x separator) (SepStar z z2) = low.sep_stars false p x z separator z2 steady it it2 in
        list_in c p env other (SepStar x separator) (SepStar z z2) i j t at.agree ll (to_lists list false p m f other (SepStar z z2) ll at 0 tt (λ e. absurd (cc)) all)
    to_derives (sep_star c x separator env i j t starts items list) p m f other gs y (low.sep_star_box al p2 bs x2 z sep2 z2 it it2 is) at all =
        let b = inside_box s text apart env other false p m f i at in
        let ll : Listing s c false (setting.inner p) (SepStar x separator) (SepStar z z2) = low.sep_stars false (setting.inner p) x z separator z2 (inner_steady s text apart p) it it2 in
        list_box c false p m f env other bs (SepStar x separator) (SepStar z z2) i j t is at ll (to_lists list false (setting.inner p) m f _ (SepStar z z2) ll b.situated (column_of text i) b.column (λ e. absurd (cc)) all)
    to_derives (sep_plus c x separator env i j t starts items list) p m f other gs y (low.sep_plus_in p2 x2 z sep2 z2 steady it it2) at all =
        let ll : Listing s c false p (SepPlus x separator) (SepPlus z z2) = low.sep_pluses false p x z separator z2 steady it it2 in
        list_in c p env other (SepPlus x separator) (SepPlus z z2) i j t at.agree ll (to_lists list false p m f other (SepPlus z z2) ll at 0 tt (λ e. absurd (cc)) all)
    to_derives (sep_plus c x separator env i j t starts items list) p m f other gs y (low.sep_plus_box al p2 bs x2 z sep2 z2 it it2 is) at all =
        let b = inside_box s text apart env other false p m f i at in
        let ll : Listing s c false (setting.inner p) (SepPlus x separator) (SepPlus z z2) = low.sep_pluses false (setting.inner p) x z separator z2 (inner_steady s text apart p) it it2 in
        list_box c false p m f env other bs (SepPlus x separator) (SepPlus z z2) i j t is at ll (to_lists list false (setting.inner p) m f _ (SepPlus z z2) ll b.situated (column_of text i) b.column (λ e. absurd (cc)) all)
    to_derives (group c choices k xs env between i j ts starts chosen inside) p m f other gs y (low.group_in p2 choices2 others2 steady ch) at all =
        let w = choose s c p choices others2 chosen.0 k xs ch chosen.1 chosen.2 in
        let r = to_covers inside p m f other (listed w.symbols) steady w.covered at all in
        record { left = other; exposes = r.exposes; derived = group c others2 k w.symbols other r.left i j ts r.exposes w.chosen r.covered; agrees = at.agree; keeps = keep_all s other; tests = tt }
    to_derives (group c choices k xs env between i j ts starts chosen inside) p m f other gs y (low.group_box p2 bs choices2 others2 ch is) at all =
        let b = inside_box s text apart env other false p m f i at in
        let home = replaced other (pair_bindings s p ++ column_bindings s false) (pair_values p m f ++ column_values false (column_of text i)) in
        let w = choose s c (setting.inner p) choices others2 chosen.0 k xs ch chosen.1 chosen.2 in
        let r = to_covers inside (setting.inner p) m f home (listed w.symbols) (inner_steady s text apart p) w.covered b.situated all in
        box_forth c false p m f env other home bs (Group others2) i j j _ r.exposes is at (group c others2 k w.symbols home r.left i j ts r.exposes w.chosen r.covered)
    to_derives (offside c x env after i e j ts starts inside right) p m f other gs y l at all =
        to_derives inside (opened_by s p) (outer_column text i m f) (Some i) other gs y l (situated_opened s text env other p m f i at)
        (λ q h. allows_block text m f i q at.before (derives_after takes.in_order g shapes text inside q h) (all q h) (right q h))
    to_derives (ignore c x env after i e j ts starts inside) p m f other gs y l at all =
        to_derives inside (cleared_by p) 0 None other gs y l (situated_cleared s text env other p m f i at) (λ q h. all_allowed text q)
    to_derives (align c x env after i e j ts starts items inside column) p m f other gs y l at all =
        to_items inside p m f other gs y l at column all
    to_derives (filtered c x filters env after i e j ts starts inside passes) p m f other gs y (low.filtered p2 x2 y2 filters2 gs2 (low.placed p3 x3 y3 gs3 l)) at all =
        let r = to_derives inside p m f other gs y2 l at all in
        record { left = r.left; exposes = r.exposes; derived = filtered c y2 filters other r.left i e j ts r.exposes r.derived passes; agrees = r.agrees; keeps = r.keeps; tests = r.tests }
    to_derives (sequence c xs env after i j ts starts inside) p m f other gs y (low.seq p2 xs2 ys steady cv) at all =
        let r = to_covers inside p m f other (listed ys) steady cv at all in
        record { left = r.left; exposes = r.exposes; derived = sequence c ys other r.left i j ts r.exposes r.covered; agrees = r.agrees; keeps = r.keeps; tests = tt }
    to_derives (entry c bindings x vs env within after i e j ts starts have renewed inside) p m f other gs y (low.entry p2 bindings2 more2 x2 y2 read (low.placed p3 x3 y3 gs3 l) is) at all =
        let had : HaveValues text other i (map (λ b. b.value) bindings) vs = have_forth s text env other i at.agree have (read_values s bindings read) in
        let home = replaced other (bindings ++ pair_bindings s p) (vs ++ pair_values p m f) in
        let there : Situated s text within home (setting.inner p) m f i =
        subst (λ z. Situated s text z home (setting.inner p) m f i) (sym renewed) (inside_entry s text apart env other bindings vs p m f i read had at) in
        let r = to_derives inside (setting.inner p) m f home [] y2 l there all in
        record {
          left = other;
          exposes = r.exposes;
          derived = entry c more2 y2 (vs ++ pair_values p m f) other home r.left i e j ts r.exposes
              (subst (λ z. HaveValues text other i (map (λ b. b.value) z) (vs ++ pair_values p m f)) (sym is)
              (subst (λ z. HaveValues text other i z (vs ++ pair_values p m f)) (sym (map-append (λ b. b.value) bindings (pair_bindings s p)))
              (have_append s text other i (map (λ b. b.value) (pair_bindings s p)) (pair_values p m f) had (pair_values_had s text p m f other i at.holds))))
              (ap (λ z. replaced other z (vs ++ pair_values p m f)) (sym is)) r.derived;
          agrees = at.agree;
          keeps = keep_all s other;
          tests = tt;
        }

    pub to_lists : {c : DeclKind} {x : Symbol} {env : Environment} {i j : ℕ} {t : Tree} {starts items : List ℕ} →
        Lists g shapes text c x env i j t starts items → (al : Bool) (p : Pair) (m : ℕ) (f : Option ℕ) (other : Environment) (y : Symbol) →
        Listing s c al p x y → Situated s text env other p m f i → (k : ℕ) → HasColumn s text al other k →
        (al ≡ true → Each (λ q. column_of text q ≡ k) items) → Each (Allows text m f) starts → ListsTarget c y other i j t
    to_lists (nil c x env i) al p m f other y (low.stars al2 p2 x2 z steady it) at k col columns all =
        record { exposes = []; begins = []; listed = nil c z other i }
    to_lists (snoc c x env after i h e j t ts ks ls starts ps items list item exposes begin) al p m f other y (low.stars al2 p2 x2 z steady it) at k col columns all =
        let wo = takes.in_order g shapes text in let o = wo.lists list in
        let a = to_lists list al p m f other (Star z) (low.stars al p x z steady it) at k col (λ b. each_left (λ q. column_of text q ≡ k) ps (h ∷ []) items begin (columns b)) (each_left (Allows text m f) ks ls starts exposes all) in
        let there = situated_later s text env other env other p m f i h steady (omega (arith, o.begins, o.ends)) (o.within at.within) at.agree (keep_all s other) at in
        let r = item_forth c al p x z other h e j ts after it
        (column_true s text al other h k (o.within at.within) col (λ b. each_right (λ q. column_of text q ≡ k) ps (h ∷ []) items begin (columns b) h (it_is_in h)))
        (λ gs2 z2 l. to_derives item p m f other gs2 z2 l there (each_right (Allows text m f) ks ls starts exposes all)) in
        record {
          exposes = a.exposes ++ r.exposes;
          begins = a.begins ++ h ∷ [];
          listed = snoc c z other r.left i h r.own j t ts a.exposes r.exposes (a.exposes ++ r.exposes) a.begins (a.begins ++ h ∷ []) a.listed r.derived refl refl;
        }
    to_lists (one_item c x env after i e j ts starts item) al p m f other y (low.pluses al2 p2 x2 z steady it) at k col columns all =
        let r = item_forth c al p x z other i e j ts after it (column_true s text al other i k at.within col (λ b. columns b i (it_is_in i)))
        (λ gs2 z2 l. to_derives item p m f other gs2 z2 l at all) in
        record { exposes = r.exposes; begins = i ∷ []; listed = one_item c z other r.left i r.own j ts r.exposes r.derived }
    to_lists (more_items c x env after i h e j t ts ks ls starts ps items list item exposes begin) al p m f other y (low.pluses al2 p2 x2 z steady it) at k col columns all =
        let wo = takes.in_order g shapes text in let o = wo.lists list in
        let a = to_lists list al p m f other (Plus z) (low.pluses al p x z steady it) at k col (λ b. each_left (λ q. column_of text q ≡ k) ps (h ∷ []) items begin (columns b)) (each_left (Allows text m f) ks ls starts exposes all) in
        let there = situated_later s text env other env other p m f i h steady (omega (arith, o.begins, o.ends)) (o.within at.within) at.agree (keep_all s other) at in
        let r = item_forth c al p x z other h e j ts after it
        (column_true s text al other h k (o.within at.within) col (λ b. each_right (λ q. column_of text q ≡ k) ps (h ∷ []) items begin (columns b) h (it_is_in h)))
        (λ gs2 z2 l. to_derives item p m f other gs2 z2 l there (each_right (Allows text m f) ks ls starts exposes all)) in
        record {
          exposes = a.exposes ++ r.exposes;
          begins = a.begins ++ h ∷ [];
          listed = more_items c z other r.left i h r.own j t ts a.exposes r.exposes (a.exposes ++ r.exposes) a.begins (a.begins ++ h ∷ []) a.listed r.derived refl refl;
        }
    to_lists (first_item c x separator env after i e j ts starts item) al p m f other y (low.sep_pluses al2 p2 x2 z sep2 z2 steady it it2) at k col columns all =
        let r = item_forth c al p x z other i e j ts after it (column_true s text al other i k at.within col (λ b. columns b i (it_is_in i)))
        (λ gs3 z3 l. to_derives item p m f other gs3 z3 l at all) in
        record { exposes = r.exposes; begins = i ∷ []; listed = first_item c z z2 other r.left i r.own j ts r.exposes r.derived }
    to_lists (further_item c x separator env between after i h q n e j t us ts vs ks ms ls starts ps items list part item trees exposes begin) al p m f other y (low.sep_pluses al2 p2 x2 z sep2 z2 steady it it2) at k col columns all =
        let wo = takes.in_order g shapes text in let o = wo.lists list in
        let wo2 = takes.in_order g shapes text in let o2 = wo2.derives part in
        let front = each_left (Allows text m f) (ks ++ ms) ls starts exposes all in
        let a = to_lists list al p m f other (SepPlus z z2) (low.sep_pluses al p x z separator z2 steady it it2) at k col (λ b. each_left (λ q2. column_of text q2 ≡ k) ps (n ∷ []) items begin (columns b)) (each_left (Allows text m f) ks ms (ks ++ ms) refl front) in
        let there = situated_later s text env other env other p m f i h steady (omega (arith, o.begins, o.ends)) (o.within at.within) at.agree (keep_all s other) at in
        let past : n ≤ length text.characters = o2.within (o.within at.within) in
        let there2 = situated_later s text env other env other p m f i n steady (omega (arith, o.begins, o.ends, o2.begins, o2.ends)) past at.agree (keep_all s other) at in
        let b = item_forth c false p separator z2 other h q n us between it2 tt
        (λ gs3 z3 l. to_derives part p m f other gs3 z3 l there (each_right (Allows text m f) ks ms (ks ++ ms) refl front)) in
        let r = item_forth c al p x z other n e j ts after it
        (column_true s text al other n k past col (λ d. each_right (λ q2. column_of text q2 ≡ k) ps (n ∷ []) items begin (columns d) n (it_is_in n)))
        (λ gs3 z3 l. to_derives item p m f other gs3 z3 l there2 (each_right (Allows text m f) (ks ++ ms) ls starts exposes all)) in
        record {
          exposes = a.exposes ++ b.exposes ++ r.exposes;
          begins = a.begins ++ n ∷ [];
          listed = further_item c z z2 other b.left r.left i h b.own n r.own j t us ts vs a.exposes b.exposes r.exposes (a.exposes ++ b.exposes ++ r.exposes) a.begins (a.begins ++ n ∷ []) a.listed b.derived r.derived trees refl refl;
        }
    to_lists (no_item c x separator env i) al p m f other y (low.sep_stars al2 p2 x2 z sep2 z2 steady it it2) at k col columns all =
        record { exposes = []; begins = []; listed = no_item c z z2 other i }
    to_lists (some_items c x separator env i j t starts items list) al p m f other y (low.sep_stars al2 p2 x2 z sep2 z2 steady it it2) at k col columns all =
        let a = to_lists list al p m f other (SepPlus z z2) (low.sep_pluses al p x z separator z2 steady it it2) at k col columns all in
        record { exposes = a.exposes; begins = a.begins; listed = some_items c z z2 other i j t a.exposes a.begins a.listed }

    pub to_items : {c : DeclKind} {x : Symbol} {env after : Environment} {i e j : ℕ} {ts : Trees} {starts items : List ℕ} →
        Items g shapes text c x env i e j ts after starts items → (p : Pair) (m : ℕ) (f : Option ℕ) (other : Environment) (gs : List Symbol) (y : Symbol) →
        Lowered s c true p x gs y → Situated s text env other p m f i → AreAligned text items → Each (Allows text m f) starts →
        Target c gs y other i e j ts after
    to_items (bare c x env i j t starts items list) p m f other gs y (low.star_box al p2 bs x2 z it is) at column all =
        let b = inside_box s text apart env other true p m f i at in
        let ll : Listing s c true (setting.inner p) (Star x2) (Star z) = low.stars true (setting.inner p) x2 z (inner_steady s text apart p) it in
        list_box c true p m f env other bs (Star x2) (Star z) i j t is at ll (to_lists list true (setting.inner p) m f _ (Star z) ll b.situated (column_of text i) b.column (λ e. columns list column) all)
    to_items (bare c x env i j t starts items list) p m f other gs y (low.plus_box al p2 bs x2 z it is) at column all =
        let b = inside_box s text apart env other true p m f i at in
        let ll : Listing s c true (setting.inner p) (Plus x2) (Plus z) = low.pluses true (setting.inner p) x2 z (inner_steady s text apart p) it in
        list_box c true p m f env other bs (Plus x2) (Plus z) i j t is at ll (to_lists list true (setting.inner p) m f _ (Plus z) ll b.situated (column_of text i) b.column (λ e. columns list column) all)
    to_items (bare c x env i j t starts items list) p m f other gs y (low.sep_star_box al p2 bs x2 z sep2 z2 it it2 is) at column all =
        let b = inside_box s text apart env other true p m f i at in
        let ll : Listing s c true (setting.inner p) (SepStar x2 sep2) (SepStar z z2) = low.sep_stars true (setting.inner p) x2 z sep2 z2 (inner_steady s text apart p) it it2 in
        list_box c true p m f env other bs (SepStar x2 sep2) (SepStar z z2) i j t is at ll (to_lists list true (setting.inner p) m f _ (SepStar z z2) ll b.situated (column_of text i) b.column (λ e. columns list column) all)
    to_items (bare c x env i j t starts items list) p m f other gs y (low.sep_plus_box al p2 bs x2 z sep2 z2 it it2 is) at column all =
        let b = inside_box s text apart env other true p m f i at in
        let ll : Listing s c true (setting.inner p) (SepPlus x2 sep2) (SepPlus z z2) = low.sep_pluses true (setting.inner p) x2 z sep2 z2 (inner_steady s text apart p) it it2 in
        list_box c true p m f env other bs (SepPlus x2 sep2) (SepPlus z z2) i j t is at ll (to_lists list true (setting.inner p) m f _ (SepPlus z z2) ll b.situated (column_of text i) b.column (λ e. columns list column) all)
    to_items (bare c x env i j t starts items list) p m f other gs y (low.filtered_list p2 x2 y2 filters2 gs2 l) at column all = elim list [ ]
    to_items (with_filters c x filters env after i e j ts starts items inside passes) p m f other gs y (low.filtered_list p2 x2 y2 filters2 gs2 l) at column all =
        let r = to_items inside p m f other gs y2 l at column all in
        record { left = r.left; exposes = r.exposes; derived = filtered c y2 filters other r.left i e j ts r.exposes r.derived passes; agrees = r.agrees; keeps = r.keeps; tests = r.tests }

    pub to_instance : {name : List ℕ} {vs : List Value} {kind : DeclKind} {i e : ℕ} {t : Tree} {starts : List ℕ} →
        Instance g shapes text name vs kind i e t starts → (kd : DeclKind) → s.kind_of name ≡ Some kd → (m : ℕ) (f : Option ℕ) →
        (s.paired kd ≡ false → (m ≡ 0) × (f ≡ None)) → IsBefore f i → i ≤ length text.characters → Each (Allows text m f) starts →
        InstanceTarget name (vs ++ pair_args s text (s.paired kd) m f) kind i e t
    to_instance (alternative name vs kind d k decl shape a env after i e ts t starts declares numbered bound same covers tree) kd known m f unpaired before within all =
        let is : decl.kind ≡ kd = takes.kinds name kd d decl shape known declares in
        let new = takes.forth name kd d k decl shape a known declares numbered in
        let made : IsRemade s decl new.0 a new.1 = new.4 in
        let cv : Covered s kind (pair_by (s.paired kd)) a.alternative.symbols new.1.alternative.symbols =
        subst (λ z. Covered s z (pair_by (s.paired kd)) a.alternative.symbols new.1.alternative.symbols) (sym same)
        (subst (λ z. Covered s decl.kind (pair_by (s.paired z)) a.alternative.symbols new.1.alternative.symbols) is made.symbols) in
        remade kind kd name vs d k decl new.0 shape a new.1 env m f i e ts after same is new.2 new.3 made bound
        (to_covers covers (pair_by (s.paired kd)) m f (env ++ pair_bound s text (s.paired kd) m f) new.1.alternative.symbols (pair_steady (s.paired kd)) cv
        (situated_first s text apart (s.paired kd) m f i bound made.written unpaired before within) all)
        t tree

    pub to_trails : {c : DeclKind} {e j : ℕ} {ts : Trees} → Trails g shapes text c e j ts → e ≤ length text.characters → Trails g2 shapes2 text c e j ts
    to_trails (layout name kind e j t starts declared instance) within =
        let known = takes.layout_kind name declared in
        let r = to_instance instance Layout known 0 None (λ z. (refl, refl)) (omega arith) within (λ q h. all_allowed text q) in
        layout name kind e j t r.exposes (takes.layout ∙ declared)
        (subst (λ z. Instance g2 shapes2 text name z kind e j t r.exposes) (no_extra [] (s.paired Layout) 0 None takes.layout_unpaired) r.there)
    to_trails (no_layout e undeclared) within = no_layout e (takes.layout ∙ undeclared)
    to_trails (outside c e other) within = outside c e other
