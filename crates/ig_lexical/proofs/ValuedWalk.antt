-- What is annotated in a grammar is annotated in the one whose symbols are rewritten, with the same values.
use Rattle.std.proofs.Common.{◌≡◌, ◌∙◌, ℕ, List, [], ◌∷◌, Bool, true, false, Some, None, inl, inr, map, refl, sym, ap, subst}
use Rattle.std.specs.Prelude.{◌⊎◌, if◌then◌else◌}
use Rattle.ig_text.specs.Input.{Input}
use Rattle.ig_text.proofs.Options.{one_value}
use Rattle.ig_expr.specs.ValuedTree.{Tree, Trees, Leaf, Node, none, more, one, join}
use Rattle.ig_expr.specs.declared.value.Value.{Value}
use Rattle.ig_grammar.specs.Condition.{declaration_of}
use Rattle.ig_grammar.specs.Numbering.{Levelled, Declares, IsAlternative, layout_among}
use Rattle.ig_grammar.specs.Regular.{IsNoMark}
use Rattle.ig_grammar.specs.Symbol.{Symbol, Call}
use Rattle.ig_grammar.specs.declared.declaration.DeclKind.{DeclKind}
use Rattle.ig_grammar.specs.declared.declaration.DeclKind.TheVariants.{Syntax, Lexical, Plain}
use Rattle.ig_grammar.specs.declared.declaration.Decl.{Decl}
use Rattle.ig_grammar.specs.declared.grammar.Grammar.{Grammar}
use Rattle.ig_grammar.specs.declared.place.Shape.{Shape}
use Rattle.ig_meaning.specs.Annotated as a
use Rattle.ig_meaning.specs.Annotated.{Bind, Binds, BindApart, Within, Behind}
use Rattle.ig_meaning.specs.Environment.{Environment, AreBound, no_values}
use Rattle.ig_pass.specs.Rewriting.{within, rewritten, rewritten_symbols}
use Rattle.ig_lexical.proofs.Sorting.{lexical_kind}
use Rattle.ig_lexical.proofs.Traversal.{Throughout}
use Rattle.ig_lexical.proofs.ValuedForms.{IsWhole, parts_whole, parts_rewritten, listed_rewritten, token_within, token_stays}
use Rattle.ig_lexical.proofs.ValuedForms.{whole_no_token, whole_stays, NoneMarked, none_listed, parts_unmarked}
use Rattle.ig_lexical.specs.Layout.{is_lexical, declares_lexical, is_token, then_layout, laid_inside, laid}

-- behind an option, a list, a group or a sequence no layout is called
whole_laid : (decls : List Decl) (w : List ℕ) (x : Symbol) → IsWhole x → laid decls w x ≡ x
whole_laid decls w x whole =
    subst (λ b. (if b then then_layout w x else laid_inside decls w x) ≡ x) (sym (whole_no_token decls x whole))
    (whole_stays decls w x whole)

-- nothing is covered, by no tree
pub record Bare (e j : ℕ) (us : Trees) : Type 0 where
  pub place : e ≡ j
  pub trees : us ≡ none

module _ (g : Grammar) (shapes : List Shape) (h : Grammar) (forms : List Shape) (text : Input) where
  -- in declarations of the first kind no layout stands behind tokens, nor in those of the second one, and the own rule
  -- keeps what is bound
  pub record Calm (c d : DeclKind) (own : Symbol → Symbol) : Type 0 where
    pub quiet : c ≡ Syntax → layout_among g.decls ≡ None
    pub still : d ≡ Syntax → layout_among h.decls ≡ None
    pub stays : (x : Symbol) → IsWhole x → own x ≡ x
    pub keeps : (x : Symbol) (env after : Environment) (i e j : ℕ) (ts : Trees) →
        Binds h forms text d x env i e j ts after → (f : ℕ) × Binds h forms text d (own x) env i f j ts after

  -- symbols of which the own rule keeps what is bound
  pub record CalmTo (c d : DeclKind) (xs ys : List Symbol) : Type 0 where
    pub own : Symbol → Symbol
    pub calm : Calm c d own
    pub symbols : ys ≡ map (rewritten own) xs

  -- symbols of a syntax declaration, behind whose tokens layout is called
  pub record LaidTo (c d : DeclKind) (xs ys : List Symbol) : Type 0 where
    pub layout : List ℕ
    pub declared : layout_among g.decls ≡ Some layout
    pub syntax : c ≡ Syntax
    pub plain : d ≡ Plain
    pub unmarked : NoneMarked xs
    pub symbols : ys ≡ map (rewritten (laid g.decls layout)) xs

  abbrev pub Becomes : DeclKind → DeclKind → List Symbol → List Symbol → Type 0
  Becomes c d xs ys = CalmTo c d xs ys ⊎ LaidTo c d xs ys

  -- the alternative that one becomes
  pub record Moves (name : List ℕ) (d : ℕ) (decl : Decl) (shape : Shape) (k : ℕ) (by : Levelled) : Type 0 where
    pub other : Decl
    pub to : Levelled
    pub declares : Declares h forms name d other shape
    pub numbered : IsAlternative other k to
    pub params : other.params ≡ decl.params
    pub becomes : Becomes decl.kind other.kind by.alternative.symbols to.alternative.symbols

  -- the node of the nonterminal is one of its declaration there, of some kind
  pub record WithinTo (name : List ℕ) (vs : List Value) (i e : ℕ) (t : Tree) : Type 0 where
    pub kind : DeclKind
    pub within : Within h forms text name vs kind i e t

  -- in a plain declaration nothing stands behind what is called
  bare : (kind : DeclKind) (e : ℕ) → Behind h forms text Plain kind e e none
  bare kind e = a.no_layout Plain kind e (λ s l. absurd (cc))

  -- where no layout stands behind tokens, nothing stands there behind any call
  calm_behind : {c d kind : DeclKind} {own : Symbol → Symbol} {e j : ℕ} {us : Trees} → Calm c d own →
      Behind g shapes text c kind e j us → (other : DeclKind) → Behind h forms text d other e j us
  calm_behind calm (a.layout name kind e j t declared inside) other =
      let bad : Some name ≡ None = sym declared ∙ calm.quiet refl in
      absurd (cc)
  calm_behind {d = d} calm (a.no_layout c kind e undeclared) other = a.no_layout d other e (λ s l. calm.still s)

  -- behind what is no token stands nothing
  bare_behind : {c kind : DeclKind} {e j : ℕ} {us : Trees} → Behind g shapes text c kind e j us → is_lexical kind ≡ false →
      Bare e j us
  bare_behind (a.layout name kind e j t declared inside) other = absurd (cc)
  bare_behind (a.no_layout c kind e undeclared) other = record { place = refl; trees = refl }

  module _ (w : List ℕ) where
    -- a token, up to its own end, and the layout behind it
    pub record TokenTo (x : Symbol) (env : Environment) (i e j : ℕ) (ts : Trees) (after : Environment) : Type 0 where
      pub kind : DeclKind
      pub own : Trees
      pub layout : Tree
      pub binds : Binds h forms text Plain x env i e e own after
      pub behind : Within h forms text w [] kind e j layout
      pub trees : ts ≡ join own (one layout)

    -- a token with layout behind it, and any other symbol, in which layout is behind tokens
    pub record OneLaid (x : Symbol) (env : Environment) (i e j : ℕ) (ts : Trees) (after : Environment) : Type 0 where
      pub token : is_token g.decls x ≡ true → TokenTo x env i e j ts after
      pub other : is_token g.decls x ≡ false →
          Binds h forms text Plain (laid_inside g.decls w (within (laid g.decls w) x)) env i e j ts after

    -- the layout behind a token
    pub record LayoutTo (e j : ℕ) (us : Trees) : Type 0 where
      pub kind : DeclKind
      pub layout : Tree
      pub behind : Within h forms text w [] kind e j layout
      pub trees : us ≡ one layout

    -- what is no token
    no_token : {x : Symbol} {env after : Environment} {i e j : ℕ} {ts : Trees} → is_token g.decls x ≡ false →
        Binds h forms text Plain (laid_inside g.decls w (within (laid g.decls w) x)) env i e j ts after →
        OneLaid x env i e j ts after
    no_token apart binds = record { token = λ t. let bad : true ≡ false = sym t ∙ apart in absurd (cc); other = λ t. binds }

    -- the sequence of a token and layout
    in_sequence : {x : Symbol} {env after : Environment} {i e j : ℕ} {ts : Trees} → TokenTo x env i e j ts after →
        Binds h forms text Plain (then_layout w x) env i j j ts after
    in_sequence {x = x} {env = env} {after = after} {i = i} {e = e} {j = j} {ts = ts} token =
        let called =
        a.call Plain token.kind w [] [] after e j j token.layout none no_values token.behind (bare token.kind j) in
        a.sequence Plain _ env after i j ts
        (a.next Plain x (Call w [] ∷ []) env after after i e e j token.own (one token.layout) ts token.binds
        (a.next Plain (Call w []) [] after after after e j j j (one token.layout) none (one token.layout) called
        (a.nothing Plain after j) refl) token.trees)

    -- the rewritten symbol, up to an own end of its own
    laid_one : {x : Symbol} {env after : Environment} {i e j : ℕ} {ts : Trees} → OneLaid x env i e j ts after →
        (f : ℕ) × Binds h forms text Plain (rewritten (laid g.decls w) x) env i f j ts after
    laid_one {x = x} {env = env} {after = after} {i = i} {e = e} {j = j} {ts = ts} one_laid = go (is_token g.decls x) refl
      where
        own : Symbol → Symbol
        own = laid g.decls w

        y : Symbol
        y = within own x

        go : (b : Bool) → is_token g.decls x ≡ b → (f : ℕ) × Binds h forms text Plain (own y) env i f j ts after
        go true t = (
          j,
          subst
              (λ b. Binds h forms text Plain (if b then then_layout w y else laid_inside g.decls w y) env i j j ts after)
              (sym (token_within g.decls own x ∙ t))
              (subst (λ z. Binds h forms text Plain (then_layout w z) env i j j ts after) (sym (token_stays g.decls own x t))
              (in_sequence (one_laid.token t))),
        )
        go false t = (
          e,
          subst
              (λ b. Binds h forms text Plain (if b then then_layout w y else laid_inside g.decls w y) env i e j ts after)
              (sym (token_within g.decls own x ∙ t)) (one_laid.other t),
        )

  module _ (moves : (name : List ℕ) (d : ℕ) (decl : Decl) (shape : Shape) (k : ℕ) (by : Levelled) →
      Declares g shapes name d decl shape → IsAlternative decl k by → Moves name d decl shape k by)
      (sorted : (name : List ℕ) (vs : List Value) (kind : DeclKind) (i e : ℕ) (t : Tree) →
      Within g shapes text name vs kind i e t → declares_lexical (declaration_of g.decls name) ≡ is_lexical kind) where
    -- what becomes of symbols, by how the pass's own rule goes there
    either : {c d : DeclKind} {xs ys : List Symbol} {env after : Environment} {i j : ℕ} {ts : Trees} → Becomes c d xs ys →
        ((own : Symbol → Symbol) → Calm c d own → Bind h forms text d (map (rewritten own) xs) env i j ts after) →
        ((w : List ℕ) → layout_among g.decls ≡ Some w → c ≡ Syntax → NoneMarked xs →
        Bind h forms text Plain (map (rewritten (laid g.decls w)) xs) env i j ts after) →
        Bind h forms text d ys env i j ts after
    either {d = d} {env = env} {after = after} {i = i} {j = j} {ts = ts} (inl to) calm loud =
        subst (λ z. Bind h forms text d z env i j ts after) (sym to.symbols) (calm to.own to.calm)
    either {d = d} {xs = xs} {env = env} {after = after} {i = i} {j = j} {ts = ts} (inr to) calm loud =
        subst (λ z. Bind h forms text d z env i j ts after) (sym to.symbols)
        (subst (λ z. Bind h forms text z (map (rewritten (laid g.decls to.layout)) xs) env i j ts after) (sym to.plain)
        (loud to.layout to.declared to.syntax to.unmarked))

    mutual
      -- where the own rule keeps what is bound: each symbol up to the same own end
      bind_calm : {c : DeclKind} {xs : List Symbol} {env after : Environment} {i j : ℕ} {ts : Trees} →
          Bind g shapes text c xs env i j ts after → (d : DeclKind) (own : Symbol → Symbol) → Calm c d own →
          Bind h forms text d (map (rewritten own) xs) env i j ts after
      bind_calm (a.nothing c env i) d own calm = a.nothing d env i
      bind_calm (a.next c x others env between after i e k j ts us vs first rest trees) d own calm =
          let head = calm.keeps (within own x) env between i e k ts (binds_calm first d own calm) in
          a.next d (rewritten own x) (map (rewritten own) others) env between after i head.0 k j ts us vs head.1
          (bind_calm rest d own calm) trees

      binds_calm : {c : DeclKind} {x : Symbol} {env after : Environment} {i e j : ℕ} {ts : Trees} →
          Binds g shapes text c x env i e j ts after → (d : DeclKind) (own : Symbol → Symbol) → Calm c d own →
          Binds h forms text d (within own x) env i e j ts after
      binds_calm (a.literal c word env i e j us behind) d own calm =
          a.literal d word env i e j us (calm_behind calm behind Lexical)
      binds_calm (a.one_of c class env i e j us behind) d own calm =
          a.one_of d class env i e j us (calm_behind calm behind Lexical)
      binds_calm (a.call c kind name arguments vs env i e j t us have inside behind) d own calm =
          let to = within_to inside in
          a.call d to.kind name arguments vs env i e j t us have to.within (calm_behind calm behind to.kind)
      binds_calm (a.label c name x env between after i e j ts inner bound) d own calm =
          a.label d name (within own x) env between after i e j ts (binds_calm inner d own calm) bound
      binds_calm (a.guard c condition env i) d own calm = a.guard d condition env i
      binds_calm (a.let_be c name expression v env after i has bound) d own calm =
          a.let_be d name expression v env after i has bound
      binds_calm (a.node c x form parts env i j ts bound has apart) d own calm =
          a.node d (within own x) form (map (rewritten own) parts) env i j ts bound (parts_rewritten own calm.stays has)
          (apart_calm apart d own calm)
      binds_calm (a.round c x y env after i e j ts a.offside inner) d own calm =
          a.round d (within own x) _ env after i e j ts a.offside (binds_calm inner d own calm)
      binds_calm (a.round c x y env after i e j ts a.ignore inner) d own calm =
          a.round d (within own x) _ env after i e j ts a.ignore (binds_calm inner d own calm)
      binds_calm (a.round c x y env after i e j ts a.align inner) d own calm =
          a.round d (within own x) _ env after i e j ts a.align (binds_calm inner d own calm)
      binds_calm (a.round c x y env after i e j ts (a.filtered filters) inner) d own calm =
          a.round d (within own x) _ env after i e j ts (a.filtered filters) (binds_calm inner d own calm)
      binds_calm (a.sequence c xs env after i j ts inner) d own calm =
          a.sequence d (rewritten_symbols own xs) env after i j ts
          (subst (λ z. Bind h forms text d z env i j ts after) (sym (listed_rewritten own xs)) (bind_calm inner d own calm))
      binds_calm (a.entry c bindings x vs env inside after i e j ts have renewed inner) d own calm =
          a.entry d bindings (within own x) vs env inside after i e j ts have renewed (binds_calm inner d own calm)

      apart_calm : {c : DeclKind} {xs : List Symbol} {env : Environment} {i j : ℕ} {ts : Trees} {bound : List Value} →
          BindApart g shapes text c xs env i j ts bound → (d : DeclKind) (own : Symbol → Symbol) → Calm c d own →
          BindApart h forms text d (map (rewritten own) xs) env i j ts bound
      apart_calm (a.no_part c env i) d own calm = a.no_part d env i
      apart_calm (a.next_part c x others env after i e k j ts us vs some bound first rest trees all) d own calm =
          let head = calm.keeps (within own x) env after i e k ts (binds_calm first d own calm) in
          a.next_part d (rewritten own x) (map (rewritten own) others) env after i head.0 k j ts us vs some bound head.1
          (apart_calm rest d own calm) trees all

      -- in a syntax declaration, where layout is declared: it is called behind each token
      bind_laid : {c : DeclKind} {xs : List Symbol} {env after : Environment} {i j : ℕ} {ts : Trees} →
          Bind g shapes text c xs env i j ts after → (w : List ℕ) → layout_among g.decls ≡ Some w → c ≡ Syntax →
          NoneMarked xs → Bind h forms text Plain (map (rewritten (laid g.decls w)) xs) env i j ts after
      bind_laid (a.nothing c env i) w l s q = a.nothing Plain env i
      bind_laid (a.next c x others env between after i e k j ts us vs first rest trees) w l s q =
          let head = laid_one w (binds_laid first w l s q.0) in
          a.next Plain (rewritten (laid g.decls w) x) (map (rewritten (laid g.decls w)) others) env between after i head.0 k j
          ts us vs head.1 (bind_laid rest w l s q.1) trees

      binds_laid : {c : DeclKind} {x : Symbol} {env after : Environment} {i e j : ℕ} {ts : Trees} →
          Binds g shapes text c x env i e j ts after → (w : List ℕ) → layout_among g.decls ≡ Some w → c ≡ Syntax →
          Throughout IsNoMark x → OneLaid w x env i e j ts after
      binds_laid (a.literal c word env i e j us behind) w l s q =
          let b = behind_laid behind w l s refl in
          record {
            token = λ t.
                record {
                  kind = b.kind;
                  own = one (Leaf i e);
                  layout = b.layout;
                  binds = a.literal Plain word env i e e none (bare Lexical e);
                  behind = b.behind;
                  trees = ap (more (Leaf i e)) b.trees;
                };
            other = λ t. absurd (cc);
          }
      binds_laid (a.one_of c class env i e j us behind) w l s q =
          let b = behind_laid behind w l s refl in
          record {
            token = λ t.
                record {
                  kind = b.kind;
                  own = one (Leaf i e);
                  layout = b.layout;
                  binds = a.one_of Plain class env i e e none (bare Lexical e);
                  behind = b.behind;
                  trees = ap (more (Leaf i e)) b.trees;
                };
            other = λ t. absurd (cc);
          }
      binds_laid (a.call c kind name arguments vs env i e j t us have inside behind) w l s q =
          let to = within_to inside in
          let sort = sorted name vs kind i e t inside in
          record {
            token = λ token.
                let b = behind_laid behind w l s (lexical_kind kind (sym sort ∙ token)) in
                record {
                  kind = b.kind;
                  own = one t;
                  layout = b.layout;
                  binds = a.call Plain to.kind name arguments vs env i e e t none have to.within (bare to.kind e);
                  behind = b.behind;
                  trees = ap (more t) b.trees;
                };
            other = λ other.
                let b = bare_behind behind (sym sort ∙ other) in
                subst (λ z. Binds h forms text Plain (Call name arguments) env i e z (more t us) env) b.place
                (subst (λ z. Binds h forms text Plain (Call name arguments) env i e e (more t z) env) (sym b.trees)
                (a.call Plain to.kind name arguments vs env i e e t none have to.within (bare to.kind e)));
          }
      binds_laid (a.label c name x env between after i e j ts inner bound) w l s q =
          let r = binds_laid inner w l s q.1 in
          record {
            token = λ t.
                let k = r.token t in
                record {
                  kind = k.kind;
                  own = k.own;
                  layout = k.layout;
                  binds = a.label Plain name x env between after i e e k.own k.binds bound;
                  behind = k.behind;
                  trees = k.trees;
                };
            other = λ t. a.label Plain name _ env between after i e j ts (r.other t) bound;
          }
      binds_laid (a.guard c condition env i) w l s q = no_token w refl (a.guard Plain condition env i)
      binds_laid (a.let_be c name expression v env after i has bound) w l s q =
          no_token w refl (a.let_be Plain name expression v env after i has bound)
      binds_laid (a.node c x form parts env i j ts bound has apart) w l s q =
          let own = laid g.decls w in
          let rewritten_has = parts_rewritten own (whole_laid g.decls w) has in
          no_token w (whole_no_token g.decls x (parts_whole has))
          (subst (λ z. Binds h forms text Plain z env i j j (one (Node form bound i j ts)) env)
          (sym (whole_stays g.decls w (within own x) (parts_whole rewritten_has)))
          (a.node Plain (within own x) form (map (rewritten own) parts) env i j ts bound rewritten_has
          (apart_laid apart w l s (parts_unmarked has q))))
      binds_laid (a.round c x y env after i e j ts a.offside inner) w l s q = absurd q.0
      binds_laid (a.round c x y env after i e j ts a.ignore inner) w l s q = absurd q.0
      binds_laid (a.round c x y env after i e j ts a.align inner) w l s q = absurd q.0
      binds_laid (a.round c x y env after i e j ts (a.filtered filters) inner) w l s q =
          let r = binds_laid inner w l s q.1 in
          record {
            token = λ t.
                let k = r.token t in
                record {
                  kind = k.kind;
                  own = k.own;
                  layout = k.layout;
                  binds = a.round Plain x _ env after i e e k.own (a.filtered filters) k.binds;
                  behind = k.behind;
                  trees = k.trees;
                };
            other = λ t. a.round Plain _ _ env after i e j ts (a.filtered filters) (r.other t);
          }
      binds_laid (a.sequence c xs env after i j ts inner) w l s q =
          let own = laid g.decls w in
          no_token w refl
          (a.sequence Plain (rewritten_symbols own xs) env after i j ts
          (subst (λ z. Bind h forms text Plain z env i j ts after) (sym (listed_rewritten own xs))
          (bind_laid inner w l s (none_listed xs q.1))))
      binds_laid (a.entry c bindings x vs env inside after i e j ts have renewed inner) w l s q =
          let head = laid_one w (binds_laid inner w l s q.1) in
          no_token w refl
          (a.entry Plain bindings (rewritten (laid g.decls w) x) vs env inside after i head.0 j ts have renewed head.1)

      apart_laid : {c : DeclKind} {xs : List Symbol} {env : Environment} {i j : ℕ} {ts : Trees} {bound : List Value} →
          BindApart g shapes text c xs env i j ts bound → (w : List ℕ) → layout_among g.decls ≡ Some w → c ≡ Syntax →
          NoneMarked xs → BindApart h forms text Plain (map (rewritten (laid g.decls w)) xs) env i j ts bound
      apart_laid (a.no_part c env i) w l s q = a.no_part Plain env i
      apart_laid (a.next_part c x others env after i e k j ts us vs some bound first rest trees all) w l s q =
          let head = laid_one w (binds_laid first w l s q.0) in
          a.next_part Plain (rewritten (laid g.decls w) x) (map (rewritten (laid g.decls w)) others) env after i head.0 k j
          ts us vs some bound head.1 (apart_laid rest w l s q.1) trees all

      -- behind a token stands layout
      behind_laid : {c kind : DeclKind} {e j : ℕ} {us : Trees} → Behind g shapes text c kind e j us → (w : List ℕ) →
          layout_among g.decls ≡ Some w → c ≡ Syntax → kind ≡ Lexical → LayoutTo w e j us
      behind_laid (a.layout name kind e j t declared inside) w l s lexical =
          let to = within_to inside in
          let named : name ≡ w = one_value (layout_among g.decls) name w declared l in
          record {
            kind = to.kind;
            layout = t;
            behind = subst (λ z. Within h forms text z [] to.kind e j t) named to.within;
            trees = refl;
          }
      behind_laid (a.no_layout c kind e undeclared) w l s lexical =
          let bad : Some w ≡ None = sym l ∙ undeclared s lexical in
          absurd (cc)

      -- the node of a nonterminal
      within_to : {name : List ℕ} {vs : List Value} {kind : DeclKind} {i e : ℕ} {t : Tree} →
          Within g shapes text name vs kind i e t → WithinTo name vs i e t
      within_to (a.alternative name vs kind d k decl shape by env after i e ts t declares numbered bound same inner tree) =
          let m = moves name d decl shape k by declares numbered in
          record {
            kind = m.other.kind;
            within =
                a.alternative name vs m.other.kind d k m.other shape m.to env after i e ts t m.declares m.numbered
                (subst (λ z. AreBound z vs env) (sym m.params) bound) refl
                (either (subst (λ z. Becomes z m.other.kind by.alternative.symbols m.to.alternative.symbols) (sym same) m.becomes)
                (λ own calm. bind_calm inner m.other.kind own calm) (λ w l s q. bind_laid inner w l s q)) tree;
          }

    -- symbols that become others are annotated alike
    pub bind_too : {c d : DeclKind} {xs ys : List Symbol} {env after : Environment} {i j : ℕ} {ts : Trees} →
        Becomes c d xs ys → Bind g shapes text c xs env i j ts after → Bind h forms text d ys env i j ts after
    bind_too {d = d} becomes bind =
        either becomes (λ own calm. bind_calm bind d own calm) (λ w l s q. bind_laid bind w l s q)
