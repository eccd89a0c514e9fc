-- Each derivation has its trees with the values that its alternatives bind.
use Rattle.std.proofs.Common.{◌≡◌, ℕ, List, [], ◌∷◌, ◌++◌, length, refl, sym, ◌∙◌, ap, subst}
use Rattle.ig_text.specs.Input.{Input}
use Rattle.ig_text.specs.declared.tag.Tag.{Tag}
use Rattle.ig_text.specs.declared.tag.Tag.TheVariants as tag
use Rattle.ig_text.specs.Tree as plain
use Rattle.ig_text.proofs.Trees.{join-none}
use Rattle.ig_expr.specs.declared.value.Value.{Value}
use Rattle.ig_grammar.specs.Symbol.{Symbol, SepPlus, Seq}
use Rattle.ig_meaning.specs.Environment.{Environment}
use Rattle.ig_grammar.specs.Numbering.{tag_of}
use Rattle.ig_meaning.specs.Derivation.{Covers, Derives, Lists, Items, Instance, Trails}
use Rattle.ig_meaning.specs.Derivation as d
use Rattle.ig_meaning.specs.Permitted.{Permitted}
use Rattle.ig_expr.specs.ValuedTree.{Trees, Tree, Leaf, Node, none, more, one, join, bare_tree, bare_trees}
use Rattle.ig_meaning.specs.Annotated.{bound_between, HasParts, Bind, Binds, BindApart, Within, Behind, Annotates}
use Rattle.ig_meaning.specs.Annotated as a
use Rattle.ig_meaning.specs.AnnotatedLaws.{DerivationsAreAnnotated}
use Rattle.ig_grammar.specs.declared.declaration.DeclKind.{DeclKind}
use Rattle.ig_grammar.specs.declared.declaration.DeclKind.TheVariants.{Syntax, Lexical}
use Rattle.ig_grammar.specs.declared.grammar.Grammar.{Grammar}
use Rattle.ig_grammar.specs.declared.place.Shape.{Shape}

pub bare_join : (ts us : Trees) → bare_trees (join ts us) ≡ plain.join (bare_trees ts) (bare_trees us)
bare_join none us = refl
bare_join (more t ts) us = ap (plain.more (bare_tree t)) (bare_join ts us)

module _ (g : Grammar) (shapes : List Shape) (text : Input) where
  -- trees of symbols, with values
  record AnnotatedAll (c : DeclKind) (xs : List Symbol) (env : Environment) (i j : ℕ) (ts : plain.Trees) (after : Environment) : Type 0 where
    trees : Trees
    binds : Bind g shapes text c xs env i j trees after
    same : bare_trees trees ≡ ts

  record Annotated (c : DeclKind) (x : Symbol) (env : Environment) (i e j : ℕ) (ts : plain.Trees) (after : Environment) : Type 0 where
    trees : Trees
    binds : Binds g shapes text c x env i e j trees after
    same : bare_trees trees ≡ ts

  record AnnotatedParts (c : DeclKind) (xs : List Symbol) (env : Environment) (i j : ℕ) (ts : plain.Trees) : Type 0 where
    trees : Trees
    bound : List Value
    binds : BindApart g shapes text c xs env i j trees bound
    same : bare_trees trees ≡ ts

  record AnnotatedNode (name : List ℕ) (vs : List Value) (kind : DeclKind) (i e : ℕ) (t : plain.Tree) : Type 0 where
    tree : Tree
    within : Within g shapes text name vs kind i e tree
    same : bare_tree tree ≡ t

  record AnnotatedBehind (c kind : DeclKind) (e j : ℕ) (ts : plain.Trees) : Type 0 where
    trees : Trees
    behind : Behind g shapes text c kind e j trees
    same : bare_trees trees ≡ ts

  no_parts : (c : DeclKind) (env : Environment) (i : ℕ) → AnnotatedParts c [] env i i plain.none
  no_parts c env i = record { trees = none; bound = []; binds = a.no_part c env i; same = refl }

  part : {c : DeclKind} {x : Symbol} {xs : List Symbol} {env after : Environment} {i e h j : ℕ} {ts us : plain.Trees} →
      Annotated c x env i e h ts after → AnnotatedParts c xs env h j us → AnnotatedParts c (x ∷ xs) env i j (plain.join ts us)
  part {c = c} {x = x} {xs = xs} {env = env} {after = after} {i = i} {e = e} {h = h} {j = j} p q =
      record {
        trees = join p.trees q.trees;
        bound = bound_between env after ++ q.bound;
        binds = a.next_part c x xs env after i e h j p.trees q.trees (join p.trees q.trees) q.bound (bound_between env after ++ q.bound) p.binds q.binds refl refl;
        same = bare_join p.trees q.trees ∙ (λ k. plain.join (p.same k) (q.same k));
      }

  part_alone : {c : DeclKind} {x : Symbol} {env after : Environment} {i e j : ℕ} {ts : plain.Trees} →
      Annotated c x env i e j ts after → AnnotatedParts c (x ∷ []) env i j ts
  part_alone {c = c} {x = x} {env = env} {i = i} {j = j} {ts = ts} p =
      subst (AnnotatedParts c (x ∷ []) env i j) (join-none ts) (part p (no_parts c env j))

  whole : {c : DeclKind} {x : Symbol} {form : Tag} {parts : List Symbol} {env : Environment} {i j : ℕ} {ts : plain.Trees} →
      HasParts x form parts → AnnotatedParts c parts env i j ts → Annotated c x env i j j (plain.one (plain.Node form i j ts)) env
  whole {c = c} {x = x} {form = form} {parts = parts} {env = env} {i = i} {j = j} has p =
      record {
        trees = one (Node form p.bound i j p.trees);
        binds = a.node c x form parts env i j p.trees p.bound has p.binds;
        same = ap (λ us. plain.one (plain.Node form i j us)) p.same;
      }

  round : {c : DeclKind} {x y : Symbol} {env after : Environment} {i e j : ℕ} {ts : plain.Trees} → a.IsRound x y →
      Annotated c x env i e j ts after → Annotated c y env i e j ts after
  round {c = c} {x = x} {y = y} {env = env} {after = after} {i = i} {e = e} {j = j} mark p =
      record { trees = p.trees; binds = a.round c x y env after i e j p.trees mark p.binds; same = p.same }

  before_trail : (t : Tree) (ys : Trees) (u : plain.Tree) (us ts : plain.Trees) → bare_tree t ≡ u → bare_trees ys ≡ us →
      ts ≡ plain.more u us → bare_trees (more t ys) ≡ ts
  before_trail t ys u us ts p q r = (λ k. plain.more (p k) (q k)) ∙ sym r

  mutual
    all_annotated : {c : DeclKind} {xs : List Symbol} {env after : Environment} {i j : ℕ} {vs : plain.Trees} {starts : List ℕ} →
        Covers g shapes text c xs env i j vs after starts → AnnotatedAll c xs env i j vs after
    all_annotated (d.empty c env i) = record { trees = none; binds = a.nothing c env i; same = refl }
    all_annotated (d.symbol c x others env between after i e h j ts us vs ks ls starts first rest trees exposes) =
        let p = annotated first in
        let q = all_annotated rest in
        record {
          trees = join p.trees q.trees;
          binds = a.next c x others env between after i e h j p.trees q.trees (join p.trees q.trees) p.binds q.binds refl;
          same = bare_join p.trees q.trees ∙ (λ k. plain.join (p.same k) (q.same k)) ∙ sym trees;
        }

    annotated : {c : DeclKind} {x : Symbol} {env after : Environment} {i e j : ℕ} {ts : plain.Trees} {starts : List ℕ} →
        Derives g shapes text c x env i e j ts after starts → Annotated c x env i e j ts after
    annotated (d.literal c word env i e j us ts starts spells trails trees exposes) =
        let q = behind trails in
        record {
          trees = more (Leaf i e) q.trees;
          binds = a.literal c word env i e j q.trees q.behind;
          same = before_trail (Leaf i e) q.trees (plain.Leaf i e) us ts refl q.same trees;
        }
    annotated (d.one_of c class env i e j us ts starts among trails trees exposes) =
        let q = behind trails in
        record {
          trees = more (Leaf i e) q.trees;
          binds = a.one_of c class env i e j q.trees q.behind;
          same = before_trail (Leaf i e) q.trees (plain.Leaf i e) us ts refl q.same trees;
        }
    annotated (d.token c name arguments vs env i e j t us ts ks starts have instance trails trees exposes) =
        let p = within instance in
        let q = behind trails in
        record {
          trees = more p.tree q.trees;
          binds = a.call c Lexical name arguments vs env i e j p.tree q.trees have p.within q.behind;
          same = before_trail p.tree q.trees t us ts p.same q.same trees;
        }
    annotated (d.call c kind name arguments vs env i j t starts have instance other) =
        let p = within instance in
        record {
          trees = one p.tree;
          binds = a.call c kind name arguments vs env i j j p.tree none have p.within (a.no_layout c kind j (λ syntax lexical. absurd (other lexical)));
          same = ap plain.one p.same;
        }
    annotated (d.label c name x env between after i e j ts starts inner bound) =
        let p = annotated inner in
        record { trees = p.trees; binds = a.label c name x env between after i e j p.trees p.binds bound; same = p.same }
    annotated (d.guard c condition env i holds) = record { trees = none; binds = a.guard c condition env i; same = refl }
    annotated (d.let_be c name expression v env after i has bound) =
        record { trees = none; binds = a.let_be c name expression v env after i has bound; same = refl }
    annotated (d.absent c x env i) = whole (a.absent x) (no_parts c env i)
    annotated (d.present c x env between i e j ts starts inner) = whole (a.present x) (part_alone (annotated inner))
    annotated (d.star c x env i j t starts items list) = listed list
    annotated (d.plus c x env i j t starts items list) = listed list
    annotated (d.sep_star c x separator env i j t starts items list) = listed list
    annotated (d.sep_plus c x separator env i j t starts items list) = listed list
    annotated (d.group c choices k xs env between i j ts starts chosen inner) =
        let p = all_annotated inner in
        let q : Annotated c (Seq xs) env i j j ts between = record { trees = p.trees; binds = a.sequence c xs env between i j p.trees p.binds; same = p.same } in
        whole (a.chosen choices k xs chosen) (part_alone q)
    annotated (d.offside c x env after i e j ts starts inner right) = round a.offside (annotated inner)
    annotated (d.ignore c x env after i e j ts starts inner) = round a.ignore (annotated inner)
    annotated (d.align c x env after i e j ts starts items inner column) = round a.align (through inner)
    annotated (d.filtered c x filters env after i e j ts starts inner passes) = round (a.filtered filters) (annotated inner)
    annotated (d.sequence c xs env after i j ts starts inner) =
        let p = all_annotated inner in
        record { trees = p.trees; binds = a.sequence c xs env after i j p.trees p.binds; same = p.same }
    annotated (d.entry c bindings x vs env inside after i e j ts starts have renewed inner) =
        let p = annotated inner in
        record { trees = p.trees; binds = a.entry c bindings x vs env inside after i e j p.trees have renewed p.binds; same = p.same }

    listed : {c : DeclKind} {x : Symbol} {env : Environment} {i j : ℕ} {t : plain.Tree} {starts items : List ℕ} →
        Lists g shapes text c x env i j t starts items → Annotated c x env i j j (plain.one t) env
    listed (d.nil c x env i) = whole (a.nil x) (no_parts c env i)
    listed (d.snoc c x env after i h e j t ts ks ls starts ps items list item exposes begins) =
        whole (a.snoc x) (part (listed list) (part_alone (annotated item)))
    listed (d.one_item c x env after i e j ts starts item) = whole (a.one_item x) (part_alone (annotated item))
    listed (d.more_items c x env after i h e j t ts ks ls starts ps items list item exposes begins) =
        whole (a.more_items x) (part (listed list) (part_alone (annotated item)))
    listed (d.first_item c x separator env after i e j ts starts item) =
        whole (a.first_item x separator) (part_alone (annotated item))
    listed (d.further_item c x separator env between after i h f m e j t us ts vs ks ms ls starts ps items list between_items item trees exposes begins) =
        subst (λ zs. Annotated c (SepPlus x separator) env i j j (plain.one (plain.Node tag.More i j (plain.more t zs))) env) (sym trees)
        (whole (a.further_item x separator) (part (listed list) (part (annotated between_items) (part_alone (annotated item)))))
    listed (d.no_item c x separator env i) = whole (a.no_item x separator) (no_parts c env i)
    listed (d.some_items c x separator env i j t starts items list) =
        whole (a.some_items x separator) (part_alone (listed list))

    through : {c : DeclKind} {x : Symbol} {env after : Environment} {i e j : ℕ} {ts : plain.Trees} {starts items : List ℕ} →
        Items g shapes text c x env i e j ts after starts items → Annotated c x env i e j ts after
    through (d.bare c x env i j t starts items list) = listed list
    through (d.with_filters c x filters env after i e j ts starts items inner passes) = round (a.filtered filters) (through inner)

    within : {name : List ℕ} {vs : List Value} {kind : DeclKind} {i e : ℕ} {t : plain.Tree} {starts : List ℕ} →
        Instance g shapes text name vs kind i e t starts → AnnotatedNode name vs kind i e t
    within (d.alternative name vs kind n k decl shape by env after i e ts t starts declares numbered bound same covers tree) =
        let p = all_annotated covers in
        record {
          tree = Node (tag_of shape n k) (bound_between env after) i e p.trees;
          within = a.alternative name vs kind n k decl shape by env after i e p.trees (Node (tag_of shape n k) (bound_between env after) i e p.trees) declares numbered bound same p.binds refl;
          same = ap (plain.Node (tag_of shape n k) i e) p.same ∙ sym tree;
        }

    behind : {c : DeclKind} {e j : ℕ} {ts : plain.Trees} → Trails g shapes text c e j ts → AnnotatedBehind c Lexical e j ts
    behind (d.layout name kind e j t starts declared instance) =
        let p = within instance in
        record { trees = one p.tree; behind = a.layout name kind e j p.tree declared p.within; same = ap plain.one p.same }
    behind (d.no_layout e undeclared) =
        record { trees = none; behind = a.no_layout Syntax Lexical e (λ syntax lexical. undeclared); same = refl }
    behind (d.outside c e other) =
        record { trees = none; behind = a.no_layout c Lexical e (λ syntax lexical. absurd (other syntax)); same = refl }

  permitted_annotated : {t : plain.Tree} → Permitted g shapes text t → (u : Tree) × Annotates g shapes text t u
  permitted_annotated p =
      let q = all_annotated p.covered in
      let u : Tree = Node tag.Root (bound_between [] p.after) 0 (length text.characters) q.trees in (
        u,
        record {
          kind = p.kind;
          symbols = p.symbols;
          children = q.trees;
          after = p.after;
          root = p.root;
          binds = q.binds;
          whole = refl;
          same = ap (plain.Node tag.Root 0 (length text.characters)) q.same ∙ sym p.whole;
        },
      )

  all_annotated_by : {c : DeclKind} {xs : List Symbol} {env after : Environment} {i j : ℕ} {ts : plain.Trees} {starts : List ℕ} →
      Covers g shapes text c xs env i j ts after starts →
      (us : Trees) × Bind g shapes text c xs env i j us after × (bare_trees us ≡ ts)
  all_annotated_by d = let p = all_annotated d in (p.trees, p.binds, p.same)

  annotated_by : {c : DeclKind} {x : Symbol} {env after : Environment} {i e j : ℕ} {ts : plain.Trees} {starts : List ℕ} →
      Derives g shapes text c x env i e j ts after starts →
      (us : Trees) × Binds g shapes text c x env i e j us after × (bare_trees us ≡ ts)
  annotated_by d = let p = annotated d in (p.trees, p.binds, p.same)

  within_by : {name : List ℕ} {vs : List Value} {kind : DeclKind} {i e : ℕ} {t : plain.Tree} {starts : List ℕ} →
      Instance g shapes text name vs kind i e t starts →
      (u : Tree) × Within g shapes text name vs kind i e u × (bare_tree u ≡ t)
  within_by d = let p = within d in (p.tree, p.within, p.same)

pub derivations_annotated : DerivationsAreAnnotated
derivations_annotated g shapes text =
    record {
      covers = all_annotated_by g shapes text;
      derives = annotated_by g shapes text;
      instance = within_by g shapes text;
      permitted = permitted_annotated g shapes text;
    }
