-- Both directions for permitted trees, and their values.
use Rattle.std.proofs.Common.{◌≡◌, ◌∙◌, ◌↔◌, ℕ, List, [], None, length, refl, sym, ap, subst, arith}
use Rattle.ig_text.specs.Input.{Input}
use Rattle.ig_text.specs.Tree.{Tree}
use Rattle.ig_text.specs.Tree as plain
use Rattle.ig_text.specs.declared.tag.Tag.TheVariants.{Root}
use Rattle.ig_expr.specs.ValuedTree as valued
use Rattle.ig_meaning.specs.Permitted.{Permitted}
use Rattle.ig_meaning.specs.Annotated.{bound_between, Annotates}
use Rattle.ig_blocks_parts.specs.Setting.{Setting, lacking}
use Rattle.ig_meaning.specs.Clean.{Clean}
use Rattle.ig_grammar.specs.declared.grammar.Grammar.{Grammar}
use Rattle.ig_grammar.specs.declared.place.Shape.{Shape}
use Rattle.ig_blocks_parts.proofs.Reading.{AreApart}
use Rattle.ig_blocks_parts.proofs.Takes.{Takes, TakesRoot}
use Rattle.ig_blocks_parts.proofs.Columns.{all_allowed}
use Rattle.ig_blocks_parts.proofs.Situations.{Situated}
use Rattle.ig_blocks_parts.proofs.Forth.{to_covers}
use Rattle.ig_blocks_parts.proofs.Back.{from_covers}
use Rattle.ig_blocks_parts.proofs.Ordered.{AllOrdered, covers_ordered}
use Rattle.ig_blocks_parts.proofs.ValuesForth.{to_bind}

at_root : (s : Setting) (text : Input) → Situated s text [] [] lacking 0 None 0
at_root s text =
    record { agree = record { same = λ x w. refl }; holds = record { column = refl; start = refl }; before = omega arith; within = omega arith }

pub same_trees : (s : Setting) (g h : Grammar) (shapes others : List Shape) (text : Input) (t : Tree) → AreApart s → Takes s g h shapes others →
    TakesRoot s g h shapes others → (Clean g t ↔ Clean h t) → (Permitted g shapes text t ↔ Permitted h others text t)
same_trees s g h shapes others text t apart takes root clean = (
  (λ p.
      let r = root.forth p.kind p.symbols p.root in
      let d = to_covers s apart g h shapes others text takes p.covered lacking 0 None [] r.0 tt r.2 (at_root s text) (λ q c. all_allowed text q) in
      record { kind = p.kind; symbols = r.0; children = p.children; after = d.left; starts = d.exposes; root = r.1; covered = d.covered; whole = p.whole; clean = clean.0 p.clean }),
  (λ p.
      let r = root.back p.kind p.symbols p.root in
      let d = from_covers s apart g h shapes others text takes p.covered lacking 0 None [] r.0 tt r.2 (at_root s text) in
      record { kind = p.kind; symbols = r.0; children = p.children; after = d.after; starts = d.exposes; root = r.1; covered = d.covered; whole = p.whole; clean = clean.1 p.clean }),
)

-- the children of equal nodes are equal
children_same : (ts us : plain.Trees) (n : ℕ) (t : Tree) → plain.Node Root 0 n ts ≡ t → t ≡ plain.Node Root 0 n us → us ≡ ts
children_same ts us n t p q = let both : plain.Node Root 0 n ts ≡ plain.Node Root 0 n us = p ∙ q in cc

pub same_values : (s : Setting) (g h : Grammar) (shapes others : List Shape) (text : Input) (t : Tree) (u : valued.Tree) → AreApart s → Takes s g h shapes others →
    TakesRoot s g h shapes others → Permitted g shapes text t → Annotates g shapes text t u → Annotates h others text t u
same_values s g h shapes others text t u apart takes root p v =
    let r = root.forth v.kind v.symbols v.root in
    let children : p.children ≡ valued.bare_trees v.children =
    children_same (valued.bare_trees v.children) p.children (length text.characters) t (ap valued.bare_tree (sym v.whole) ∙ v.same) p.whole in
    let ordered = subst (AllOrdered (length text.characters)) children (covers_ordered takes.in_order g shapes text p.covered) in
    let d = to_bind s apart g h shapes others text takes v.binds ordered lacking 0 None [] r.0 tt r.2 (at_root s text) in
    record {
      kind = v.kind;
      symbols = r.0;
      children = v.children;
      after = d.grown;
      root = r.1;
      binds = d.bind;
      whole = v.whole ∙ ap (λ z. valued.Node Root (bound_between [] z) 0 (length text.characters) v.children) d.source;
      same = v.same;
    }
