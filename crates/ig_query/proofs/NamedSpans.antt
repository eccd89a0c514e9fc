-- The spans of a declaration's nodes are those in trees.
use Rattle.std.proofs.Common.{◌≡◌, ℕ, List, Some, slice_get, Contains, sym, ap, ◌∙◌, subst}
use Rattle.std.specs.Prelude.{option_map}
use Rattle.std.proofs.lemmas.Option.{same_Some, slice_get_within}
use Rattle.ig_text.specs.Input.{Input}
use Rattle.ig_text.specs.declared.tag.Tag.TheVariants.{Rule}
use Rattle.ig_text.specs.declared.text.Span.{Span}
use Rattle.ig_text.proofs.Lists.{contains_from_at}
use Rattle.ig_text.proofs.Pairwise.{key_at}
use Rattle.ig_item.specs.WellKinded.{IsWellKinded}
use Rattle.ig_item.specs.declared.core_grammar.Nonterminal.{Nonterminal}
use Rattle.ig_forest_tables.specs.Forest as forest
use Rattle.ig_forest_tables.specs.Forest.{Forest}
use Rattle.ig_forest.specs.Laws.{ReducedIsTrim, TrimHasTrees}
use Rattle.ig_forest_tables.specs.Unfold as ways
use Rattle.ig_forest_tables.specs.Unfold.{OfNode, IsTrim}
use Rattle.ig_item.specs.Core.{IsAlternative}
use Rattle.ig_text.specs.Tree.{Tree}
use Rattle.ig_item.specs.Gives.{NodeKey}
use Rattle.ig_forest.specs.Reduced.{IsNamed, IsNode, IsReduced}
use Rattle.ig_forest_tables.specs.declared.entry.Choice.{Choice}
use Rattle.ig_query.specs.Laws.{AreUniform, SpansAreThoseOfTrees, TreesHaveSpan}
use Rattle.ig_query.specs.Spans.{HasSpan, IsRule}
use Rattle.ig_query.proofs.InTrees.{nodes_are_those_of_trees}

same_rule : (n m a b : ℕ) → Rule n a ≡ Rule m b → n ≡ m
same_rule n m a b e = cc

span_of_ends : (s r : Span) → s.begin ≡ r.begin → s.end ≡ r.end → s ≡ r
span_of_ends s r begins ends = λ i. record { begin = begins i; end = ends i }

-- a tree of a node is one of an alternative
chosen : {f : Forest} {d : ℕ} {cs : List ℕ} {t : Tree} (v : ℕ) (node : forest.Node) → slice_get f.nodes v ≡ Some node →
    OfNode f v d cs t → (choice : Choice) × Contains node.alternatives choice
chosen {f = f} v node at (ways.choose w d i n choice bs cs ts t there among of_item c is) = (
  choice,
  contains_from_at node.alternatives i choice
      (subst (λ (z : forest.Node). slice_get z.alternatives i ≡ Some choice) (same_Some n node (sym there ∙ at)) among),
)

module _ (core : List Nonterminal) (text : Input) (f : Forest) (kinded : IsWellKinded core) (uniform : AreUniform core)
    (is : IsReduced core text f) where
  -- what the reduced forest says of a node
  node_of : (v : ℕ) (node : forest.Node) → slice_get f.nodes v ≡ Some node → (key : NodeKey) × IsNode core is.items key node
  node_of v node at = let paired = key_at is.nodes v node at in (paired.0, paired.2)

  -- its name is that of its nonterminal
  named : (v : ℕ) (node : forest.Node) → slice_get f.nodes v ≡ Some node → IsNamed core node.nonterminal node.name
  named v node at =
      let (key, n) = node_of v node at in
      subst (λ (z : ℕ). IsNamed core z node.name) (sym n.nonterminal) n.name

  -- a `Rule` tag of it has its nonterminal, and then all its tags are such
  module _ (v : ℕ) (node : forest.Node) (at : slice_get f.nodes v ≡ Some node) (choice : Choice) (among : Contains node.alternatives choice) where
    rule_number : (n a : ℕ) → choice.tag ≡ Rule n a → n ≡ node.nonterminal
    rule_number n a tagged =
        let (key, nd) = node_of v node at in
        let c = (nd.choices choice).0 among in
        let done = c.completes.complete in
        let here = kinded.rules c.item.instance.nonterminal c.item.alternative done.nonterminal done.alternative done.has n a (sym c.tagged ∙ tagged) in
        here ∙ ap (λ (z : _). z.nonterminal) c.completes.instance ∙ sym nd.nonterminal

    all_rules : IsRule choice.tag → (other : Choice) → Contains node.alternatives other → IsRule other.tag
    all_rules rule other inside =
        let (key, nd) = node_of v node at in
        let c = (nd.choices choice).0 among in
        let o = (nd.choices other).0 inside in
        let x = c.completes.complete in
        let y = o.completes.complete in
        let same : o.item.instance.nonterminal ≡ c.item.instance.nonterminal =
        ap (λ (z : _). z.nonterminal) (o.completes.instance ∙ sym c.completes.instance) in
        subst IsRule (sym o.tagged)
        (uniform c.item.instance.nonterminal c.item.alternative o.item.alternative x.nonterminal y.nonterminal x.alternative y.alternative
        x.has (subst (λ (n : ℕ). IsAlternative core n o.item.alternative y.nonterminal y.alternative) same y.has)
        (subst IsRule c.tagged rule))

  -- a node has trees, so an alternative
  some_choice : TrimHasTrees → IsTrim f → (v : ℕ) (node : forest.Node) → slice_get f.nodes v ≡ Some node →
      (choice : Choice) × Contains node.alternatives choice
  some_choice trees trimmed v node at =
      let (d, cs, t, o) = (trees f trimmed.alive).nodes v (slice_get_within f.nodes v node at) in chosen v node at o

  to_trees : ReducedIsTrim → TrimHasTrees → (name : List ℕ) (span : Span) → HasSpan f name span → TreesHaveSpan core f name span
  to_trees trim trees name span h =
      let trimmed = trim core text f kinded is in
      let (choice, among) = some_choice trees trimmed h.number h.node h.there in
      let (n, a, tagged) = h.of.rules choice among in
      let number = rule_number h.number h.node h.there choice among n a tagged in
      record {
        nonterminal = n;
        alternative = a;
        named =
            ap (λ (z : ℕ). option_map (λ (y : Nonterminal). y.name) (slice_get core z)) number ∙ named h.number h.node h.there ∙
            ap Some h.of.named;
        has =
            (nodes_are_those_of_trees f (Rule n a) span.begin span.end trimmed).0
            (record {
              number = h.number;
              node = h.node;
              choice = choice;
              there = h.there;
              among = among;
              tagged = tagged;
              begins = ap (λ (z : Span). z.begin) h.spans;
              ends = ap (λ (z : Span). z.end) h.spans;
            });
      }

  to_forest : ReducedIsTrim → (name : List ℕ) (span : Span) → TreesHaveSpan core f name span → HasSpan f name span
  to_forest trim name span t =
      let n = (nodes_are_those_of_trees f (Rule t.nonterminal t.alternative) span.begin span.end (trim core text f kinded is)).1 t.has in
      let number = rule_number n.number n.node n.there n.choice n.among t.nonterminal t.alternative n.tagged in
      record {
        number = n.number;
        node = n.node;
        there = n.there;
        of = record {
          named =
              same_Some n.node.name name
              (sym (named n.number n.node n.there) ∙
              ap (λ (z : ℕ). option_map (λ (y : Nonterminal). y.name) (slice_get core z)) (sym number) ∙ t.named);
          rules = all_rules n.number n.node n.there n.choice n.among (t.nonterminal, t.alternative, n.tagged);
        };
        spans = span_of_ends n.node.span span n.begins n.ends;
      }

pub spans_are_those_of_trees : ReducedIsTrim → TrimHasTrees → SpansAreThoseOfTrees
spans_are_those_of_trees trim trees core text f name span kinded uniform is =
    (to_trees core text f kinded uniform is trim trees name span, to_forest core text f kinded uniform is trim name span)
