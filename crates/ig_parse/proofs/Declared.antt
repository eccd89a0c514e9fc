-- The spans of a name's nodes are those of the declaration of that name.
use Rattle.std.proofs.Common.{◌∙◌, ℕ, List, Some, sym, ap, arith}
use Rattle.std.proofs.lemmas.Option.{same_Some}
use Rattle.ig_text.specs.Input.{Input}
use Rattle.ig_text.specs.Tree.{height}
use Rattle.ig_text.specs.declared.tag.Tag.TheVariants.{Rule}
use Rattle.ig_text.specs.declared.text.Span.{Span}
use Rattle.ig_text.proofs.Pairwise.{key_at}
use Rattle.ig_grammar.specs.declared.grammar.Grammar.{Grammar}
use Rattle.ig_item.specs.WellKinded.{IsWellKinded}
use Rattle.ig_core.specs.Laws.{DeclarationsKeepNumbers}
use Rattle.ig_core.specs.Lowered.{CoreOf}
use Rattle.ig_core.specs.Notation.{unchanged}
use Rattle.ig_forest_tables.specs.Forest.{Forest}
use Rattle.ig_forest.specs.Laws.{ReducedIsTrim}
use Rattle.ig_query.specs.Laws.{NodesAreThoseOfTrees}
use Rattle.ig_parse.specs.Laws.{DeclaresSpan, PermitsSpan, SpansAreOfDeclarations, SpansArePermitted}
use Rattle.ig_parse.specs.Parses.{IsForestOf}

pub record Given : Type 0 where
  pub numbers : DeclarationsKeepNumbers
  pub nodes : NodesAreThoseOfTrees
  pub trim : ReducedIsTrim
  pub spans : SpansArePermitted

module _ (given : Given) (g : Grammar) (text : Input) (f : Forest) (kinded : IsWellKinded (CoreOf (unchanged g)))
    (is : IsForestOf (unchanged g) text f) (name : List ℕ) (span : Span) where
  -- the tag of a node in a permitted tree is that of an alternative, so its number is that of a declaration
  of_declaration : PermitsSpan (unchanged g) text name span → DeclaresSpan g text name span
  of_declaration p =
      let node =
      (given.nodes f (Rule p.nonterminal p.alternative) span.begin span.end (given.trim (CoreOf (unchanged g)) text f kinded is.reduced)).1
      (record {
        depth = height p.tree;
        tree = p.tree;
        unfolds = (is.unfolds (height p.tree) p.tree).1 (p.permitted, omega arith);
        has = p.has;
      }) in
      let key = key_at is.reduced.nodes node.number node.node node.there in
      let choice = (key.2.choices node.choice).0 node.among in
      let done = choice.completes.complete in
      let found =
      (given.numbers g).only choice.item.instance.nonterminal choice.item.alternative p.nonterminal p.alternative
      done.nonterminal done.alternative done.has (sym choice.tagged ∙ node.tagged) in
      record {
        tree = p.tree;
        permitted = p.permitted;
        number = p.nonterminal;
        declaration = found.0;
        numbered = found.1;
        named = same_Some found.0.name name (sym ((given.numbers g).named p.nonterminal found.0 found.1) ∙ p.named);
        alternative = p.alternative;
        has = p.has;
      }

  by_number : DeclaresSpan g text name span → PermitsSpan (unchanged g) text name span
  by_number d =
      record {
        tree = d.tree;
        permitted = d.permitted;
        nonterminal = d.number;
        alternative = d.alternative;
        named = (given.numbers g).named d.number d.declaration d.numbered ∙ ap Some d.named;
        has = d.has;
      }

pub spans_of_declarations : Given → SpansAreOfDeclarations
spans_of_declarations given g text f name span kinded is =
    let both = given.spans (unchanged g) text f name span kinded is in (
      λ has. of_declaration given g text f kinded is name span (both.0 has),
      λ declares. both.1 (by_number given g text f kinded is name span declares),
    )
