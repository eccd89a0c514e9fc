use Rattle.std.proofs.Common.{◌∙◌, ◌++◌, List, ap, subst}
use Rattle.std.specs.Prelude.{flat_map}
use Rattle.ig_forest_tables.specs.declared.entry.Choice.{Choice}
use Rattle.ig_show_texts.specs.ForestText.{choice_text}
use Rattle.ig_forest_reader.specs.Shown.{Added}
use Rattle.ig_forest_reader.specs.Written.{IsTagOf}
use Rattle.ig_forest_reader.proofs.Composing.{read_ok, failed_on, no_ok}
use Rattle.ig_forest_reader.proofs.LinesRead.{no_node_line, node_read}
use Rattle.ig_forest_reader.proofs.nodes.read_node.Goals as goal

pub returns-in_err-row : goal.returns-in_err-row
returns-in_err-row c =
    record {
      keeps = no_ok _ c.from_residual.result _ c.from_residual.ensures.1;
      read =
          failed_on _ _ _ _ c.read_node_line.result c.in_err-row.field-0.0 c.from_residual.result
          (c.read_node_line.ensures.read c.args.core.now c.requires.tells c.requires.index) c.in_err-row.was c.from_residual.ensures.1
          (no_node_line c.args.core.now c.read_node_line.new.lists c.args.number c.args.bytes.now);
    }

pub returns : goal.returns
returns c =
    record {
      keeps = c.in_ok-row.ensures.keeps;
      read =
          node_read c.args.core.now c.requires.tells c.read_node_line.new.lists c.args.number c.args.bytes.now c.in_ok-row.behind.now c.in_ok-rest.rest.now
          c.in_ok-row.row c.push_choices.new.out.items c.as_slice.result.now c.args.nodes.now _
          (read_ok _ _ _ _ (c.read_node_line.ensures.read c.args.core.now c.requires.tells c.requires.index) c.in_ok-row.was)
          (λ name named.
          subst
          (λ (z : List Choice). Added (IsTagOf c.args.core.now c.in_ok-row.row.nonterminal) (flat_map (choice_text name)) c.in_ok-row.behind.now
          c.in_ok-rest.rest.now z c.push_choices.new.out.items) c.clear.ensures.items (c.in_ok-rest.ensures.added name named))
          (λ name xs us named small stops e.
          let read = c.in_ok-rest.ensures.told name xs us named small stops e in
          (read.0, read.1 ∙ ap (λ (z : List Choice). z ++ xs) c.clear.ensures.items))
          c.as_slice.ensures.value c.in_ok-push_node.ensures;
    }
