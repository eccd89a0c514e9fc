use Rattle.ig_forest_reader.proofs.Composing.{read_ok, failed_on, no_ok}
use Rattle.ig_forest_reader.proofs.Leading.{none_read, some_read, some_is}
use Rattle.ig_forest_reader.proofs.LinesRead.{no_node_start, no_node_span, node_line_read, old_is}
use Rattle.ig_forest_reader.proofs.nodes.read_node_line.Goals as goal

pub returns-in_err-nonterminal : goal.returns-in_err-nonterminal
returns-in_err-nonterminal c =
    record {
      keeps = no_ok _ c.from_residual.result _ c.from_residual.ensures.1;
      read = λ core tells is.
          failed_on _ _ _ _ c.read_start.result c.in_err-nonterminal.field-0.0 c.from_residual.result (c.read_start.ensures core tells is)
          c.in_err-nonterminal.was c.from_residual.ensures.1 (no_node_start core c.args.number c.args.bytes.now);
    }

pub returns-in_default : goal.returns-in_default
returns-in_default c =
    record {
      keeps = tt;
      read = λ core tells is.
          no_node_span core c.args.number c.args.bytes.now c.in_ok-nonterminal.behind.now _ _ _
          (read_ok _ _ _ _ (c.read_start.ensures core tells is) c.in_ok-nonterminal.was)
          (λ s us small e. none_read _ _ (c.read_last_span.ensures.told s us small e) c.in_default.is);
    }

pub returns : goal.returns
returns c =
    record {
      keeps = c.in_ok-place.ensures.keeps;
      read = λ core tells is.
          node_line_read core c.push_list.new.lists c.args.number c.args.bytes.now c.in_ok-nonterminal.behind.now c.in-Some.rest.now _ c.as_slice.result.now
          c.in_ok-nonterminal.nonterminal c.in_ok-place.place c.in-Some.span
          (old_is core _ _ _ _ _ _ _ _ c.new-values.ensures.items (read_ok _ _ _ _ (c.read_start.ensures core tells is) c.in_ok-nonterminal.was))
          c.as_slice.ensures.value c.in_ok-place.ensures.there (some_is _ _ _ c.read_last_span.ensures.small c.in-Some.is)
          (some_is _ _ _ c.read_last_span.ensures.exact c.in-Some.is)
          (λ s us small e. some_read _ _ _ (c.read_last_span.ensures.told s us small e) c.in-Some.is);
    }
