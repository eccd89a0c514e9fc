use Rattle.ig_forest_reader.proofs.Composing.{read_ok, failed_on, no_ok}
use Rattle.ig_forest_reader.proofs.LinesRead.{no_item_start, item_line_of, kept_ok, old_is}
use Rattle.ig_forest_reader.proofs.items.read_item_line.Goals as goal

pub returns-in_err-nonterminal : goal.returns-in_err-nonterminal
returns-in_err-nonterminal c =
    record {
      keeps = no_ok _ c.from_residual.result _ c.from_residual.ensures.1;
      read = λ core tells is.
          failed_on _ _ _ _ c.read_start.result c.in_err-nonterminal.field-0.0 c.from_residual.result (c.read_start.ensures core tells is)
          c.in_err-nonterminal.was c.from_residual.ensures.1 (no_item_start core c.args.number c.args.bytes.now);
    }

pub returns : goal.returns
returns c =
    record {
      keeps = kept_ok c.read_place.result c.args.lists.now c.push_list.new.lists c.read_place.new.lists c.in_ok-values.ensures.keeps c.read_place.ensures.keeps;
      read = λ core tells is.
          item_line_of core c.push_list.new.lists c.read_place.new.lists c.args.number c.args.bytes.now c.in_ok-nonterminal.behind.now _ c.as_slice.result.now
          c.in_ok-nonterminal.nonterminal c.in_ok-values.values c.read_place.result
          (old_is core _ _ _ _ _ _ _ _ c.new-env.ensures.items (read_ok _ _ _ _ (c.read_start.ensures core tells is) c.in_ok-nonterminal.was))
          c.as_slice.ensures.value c.in_ok-values.ensures.there c.read_place.ensures.keeps c.read_place.ensures.given c.read_place.ensures.read;
    }
