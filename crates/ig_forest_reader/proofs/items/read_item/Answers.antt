use Rattle.std.proofs.Common.{◌∙◌, ◌++◌, List, ap, subst}
use Rattle.std.specs.Prelude.{flat_map}
use Rattle.ig_show_texts.specs.ForestText.{entry_text}
use Rattle.ig_forest_tables.specs.declared.entry.Entry.{Entry}
use Rattle.ig_forest_reader.specs.Shown.{Added}
use Rattle.ig_forest_reader.specs.Written.{IsSmallEntry}
use Rattle.ig_forest_reader.proofs.Composing.{read_ok, failed_on, no_ok}
use Rattle.ig_forest_reader.proofs.LinesRead.{no_item_line, item_read}
use Rattle.ig_forest_reader.proofs.items.read_item.Goals as goal

pub returns-in_err-row : goal.returns-in_err-row
returns-in_err-row c =
    record {
      keeps = no_ok _ c.from_residual.result _ c.from_residual.ensures.1;
      read = λ core tells is.
          failed_on _ _ _ _ c.read_item_line.result c.in_err-row.field-0.0 c.from_residual.result
          (c.read_item_line.ensures.read core tells is) c.in_err-row.was c.from_residual.ensures.1
          (no_item_line core c.read_item_line.new.lists c.args.number c.args.bytes.now);
    }

pub returns : goal.returns
returns c =
    record {
      keeps = c.in_ok-row.ensures.keeps;
      read = λ core tells is.
          item_read core tells c.read_item_line.new.lists c.args.number c.args.bytes.now c.in_ok-row.behind.now c.in_ok-rest.rest.now
          c.in_ok-row.row c.push_entries.new.out.items c.as_slice.result.now c.args.items.now _
          (read_ok _ _ _ _ (c.read_item_line.ensures.read core tells is) c.in_ok-row.was)
          (subst (λ (z : List Entry). Added IsSmallEntry (flat_map entry_text) c.in_ok-row.behind.now c.in_ok-rest.rest.now z c.push_entries.new.out.items) c.clear.ensures.items c.in_ok-rest.ensures.added)
          (λ xs us small stops e.
          let read = c.in_ok-rest.ensures.told xs us small stops e in
          (read.0, read.1 ∙ ap (λ (z : List Entry). z ++ xs) c.clear.ensures.items))
          c.as_slice.ensures.value c.in_ok-push_item.ensures;
    }
