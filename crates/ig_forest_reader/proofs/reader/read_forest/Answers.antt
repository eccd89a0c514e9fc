use Rattle.std.proofs.Common.{◌≡◌, sym, subst}
use Rattle.ig_text.proofs.Booleans.{refuted}
use Rattle.ig_forest_tables.specs.Forest.{Forest}
use Rattle.ig_show_texts.specs.ForestText.{forest_text}
use Rattle.ig_forest_reader.specs.Written.{IsDraftOf}
use Rattle.ig_forest_reader.proofs.Composing.{read_ok, not_ok, refused_on}
use Rattle.ig_forest_reader.proofs.Whole.{draft_read, draft_of_read, no_forest_read}
use Rattle.ig_forest_reader.proofs.reader.read_forest.Goals as goal

pub returns-in_err-tables : goal.returns-in_err-tables
returns-in_err-tables c =
    record {
      read = not_ok _ c.from_residual.result _ c.from_residual.ensures.1;
      refused = refused_on _ _ c.read_tables.result c.in_err-tables.field-0.0 c.from_residual.result c.read_tables.ensures c.in_err-tables.was
          c.from_residual.ensures.1;
    }

pub returns-then-not-is_forest : goal.returns-then-not-is_forest
returns-then-not-is_forest c =
    record {
      read = tt;
      refused = λ same f of e.
          no_forest_read c.args.core.now c.args.bytes.now c.in_ok-tables.tables (read_ok _ _ _ _ c.read_tables.ensures c.in_ok-tables.was)
          (refuted c.is_forest.result c.is_forest.ensures c.if-not-is_forest.true) f of e;
    }

pub of-requires : goal.of-requires
of-requires c =
    draft_read c.args.core.now c.args.bytes.now c.in_ok-tables.tables (read_ok _ _ _ _ c.read_tables.ensures c.in_ok-tables.was)
    (c.is_forest.ensures.0 c.if-not-is_forest.false)

pub returns : goal.returns
returns c =
    record {
      read =
          subst (λ (f : Forest). IsDraftOf c.args.core.now f × (c.args.bytes.now ≡ forest_text f)) (sym c.of.ensures) (
            draft_of_read c.args.core.now c.args.bytes.now c.in_ok-tables.tables (read_ok _ _ _ _ c.read_tables.ensures c.in_ok-tables.was)
                (c.is_forest.ensures.0 c.if-not-is_forest.false),
            (read_ok _ _ _ _ c.read_tables.ensures c.in_ok-tables.was).spelled,
          );
      refused = tt;
    }
