use Rattle.std.proofs.Common.{◌∙◌, ap, sym, arith}
use Rattle.std.specs.Result.{result_ok}
use Rattle.std.proofs.lemmas.Fmt.{parse-decimal}
use Rattle.ig_show_trees.proofs.cursor_text.read_number.Goals as goal

pub returns : goal.returns
returns c =
    λ n small e.
    c.ok.ensures.value ∙
    ap result_ok
    (parse-decimal 32 n c.args.piece.now c.parse.result (omega (arith, small)) (omega (arith, small)) (sym e) c.parse.ensures.value.0)
