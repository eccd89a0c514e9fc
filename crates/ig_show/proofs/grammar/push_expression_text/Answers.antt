use Rattle.std.proofs.lemmas.Str.{IsUtf8-string_bytes}
use Rattle.ig_expr.specs.View.{expression_of}
use Rattle.ig_show.specs.CanonicalText.{expression_pieces}
use Rattle.ig_show.specs.Steps.{if_ok}
use Rattle.ig_show.proofs.Bytes.{added_bytes}
use Rattle.ig_show.proofs.grammar.push_expression_text.Goals as goal

pub returns : goal.returns
returns c =
    if_ok c.push_expression.result c.push_expression.ensures
    (added_bytes (expression_pieces (expression_of c.args.expression.now)) (IsUtf8-string_bytes c.args.out.now) (IsUtf8-string_bytes c.push_expression.new.out))
