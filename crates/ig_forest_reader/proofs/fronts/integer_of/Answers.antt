use Rattle.std.proofs.Common.{◌∙◌, ap, sym, subst, w64}
use Rattle.std.specs.Result.{result_ok}
use Rattle.std.specs.Str.{IsUtf8}
use Rattle.std.specs.Fmt.{signed_decimal}
use Rattle.std.proofs.lemmas.Str.{IsUtf8-from_ascii}
use Rattle.std.proofs.lemmas.Fmt.{parse-signed_decimal}
use Rattle.ig_forest_reader.proofs.Values.{signed_ascii, fits_signed}
use Rattle.ig_forest_reader.proofs.fronts.integer_of.Goals as goal

pub returns-in_default : goal.returns-in_default
returns-in_default c z small e =
    absurd (c.in_default.ensures.cases.0 (subst IsUtf8 (sym e) (IsUtf8-from_ascii (signed_decimal z) (signed_ascii z small))))

pub returns : goal.returns
returns c z small e =
    c.ok.ensures.value ∙
    ap result_ok
    (parse-signed_decimal w64 z c.in-Ok.text.now c.parse.result (fits_signed z small) small
    (c.in-Ok.ensures.cases.0 ∙ e) c.parse.ensures.value.0)
