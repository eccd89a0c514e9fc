use Rattle.std.proofs.Common.{◌∙◌, ap, chars, string_bytes, [], ◌∷◌, ◌++◌}
use Rattle.std.proofs.lemmas.Str.{chars-nil, IsUtf8-string_bytes}
use Rattle.ig_notation_syntax.proofs.LetterSteps.{pushed, word_is}
use Rattle.ig_notation_syntax.proofs.literals.character_text.Goals as goal

pub returns : goal.returns
returns c =
    word_is c.new.result (chars c.as_str.result.now) (c.args.c ∷ [])
    (ap chars c.as_str.ensures.value ∙
    pushed (string_bytes c.new-text.result) (string_bytes c.push.new.self) c.args.c (IsUtf8-string_bytes c.new-text.result)
    c.in_ok-push.ensures.bytes (IsUtf8-string_bytes c.push.new.self) ∙
    ap (λ z. z ++ c.args.c ∷ []) (ap chars c.new-text.ensures.bytes ∙ chars-nil)) c.new.ensures
