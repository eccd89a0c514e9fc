use Rattle.std.proofs.Common.{◌≡◌, IfOk, codes, refl, subst}
use Rattle.ig_text.proofs.Characters.{ascii_chars}
use Rattle.ig_pass.proofs.rooting.root_word.Goals as goal

pub returns : goal.returns
returns c = subst (λ z. IfOk c.new.result (λ w. w ≡ z)) (ascii_chars (codes "$root") refl) c.new.ensures
