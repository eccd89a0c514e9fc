use Rattle.std.proofs.Common.{refl}
use Rattle.ig_notation_syntax.specs.Spelling.{named_classes}
use Rattle.ig_notation_syntax.proofs.Tables.{class_named_is}
use Rattle.ig_notation_syntax.proofs.words.class_named.Goals as goal

pub returns : goal.returns
unfolding named_classes
returns c = class_named_is _ c.args.name.now _ refl c.utf8.name c.entry.ensures
