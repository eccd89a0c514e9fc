-- Which declarations get the pair.
use Rattle.std.specs.Prelude.{Bool, not, ◌&&◌}
use Rattle.ig_grammar.specs.declared.declaration.DeclKind.{DeclKind}
use Rattle.ig_grammar.specs.declared.place.Shape.{Shape}
use Rattle.ig_blocks_parts.specs.Setting.{Setting}
use Rattle.ig_pass.specs.Rooted.{is_root}

-- whether a declaration of the shape and the kind gets the pair
abbrev pub has_pair : Setting → Shape → DeclKind → Bool
has_pair s shape kind = not (is_root shape) && s.paired kind
