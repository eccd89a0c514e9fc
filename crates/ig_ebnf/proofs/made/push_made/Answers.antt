use Rattle.ig_ebnf.proofs.CodeOfMade.{on_ok_pushed}
use Rattle.ig_ebnf.proofs.made.push_made.Goals as goal

pub returns : goal.returns
returns c =
    on_ok_pushed c.push_shape.result c.args.all.now _ _ c.in_ok-name.name c.args.params c.params.inside.cells.items
    c.args.head.now.shape c.args.alts
    c.in_ok-one_level.field-0 (c.groups_are_gathered.ensures c.args.alts) c.in_ok-name.ensures c.params.view_is c.in_ok-one_level.ensures
    c.in_ok-push_declaration.ensures c.push_shape.ensures
