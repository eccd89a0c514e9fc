use Rattle.ig_show.specs.CanonicalText.{declaration_pieces, separated}
use Rattle.std.proofs.Common.{[], refl}
use Rattle.std.specs.Str.{chars}
use Rattle.ig_show.proofs.Steps.{all_ahead, less_ahead, none_ahead}
use Rattle.ig_show.proofs.grammar.push_declarations.Goals as goal

pub loop-decl-init : goal.loop-decl-init
loop-decl-init c =
    all_ahead (separated [] declaration_pieces c.args.decls.now)

pub loop-decl-preserved : goal.loop-decl-preserved
unfolding chars
loop-decl-preserved c =
    less_ahead (λ z. separated [] declaration_pieces z) c.args.decls.now c.loop-decl.decl-index c.decl-item.result c.decl-item.result c.decl-item.is c.loop-decl-test.true
    c.loop-decl.invariant c.in_ok-push_declaration.ensures (λ _. refl)

pub returns : goal.returns
returns c =
    none_ahead (λ z. separated [] declaration_pieces z) c.args.decls.now c.loop-decl.decl-index c.loop-decl-test.false (λ _. refl) c.loop-decl.invariant
