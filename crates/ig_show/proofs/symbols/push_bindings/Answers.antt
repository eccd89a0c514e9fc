use Rattle.ig_grammar.specs.Binding.{binding_of}
use Rattle.ig_show.specs.CanonicalText.{bindings_pieces}
use Rattle.std.proofs.Common.{◌∷◌, refl, map}
use Rattle.std.specs.Str.{chars}
use Rattle.ig_show.specs.Pieces.{blank}
use Rattle.ig_show.specs.Steps.{adds, says}
use Rattle.ig_show.proofs.Steps.{all_ahead, less_ahead, none_ahead}
use Rattle.ig_show.proofs.symbols.push_bindings.Goals as goal

pub loop-binding-init : goal.loop-binding-init
loop-binding-init c =
    all_ahead (bindings_pieces (map binding_of c.args.bindings.now))

pub loop-binding-preserved : goal.loop-binding-preserved
unfolding chars
loop-binding-preserved c =
    less_ahead (λ z. bindings_pieces (map binding_of z)) c.args.bindings.now c.loop-binding.binding-index c.binding-item.result c.binding-item.result c.binding-item.is c.loop-binding-test.true
    c.loop-binding.invariant (adds c.in_ok-push_let.ensures (says (λ ps. blank ∷ ps) c.in_ok-push_text.ensures (λ _. refl))) (λ _. refl)

pub returns : goal.returns
returns c =
    none_ahead (λ z. bindings_pieces (map binding_of z)) c.args.bindings.now c.loop-binding.binding-index c.loop-binding-test.false (λ _. refl) c.loop-binding.invariant
