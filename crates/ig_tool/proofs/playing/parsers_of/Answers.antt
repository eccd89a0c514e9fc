use Rattle.std.proofs.Common.{◌∙◌, ap, length}
use Rattle.std.proofs.lemmas.Iterator.{YieldsList-from_slice, YieldsList-from_zip}
use Rattle.std.proofs.lemmas.Iterator.Adapters.{YieldsList-from_vec}
use Rattle.std.proofs.lemmas.Iterator.Consumers.{YieldsList-end}
use Rattle.std.proofs.lemmas.List.{length-map}
use Rattle.ig_core.specs.Lowered.{CoreOf}
use Rattle.ig_tool.proofs.Played.{firsts_are}
use Rattle.ig_tool.proofs.playing.parsers_of.Goals as goal

pub returns : goal.returns
returns c =
    let second = c.zip-grammar-items.ensures.second in
    let long = c.args.cores.ok.0 in
    let pairs = c.into_iter-grammar-iterator.result in
    let chain =
    YieldsList-from_zip {s = pairs} (YieldsList-from_slice {s = pairs.a} c.args.grammars.now (cc))
    (YieldsList-from_vec {s = pairs.b} c.args.cores.items (cc) (cc (second.1, long))) in
    let whole =
    YieldsList-end chain c.loop-grammar.yielded c.loop-grammar.grammar-iterator c.loop-grammar.yielded_by c.next.result
    c.next.new.self c.in-None.is c.next.ensures.steps in
    let as_many = ap length c.requires.cores ∙ length-map c.args.grammars.now CoreOf in
    c.loop-grammar.invariant ∙ firsts_are (λ p. p.0.now) (λ p. p.1) c.loop-grammar.yielded c.args.grammars.now c.args.cores.items
    whole.0 as_many
