use Rattle.std.proofs.Common.{◌∙◌, [], ◌∷◌, ◌++◌, ap}
use Rattle.ig_gss.proofs.Called as called
use Rattle.ig_gss.proofs.stacks.Stacks.node.Goals as goal

pub invariant_of-self-then-is_new : goal.invariant_of-self-then-is_new
invariant_of-self-then-is_new c =
    called.node_keeps _ _ _ _ _ c.self.invariant _ c.self.view_is c.args.key _ _ c.none.result _ (c.in_ok-node.ensures.new c.if-is_new.true)
    (c.in_ok-push.ensures.items ∙ ap (λ z. z ++ c.none.result ∷ []) c.reserve.ensures.items)
    c.none.ensures.edge c.none.ensures.pop c.none.ensures.is_indexed

pub returns-then-is_new-clause-made : goal.returns-then-is_new-clause-made
returns-then-is_new-clause-made c _ =
    called.node_made _ _ _ _ _ c.self.invariant _ c.self.view_is c.args.key _ _ c.none.result _ (c.in_ok-node.ensures.new c.if-is_new.true)
    (c.in_ok-push.ensures.items ∙ ap (λ z. z ++ c.none.result ∷ []) c.reserve.ensures.items)
    c.none.ensures.edge c.none.ensures.pop c.none.ensures.is_indexed

pub returns-then-is_new-clause-there : goal.returns-then-is_new-clause-there
returns-then-is_new-clause-there c =
    called.key_there _ _ _ _ _ c.self.invariant _ c.self.view_is c.enter.new.self c.push.new.self.items c.args.key c.in_ok-node.node
    c.in_ok-node.ensures.enters.there

pub invariant_of-self-else-is_new : goal.invariant_of-self-else-is_new
invariant_of-self-else-is_new c =
    called.found_keeps _ _ _ _ _ c.self.invariant _ c.self.view_is c.args.key _ _ (c.in_ok-node.ensures.old c.if-is_new.false) c.reserve.ensures.items

pub returns-clause-found : goal.returns-clause-found
returns-clause-found c _ =
    called.node_found _ _ _ _ _ c.self.invariant _ c.self.view_is c.args.key _ _ (c.in_ok-node.ensures.old c.if-is_new.false) c.reserve.ensures.items
    _ c.in_ok-node.ensures.enters.there

pub returns-clause-there : goal.returns-clause-there
returns-clause-there c =
    called.key_there _ _ _ _ _ c.self.invariant _ c.self.view_is c.enter.new.self c.reserve.new.self.items c.args.key c.in_ok-node.node
    c.in_ok-node.ensures.enters.there
