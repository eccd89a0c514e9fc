use Rattle.ig_scope.proofs.heads.is_unplain_layout.Goals as goal

pub returns-in-Layout : goal.returns-in-Layout
returns-in-Layout c =
    let n = c.is_not_plain.ensures in
    ((λ t. (c.in-Layout.is, n.0 t)), (λ p. n.1 p.1))
