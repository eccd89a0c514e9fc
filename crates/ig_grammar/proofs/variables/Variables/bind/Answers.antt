use Rattle.std.proofs.Common.{◌≡◌, ◌∙◌, ◌≤◌, ℕ, List, [], ◌∷◌, ◌++◌, length, take, ap, arith, rules}
use Rattle.std.specs.List.{zip}
use Rattle.std.proofs.lemmas.List.{take-append-le, take_all}
use Rattle.ig_text.proofs.Zips.{bound_pushed}
use Rattle.ig_grammar.proofs.variables.Variables.bind.Goals as goal
use Rattle.ig_grammar.proofs.variables.Variables.bind.Goals.{in-Ok, in-Err}

-- pairs as before, where a second member was added and taken back
taken_back : {A B : Type 0} (v : List (A × B)) (ns ms : List A) (ks js ls : List B) (k : B) (n : ℕ) →
    zip ns ks ≡ v → length ns ≡ length ks → ms ≡ ns → js ≡ ks ++ k ∷ [] → n ≡ length ms → ls ≡ take n js → zip ms ls ≡ v
taken_back v ns ms ks js ls k n z l p q e t =
    let m : n ≡ length ks = e ∙ ap length p ∙ l in
    let below : n ≤ length ks = omega arith in
    let above : length ks ≤ n = omega arith in
    let s : ls ≡ ks = t ∙ ap (take n) q ∙ take-append-le n ks (k ∷ []) below ∙ take_all n ks above in
    (λ i. zip (p i) (s i)) ∙ z

pub returns-clause-ok : goal.returns-clause-ok
returns-clause-ok c =
    elim c.match-push.branch [
      | in-Ok w ↦ rw w.result-is (w.self-is ∙ bound_pushed c.args.self.now c.self.inside.names.items c.push-2.new.self.items c.self.inside.kinds.items c.push.new.self.items
          c.args.name.now c.in_ok-name.name c.args.kind c.self.view_is c.self.invariant w.in-Ok.ensures.items c.in_ok-push.ensures.items c.in_ok-name.ensures)
      | in-Err w ↦ rw w.result-is tt
    ]

pub returns-clause-err : goal.returns-clause-err
returns-clause-err c =
    elim c.match-push.branch [
      | in-Ok w ↦ rw w.result-is tt
      | in-Err w ↦
          rw w.result-is (
          w.self-is ∙ taken_back c.args.self.now c.self.inside.names.items c.push-2.new.self.items c.self.inside.kinds.items c.push.new.self.items
          w.truncate.new.self.items c.args.kind w.len.result c.self.view_is c.self.invariant w.in-Err.ensures.items c.in_ok-push.ensures.items
          (search rules) w.truncate.ensures.items
          )
    ]
