-- What follows from an item that calls nothing and isn't complete, by what comes of it.
use Rattle.std.proofs.Common.{◌≡◌, ◌⊎◌, inl, inr, ℕ, List, refl, sym, ap, ◌∙◌}
use Rattle.ig_text.specs.Input.{Input}
use Rattle.ig_item.specs.Gives as given
use Rattle.ig_item.specs.Gives.{Gives, Taken, nothing, leaf}
use Rattle.ig_item.specs.Items.{Item, IsComplete}
use Rattle.ig_item.specs.declared.core_grammar.Nonterminal.{Nonterminal}
use Rattle.ig_item.specs.declared.items.Instance.{Instance}
use Rattle.ig_run_moves.specs.Rules as moves
use Rattle.ig_run_moves.specs.Rules.{Comes, NoItem, NoCall, PassesTo, ReadsTo}
use Rattle.ig_run_laws.specs.Rules as rules
use Rattle.ig_run_laws.specs.Rules.{After, IsCaller}

module _ (core : List Nonterminal) (text : Input) (it : Item) (passes reads : Item → Type 0)
    (c : Comes core text it passes reads NoCall ⊥) where
  pub follows_only : (known : Item → Type 0) (x : Item) → After core text known it x → passes x ⊎ reads x
  follows_only known x (rules.test names e b h f) = inl ((c.passing x).0 (moves.test names e b (h, f)))
  follows_only known x (rules.bind names name e v b h f) = inl ((c.passing x).0 (moves.bind names name e b (v, h, f)))
  follows_only known x (rules.terminal names what label excluded j b m free f) =
      inr ((c.reading x).0 (record { names = names; what = what; label = label; excluded = excluded; before = b; is = (j, m, free, f) }))
  follows_only known x (rules.call callee label excluded n a alternative q has f) = absurd ((c.calling callee label excluded).0 q)
  follows_only known x (rules.return done label excluded k q complete free f) = absurd ((c.calling done.instance label excluded).0 q)
  follows_only known x (rules.returned caller label excluded k q complete free f) = absurd (c.ending.0 complete)

  after_pass : (known : Item → Type 0) (x : Item) → PassesTo core text it x → After core text known it x
  after_pass known x (moves.test names e b m) = rules.test names e b m.0 m.1
  after_pass known x (moves.bind names name e b m) = rules.bind names name e m.0 b m.1 m.2

  pub follows_passed : (known : Item → Type 0) (x : Item) → passes x → After core text known it x
  follows_passed known x m = after_pass known x ((c.passing x).1 m)

  pub follows_read : (known : Item → Type 0) (x : Item) → reads x → After core text known it x
  follows_read known x m =
      let q = (c.reading x).1 m in rules.terminal q.names q.what q.label q.excluded q.is.0 q.before q.is.1 q.is.2 q.is.3

  pub calls_nothing : (callee : Instance) → IsCaller core text it callee → ⊥
  calls_nothing callee q = (c.calling callee q.label q.excluded).0 q.calls

  pub is_unfinished : IsComplete core it → ⊥
  is_unfinished q = c.ending.0 q

-- and in which way
module _ (core : List Nonterminal) (text : Input) (known : Item → Type 0) where
  pub gives_passing : (passes : Item → Type 0) (prev : Item) (what : Taken) (x : Item) → Comes core text prev passes NoItem NoCall ⊥ →
      Gives core text known prev what x → (what ≡ nothing) × passes x
  gives_passing passes p w y c (given.test prev names e x k b holds is) = (refl, (c.passing x).0 (moves.test names e b (holds, is)))
  gives_passing passes p w y c (given.bind prev names name e v x k b has is) =
      (refl, (c.passing x).0 (moves.bind names name e b (v, has, is)))
  gives_passing passes p w y c (given.terminal prev names pattern label excluded j t x k b m free i is) =
      absurd ((c.reading x).0
      (record { names = names; what = pattern; label = label; excluded = excluded; before = b; is = (j, m, free, is) }))
  gives_passing passes p w y c (given.return prev done label excluded key x k h q complete free is) =
      absurd ((c.calling key.instance label excluded).0 q)

  pub gives_reading : (reads : Item → Type 0) (prev : Item) (what : Taken) (x : Item) → Comes core text prev NoItem reads NoCall ⊥ →
      Gives core text known prev what x → (what ≡ leaf (record { begin = prev.position; end = x.position })) × reads x
  gives_reading reads p w y c (given.test prev names e x k b holds is) = absurd ((c.passing x).0 (moves.test names e b (holds, is)))
  gives_reading reads p w y c (given.bind prev names name e v x k b has is) =
      absurd ((c.passing x).0 (moves.bind names name e b (v, has, is)))
  gives_reading reads p w y c (given.terminal prev names pattern label excluded j t x k b m free i is) = (
    i ∙ ap (λ (a : ℕ). leaf (record { begin = prev.position; end = a })) (sym (ap (λ (a : Item). a.position) is)),
    (c.reading x).0 (record { names = names; what = pattern; label = label; excluded = excluded; before = b; is = (j, m, free, is) }),
  )
  gives_reading reads p w y c (given.return prev done label excluded key x k h q complete free is) =
      absurd ((c.calling key.instance label excluded).0 q)

  pub gives_passed : (it x : Item) → known it → PassesTo core text it x → Gives core text known it nothing x
  gives_passed it x k (moves.test names e b m) = given.test it names e x k b m.0 m.1
  gives_passed it x k (moves.bind names name e b m) = given.bind it names name e m.0 x k b m.1 m.2

  pub gives_read : (it x : Item) → known it → ReadsTo core text it x →
      Gives core text known it (leaf (record { begin = it.position; end = x.position })) x
  gives_read it x k q =
      given.terminal it q.names q.what q.label q.excluded q.is.0 (leaf (record { begin = it.position; end = x.position })) x k q.before q.is.1
      q.is.2 (ap (λ (a : ℕ). leaf (record { begin = it.position; end = a })) (ap (λ (z : Item). z.position) q.is.3)) q.is.3
