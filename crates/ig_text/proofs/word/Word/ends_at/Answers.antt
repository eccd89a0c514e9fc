use Rattle.std.proofs.Common.{◌≡◌, ◌∙◌, sym, subst, length, List, ℕ, ◌+◌}
use Rattle.ig_text.specs.Place.{Spells}
use Rattle.ig_text.proofs.Matching.{spells_by_start, start_by_spells}
use Rattle.ig_text.proofs.word.Word.ends_at.Goals as goal

pub returns-then-starts_with : goal.returns-then-starts_with
returns-then-starts_with c =
    let word : c.as_slice-word.result.now ≡ c.args.self.now = c.as_slice-word.ensures.value ∙ c.self.view_is in
    let P : List ℕ → Type 0 = λ z. Spells c.args.text.now z c.args.position (c.args.position + length c.as_slice-word.result.now) in
    subst P word
    (spells_by_start c.args.text.now c.as_slice-word.result.now c.in_ok-rest.rest.now c.args.position c.starts_with.result
    c.in_ok-rest.ensures.rest c.in_ok-rest.ensures.within c.starts_with.ensures.value c.if-starts_with.true)

pub returns-else-starts_with : goal.returns-else-starts_with
returns-else-starts_with c j s =
    let word : c.args.self.now ≡ c.as_slice-word.result.now = sym (c.as_slice-word.ensures.value ∙ c.self.view_is) in
    let P : List ℕ → Type 0 = λ z. Spells c.args.text.now z c.args.position j in
    let yes = start_by_spells c.args.text.now c.as_slice-word.result.now c.in_ok-rest.rest.now c.args.position j
    c.starts_with.result c.in_ok-rest.ensures.rest c.starts_with.ensures.value (subst P word s) in
    let no = c.if-starts_with.false in cc
