-- What a check of a forest comes to.
use Rattle.std.proofs.Common.{◌≡◌, ◌≤◌, ◌∙◌, ℕ, List, [], length, Result, Ok, Err, Vec, Global, Some, sym, subst}
use Rattle.std.proofs.lemmas.Option.{same_Some}
use Rattle.ig_text.specs.Input.{Input, KeepsLimits}
use Rattle.ig_grammar.specs.Checked.{CheckedGrammar}
use Rattle.ig_item.specs.WellKinded.{IsWellKinded}
use Rattle.ig_item.specs.declared.core_grammar.Nonterminal.{Nonterminal}
use Rattle.ig_core.specs.Lowered.{CoreOf}
use Rattle.ig_forest_tables.specs.Forest.{Forest}
use Rattle.ig_forest.specs.Reduced.{IsReduced}
use Rattle.ig_show_texts.specs.ForestText.{forest_text}
use Rattle.ig_verify.specs.Sound.{IsSound}
use Rattle.ig_verify.specs.Flaws.{IsFirstFlaw}
use Rattle.ig_verify.specs.declared.flaw.Flaw.{Flaw}
use Rattle.ig_forest_reader.specs.Written.{IsDraftOf, TellsNames}
use Rattle.ig_verify_laws.specs.CertificateLaws.{IsCertified, ReadCoresTellNames, ReducedIsCertified, VerifiedIsPermitted}
use Rattle.ig_command_endings.specs.Notes.{no_forest_note, not_sound_note}
use Rattle.ig_command_endings.specs.Stops.{StopsWith}
use Rattle.ig_command_endings.specs.declared.status.Status.TheVariants as status
use Rattle.ig_command_endings.specs.declared.stop.Stop.{Stop}
use Rattle.ig_command_endings.specs.declared.stop.Stop.TheVariants as halt
use Rattle.ig_command_sources.specs.Sources.{most_forest_bytes}
use Rattle.ig_command_jobs.specs.Verifying.{HasPermittedTrees, IsReducedText, IsTaken, IsForestText, SaysVerified, Verifies, VerifiesDraft, VerifiesText, no_forest, not_sound, verified}

-- what comes of the rules of a forest that was read
module _ (core : List Nonterminal) (input : Input) (f : Forest) where
  pub verifies_sound : (r : Result (Vec ℕ Global) Stop) → SaysVerified r → IsSound core input f → VerifiesDraft core input f r
  verifies_sound (Ok text) h sound = (h, sound)
  verifies_sound (Err (halt.Note s line)) h sound = absurd h
  verifies_sound (Err halt.Memory) h sound = tt

  pub verifies_flaw : (flaw : Flaw) (stop : Stop) → IsFirstFlaw core input f flaw →
      StopsWith status.NotSound (not_sound_note flaw.item flaw.number flaw.rule) stop → VerifiesDraft core input f (Err stop)
  verifies_flaw flaw (halt.Note s line) first h = (flaw, first, h.0, h.1)
  verifies_flaw flaw halt.Memory first h = tt

-- the core grammar of an accepted grammar tells its names
pub tells_names : (c : CheckedGrammar) → IsTaken c → ReadCoresTellNames → TellsNames (CoreOf c)
tells_names c taken law =
    let P : CheckedGrammar → Type 0 = λ z. TellsNames (CoreOf z) in
    subst P (sym taken.as_it_is) (law taken.written taken.bytes c.grammar taken.accepted)

pub record Given (c : CheckedGrammar) (input : Input) (xs : List ℕ) : Type 0 where
  pub taken : IsTaken c
  pub few : length xs ≤ most_forest_bytes
  pub well : IsWellKinded (CoreOf c)
  pub limits : KeepsLimits input
  pub certified : ReducedIsCertified
  pub permitted : VerifiedIsPermitted

module _ (c : CheckedGrammar) (input : Input) (xs : List ℕ) (given : Given c input xs) where
  -- the reduced forest is one that is read and verified
  certified : (r : IsReducedText c input xs) → IsCertified (CoreOf c) input r.forest
  certified r =
      let W : CheckedGrammar → Type 0 = λ z. IsWellKinded (CoreOf z) in
      let R : CheckedGrammar → Type 0 = λ z. IsReduced (CoreOf z) input r.forest in
      let C : CheckedGrammar → Type 0 = λ z. IsCertified (CoreOf z) input r.forest in
      let same = given.taken.as_it_is in
      subst C (sym same)
      (given.certified given.taken.written given.taken.bytes c.grammar input r.forest given.taken.accepted (subst W same given.well) given.limits (subst R same r.reduced) r.few_items)

  -- each tree of a sound forest is permitted
  permitted : (f : Forest) → IsDraftOf (CoreOf c) f → IsSound (CoreOf c) input f → HasPermittedTrees c input f
  permitted f draft sound =
      let S : CheckedGrammar → Type 0 = λ z. IsSound (CoreOf z) input f in
      let P : CheckedGrammar → Type 0 = λ z. HasPermittedTrees z input f in
      let same = given.taken.as_it_is in
      subst P (sym same)
      (λ d t u. given.permitted given.taken.written given.taken.bytes c.grammar input f d t given.taken.accepted.text draft.draft.forest (subst S same sound) u)

  -- a forest with a flaw isn't the reduced one
  not_reduced : (f : Forest) (flaw : Flaw) → IsForestText c xs f → IsFirstFlaw (CoreOf c) input f flaw → IsReducedText c input xs → ⊥
  not_reduced f flaw is first r =
      let both = certified r in
      let same : f ≡ r.forest = same_Some f r.forest (both.read (Some f) (is.draft, sym r.text_is ∙ is.text_is)) in
      let none = both.verified (Some flaw) (subst (λ (z : Forest). IsFirstFlaw (CoreOf c) input z flaw) same first) in
      cc

  pub verifies_draft : (f : Forest) (r : Result (Vec ℕ Global) Stop) → IsForestText c xs f → VerifiesDraft (CoreOf c) input f r →
      VerifiesText c input xs r
  verifies_draft f (Ok text) is h =
      let Q : List ℕ → Type 0 = λ z. Verifies c input xs status.Done z [] in
      subst Q (sym h.0) (verified f given.few is h.1 (permitted f is.draft h.1))
  verifies_draft f (Err (halt.Note s line)) is h =
      (rw (h.2, h.3) (not_sound f h.0 given.few is h.1), (λ d. let p = h.2 in cc), not_reduced f h.0 is h.1)
  verifies_draft f (Err halt.Memory) is h = tt

  pub verifies_none : (stop : Stop) → ((f : Forest) → IsDraftOf (CoreOf c) f → xs ≡ forest_text f → ⊥) →
      StopsWith status.NotForest no_forest_note stop → VerifiesText c input xs (Err stop)
  verifies_none (halt.Note s line) none h = (
    rw (h.0, h.1) (no_forest given.few (λ f is. none f is.draft is.text_is)),
    (λ d. let p = h.0 in cc),
    λ r. none r.forest (certified r).draft r.text_is,
  )
  verifies_none halt.Memory none h = tt
