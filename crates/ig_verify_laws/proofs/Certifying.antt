-- The text of a reduced forest is read and verified.
use Rattle.std.proofs.Common.{◌≡◌, ℕ, List, Option, Some, None, refl, sym, ap}
use Rattle.ig_item.specs.declared.core_grammar.Nonterminal.{Nonterminal}
use Rattle.ig_core.specs.Laws.{CoreTreesArePermitted}
use Rattle.ig_core.specs.Lowered.{CoreOf}
use Rattle.ig_core.specs.Notation.{unchanged}
use Rattle.ig_verify_laws.specs.IntegerLaws.{ReadCoresHaveSmallIntegers, W3cCoresHaveSmallIntegers}
use Rattle.ig_verify_laws.specs.NameLaws.{CoresCallNoRoot, CoresHaveSmallTags, CoresTellNames}
use Rattle.ig_forest_tables.specs.Forest.{Forest}
use Rattle.ig_show_texts.specs.ForestText.{forest_text}
use Rattle.ig_command.specs.declared.command.Notation.{Notation}
use Rattle.ig_command.specs.declared.command.Notation.TheVariants as notation
use Rattle.ig_grammar.specs.declared.grammar.Grammar.{Grammar}
use Rattle.ig_command_sources.specs.Accepted.{IsTextOf}
use Rattle.ig_command_sources.specs.Laws.{ReadGrammarsAreBuildable, ReadGrammarsStayRegular, ReadNamesAreNames}
use Rattle.ig_verify_laws.specs.Ranges.{IntegersFit}
use Rattle.ig_verify.specs.Laws.{SoundUnfoldsToCoreTrees}
use Rattle.ig_forest_reader.specs.Written.{IsDraftOf, TellsNames, TextsTellDrafts}
use Rattle.ig_verify_laws.specs.ReducedLaws.{ReducedIsDraft, ReducedIsSound, SoundHasNoFlaw}
use Rattle.ig_verify_laws.specs.CertificateLaws.{Reads, ReadCoresTellNames, ReducedIsCertified, VerifiedIsPermitted}

pub cores_told : CoresTellNames → ReadGrammarsAreBuildable → ReadGrammarsStayRegular → ReadNamesAreNames → ReadCoresTellNames
cores_told tell can regular named n bytes g accepted =
    let text = accepted.text in
    tell g (can n bytes g text) (regular n bytes g text).numbered (named n bytes g text.reading).declared accepted.few_dots

-- what is read of the text of a draft is that draft
read_so : TextsTellDrafts → (core : List Nonterminal) (f : Forest) → TellsNames core → IsDraftOf core f →
    (answer : Option Forest) → Reads core (forest_text f) answer → answer ≡ Some f
read_so tell core f told draft None none = absurd (none f draft refl)
read_so tell core f told draft (Some g) some = ap Some (tell core g f told some.0 draft (sym some.1))

pub record Given : Type 0 where
  pub uncalled : CoresCallNoRoot
  pub tags : CoresHaveSmallTags
  pub told : ReadCoresTellNames
  pub draft : ReducedIsDraft
  pub sound : ReducedIsSound
  pub integers : ReadCoresHaveSmallIntegers
  pub integers_in_w3c : W3cCoresHaveSmallIntegers
  pub whole : SoundHasNoFlaw
  pub tell : TextsTellDrafts

-- in either notation
integers_fit : Given → (n : Notation) (bytes : List ℕ) (g : Grammar) → IsTextOf n bytes g → IntegersFit (CoreOf (unchanged g))
integers_fit given notation.Own bytes g text = given.integers bytes g text.utf8 text.reading
integers_fit given notation.W3c bytes g text = given.integers_in_w3c bytes g text.utf8 text.reading

pub certified : Given → ReducedIsCertified
certified given n bytes g text f accepted well short reduced few =
    let c = unchanged g in
    let told = given.told n bytes g accepted in
    let draft =
    given.draft (CoreOf c) text f
    (record { well = well; uncalled = given.uncalled c; tags = given.tags c accepted.few_dots; integers = integers_fit given n bytes g accepted.text }) short reduced
    few in
    let sound = given.sound (CoreOf c) text f well reduced draft.draft.forest in
    record {
      told = told;
      draft = draft;
      sound = sound;
      read = read_so given.tell (CoreOf c) f told draft;
      verified = λ flaw h. given.whole (CoreOf c) text f flaw sound h;
    }

pub permitted : CoreTreesArePermitted → ReadGrammarsAreBuildable → ReadGrammarsStayRegular → SoundUnfoldsToCoreTrees →
    VerifiedIsPermitted
permitted same can regular trees n bytes g text f d t is forest sound tree =
    (same (unchanged g) text t (can n bytes g is) (regular n bytes g is).numbered).0
    (trees (CoreOf (unchanged g)) text f d t forest sound tree)
