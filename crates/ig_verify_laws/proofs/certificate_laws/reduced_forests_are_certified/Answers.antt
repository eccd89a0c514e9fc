use Rattle.ig_verify_laws.proofs.Certifying.{certified}
use Rattle.ig_verify_laws.proofs.certificate_laws.reduced_forests_are_certified.Goals as goal

pub returns : goal.returns
returns c =
    certified
    (record {
      uncalled = c.cores_call_no_root.ensures;
      tags = c.cores_have_small_tags.ensures;
      told = c.read_cores_tell_names.ensures;
      draft = c.reduced_forests_are_drafts.ensures;
      integers = c.cores_have_small_integers.ensures;
      integers_in_w3c = c.w3c_cores_have_small_integers.ensures;
      sound = c.reduced_forests_are_sound.ensures;
      whole = c.sound_forests_have_no_flaw.ensures;
      tell = c.texts_tell_drafts.ensures;
    })
