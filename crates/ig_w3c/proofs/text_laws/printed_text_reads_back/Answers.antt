use Rattle.ig_w3c.proofs.ReadBack.{reads_back}
use Rattle.ig_w3c.proofs.text_laws.printed_text_reads_back.Goals as goal

pub returns : goal.returns
returns c =
    reads_back c.fronts_are_runs.ensures c.standing_tokens_are_longest.ensures c.normal_form_is_normal.ensures c.normal_ranges_stay.ensures
    c.tokens_have_forms.ensures c.reads_have_forms.ensures c.canonical_tokens_follow.ensures
