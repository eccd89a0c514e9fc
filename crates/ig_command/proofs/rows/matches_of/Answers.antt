use Rattle.std.proofs.Common.{◌≡◌, ◌≢◌, ◌∙◌, ◌⊎◌, ⊎_elim, [], map, ap, sym, subst, true}
use Rattle.std.proofs.lemmas.Result.{IfOk-weaker}
use Rattle.std.specs.Prelude.{string_bytes}
use Rattle.ig_text.proofs.Booleans.{first_true}
use Rattle.std.proofs.ResultArms.{if_ok_both}
use Rattle.clap.specs.Kinds.{Kinds, IsAmong}
use Rattle.clap.specs.Words.{app_of, fault_of, is_simple, is_simple_and_free, matches_of}
use Rattle.clap.specs.declared.error.kind.ErrorKind.{ErrorKind}
use Rattle.clap.specs.declared.error.kind.ErrorKind.TheVariants as kind
use Rattle.ig_command.specs.Rows.{Answers}
use Rattle.ig_command.specs.Words.{parts_of}
use Rattle.ig_command.proofs.Matched.{answers_found, answers_none, is_simple_row}
use Rattle.ig_command.proofs.rows.matches_of.Goals as goal

refuses : (k : ErrorKind) (kinds : Kinds) → (k ≡ kind.OutOfMemory) ⊎ IsAmong k kinds → k ≢ kind.OutOfMemory → kinds ≢ []
refuses k kinds h other e = ⊎_elim (λ out. other out) (λ among. subst (IsAmong k) e among) h

pub returns-in-Err : goal.returns-in-Err
returns-in-Err c =
    let free : is_simple_and_free (app_of c.in_ok-command.command) ≡ true = ap is_simple_and_free c.in_ok-command.ensures ∙ is_simple_row c.args.row in
    IfOk-weaker c.refused.result _ _
    (λ r h. subst (Answers c.args.row (parts_of (map string_bytes c.args.words.now))) (sym h.0)
    (answers_none c.args.row (map string_bytes c.args.words.now) c.requires
    (subst (λ a. fault_of a (map string_bytes c.args.words.now) ≢ []) c.in_ok-command.ensures
    (refuses _ _ (c.in-Err.ensures.kinds free) (λ e. h.1 (c.kind.ensures ∙ e))))))
    (if_ok_both c.refused.result _ _ c.refused.ensures.none c.refused.ensures.memory)

pub returns-in-Ok : goal.returns-in-Ok
returns-in-Ok c =
    let free : is_simple_and_free (app_of c.in_ok-command.command) ≡ true = ap is_simple_and_free c.in_ok-command.ensures ∙ is_simple_row c.args.row in
    let found = c.in-Ok.ensures.matches (first_true (is_simple (app_of c.in_ok-command.command)) _ free) in
    answers_found c.args.row c.in-Ok.matches (map string_bytes c.args.words.now) c.requires
    (sym (ap (λ a. fault_of a (map string_bytes c.args.words.now)) c.in_ok-command.ensures) ∙ c.in-Ok.ensures.kinds free)
    (found.0 ∙ ap (λ a. matches_of a (map string_bytes c.args.words.now)) c.in_ok-command.ensures)
