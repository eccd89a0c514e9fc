use Rattle.std.proofs.Common.{◌≡◌, ◌+◌, ◌∷◌, [], ◌∙◌, false, map, take, vec_len, ap, sym, subst, rules, arith, Some, None, Err}
use Rattle.std.proofs.lemmas.List.{map-append}
use Rattle.ig_turns.specs.declared.job_list.ListFault.TheVariants.{Wrong}
use Rattle.ig_turns.specs.Lists.{reading, job_at, is_end}
use Rattle.ig_turns.specs.Reads.{Reads, stored_job}
use Rattle.ig_turns.proofs.Reading.{wrong_line, next_line, not_at_end, few_lines}
use Rattle.ig_turns.proofs.job_list.read_list.Goals as goal

pub returns-in_default-2-clause-reads : goal.returns-in_default-2-clause-reads
returns-in_default-2-clause-reads c =
    let lines = vec_len c.loop-end.jobs in
    let none : job_at (lines + 1) (take c.in-Some.end c.loop-end.rest.now) ≡ None = search rules in
    subst (λ f. Reads c.args.bytes.now (Err f)) (sym (c.wrong_after.ensures ∙ ap (λ n. Wrong (n + 1)) c.len-in_default-2.ensures))
    (wrong_line (reading c.args.bytes.now) (map stored_job c.loop-end.jobs.items) (lines + 1) c.in-Some.end c.loop-end.rest.now
    c.loop-end.invariant.told (sym c.place_of.ensures.place ∙ c.in-Some.is) none)

pub loop-end-preserved : goal.loop-end-preserved
loop-end-preserved c =
    let lines = vec_len c.loop-end.jobs in
    let some : job_at (lines + 1) (take c.in-Some.end c.loop-end.rest.now) ≡ Some (stored_job c.in-Some-2.job) = search rules in
    let few = few_lines (lines + 1) (take c.in-Some.end c.loop-end.rest.now) (stored_job c.in-Some-2.job) some in
    let counted = c.in_ok-add.ensures.len in
    record {
      told = next_line (reading c.args.bytes.now) (map stored_job c.loop-end.jobs.items) (map stored_job c.add.new.jobs.items) lines
          (vec_len c.add.new.jobs) c.in-Some.end c.loop-end.rest.now c.after-rest.result.now (stored_job c.in-Some-2.job)
          c.loop-end.invariant.told (sym c.place_of.ensures.place ∙ c.in-Some.is) some
          (ap (map stored_job) c.in_ok-add.ensures.items ∙ map-append stored_job c.loop-end.jobs.items (c.in-Some-2.job ∷ []))
          counted c.after-rest.ensures;
      few = omega (arith, few, counted);
    }

pub returns-clause-reads : goal.returns-clause-reads
returns-clause-reads c =
    let lines = vec_len c.loop-end.jobs in
    let ends : is_end (lines + 1) c.loop-end.rest.now ≡ false = search rules in
    subst (λ f. Reads c.args.bytes.now (Err f)) (sym (c.wrong_after-2.ensures ∙ ap (λ n. Wrong (n + 1)) c.len-3.ensures))
    (not_at_end (reading c.args.bytes.now) (map stored_job c.loop-end.jobs.items) (lines + 1) c.loop-end.rest.now
    c.loop-end.invariant.told (sym c.place_of.ensures.place ∙ c.in_default.is) ends)
