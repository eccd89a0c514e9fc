use Rattle.ig_text.proofs.Options.{on_ok_same}
use Rattle.ig_command_sources.proofs.Added.{cause_added}
use Rattle.ig_command_sources.proofs.cause.push_cause.Goals as goal

pub returns : goal.returns
returns c =
    on_ok_same c.push_numbered-3.result _ _ _ c.push_numbered-3.ensures
    (cause_added c.args.line.now.items c.extend_from_slice.new.self.items c.push_numbered.new.line.items c.push_numbered-2.new.line.items
    _ c.args.place (rw (c.as_bytes.ensures.value, c.cause_text.ensures) at c.in_ok-extend_from_slice.ensures.items) c.in_ok-push_numbered.ensures c.in_ok-push_numbered-2.ensures)
