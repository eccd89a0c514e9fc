use Rattle.ig_command_sources.proofs.Loading.{widened}
use Rattle.ig_command_sources.proofs.load.read_input.Goals as goal

pub returns-in-Ok : goal.returns-in-Ok
returns-in-Ok c =
    widened c.args.tabs c.args.bytes.now c.in-Ok.text c.with_tabs.result c.in-Ok.ensures.text c.with_tabs.ensures
