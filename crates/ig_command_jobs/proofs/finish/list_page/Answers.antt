use Rattle.ig_command.specs.Commands.{stored_listing}
use Rattle.ig_command_jobs.proofs.Listings.{page_needs_depth, page_lost}
use Rattle.ig_command_jobs.proofs.finish.list_page.Goals as goal

pub returns-in-Err-DepthNeeded : goal.returns-in-Err-DepthNeeded
returns-in-Err-DepthNeeded c =
    page_needs_depth c.args.core.now c.args.forest.now (stored_listing c.args.listing) c.depth_needed.result
    (rw c.in-Err-DepthNeeded.field-0-is at c.in-Err-DepthNeeded.ensures) c.depth_needed.ensures

pub returns-in-Err-NoCursor : goal.returns-in-Err-NoCursor
returns-in-Err-NoCursor c =
    page_lost c.args.core.now c.args.forest.now (stored_listing c.args.listing) c.no_cursor.result
    (rw c.in-Err-NoCursor.field-0-is at c.in-Err-NoCursor.ensures) c.no_cursor.ensures
