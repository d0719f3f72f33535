use Rattle.tool_commands.proofs.OfListing.Listed.{none_added}
use Rattle.tool_commands.proofs.listing.compiling.add_record.Goals as goal

pub returns-in-Object : goal.returns-in-Object
returns-in-Object c = rw c.in-Object.is (none_added c.args.pool.now)
