use Rattle.tool_commands.proofs.OfListing.Pooled.{front_has_compiled}
use Rattle.tool_commands.proofs.listing.compiling.front_has_compiled.Goals as goal

pub returns : goal.returns
returns c = front_has_compiled
