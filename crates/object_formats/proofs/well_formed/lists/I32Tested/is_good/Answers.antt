use Rattle.std.proofs.Common.{rules, sym, w32}
use mir.Val.{SFits}
use Rattle.object_formats.proofs.Good.{signed_good}
use Rattle.object_formats.proofs.well_formed.lists.I32Tested.is_good.Goals as goal

pub returns : goal.returns
returns c = let fits : SFits w32 c.args.self.now = search rules in sym (signed_good c.args.self.now fits)
