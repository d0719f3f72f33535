use Rattle.std.proofs.Common.{◌≡◌, take}
use Rattle.object_formats.specs.Format.{each_good}
use Rattle.object_formats.proofs.well_formed.lists.each.Given as goal

abbrev pub invariant-loop-part : goal.invariant-loop-part
invariant-loop-part g l = l.good ≡ each_good (g.P.Part.format l.form) (g.P.Part.all_seen (take l.part-index l.parts))
