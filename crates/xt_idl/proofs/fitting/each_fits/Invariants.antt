use Rattle.std.proofs.Common.{◌≡◌, drop}
use Rattle.xt_shapes.specs.Lists.{all}
use Rattle.xt_idl.specs.Numbers.{member_fits}
use Rattle.xt_idl.proofs.fitting.each_fits.Given as goal

abbrev pub invariant-loop-member : goal.invariant-loop-member
invariant-loop-member l = all member_fits (drop l.member-index l.members) ≡ all member_fits l.members
