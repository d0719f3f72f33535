use Rattle.std.proofs.Common.{◌≡◌, drop}
use Rattle.object_formats.specs.Format.{has_nul}
use Rattle.object_formats.proofs.well_formed.fields.has_nul.Given as goal

abbrev pub invariant-loop-octet : goal.invariant-loop-octet
invariant-loop-octet l = has_nul (drop l.octet-index l.octets) ≡ has_nul l.octets
