-- What a decoder answers where its cursor does not go on (this profile's own).
use Rattle.xt_wire.specs.declared.cursor.cursor.CutFault.{CutFault}
use Rattle.xt_wire.specs.declared.cursor.cursor.CutFault.TheVariants as cut
use Rattle.xcdr_model.specs.declared.malformed.Why.TheVariants as why
use Rattle.xt_wire.specs.declared.cursor.faults.DecodeFault.{DecodeFault}
use Rattle.xt_wire.specs.declared.cursor.faults.DecodeFault.TheVariants.{Malformed, ReadFault}

abbrev pub cut_fault : CutFault → DecodeFault
cut_fault (cut.Short at) = Malformed at why.Short
cut_fault cut.Fault = ReadFault
