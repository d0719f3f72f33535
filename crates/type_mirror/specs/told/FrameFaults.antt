-- What is no frame, as a fault of a push (own).
use Rattle.type_lookup.specs.declared.faults.FrameFault.{FrameFault}
use Rattle.type_lookup.specs.declared.faults.FrameFault.TheVariants as frame
use Rattle.type_mirror.specs.declared.told.told.PushFault.{PushFault}
use Rattle.type_mirror.specs.declared.told.told.PushFault.TheVariants.{LinkFault, BadReply, OutOfMemory}

abbrev pub fault_by : FrameFault → PushFault
fault_by frame.LinkFault = LinkFault
fault_by frame.Truncated = BadReply
fault_by (frame.TooLong n) = BadReply
fault_by (frame.BadMessage at) = BadReply
fault_by frame.OutOfMemory = OutOfMemory
