-- What the adapters over readers, writers and TCP hold (this profile's own).
use Rattle.std.specs.Prelude.{ℕ, List, Option, None}
use Rattle.xt_outside.specs.Links.{IsNewDoor}
use Rattle.xt_outside.specs.declared.adapters.ReadSource.{ReadSource}
use Rattle.xt_outside.specs.declared.adapters.WriteSink.{WriteSink}
use Rattle.xt_outside.specs.declared.tcp.TcpDoor.{TcpDoor}
use Rattle.xt_outside.specs.declared.tcp.TcpNet.{TcpNet}

abbrev pub reader_of : {R : Type 0} → ReadSource R → R
reader_of source = source.inner

abbrev pub reader_faults : {R : Type 0} → ReadSource R → ℕ
reader_faults source = source.faults

abbrev pub writer_of : {W : Type 0} → WriteSink W → W
writer_of sink = sink.inner

abbrev pub writer_faults : {W : Type 0} → WriteSink W → ℕ
writer_faults sink = sink.faults

abbrev pub door_faults : TcpDoor → ℕ
door_faults door = door.faults

abbrev pub net_faults : {R : Type 0} → TcpNet R → ℕ
net_faults net = net.faults

-- what TCP does not tell
abbrev pub untold : Option (List ℕ)
untold = None

-- a door with no link out and no fault
abbrev pub IsFreshDoor : TcpDoor → Type 0
IsFreshDoor door = IsNewDoor None door.out door.faults
