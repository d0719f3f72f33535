-- What the doors and nets in memory hold (this profile's own).
use Rattle.std.specs.Prelude.{ℕ, Bool, false, true, List, [], ◌∷◌, length, nat_lt, take, Option, Some, None}
use Rattle.xt_outside.specs.Links.{Held, Heard, IsNewDoor}
use Rattle.xt_outside.specs.MemoryLinks.{entry_of, heard_over}
use Rattle.xt_outside.specs.declared.memory_links.MemLink.{MemLink}
use Rattle.xt_outside.specs.declared.memory_links.Script.{Script}
use Rattle.xt_outside.specs.declared.memory_doors.MemNet.{MemNet}
use Rattle.xt_outside.specs.declared.memory_doors.MemDoor.{MemDoor}
use Rattle.xt_outside.specs.declared.memory_doors.Turn.{Turn}
use Rattle.xt_outside.specs.declared.memory_doors.Turn.TheVariants.{Waiting, Out, Ended}

abbrev pub door_turns : MemDoor → List Turn
door_turns door = door.turns

abbrev pub door_fails : MemDoor → List ℕ
door_fails door = door.fails

abbrev pub door_faults : MemDoor → ℕ
door_faults door = door.tally.faults

-- a link is out: that of the turn at this place
abbrev pub is_out : Bool → ℕ → List Turn → Bool
is_out false at turns = false
is_out true at turns = nat_lt at (length turns)

-- what the links that were given back had got and taken
abbrev pub held_by : List Turn → List Held
held_by [] = []
held_by (Waiting script ∷ turns) = held_by turns
held_by (Out ∷ turns) = held_by turns
held_by (Ended link ∷ turns) = entry_of link ∷ held_by turns

-- a door with nothing held, no link out and no fault
abbrev pub IsFresh : MemDoor → Type 0
IsFresh door = IsNewDoor (Some (held_by (take door.at door.turns))) (is_out door.out door.at door.turns) door.tally.faults

abbrev pub net_doors : MemNet → List MemDoor
net_doors net = net.doors

abbrev pub net_link : MemNet → Option Script
net_link net = net.link

-- what further links are made of
abbrev pub net_more : MemNet → List Script
net_more net = net.more

-- how many links were given
abbrev pub net_connections : MemNet → ℕ
net_connections net = net.connections

abbrev pub net_fails : MemNet → List ℕ
net_fails net = net.fails

-- the address that was last used
abbrev pub net_address : MemNet → List ℕ
net_address net = net.address

abbrev pub net_faults : MemNet → ℕ
net_faults net = net.tally.faults

-- the doors that were given back
abbrev pub net_held : MemNet → List MemDoor
net_held net = net.held

-- the link that was given back
abbrev pub net_heard : MemNet → Option MemLink
net_heard net = net.heard

-- what the link that was given back had got and taken
abbrev pub heard_by : Option MemLink → Option Heard
heard_by None = None
heard_by (Some link) = Some (heard_over link)
