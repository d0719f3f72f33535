-- What a command leaves of its input that was answered (this profile's own).
use Rattle.std.specs.Prelude.{ℕ, List, Option}
use Rattle.std.specs.Option.{option_map}
use Rattle.xt_io.specs.Bundles.{Bundle, bundle}
use Rattle.tool_runs.specs.Leaving.{Leaves, LeavesBody, LeavesNothing}
use Rattle.tool_words.specs.Words.{Command, compile, judge, read, write, convert, show, wrap, instances, keep, replay, make, compare}
use Rattle.tool_commands.specs.Commands.{read_lines, convert_records, write_records, instances_lines, record_records, replay_lines}
use Rattle.tool_runs.specs.declared.output.status.Status.{Status}
use Rattle.tool_runs.specs.declared.output.status.Status.TheVariants.{Done, No, Words, Bundle as Broken, ReadFault, WriteFault, OutOfMemory, Types, NoName, NetFault, Json, Fetch, Limit}

-- Of a command with a body that its front's records refuse, at a name or a verdict, what is left begins with the payload of the body's first record. One
-- without a body was answered, also with a refusal, once all was read.
abbrev pub LeavesBehind : Command → Option Bundle → Option (List ℕ) → Type 0
LeavesBehind compile before left = Leaves LeavesNothing before left
LeavesBehind (judge pair) before left = Leaves LeavesNothing before left
LeavesBehind (read pair) before left = Leaves (LeavesBody (read_lines pair)) before left
LeavesBehind (write r rep) before left = Leaves (LeavesBody (write_records r rep)) before left
LeavesBehind (convert pair to) before left = Leaves (LeavesBody (convert_records pair to)) before left
LeavesBehind show before left = Leaves LeavesNothing before left
LeavesBehind (wrap kind) before left = Unit {0}
LeavesBehind (instances pair depth) before left = Leaves (LeavesBody (instances_lines pair depth)) before left
LeavesBehind (keep r rep) before left = Leaves (LeavesBody (record_records r rep)) before left
LeavesBehind (replay r) before left = Leaves (LeavesBody (replay_lines r)) before left
LeavesBehind (make seed count) before left = Unit {0}
LeavesBehind (compare rep policy) before left = Leaves LeavesNothing before left

-- the same by the octets that the input was, where they are told
abbrev pub LeavesInput : Command → Option (List ℕ) → Option (List ℕ) → Type 0
LeavesInput command told left = LeavesBehind command (option_map bundle told) left

-- the status of a run that neither the source, the sink nor want of memory stopped
abbrev pub IsAnswer : Status → Type 0
IsAnswer Done = Unit {0}
IsAnswer No = Unit {0}
IsAnswer Words = Unit {0}
IsAnswer Broken = Unit {0}
IsAnswer ReadFault = ⊥
IsAnswer WriteFault = ⊥
IsAnswer OutOfMemory = ⊥
IsAnswer Types = Unit {0}
IsAnswer NoName = Unit {0}
IsAnswer NetFault = Unit {0}
IsAnswer Json = Unit {0}
IsAnswer Fetch = Unit {0}
IsAnswer Limit = Unit {0}
