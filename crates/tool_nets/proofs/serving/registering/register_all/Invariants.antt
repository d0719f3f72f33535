use Rattle.std.proofs.Common.{◌≡◌, map, take}
use Rattle.tool_nets.specs.serving.Registering.{AreIn, entry_of}
use Rattle.tool_nets.proofs.serving.registering.register_all.Given as goal

-- So many of the pool were found.
abbrev pub invariant-loop-index : goal.invariant-loop-index
invariant-loop-index l = record {
  are_in : AreIn l.registry l.findings;
  entries : map entry_of l.findings ≡ take l.index l.pool;
  pass : l.pass.registry ≡ l.registry;
}
