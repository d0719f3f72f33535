use Rattle.std.proofs.Common.{◌≡◌, ◌≤◌, List, ℕ, length, ◌++◌}
use Rattle.std.specs.Io.KnownBytes.{append_known}
use Rattle.type_lookup.proofs.transfer.write_whole.Given as goal

-- What is left is the end of the octets, and those before it were appended.
abbrev pub invariant-loop-rest : goal.invariant-loop-rest
invariant-loop-rest g l = record {
  written : (some : List ℕ) × (l.from ≡ some ++ l.rest) × (g.L.Link.taken l.link ≡ append_known (g.L.Link.taken l.initial.link) some);
  got : g.L.Link.got l.link ≡ g.L.Link.got l.initial.link;
  left : g.L.Link.left l.link ≡ g.L.Link.left l.initial.link;
  later : g.L.Link.faults l.initial.link ≤ g.L.Link.faults l.link;
  same : g.L.Link.name l.link ≡ g.L.Link.name l.initial.link;
}

abbrev pub decreases-loop-rest : goal.decreases-loop-rest
decreases-loop-rest g l = length l.rest
