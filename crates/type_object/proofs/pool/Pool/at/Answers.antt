use Rattle.type_object.proofs.Founds.{entry_read}
use Rattle.std.proofs.Common.{ap, ◌∙◌}
use Rattle.object_formats.specs.Tables.{object_of}
use Rattle.type_object.proofs.Pooled.{entry_own}
use Rattle.type_object.proofs.pool.Pool.at.Goals as goal

pub returns-clause-own : goal.returns-clause-own
returns-clause-own c = entry_own c.self.inside.entries.entries c.args.index c.in-Some.id.now c.in-Some.entry.now c.octets.result.now c.self.invariant c.in-Some.ensures.entry c.octets.ensures

pub returns-clause-read : goal.returns-clause-read
returns-clause-read c = ap object_of c.octets.ensures ∙ entry_read c.in-Some.entry.now
