use Rattle.std.proofs.Common.{sym, ◌∙◌}
use Rattle.packed_json.proofs.OfTapes.Lists.{run_means}
use Rattle.packed_json.proofs.tapes.parts.read_run.Goals as goal

pub returns : goal.returns
returns c = run_means c.args.bound c.args.prim c.args.part.now c.in_ok-own.own c.in_ok-own.ensures (sym c.is_past.ensures ∙ c.if-is_past.false)
