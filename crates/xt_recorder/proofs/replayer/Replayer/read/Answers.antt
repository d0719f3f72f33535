use Rattle.std.proofs.Common.{sym, ap}
use Rattle.type_trees.specs.Bridge.{type_shape}
use Rattle.settled_parts.specs.Settling.{outcome_val}
use Rattle.xt_recorder.specs.Replays.{sample_answer}
use Rattle.xt_recorder.proofs.SampleSays.{says, faults}
use Rattle.xt_recorder.proofs.replayer.Replayer.read.Goals as goal

pub returns-in-Ok-clause-ok : goal.returns-in-Ok-clause-ok
returns-in-Ok-clause-ok c = ap sample_answer (sym (says outcome_val c.args.rep (type_shape c.args.self.now.reader) c.args.payload.now c.in-Ok.outcome c.new-cursor.ensures c.in-Ok.ensures.value))

pub returns-in-Err-Malformed-clause-ok : goal.returns-in-Err-Malformed-clause-ok
returns-in-Err-Malformed-clause-ok c = ap sample_answer (sym (faults outcome_val c.args.rep (type_shape c.args.self.now.reader) c.args.payload.now c.in-Err-Malformed.at c.in-Err-Malformed.why c.new-cursor.ensures (rw c.in-Err-Malformed.field-0-is at c.in-Err-Malformed.ensures.value)))
