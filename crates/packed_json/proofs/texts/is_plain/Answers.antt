use Rattle.packed_json.proofs.Plain.{plain_next}
use Rattle.packed_json.proofs.texts.is_plain.Goals as goal

pub loop-octet-preserved : goal.loop-octet-preserved
loop-octet-preserved c = λ rest. c.loop-octet.invariant (plain_next c.args.octets.now c.loop-octet.octet-index c.loop-octet-test.true c.if-octet-lt32.false c.if-octet-eq34.false c.if-octet-eq92.false rest)
