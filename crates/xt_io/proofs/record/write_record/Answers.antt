use Rattle.std.proofs.Common.{List, ℕ, length, subst}
use Rattle.xt_outside.specs.Outside.{AppendsAll, AppendsPrefix}
use Rattle.xt_outside.proofs.Joined.{first_part, second_part, on_err}
use Rattle.xt_io.specs.Records.{head_octets}
use Rattle.xt_io.proofs.record.write_record.Goals as goal

pub returns-in_err-write_whole-clause-prefix : goal.returns-in_err-write_whole-clause-prefix
returns-in_err-write_whole-clause-prefix g c =
    let old = g.K.Sink.taken c.args.sink.now in
    let new = g.K.Sink.taken c.write_whole.new.sink in
    let part : AppendsPrefix old new (head_octets c.args.kind (length c.args.payload.now)) = subst (λ (l : List ℕ). AppendsPrefix old new l) c.head_of-head.ensures c.in_err-write_whole.ensures.prefix in
    on_err c.from_residual.result (first_part old new _ c.args.payload.now part)

pub returns-clause-prefix : goal.returns-clause-prefix
returns-clause-prefix g c =
    let old = g.K.Sink.taken c.args.sink.now in
    let mid = g.K.Sink.taken c.write_whole.new.sink in
    let head : AppendsAll old mid (head_octets c.args.kind (length c.args.payload.now)) = subst (λ (l : List ℕ). AppendsAll old mid l) c.head_of-head.ensures c.in_ok-write_whole.ensures.whole in
    second_part c.write_whole-2.result old mid (g.K.Sink.taken c.write_whole-2.new.sink) _ c.args.payload.now head c.write_whole-2.ensures.prefix
