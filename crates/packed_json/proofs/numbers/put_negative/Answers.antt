use Rattle.std.proofs.Common.{to_z-of_z}
use Rattle.packed_json.proofs.Wholes.{negative_added}
use Rattle.packed_json.proofs.numbers.put_negative.Goals as goal

pub returns : goal.returns
returns s c =
    let size = rw (to_z-of_z c.ranges.number) at c.unsigned_abs.ensures.value in
    negative_added c.args.is_later c.args.number c.unsigned_abs.result (s.S.Sink.held c.args.out.now) (s.S.Sink.held c.add_behind_comma.new.out) (s.S.Sink.held c.put_digits.new.out) c.requires size c.in_ok-add_behind_comma.ensures c.in_ok-put_digits.ensures
