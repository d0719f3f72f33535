use Rattle.std.proofs.Common.{refl, [], tests, arith, append-nil, sym, ◌≤◌, length}
use Rattle.std.proofs.lemmas.Result.{err_from_is_err_and}
use Rattle.xt_wire.proofs.OfWriter.Puts.{puts_nothing}
use Rattle.value_writer.proofs.block.make_room.Goals as goal

pub returns-then-has_room : goal.returns-then-has_room
returns-then-has_room g c =
    let room : length c.args.block.now ≤ 496 = grind (arith, tests) in
    record { done = []; rest = c.args.block.now; parts = refl; put = puts_nothing c.args.out.now; left = (refl, room) }

pub returns-in_err-put : goal.returns-in_err-put
returns-in_err-put g c =
    let p = err_from_is_err_and c.from_residual.result c.from_residual.ensures.1 in
    record {
      done = c.args.block.now;
      rest = [];
      parts = sym (append-nil c.args.block.now);
      put = rw (p.1, ← c.octets.ensures) c.in_err-put.ensures;
      left = rw p.1 tt;
    }

pub returns : goal.returns
returns g c = record {
  done = c.args.block.now;
  rest = [];
  parts = sym (append-nil c.args.block.now);
  put = rw (← c.octets.ensures) c.in_ok-put.ensures;
  left = (c.clear.ensures, omega arith);
}
