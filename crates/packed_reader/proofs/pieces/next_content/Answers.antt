use Rattle.std.proofs.Common.{◌≡◌, ◌==◌, ◌-◌, ◌^◌, ◌%◌, false, arith, ne_eqb}
use Rattle.packed_reader.specs.Spots.{spot_of}
use Rattle.packed_reader.proofs.PieceSteps.{piece_is}
use Rattle.packed_reader.proofs.pieces.next_content.Goals as goal

pub returns : goal.returns
returns c =
    let word = c.in_ok-header.header in
    let some : (word % 2 ^ 28 == 2 ^ 28 - 1) ≡ false = ne_eqb (word % 2 ^ 28) (2 ^ 28 - 1) c.if-named-eq268435455.false in
    let named : word % 2 ^ 28 ≡ c.args.id = omega arith in
    piece_is c.args.order c.args.id word c.in_ok-size.size (spot_of c.args.ahead) (spot_of c.in_ok-header.inside) (spot_of c.in_ok-size.begin) (spot_of c.in_ok-content.content) (spot_of c.in_ok-content.behind) c.in_ok-header.ensures.value c.in_ok-size.ensures.size named some c.in_ok-content.ensures c.in_ok-header.ensures.room c.in_ok-header.ensures.later c.in_ok-size.ensures.later
