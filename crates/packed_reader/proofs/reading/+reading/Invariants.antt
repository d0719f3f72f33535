use Rattle.std.proofs.Common.{◌≡◌, ◌-◌, true, false, length, drop, map}
use Rattle.type_trees.specs.Bridge.{type_shape, members_shape}
use Rattle.xcdr_model.specs.Premises.{sound_members}
use Rattle.xcdr_model.specs.Projection.{whole_structure}
use Rattle.xcdr_model.specs.Reading.{each_at}
use Rattle.xcdr_model.specs.Xcdr2Reading.{done}
use Rattle.packed_reader.specs.View.{packed_val, packed_slot}
use Rattle.packed_reader.specs.Reads.{read_in, members_in}
use Rattle.packed_reader.specs.Spots.{spot_of}
use Rattle.packed_reader.proofs.Taken.{Taken}
use Rattle.packed_reader.proofs.ListSteps.{items_left}
use Rattle.packed_reader.proofs.MemberSteps.{members_left}
use Rattle.packed_reader.proofs.PieceSteps.{PiecesLeft, pieces_read}
use Rattle.packed_reader.proofs.reading.+reading.Given as goal

abbrev pub invariant-read_items-loop-turn : goal.invariant-read_items-loop-turn
invariant-read_items-loop-turn l =
    let t = type_shape l.ty in
    record {
      many : length l.values ≡ l._turn;
      left : items_left l.rep l.order t (l.count - l._turn) (map packed_val l.values) (spot_of l.left) ≡ each_at l.count (λ s. read_in l.rep l.order t s) (spot_of l.fn.ahead);
    }

abbrev pub invariant-read_members-loop-at : goal.invariant-read_members-loop-at
invariant-read_members-loop-at l =
    let all = members_shape l.members in
    let rest = members_shape (drop l.at l.members) in
    let ss = map packed_slot l.slots in
    record {
      taken : Taken all rest ss;
      left : members_left l.rep l.order l.cut all rest ss (spot_of l.left) ≡ done (λ ps. whole_structure all ps false) (members_in l.rep l.order l.cut all (spot_of l.fn.ahead));
      sound : sound_members rest ≡ true;
    }

abbrev pub invariant-read_pieces-loop-at : goal.invariant-read_pieces-loop-at
invariant-read_pieces-loop-at l =
    let all = members_shape l.members in
    let rest = members_shape (drop l.at l.members) in
    let ss = map packed_slot l.slots in
    record {
      taken : Taken all rest ss;
      left : PiecesLeft l.order all rest ss (pieces_read l.order all (spot_of l.fn.ahead)) (spot_of l.left);
      sound : sound_members rest ≡ true;
    }
