use Rattle.std.proofs.Common.{◌≡◌, map, take}
use Rattle.idl_types.specs.Definitions.{declared, members_before}
use Rattle.xt_idl.specs.Numbers.{numbers_in, own_numbers, apart_behind, Holds}
use Rattle.xt_idl.proofs.numbers.own_sets.Given as goal

-- The numbers of the members so far are in the sets, and it is known whether these are apart.
abbrev pub invariant-loop-member : goal.invariant-loop-member
invariant-loop-member l =
    let so_far = map own_numbers (take l.member-index l.own) in
    (Holds so_far l.sets) × (l.are_apart ≡ apart_behind (numbers_in (members_before (declared l.known.types.now) l.base)) so_far)
