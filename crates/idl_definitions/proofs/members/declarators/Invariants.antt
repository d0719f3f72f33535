use Rattle.std.proofs.Common.{◌≡◌, ◌-◌}
use Rattle.idl_definitions.specs.Views as view
use Rattle.idl_types.specs.Uses.{whole}
use Rattle.idl_types.specs.Definitions.{members_before}
use Rattle.idl_types.specs.Views.{state}
use Rattle.idl_definitions.specs.Lists.{with_commas, comma_from}
use Rattle.idl_definitions.specs.Members.{another}
use Rattle.idl_definitions.proofs.members.declarators.Given as goal

abbrev pub invariant-loop-turn : goal.invariant-loop-turn
invariant-loop-turn l =
    let ts = (state l.reader).types in
    let seen = view.listed ts (members_before ts l.base) in
    (with_commas (another l.notes l.hashed (whole ts l.initial.used)) (seen l.initial.listed) l.initial.tokens
    ≡ comma_from (another l.notes l.hashed (whole ts l.initial.used)) (l._turn-end - l._turn) (seen l.listed) l.tokens)
    × (whole ts l.used ≡ whole ts l.initial.used)
