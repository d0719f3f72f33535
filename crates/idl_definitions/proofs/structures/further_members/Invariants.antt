use Rattle.std.proofs.Common.{◌≡◌, ◌-◌}
use Rattle.idl_definitions.specs.Views as view
use Rattle.idl_types.specs.Definitions.{members_before}
use Rattle.idl_types.specs.Views.{state}
use Rattle.idl_definitions.specs.Lists.{to_brace, braced_from}
use Rattle.idl_definitions.specs.Members.{members_of_type}
use Rattle.idl_definitions.proofs.structures.further_members.Given as goal

abbrev pub invariant-loop-turn : goal.invariant-loop-turn
invariant-loop-turn l =
    let ts = (state l.reader).types in
    let seen = view.listed ts (members_before ts l.base) in
    to_brace (members_of_type (state l.reader) l.hashed) (seen l.initial.listed) l.initial.tokens ≡ braced_from (members_of_type (state l.reader) l.hashed) (l._turn-end - l._turn) (seen l.listed) l.tokens
