use Rattle.std.proofs.Common.{◌∙◌, ◌+◌, sym, ap, take}
use Rattle.idl_types.specs.declared.declarations.Definition.{Definition}
use Rattle.idl_types.specs.Definitions.{declared, defined, members_on, members_before}
use Rattle.idl_definitions.specs.Structures.{following}
use Rattle.idl_definitions.proofs.MakeSteps.{last_follows, none_own}
use Rattle.idl_definitions.proofs.structures.+following_at.Goals as goal

pub returns-in-len1-up : goal.returns-in-len1-up
returns-in-len1-up t c =
    let ts = declared (take c.args.at c.args.types.now) in
    let name = c.in-Some.declaration.now.name in
    let there = (rw c.in-Some.is at c.declaration_at.ensures).1 in
    let struct = there ∙ ap (λ (x : Definition). defined ts name x) c.in-Struct.is in
    let last = last_follows ts (members_before ts c.in-Struct.kind.base) c.in-Struct.kind.members c.last-item.result (rw c.as_slice.ensures at c.in-len1-up.len_at_least) in
    ap (λ n. n + 1) (c.from.ensures ∙ ap (λ m. m.id) (rw c.as_slice.ensures at c.last-item.is)) ∙ sym last ∙ sym (ap (λ x. following (members_on x)) struct)

pub returns-in-Some-base : goal.returns-in-Some-base
returns-in-Some-base t c =
    let ts = declared (take c.args.at c.args.types.now) in
    let name = c.in-Some.declaration.now.name in
    let there = (rw c.in-Some.is at c.declaration_at.ensures).1 in
    let struct = there ∙ ap (λ (x : Definition). defined ts name x) c.in-Struct.is in
    let none = none_own ts (members_before ts c.in-Struct.kind.base) c.in-Struct.kind.members (rw c.as_slice.ensures at c.in-empty.len_below) in
    c.following_at.ensures ∙ sym (none ∙ ap (λ b. following (members_before ts b)) c.in-Some-base.is) ∙ sym (ap (λ x. following (members_on x)) struct)
