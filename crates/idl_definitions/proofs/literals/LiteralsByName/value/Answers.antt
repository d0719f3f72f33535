use Rattle.std.proofs.Common.{Some, rules, arith, sym, ap, ◌∙◌}
use Rattle.idl_definitions.proofs.LiteralNames.{at_none, never_module, within, value_there}
use Rattle.idl_definitions.proofs.literals.LiteralsByName.value.Goals as goal

pub bounds-self-inside-place : goal.bounds-self-inside-place
bounds-self-inside-place c =
    within c.args.name.now c.self.inside.literals.now c.self.inside.places c.in-Some-Type.place c.self.invariant (sym c.get.ensures ∙ c.in-Some-Type.is ∙ ap Some c.in-Some-Type.field-0-is)

pub offset_bounds-self-inside-place : goal.offset_bounds-self-inside-place
offset_bounds-self-inside-place c =
    let below = within c.args.name.now c.self.inside.literals.now c.self.inside.places c.in-Some-Type.place c.self.invariant (sym c.get.ensures ∙ c.in-Some-Type.is ∙ ap Some c.in-Some-Type.field-0-is) in
    omega arith

pub returns-in-Some-Type : goal.returns-in-Some-Type
returns-in-Some-Type c =
    let value = value_there c.args.name.now c.self.inside.literals.now c.self.inside.places c.in-Some-Type.place c.index-self-place.result c.self.invariant (sym c.get.ensures ∙ c.in-Some-Type.is ∙ ap Some c.in-Some-Type.field-0-is) in
    search (rules, value)

pub returns-in-Some-Module : goal.returns-in-Some-Module
returns-in-Some-Module c =
    absurd (never_module c.args.name.now c.self.inside.literals.now c.self.inside.places c.in-Some-Module.field-0-0 c.self.invariant (sym c.get.ensures ∙ c.in-Some-Module.is ∙ ap Some c.in-Some-Module.field-0-is))

pub returns-in-None : goal.returns-in-None
returns-in-None c =
    let none = at_none c.args.name.now c.self.inside.literals.now c.self.inside.places c.self.invariant (sym c.get.ensures ∙ c.in-None.is) in
    search (rules, none)
