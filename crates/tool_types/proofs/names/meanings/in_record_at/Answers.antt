use Rattle.std.proofs.Common.{sym, ap, ◌∙◌}
use Rattle.std.specs.Option.{option_map, option_and_then}
use Rattle.tool_types.specs.Declaring.{declared_view}
use Rattle.tool_types.specs.names.Names as spec
use Rattle.tool_types.proofs.OfNames.Soundness.{good_at, record_at}
use Rattle.tool_types.proofs.names.meanings.in_record_at.Goals as goal

pub in_record-requires : goal.in_record-requires
in_record-requires c = good_at c.args.records.now c.args.number c.in-Some.declared.now c.requires (sym c.in-Some.ensures)

pub returns-in-Some-clause-meaning : goal.returns-in-Some-clause-meaning
returns-in-Some-clause-meaning c = c.in_record.ensures.meaning ∙ sym (ap (option_and_then (spec.in_record c.args.name.now)) (record_at c.args.records.now c.args.number ∙ ap (option_map declared_view) (sym c.in-Some.ensures)))

pub returns-in-None-clause-meaning : goal.returns-in-None-clause-meaning
returns-in-None-clause-meaning c = sym (ap (option_and_then (spec.in_record c.args.name.now)) (record_at c.args.records.now c.args.number ∙ ap (option_map declared_view) (sym c.in-None.ensures)))
