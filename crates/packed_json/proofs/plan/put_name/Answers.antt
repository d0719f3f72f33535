use Rattle.std.proofs.Common.{◌∙◌, sym, ap}
use Rattle.json_values.specs.Names.{name_text}
use Rattle.packed_json.specs.Plans.{entries_by, put_if}
use Rattle.packed_json.proofs.Orders.{entries_insert}
use Rattle.packed_json.proofs.plan.put_name.Goals as goal

pub returns-in-Ok-None : goal.returns-in-Ok-None
returns-in-Ok-None c = λ there f.
    let before = c.args.order.now.entries in
    let new = sym c.in-Ok-None.ensures.old ∙ c.in-Ok-None.field-0-is in
    ap (entries_by there f) c.in-Ok-None.ensures.entries ∙ entries_insert there f before c.octets.result c.args.at c.insert.ensures.was_ordered new ∙ ap (λ k. put_if (there c.args.at) k (f c.args.at) (entries_by there f before)) (c.octets.ensures ∙ sym (ap name_text c.in-Full.is))
