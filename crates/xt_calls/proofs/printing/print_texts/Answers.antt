use Rattle.std.proofs.Common.{◌∙◌}
use Rattle.std.specs.Prelude.{map}
use Rattle.tool_types.specs.Declaring.{declared_view}
use Rattle.xt_calls.specs.Calls.{texts_in}
use Rattle.xt_calls.proofs.Texts.{appended_on, texts_end}
use Rattle.xt_calls.proofs.printing.print_texts.Goals as goal

pub loop-declared-preserved : goal.loop-declared-preserved
loop-declared-preserved c =
    let records = c.args.records.now in
    let appended = c.in_ok-append.ensures.ok in
    appended_on records c.loop-declared.declared-index c.declared-item.result c.loop-declared.text c.octets.result.now c.append.new.self (texts_in (map declared_view records)) c.loop-declared-test.true c.declared-item.is (c.octets.ensures ∙ c.in_ok-more.ensures) appended c.loop-declared.invariant

pub returns : goal.returns
returns c = texts_end c.args.records.now c.loop-declared.declared-index c.loop-declared.text (texts_in (map declared_view c.args.records.now)) c.loop-declared-test.false c.loop-declared.invariant
