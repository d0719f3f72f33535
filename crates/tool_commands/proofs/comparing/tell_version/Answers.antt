use Rattle.std.proofs.Common.{map, ap, ◌∙◌}
use Rattle.std.specs.Prelude.{◌||◌}
use Rattle.std.specs.Option.{option_map}
use Rattle.tool_runs.specs.declared.output.ending.Style.TheVariants.{Lines}
use Rattle.tool_verdicts.specs.Versions.{any_breaks, between, finding_line, telling}
use Rattle.tool_verdicts.specs.Reports.{version_view}
use Rattle.tool_commands.proofs.Told.{lines_are, version_stops, version_told}
use Rattle.tool_commands.proofs.comparing.tell_version.Goals as goal

pub returns-clause-steps : goal.returns-clause-steps
returns-clause-steps g c rest =
    let q = c.args.terms.now.policy in
    let r = c.args.terms.now.rep in
    let p = c.args.progress.now in
    let v = version_view c.in-Some.older in
    let w = version_view c.args.newer.now in
    let fs = between q r v w in
    let text = c.octets.ensures ∙ c.in-Ok.ensures.text ∙ lines_are fs in
    version_told q r p.broke c.either.result c.in-Ok.report.breaks v w (option_map version_view p.older) rest (g.K.Sink.taken c.args.sink.now) (g.K.Sink.taken c.say_pieces.new.sink) (ap (option_map version_view) c.in-Some.is) c.in-Ok.ensures.breaks c.either.ensures
    (c.in_ok-say_pieces.ensures.steps Lines (map finding_line fs) (telling (p.broke || any_breaks fs) rest) text)

pub returns-in_err-say_pieces-clause-steps : goal.returns-in_err-say_pieces-clause-steps
returns-in_err-say_pieces-clause-steps g c rest =
    let q = c.args.terms.now.policy in
    let r = c.args.terms.now.rep in
    let p = c.args.progress.now in
    let v = version_view c.in-Some.older in
    let w = version_view c.args.newer.now in
    let fs = between q r v w in
    let text = c.octets.ensures ∙ c.in-Ok.ensures.text ∙ lines_are fs in
    version_stops q r p.broke v w (option_map version_view p.older) rest c.in_err-say_pieces.field-0.0 c.from_residual.result (g.K.Sink.taken c.args.sink.now) (g.K.Sink.taken c.say_pieces.new.sink) (ap (option_map version_view) c.in-Some.is) c.from_residual.ensures.1
    (c.in_err-say_pieces.ensures.steps Lines (map finding_line fs) (telling (p.broke || any_breaks fs) rest) text)
