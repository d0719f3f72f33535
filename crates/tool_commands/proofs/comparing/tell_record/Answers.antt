use Rattle.std.proofs.Common.{◌≡◌, ◌+◌, Bool, ◌∷◌, Some, None, Err, ap, ap₂, ◌∙◌, sym, subst}
use Rattle.std.specs.declared.option.Option.{Option}
use Rattle.idl_types.specs.Definitions as definitions
use Rattle.idl_types.specs.State.{Declared, declared}
use Rattle.tool_runs.specs.declared.output.ending.Style.TheVariants.{Lines}
use Rattle.tool_runs.specs.output.Outputs.{Output}
use Rattle.tool_runs.specs.output.Runs.{Leads, Steps}
use Rattle.tool_types.specs.Declaring.{declared_view}
use Rattle.tool_types.specs.Types.{types}
use Rattle.tool_verdicts.specs.Versions.{versions}
use Rattle.tool_commands.specs.Comparing.{behind_last, remaining, remaining_on}
use Rattle.tool_verdicts.specs.declared.versions.progress.Progress.{Progress}
use Rattle.tool_verdicts.specs.declared.versions.comparing.Version.{Version}
use Rattle.tool_commands.proofs.Told.{hands_on, is_version, record_told}
use Rattle.tool_commands.proofs.comparing.tell_record.Goals as goal

abbrev progress : Option Version → Bool → Progress
progress older broke = record { older = older; broke = broke }

pub tell_version-requires-clause-newer : goal.tell_version-requires-clause-newer
tell_version-requires-clause-newer g c =
    let newer : Version = record { number = c.args.number; types = c.in-Ok.trees; ids = c.as_slice-in-Types.result } in
    is_version c.args.pool.now c.args.declared.now c.in-Types.types c.in-Types.ids newer c.in-Types.is c.requires.good c.requires.back (c.in-Ok.ensures ∙ ap definitions.declared c.as_slice.ensures.same) c.as_slice-in-Types.ensures

pub returns-in_ok-broke-in-Types-clause-steps : goal.returns-in_ok-broke-in-Types-clause-steps
returns-in_ok-broke-in-Types-clause-steps g c rest =
    let q = c.args.terms.now.policy in
    let r = c.args.terms.now.rep in
    let k = c.args.number in
    let ts = declared c.in-Ok.trees in
    let is : declared_view c.args.declared.now ≡ types ts = ap declared_view c.in-Types.is ∙ ap (λ (l : Declared). types l) (sym (c.in-Ok.ensures ∙ ap definitions.declared c.as_slice.ensures.same)) in
    let now : Progress = record { older = Some (record { number = k; types = c.in-Ok.trees; ids = c.as_slice-in-Types.result }); broke = c.in_ok-broke-in-Types.broke } in
    let same : c.followed.result ≡ now = ap₂ progress c.followed.ensures.older c.followed.ensures.broke in
    let old = g.K.Sink.taken c.args.sink.now in
    let new = g.K.Sink.taken c.tell_version.new.sink in
    let lead = subst (λ (o : Output). Leads (Some o) (Some (remaining q r now (k + 1) rest)) old new) (sym (record_told q r c.args.progress k (declared_view c.args.declared.now) ts rest is)) (c.in_ok-broke-in-Types.ensures.steps (behind_last q r (Some (record { number = k; types = ts })) (versions (k + 1) rest))) in
    subst (λ (p : Progress). Leads (Some (remaining q r c.args.progress k (declared_view c.args.declared.now ∷ rest))) (Some (remaining q r p (k + 1) rest)) old new) (sym same) lead

pub returns-in_err-broke-in-Types-clause-steps : goal.returns-in_err-broke-in-Types-clause-steps
returns-in_err-broke-in-Types-clause-steps g c rest =
    let q = c.args.terms.now.policy in
    let r = c.args.terms.now.rep in
    let k = c.args.number in
    let ts = declared c.in-Ok.trees in
    let stop = c.in_err-broke-in-Types.field-0.0 in
    let old = g.K.Sink.taken c.args.sink.now in
    let new = g.K.Sink.taken c.tell_version.new.sink in
    let is : declared_view c.args.declared.now ≡ types ts = ap declared_view c.in-Types.is ∙ ap (λ (l : Declared). types l) (sym (c.in-Ok.ensures ∙ ap definitions.declared c.as_slice.ensures.same)) in
    let first = remaining q r c.args.progress k (declared_view c.args.declared.now ∷ rest) in
    let steps = subst (λ (o : Output). Steps {T = Bool} Lines (Some o) None (Err stop) old new) (sym (record_told q r c.args.progress k (declared_view c.args.declared.now) ts rest is)) (c.in_err-broke-in-Types.ensures.steps (behind_last q r (Some (record { number = k; types = ts })) (versions (k + 1) rest))) in
    hands_on Bool Progress Lines (Some first) None (remaining_on c.args.terms.now (k + 1) rest) stop c.from_residual.result old new c.from_residual.ensures.1 steps
