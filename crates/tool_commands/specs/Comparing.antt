-- What `compare` still has to write, record after record (this profile's own).
use Rattle.std.specs.Prelude.{ℕ, Bool, List, [], ◌++◌, Option, Some, None, Result, Ok, Err}
use Rattle.std.specs.Option.{option_map}
use Rattle.xt_shapes.specs.declared.leaves.Rep.{Rep}
use Rattle.xcdr_model.specs.declared.verdict.Policy.{Policy}
use Rattle.tool_runs.specs.declared.output.stop.Stop.{Stop}
use Rattle.tool_runs.specs.output.Outputs.{Output}
use Rattle.tool_types.specs.Types.{Declared}
use Rattle.tool_verdicts.specs.Versions as spec
use Rattle.tool_verdicts.specs.Versions.{Finding, between, behind, findings, telling, versions}
use Rattle.tool_verdicts.specs.Reports.{version_view}
use Rattle.tool_verdicts.specs.declared.judging.Terms.{Terms}
use Rattle.tool_verdicts.specs.declared.versions.progress.Progress.{Progress}

-- behind the last version that there was, if there was one
abbrev pub behind_last : Policy → Rep → Option spec.Version → List spec.Version → List Finding
behind_last q r None vs = findings q r vs
behind_last q r (Some v) vs = behind q r v vs

-- what a version comes to behind it
abbrev pub next_findings : Policy → Rep → Option spec.Version → spec.Version → List Finding
next_findings q r None w = []
next_findings q r (Some v) w = between q r v w

-- what is still to be written for the records from this number on
abbrev pub remaining : Policy → Rep → Progress → ℕ → List Declared → Output
remaining q r p k ds = telling p.broke (behind_last q r (option_map version_view p.older) (versions k ds))

-- the same under these terms
abbrev pub remaining_under : Terms → Progress → ℕ → List Declared → Output
remaining_under t p k ds = remaining t.policy t.rep p k ds

-- behind a record
abbrev pub remaining_on : Terms → ℕ → List Declared → Result Progress Stop → Option Output
remaining_on t k ds (Ok p) = Some (remaining_under t p k ds)
remaining_on t k ds (Err stop) = None

-- what is still to be written from a version on, with these findings behind it
abbrev pub telling_from : Terms → Progress → spec.Version → List Finding → Output
telling_from t p w rest = telling p.broke (next_findings t.policy t.rep (option_map version_view p.older) w ++ rest)

-- what is still to be written behind a version, by whether something breaks
abbrev pub telling_on : List Finding → Result Bool Stop → Option Output
telling_on rest (Ok broke) = Some (telling broke rest)
telling_on rest (Err stop) = None
