-- How a run that neither the outside nor want of memory stopped ends, as the program's status (this profile's own).
use Rattle.tool_runs.specs.declared.output.ending.Cause.{Cause}
use Rattle.tool_runs.specs.declared.output.ending.Cause.TheVariants as causes
use Rattle.tool_runs.specs.declared.output.ending.Ending.{Ending}
use Rattle.tool_runs.specs.declared.output.ending.Ending.TheVariants as endings
use Rattle.tool_runs.specs.declared.output.status.Status.{Status}
use Rattle.tool_runs.specs.declared.output.status.Status.TheVariants.{Done, No, Words, Bundle, Types, NoName, NetFault, Json, Fetch, Limit}

abbrev pub status_of_cause : Cause → Status
status_of_cause causes.No = No
status_of_cause causes.Words = Words
status_of_cause causes.Bundle = Bundle
status_of_cause causes.Types = Types
status_of_cause causes.NoName = NoName
status_of_cause causes.NetFault = NetFault
status_of_cause causes.Json = Json
status_of_cause causes.Fetch = Fetch
status_of_cause causes.Limit = Limit

abbrev pub status_of : Ending → Status
status_of endings.Done = Done
status_of (endings.Refused cause) = status_of_cause cause
