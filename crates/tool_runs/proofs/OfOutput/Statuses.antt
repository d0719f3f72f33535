-- Which statuses a run's ending has.
use Rattle.std.proofs.Common.{◌≡◌, refl}
use Rattle.tool_runs.specs.declared.output.ending.Cause.TheVariants as causes
use Rattle.tool_runs.specs.declared.output.ending.Ending.{Ending}
use Rattle.tool_runs.specs.declared.output.ending.Ending.TheVariants as endings
use Rattle.tool_runs.specs.declared.output.status.Status.TheVariants as statuses
use Rattle.tool_runs.specs.output.Statuses.{status_of}

-- only a run that is done has this status
pub done_ends : (ending : Ending) → status_of ending ≡ statuses.Done → ending ≡ endings.Done
done_ends endings.Done e = refl
done_ends (endings.Refused causes.No) e = absurd cc
done_ends (endings.Refused causes.Words) e = absurd cc
done_ends (endings.Refused causes.Bundle) e = absurd cc
done_ends (endings.Refused causes.Types) e = absurd cc
done_ends (endings.Refused causes.NoName) e = absurd cc
done_ends (endings.Refused causes.NetFault) e = absurd cc
done_ends (endings.Refused causes.Json) e = absurd cc
done_ends (endings.Refused causes.Fetch) e = absurd cc
done_ends (endings.Refused causes.Limit) e = absurd cc

pub no_read_fault : (ending : Ending) → status_of ending ≡ statuses.ReadFault → ⊥
no_read_fault endings.Done e = cc
no_read_fault (endings.Refused causes.No) e = cc
no_read_fault (endings.Refused causes.Words) e = cc
no_read_fault (endings.Refused causes.Bundle) e = cc
no_read_fault (endings.Refused causes.Types) e = cc
no_read_fault (endings.Refused causes.NoName) e = cc
no_read_fault (endings.Refused causes.NetFault) e = cc
no_read_fault (endings.Refused causes.Json) e = cc
no_read_fault (endings.Refused causes.Fetch) e = cc
no_read_fault (endings.Refused causes.Limit) e = cc

pub no_write_fault : (ending : Ending) → status_of ending ≡ statuses.WriteFault → ⊥
no_write_fault endings.Done e = cc
no_write_fault (endings.Refused causes.No) e = cc
no_write_fault (endings.Refused causes.Words) e = cc
no_write_fault (endings.Refused causes.Bundle) e = cc
no_write_fault (endings.Refused causes.Types) e = cc
no_write_fault (endings.Refused causes.NoName) e = cc
no_write_fault (endings.Refused causes.NetFault) e = cc
no_write_fault (endings.Refused causes.Json) e = cc
no_write_fault (endings.Refused causes.Fetch) e = cc
no_write_fault (endings.Refused causes.Limit) e = cc
