use Rattle.tool_samples.proofs.instances.putting.put_outcome.Goals as goal

pub returns-in-Sample-clause-put : goal.returns-in-Sample-clause-put
returns-in-Sample-clause-put c rep = rw c.in-Sample.is (c.put_value.ensures.put rep)
