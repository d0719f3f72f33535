use Rattle.type_resolve.proofs.defining.objects_of.Goals as goal

pub returns-clause-halted : goal.returns-clause-halted
returns-clause-halted c = rw (c.new-making.ensures, c.replace.ensures.value, ← c.take.ensures.taken) at c.add_type-ids.ensures.halted
