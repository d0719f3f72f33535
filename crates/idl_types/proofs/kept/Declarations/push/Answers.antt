use Rattle.idl_types.proofs.KeptMore.{kept_pushed}
use Rattle.idl_types.proofs.kept.Declarations.push.Goals as goal

pub invariant_of-self : goal.invariant_of-self
invariant_of-self c = kept_pushed c.push.result c.self.inside.items c.push.new.self c.args.declaration c.push.ensures.ok c.push.ensures.err c.self.invariant (rw (← c.self.view_is) at c.requires.fits) (rw (← c.self.view_is) at c.requires.valid)
