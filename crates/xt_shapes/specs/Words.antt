-- How a step from a type or value to a part of it is printed (this profile's own).
use Rattle.std.specs.Prelude.{ℕ, List, codes}
use Rattle.std.specs.Fmt.{decimal}
use Rattle.xt_shapes.specs.declared.leaves.Step.{Step}
use Rattle.xt_shapes.specs.declared.leaves.Step.TheVariants.{Member, Element, Key, Entry, Disc}

abbrev pub step_text : Step → List ℕ
step_text (Member id) = decimal id
step_text Element = codes "[]"
step_text Key = codes "key"
step_text Entry = codes "entry"
step_text Disc = codes "disc"
