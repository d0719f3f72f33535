-- What an entry of a cache's map holds (this profile's own).
use Rattle.std.specs.Prelude.{ℕ, List}
use Rattle.key_instances.specs.declared.entry.Entry.{Entry}

abbrev pub held : {V : Type 0} → List ℕ × Entry V → List ℕ × List V
held e = (e.0, e.1.values.items)
