-- What the entries of a pool stand for: identifiers and texts (this profile's own).
use Rattle.std.specs.Prelude.{ℕ, List}
use Rattle.type_trees.specs.declared.types.HashId.{HashId}
use Rattle.type_object.specs.declared.entry.Entry.{Entry}

abbrev pub held : HashId × Entry → HashId × List ℕ
held e = (e.0, e.1.octets)
