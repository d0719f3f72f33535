-- What the program's values stand for (this profile's own).
use Rattle.std.specs.Prelude.{map}
use Rattle.idl_types.specs.declared.names.Scoped.{Scoped}
use Rattle.idl_types.specs.declared.reader.Reader.{Reader}
use Rattle.idl_types.specs.State.{State}
use Rattle.idl_types.specs.Definitions.{declared}
use Rattle.idl_types.specs.Names.{ScopedName}

abbrev pub scoped_name : Scoped → ScopedName
scoped_name n = record { rooted = n.rooted; path = map (λ s. s.now) n.path; last = n.last.now }

abbrev pub state : Reader → State
state r = record { types = declared r.types; names = r.scopes.names; opened = r.scopes.opened; fresh = r.fresh }
