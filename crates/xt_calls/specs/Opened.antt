-- What types that were opened stand for (this profile's own).
use Rattle.std.specs.Prelude.{List, map}
use Rattle.type_object.specs.Pools.{Texts}
use Rattle.tool_types.specs.Types.{Declared}
use Rattle.tool_types.specs.Declaring.{declared_view}
use Rattle.xt_calls.specs.declared.types.Types.{Types}

-- what the records of their bundle declare, and the pool of the objects
abbrev pub front : Types → List Declared × Texts
front types = (map declared_view types.declared, types.pool)
