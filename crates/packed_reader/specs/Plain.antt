-- Types whose values can be packed (this profile's own): those without maps, and those without unions too.
use Rattle.std.specs.Prelude.{Bool, true, false, ◌&&◌}
use Rattle.xt_shapes.specs.Shape.{Shape, prim, str, enumeration, bitmask, sequence, array, map_of, structure, union, Members, no_members, member, Cases, no_cases, one_case}

-- whether values have no map, and no union but where these are taken
abbrev mutual
  pub may_be_packed : Bool → Shape → Bool
  may_be_packed unions (prim p) = true
  may_be_packed unions (str bound) = true
  may_be_packed unions (enumeration e bits ls) = true
  may_be_packed unions (bitmask bits fs) = true
  may_be_packed unions (sequence bound tc t) = may_be_packed unions t
  may_be_packed unions (array dims tc t) = may_be_packed unions t
  may_be_packed unions (map_of bound kc k vc t) = false
  may_be_packed unions (structure e ms) = may_all_be_packed unions ms
  may_be_packed unions (union e key disc cs) = unions && may_each_be_packed unions cs

  pub may_all_be_packed : Bool → Members → Bool
  may_all_be_packed unions no_members = true
  may_all_be_packed unions (member h t ms) = may_be_packed unions t && may_all_be_packed unions ms

  pub may_each_be_packed : Bool → Cases → Bool
  may_each_be_packed unions no_cases = true
  may_each_be_packed unions (one_case h t cs) = may_be_packed unions t && may_each_be_packed unions cs

-- whether samples may be plain
abbrev pub may_be_plain : Shape → Bool
may_be_plain t = may_be_packed true t

-- whether texts may be read from a tape
abbrev pub may_be_taped : Shape → Bool
may_be_taped t = may_be_packed false t
