-- How the octets of a value are bounded (DDS-XTypes 1.3, 7.4.3.5).
use Rattle.std.specs.Prelude.{Bool, true, false, ◌&&◌}
use Rattle.xt_shapes.specs.declared.leaves.Ext.{Ext}
use Rattle.xt_shapes.specs.declared.leaves.Ext.TheVariants.{Final, Appendable, Mutable}
use Rattle.xt_shapes.specs.Shape.{Shape, prim, str, enumeration, bitmask, sequence, array, map_of, structure, union}
use Rattle.xcdr_model.specs.Xcdr2Reading.{is_primitive}
use Rattle.xt_wire.specs.declared.cursor.frames.Framing.{Framing}
use Rattle.xt_wire.specs.declared.cursor.frames.Framing.TheVariants.{Open, Passed, Filled}

abbrev pub collection_framing : Bool → Framing
collection_framing true = Open
collection_framing false = Filled

abbrev pub ext_framing : Ext → Framing
ext_framing Final = Open
ext_framing Appendable = Passed
ext_framing Mutable = Passed

abbrev pub union_framing : Ext → Framing
union_framing Final = Open
union_framing Appendable = Passed
union_framing Mutable = Open

abbrev pub framing : Shape → Framing
framing (prim p) = Open
framing (str bound) = Open
framing (enumeration e bits ls) = Open
framing (bitmask bits fs) = Open
framing (sequence bound tc t) = collection_framing (is_primitive t)
framing (array dims tc t) = collection_framing (is_primitive t)
framing (map_of bound kc k vc t) = collection_framing (is_primitive k && is_primitive t)
framing (structure e ms) = ext_framing e
framing (union e key disc cs) = union_framing e
