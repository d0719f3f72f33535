use Rattle.idl_types.specs.Definitions.{declared}
use Rattle.type_resolve.specs.Views.{seen}
use Rattle.type_resolve.proofs.Places.{prim_made, str_made, sequence_made, array_made, map_made}
use Rattle.type_resolve.proofs.uses.+sides_of.Goals as goal

pub returns-in-Prim : goal.returns-in-Prim
returns-in-Prim t c = prim_made (declared c.args.types.now) c.args.used.now c.in-Prim.prim (seen c.of_prim.result) c.in-Prim.is c.of_prim.ensures

pub returns-in-Str : goal.returns-in-Str
returns-in-Str t c = str_made (declared c.args.types.now) c.args.used.now c.in-Str.bound (seen c.of_string.result) c.in-Str.is c.of_string.ensures

pub returns-in_ok-element-in-Seq : goal.returns-in_ok-element-in-Seq
returns-in_ok-element-in-Seq t c =
    sequence_made (declared c.args.types.now) c.args.used.now c.in-Seq.bound c.in-Seq.tc c.in-Seq.elem c.of_sequence.result (seen c.in_ok-element-in-Seq.element) c.in-Seq.is (rw c.deref.ensures at c.in_ok-element-in-Seq.ensures) c.of_sequence.ensures

pub returns-in_ok-element-in-Array : goal.returns-in_ok-element-in-Array
returns-in_ok-element-in-Array t c =
    array_made (declared c.args.types.now) c.args.used.now c.in-Array.dims c.in-Array.tc c.in-Array.elem c.of_array.result (seen c.in_ok-element-in-Array.element) c.in-Array.is (rw c.deref-in-Array.ensures at c.in_ok-element-in-Array.ensures) c.of_array.ensures

pub returns-in_ok-value-in-Map : goal.returns-in_ok-value-in-Map
returns-in_ok-value-in-Map t c =
    map_made (declared c.args.types.now) c.args.used.now c.in-Map.bound c.in-Map.key_tc c.in-Map.key c.in-Map.tc c.in-Map.value c.of_map.result (seen c.in_ok-key-in-Map.key) (seen c.in_ok-value-in-Map.value) c.in-Map.is
    (rw c.deref-in-Map.ensures at c.in_ok-key-in-Map.ensures) (rw c.deref-in-Map-2.ensures at c.in_ok-value-in-Map.ensures) c.of_map.ensures
