use Rattle.std.proofs.Common.{sym, subst}
use Rattle.xt_shapes.specs.declared.leaves.Primitive.{Primitive}
use Rattle.json_values.specs.Read.{prim_of}
use Rattle.packed_json.specs.Tapes.{ReadsNumber}
use Rattle.packed_json.proofs.OfTapes.Leaves.{prims_whole, whole_kind}
use Rattle.packed_json.proofs.tapes.leaves.read_number.Goals as goal

pub returns-in-Boolean : goal.returns-in-Boolean
returns-in-Boolean c = subst (λ (p : Primitive). ReadsNumber (prim_of p) c.args.part.now c.read_boolean.result) (sym c.in-Boolean.is) c.read_boolean.ensures

pub returns-in-Float32 : goal.returns-in-Float32
returns-in-Float32 c = subst (λ (p : Primitive). ReadsNumber (prim_of p) c.args.part.now c.read_single.result) (sym c.in-Float32.is) c.read_single.ensures

pub returns-in-Float64 : goal.returns-in-Float64
returns-in-Float64 c = subst (λ (p : Primitive). ReadsNumber (prim_of p) c.args.part.now c.read_double.result) (sym c.in-Float64.is) c.read_double.ensures

pub returns-in-Byte : goal.returns-in-Byte
returns-in-Byte c = prims_whole c.args.prim c.args.part.now c.read_whole.result (whole_kind c.args.prim c.in-Byte.is) c.read_whole.ensures
