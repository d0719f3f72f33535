-- What the handles hold may go to another thread.
use denote.Param.Send.{IsSend, sendable}
use Rattle.std.proofs.Crossing.{crosses}
use Rattle.std.proofs.MapsCrossing as maps
use Rattle.type_trees.proofs.types.XType.TheLaws.TheKnot as knot
use Rattle.object_formats.proofs.objects.TypeIdentifier.TheLaws.TheKnot as identifier_knot
use Rattle.try_construct.proofs.guides.Guide.TheLaws.TheKnot as guide_knot
use Rattle.packed_json.proofs.plan.Plan.TheLaws.TheKnot as plan_knot
use Rattle.idl_types.proofs.uses.Used.TheLaws.TheKnot as used_knot
use Rattle.xt_lists.specs.contracts.texts.Text as Text
use Rattle.type_trees.specs.contracts.types.HashId as HashId
use Rattle.type_trees.specs.contracts.types.EnumType as EnumType
use Rattle.type_trees.specs.contracts.types.MaskType as MaskType
use Rattle.idl_types.specs.contracts.declarations.UsedMember as UsedMember
use Rattle.idl_types.specs.contracts.declarations.UsedCase as UsedCase
use Rattle.idl_types.specs.contracts.declarations.StructDefinition as StructDefinition
use Rattle.idl_types.specs.contracts.declarations.UnionDefinition as UnionDefinition
use Rattle.idl_types.specs.contracts.declarations.Definition as Definition
use Rattle.idl_types.specs.contracts.declarations.Declaration as Declaration
use Rattle.idl_types.specs.contracts.kept.Declarations as Declarations
use Rattle.object_formats.specs.contracts.objects.ObjectLiteral as Literal
use Rattle.object_formats.specs.contracts.objects.ObjectFlag as Flag
use Rattle.object_formats.specs.contracts.objects.ObjectMember as Member
use Rattle.object_formats.specs.contracts.objects.ObjectCase as Case
use Rattle.object_formats.specs.contracts.objects.TypeObject as Object
use Rattle.type_object.specs.contracts.entry.Entry as Entry
use Rattle.type_object.specs.contracts.pool.Pool as Pool
use Rattle.tool_types.specs.contracts.declaring.Declared as Declared
use Rattle.xt_calls.specs.contracts.readers.Reader as Reader
use Rattle.xt_calls.specs.contracts.types.Types as Types

pub reader_send : IsSend Reader.the_row
reader_send = search (knot.crosses, plan_knot.crosses, guide_knot.crosses, maps.crosses, crosses, sendable) depth 60 fits 20000

-- ---- a pool, part by part, since a search that goes down through all of them runs out of steps

literal_send : IsSend Literal.the_row
literal_send = search (crosses, sendable) depth 60 fits 20000

flag_send : IsSend Flag.the_row
flag_send = search (crosses, sendable) depth 60 fits 20000

member_send : IsSend Member.the_row
member_send = search (identifier_knot.crosses, crosses, sendable) depth 60 fits 20000

case_send : IsSend Case.the_row
case_send = search (identifier_knot.crosses, crosses, sendable) depth 60 fits 20000

object_send : IsSend (Object.the_field).row
object_send = search (identifier_knot.crosses, literal_send, flag_send, member_send, case_send, crosses, sendable) depth 60 fits 20000

text_send : IsSend (Text.the_field).row
text_send = search (crosses, sendable) depth 60 fits 20000

entry_send : IsSend (Entry.the_field).row
entry_send = let text = text_send in let object = object_send in search sendable depth 20

id_send : IsSend (HashId.the_field).row
id_send = search (crosses, sendable) depth 60 fits 20000

pool_send : IsSend (Pool.the_field).row
pool_send = search (entry_send, id_send, crosses, sendable) depth 60 fits 20000

-- ---- types, with what they declare

enumeration_send : IsSend (EnumType.the_field).row
enumeration_send = search (knot.crosses, crosses, sendable) depth 60 fits 20000

bitmask_send : IsSend (MaskType.the_field).row
bitmask_send = search (knot.crosses, crosses, sendable) depth 60 fits 20000

used_member_send : IsSend UsedMember.the_row
used_member_send = search (used_knot.crosses, crosses, sendable) depth 60 fits 20000

used_case_send : IsSend UsedCase.the_row
used_case_send = search (used_knot.crosses, crosses, sendable) depth 60 fits 20000

structure_send : IsSend (StructDefinition.the_field).row
structure_send = search (used_member_send, crosses, sendable) depth 60 fits 20000

union_send : IsSend (UnionDefinition.the_field).row
union_send = search (used_knot.crosses, used_case_send, crosses, sendable) depth 60 fits 20000

definition_send : IsSend (Definition.the_field).row
definition_send = search (used_knot.crosses, enumeration_send, bitmask_send, structure_send, union_send, crosses, sendable) depth 60 fits 20000

declaration_send : IsSend Declaration.the_row
declaration_send = search (definition_send, text_send, crosses, sendable) depth 60 fits 20000

declarations_send : IsSend (Declarations.the_field).row
declarations_send = search (declaration_send, crosses, sendable) depth 60 fits 20000

declared_send : IsSend (Declared.the_field).row
declared_send = search (declarations_send, id_send, text_send, crosses, sendable) depth 60 fits 20000

pub types_send : IsSend Types.the_row
types_send = search (declared_send, pool_send, crosses, sendable) depth 60 fits 20000
