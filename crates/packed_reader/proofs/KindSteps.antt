-- Structures by their extensibility.
use Rattle.std.proofs.Common.{◌≡◌, refl, sym, ap, ◌∙◌, true, false, ◌&&◌, List}
use Rattle.std.proofs.lemmas.Bool.{and_parts}
use Rattle.xt_shapes.specs.declared.leaves.Ext.{Ext}
use Rattle.xt_shapes.specs.declared.leaves.Ext.TheVariants.{Final, Appendable, Mutable}
use Rattle.xt_shapes.specs.declared.leaves.Order.{Order}
use Rattle.xt_shapes.specs.declared.leaves.Rep.{Rep}
use Rattle.xt_shapes.specs.declared.leaves.Rep.TheVariants.{Xcdr1, Xcdr2}
use Rattle.xt_shapes.specs.Shape.{Members, structure}
use Rattle.xt_shapes.specs.Vals.{Val}
use Rattle.type_trees.specs.declared.types.Member.{Member}
use Rattle.type_trees.specs.declared.types.StructType.{StructType, out-StructType}
use Rattle.type_trees.specs.View.{struct_tree}
use Rattle.type_trees.specs.Bridge.{shape, members_shape}
use Rattle.type_trees.proofs.Views.{struct_tree_is}
use Rattle.xcdr_model.specs.Premises.{sound, sound_members, distinct_members, some_member}
use Rattle.xcdr_model.specs.Projection.{whole_structure}
use Rattle.xcdr_model.specs.Reading.{Spot, ◌>>=◌, passing}
use Rattle.xcdr_model.specs.Xcdr1Reading.{read1}
use Rattle.xcdr_model.specs.Xcdr2Reading.{read, read_members, members_at, read_named, done}
use Rattle.packed_reader.specs.Reads.{Reads, ReadsMembers}
use Rattle.packed_reader.specs.Pieces.{ReadsPieces}
use Rattle.packed_reader.specs.Spots.{IsRegion}

pub struct_sound : (k : StructType) (ms : List Member) → (out-StructType k).members ≡ ms → sound (shape (struct_tree k)) ≡ true → (distinct_members (members_shape ms) ≡ true) × (sound_members (members_shape ms) ≡ true)
struct_sound k ms have ok =
    let all = rw (struct_tree_is k, have) at ok in
    and_parts (distinct_members (members_shape ms)) (sound_members (members_shape ms)) (and_parts (some_member (members_shape ms)) (distinct_members (members_shape ms) && sound_members (members_shape ms)) all).1

pub struct_is : (r : Rep) (k : StructType) (e : Ext) (ms : List Member) (o : Order) (v : Val) (s s2 : Spot) → (out-StructType k).ext ≡ e → (out-StructType k).members ≡ ms → Reads r o (structure e (members_shape ms)) s v s2 → Reads r o (shape (struct_tree k)) s v s2
struct_is r k e ms o v s s2 is have read = rw (struct_tree_is k, is, have) read

pub final_is : (r : Rep) (ms : Members) (o : Order) (v : Val) (s s2 : Spot) → ReadsMembers r o false ms s v s2 → Reads r o (structure Final ms) s v s2
unfolding read read1
final_is Xcdr1 ms o v s s2 e = e
final_is Xcdr2 ms o v s s2 e = e

-- in XCDR1 a value that is no tail does not end before its last members
pub appendable_in : (ms : Members) (o : Order) (v : Val) (s s2 : Spot) → ReadsMembers Xcdr1 o false ms s v s2 → Reads Xcdr1 o (structure Appendable ms) s v s2
unfolding read1 ◌>>=◌
appendable_in ms o v s s2 e = rw e refl

pub appendable_of : (ms : Members) (o : Order) (v : Val) (s inside after s2 : Spot) → IsRegion o s inside after → ReadsMembers Xcdr2 o true ms inside v s2 → Reads Xcdr2 o (structure Appendable ms) s v after
unfolding read passing ◌>>=◌
appendable_of ms o v s inside after s2 region e =
    let here = ap (λ (x : Spot). done (λ ps. whole_structure ms ps false) (read_members o true ms x)) (sym region.front.inside_is) ∙ e in
    rw (region.counted, here, region.front.after_is) refl

pub mutable_of : (ms : Members) (o : Order) (v : Val) (s inside after : Spot) → IsRegion o s inside after → ReadsPieces o ms inside v → Reads Xcdr2 o (structure Mutable ms) s v after
unfolding read passing ◌>>=◌
mutable_of ms o v s inside after region e =
    let here = ap (λ (x : Spot). done (λ r. whole_structure ms r.0 r.1) (members_at o (λ id. read_named o ms id) x)) (sym region.front.inside_is) ∙ e in
    rw (region.counted, here, region.front.after_is) refl
