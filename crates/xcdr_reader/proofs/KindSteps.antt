-- Structures and unions by their parts.
use Rattle.std.proofs.Common.{◌≡◌, refl, true, not, ◌&&◌, List, Result}
use Rattle.std.proofs.lemmas.Bool.{and_parts}
use Rattle.xt_shapes.specs.declared.leaves.Ext.{Ext}
use Rattle.type_trees.specs.declared.types.Member.{Member}
use Rattle.type_trees.specs.declared.types.StructType.{StructType, out-StructType}
use Rattle.type_trees.specs.declared.types.UnionType.{UnionType, out-UnionType}
use Rattle.type_trees.specs.View.{struct_tree, union_tree}
use Rattle.type_trees.specs.Bridge.{shape, type_shape, members_shape, cases_shape}
use Rattle.type_trees.proofs.Views.{struct_tree_is, union_tree_is}
use Rattle.xcdr_model.specs.Premises.{sound, sound_members, sound_cases, distinct_members, some_member}
use Rattle.xcdr_model.specs.Projection.{is_mutable}
use Rattle.xt_wire.specs.declared.cursor.faults.DecodeFault.{DecodeFault}
use Rattle.xt_wire.specs.cursor.Standing.{Standing}
use Rattle.xt_wire.specs.cursor.Decoding.{Decodes}
use Rattle.xt_wire.proofs.OfCursor.Ahead.{decodes_as}
use Rattle.settled_parts.specs.declared.part.Part.{Part}
use Rattle.settled_parts.specs.Parts.{part_of}
use Rattle.xcdr_reader.specs.declared.modes.Mode.{Mode}
use Rattle.xcdr_reader.specs.Insides.{inside, structure_inside, union_inside}

pub struct_inside : (m : Mode) (k : StructType) (e : Ext) (ms : List Member) {a b : Standing} {r : Result Part DecodeFault} → (out-StructType k).ext ≡ e → (out-StructType k).members ≡ ms
    → Decodes part_of (structure_inside m e (members_shape ms)) a b r → Decodes part_of (inside m (shape (struct_tree k))) a b r
struct_inside m k e ms {a} is have d = decodes_as part_of (inside m (shape (struct_tree k))) (structure_inside m e (members_shape ms)) (λ s. rw (struct_tree_is k, is, have) refl) d

pub union_is_inside : (m : Mode) (k : UnionType) (e : Ext) {a b : Standing} {r : Result Part DecodeFault} → (out-UnionType k).ext ≡ e
    → Decodes part_of (union_inside m e (type_shape (out-UnionType k).disc) (cases_shape (out-UnionType k).cases)) a b r → Decodes part_of (inside m (shape (union_tree k))) a b r
union_is_inside m k e {a} is d = decodes_as part_of (inside m (shape (union_tree k))) (union_inside m e (type_shape (out-UnionType k).disc) (cases_shape (out-UnionType k).cases)) (λ s. rw (union_tree_is k, is) refl) d

pub struct_sound : (k : StructType) (ms : List Member) → (out-StructType k).members ≡ ms → sound (shape (struct_tree k)) ≡ true → (distinct_members (members_shape ms) ≡ true) × (sound_members (members_shape ms) ≡ true)
struct_sound k ms have ok =
    let all = rw (struct_tree_is k, have) at ok in
    and_parts (distinct_members (members_shape ms)) (sound_members (members_shape ms)) (and_parts (some_member (members_shape ms)) (distinct_members (members_shape ms) && sound_members (members_shape ms)) all).1

pub union_sound : (k : UnionType) → sound (shape (union_tree k)) ≡ true → sound_cases (cases_shape (out-UnionType k).cases) ≡ true
union_sound k ok =
    let u = out-UnionType k in
    let all = rw (union_tree_is k) at ok in
    (and_parts (sound (type_shape u.disc)) (sound_cases (cases_shape u.cases)) (and_parts (not (is_mutable u.ext)) (sound (type_shape u.disc) && sound_cases (cases_shape u.cases)) all).1).1
