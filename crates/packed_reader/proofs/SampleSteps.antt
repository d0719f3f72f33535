-- Whole samples.
use Rattle.std.proofs.Common.{◌≡◌, refl, sym, ap, subst, ◌∙◌, ℕ, ◌-◌, ◌≤◌, true, false, ◌&&◌, List, length, take, Some, Ok, zero-add}
use Rattle.std.proofs.lemmas.Bool.{le-ltb, and_parts}
use Rattle.xt_shapes.specs.declared.leaves.Ext.{Ext}
use Rattle.xt_shapes.specs.declared.leaves.Ext.TheVariants.{Final, Appendable, Mutable}
use Rattle.xt_shapes.specs.declared.leaves.Order.{Order}
use Rattle.xt_shapes.specs.declared.leaves.Rep.{Rep}
use Rattle.xt_shapes.specs.declared.leaves.Rep.TheVariants.{Xcdr1, Xcdr2}
use Rattle.xt_shapes.specs.Kinds.{as_structure}
use Rattle.xt_shapes.specs.Shape.{Shape, prim, str, enumeration, bitmask, sequence, array, map_of, structure, union, Members}
use Rattle.xt_shapes.specs.Vals.{Val}
use Rattle.try_construct.specs.declared.guides.Guide.{Guide}
use Rattle.try_construct.specs.Guides.{IsGuide, AreGuides}
use Rattle.xcdr_model.specs.Premises.{sound, sound_members, distinct_members, some_member}
use Rattle.xcdr_model.specs.Reading.{Spot, ◌>>=◌}
use Rattle.xcdr_model.specs.Samples.{top_ext, read_sample, sample}
use Rattle.xcdr_model.specs.Xcdr1Reading.{read1, read_body1, is_open}
use Rattle.xcdr_model.specs.Xcdr2Reading.{read, read_body}
use Rattle.packed_reader.specs.Bodies.{IsHead, IsBody, IsOwn, IsTail}

-- ---- bodies

pub own_two : (o : Order) (t : Shape) (b : List ℕ) (v : Val) → IsOwn Xcdr2 o t (record { at = 0; rest = b }) v → IsBody Xcdr2 o t b v
unfolding read_body ◌>>=◌
own_two o t b v own = rw (own.value, own.none_left) refl

-- what may not end before its last members is the same in either mode
same_read : (o : Order) (t : Shape) (s : Spot) → is_open t ≡ false → read1 true o t s ≡ read1 false o t s
unfolding read1
same_read o (prim p) s shut = refl
same_read o (str bound) s shut = refl
same_read o (enumeration e bits ls) s shut = refl
same_read o (bitmask bits fs) s shut = refl
same_read o (sequence bound tc t) s shut = refl
same_read o (array dims tc t) s shut = refl
same_read o (map_of bound kc k vc t) s shut = refl
same_read o (structure Final ms) s shut = refl
same_read o (structure Appendable ms) s shut = absurd cc
same_read o (structure Mutable ms) s shut = refl
same_read o (union e key disc cs) s shut = absurd cc

pub own_one : (o : Order) (t : Shape) (b : List ℕ) (v : Val) → is_open t ≡ false → IsOwn Xcdr1 o t (record { at = 0; rest = b }) v → IsBody Xcdr1 o t b v
unfolding read_body1 ◌>>=◌
own_one o t b v shut own = rw (same_read o t (record { at = 0; rest = b }) shut, own.value, own.none_left) refl

pub tail_one : (o : Order) (t : Shape) (b : List ℕ) (v : Val) → IsTail o t (record { at = 0; rest = b }) v → IsBody Xcdr1 o t b v
unfolding read_body1 read1 ◌>>=◌
tail_one o t b v tail = rw (tail.type_is, tail.value) refl

-- ---- the structure behind aliases

pub struct_shape : (t : Shape) (e : Ext) (ms : Members) → Some (e, ms) ≡ as_structure t → t ≡ structure e ms
struct_shape (prim q) e ms h = absurd cc
struct_shape (str bound) e ms h = absurd cc
struct_shape (enumeration x bits ls) e ms h = absurd cc
struct_shape (bitmask bits fs) e ms h = absurd cc
struct_shape (sequence bound tc t) e ms h = absurd cc
struct_shape (array dims tc t) e ms h = absurd cc
struct_shape (map_of bound kc k vc t) e ms h = absurd cc
struct_shape (structure x ns) e ms h =
    let both : (e, ms) ≡ (x, ns) = cc in
    ap (λ (z : Ext × Members). structure z.0 z.1) (sym both)
struct_shape (union x key disc cs) e ms h = absurd cc

pub parts_sound : (t : Shape) (e : Ext) (ms : Members) → t ≡ structure e ms → sound t ≡ true → (distinct_members ms ≡ true) × (sound_members ms ≡ true)
parts_sound t e ms is ok =
    let all = ap sound (sym is) ∙ ok in
    and_parts (distinct_members ms) (sound_members ms) (and_parts (some_member ms) (distinct_members ms && sound_members ms) all).1

pub parts_guided : (t : Shape) (e : Ext) (ms : Members) (g : Guide) → t ≡ structure e ms → IsGuide t g → AreGuides ms g 0
parts_guided t e ms g is guided =
    let P : Shape → Type 0 = λ x. IsGuide x g in
    subst P is guided

-- ---- samples

pub sample_is : (r : Rep) (o : Order) (t : Shape) (e : Ext) (s : List ℕ) (pad : ℕ) (behind body : List ℕ) (v : Val) → e ≡ top_ext t → IsHead r e s o pad behind → pad ≤ length behind → body ≡ take (length behind - pad) behind → IsBody r o t body v → read_sample r t s ≡ Ok (sample v)
unfolding read_sample ◌>>=◌
sample_is r o t e s pad behind body v ext head fits is read =
    rw (head.parts, zero-add head.kind, ← ext, head.row, ← head.pad_is, le-ltb (length behind) pad fits, ← head.order, ← is, read) refl
