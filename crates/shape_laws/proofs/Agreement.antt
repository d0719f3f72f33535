-- What the law needs of a reader's and a writer's type: less than the rules of assignability, and true of equal types.
use Rattle.std.proofs.Common.{◌≡◌, ℕ, ℤ, Bool, true, false, List, Some, is_some, nat_lt, ◌&&◌}
use Rattle.xt_shapes.specs.declared.leaves.Ext.{Ext}
use Rattle.xt_shapes.specs.declared.leaves.Ext.TheVariants.{Final, Appendable, Mutable}
use Rattle.xt_shapes.specs.declared.leaves.Primitive.{Primitive}
use Rattle.xt_shapes.specs.declared.leaves.Try.{Try}
use Rattle.xt_shapes.specs.Select.{select, has_member, case_at, shape_at}
use Rattle.xt_shapes.specs.Shape.{Literal, Flag, Head, Shape, prim, str, enumeration, bitmask, sequence, array, map_of, structure, union, Members, no_members, member, Cases, product}
use Rattle.xcdr_model.specs.Premises.{distinct_members}

-- types whose values take an octet at least, as those of valid types do
abbrev mutual
  pub solid : Shape → Bool
  solid (prim p) = true
  solid (str bound) = true
  solid (enumeration e bits ls) = true
  solid (bitmask bits fs) = true
  solid (sequence bound tc t) = true
  solid (array dims tc t) = nat_lt 0 (product dims) && solid t
  solid (map_of bound kc k vc t) = true
  solid (structure e ms) = first_solid ms
  solid (union e key disc cs) = true

  pub first_solid : Members → Bool
  first_solid no_members = false
  first_solid (member h t ms) = solid t

mutual
  pub data Agree : Shape → Shape → Type 0 where
    same_prim : (p : Primitive) → Agree (prim p) (prim p)
    both_str : (a b : ℕ) → Agree (str a) (str b)
    same_bits : (e e2 : Ext) (bits : ℕ) (ls ls2 : List Literal) → Agree (enumeration e bits ls) (enumeration e2 bits ls2)
    same_mask : (bits : ℕ) (fs fs2 : List Flag) → Agree (bitmask bits fs) (bitmask bits fs2)
    both_sequence : (a b : ℕ) (ca cb : Try) (t t2 : Shape) → Agree t t2 → Agree (sequence a ca t) (sequence b cb t2)
    same_dims : (dims : List ℕ) (ca cb : Try) (t t2 : Shape) → Agree t t2 → Agree (array dims ca t) (array dims cb t2)
    both_map : (a b : ℕ) (ca cb da db : Try) (k k2 t t2 : Shape) → Agree k k2 → Agree t t2 → Agree (map_of a ca k da t) (map_of b cb k2 db t2)
    both_final : (ms ms2 : Members) → AllInOrder ms ms2 → Agree (structure Final ms) (structure Final ms2)
    both_appendable : (ms ms2 : Members) → FrontInOrder ms ms2 → Agree (structure Appendable ms) (structure Appendable ms2)
    both_mutable : (ms ms2 : Members) → distinct_members ms ≡ true → ((id : ℕ) (t t2 : Shape) → shape_at ms id ≡ Some t → shape_at ms2 id ≡ Some t2 → Agree t t2) → Agree (structure Mutable ms) (structure Mutable ms2)
    final_union : (k k2 : Bool) (disc disc2 : Shape) (cs cs2 : Cases) → Agree disc disc2 → ((d : ℤ) → is_some (select cs d) ≡ is_some (select cs2 d))
        → ((d : ℤ) (i j : ℕ) (t t2 : Shape) → select cs d ≡ Some i → select cs2 d ≡ Some j → case_at cs i ≡ Some t → case_at cs2 j ≡ Some t2 → Agree t t2) → Agree (union Final k disc cs) (union Final k2 disc2 cs2)
    appendable_union : (k k2 : Bool) (disc disc2 : Shape) (cs cs2 : Cases) → ((j : ℕ) (t2 : Shape) → case_at cs2 j ≡ Some t2 → solid t2 ≡ true) → Agree disc disc2
        → ((d : ℤ) (i j : ℕ) (t t2 : Shape) → select cs d ≡ Some i → select cs2 d ≡ Some j → case_at cs i ≡ Some t → case_at cs2 j ≡ Some t2 → Agree t t2) → Agree (union Appendable k disc cs) (union Appendable k2 disc2 cs2)

  pub data AllInOrder : Members → Members → Type 0 where
    none_left : AllInOrder no_members no_members
    next_of_all : (h h2 : Head) (t t2 : Shape) (ms ms2 : Members) → h.id ≡ h2.id → h.optional ≡ h2.optional → has_member ms h2.id ≡ false → Agree t t2 → AllInOrder ms ms2 → AllInOrder (member h t ms) (member h2 t2 ms2)

  pub data FrontInOrder : Members → Members → Type 0 where
    reader_ends : (ms2 : Members) → FrontInOrder no_members ms2
    writer_ends : (h : Head) (t : Shape) (ms : Members) → FrontInOrder (member h t ms) no_members
    next_of_both : (h h2 : Head) (t t2 : Shape) (ms ms2 : Members) → h.id ≡ h2.id → h.optional ≡ h2.optional → has_member ms h2.id ≡ false → solid t2 ≡ true → Agree t t2 → FrontInOrder ms ms2 → FrontInOrder (member h t ms) (member h2 t2 ms2)
