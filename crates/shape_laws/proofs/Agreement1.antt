-- What the law in XCDR1 needs of two types: where other octets follow the value, and where the value has the rest of its region.
use Rattle.std.proofs.Common.{◌≡◌, ℕ, ℤ, Bool, true, false, List, Some, is_some}
use Rattle.xt_shapes.specs.declared.leaves.Ext.{Ext}
use Rattle.xt_shapes.specs.declared.leaves.Ext.TheVariants.{Final, Appendable, Mutable}
use Rattle.xt_shapes.specs.declared.leaves.Primitive.{Primitive}
use Rattle.xt_shapes.specs.declared.leaves.Try.{Try}
use Rattle.xt_shapes.specs.Select.{select, has_member, case_at, shape_at}
use Rattle.xt_shapes.specs.Shape.{Literal, Flag, Head, Shape, prim, str, enumeration, bitmask, sequence, array, map_of, structure, union, Members, no_members, member, Cases}
use Rattle.xcdr_model.specs.Premises.{distinct_members}
use Rattle.xcdr_model.specs.Xcdr1Reading.{is_open}
use Rattle.shape_laws.proofs.Agreement.{solid}

mutual
  pub data Inner : Shape → Shape → Type 0 where
    in_prim : (p : Primitive) → Inner (prim p) (prim p)
    in_str : (a b : ℕ) → Inner (str a) (str b)
    in_bits : (e e2 : Ext) (bits : ℕ) (ls ls2 : List Literal) → Inner (enumeration e bits ls) (enumeration e2 bits ls2)
    in_mask : (bits : ℕ) (fs fs2 : List Flag) → Inner (bitmask bits fs) (bitmask bits fs2)
    in_sequence : (a b : ℕ) (ca cb : Try) (t t2 : Shape) → Inner t t2 → Inner (sequence a ca t) (sequence b cb t2)
    in_array : (dims : List ℕ) (ca cb : Try) (t t2 : Shape) → Inner t t2 → Inner (array dims ca t) (array dims cb t2)
    in_map : (a b : ℕ) (ca cb da db : Try) (k k2 t t2 : Shape) → Inner k k2 → Inner t t2 → Inner (map_of a ca k da t) (map_of b cb k2 db t2)
    in_final : (ms ms2 : Members) → AllInner ms ms2 → Inner (structure Final ms) (structure Final ms2)
    in_appendable : (ms ms2 : Members) → AllInner ms ms2 → Inner (structure Appendable ms) (structure Appendable ms2)
    in_mutable : (ms ms2 : Members) → distinct_members ms ≡ true → ((id : ℕ) (t t2 : Shape) → shape_at ms id ≡ Some t → shape_at ms2 id ≡ Some t2 → Tail t t2) → Inner (structure Mutable ms) (structure Mutable ms2)
    in_union : (e e2 : Ext) (k k2 : Bool) (disc disc2 : Shape) (cs cs2 : Cases) → Inner disc disc2 → ((d : ℤ) → is_some (select cs d) ≡ is_some (select cs2 d))
        → ((d : ℤ) (i j : ℕ) (t t2 : Shape) → select cs d ≡ Some i → select cs2 d ≡ Some j → case_at cs i ≡ Some t → case_at cs2 j ≡ Some t2 → Inner t t2) → Inner (union e k disc cs) (union e2 k2 disc2 cs2)

  -- a value that has the rest of its region
  pub data Tail : Shape → Shape → Type 0 where
    of_closed : (t t2 : Shape) → is_open t ≡ false → is_open t2 ≡ false → Inner t t2 → Tail t t2
    end_appendable : (ms ms2 : Members) → FrontInner ms ms2 → Tail (structure Appendable ms) (structure Appendable ms2)
    end_final_union : (k k2 : Bool) (disc disc2 : Shape) (cs cs2 : Cases) → Inner disc disc2 → ((d : ℤ) → is_some (select cs d) ≡ is_some (select cs2 d))
        → ((d : ℤ) (i j : ℕ) (t t2 : Shape) → select cs d ≡ Some i → select cs2 d ≡ Some j → case_at cs i ≡ Some t → case_at cs2 j ≡ Some t2 → Tail t t2) → Tail (union Final k disc cs) (union Final k2 disc2 cs2)
    end_union : (k k2 : Bool) (disc disc2 : Shape) (cs cs2 : Cases) → ((j : ℕ) (t2 : Shape) → case_at cs2 j ≡ Some t2 → solid t2 ≡ true) → Inner disc disc2
        → ((d : ℤ) (i j : ℕ) (t t2 : Shape) → select cs d ≡ Some i → select cs2 d ≡ Some j → case_at cs i ≡ Some t → case_at cs2 j ≡ Some t2 → Tail t t2) → Tail (union Appendable k disc cs) (union Appendable k2 disc2 cs2)

  pub data AllInner : Members → Members → Type 0 where
    none_left : AllInner no_members no_members
    next_of_all : (h h2 : Head) (t t2 : Shape) (ms ms2 : Members) → h.id ≡ h2.id → h.optional ≡ h2.optional → has_member ms h2.id ≡ false → solid t2 ≡ true → Inner t t2 → Tail t t2 → AllInner ms ms2 → AllInner (member h t ms) (member h2 t2 ms2)

  pub data FrontInner : Members → Members → Type 0 where
    reader_ends : (ms2 : Members) → FrontInner no_members ms2
    writer_ends : (h : Head) (t : Shape) (ms : Members) → FrontInner (member h t ms) no_members
    next_of_both : (h h2 : Head) (t t2 : Shape) (ms ms2 : Members) → h.id ≡ h2.id → h.optional ≡ h2.optional → has_member ms h2.id ≡ false → solid t2 ≡ true → Inner t t2 → Tail t t2 → FrontInner ms ms2 → FrontInner (member h t ms) (member h2 t2 ms2)
