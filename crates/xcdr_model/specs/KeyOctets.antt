-- The octets and the hash of a key (DDS-XTypes 1.3, 7.6.8: the key's parts by rising id as a FINAL structure in XCDR2, big-endian; that
-- nested structures are FINAL as well and keep their counted members is this profile's own).
use Rattle.std.specs.Prelude.{ℕ, zero, suc, ◌+◌, List, [], ◌∷◌, ◌++◌, Bool, true, false, cond, Option, Some, None, take, replicate, min, nat_le, ◌==◌}
use Rattle.md5.specs.Md5.{md5}
use Rattle.xt_shapes.specs.declared.leaves.Ext.TheVariants.{Final}
use Rattle.xt_shapes.specs.declared.leaves.Order.TheVariants.{Big}
use Rattle.xt_shapes.specs.declared.leaves.Try.TheVariants.{Discard}
use Rattle.xt_shapes.specs.Keyable.{any_key, counted}
use Rattle.xt_shapes.specs.Shape.{Head, Shape, prim, str, enumeration, bitmask, sequence, array, map_of, structure, union, Members, no_members, member, product}
use Rattle.xt_shapes.specs.Sizes.{size, enum_size, mask_size}
use Rattle.xt_shapes.specs.Vals.{Val, struct_of}
use Rattle.xcdr_model.specs.FixedSpelling.{fixed}
use Rattle.xcdr_model.specs.Keys.{by_id, all_present, key}
use Rattle.xcdr_model.specs.Numbers.{padding}
use Rattle.xcdr_model.specs.Xcdr2Reading.{is_primitive}

-- ---- the type of a key

abbrev pub plain_head : ℕ → Head
plain_head id = record { id = id; hash = id; tc = Discard; optional = false; must_understand = false; key = true }

abbrev pub members_from : List (ℕ × Shape) → Members
members_from [] = no_members
members_from (x ∷ xs) = member (plain_head x.0) x.1 (members_from xs)

abbrev mutual
  pub key_type : Shape → Shape
  key_type (prim p) = prim p
  key_type (str bound) = str bound
  key_type (enumeration e bits ls) = enumeration e bits ls
  key_type (bitmask bits fs) = bitmask bits fs
  key_type (sequence bound tc t) = sequence bound tc t
  key_type (array dims tc t) = array dims tc t
  key_type (map_of bound kc k vc t) = map_of bound kc k vc t
  key_type (structure e ms) = structure Final (members_from (key_types (any_key ms) ms))
  key_type (union e k d cs) = union e k d cs

  -- by rising id
  pub key_types : Bool → Members → List (ℕ × Shape)
  key_types keyed no_members = []
  key_types keyed (member h t ms) = cond (counted keyed h) (by_id (h.id, key_type t) (key_types keyed ms)) (key_types keyed ms)

-- of a top type
abbrev pub key_shape : Shape → Shape
key_shape (structure e ms) = structure Final (members_from (key_types true ms))
key_shape (union e true d cs) = structure Final (member (plain_head 0) d no_members)
key_shape _ = structure Final no_members

abbrev pub key_octets : Shape → Val → List ℕ
key_octets t v = fixed Big (key_shape t) (struct_of (all_present (key t v))) 0

-- ---- the greatest length

abbrev pub and_on : Option ℕ → (ℕ → Option ℕ) → Option ℕ
and_on None f = None
and_on (Some p) f = f p

abbrev pub after : ℕ → ℕ → ℕ
after k p = p + padding (min k 4) p + k

abbrev pub repeated : ℕ → (ℕ → Option ℕ) → ℕ → Option ℕ
repeated zero f p = Some p
repeated (suc n) f p = and_on (f p) (repeated n f)

abbrev pub headed : Bool → ℕ → ℕ
headed true p = p
headed false p = after 4 p

-- the place after the longest value, from a place on
abbrev mutual
  pub end_of : Shape → ℕ → Option ℕ
  end_of (prim t) p = Some (after (size t) p)
  end_of (str bound) p = cond (bound == 0) None (Some (after 4 p + bound + 1))
  end_of (enumeration e bits ls) p = Some (after (enum_size bits) p)
  end_of (bitmask bits fs) p = Some (after (mask_size bits) p)
  end_of (sequence bound tc t) p = cond (bound == 0) None (repeated bound (λ q. end_of t q) (after 4 (headed (is_primitive t) p)))
  end_of (array dims tc t) p = repeated (product dims) (λ q. end_of t q) (headed (is_primitive t) p)
  end_of (map_of bound kc k vc t) p = None
  end_of (structure e ms) p = end_of_members ms p
  end_of (union e k d cs) p = None

  pub end_of_members : Members → ℕ → Option ℕ
  end_of_members no_members p = Some p
  end_of_members (member h t ms) p = and_on (end_of t p) (λ q. end_of_members ms q)

abbrev pub within_hash : Option ℕ → Bool
within_hash None = false
within_hash (Some n) = nat_le n 16

-- whether the greatest length is at most 16
abbrev pub short : Shape → Bool
short t = within_hash (end_of (key_shape t) 0)

abbrev pub hash_of : Bool → List ℕ → List ℕ
hash_of true b = take 16 (b ++ replicate 16 0)
hash_of false b = md5 b

abbrev pub key_hash : Shape → Val → List ℕ
key_hash t v = hash_of (short t) (key_octets t v)
