-- Types of keys have no optional member and no structure that isn't FINAL, and their collections have leaves.
use Rattle.std.proofs.Common.{◌≡◌, ℕ, Bool, true, false, cond, not, ◌||◌, ◌&&◌, [], ◌∷◌, refl, nat_lt}
use Rattle.std.proofs.lemmas.Bool.{and_parts, and_from}
use Rattle.xt_shapes.specs.declared.leaves.Ext.TheVariants.{Final, Appendable, Mutable}
use Rattle.xt_shapes.specs.Keyable.{any_key, counted, is_leaf, keyable, counted_keyable}
use Rattle.xt_shapes.specs.Shape.{Shape, prim, str, enumeration, bitmask, sequence, array, map_of, structure, union, Members, no_members, member}
use Rattle.xcdr_model.specs.KeyOctets.{members_from, key_type, key_types}
use Rattle.xcdr_model.specs.Keys.{by_id}
use Rattle.shape_laws.proofs.KeyAt.{needs}
use Rattle.shape_laws.proofs.KeySort.{Entries}

abbrev mutual
  pub flat : Shape → Bool
  flat (prim p) = true
  flat (str bound) = true
  flat (enumeration e bits ls) = true
  flat (bitmask bits fs) = true
  flat (sequence bound tc t) = is_leaf t
  flat (array dims tc t) = is_leaf t
  flat (map_of bound kc k vc t) = false
  flat (structure Final ms) = flat_members ms
  flat (structure Appendable ms) = false
  flat (structure Mutable ms) = false
  flat (union e k d cs) = false

  pub flat_members : Members → Bool
  flat_members no_members = true
  flat_members (member h t ms) = not h.optional && (flat t && flat_members ms)

insert_flat : (x : ℕ × Shape) (xs : Entries Shape) → flat x.1 ≡ true → flat_members (members_from xs) ≡ true → flat_members (members_from (by_id x xs)) ≡ true
insert_flat x [] f g = and_from (flat x.1) true f refl
insert_flat x (y ∷ ys) f g = by (nat_lt x.0 y.0) (insert_flat x ys f (and_parts (flat y.1) (flat_members (members_from ys)) g).1)
  where
    by : (c : Bool) → flat_members (members_from (by_id x ys)) ≡ true → flat_members (members_from (cond c (x ∷ y ∷ ys) (y ∷ by_id x ys))) ≡ true
    by true rest = and_from (flat x.1) (flat_members (members_from (y ∷ ys))) f g
    by false rest = and_from (flat y.1) (flat_members (members_from (by_id x ys))) (and_parts (flat y.1) (flat_members (members_from ys)) g).0 rest

one_flat : (c : Bool) (x : ℕ × Shape) (xs : Entries Shape) → (c ≡ true → flat x.1 ≡ true) → flat_members (members_from xs) ≡ true → flat_members (members_from (cond c (by_id x xs) xs)) ≡ true
one_flat false x xs f g = g
one_flat true x xs f g = insert_flat x xs (f refl) g

mutual
  pub flat_part : (t : Shape) → keyable t ≡ true → flat (key_type t) ≡ true
  flat_part (prim p) k = refl
  flat_part (str bound) k = refl
  flat_part (enumeration e bits ls) k = refl
  flat_part (bitmask bits fs) k = refl
  flat_part (sequence bound tc t) k = k
  flat_part (array dims tc t) k = k
  flat_part (map_of bound kc j vc t) k = absurd cc
  flat_part (structure e ms) k = flat_types (any_key ms) ms k
  flat_part (union e key d cs) k = absurd cc

  pub flat_types : (keyed : Bool) (ms : Members) → counted_keyable keyed ms ≡ true → flat_members (members_from (key_types keyed ms)) ≡ true
  flat_types keyed no_members k = refl
  flat_types keyed (member h t ms) k =
      let n = and_parts (not (counted keyed h) || (not h.optional && keyable t)) (counted_keyable keyed ms) k in
      one_flat (counted keyed h) (h.id, key_type t) (key_types keyed ms) (λ c. flat_part t (needs (counted keyed h) h.optional (keyable t) n.0 c).1) (flat_types keyed ms n.1)
