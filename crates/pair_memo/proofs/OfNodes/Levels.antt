-- What is seen at a node, by the kind of its identifier.
use Rattle.std.proofs.Common.{◌≡◌, ℕ, zero, suc, ◌-◌, ◌<◌, List, [], ◌∷◌, ◌++◌, Bool, true, ◌&&◌, Option, Some, None, map, refl, sym, ap, ◌∙◌, arith}
use Rattle.std.specs.Prelude.{IsTrue}
use Rattle.std.specs.Option.{option_map}
use Rattle.xt_shapes.specs.declared.leaves.Primitive.{Primitive}
use Rattle.xt_shapes.specs.Shape.{prim, str, sequence, array, map_of}
use Rattle.type_trees.specs.declared.types.HashId.{HashId}
use Rattle.object_formats.specs.Objects as o
use Rattle.object_formats.specs.Objects.{Identifier, MemberPart, Object}
use Rattle.object_walks.specs.Resolving.{try_of}
use Rattle.type_object.specs.Pools.{Texts, object_at}
use Rattle.pair_memo.specs.nodes.Seen.{shape_in, is_seen, object_shape, object_test, found_shape, found_test, inherited, base_parts, part_in}
use Rattle.pair_memo.proofs.OfNodes.Seeing.{seen_level}
use Rattle.std.proofs.lemmas.Bool.{and_parts}

module _ (pool : Texts) where
  pub shape_prim : (p : Primitive) → IsTrue (is_seen pool (o.prim p)) → shape_in pool (o.prim p) ≡ prim p
  shape_prim p h = (seen_level pool (o.prim p) h).1

  pub shape_str : (n : ℕ) → IsTrue (is_seen pool (o.str n)) → shape_in pool (o.str n) ≡ str n
  shape_str n h = (seen_level pool (o.str n) h).1

  pub shape_sequence : (ek flags bound : ℕ) (t : Identifier) → IsTrue (is_seen pool (o.sequence ek flags bound t)) → shape_in pool (o.sequence ek flags bound t) ≡ sequence bound (try_of flags) (shape_in pool t)
  shape_sequence ek flags bound t h = (seen_level pool (o.sequence ek flags bound t) h).1

  pub seen_element : (ek flags bound : ℕ) (t : Identifier) → IsTrue (is_seen pool (o.sequence ek flags bound t)) → IsTrue (is_seen pool t)
  seen_element ek flags bound t h = (seen_level pool (o.sequence ek flags bound t) h).0

  pub shape_array : (ek flags : ℕ) (dims : List ℕ) (t : Identifier) → IsTrue (is_seen pool (o.array ek flags dims t)) → shape_in pool (o.array ek flags dims t) ≡ array dims (try_of flags) (shape_in pool t)
  shape_array ek flags dims t h = (seen_level pool (o.array ek flags dims t) h).1

  pub seen_item : (ek flags : ℕ) (dims : List ℕ) (t : Identifier) → IsTrue (is_seen pool (o.array ek flags dims t)) → IsTrue (is_seen pool t)
  seen_item ek flags dims t h = (seen_level pool (o.array ek flags dims t) h).0

  pub shape_map : (ek flags bound : ℕ) (v : Identifier) (key_flags : ℕ) (k : Identifier) → IsTrue (is_seen pool (o.map_of ek flags bound v key_flags k)) → shape_in pool (o.map_of ek flags bound v key_flags k) ≡ map_of bound (try_of key_flags) (shape_in pool k) (try_of flags) (shape_in pool v)
  shape_map ek flags bound v key_flags k h = (seen_level pool (o.map_of ek flags bound v key_flags k) h).1

  pub seen_pair : (ek flags bound : ℕ) (v : Identifier) (key_flags : ℕ) (k : Identifier) → IsTrue (is_seen pool (o.map_of ek flags bound v key_flags k)) → (is_seen pool k && is_seen pool v) ≡ true
  seen_pair ek flags bound v key_flags k h = (seen_level pool (o.map_of ek flags bound v key_flags k) h).0

  pub shape_object : (id : HashId) (x : Object) → Some x ≡ object_at id pool → IsTrue (is_seen pool (o.hash id)) → shape_in pool (o.hash id) ≡ object_shape pool (λ t. shape_in pool t) x
  shape_object id x e h = (seen_level pool (o.hash id) h).1 ∙ ap (found_shape pool (λ t. shape_in pool t)) (sym e)

  pub seen_object : (id : HashId) (x : Object) → Some x ≡ object_at id pool → IsTrue (is_seen pool (o.hash id)) → object_test pool (λ t. is_seen pool t) x ≡ true
  seen_object id x e h = ap (found_test pool (λ t. is_seen pool t)) e ∙ (seen_level pool (o.hash id) h).0

pub ruleset node_rules = (shape_prim, shape_str, shape_sequence, seen_element, shape_array, seen_item, shape_map, seen_pair, shape_object, seen_object)

-- ---- bases

module _ (pool : Texts) where
  pub inherited_none : (room : ℕ) → inherited room pool o.none ≡ []
  unfolding inherited
  inherited_none zero = refl
  inherited_none (suc room) = refl

  pub inherited_prim : (room : ℕ) (p : Primitive) → inherited room pool (o.prim p) ≡ []
  unfolding inherited
  inherited_prim zero p = refl
  inherited_prim (suc room) p = refl

  pub inherited_str : (room n : ℕ) → inherited room pool (o.str n) ≡ []
  unfolding inherited
  inherited_str zero n = refl
  inherited_str (suc room) n = refl

  pub inherited_sequence : (room ek flags bound : ℕ) (t : Identifier) → inherited room pool (o.sequence ek flags bound t) ≡ []
  unfolding inherited
  inherited_sequence zero ek flags bound t = refl
  inherited_sequence (suc room) ek flags bound t = refl

  pub inherited_array : (room ek flags : ℕ) (dims : List ℕ) (t : Identifier) → inherited room pool (o.array ek flags dims t) ≡ []
  unfolding inherited
  inherited_array zero ek flags dims t = refl
  inherited_array (suc room) ek flags dims t = refl

  pub inherited_map : (room ek flags bound : ℕ) (v : Identifier) (kf : ℕ) (k : Identifier) → inherited room pool (o.map_of ek flags bound v kf k) ≡ []
  unfolding inherited
  inherited_map zero ek flags bound v kf k = refl
  inherited_map (suc room) ek flags bound v kf k = refl

  pub inherited_hash : (room : ℕ) (id : HashId) (x : Object) → 0 < room → Some x ≡ object_at id pool → inherited room pool (o.hash id) ≡ base_parts (λ t. inherited (room - 1) pool t) (Some x)
  unfolding inherited
  inherited_hash zero id x lt e = absurd (omega arith)
  inherited_hash (suc room) id x lt e =
      let same : room ≡ suc room - 1 = omega arith in
      ap (base_parts (λ t. inherited room pool t)) (sym e) ∙ ap (λ (r : ℕ). base_parts (λ t. inherited r pool t) (Some x)) same

pub ruleset base_rules = (inherited_none, inherited_prim, inherited_str, inherited_sequence, inherited_array, inherited_map, inherited_hash)

pub left_of : (a b : Bool) → (a && b) ≡ true → a ≡ true
left_of a b e = (and_parts a b e).0

pub right_of : (a b : Bool) → (a && b) ≡ true → b ≡ true
right_of a b e = (and_parts a b e).1

pub ruleset both_rules = (left_of, right_of)
