-- What types are named by, level by level, and where they stand in a list.
use Rattle.std.proofs.Common.{◌≡◌, ℕ, zero, suc, List, [], ◌∷◌, map, Option, Some, None, slice_get, refl, sym, ap, subst, ◌∙◌, Box, Global}
use Rattle.std.specs.Prelude.{true, false, Result}
use Rattle.xt_shapes.specs.declared.leaves.Ext.{Ext}
use Rattle.xt_shapes.specs.declared.leaves.Try.{Try}
use Rattle.xt_shapes.specs.declared.leaves.Primitive.{Primitive}
use Rattle.xt_shapes.specs.declared.leaves.Primitive.TheVariants.{Boolean}
use Rattle.type_trees.specs.Trees.{Tree, prim, str, enumeration, bitmask, sequence, array, map_of, structure, union, alias}
use Rattle.object_formats.specs.Objects as o
use Rattle.object_formats.specs.Objects.{Identifier}
use Rattle.idl_types.specs.State.{Declared}
use Rattle.idl_types.specs.Uses.{tree_at, whole}
use Rattle.idl_types.specs.declared.uses.Used as u
use Rattle.idl_types.specs.declared.uses.Used.{Used}
use Rattle.idl_types.proofs.Wholes.{whole_prim, whole_str, whole_seq, whole_array, whole_map}
use Rattle.type_object.specs.declared.pool.PoolFault.{PoolFault}
use Rattle.idl_types.specs.Definitions.{is_structure_of, base_fits}
use Rattle.type_resolve.specs.declared.sides.Identifiers.{Identifiers}
use Rattle.type_resolve.specs.declared.sides.Sides.{Sides}
use Rattle.type_resolve.specs.Objects.{is_plain, identifier}
use Rattle.type_resolve.specs.Views.{Seen, seen, Makes, sides, sequence_seen, array_seen, map_seen, hashes_seen, base_in}
use Rattle.type_resolve.specs.Definitions.{types_sides, AreNamed, base_identifier}

pub sides_prim : (p : Primitive) → sides (prim p) ≡ (true, o.prim p, o.prim p)
unfolding is_plain identifier
sides_prim p = refl

pub sides_str : (n : ℕ) → sides (str n) ≡ (true, o.str n, o.str n)
unfolding is_plain identifier
sides_str n = refl

pub sides_sequence : (n : ℕ) (tc : Try) (t : Tree) → sides (sequence n tc t) ≡ sequence_seen n tc (sides t)
unfolding is_plain identifier
sides_sequence n tc t = refl

pub sides_array : (ds : List ℕ) (tc : Try) (t : Tree) → sides (array ds tc t) ≡ array_seen ds tc (sides t)
unfolding is_plain identifier
sides_array ds tc t = refl

pub sides_map : (n : ℕ) (kc : Try) (k : Tree) (vc : Try) (v : Tree) → sides (map_of n kc k vc v) ≡ map_seen n kc (sides k) vc (sides v)
unfolding is_plain identifier
sides_map n kc k vc v = refl

-- ---- where a type is used

makes_same : (r : Result Sides PoolFault) (s z : Seen) → s ≡ z → Makes seen r s → Makes seen r z
makes_same r s z e h = subst (λ y. Makes seen r y) e h

module _ (ts : Declared) (used : Used) where
  pub prim_made : (p : Primitive) (s : Seen) → used ≡ u.Prim p → s ≡ (true, o.prim p, o.prim p) → s ≡ sides (whole ts used)
  prim_made p s is e = e ∙ sym (ap sides (ap (whole ts) is ∙ whole_prim ts p) ∙ sides_prim p)

  pub str_made : (n : ℕ) (s : Seen) → used ≡ u.Str n → s ≡ (true, o.str n, o.str n) → s ≡ sides (whole ts used)
  str_made n s is e = e ∙ sym (ap sides (ap (whole ts) is ∙ whole_str ts n) ∙ sides_str n)

  pub sequence_made : (n : ℕ) (tc : Try) (b : Box Used Global) (r : Result Sides PoolFault) (e : Seen) → used ≡ u.Seq n tc b → e ≡ sides (whole ts b.value) → Makes seen r (sequence_seen n tc e) → Makes seen r (sides (whole ts used))
  sequence_made n tc b r e is named h =
      makes_same r _ _ (ap (sequence_seen n tc) named ∙ sym (ap sides (ap (whole ts) is ∙ whole_seq ts n tc b) ∙ sides_sequence n tc (whole ts b.value))) h

  pub array_made : (ds : List ℕ) (tc : Try) (b : Box Used Global) (r : Result Sides PoolFault) (e : Seen) → used ≡ u.Array ds tc b → e ≡ sides (whole ts b.value) → Makes seen r (array_seen ds tc e) → Makes seen r (sides (whole ts used))
  array_made ds tc b r e is named h =
      makes_same r _ _ (ap (array_seen ds tc) named ∙ sym (ap sides (ap (whole ts) is ∙ whole_array ts ds tc b) ∙ sides_array ds tc (whole ts b.value))) h

  pub map_made : (n : ℕ) (kc : Try) (k : Box Used Global) (vc : Try) (v : Box Used Global) (r : Result Sides PoolFault) (key value : Seen) → used ≡ u.Map n kc k vc v
      → key ≡ sides (whole ts k.value) → value ≡ sides (whole ts v.value) → Makes seen r (map_seen n kc key vc value) → Makes seen r (sides (whole ts used))
  map_made n kc k vc v r key value is of_key of_value h =
      makes_same r _ _
      (ap (λ s. map_seen n kc s vc value) of_key ∙ ap (λ s. map_seen n kc (sides (whole ts k.value)) vc s) of_value ∙ sym (ap sides (ap (whole ts) is ∙ whole_map ts n kc k vc v) ∙ sides_map n kc (whole ts k.value) vc (whole ts v.value)))
      h

-- ---- in a list

abbrev pub seen_or : Option Identifiers → Seen
seen_or None = (true, o.prim Boolean, o.prim Boolean)
seen_or (Some ids) = hashes_seen ids

first_is : {A : Type 0} (x y : A) (xs ys : List A) → x ∷ xs ≡ y ∷ ys → x ≡ y
first_is x y xs ys e = cc

rest_is : {A : Type 0} (x y : A) (xs ys : List A) → x ∷ xs ≡ y ∷ ys → xs ≡ ys
rest_is x y xs ys e = cc

seen_at : (ts : Declared) (ids : List Identifiers) (at : ℕ) → AreNamed ts ids → sides (tree_at ts at) ≡ seen_or (slice_get ids at)
seen_at [] [] at e = sides_prim Boolean
seen_at [] (i ∷ ids) at e = absurd cc
seen_at (d ∷ ts) [] at e = absurd cc
seen_at (d ∷ ts) (i ∷ ids) zero e = first_is (sides d.1) (hashes_seen i) (types_sides ts) (map hashes_seen ids) e
seen_at (d ∷ ts) (i ∷ ids) (suc at) e = seen_at ts ids at (rest_is (sides d.1) (hashes_seen i) (types_sides ts) (map hashes_seen ids) e)

-- what stands at a place, from what the list of identifiers has there
pub named_at : (ts : Declared) (ids : List Identifiers) (at : ℕ) (there : Option Identifiers) → AreNamed ts ids → there ≡ slice_get ids at → sides (tree_at ts at) ≡ seen_or there
named_at ts ids at there named e = seen_at ts ids at named ∙ ap seen_or (sym e)

-- ---- bases

-- only a structure is a base
not_boolean : (ext : Ext) (t : Tree) → is_structure_of ext t ≡ true → sides t ≡ (true, o.prim Boolean, o.prim Boolean) → ⊥
unfolding is_plain identifier
not_boolean ext (structure h ms) fits e = let plain : false ≡ true = ap (λ (s : Seen). s.0) e in absurd cc
not_boolean ext (prim p) fits e = absurd cc
not_boolean ext (str n) fits e = absurd cc
not_boolean ext (enumeration n x b ls) fits e = absurd cc
not_boolean ext (bitmask n b fs) fits e = absurd cc
not_boolean ext (sequence n tc t) fits e = absurd cc
not_boolean ext (array ds tc t) fits e = absurd cc
not_boolean ext (map_of n kc k vc v) fits e = absurd cc
not_boolean ext (union h d cs) fits e = absurd cc
not_boolean ext (alias n t) fits e = absurd cc

base_by : (ts : Declared) (ext : Ext) (at : ℕ) (there : Option Identifiers) → is_structure_of ext (tree_at ts at) ≡ true → sides (tree_at ts at) ≡ seen_or there
    → (base_in there false ≡ identifier false (tree_at ts at)) × (base_in there true ≡ identifier true (tree_at ts at))
base_by ts ext at None fits e = absurd (not_boolean ext (tree_at ts at) fits e)
base_by ts ext at (Some ids) fits e = (sym (ap (λ (s : Seen). s.1) e), sym (ap (λ (s : Seen). s.2) e))

pub base_is : (ts : Declared) (ids : List Identifiers) (ext : Ext) (base : Option ℕ) (at : ℕ) (there : Option Identifiers) → AreNamed ts ids → base_fits ts ext base ≡ true → base ≡ Some at → there ≡ slice_get ids at
    → (base_in there false ≡ base_identifier false ts base) × (base_in there true ≡ base_identifier true ts base)
base_is ts ids ext base at there named fits is e =
    let good : base_fits ts ext (Some at) ≡ true = subst (λ b. base_fits ts ext b ≡ true) is fits in
    subst (λ b. (base_in there false ≡ base_identifier false ts b) × (base_in there true ≡ base_identifier true ts b)) (sym is) (base_by ts ext at there good (named_at ts ids at there named e))
