-- What is seen at some levels is seen at more, and one level below.
use Rattle.std.proofs.Common.{◌≡◌, ℕ, zero, suc, ◌+◌, List, [], ◌∷◌, Bool, true, false, Option, Some, None, map, refl, sym, ap, ◌∙◌}
use Rattle.std.proofs.lemmas.Bool.{and_parts, and_from, false≢true}
use Rattle.xt_shapes.specs.Lists.{all}
use Rattle.xt_shapes.specs.Shape.{Shape, sequence, array, map_of, structure, union, member, one_case, Members, Cases}
use Rattle.object_formats.specs.Objects as o
use Rattle.object_formats.specs.Objects.{Identifier, Object}
use Rattle.object_walks.specs.Resolving.{bit, try_of, ext_of}
use Rattle.type_object.specs.Pools.{Texts, object_at}
use Rattle.pair_memo.specs.nodes.Seen.{See, Test, Part, Arm, members_in, cases_in, parts_pass, arms_pass, object_shape, found_shape, level, object_test, found_test, level_test, shape_within, is_within, shape_in, is_seen, has_bases, all_parts, arm_in}

-- a test that implies another, and two ways to see that agree where it passes
module _ (pool : Texts) (test test' : Test) (see see' : See) (h : (t : Identifier) → test t ≡ true → (test' t ≡ true) × (see t ≡ see' t)) where
  parts_same : (ms : List Part) → parts_pass test ms ≡ true → (parts_pass test' ms ≡ true) × (members_in see ms ≡ members_in see' ms)
  parts_same [] p = (refl, refl)
  parts_same (m ∷ ms) p =
      let q = and_parts (test m.1) (parts_pass test ms) p in
      let one = h m.1 q.0 in
      let rest = parts_same ms q.1 in
      (and_from (test' m.1) (parts_pass test' ms) one.0 rest.0, ap (λ s. member m.0 s (members_in see ms)) one.1 ∙ ap (member m.0 (see' m.1)) rest.1)

  arms_same : (cs : List Arm) → arms_pass test cs ≡ true → (arms_pass test' cs ≡ true) × (cases_in see cs ≡ cases_in see' cs)
  arms_same [] p = (refl, refl)
  arms_same (c ∷ cs) p =
      let q = and_parts (test c.1) (arms_pass test cs) p in
      let one = h c.1 q.0 in
      let rest = arms_same cs q.1 in
      (and_from (test' c.1) (arms_pass test' cs) one.0 rest.0, ap (λ s. one_case c.0 s (cases_in see cs)) one.1 ∙ ap (one_case c.0 (see' c.1)) rest.1)

  object_same : (x : Object) → object_test pool test x ≡ true → (object_test pool test' x ≡ true) × (object_shape pool see x ≡ object_shape pool see' x)
  object_same (o.alias name t) p = h t p
  object_same (o.enumeration name flags bits ls) p = (refl, refl)
  object_same (o.bitmask name bits fs) p = (refl, refl)
  object_same (o.structure name flags base ms) p =
      let q = and_parts (has_bases 15 pool base) (parts_pass test (all_parts pool base ms)) p in
      let rest = parts_same (all_parts pool base ms) q.1 in
      (and_from (has_bases 15 pool base) (parts_pass test' (all_parts pool base ms)) q.0 rest.0, ap (structure (ext_of flags)) rest.1)
  object_same (o.union name flags disc_flags disc cs) p =
      let q = and_parts (test disc) (arms_pass test (map arm_in cs)) p in
      let one = h disc q.0 in
      let rest = arms_same (map arm_in cs) q.1 in
      (and_from (test' disc) (arms_pass test' (map arm_in cs)) one.0 rest.0, ap (λ s. union (ext_of flags) (bit disc_flags 32) s (cases_in see (map arm_in cs))) one.1 ∙ ap (union (ext_of flags) (bit disc_flags 32) (see' disc)) rest.1)

  found_same : (x : Option Object) → found_test pool test x ≡ true → (found_test pool test' x ≡ true) × (found_shape pool see x ≡ found_shape pool see' x)
  found_same None p = absurd (false≢true p)
  found_same (Some x) p = object_same x p

  pub level_same : (t : Identifier) → level_test pool test t ≡ true → (level_test pool test' t ≡ true) × (level pool see t ≡ level pool see' t)
  level_same o.none p = absurd (false≢true p)
  level_same (o.prim x) p = (refl, refl)
  level_same (o.str bound) p = (refl, refl)
  level_same (o.sequence ek flags bound t) p = let r = h t p in (r.0, ap (sequence bound (try_of flags)) r.1)
  level_same (o.array ek flags dims t) p = let r = h t p in (r.0, ap (array dims (try_of flags)) r.1)
  level_same (o.map_of ek flags bound v key_flags k) p =
      let q = and_parts (test k) (test v) p in
      let key = h k q.0 in
      let value = h v q.1 in
      (and_from (test' k) (test' v) key.0 value.0, ap (λ s. map_of bound (try_of key_flags) s (try_of flags) (see v)) key.1 ∙ ap (map_of bound (try_of key_flags) (see' k) (try_of flags)) value.1)
  level_same (o.hash id) p = found_same (object_at id pool) p

-- one more level changes nothing
pub more : (pool : Texts) (n : ℕ) (t : Identifier) → is_within n pool t ≡ true → (is_within (suc n) pool t ≡ true) × (shape_within n pool t ≡ shape_within (suc n) pool t)
unfolding shape_within is_within
more pool zero t p = absurd (false≢true p)
more pool (suc n) t p = level_same pool (λ u. is_within n pool u) (λ u. is_within (suc n) pool u) (λ u. shape_within n pool u) (λ u. shape_within (suc n) pool u) (λ u q. more pool n u q) t p

-- what is seen has the shape of its level, whose parts are seen
pub seen_level : (pool : Texts) (t : Identifier) → is_seen pool t ≡ true → (level_test pool (λ u. is_seen pool u) t ≡ true) × (shape_in pool t ≡ level pool (λ u. shape_in pool u) t)
unfolding shape_in is_seen shape_within is_within
seen_level pool t p = level_same pool (λ u. is_within 15 pool u) (λ u. is_seen pool u) (λ u. shape_within 15 pool u) (λ u. shape_in pool u) (λ u q. more pool 15 u q) t p
