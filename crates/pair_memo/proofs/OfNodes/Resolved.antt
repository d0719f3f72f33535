-- What resolves is seen, and has the shape of its type.
use Rattle.std.proofs.Common.{◌≡◌, ℕ, zero, suc, ◌+◌, List, [], ◌∷◌, ◌++◌, map, refl, sym, ap, subst, ◌∙◌}
use Rattle.std.proofs.lemmas.Bool.{and_parts, and_from, false≢true}
use Rattle.std.proofs.lemmas.List.{map-append}
use Rattle.std.specs.Prelude.{Bool, true, false, cond, Option, Some, None, Result, Ok, Err, nat_lt, ◌&&◌}
use Rattle.xt_shapes.specs.declared.leaves.Ext.{Ext}
use Rattle.xt_shapes.specs.declared.leaves.Try.{Try}
use Rattle.xt_shapes.specs.declared.leaves.Step.{Step}
use Rattle.xt_shapes.specs.declared.leaves.Step.TheVariants as S
use Rattle.xt_shapes.specs.Kinds.{same_ext}
use Rattle.xt_shapes.specs.Shape.{Shape, Head, Members, no_members, member, Cases, one_case, structure, union, sequence, array, map_of, enumeration, bitmask}
use Rattle.type_trees.specs.declared.types.HashId.{HashId}
use Rattle.type_trees.specs.Trees as tree
use Rattle.type_trees.specs.Trees.{Tree, MemberHead, CaseHead}
use Rattle.type_trees.specs.View.{members_of, cases_of}
use Rattle.type_trees.specs.Bridge.{shape, member_shapes, case_shapes, head_shape, case_shape, literal_shape, flag_shape}
use Rattle.type_rules.specs.Valid.{type_fault}
use Rattle.object_formats.specs.Objects as o
use Rattle.object_formats.specs.Objects.{Identifier, MemberPart, CasePart, Object}
use Rattle.type_object.specs.Pools.{Texts, object_at}
use Rattle.type_object.specs.References.{is_among}
use Rattle.object_walks.specs.Resolving as r
use Rattle.object_walks.specs.Resolving.{Stop, Refusal, Got, Walk, Standing, ◌>>=◌, follow, present, repeated, at_node, of_whole, node, named, of_object, walk, walked, part, under, try_of, ext_of, bit, each, behind, of_base, base_at, bases, from_base, checked, settled, resolved, invalid, refusal}
use Rattle.node_judge.specs.Objects.{literal_in, flag_in}
use Rattle.pair_memo.specs.nodes.Seen.{See, Test, Part, members_in, cases_in, parts_pass, arms_pass, part_in, arm_in, level, level_test, inherited, has_bases, base_parts, base_test, all_parts, shape_within, is_within, shape_in, is_seen, object_test, object_shape, found_test, found_shape}

ok_is : {A E : Type 0} {x y : A} → ◌≡◌ {A = Result A E} (Ok x) (Ok y) → x ≡ y
ok_is e = cc

not_ok : {A E : Type 0} {x : E} {y : A} → Err x ≡ Ok y → ⊥
not_ok e = cc

bind_ok : {A B : Type 0} (x : Result A Stop) (f : A → Result B Stop) (b : B) → (x >>= f) ≡ Ok b → (a : A) × (x ≡ Ok a) × (f a ≡ Ok b)
bind_ok (Ok a) f b e = (a, refl, e)
bind_ok (Err s) f b e = absurd (not_ok e)

under_ok : {A : Type 0} (s : Step) (x : Result A Stop) (a : A) → under s x ≡ Ok a → x ≡ Ok a
under_ok s (Ok x) a e = e
under_ok s (Err stop) a e = absurd (not_ok e)

cond_ok : {A : Type 0} (b : Bool) (x : Result A Stop) (s : Stop) (a : A) → cond b x (Err s) ≡ Ok a → x ≡ Ok a
cond_ok true x s a e = e
cond_ok false x s a e = absurd (not_ok e)

else_ok : {A : Type 0} (b : Bool) (x : Result A Stop) (s : Stop) (a : A) → cond b (Err s) x ≡ Ok a → x ≡ Ok a
else_ok true x s a e = absurd (not_ok e)
else_ok false x s a e = e

present_ok : (id : HashId) (x : Option Object) (a : Object) → present id x ≡ Ok a → x ≡ Some a
present_ok id None a e = absurd (not_ok e)
present_ok id (Some x) a e = ap (λ y. Some y) (ok_is e)

follow_ok : (pool : Texts) (inside : List HashId) (id : HashId) (x : Object) → follow pool inside id ≡ Ok x → object_at id pool ≡ Some x
follow_ok pool inside id x e = present_ok id (object_at id pool) x (else_ok (is_among id inside) (present id (object_at id pool)) (repeated id) x e)

-- ---- members as lists

abbrev Pieces : Type 0
Pieces = List (Head × Shape)

abbrev members_from : Pieces → Members
members_from [] = no_members
members_from (p ∷ ps) = member p.0 p.1 (members_from ps)

abbrev seen_piece : See → Part → Head × Shape
seen_piece see p = (p.0, see p.1)

abbrev tree_piece : MemberHead × Tree → Head × Shape
tree_piece m = (head_shape m.0, shape m.1)

from_seen : (see : See) (ps : List Part) → members_in see ps ≡ members_from (map (seen_piece see) ps)
from_seen see [] = refl
from_seen see (p ∷ ps) = ap (member p.0 (see p.1)) (from_seen see ps)

from_trees : (ms : List (MemberHead × Tree)) → member_shapes (members_of ms) ≡ members_from (map tree_piece ms)
from_trees [] = refl
from_trees (m ∷ ms) = ap (member (head_shape m.0) (shape m.1)) (from_trees ms)

pass_append : (test : Test) (ps qs : List Part) → parts_pass test ps ≡ true → parts_pass test qs ≡ true → parts_pass test (ps ++ qs) ≡ true
pass_append test [] qs p q = q
pass_append test (x ∷ ps) qs p q = let h = and_parts (test x.1) (parts_pass test ps) p in and_from (test x.1) (parts_pass test (ps ++ qs)) h.0 (pass_append test ps qs h.1 q)

maps : {A B C : Type 0} (f : A → B) (g : B → C) (k : A → C) → ((x : A) → g (f x) ≡ k x) → (xs : List A) → map k xs ≡ map g (map f xs)
maps f g k h [] = refl
maps f g k h (x ∷ xs) = ap (λ y. y ∷ map k xs) (sym (h x)) ∙ ap (λ l. g (f x) ∷ l) (maps f g k h xs)

-- ---- a level

module _ (pool : Texts) (go : Walk) (test : Test) (see : See) (h : (inside : List HashId) (t : Identifier) (n : ℕ) (x : Tree × ℕ) → go inside t n ≡ Ok x → (test t ≡ true) × (see t ≡ shape x.0)) where
  -- some members pass, and are seen as these
  abbrev Agree : List Part → List (MemberHead × Tree) → Type 0
  Agree ps ms = (parts_pass test ps ≡ true) × (map (seen_piece see) ps ≡ map tree_piece ms)

  part_agrees : (s : Step) (inside : List HashId) (flags : ℕ) (t : Identifier) (n : ℕ) (x : (Try × Tree) × ℕ) → part go s inside flags t n ≡ Ok x → (x.0.0 ≡ try_of flags) × (test t ≡ true) × (see t ≡ shape x.0.1)
  part_agrees s inside flags t n x e =
      let b = bind_ok (under s (go inside t n)) (λ r. Ok ((try_of flags, r.0), r.1)) x e in
      let g = h inside t n b.0 (under_ok s (go inside t n) b.0 b.1) in
      let is : ((try_of flags, b.0.0), b.0.1) ≡ x = ok_is b.2 in
      (sym (ap (λ y. y.0.0) is), g.0, g.1 ∙ ap (λ y. shape y.0.1) is)

  members_agree : (inside : List HashId) (ms : List MemberPart) (n : ℕ) (x : List (MemberHead × Tree) × ℕ) → r.members go inside ms n ≡ Ok x → Agree (map part_in ms) x.0
  members_agree inside [] n x e = (refl, ap (λ y. map tree_piece y.0) (ok_is e))
  members_agree inside (m ∷ ms) n x e =
      let b = bind_ok (r.member go inside m n) (λ y. each (r.member go inside) ms y.1 >>= λ ys. Ok (y.0 ∷ ys.0, ys.1)) x e in
      let c = bind_ok (part go (S.Member m.id) inside m.flags m.ty n) (λ t. Ok ((r.member_head m, t.0.1), t.1)) b.0 b.1 in
      let p = part_agrees (S.Member m.id) inside m.flags m.ty n c.0 c.1 in
      let one : ((r.member_head m, c.0.0.1), c.0.1) ≡ b.0 = ok_is c.2 in
      let d = bind_ok (each (r.member go inside) ms b.0.1) (λ ys. Ok (b.0.0 ∷ ys.0, ys.1)) x b.2 in
      let rest = members_agree inside ms b.0.1 d.0 d.1 in
      let all : (b.0.0 ∷ d.0.0, d.0.1) ≡ x = ok_is d.2 in
      let L : List (Head × Shape) = map (seen_piece see) (map part_in ms) in (
        and_from (test m.ty) (parts_pass test (map part_in ms)) p.1 rest.0,
        ap (λ s. ((part_in m).0, s) ∷ L) p.2 ∙ ap (λ y. tree_piece y.0 ∷ L) one ∙ ap (λ l. tree_piece b.0.0 ∷ l) rest.1 ∙ ap (λ y. map tree_piece y.0) all,
      )

  behind_agrees : (inside : List HashId) (ps : List Part) (before : List (MemberHead × Tree)) (ms : List MemberPart) (n : ℕ) (x : List (MemberHead × Tree) × ℕ) → Agree ps before → behind before (r.members go inside ms n) ≡ Ok x → Agree (ps ++ map part_in ms) x.0
  behind_agrees inside ps before ms n x a e =
      let b = bind_ok (r.members go inside ms n) (λ more. Ok (before ++ more.0, more.1)) x e in
      let rest = members_agree inside ms n b.0 b.1 in
      let all : (before ++ b.0.0, b.0.1) ≡ x = ok_is b.2 in (
        pass_append test ps (map part_in ms) a.0 rest.0,
        map-append (seen_piece see) ps (map part_in ms) ∙ ap (λ l. l ++ map (seen_piece see) (map part_in ms)) a.1 ∙ ap (λ l. map tree_piece before ++ l) rest.1 ∙ sym (map-append tree_piece before b.0.0) ∙ ap (λ y. map tree_piece y.0) all,
      )

  cases_agree : (inside : List HashId) (cs : List CasePart) (n : ℕ) (x : List (CaseHead × Tree) × ℕ) → r.cases go inside cs n ≡ Ok x → (arms_pass test (map arm_in cs) ≡ true) × (cases_in see (map arm_in cs) ≡ case_shapes (cases_of x.0))
  cases_agree inside [] n x e = (refl, ap (λ y. case_shapes (cases_of y.0)) (ok_is e))
  cases_agree inside (m ∷ ms) n x e =
      let b = bind_ok (r.case go inside m n) (λ y. each (r.case go inside) ms y.1 >>= λ ys. Ok (y.0 ∷ ys.0, ys.1)) x e in
      let c = bind_ok (part go (S.Member m.id) inside m.flags m.ty n) (λ t. Ok ((r.case_head m, t.0.1), t.1)) b.0 b.1 in
      let p = part_agrees (S.Member m.id) inside m.flags m.ty n c.0 c.1 in
      let one : ((r.case_head m, c.0.0.1), c.0.1) ≡ b.0 = ok_is c.2 in
      let d = bind_ok (each (r.case go inside) ms b.0.1) (λ ys. Ok (b.0.0 ∷ ys.0, ys.1)) x b.2 in
      let rest = cases_agree inside ms b.0.1 d.0 d.1 in
      let all : (b.0.0 ∷ d.0.0, d.0.1) ≡ x = ok_is d.2 in
      let L : Cases = cases_in see (map arm_in ms) in (
        and_from (test m.ty) (arms_pass test (map arm_in ms)) p.1 rest.0,
        ap (λ s. one_case (arm_in m).0 s L) p.2 ∙ ap (λ y. one_case (case_shape y.0.0) (shape y.0.1) L) one ∙ ap (λ l. one_case (case_shape b.0.0.0) (shape b.0.0.1) l) rest.1 ∙ ap (λ y. case_shapes (cases_of y.0)) all,
      )

  -- what a base gives
  abbrev Based : ℕ → Identifier → Standing → Type 0
  Based room base s = (has_bases room pool base ≡ true) × Agree (inherited room pool base) s.1

  of_base_agrees : (room : ℕ) (inside inner : List HashId) (ext : Ext) (x : Object) (n : ℕ) (s : Standing × ℕ)
      → ((i : Identifier) (m : ℕ) (s : Standing × ℕ) → bases room pool go ext inner i m ≡ Ok s → Based room i s.0)
      → of_base go (bases room pool go ext inner) inside ext x n ≡ Ok s
      → (base_test (λ t. has_bases room pool t) (Some x) ≡ true) × Agree (base_parts (λ t. inherited room pool t) (Some x)) s.0.1
  of_base_agrees room inside inner ext (o.structure name flags base ms) n s own e =
      let f = cond_ok (same_ext (ext_of flags) ext) (bases room pool go ext inner base n >>= λ b. behind b.0.1 (r.members go inside ms b.1) >>= λ all. Ok (r.based name flags b.0.0 all.0, all.1)) (of_whole 17) s e in
      let b = bind_ok (bases room pool go ext inner base n) (λ b. behind b.0.1 (r.members go inside ms b.1) >>= λ all. Ok (r.based name flags b.0.0 all.0, all.1)) s f in
      let below = own base n b.0 b.1 in
      let a = bind_ok (behind b.0.0.1 (r.members go inside ms b.0.1)) (λ all. Ok (r.based name flags b.0.0.0 all.0, all.1)) s b.2 in
      let agree = behind_agrees inside (inherited room pool base) b.0.0.1 ms b.0.1 a.0 below.1 a.1 in
      let is : (r.based name flags b.0.0.0 a.0.0, a.0.1) ≡ s = ok_is a.2 in
      (below.0, subst (λ y. Agree (inherited room pool base ++ map part_in ms) y.0.1) is agree)
  of_base_agrees room inside inner ext (o.alias name t) n s own e = absurd (not_ok e)
  of_base_agrees room inside inner ext (o.enumeration name flags bits ls) n s own e = absurd (not_ok e)
  of_base_agrees room inside inner ext (o.bitmask name bits fs) n s own e = absurd (not_ok e)
  of_base_agrees room inside inner ext (o.union name flags disc_flags disc cs) n s own e = absurd (not_ok e)

  bases_agree : (room : ℕ) (inside : List HashId) (ext : Ext) (base : Identifier) (n : ℕ) (s : Standing × ℕ) → bases room pool go ext inside base n ≡ Ok s → Based room base s.0
  unfolding base_at inherited has_bases
  bases_agree zero inside ext o.none n s e = (refl, (refl, ap (λ y. map tree_piece y.0.1) (ok_is e)))
  bases_agree (suc room) inside ext o.none n s e = (refl, (refl, ap (λ y. map tree_piece y.0.1) (ok_is e)))
  bases_agree zero inside ext (o.hash id) n s e = absurd (not_ok e)
  bases_agree (suc room) inside ext (o.hash id) n s e =
      let b = bind_ok (follow pool inside id) (λ x. of_base go (bases room pool go ext (id ∷ inside)) (id ∷ inside) ext x n) s e in
      let there = follow_ok pool inside id b.0 b.1 in
      let own = of_base_agrees room (id ∷ inside) (id ∷ inside) ext b.0 n s (λ i m z d. bases_agree room (id ∷ inside) ext i m z d) b.2 in
      subst (λ y. (base_test (λ t. has_bases room pool t) y ≡ true) × Agree (base_parts (λ t. inherited room pool t) y) s.0.1) (sym there) own
  bases_agree zero inside ext (o.prim p) n s e = absurd (not_ok e)
  bases_agree (suc room) inside ext (o.prim p) n s e = absurd (not_ok e)
  bases_agree zero inside ext (o.str b) n s e = absurd (not_ok e)
  bases_agree (suc room) inside ext (o.str b) n s e = absurd (not_ok e)
  bases_agree zero inside ext (o.sequence ek flags b t) n s e = absurd (not_ok e)
  bases_agree (suc room) inside ext (o.sequence ek flags b t) n s e = absurd (not_ok e)
  bases_agree zero inside ext (o.array ek flags ds t) n s e = absurd (not_ok e)
  bases_agree (suc room) inside ext (o.array ek flags ds t) n s e = absurd (not_ok e)
  bases_agree zero inside ext (o.map_of ek flags b v kf k) n s e = absurd (not_ok e)
  bases_agree (suc room) inside ext (o.map_of ek flags b v kf k) n s e = absurd (not_ok e)

  object_agrees : (inside : List HashId) (x : Object) (n : ℕ) (y : Tree × ℕ) → of_object pool go inside x n ≡ Ok y → (object_test pool test x ≡ true) × (object_shape pool see x ≡ shape y.0)
  object_agrees inside (o.alias name t) n y e =
      let b = bind_ok (go inside t n) (λ z. Ok (tree.alias name z.0, z.1)) y e in
      let g = h inside t n b.0 b.1 in
      let is : (tree.alias name b.0.0, b.0.1) ≡ y = ok_is b.2 in
      (g.0, g.1 ∙ ap (λ z. shape z.0) is)
  object_agrees inside (o.enumeration name flags bits ls) n y e = (refl, shaped ∙ ap (λ z. shape z.0) (ok_is e))
    where
      shaped : object_shape pool see (o.enumeration name flags bits ls) ≡ shape (tree.enumeration name (ext_of flags) (r.in_octet bits) (map r.literal_of ls))
      shaped = ap (λ l. enumeration (ext_of flags) (r.in_octet bits) l) (maps r.literal_of literal_shape literal_in (λ l. refl) ls)
  object_agrees inside (o.bitmask name bits fs) n y e = (refl, shaped ∙ ap (λ z. shape z.0) (ok_is e))
    where
      shaped : object_shape pool see (o.bitmask name bits fs) ≡ shape (tree.bitmask name (r.in_octet bits) (map r.flag_of fs))
      shaped = ap (λ l. bitmask (r.in_octet bits) l) (maps r.flag_of flag_shape flag_in (λ f. refl) fs)
  object_agrees inside (o.structure name flags base ms) n y e =
      let b = bind_ok (bases 15 pool go (ext_of flags) inside base n) (λ b. behind b.0.1 (r.members go inside ms b.1) >>= λ all. Ok (tree.structure (record { name = name; ext = ext_of flags; nested = bit flags 8; hashed_ids = bit flags 16; bases = b.0.0 }) (members_of all.0), all.1)) y e in
      let own = bases_agree 15 inside (ext_of flags) base n b.0 b.1 in
      let a = bind_ok (behind b.0.0.1 (r.members go inside ms b.0.1)) (λ all. Ok (tree.structure (record { name = name; ext = ext_of flags; nested = bit flags 8; hashed_ids = bit flags 16; bases = b.0.0.0 }) (members_of all.0), all.1)) y b.2 in
      let agree = behind_agrees inside (inherited 15 pool base) b.0.0.1 ms b.0.1 a.0 own.1 a.1 in
      let is : (tree.structure (record { name = name; ext = ext_of flags; nested = bit flags 8; hashed_ids = bit flags 16; bases = b.0.0.0 }) (members_of a.0.0), a.0.1) ≡ y = ok_is a.2 in
      let members : members_in see (all_parts pool base ms) ≡ member_shapes (members_of a.0.0) = from_seen see (all_parts pool base ms) ∙ ap members_from agree.1 ∙ sym (from_trees a.0.0) in
      (and_from (has_bases 15 pool base) (parts_pass test (all_parts pool base ms)) own.0 agree.0, ap (structure (ext_of flags)) members ∙ ap (λ z. shape z.0) is)
  object_agrees inside (o.union name flags disc_flags disc cs) n y e =
      let b = bind_ok (part go S.Disc inside disc_flags disc n) (λ d. r.cases go inside cs d.1 >>= λ all. Ok (tree.union (record { name = name; ext = ext_of flags; nested = bit flags 8; hashed_ids = bit flags 16; disc_key = bit disc_flags 32 }) d.0.1 (cases_of all.0), all.1)) y e in
      let d = part_agrees S.Disc inside disc_flags disc n b.0 b.1 in
      let a = bind_ok (r.cases go inside cs b.0.1) (λ all. Ok (tree.union (record { name = name; ext = ext_of flags; nested = bit flags 8; hashed_ids = bit flags 16; disc_key = bit disc_flags 32 }) b.0.0.1 (cases_of all.0), all.1)) y b.2 in
      let rest = cases_agree inside cs b.0.1 a.0 a.1 in
      let is : (tree.union (record { name = name; ext = ext_of flags; nested = bit flags 8; hashed_ids = bit flags 16; disc_key = bit disc_flags 32 }) b.0.0.1 (cases_of a.0.0), a.0.1) ≡ y = ok_is a.2 in (
        and_from (test disc) (arms_pass test (map arm_in cs)) d.1 rest.0,
        ap (λ s. union (ext_of flags) (bit disc_flags 32) s (cases_in see (map arm_in cs))) d.2 ∙ ap (λ c. union (ext_of flags) (bit disc_flags 32) (shape b.0.0.1) c) rest.1 ∙ ap (λ z. shape z.0) is,
      )

  node_agrees : (inside : List HashId) (t : Identifier) (n : ℕ) (y : Tree × ℕ) → node pool go inside t n ≡ Ok y → (level_test pool test t ≡ true) × (level pool see t ≡ shape y.0)
  node_agrees inside o.none n y e = absurd (not_ok e)
  node_agrees inside (o.prim p) n y e = (refl, ap (λ z. shape z.0) (ok_is e))
  node_agrees inside (o.str b) n y e = (refl, ap (λ z. shape z.0) (ok_is e))
  node_agrees inside (o.sequence ek flags bound t) n y e =
      let b = bind_ok (part go S.Element inside flags t n) (λ z. Ok (tree.sequence bound z.0.0 z.0.1, z.1)) y e in
      let p = part_agrees S.Element inside flags t n b.0 b.1 in
      let is : (tree.sequence bound b.0.0.0 b.0.0.1, b.0.1) ≡ y = ok_is b.2 in
      (p.1, ap (λ c. sequence bound c (see t)) (sym p.0) ∙ ap (sequence bound b.0.0.0) p.2 ∙ ap (λ z. shape z.0) is)
  node_agrees inside (o.array ek flags dims t) n y e =
      let b = bind_ok (part go S.Element inside flags t n) (λ z. Ok (tree.array dims z.0.0 z.0.1, z.1)) y e in
      let p = part_agrees S.Element inside flags t n b.0 b.1 in
      let is : (tree.array dims b.0.0.0 b.0.0.1, b.0.1) ≡ y = ok_is b.2 in
      (p.1, ap (λ c. array dims c (see t)) (sym p.0) ∙ ap (array dims b.0.0.0) p.2 ∙ ap (λ z. shape z.0) is)
  node_agrees inside (o.map_of ek flags bound v key_flags k) n y e =
      let b = bind_ok (part go S.Entry inside flags v n) (λ z. part go S.Key inside key_flags k z.1 >>= λ q. Ok (tree.map_of bound q.0.0 q.0.1 z.0.0 z.0.1, q.1)) y e in
      let value = part_agrees S.Entry inside flags v n b.0 b.1 in
      let c = bind_ok (part go S.Key inside key_flags k b.0.1) (λ q. Ok (tree.map_of bound q.0.0 q.0.1 b.0.0.0 b.0.0.1, q.1)) y b.2 in
      let key = part_agrees S.Key inside key_flags k b.0.1 c.0 c.1 in
      let is : (tree.map_of bound c.0.0.0 c.0.0.1 b.0.0.0 b.0.0.1, c.0.1) ≡ y = ok_is c.2 in (
        and_from (test k) (test v) key.1 value.1,
        ap (λ a. map_of bound a (see k) (try_of flags) (see v)) (sym key.0) ∙ ap (λ a. map_of bound c.0.0.0 (see k) a (see v)) (sym value.0) ∙ ap (λ a. map_of bound c.0.0.0 a b.0.0.0 (see v)) key.2 ∙ ap (λ a. map_of bound c.0.0.0 (shape c.0.0.1) b.0.0.0 a) value.2 ∙ ap (λ z. shape z.0) is,
      )
  node_agrees inside (o.hash id) n y e =
      let b = bind_ok (follow pool inside id) (λ x. of_object pool go (id ∷ inside) x n) y e in
      let there = follow_ok pool inside id b.0 b.1 in
      let own = object_agrees (id ∷ inside) b.0 n y b.2 in
      subst (λ x. (found_test pool test x ≡ true) × (found_shape pool see x ≡ shape y.0)) (sym there) own

-- ---- the walk

pub walk_seen : (pool : Texts) (levels : ℕ) (inside : List HashId) (t : Identifier) (n : ℕ) (y : Tree × ℕ) → walk levels pool inside t n ≡ Ok y → (is_within levels pool t ≡ true) × (shape_within levels pool t ≡ shape y.0)
unfolding walk is_within shape_within
walk_seen pool zero inside t n y e = absurd (not_ok e)
walk_seen pool (suc levels) inside t n y e =
    node_agrees pool (λ i u m. walk levels pool i u m) (λ u. is_within levels pool u) (λ u. shape_within levels pool u) (λ i u m x d. walk_seen pool levels i u m x d) inside t (n + 1) y
    (cond_ok (nat_lt n 65536) (node pool (λ i u m. walk levels pool i u m) inside t (n + 1)) (of_whole 16) y e)

settled_is : (id : HashId) (x : Result Tree Stop) (t : Tree) → settled id x ≡ Ok t → x ≡ Ok t
settled_is id (Ok u) t e = ap (λ z. Ok z) (by (type_fault u) e)
  where
    by : (f : Option (ℕ × List Step)) → checked id u f ≡ Ok t → u ≡ t
    by None e = ok_is e
    by (Some f) e = absurd (not_ok e)
settled_is id (Err stop) t e = absurd (not_ok e)

-- an identifier that resolves is seen, and its shape is that of its type
pub resolved_seen : (pool : Texts) (id : HashId) (t : Tree) → resolved pool id ≡ Ok t → (is_seen pool (o.hash id) ≡ true) × (shape_in pool (o.hash id) ≡ shape t)
unfolding resolved walked is_seen shape_in
resolved_seen pool id t e =
    let b = bind_ok (walk 16 pool [] (o.hash id) 0) (λ z. Ok z.0) t (settled_is id (walk 16 pool [] (o.hash id) 0 >>= λ z. Ok z.0) t e) in
    let s = walk_seen pool 16 [] (o.hash id) 0 b.0 b.1 in
    (s.0, s.1 ∙ ap shape (ok_is b.2))
