-- Over pools that have the same objects under the identifiers that are reached, an identifier resolves alike.
use Rattle.std.proofs.Common.{◌≡◌, ℕ, zero, suc, ◌+◌, Bool, true, false, cond, List, [], ◌∷◌, Option, Some, None, Result, Ok, Err, refl, ap, ◌∙◌}
use Rattle.std.specs.Prelude.{nat_lt}
use Rattle.xt_shapes.specs.declared.leaves.Ext.{Ext}
use Rattle.xt_shapes.specs.declared.leaves.Step.{Step}
use Rattle.xt_shapes.specs.declared.leaves.Step.TheVariants as S
use Rattle.xt_shapes.specs.Kinds.{same_ext}
use Rattle.type_trees.specs.declared.types.HashId.{HashId}
use Rattle.type_trees.specs.Trees as tree
use Rattle.type_trees.specs.Trees.{Tree}
use Rattle.object_formats.specs.Objects as o
use Rattle.object_formats.specs.Objects.{Identifier, MemberPart, CasePart, Object}
use Rattle.type_object.specs.Pools.{Texts, object_at}
use Rattle.type_object.specs.References.{hashes, member_hashes, case_hashes, in_order, is_among}
use Rattle.object_walks.specs.Resolving.{Stop, repeated, of_whole, Got, Walk, Standing, ◌>>=◌, part, under, member, members, case, cases, behind, follow, present, based, of_base, from_base, base_at, bases, ext_of, try_of, member_head, case_head, of_object, node, walk, walked, settled, resolved}
use Rattle.xt_recorder.proofs.Among.{AllIn, all_left, all_right, itself_in}

-- ---- one after another

bind_same : {A B : Type 0} (x y : Result A Stop) (f g : A → Result B Stop) → x ≡ y → ((a : A) → f a ≡ g a) → (x >>= f) ≡ (y >>= g)
bind_same {A} x y f g e h = ap (λ z. z >>= f) e ∙ by y
  where
    by : (z : Result A Stop) → (z >>= f) ≡ (z >>= g)
    by (Ok a) = h a
    by (Err s) = refl

module _ (pool other : Texts) (P : HashId → Type 0) (agrees : (id : HashId) → P id → object_at id pool ≡ object_at id other) (parts : (id : HashId) (x : Object) → P id → object_at id other ≡ Some x → AllIn P (in_order x)) where
  -- what is found of an object that both have
  follow_same : {B : Type 0} (inside : List HashId) (id : HashId) (f g : Object → Result B Stop) → P id → ((x : Object) → AllIn P (in_order x) → f x ≡ g x) → (follow pool inside id >>= f) ≡ (follow other inside id >>= g)
  follow_same inside id f g p h = ap (λ found. cond (is_among id inside) (Err (repeated id)) (present id found) >>= f) (agrees id p) ∙ by (is_among id inside)
    where
      there : (found : Option Object) → object_at id other ≡ found → (present id found >>= f) ≡ (present id found >>= g)
      there None e = refl
      there (Some x) e = h x (parts id x p e)

      by : (b : Bool) → (cond b (Err (repeated id)) (present id (object_at id other)) >>= f) ≡ (cond b (Err (repeated id)) (present id (object_at id other)) >>= g)
      by true = refl
      by false = there (object_at id other) refl

  module _ (go to : Walk) (same : (inside : List HashId) (t : Identifier) (n : ℕ) → AllIn P (hashes t) → go inside t n ≡ to inside t n) where
    part_same : (step : Step) (inside : List HashId) (flags : ℕ) (t : Identifier) (n : ℕ) → AllIn P (hashes t) → part go step inside flags t n ≡ part to step inside flags t n
    part_same step inside flags t n h = ap (λ r. under step r >>= λ x. Ok ((try_of flags, x.0), x.1)) (same inside t n h)

    members_same : (inside : List HashId) (ms : List MemberPart) (n : ℕ) → AllIn P (member_hashes ms) → members go inside ms n ≡ members to inside ms n
    members_same inside [] n h = refl
    members_same inside (m ∷ ms) n h =
        bind_same (member go inside m n) (member to inside m n) _ _
        (ap (λ r. r >>= λ t. Ok ((member_head m, t.0.1), t.1)) (part_same (S.Member m.id) inside m.flags m.ty n (all_left P (hashes m.ty) (member_hashes ms) h)))
        (λ x. ap (λ r. r >>= λ xs. Ok (x.0 ∷ xs.0, xs.1)) (members_same inside ms x.1 (all_right P (hashes m.ty) (member_hashes ms) h)))

    cases_same : (inside : List HashId) (cs : List CasePart) (n : ℕ) → AllIn P (case_hashes cs) → cases go inside cs n ≡ cases to inside cs n
    cases_same inside [] n h = refl
    cases_same inside (c ∷ cs) n h =
        bind_same (case go inside c n) (case to inside c n) _ _
        (ap (λ r. r >>= λ t. Ok ((case_head c, t.0.1), t.1)) (part_same (S.Member c.id) inside c.flags c.ty n (all_left P (hashes c.ty) (case_hashes cs) h)))
        (λ x. ap (λ r. r >>= λ xs. Ok (x.0 ∷ xs.0, xs.1)) (cases_same inside cs x.1 (all_right P (hashes c.ty) (case_hashes cs) h)))

    -- ---- bases

    from_same : (one two : HashId → ℕ → Got Standing) → ((id : HashId) (n : ℕ) → P id → one id n ≡ two id n) → (t : Identifier) (n : ℕ) → AllIn P (hashes t) → from_base one t n ≡ from_base two t n
    from_same one two h o.none n p = refl
    from_same one two h (o.hash id) n p = h id n (p id (itself_in id []))
    from_same one two h (o.prim q) n p = refl
    from_same one two h (o.str bound) n p = refl
    from_same one two h (o.sequence ek f bound t) n p = refl
    from_same one two h (o.array ek f dims t) n p = refl
    from_same one two h (o.map_of ek f bound v kf k) n p = refl

    of_base_same : (one two : Identifier → ℕ → Got Standing) (inside : List HashId) → ((t : Identifier) (n : ℕ) → AllIn P (hashes t) → one t n ≡ two t n) → (ext : Ext) (x : Object) (n : ℕ) → AllIn P (in_order x) → of_base go one inside ext x n ≡ of_base to two inside ext x n
    of_base_same one two inside h ext (o.structure name flags base ms) n p =
        ap (λ (r : Got Standing). cond (same_ext (ext_of flags) ext) r (Err (of_whole 17)))
        (bind_same (one base n) (two base n) _ _ (h base n (all_left P (hashes base) (member_hashes ms) p))
        (λ b. ap (λ r. behind b.0.1 r >>= λ all. Ok (based name flags b.0.0 all.0, all.1)) (members_same inside ms b.1 (all_right P (hashes base) (member_hashes ms) p))))
    of_base_same one two inside h ext (o.alias name t) n p = refl
    of_base_same one two inside h ext (o.enumeration name flags bits ls) n p = refl
    of_base_same one two inside h ext (o.bitmask name bits fs) n p = refl
    of_base_same one two inside h ext (o.union name flags df d cs) n p = refl

    base_same : (room : ℕ) (ext : Ext) (inside : List HashId) (id : HashId) (n : ℕ) → P id → base_at room pool go ext inside id n ≡ base_at room other to ext inside id n
    unfolding base_at
    base_same zero ext inside id n p = refl
    base_same (suc room) ext inside id n p =
        let one : HashId → ℕ → Got Standing = λ i m. base_at room pool go ext (id ∷ inside) i m in
        let two : HashId → ℕ → Got Standing = λ i m. base_at room other to ext (id ∷ inside) i m in
        follow_same inside id (λ x. of_base go (from_base one) (id ∷ inside) ext x n) (λ x. of_base to (from_base two) (id ∷ inside) ext x n) p
        (λ x h. of_base_same (from_base one) (from_base two) (id ∷ inside) (from_same one two (λ i m q. base_same room ext (id ∷ inside) i m q)) ext x n h)

    -- ---- nodes

    object_same : (inside : List HashId) (x : Object) (n : ℕ) → AllIn P (in_order x) → of_object pool go inside x n ≡ of_object other to inside x n
    object_same inside (o.alias name t) n p = ap (λ r. r >>= λ u. Ok (tree.alias name u.0, u.1)) (same inside t n p)
    object_same inside (o.enumeration name flags bits ls) n p = refl
    object_same inside (o.bitmask name bits fs) n p = refl
    object_same inside (o.structure name flags base ms) n p =
        bind_same (bases 15 pool go (ext_of flags) inside base n) (bases 15 other to (ext_of flags) inside base n) _ _
        (from_same (base_at 15 pool go (ext_of flags) inside) (base_at 15 other to (ext_of flags) inside) (base_same 15 (ext_of flags) inside) base n (all_left P (hashes base) (member_hashes ms) p))
        (λ b. bind_same (behind b.0.1 (members go inside ms b.1)) (behind b.0.1 (members to inside ms b.1)) _ _ (ap (behind b.0.1) (members_same inside ms b.1 (all_right P (hashes base) (member_hashes ms) p))) (λ all. refl))
    object_same inside (o.union name flags df d cs) n p =
        bind_same (part go S.Disc inside df d n) (part to S.Disc inside df d n) _ _ (part_same S.Disc inside df d n (all_left P (hashes d) (case_hashes cs) p))
        (λ b. bind_same (cases go inside cs b.1) (cases to inside cs b.1) _ _ (cases_same inside cs b.1 (all_right P (hashes d) (case_hashes cs) p)) (λ all. refl))

    node_same : (inside : List HashId) (t : Identifier) (n : ℕ) → AllIn P (hashes t) → node pool go inside t n ≡ node other to inside t n
    node_same inside o.none n p = refl
    node_same inside (o.prim q) n p = refl
    node_same inside (o.str bound) n p = refl
    node_same inside (o.sequence ek flags bound t) n p = ap (λ r. r >>= λ x. Ok (tree.sequence bound x.0.0 x.0.1, x.1)) (part_same S.Element inside flags t n p)
    node_same inside (o.array ek flags dims t) n p = ap (λ r. r >>= λ x. Ok (tree.array dims x.0.0 x.0.1, x.1)) (part_same S.Element inside flags t n p)
    node_same inside (o.map_of ek flags bound v kf k) n p =
        bind_same (part go S.Entry inside flags v n) (part to S.Entry inside flags v n) _ _ (part_same S.Entry inside flags v n (all_left P (hashes v) (hashes k) p))
        (λ r. ap (λ z. z >>= λ q. Ok (tree.map_of bound q.0.0 q.0.1 r.0.0 r.0.1, q.1)) (part_same S.Key inside kf k r.1 (all_right P (hashes v) (hashes k) p)))
    node_same inside (o.hash id) n p =
        follow_same inside id (λ x. of_object pool go (id ∷ inside) x n) (λ x. of_object other to (id ∷ inside) x n) (p id (itself_in id [])) (λ x h. object_same (id ∷ inside) x n h)

  walk_same : (levels : ℕ) (inside : List HashId) (t : Identifier) (n : ℕ) → AllIn P (hashes t) → walk levels pool inside t n ≡ walk levels other inside t n
  unfolding walk
  walk_same zero inside t n p = refl
  walk_same (suc levels) inside t n p =
      ap (λ (r : Got Tree). cond (nat_lt n 65536) r (Err (of_whole 16))) (node_same (λ i u m. walk levels pool i u m) (λ i u m. walk levels other i u m) (λ i u m q. walk_same levels i u m q) inside t (n + 1) p)

  pub resolved_same : (id : HashId) → AllIn P (id ∷ []) → resolved pool id ≡ resolved other id
  unfolding resolved walked
  resolved_same id p = ap (λ r. settled id (r >>= λ x. Ok x.0)) (walk_same 16 [] (o.hash id) 0 p)
