-- What a walk that comes to its end went through: below each identifier are those in its object, and none is met inside itself.
use Rattle.std.proofs.Common.{◌≡◌, ℕ, zero, suc, ◌+◌, Bool, true, false, cond, List, [], ◌∷◌, Option, Some, None, Result, Ok, Err, refl}
use Rattle.std.specs.Prelude.{OnOk, nat_lt}
use Rattle.xt_shapes.specs.declared.leaves.Ext.{Ext}
use Rattle.xt_shapes.specs.declared.leaves.Step.{Step}
use Rattle.xt_shapes.specs.declared.leaves.Step.TheVariants as S
use Rattle.xt_shapes.specs.Kinds.{same_ext}
use Rattle.type_trees.specs.declared.types.HashId.{HashId}
use Rattle.type_trees.specs.Trees.{Tree}
use Rattle.object_formats.specs.Objects as o
use Rattle.object_formats.specs.Objects.{Identifier, MemberPart, CasePart, Object}
use Rattle.type_object.specs.Pools.{Texts, object_at}
use Rattle.type_object.specs.References.{hashes, member_hashes, case_hashes, in_order, is_among}
use Rattle.object_walks.specs.Resolving.{Stop, repeated, of_whole, Got, Walk, Standing, ◌>>=◌, part, under, member, members, case, cases, behind, follow, present, of_base, from_base, base_at, bases, ext_of, of_object, named, node, walk, walked, settled, resolved}
use Rattle.xt_recorder.proofs.Among.{AllIn, all_none, all_one, all_append, itself_in}

-- inside others, which it is none of, it has an object, and each identifier in that hangs inside these and it
pub data Hangs (pool : Texts) : List HashId → HashId → Type 0 where
  hangs : {inside : List HashId} {id : HashId} (x : Object) → object_at id pool ≡ Some x → is_among id inside ≡ false → ((r : HashId) → is_among r (in_order x) ≡ true → Hangs pool (id ∷ inside) r) → Hangs pool inside id

-- ---- facts of what comes to its end

on_all : {A : Type 0} (P : Type 0) (r : Result A Stop) → P → OnOk r P
on_all P (Ok x) p = p
on_all P (Err s) p = tt

from_ok : {A P Q : Type 0} (r : Result A Stop) → (P → Q) → OnOk r P → OnOk r Q
from_ok (Ok x) f p = f p
from_ok (Err s) f p = tt

from_both : {A P Q R : Type 0} (r : Result A Stop) → (P → Q → R) → OnOk r P → OnOk r Q → OnOk r R
from_both (Ok x) f p q = f p q
from_both (Err s) f p q = tt

then_first : {A B : Type 0} (P : Type 0) (r : Result A Stop) (f : A → Result B Stop) → OnOk r P → OnOk (r >>= f) P
then_first P (Ok x) f p = on_all P (f x) p
then_first P (Err s) f p = tt

then_next : {A B : Type 0} (P : Type 0) (r : Result A Stop) (f : A → Result B Stop) → ((x : A) → OnOk (f x) P) → OnOk (r >>= f) P
then_next P (Ok x) f h = h x
then_next P (Err s) f h = tt

of_under : {A : Type 0} (P : Type 0) (step : Step) (r : Result A Stop) → OnOk r P → OnOk (under step r) P
of_under P step (Ok x) p = p
of_under P step (Err s) p = tt

of_test : {A : Type 0} (P : Type 0) (b : Bool) (r : Result A Stop) (s : Stop) → OnOk r P → OnOk (cond b r (Err s)) P
of_test P true r s p = p
of_test P false r s p = tt

module _ (pool : Texts) where
  abbrev AllHang : List HashId → List HashId → Type 0
  AllHang inside ids = AllIn (Hangs pool inside) ids

  then_follow : {B : Type 0} (inside : List HashId) (id : HashId) (f : Object → Result B Stop) → ((x : Object) → OnOk (f x) (AllHang (id ∷ inside) (in_order x))) → OnOk (follow pool inside id >>= f) (Hangs pool inside id)
  then_follow inside id f h = by (is_among id inside) refl
    where
      there : (found : Option Object) → object_at id pool ≡ found → is_among id inside ≡ false → OnOk (present id found >>= f) (Hangs pool inside id)
      there None e new = tt
      there (Some x) e new = from_ok (f x) (λ parts. hangs x e new parts) (h x)

      by : (b : Bool) → is_among id inside ≡ b → OnOk (cond b (Err (repeated id)) (present id (object_at id pool)) >>= f) (Hangs pool inside id)
      by true e = tt
      by false e = there (object_at id pool) refl e

  module _ (go : Walk) (hang : (inside : List HashId) (t : Identifier) (n : ℕ) → OnOk (go inside t n) (AllHang inside (hashes t))) where
    hang_part : (step : Step) (inside : List HashId) (flags : ℕ) (t : Identifier) (n : ℕ) → OnOk (part go step inside flags t n) (AllHang inside (hashes t))
    hang_part step inside flags t n = then_first (AllHang inside (hashes t)) (under step (go inside t n)) _ (of_under (AllHang inside (hashes t)) step (go inside t n) (hang inside t n))

    hang_members : (inside : List HashId) (ms : List MemberPart) (n : ℕ) → OnOk (members go inside ms n) (AllHang inside (member_hashes ms))
    hang_members inside [] n = all_none (Hangs pool inside)
    hang_members inside (m ∷ ms) n =
        from_both (members go inside (m ∷ ms) n) (all_append (Hangs pool inside) (hashes m.ty) (member_hashes ms))
        (then_first (AllHang inside (hashes m.ty)) (member go inside m n) _ (then_first (AllHang inside (hashes m.ty)) (part go (S.Member m.id) inside m.flags m.ty n) _ (hang_part (S.Member m.id) inside m.flags m.ty n)))
        (then_next (AllHang inside (member_hashes ms)) (member go inside m n) _ (λ x. then_first (AllHang inside (member_hashes ms)) (members go inside ms x.1) _ (hang_members inside ms x.1)))

    hang_cases : (inside : List HashId) (cs : List CasePart) (n : ℕ) → OnOk (cases go inside cs n) (AllHang inside (case_hashes cs))
    hang_cases inside [] n = all_none (Hangs pool inside)
    hang_cases inside (c ∷ cs) n =
        from_both (cases go inside (c ∷ cs) n) (all_append (Hangs pool inside) (hashes c.ty) (case_hashes cs))
        (then_first (AllHang inside (hashes c.ty)) (case go inside c n) _ (then_first (AllHang inside (hashes c.ty)) (part go (S.Member c.id) inside c.flags c.ty n) _ (hang_part (S.Member c.id) inside c.flags c.ty n)))
        (then_next (AllHang inside (case_hashes cs)) (case go inside c n) _ (λ x. then_first (AllHang inside (case_hashes cs)) (cases go inside cs x.1) _ (hang_cases inside cs x.1)))

    -- ---- bases

    hang_from : (inside : List HashId) (base : HashId → ℕ → Got Standing) → ((id : HashId) (n : ℕ) → OnOk (base id n) (Hangs pool inside id)) → (t : Identifier) (n : ℕ) → OnOk (from_base base t n) (AllHang inside (hashes t))
    hang_from inside base h o.none n = all_none (Hangs pool inside)
    hang_from inside base h (o.hash id) n = from_ok (base id n) (all_one (Hangs pool inside) id) (h id n)
    hang_from inside base h (o.prim p) n = tt
    hang_from inside base h (o.str bound) n = tt
    hang_from inside base h (o.sequence ek f bound t) n = tt
    hang_from inside base h (o.array ek f dims t) n = tt
    hang_from inside base h (o.map_of ek f bound v kf k) n = tt

    hang_of_base : (own : Identifier → ℕ → Got Standing) (inside : List HashId) → ((t : Identifier) (n : ℕ) → OnOk (own t n) (AllHang inside (hashes t))) → (ext : Ext) (x : Object) (n : ℕ) → OnOk (of_base go own inside ext x n) (AllHang inside (in_order x))
    hang_of_base own inside h ext (o.structure name flags base ms) n =
        of_test (AllHang inside (in_order (o.structure name flags base ms))) (same_ext (ext_of flags) ext) _ _ (from_both _ (all_append (Hangs pool inside) (hashes base) (member_hashes ms))
        (then_first (AllHang inside (hashes base)) (own base n) _ (h base n))
        (then_next (AllHang inside (member_hashes ms)) (own base n) _ (λ b. then_first (AllHang inside (member_hashes ms)) (behind b.0.1 (members go inside ms b.1)) _ (then_first (AllHang inside (member_hashes ms)) (members go inside ms b.1) _ (hang_members inside ms b.1)))))
    hang_of_base own inside h ext (o.alias name t) n = tt
    hang_of_base own inside h ext (o.enumeration name flags bits ls) n = tt
    hang_of_base own inside h ext (o.bitmask name bits fs) n = tt
    hang_of_base own inside h ext (o.union name flags df d cs) n = tt

    hang_base : (room : ℕ) (ext : Ext) (inside : List HashId) (id : HashId) (n : ℕ) → OnOk (base_at room pool go ext inside id n) (Hangs pool inside id)
    unfolding base_at
    hang_base zero ext inside id n = tt
    hang_base (suc room) ext inside id n =
        then_follow inside id _ (λ x. hang_of_base (from_base (λ i m. base_at room pool go ext (id ∷ inside) i m)) (id ∷ inside) (hang_from (id ∷ inside) (λ i m. base_at room pool go ext (id ∷ inside) i m) (λ i m. hang_base room ext (id ∷ inside) i m)) ext x n)

    -- ---- nodes

    hang_object : (inside : List HashId) (x : Object) (n : ℕ) → OnOk (of_object pool go inside x n) (AllHang inside (in_order x))
    hang_object inside (o.alias name t) n = then_first (AllHang inside (hashes t)) (go inside t n) _ (hang inside t n)
    hang_object inside (o.enumeration name flags bits ls) n = all_none (Hangs pool inside)
    hang_object inside (o.bitmask name bits fs) n = all_none (Hangs pool inside)
    hang_object inside (o.structure name flags base ms) n =
        let own : Got Standing = bases 15 pool go (ext_of flags) inside base n in
        from_both (of_object pool go inside (o.structure name flags base ms) n) (all_append (Hangs pool inside) (hashes base) (member_hashes ms))
        (then_first (AllHang inside (hashes base)) own _ (hang_from inside (base_at 15 pool go (ext_of flags) inside) (hang_base 15 (ext_of flags) inside) base n))
        (then_next (AllHang inside (member_hashes ms)) own _ (λ b. then_first (AllHang inside (member_hashes ms)) (behind b.0.1 (members go inside ms b.1)) _ (then_first (AllHang inside (member_hashes ms)) (members go inside ms b.1) _ (hang_members inside ms b.1))))
    hang_object inside (o.union name flags df d cs) n =
        from_both (of_object pool go inside (o.union name flags df d cs) n) (all_append (Hangs pool inside) (hashes d) (case_hashes cs))
        (then_first (AllHang inside (hashes d)) (part go S.Disc inside df d n) _ (hang_part S.Disc inside df d n))
        (then_next (AllHang inside (case_hashes cs)) (part go S.Disc inside df d n) _ (λ b. then_first (AllHang inside (case_hashes cs)) (cases go inside cs b.1) _ (hang_cases inside cs b.1)))

    hang_node : (inside : List HashId) (t : Identifier) (n : ℕ) → OnOk (node pool go inside t n) (AllHang inside (hashes t))
    hang_node inside o.none n = tt
    hang_node inside (o.prim p) n = all_none (Hangs pool inside)
    hang_node inside (o.str bound) n = all_none (Hangs pool inside)
    hang_node inside (o.sequence ek flags bound t) n = then_first (AllHang inside (hashes t)) (part go S.Element inside flags t n) _ (hang_part S.Element inside flags t n)
    hang_node inside (o.array ek flags dims t) n = then_first (AllHang inside (hashes t)) (part go S.Element inside flags t n) _ (hang_part S.Element inside flags t n)
    hang_node inside (o.map_of ek flags bound v kf k) n =
        from_both (node pool go inside (o.map_of ek flags bound v kf k) n) (all_append (Hangs pool inside) (hashes v) (hashes k))
        (then_first (AllHang inside (hashes v)) (part go S.Entry inside flags v n) _ (hang_part S.Entry inside flags v n))
        (then_next (AllHang inside (hashes k)) (part go S.Entry inside flags v n) _ (λ r. then_first (AllHang inside (hashes k)) (part go S.Key inside kf k r.1) _ (hang_part S.Key inside kf k r.1)))
    hang_node inside (o.hash id) n = from_ok (named pool go inside id n) (all_one (Hangs pool inside) id) (then_follow inside id _ (λ x. hang_object (id ∷ inside) x n))

  hang_walk : (levels : ℕ) (inside : List HashId) (t : Identifier) (n : ℕ) → OnOk (walk levels pool inside t n) (AllHang inside (hashes t))
  unfolding walk
  hang_walk zero inside t n = tt
  hang_walk (suc levels) inside t n = of_test (AllHang inside (hashes t)) (nat_lt n 65536) (node pool (λ i u m. walk levels pool i u m) inside t (n + 1)) (of_whole 16) (hang_node (λ i u m. walk levels pool i u m) (λ i u m. hang_walk levels i u m) inside t (n + 1))

  settled_on : {P : Type 0} (id : HashId) (r : Got Tree) (t : Tree) → settled id (r >>= λ x. Ok x.0) ≡ Ok t → OnOk r P → P
  settled_on id (Ok x) t e p = p
  settled_on id (Err s) t e p = absurd (cc e)

  pub resolved_hangs : (id : HashId) (t : Tree) → resolved pool id ≡ Ok t → Hangs pool [] id
  unfolding resolved walked
  resolved_hangs id t e = settled_on id (walk 16 pool [] (o.hash id) 0) t e (hang_walk 16 [] (o.hash id) 0) id (itself_in id [])
