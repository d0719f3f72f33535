-- A walk that comes to its end does so with fewer identifiers around it, more levels left, and fewer nodes before it, too.
use Rattle.std.proofs.Common.{◌≡◌, ℕ, zero, suc, ◌+◌, ◌<◌, ◌≤◌, Bool, true, false, cond, List, [], ◌∷◌, ◌++◌, Option, Some, None, Result, Ok, Err, refl, sym, ap, subst, ◌∙◌, arith}
use Rattle.std.specs.Prelude.{nat_lt, ◌||◌}
use Rattle.std.proofs.lemmas.Bool.{ltb-true, lt-ltb}
use Rattle.xt_shapes.specs.declared.leaves.Ext.{Ext}
use Rattle.xt_shapes.specs.declared.leaves.Step.{Step}
use Rattle.xt_shapes.specs.declared.leaves.Step.TheVariants as S
use Rattle.xt_shapes.specs.Kinds.{same_ext}
use Rattle.type_trees.specs.declared.types.HashId.{HashId}
use Rattle.type_trees.specs.Trees as tree
use Rattle.type_trees.specs.Trees.{Tree, MemberHead, CaseHead}
use Rattle.type_rules.specs.Valid.{type_fault}
use Rattle.object_formats.specs.Objects as o
use Rattle.object_formats.specs.Objects.{Identifier, MemberPart, CasePart, Object}
use Rattle.type_trees.specs.Ids.{same_id}
use Rattle.type_object.specs.Pools.{Texts, object_at}
use Rattle.type_object.specs.References.{is_among}
use Rattle.object_walks.specs.Resolving as r
use Rattle.object_walks.specs.Resolving.{Stop, Refusal, Got, Walk, Standing, ◌>>=◌, follow, present, repeated, of_whole, node, named, of_object, walk, walked, part, under, try_of, ext_of, each, behind, of_base, base_at, bases, from_base, based, checked, settled, resolved, member_head, case_head}
use Rattle.object_walks.specs.Laws.{by_itself}

ok_is : {A E : Type 0} {x y : A} → ◌≡◌ {A = Result A E} (Ok x) (Ok y) → x ≡ y
ok_is e = cc

not_ok : {A E : Type 0} {x : E} {y : A} → Err x ≡ Ok y → ⊥
not_ok e = cc

bind_ok : {A B : Type 0} (x : Result A Stop) (f : A → Result B Stop) (b : B) → (x >>= f) ≡ Ok b → (a : A) × (x ≡ Ok a) × (f a ≡ Ok b)
bind_ok (Ok a) f b e = (a, refl, e)
bind_ok (Err s) f b e = absurd (not_ok e)

under_ok : {A : Type 0} (s : Step) (x : Result A Stop) (a : A) → under s x ≡ Ok a → x ≡ Ok a
under_ok s (Ok x) a e = e
under_ok s (Err stop) a e = absurd (not_ok e)

first_ok : {A : Type 0} (b : Bool) (x : Result A Stop) (s : Stop) (a : A) → cond b x (Err s) ≡ Ok a → (b ≡ true) × (x ≡ Ok a)
first_ok true x s a e = (refl, e)
first_ok false x s a e = absurd (not_ok e)

else_ok : {A : Type 0} (b : Bool) (x : Result A Stop) (s : Stop) (a : A) → cond b (Err s) x ≡ Ok a → (b ≡ false) × (x ≡ Ok a)
else_ok true x s a e = absurd (not_ok e)
else_ok false x s a e = (refl, e)

present_ok : (id : HashId) (x : Option Object) (a : Object) → present id x ≡ Ok a → x ≡ Some a
present_ok id None a e = absurd (not_ok e)
present_ok id (Some x) a e = ap (λ y. Some y) (ok_is e)

follow_ok : (pool : Texts) (inside : List HashId) (id : HashId) (x : Object) → follow pool inside id ≡ Ok x → object_at id pool ≡ Some x
follow_ok pool inside id x e = present_ok id (object_at id pool) x (else_ok (is_among id inside) (present id (object_at id pool)) (repeated id) x e).1

-- ---- fewer identifiers around

abbrev pub Fewer : List HashId → List HashId → Type 0
Fewer few many = (id : HashId) → is_among id many ≡ false → is_among id few ≡ false

fewer_more : (few many : List HashId) (id : HashId) → Fewer few many → Fewer (id ∷ few) (id ∷ many)
fewer_more few many id h i e = by (same_id i id) (h i) e
  where
    by : (b : Bool) → (is_among i many ≡ false → is_among i few ≡ false) → (b || is_among i many) ≡ false → (b || is_among i few) ≡ false
    by true g e = absurd cc
    by false g e = g e

fewest : (many : List HashId) → Fewer [] many
fewest many id e = refl

follow_fewer : (pool : Texts) (few many : List HashId) (id : HashId) (x : Object) → Fewer few many → follow pool many id ≡ Ok x → follow pool few id ≡ Ok x
follow_fewer pool few many id x h e =
    let t = else_ok (is_among id many) (present id (object_at id pool)) (repeated id) x e in
    ap (λ b. cond b (Err (repeated id)) (present id (object_at id pool))) (h id t.0) ∙ t.1

-- ---- what two walks that count nodes each their own way find: R holds of the counts

module _ (R : ℕ → ℕ → Type 0) where
  abbrev pub Freer : {A : Type 0} → (ℕ → Got A) → (ℕ → Got A) → Type 0
  Freer {A} f g = (n k : ℕ) → R n k → (x : A × ℕ) → f n ≡ Ok x → (j : ℕ) × (g k ≡ Ok (x.0, j)) × R x.1 j

  then_freer : {A B : Type 0} (f g : ℕ → Got A) (h i : A × ℕ → Got B) → Freer f g → ((a : A) → Freer (λ n. h (a, n)) (λ k. i (a, k))) → Freer (λ n. f n >>= h) (λ k. g k >>= i)
  then_freer f g h i one next n k counts x e =
      let b = bind_ok (f n) h x e in
      let c = one n k counts b.0 b.1 in
      let d = next b.0.0 b.0.1 c.0 c.2 x b.2 in
      (d.0, ap (λ y. y >>= i) c.1 ∙ d.1, d.2)

  ret_freer : {A : Type 0} (v : A) → Freer (λ n. Ok (v, n)) (λ k. Ok (v, k))
  ret_freer v n k counts x e =
      let is : (v, n) ≡ x = ok_is e in
      (k, ap (λ y. Ok (y, k)) (ap (λ z. z.0) is), subst (λ z. R z.1 k) is counts)

  stop_freer : {A : Type 0} (s : Stop) (g : ℕ → Got A) → Freer (λ n. Err s) g
  stop_freer s g n k counts x e = absurd (not_ok e)

  test_freer : {A : Type 0} (b : Bool) (s : Stop) (f g : ℕ → Got A) → Freer f g → Freer (λ n. cond b (f n) (Err s)) (λ k. cond b (g k) (Err s))
  test_freer true s f g h = h
  test_freer false s f g h = stop_freer s (λ k. Err s)

  each_freer : {P X : Type 0} (one other : P → ℕ → Got X) → ((p : P) → Freer (one p) (other p)) → (ps : List P) → Freer (each one ps) (each other ps)
  each_freer one other h [] = ret_freer []
  each_freer one other h (p ∷ ps) =
      then_freer (one p) (other p) _ _ (h p) (λ x. then_freer (each one ps) (each other ps) _ _ (each_freer one other h ps) (λ xs. ret_freer (x ∷ xs)))

  -- ---- with two ways to walk on

  module _ (pool : Texts) (go to : Walk) (free : (many few : List HashId) → Fewer few many → (t : Identifier) → Freer (go many t) (to few t)) where
    part_freer : (step : Step) (many few : List HashId) → Fewer few many → (flags : ℕ) (t : Identifier) → Freer (part go step many flags t) (part to step few flags t)
    part_freer step many few h flags t =
        then_freer (λ n. under step (go many t n)) (λ k. under step (to few t k)) _ _
        (λ n k counts x e. let d = free many few h t n k counts x (under_ok step (go many t n) x e) in (d.0, ap (under step) d.1, d.2))
        (λ x. ret_freer (try_of flags, x))

    members_freer : (many few : List HashId) → Fewer few many → (ms : List MemberPart) → Freer (r.members go many ms) (r.members to few ms)
    members_freer many few h ms = each_freer (r.member go many) (r.member to few) (λ m. then_freer (part go (S.Member m.id) many m.flags m.ty) (part to (S.Member m.id) few m.flags m.ty) _ _ (part_freer (S.Member m.id) many few h m.flags m.ty) (λ t. ret_freer (member_head m, t.1))) ms

    cases_freer : (many few : List HashId) → Fewer few many → (cs : List CasePart) → Freer (r.cases go many cs) (r.cases to few cs)
    cases_freer many few h cs = each_freer (r.case go many) (r.case to few) (λ c. then_freer (part go (S.Member c.id) many c.flags c.ty) (part to (S.Member c.id) few c.flags c.ty) _ _ (part_freer (S.Member c.id) many few h c.flags c.ty) (λ t. ret_freer (case_head c, t.1))) cs

    behind_freer : {A : Type 0} (before : List A) (f g : ℕ → Got (List A)) → Freer f g → Freer (λ n. behind before (f n)) (λ k. behind before (g k))
    behind_freer before f g h = then_freer f g _ _ h (λ more. ret_freer (before ++ more))

    from_base_freer : (one other : HashId → ℕ → Got Standing) → ((id : HashId) → Freer (one id) (other id)) → (t : Identifier) → Freer (from_base one t) (from_base other t)
    from_base_freer one other h o.none = ret_freer ([], [])
    from_base_freer one other h (o.hash id) = h id
    from_base_freer one other h (o.prim p) = stop_freer (of_whole 17) _
    from_base_freer one other h (o.str n) = stop_freer (of_whole 17) _
    from_base_freer one other h (o.sequence ek f b t) = stop_freer (of_whole 17) _
    from_base_freer one other h (o.array ek f d t) = stop_freer (of_whole 17) _
    from_base_freer one other h (o.map_of ek f b v kf k) = stop_freer (of_whole 17) _

    of_base_freer : (own other : Identifier → ℕ → Got Standing) → ((t : Identifier) → Freer (own t) (other t)) → (many few : List HashId) → Fewer few many → (ext : Ext) (x : Object) → Freer (of_base go own many ext x) (of_base to other few ext x)
    of_base_freer own other hs many few h ext (o.structure name flags base ms) =
        test_freer (same_ext (ext_of flags) ext) (of_whole 17) _ _
        (then_freer (own base) (other base) _ _ (hs base) (λ b.
        then_freer (λ n. behind b.1 (r.members go many ms n)) (λ k. behind b.1 (r.members to few ms k)) _ _ (behind_freer b.1 (r.members go many ms) (r.members to few ms) (members_freer many few h ms)) (λ all. ret_freer (based name flags b.0 all))))
    of_base_freer own other hs many few h ext (o.alias n t) = stop_freer (of_whole 17) _
    of_base_freer own other hs many few h ext (o.enumeration n f b ls) = stop_freer (of_whole 17) _
    of_base_freer own other hs many few h ext (o.bitmask n b fs) = stop_freer (of_whole 17) _
    of_base_freer own other hs many few h ext (o.union n f df d cs) = stop_freer (of_whole 17) _

    follow_freer : {A : Type 0} (many few : List HashId) (id : HashId) → Fewer few many → (f g : Object → ℕ → Got A) → ((x : Object) → Freer (f x) (g x)) → Freer (λ n. follow pool many id >>= λ x. f x n) (λ k. follow pool few id >>= λ x. g x k)
    follow_freer many few id h f g next n k counts y e =
        let b = bind_ok (follow pool many id) (λ x. f x n) y e in
        let d = next b.0 n k counts y b.2 in
        (d.0, ap (λ z. z >>= λ x. g x k) (follow_fewer pool few many id b.0 h b.1) ∙ d.1, d.2)

    base_freer : (room : ℕ) (ext : Ext) (many few : List HashId) → Fewer few many → (id : HashId) → Freer (base_at room pool go ext many id) (base_at room pool to ext few id)
    unfolding base_at
    base_freer zero ext many few h id = stop_freer (r.at_node 18 []) _
    base_freer (suc room) ext many few h id =
        let inner = fewer_more few many id h in
        follow_freer many few id h _ _ (λ x. of_base_freer _ _ (λ t. from_base_freer _ _ (λ i. base_freer room ext (id ∷ many) (id ∷ few) inner i) t) (id ∷ many) (id ∷ few) inner ext x)

    object_freer : (many few : List HashId) → Fewer few many → (x : Object) → Freer (of_object pool go many x) (of_object pool to few x)
    object_freer many few h (o.alias name related) = then_freer (go many related) (to few related) _ _ (free many few h related) (λ t. ret_freer (tree.alias name t))
    object_freer many few h (o.enumeration name flags bits ls) = ret_freer _
    object_freer many few h (o.bitmask name bits fs) = ret_freer _
    object_freer many few h (o.structure name flags base ms) =
        then_freer (bases 15 pool go (ext_of flags) many base) (bases 15 pool to (ext_of flags) few base) _ _ (from_base_freer _ _ (base_freer 15 (ext_of flags) many few h) base) (λ b.
        then_freer (λ n. behind b.1 (r.members go many ms n)) (λ k. behind b.1 (r.members to few ms k)) _ _ (behind_freer b.1 (r.members go many ms) (r.members to few ms) (members_freer many few h ms)) (λ all. ret_freer _))
    object_freer many few h (o.union name flags disc_flags disc cs) =
        then_freer (part go S.Disc many disc_flags disc) (part to S.Disc few disc_flags disc) _ _ (part_freer S.Disc many few h disc_flags disc) (λ d.
        then_freer (r.cases go many cs) (r.cases to few cs) _ _ (cases_freer many few h cs) (λ all. ret_freer _))

    named_freer : (many few : List HashId) → Fewer few many → (id : HashId) → Freer (named pool go many id) (named pool to few id)
    named_freer many few h id = follow_freer many few id h _ _ (λ x. object_freer (id ∷ many) (id ∷ few) (fewer_more few many id h) x)

    node_freer : (many few : List HashId) → Fewer few many → (t : Identifier) → Freer (node pool go many t) (node pool to few t)
    node_freer many few h o.none = stop_freer (of_whole 17) _
    node_freer many few h (o.prim p) = ret_freer (tree.prim p)
    node_freer many few h (o.str bound) = ret_freer (tree.str bound)
    node_freer many few h (o.sequence ek flags bound t) = then_freer (part go S.Element many flags t) (part to S.Element few flags t) _ _ (part_freer S.Element many few h flags t) (λ x. ret_freer (tree.sequence bound x.0 x.1))
    node_freer many few h (o.array ek flags dims t) = then_freer (part go S.Element many flags t) (part to S.Element few flags t) _ _ (part_freer S.Element many few h flags t) (λ x. ret_freer (tree.array dims x.0 x.1))
    node_freer many few h (o.map_of ek flags bound v key_flags k) =
        then_freer (part go S.Entry many flags v) (part to S.Entry few flags v) _ _ (part_freer S.Entry many few h flags v) (λ x.
        then_freer (part go S.Key many key_flags k) (part to S.Key few key_flags k) _ _ (part_freer S.Key many few h key_flags k) (λ y. ret_freer (tree.map_of bound y.0 y.1 x.0 x.1)))
    node_freer many few h (o.hash id) = named_freer many few h id

-- ---- the walk

abbrev Below : ℕ → ℕ → Type 0
Below n k = k ≤ n

level_freer : (f g : ℕ → Got Tree) → Freer Below f g → Freer Below (λ n. cond (nat_lt n 65536) (f (n + 1)) (Err (of_whole 16))) (λ k. cond (nat_lt k 65536) (g (k + 1)) (Err (of_whole 16)))
level_freer f g h n k counts x e =
    let t = first_ok (nat_lt n 65536) (f (n + 1)) (of_whole 16) x e in
    let under : n < 65536 = ltb-true n 65536 t.0 in
    let d = h (n + 1) (k + 1) (omega arith) x t.1 in
    let few : nat_lt k 65536 ≡ true = lt-ltb k 65536 (omega arith) in
    (d.0, ap (λ b. cond b (g (k + 1)) (Err (of_whole 16))) few ∙ d.1, d.2)

pub walk_freer : (levels more : ℕ) → levels ≤ more → (pool : Texts) (many few : List HashId) → Fewer few many → (t : Identifier) → Freer Below (walk levels pool many t) (walk more pool few t)
unfolding walk
walk_freer zero more le pool many few h t = stop_freer Below (r.at_node 15 []) _
walk_freer (suc levels) zero le pool many few h t = absurd (omega arith)
walk_freer (suc levels) (suc more) le pool many few h t =
    level_freer _ _ (node_freer Below pool (λ i u m. walk levels pool i u m) (λ i u m. walk more pool i u m) (λ wide thin g u. walk_freer levels more (omega arith) pool wide thin g u) many few h t)

-- ---- the laws

longer : (a b : ℕ) → (c : ℕ) × (a ≤ c) × (b ≤ c)
longer a b = (a + b, omega arith, omega arith)

pub tree_is_one : (pool : Texts) (t : Identifier) (levels more : ℕ) (inside within : List HashId) (n k : ℕ) (x y : Tree × ℕ) → walk levels pool inside t n ≡ Ok x → walk more pool within t k ≡ Ok y → x.0 ≡ y.0
tree_is_one pool t levels more inside within n k x y e d =
    let c = longer levels more in
    let one = walk_freer levels c.0 c.1 pool inside [] (fewest inside) t n 0 (omega arith) x e in
    let other = walk_freer more c.0 c.2 pool within [] (fewest within) t k 0 (omega arith) y d in
    ap (λ (z : Tree × ℕ). z.0) (let same : (let a : Result (Tree × ℕ) Stop = Ok (x.0, one.0) in a) ≡ Ok (y.0, other.0) = sym one.1 ∙ other.1 in ok_is same)

abbrev Uncounted : ℕ → ℕ → Type 0
Uncounted n k = k ≡ 0

itself_freer : (levels : ℕ) → levels ≤ 16 → (pool : Texts) (many few : List HashId) → Fewer few many → (t : Identifier) → Freer Uncounted (walk levels pool many t) (by_itself pool few t)
itself_freer levels le pool many few h t n k counts x e =
    let d = walk_freer levels 16 le pool many [] (fewest many) t n 0 (omega arith) x e in
    (k, ap (λ z. z >>= λ r. Ok (r.0, k)) d.1, counts)

object_of_walk : (pool : Texts) (id : HashId) (x : Tree × ℕ) → walk 16 pool [] (o.hash id) 0 ≡ Ok x → named pool (λ i u m. walk 15 pool i u m) [] id 1 ≡ Ok x
unfolding walk
object_of_walk pool id x e = e

walked_ok : (pool : Texts) (id : HashId) (t : Tree) → walked pool id ≡ Ok t → (x : Tree × ℕ) × (walk 16 pool [] (o.hash id) 0 ≡ Ok x) × (x.0 ≡ t)
unfolding walked
walked_ok pool id t e = let b = bind_ok (walk 16 pool [] (o.hash id) 0) (λ r. Ok r.0) t e in (b.0, b.1, ok_is b.2)

same_object : (a b : Object) (found : Option Object) → found ≡ Some a → found ≡ Some b → a ≡ b
same_object a b found e d = cc

pub parts_are_walked : (pool : Texts) (id : HashId) (x : Object) (t : Tree) → walked pool id ≡ Ok t → object_at id pool ≡ Some x → of_object pool (by_itself pool) [] x 0 ≡ Ok (t, 0)
parts_are_walked pool id x t e there =
    let go : Walk = λ i u m. walk 15 pool i u m in
    let w = walked_ok pool id t e in
    let b = bind_ok (follow pool [] id) (λ y. of_object pool go (id ∷ []) y 1) w.0 (object_of_walk pool id w.0 w.1) in
    let same : b.0 ≡ x = same_object b.0 x (object_at id pool) (follow_ok pool [] id b.0 b.1) there in
    let found : of_object pool go (id ∷ []) x 1 ≡ Ok w.0 = ap (λ y. of_object pool go (id ∷ []) y 1) (sym same) ∙ b.2 in
    let free : (many few : List HashId) → Fewer few many → (u : Identifier) → Freer Uncounted (go many u) (by_itself pool few u) = λ many few h u. itself_freer 15 (omega arith) pool many few h u in
    let d = object_freer Uncounted pool go (by_itself pool) free (id ∷ []) [] (fewest (id ∷ [])) x 1 0 refl w.0 found in
    d.1 ∙ ap (λ (j : ℕ). Ok (w.0.0, j)) d.2 ∙ ap (λ (u : Tree). Ok (u, 0)) w.2

checked_ok : (id : HashId) (u : Tree) (fault : Option (ℕ × List Step)) (t : Tree) → checked id u fault ≡ Ok t → u ≡ t
checked_ok id u None t e = ok_is e
checked_ok id u (Some f) t e = absurd (not_ok e)

settled_ok : (id : HashId) (w : Result Tree Stop) (t : Tree) → settled id w ≡ Ok t → w ≡ Ok t
settled_ok id (Ok u) t e = ap (λ (x : Tree). Ok x) (checked_ok id u (type_fault u) t e)
settled_ok id (Err s) t e = absurd (not_ok e)

pub resolved_is_walked : (pool : Texts) (id : HashId) (t : Tree) → resolved pool id ≡ Ok t → walked pool id ≡ Ok t
unfolding resolved
resolved_is_walked pool id t e = settled_ok id (walked pool id) t e
