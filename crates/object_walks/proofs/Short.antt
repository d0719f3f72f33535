-- A walk that may go so many levels down ends at most so many steps away.
use Rattle.std.proofs.Common.{ℕ, zero, suc, ◌+◌, ◌≤◌, Bool, true, false, cond, List, [], ◌∷◌, length, Option, Some, None, subst, arith}
use Rattle.std.specs.Prelude.{Result, Ok, Err, nat_lt}
use Rattle.xt_shapes.specs.Kinds.{same_ext}
use Rattle.xt_shapes.specs.declared.leaves.Ext.{Ext}
use Rattle.xt_shapes.specs.declared.leaves.Step.{Step}
use Rattle.xt_shapes.specs.declared.leaves.Step.TheVariants as S
use Rattle.type_trees.specs.declared.types.HashId.{HashId}
use Rattle.type_trees.specs.Trees.{Tree}
use Rattle.object_formats.specs.Objects as o
use Rattle.object_formats.specs.Objects.{Identifier, MemberPart, CasePart, Object}
use Rattle.type_object.specs.Pools.{Texts, object_at}
use Rattle.type_object.specs.References.{is_among}
use Rattle.object_walks.specs.declared.stops.Stop.{Stop as Code}
use Rattle.object_walks.specs.declared.stops.Stop.TheVariants as stops
use Rattle.object_walks.specs.Resolving.{Stop, absent, repeated, at_node, of_whole, Got, ◌>>=◌, Walk, under, part, each, member, members, case, cases, behind, present, follow, Standing, of_base, from_base, base_at, bases, of_object, node, walk, ext_of}
use Rattle.object_walks.specs.Walking.{Ends, IsShort}

abbrev pub IsWithin : {A : Type 0} → ℕ → Result A Stop → Type 0
IsWithin n (Ok x) = Unit {0}
IsWithin n (Err (absent id)) = Unit {0}
IsWithin n (Err (repeated id)) = Unit {0}
IsWithin n (Err (at_node rule path)) = length path ≤ n
IsWithin n (Err (of_whole rule)) = Unit {0}

within_then : {A B : Type 0} (n : ℕ) (r : Result A Stop) (f : A → Result B Stop) → IsWithin n r → ((x : A) → IsWithin n (f x)) → IsWithin n (r >>= f)
within_then n (Ok x) f h g = g x
within_then n (Err (absent id)) f h g = tt
within_then n (Err (repeated id)) f h g = tt
within_then n (Err (at_node rule path)) f h g = h
within_then n (Err (of_whole rule)) f h g = tt

within_under : {A : Type 0} (n : ℕ) (step : Step) (r : Result A Stop) → IsWithin n r → IsWithin (suc n) (under step r)
within_under n step (Ok x) h = tt
within_under n step (Err (absent id)) h = tt
within_under n step (Err (repeated id)) h = tt
within_under n step (Err (at_node rule path)) h = omega arith
within_under n step (Err (of_whole rule)) h = tt

within_more : {A : Type 0} (n : ℕ) (r : Result A Stop) → IsWithin n r → IsWithin (suc n) r
within_more n (Ok x) h = tt
within_more n (Err (absent id)) h = tt
within_more n (Err (repeated id)) h = tt
within_more n (Err (at_node rule path)) h = omega arith
within_more n (Err (of_whole rule)) h = tt

within_each : {P X : Type 0} (k : ℕ) (one : P → ℕ → Got X) → ((p : P) (n : ℕ) → IsWithin k (one p n)) → (ps : List P) (n : ℕ) → IsWithin k (each one ps n)
within_each k one h [] n = tt
within_each k one h (p ∷ ps) n = within_then k (one p n) _ (h p n) (λ x. within_then k (each one ps x.1) _ (within_each k one h ps x.1) (λ xs. tt))

within_behind : {A : Type 0} (k : ℕ) (before : List A) (r : Got (List A)) → IsWithin k r → IsWithin k (behind before r)
within_behind k before r h = within_then k r _ h (λ x. tt)

within_follow : (k : ℕ) (pool : Texts) (inside : List HashId) (id : HashId) → IsWithin k (follow pool inside id)
within_follow k pool inside id = by (is_among id inside)
  where
    there : (found : Option Object) → IsWithin k (present id found)
    there None = tt
    there (Some x) = tt

    by : (b : Bool) → IsWithin k (cond b (Err (repeated id)) (present id (object_at id pool)))
    by true = tt
    by false = there (object_at id pool)

module _ (k : ℕ) (pool : Texts) (go : Walk) (h : (i : List HashId) (t : Identifier) (n : ℕ) → IsWithin k (go i t n)) where
  within_part : (step : Step) (inside : List HashId) (flags : ℕ) (t : Identifier) (n : ℕ) → IsWithin (suc k) (part go step inside flags t n)
  within_part step inside flags t n = within_then (suc k) (under step (go inside t n)) _ (within_under k step (go inside t n) (h inside t n)) (λ x. tt)

  within_members : (inside : List HashId) (ms : List MemberPart) (n : ℕ) → IsWithin (suc k) (members go inside ms n)
  within_members inside = within_each (suc k) (member go inside) (λ m n. within_then (suc k) (part go (S.Member m.id) inside m.flags m.ty n) _ (within_part (S.Member m.id) inside m.flags m.ty n) (λ x. tt))

  within_cases : (inside : List HashId) (cs : List CasePart) (n : ℕ) → IsWithin (suc k) (cases go inside cs n)
  within_cases inside = within_each (suc k) (case go inside) (λ m n. within_then (suc k) (part go (S.Member m.id) inside m.flags m.ty n) _ (within_part (S.Member m.id) inside m.flags m.ty n) (λ x. tt))

  within_from : (base : HashId → ℕ → Got Standing) → ((id : HashId) (n : ℕ) → IsWithin (suc k) (base id n)) → (t : Identifier) (n : ℕ) → IsWithin (suc k) (from_base base t n)
  within_from base f o.none n = tt
  within_from base f (o.prim p) n = tt
  within_from base f (o.str bound) n = tt
  within_from base f (o.sequence ek fl bound t) n = tt
  within_from base f (o.array ek fl dims t) n = tt
  within_from base f (o.map_of ek fl bound v kf t) n = tt
  within_from base f (o.hash id) n = f id n

  within_cond : {A : Type 0} (b : Bool) (x y : Result A Stop) → IsWithin (suc k) x → IsWithin (suc k) y → IsWithin (suc k) (cond b x y)
  within_cond true x y f g = f
  within_cond false x y f g = g

  within_of_base : (own : Identifier → ℕ → Got Standing) → ((t : Identifier) (n : ℕ) → IsWithin (suc k) (own t n)) → (inside : List HashId) (ext : Ext) (x : Object) (n : ℕ) → IsWithin (suc k) (of_base go own inside ext x n)
  within_of_base own f inside ext (o.alias name t) n = tt
  within_of_base own f inside ext (o.enumeration name fl bits ls) n = tt
  within_of_base own f inside ext (o.bitmask name bits fs) n = tt
  within_of_base own f inside ext (o.structure name fl base ms) n =
      within_cond (same_ext (ext_of fl) ext) _ _ (within_then (suc k) (own base n) _ (f base n) (λ b. within_then (suc k) (behind b.0.1 (members go inside ms b.1)) _ (within_behind (suc k) b.0.1 (members go inside ms b.1) (within_members inside ms b.1)) (λ all. tt))) tt
  within_of_base own f inside ext (o.union name fl dfl disc cs) n = tt

  within_base_at : (room : ℕ) (ext : Ext) (inside : List HashId) (id : HashId) (n : ℕ) → IsWithin (suc k) (base_at room pool go ext inside id n)
  unfolding base_at
  within_base_at zero ext inside id n = omega arith
  within_base_at (suc room) ext inside id n =
      within_then (suc k) (follow pool inside id) _ (within_follow (suc k) pool inside id)
      (λ x. within_of_base (from_base (base_at room pool go ext (id ∷ inside))) (within_from (base_at room pool go ext (id ∷ inside)) (within_base_at room ext (id ∷ inside))) (id ∷ inside) ext x n)

  within_bases : (room : ℕ) (ext : Ext) (inside : List HashId) (t : Identifier) (n : ℕ) → IsWithin (suc k) (bases room pool go ext inside t n)
  within_bases room ext inside = within_from (base_at room pool go ext inside) (within_base_at room ext inside)

  within_object : (inside : List HashId) (x : Object) (n : ℕ) → IsWithin (suc k) (of_object pool go inside x n)
  within_object inside (o.alias name t) n = within_then (suc k) (go inside t n) _ (within_more k (go inside t n) (h inside t n)) (λ x. tt)
  within_object inside (o.enumeration name fl bits ls) n = tt
  within_object inside (o.bitmask name bits fs) n = tt
  within_object inside (o.structure name fl base ms) n =
      within_then (suc k) (bases 15 pool go (ext_of fl) inside base n) _ (within_bases 15 (ext_of fl) inside base n) (λ b. within_then (suc k) (behind b.0.1 (members go inside ms b.1)) _ (within_behind (suc k) b.0.1 (members go inside ms b.1) (within_members inside ms b.1)) (λ all. tt))
  within_object inside (o.union name fl dfl disc cs) n =
      within_then (suc k) (part go S.Disc inside dfl disc n) _ (within_part S.Disc inside dfl disc n) (λ d. within_then (suc k) (cases go inside cs d.1) _ (within_cases inside cs d.1) (λ all. tt))

  within_node : (inside : List HashId) (t : Identifier) (n : ℕ) → IsWithin (suc k) (node pool go inside t n)
  within_node inside o.none n = tt
  within_node inside (o.prim p) n = tt
  within_node inside (o.str bound) n = tt
  within_node inside (o.sequence ek fl bound t) n = within_then (suc k) (part go S.Element inside fl t n) _ (within_part S.Element inside fl t n) (λ x. tt)
  within_node inside (o.array ek fl dims t) n = within_then (suc k) (part go S.Element inside fl t n) _ (within_part S.Element inside fl t n) (λ x. tt)
  within_node inside (o.map_of ek fl bound v kf t) n = within_then (suc k) (part go S.Entry inside fl v n) _ (within_part S.Entry inside fl v n) (λ x. within_then (suc k) (part go S.Key inside kf t x.1) _ (within_part S.Key inside kf t x.1) (λ y. tt))
  within_node inside (o.hash id) n = within_then (suc k) (follow pool inside id) _ (within_follow (suc k) pool inside id) (λ x. within_object (id ∷ inside) x n)

within_counted : (levels : ℕ) (b : Bool) (found : Got Tree) → IsWithin (suc levels) found → IsWithin (suc levels) (cond b found (Err (of_whole 16)))
within_counted levels true found h = h
within_counted levels false found h = tt

pub within_walk : (levels : ℕ) (pool : Texts) (inside : List HashId) (t : Identifier) (n : ℕ) → IsWithin levels (walk levels pool inside t n)
unfolding walk
within_walk zero pool inside t n = omega arith
within_walk (suc levels) pool inside t n =
    within_counted levels (nat_lt n 65536) (node pool (λ i u m. walk levels pool i u m) inside t (n + 1)) (within_node levels pool (λ i u m. walk levels pool i u m) (λ i u m. within_walk levels pool i u m) inside t (n + 1))

short_stop : {A : Type 0} (stop : Code) (found : Result A Stop) (n k : ℕ) → n ≤ k → Ends stop found → IsWithin n found → IsShort k stop
short_stop (stops.Missing id) found n k le e h = tt
short_stop (stops.Recursive id) found n k le e h = tt
short_stop (stops.AtNode fault) found n k le e h = let p : length fault.node ≤ n = subst (λ r. IsWithin n r) e h in omega arith
short_stop (stops.OfWhole rule) found n k le e h = tt
short_stop stops.OutOfMemory found n k le e h = tt

pub walk_short : (stop : Code) (levels : ℕ) (pool : Texts) (inside : List HashId) (t : Identifier) (n : ℕ) → levels ≤ 15 → Ends stop (walk levels pool inside t n) → IsShort 15 stop
walk_short stop levels pool inside t n le e = short_stop stop (walk levels pool inside t n) levels 15 le e (within_walk levels pool inside t n)
