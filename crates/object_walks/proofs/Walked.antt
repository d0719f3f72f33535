-- A level of the walk, and a base.
use Rattle.std.proofs.Common.{◌≡◌, ℕ, zero, suc, ◌+◌, ◌-◌, ◌<◌, ◌≤◌, cond, List, [], ◌∷◌, sym, ap, subst, ◌∙◌, arith, rules, Bor}
use Rattle.std.proofs.lemmas.Bool.{lt-ltb, le-ltb}
use Rattle.std.specs.Prelude.{Result, Ok, Err, nat_lt}
use Rattle.xt_shapes.specs.declared.leaves.Ext.{Ext}
use Rattle.type_trees.specs.declared.types.HashId.{HashId}
use Rattle.type_trees.specs.declared.types.XType.{XType}
use Rattle.type_trees.specs.View.{tree}
use Rattle.object_formats.specs.Objects as o
use Rattle.object_formats.specs.Objects.{Identifier, Object}
use Rattle.type_object.specs.Pools.{Texts}
use Rattle.object_walks.specs.declared.inside.Inside.{Inside, the_lemmas}
use Rattle.object_walks.specs.declared.inside.Inside as places
use Rattle.object_walks.specs.declared.stops.Stop.{Stop as Code}
use Rattle.object_walks.specs.declared.stops.Stop.TheVariants as stops
use Rattle.object_walks.specs.Resolving.{of_whole, ◌>>=◌, Walk, follow, Standing, of_base, base_at, bases, node, walk, named, walked}
use Rattle.object_walks.specs.Walking.{Ends, Finds, Answers, ids}
use Rattle.object_walks.proofs.Ended.{ends_then, finds_then}

pub ids_none : ids places.Nothing ≡ []
ids_none = search (rules, the_lemmas)

pub ids_of : (id : HashId) (within : Bor Inside) → ids (places.Of id within) ≡ id ∷ ids within.now
ids_of id within = search (rules, the_lemmas)

module _ (pool : Texts) (inside : List HashId) (t : Identifier) where
  pub walk_none : (stop : Code) (levels n : ℕ) → levels ≡ 0 → stop ≡ stops.AtNode (record { rule = 15; node = [] }) → Ends stop (walk levels pool inside t n)
  unfolding walk
  walk_none stop levels n e is = subst (λ s. Ends s (walk levels pool inside t n)) (sym is) (ap (λ l. walk l pool inside t n) e)

  walk_suc : (levels n : ℕ) → 0 < levels → walk levels pool inside t n ≡ cond (nat_lt n 65536) (node pool (walk (levels - 1) pool) inside t (n + 1)) (Err (of_whole 16))
  unfolding walk
  walk_suc zero n lt = absurd (omega arith)
  walk_suc (suc levels) n lt =
      let e : levels ≡ suc levels - 1 = omega arith in
      ap (λ (l : ℕ). cond (nat_lt n 65536) (node pool (walk l pool) inside t (n + 1)) (Err (of_whole 16))) e

  pub walk_many : (levels n : ℕ) → 0 < levels → 65536 ≤ n → walk levels pool inside t n ≡ Err (of_whole 16)
  walk_many levels n lt le = walk_suc levels n lt ∙ ap (λ b. cond b (node pool (walk (levels - 1) pool) inside t (n + 1)) (Err (of_whole 16))) (le-ltb n 65536 le)

  walk_in : (levels n : ℕ) → 0 < levels → n < 65536 → walk levels pool inside t n ≡ node pool (walk (levels - 1) pool) inside t (n + 1)
  walk_in levels n lt le = walk_suc levels n lt ∙ ap (λ b. cond b (node pool (walk (levels - 1) pool) inside t (n + 1)) (Err (of_whole 16))) (lt-ltb n 65536 le)

  pub walk_on : (answer : Result XType Code) (levels n m : ℕ) → 0 < levels → n < 65536 → Finds tree answer m (node pool (walk (levels - 1) pool) inside t (n + 1)) → Finds tree answer m (walk levels pool inside t n)
  walk_on answer levels n m lt le h = subst (λ r. Finds tree answer m r) (sym (walk_in levels n lt le)) h

pub ruleset walk_rules = (walk_none, walk_many, walk_on)

module _ (pool : Texts) (go : Walk) (ext : Ext) (inside : List HashId) (id : HashId) where
  pub base_none : (stop : Code) (room n : ℕ) → room ≡ 0 → stop ≡ stops.AtNode (record { rule = 18; node = [] }) → Ends stop (bases room pool go ext inside (o.hash id) n)
  unfolding base_at
  base_none stop room n e is = subst (λ s. Ends s (bases room pool go ext inside (o.hash id) n)) (sym is) (ap (λ r. bases r pool go ext inside (o.hash id) n) e)

  pub base_suc : (room n : ℕ) → 0 < room → bases room pool go ext inside (o.hash id) n ≡ (follow pool inside id >>= λ x. of_base go (bases (room - 1) pool go ext (id ∷ inside)) (id ∷ inside) ext x n)
  unfolding base_at
  base_suc zero n lt = absurd (omega arith)
  base_suc (suc room) n lt =
      let e : room ≡ suc room - 1 = omega arith in
      ap (λ (r : ℕ). follow pool inside id >>= λ x. of_base go (bases r pool go ext (id ∷ inside)) (id ∷ inside) ext x n) e

  pub base_ends : (stop : Code) (room n : ℕ) → 0 < room → Ends stop (follow pool inside id) → Ends stop (bases room pool go ext inside (o.hash id) n)
  base_ends stop room n lt e = subst (λ r. Ends stop r) (sym (base_suc room n lt)) (ends_then stop (follow pool inside id) _ e)

  pub base_on : (answer : Result (Unit {0}) Code) (view : Unit {0} → Standing) (x : Object) (t : Identifier) (inner : List HashId) (room n m : ℕ) → 0 < room → t ≡ o.hash id → inner ≡ id ∷ inside → follow pool inside id ≡ Ok x → Finds view answer m (of_base go (bases (room - 1) pool go ext inner) inner ext x n) → Finds view answer m (bases room pool go ext inside t n)
  base_on answer view x t inner room n m lt named_so is e h =
      let within : Finds view answer m (of_base go (bases (room - 1) pool go ext (id ∷ inside)) (id ∷ inside) ext x n) = subst (λ i. Finds view answer m (of_base go (bases (room - 1) pool go ext i) i ext x n)) is h in
      let there : Finds view answer m (bases room pool go ext inside (o.hash id) n) = subst (λ r. Finds view answer m r) (sym (base_suc room n lt)) (finds_then view answer m (follow pool inside id) x _ e within) in
      subst (λ i. Finds view answer m (bases room pool go ext inside i n)) (sym named_so) there

pub ruleset base_rules = (base_none, base_suc, base_ends)

-- the walk from the top
pub walked_from : (answer : Result XType Code) (pool : Texts) (id : HashId) (inside : List HashId) (m : ℕ) → inside ≡ [] → Finds tree answer m (named pool (walk 15 pool) inside id 1) → Answers tree answer (walked pool id)
unfolding walked walk
walked_from answer pool id inside m none h = by answer (subst (λ i. Finds tree answer m (named pool (walk 15 pool) i id 1)) none h)
  where
    by : (a : Result XType Code) → Finds tree a m (named pool (walk 15 pool) [] id 1) → Answers tree a (walked pool id)
    by (Ok ty) e = ap (λ r. r >>= λ x. Ok x.0) e
    by (Err stop) e = ends_then stop (named pool (walk 15 pool) [] id 1) _ e
