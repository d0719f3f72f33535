-- What a put comes to.
use Rattle.std.proofs.Common.{◌≡◌, ℕ, ◌≤◌, ◌<◌, Bool, true, false, List, [], ◌∷◌, ◌++◌, length, nat_le, refl, sym, ap, subst, if◌then◌else◌, arith}
use Rattle.std.specs.Prelude.{Result, Ok, Err, OnOk, OnErr, IsTrue}
use Rattle.std.proofs.lemmas.Bool.{both_ways}
use Rattle.std.proofs.lemmas.List.{length-append}
use Rattle.std.proofs.lemmas.List.Elements.{All-push}
use Rattle.key_instances.specs.kept.Kept.{InstancesOf, has_key, is_full}
use Rattle.key_instances.specs.Caches.{AreWithin}

pub on_ok : {X E P Q : Type 0} (r : Result X E) → (P → Q) → OnOk r P → OnOk r Q
on_ok (Ok x) f p = f p
on_ok (Err e) f p = tt

pub always_ok : {X E P : Type 0} (r : Result X E) → P → OnOk r P
always_ok (Ok x) p = p
always_ok (Err e) p = tt

-- a key that is there is never refused
pub not_full : {V : Type 0} (most : ℕ) (es : InstancesOf V) (key : List ℕ) → has_key key es ≡ true → IsTrue (is_full most es key) → ⊥
not_full most es key there full = by (has_key key es) there full
  where
    by : (h : Bool) → h ≡ true → IsTrue (if h then false else nat_le most (length es)) → ⊥
    by true e full = both_ways false refl full
    by false e full = both_ways false refl e

-- another is, where there are as many keys as may be
pub full_where : {V : Type 0} (most : ℕ) (es : InstancesOf V) (key : List ℕ) → has_key key es ≡ false → IsTrue (nat_le most (length es)) → IsTrue (is_full most es key)
full_where most es key absent all = by (has_key key es) absent
  where
    by : (h : Bool) → h ≡ false → IsTrue (if h then false else nat_le most (length es))
    by false e = all
    by true e = absurd (both_ways true e refl)

-- a key more
pub pushed_within : {X E V : Type 0} (r : Result X E) (n : ℕ) (es fs : InstancesOf V) (key : List ℕ) (v : V) → 1 ≤ n → AreWithin n es
    → OnOk r (fs ≡ es ++ (key, v ∷ []) ∷ []) → OnErr r (fs ≡ es) → AreWithin n fs
pushed_within (Ok x) n es fs key v one all ok err = subst (AreWithin n) (sym ok) (All-push (λ e. length e.1 ≤ n) es (key, v ∷ []) all one)
pushed_within (Err e) n es fs key v one all ok err = subst (AreWithin n) (sym err) all

pub pushed_few : {X E V : Type 0} (r : Result X E) (most : ℕ) (es fs : InstancesOf V) (key : List ℕ) (v : V) → length es < most
    → OnOk r (fs ≡ es ++ (key, v ∷ []) ∷ []) → OnErr r (fs ≡ es) → length fs ≤ most
pushed_few (Ok x) most es fs key v room ok err = let more = ap length ok in omega (arith, more, room, length-append es ((key, v ∷ []) ∷ []))
pushed_few (Err e) most es fs key v room ok err = let same = ap length err in omega (arith, same, room)
