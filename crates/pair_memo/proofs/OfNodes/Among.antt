-- One of some parts that are all seen.
use Rattle.std.proofs.Common.{◌≡◌, ℕ, zero, suc, ◌<◌, List, [], ◌∷◌, length, get_or, Bool, true, sym, subst, arith}
use Rattle.std.proofs.lemmas.Bool.{and_parts}
use Rattle.type_object.specs.Pools.{Texts}
use Rattle.pair_memo.specs.declared.nodes.parts.Part.{Part}
use Rattle.pair_memo.specs.declared.nodes.parts.Arm.{Arm}
use Rattle.pair_memo.specs.nodes.Seen.{is_seen}
use Rattle.pair_memo.specs.nodes.Views.{part_view, arm_view, parts_seen, arms_seen}

pub part_seen : (pool : Texts) (ps : List Part) (i : ℕ) (p : Part) → i < length ps → p ≡ get_or ps i p → parts_seen pool ps ≡ true → is_seen pool (part_view p).1 ≡ true
part_seen pool ps i p lt is h = subst (λ (x : Part). is_seen pool (part_view x).1 ≡ true) (sym is) (at ps i p lt h)
  where
    at : (ps : List Part) (i : ℕ) (d : Part) → i < length ps → parts_seen pool ps ≡ true → is_seen pool (part_view (get_or ps i d)).1 ≡ true
    at [] i d lt h = absurd (omega (arith, lt))
    at (x ∷ xs) zero d lt h = (and_parts (is_seen pool (part_view x).1) (parts_seen pool xs) h).0
    at (x ∷ xs) (suc i) d lt h = at xs i d (omega (arith, lt)) (and_parts (is_seen pool (part_view x).1) (parts_seen pool xs) h).1

pub arm_seen : (pool : Texts) (ps : List Arm) (i : ℕ) (p : Arm) → i < length ps → p ≡ get_or ps i p → arms_seen pool ps ≡ true → is_seen pool (arm_view p).1 ≡ true
arm_seen pool ps i p lt is h = subst (λ (x : Arm). is_seen pool (arm_view x).1 ≡ true) (sym is) (at ps i p lt h)
  where
    at : (ps : List Arm) (i : ℕ) (d : Arm) → i < length ps → arms_seen pool ps ≡ true → is_seen pool (arm_view (get_or ps i d)).1 ≡ true
    at [] i d lt h = absurd (omega (arith, lt))
    at (x ∷ xs) zero d lt h = (and_parts (is_seen pool (arm_view x).1) (arms_seen pool xs) h).0
    at (x ∷ xs) (suc i) d lt h = at xs i d (omega (arith, lt)) (and_parts (is_seen pool (arm_view x).1) (arms_seen pool xs) h).1
