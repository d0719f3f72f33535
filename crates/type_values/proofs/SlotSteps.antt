-- Slots beside members, one of each on.
use Rattle.std.proofs.Common.{◌≡◌, refl, ℕ, suc, ◌+◌, ◌<◌, ◌≤◌, List, [], ◌∷◌, length, get_or, drop, Bool, true, false, ◌&&◌, ap}
use Rattle.std.proofs.lemmas.List.{drop_more, drop_all}
use Rattle.type_trees.specs.declared.types.Member.{Member}
use Rattle.type_trees.specs.declared.values.Slot.{Slot}
use Rattle.xt_shapes.specs.Typing.{has_type, have_types, of_slot}
use Rattle.type_trees.specs.Bridge.{type_shape, members_shape}
use Rattle.type_trees.specs.View.{slots_val, body_val}
use Rattle.type_trees.proofs.Views.{member_tree_is}

both_false : (b : Bool) → (b && false) ≡ false
both_false true = refl
both_false false = refl

pub slots_unequal : (ms : List Member) (ss : List Slot) → (length ms ≡ length ss → ⊥) → have_types (members_shape ms) (slots_val ss) ≡ false
unfolding have_types
slots_unequal [] [] h = absurd (h refl)
slots_unequal [] (s ∷ ss) h = refl
slots_unequal (m ∷ ms) [] h = refl
slots_unequal (m ∷ ms) (s ∷ ss) h = rw (slots_unequal ms ss (λ e. h (ap suc e))) (both_false _)

pub slots_step : (b : Bool) (ms : List Member) (ss : List Slot) (i : ℕ) (m : Member) (s : Slot) → i < length ms → i < length ss → m ≡ get_or ms i m → s ≡ get_or ss i s
    → b ≡ of_slot m.optional (λ w. has_type (type_shape m.ty) w) (body_val s)
    → have_types (members_shape (drop i ms)) (slots_val (drop i ss)) ≡ (b && have_types (members_shape (drop (i + 1) ms)) (slots_val (drop (i + 1) ss)))
unfolding have_types
slots_step b ms ss i m s p q is_m is_s fits = rw (drop_more ms i m p, drop_more ss i s q, ← is_m, ← is_s, member_tree_is m, fits) refl

pub slots_end : (ms : List Member) (ss : List Slot) (i : ℕ) → length ms ≤ i → length ss ≤ i → have_types (members_shape (drop i ms)) (slots_val (drop i ss)) ≡ true
unfolding have_types
slots_end ms ss i p q = rw (drop_all i ms p, drop_all i ss q) refl
