-- The search for a member by its name, one member on.
use Rattle.std.proofs.Common.{◌≡◌, refl, ℕ, ◌+◌, ◌<◌, ◌≤◌, List, length, get_or, drop, Bool, cond, None, bytes_eq}
use Rattle.std.proofs.lemmas.List.{drop_more, drop_all}
use Rattle.type_trees.specs.declared.types.Member.{Member}
use Rattle.type_trees.specs.declared.values.Slot.{Slot}
use Rattle.type_trees.specs.Trees.{Members, no_members, member}
use Rattle.xt_shapes.specs.Vals.{no_slots}
use Rattle.type_trees.specs.View.{tree, members_tree, body_val, slots_val}
use Rattle.type_trees.proofs.Views.{member_tree_is}
use Rattle.json_values.specs.Names.{name_text}
use Rattle.dynamic_data.specs.Reach.{body_at, reached, member_reached}

no_slot : (ms : Members) (n : List ℕ) (ns : List (List ℕ)) → member_reached ms n ns no_slots ≡ None
no_slot no_members n ns = refl
no_slot (member head t ms) n ns = refl

pub reach_past : (ms : List Member) (ss : List Slot) (at : ℕ) (n : List ℕ) (ns : List (List ℕ)) → length ss ≤ at → member_reached (members_tree (drop at ms)) n ns (slots_val (drop at ss)) ≡ None
reach_past ms ss at n ns past = rw (drop_all at ss past) (no_slot (members_tree (drop at ms)) n ns)

pub reach_next : (b : Bool) (ms : List Member) (ss : List Slot) (at : ℕ) (m : Member) (d : Slot) (n : List ℕ) (ns : List (List ℕ)) → at < length ms → at < length ss → m ≡ get_or ms at m → b ≡ bytes_eq (name_text m.name) n
    → member_reached (members_tree (drop at ms)) n ns (slots_val (drop at ss)) ≡ cond b (body_at (reached (tree m.ty) ns) (body_val (get_or ss at d))) (member_reached (members_tree (drop (at + 1) ms)) n ns (slots_val (drop (at + 1) ss)))
reach_next b ms ss at m d n ns p q is named = rw (drop_more ms at m p, drop_more ss at d q, ← is, member_tree_is m, named) refl
