-- The last of the bases, and the first members.
use Rattle.std.proofs.Common.{◌≡◌, refl, ℕ, zero, suc, List, [], ◌∷◌, ◌++◌, Some, ap, take}
use Rattle.type_trees.specs.declared.types.Base.{Base}
use Rattle.type_trees.specs.declared.types.Member.{Member}
use Rattle.type_trees.specs.Bases.{take_members, split_last, head_of, base_from}
use Rattle.type_trees.specs.Trees.{StructHead, Members, member, structure}
use Rattle.type_trees.specs.declared.types.StructType.{StructType, out-StructType}
use Rattle.type_trees.specs.View.{members_tree, member_tree, struct_tree}
use Rattle.type_trees.proofs.Views.{struct_tree_is}
use Rattle.type_values.specs.BaseTrees.{base_tree}

pub first_members : (n : ℕ) (ms : List Member) → members_tree (take n ms) ≡ take_members n (members_tree ms)
first_members zero ms = refl
first_members (suc n) [] = refl
first_members (suc n) (m ∷ ms) = ap (member (member_tree m).0 (member_tree m).1) (first_members n ms)

at_last : (b : Base) (bs : List Base) (last : Base) → split_last b (bs ++ last ∷ []) ≡ (b ∷ bs, last)
at_last b [] last = refl
at_last b (c ∷ cs) last = ap (λ (r : List Base × Base). (b ∷ r.0, r.1)) (at_last c cs last)

pub base_at_last : (before : List Base) (last : Base) (head : StructHead) (ms : Members) → base_from (before ++ last ∷ []) head ms ≡ Some (head_of head (before, last), take_members last.count ms)
base_at_last [] last head ms = refl
base_at_last (b ∷ bs) last head ms = ap (λ (r : List Base × Base). Some (head_of head r, take_members r.1.count ms)) (at_last b bs last)

-- what is made of the last base and the first members is the base
pub base_is : (t : StructType) (before : List Base) (last : Base) (first : Members) → (out-StructType t).bases ≡ before ++ last ∷ [] → first ≡ take_members last.count (members_tree (out-StructType t).members)
    → Some (structure (record { name = last.name; ext = (out-StructType t).ext; nested = last.nested; hashed_ids = last.hashed_ids; bases = before }) first) ≡ base_tree (struct_tree t)
base_is t before last first bases members = rw (struct_tree_is t, bases, base_at_last before last, members) refl
