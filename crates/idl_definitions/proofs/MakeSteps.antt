-- A type with dimensions and without, and the members of a base.
use Rattle.std.proofs.Common.{◌≡◌, ℕ, suc, ◌<◌, ◌≤◌, ◌+◌, ◌-◌, fold, get_or, List, [], ◌∷◌, ◌++◌, map, length, refl, sym, ap, ◌∙◌, append_assoc, arith}
use Rattle.std.proofs.lemmas.List.{map_push, append-nil}
use Rattle.xt_shapes.specs.declared.leaves.Try.{Try}
use Rattle.type_trees.specs.Trees.{Tree, array}
use Rattle.type_trees.specs.View.{members_of}
use Rattle.idl_types.specs.State.{Declared}
use Rattle.idl_types.specs.declared.declarations.UsedMember.{UsedMember}
use Rattle.idl_types.specs.Definitions.{ListedMembers, listed, member_whole}
use Rattle.idl_definitions.specs.Members.{with_dims}
use Rattle.idl_definitions.specs.Structures.{following}

pub no_dims : (t : Tree) (ds : List ℕ) → length ds ≡ 0 → with_dims t ds ≡ t
no_dims t [] none = refl
no_dims t (d ∷ ds) none = absurd (omega arith)

pub some_dims : (t : Tree) (ds : List ℕ) → 0 < length ds → with_dims t ds ≡ array ds Try.Discard t
some_dims t [] some = absurd (omega arith)
some_dims t (d ∷ ds) some = refl

pub listed_back : (ms : ListedMembers) → listed (members_of ms) ≡ ms
listed_back [] = refl
listed_back (m ∷ ms) = ap (λ r. m ∷ r) (listed_back ms)

pub member_pushed : (ts : Declared) (before : ListedMembers) (ms : List UsedMember) (m : UsedMember)
    → before ++ map (member_whole ts) (ms ++ m ∷ []) ≡ (before ++ map (member_whole ts) ms) ++ member_whole ts m ∷ []
member_pushed ts before ms m = ap (λ l. before ++ l) (map_push (member_whole ts) ms m) ∙ sym (append_assoc before (map (member_whole ts) ms) (member_whole ts m ∷ []))

pub no_own : (ts : Declared) (before : ListedMembers) → before ++ map (member_whole ts) [] ≡ before
no_own ts before = append-nil before

fold_behind : (n : ℕ) (xs ys : ListedMembers) → fold (λ _ x. x.0.id + 1) n (xs ++ ys) ≡ fold (λ _ x. x.0.id + 1) (fold (λ _ x. x.0.id + 1) n xs) ys
fold_behind n [] ys = refl
fold_behind n (x ∷ xs) ys = fold_behind (x.0.id + 1) xs ys

own_last : (ts : Declared) (n : ℕ) (ms : List UsedMember) (d : UsedMember) → 1 ≤ length ms → fold (λ _ x. x.0.id + 1) n (map (member_whole ts) ms) ≡ (get_or ms (length ms - 1) d).id + 1
own_last ts n [] d some = absurd (omega arith)
own_last ts n (m ∷ []) d some = refl
own_last ts n (m ∷ k ∷ ms) d some =
    let on : suc (length (k ∷ ms) - 1) ≡ length (m ∷ k ∷ ms) - 1 = omega arith in
    own_last ts (m.id + 1) (k ∷ ms) d (omega arith) ∙ ap (λ i. (get_or (m ∷ k ∷ ms) i d).id + 1) on

-- the id after the last of a structure's own members
pub last_follows : (ts : Declared) (before : ListedMembers) (ms : List UsedMember) (d : UsedMember) → 1 ≤ length ms
    → following (listed (members_of (before ++ map (member_whole ts) ms))) ≡ (get_or ms (length ms - 1) d).id + 1
last_follows ts before ms d some =
    ap following (listed_back (before ++ map (member_whole ts) ms)) ∙ fold_behind 0 before (map (member_whole ts) ms) ∙ own_last ts (following before) ms d some

pub none_own : (ts : Declared) (before : ListedMembers) (ms : List UsedMember) → length ms < 1 → following (listed (members_of (before ++ map (member_whole ts) ms))) ≡ following before
none_own ts before [] none = ap following (listed_back (before ++ []) ∙ append-nil before)
none_own ts before (m ∷ ms) none = absurd (omega arith)
