-- The shapes of members and cases, one on.
use Rattle.std.proofs.Common.{◌≡◌, refl, ℕ, ◌+◌, ◌<◌, List, ◌∷◌, length, get_or, drop}
use Rattle.std.proofs.lemmas.List.{drop_more}
use Rattle.type_trees.specs.declared.types.Member.{Member}
use Rattle.type_trees.specs.declared.types.Case.{Case}
use Rattle.type_trees.proofs.Views.{member_tree_is, case_tree_is}
use Rattle.xt_shapes.specs.Shape.{member, one_case}
use Rattle.type_trees.specs.Bridge.{type_shape, members_shape, cases_shape, member_head, case_head}

pub members_shape_first : (m : Member) (ms : List Member) → members_shape (m ∷ ms) ≡ member (member_head m) (type_shape m.ty) (members_shape ms)
members_shape_first m ms = rw (member_tree_is m) refl

pub cases_shape_first : (c : Case) (cs : List Case) → cases_shape (c ∷ cs) ≡ one_case (case_head c) (type_shape c.ty) (cases_shape cs)
cases_shape_first c cs = rw (case_tree_is c) refl

pub members_shape_at : (ms : List Member) (i : ℕ) (m : Member) → i < length ms → m ≡ get_or ms i m
    → members_shape (drop i ms) ≡ member (member_head m) (type_shape m.ty) (members_shape (drop (i + 1) ms))
members_shape_at ms i m within is = rw (drop_more ms i m within, ← is) (members_shape_first m (drop (i + 1) ms))

pub cases_shape_at : (cs : List Case) (i : ℕ) (c : Case) → i < length cs → c ≡ get_or cs i c
    → cases_shape (drop i cs) ≡ one_case (case_head c) (type_shape c.ty) (cases_shape (drop (i + 1) cs))
cases_shape_at cs i c within is = rw (drop_more cs i c within, ← is) (cases_shape_first c (drop (i + 1) cs))
