-- Lists, members and cases compared side by side, one of each on.
use Rattle.std.proofs.Common.{◌≡◌, refl, ℕ, suc, ◌+◌, ◌<◌, List, [], ◌∷◌, length, get_or, drop, map, Bool, true, false, ◌&&◌, ap}
use Rattle.std.proofs.lemmas.List.{drop_more}
use Rattle.type_trees.specs.declared.types.Member.{Member}
use Rattle.type_trees.specs.declared.types.Case.{Case}
use Rattle.type_trees.specs.Bridge.{type_shape, members_shape, cases_shape, member_head, case_head}
use Rattle.type_trees.proofs.Shapes.{members_shape_at, cases_shape_at}
use Rattle.xcdr_model.specs.Equivalence.{each_pair, same_shape, same_head, same_case_head, same_members, same_cases}

both_false : (b : Bool) → (b && false) ≡ false
both_false true = refl
both_false false = refl

pub members_unequal : (ms ns : List Member) → (length ms ≡ length ns → ⊥) → same_members (members_shape ms) (members_shape ns) ≡ false
members_unequal [] [] h = absurd (h refl)
members_unequal [] (n ∷ ns) h = refl
members_unequal (m ∷ ms) [] h = refl
members_unequal (m ∷ ms) (n ∷ ns) h = rw (members_unequal ms ns (λ e. h (ap suc e))) (both_false _)

pub members_step : (b : Bool) (ms ns : List Member) (i : ℕ) (m n : Member) → i < length ms → i < length ns → m ≡ get_or ms i m → n ≡ get_or ns i n
    → b ≡ (same_head (member_head m) (member_head n) && same_shape (type_shape m.ty) (type_shape n.ty))
    → same_members (members_shape (drop i ms)) (members_shape (drop i ns)) ≡ (b && same_members (members_shape (drop (i + 1) ms)) (members_shape (drop (i + 1) ns)))
members_step b ms ns i m n p q is_m is_n is = rw (members_shape_at ms i m p is_m, members_shape_at ns i n q is_n, is) refl

pub cases_unequal : (cs ds : List Case) → (length cs ≡ length ds → ⊥) → same_cases (cases_shape cs) (cases_shape ds) ≡ false
cases_unequal [] [] h = absurd (h refl)
cases_unequal [] (d ∷ ds) h = refl
cases_unequal (c ∷ cs) [] h = refl
cases_unequal (c ∷ cs) (d ∷ ds) h = rw (cases_unequal cs ds (λ e. h (ap suc e))) (both_false _)

pub cases_step : (b : Bool) (cs ds : List Case) (i : ℕ) (c d : Case) → i < length cs → i < length ds → c ≡ get_or cs i c → d ≡ get_or ds i d
    → b ≡ (same_case_head (case_head c) (case_head d) && same_shape (type_shape c.ty) (type_shape d.ty))
    → same_cases (cases_shape (drop i cs)) (cases_shape (drop i ds)) ≡ (b && same_cases (cases_shape (drop (i + 1) cs)) (cases_shape (drop (i + 1) ds)))
cases_step b cs ds i c d p q is_c is_d is = rw (cases_shape_at cs i c p is_c, cases_shape_at ds i d q is_d, is) refl
