-- Lists compared side by side, one of each on.
use Rattle.std.proofs.Common.{◌≡◌, ◌≢◌, ℕ, ℤ, ◌<◌, Bool, true, false, List, [], ◌∷◌, length, get_or, map, MatchBool, refl, sym, ap, ap₂, ◌∙◌}
use Rattle.std.proofs.lemmas.Bool.{true≢false}
use Rattle.std.proofs.lemmas.Bool.Decides.{Decides-int_eq}
use Rattle.std.proofs.lemmas.List.{get_or-map, length-map}
use Rattle.std.specs.Cmp.Lexicographic.{pointwise, pointwise_decides}
use Rattle.std.specs.Ordering.{int_eq}
use Rattle.type_trees.specs.declared.types.Member.{Member}
use Rattle.type_trees.specs.declared.types.Case.{Case}
use Rattle.type_trees.specs.Trees.{MemberHead, CaseHead, Tree}
use Rattle.type_trees.specs.View.{members_of, cases_of, member_tree, case_tree, members_tree, cases_tree}

pub told_labels : (xs ys : List ℤ) (r : Bool) → r ≡ pointwise int_eq xs ys → MatchBool r (xs ≡ ys) (xs ≢ ys)
told_labels xs ys true e = (pointwise_decides Decides-int_eq xs ys).0 (sym e)
told_labels xs ys false e = λ q. true≢false (sym (e ∙ (pointwise_decides Decides-int_eq xs ys).1 q))

-- items that stand for different things make lists that do
apart_at : {X A : Type 0} (f : X → A) (xs ys : List X) (i : ℕ) (x y : X) → i < length xs → i < length ys → x ≡ get_or xs i x → y ≡ get_or ys i y → f x ≢ f y → map f xs ≢ map f ys
apart_at f xs ys i x y p q is_x is_y apart same =
    let a = get_or-map f xs i x (f x) p in
    let b = get_or-map f ys i y (f x) q in
    let e : f x ≡ f y = cc in
    apart e

apart_long : {X A : Type 0} (f : X → A) (xs ys : List X) → length xs ≢ length ys → map f xs ≢ map f ys
apart_long f xs ys apart same = apart (sym (length-map xs f) ∙ ap length same ∙ length-map ys f)

-- members and cases tell what they are made of
members_tell : (xs ys : List (MemberHead × Tree)) → members_of xs ≡ members_of ys → xs ≡ ys
members_tell [] [] e = refl
members_tell [] (y ∷ ys) e = absurd cc
members_tell (x ∷ xs) [] e = absurd cc
members_tell (x ∷ xs) (y ∷ ys) e =
    let h : x.0 ≡ y.0 = cc in
    let t : x.1 ≡ y.1 = cc in
    let first : x ≡ y = λ i. (h i, t i) in
    let rest : members_of xs ≡ members_of ys = cc in
    ap₂ (λ a as'. a ∷ as') first (members_tell xs ys rest)

cases_tell : (xs ys : List (CaseHead × Tree)) → cases_of xs ≡ cases_of ys → xs ≡ ys
cases_tell [] [] e = refl
cases_tell [] (y ∷ ys) e = absurd cc
cases_tell (x ∷ xs) [] e = absurd cc
cases_tell (x ∷ xs) (y ∷ ys) e =
    let h : x.0 ≡ y.0 = cc in
    let t : x.1 ≡ y.1 = cc in
    let first : x ≡ y = λ i. (h i, t i) in
    let rest : cases_of xs ≡ cases_of ys = cc in
    ap₂ (λ a as'. a ∷ as') first (cases_tell xs ys rest)

pub members_apart_at : (xs ys : List Member) (i : ℕ) (x y : Member) → i < length xs → i < length ys → x ≡ get_or xs i x → y ≡ get_or ys i y → member_tree x ≢ member_tree y → members_tree xs ≢ members_tree ys
members_apart_at xs ys i x y p q is_x is_y apart same = apart_at member_tree xs ys i x y p q is_x is_y apart (members_tell _ _ same)

pub members_apart_long : (xs ys : List Member) → length xs ≢ length ys → members_tree xs ≢ members_tree ys
members_apart_long xs ys apart same = apart_long member_tree xs ys apart (members_tell _ _ same)

pub cases_apart_at : (xs ys : List Case) (i : ℕ) (x y : Case) → i < length xs → i < length ys → x ≡ get_or xs i x → y ≡ get_or ys i y → case_tree x ≢ case_tree y → cases_tree xs ≢ cases_tree ys
cases_apart_at xs ys i x y p q is_x is_y apart same = apart_at case_tree xs ys i x y p q is_x is_y apart (cases_tell _ _ same)

pub cases_apart_long : (xs ys : List Case) → length xs ≢ length ys → cases_tree xs ≢ cases_tree ys
cases_apart_long xs ys apart same = apart_long case_tree xs ys apart (cases_tell _ _ same)
