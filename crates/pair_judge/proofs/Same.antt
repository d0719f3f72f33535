-- What the walk over members or cases says of structures, unions and nodes.
use Rattle.std.proofs.Common.{◌≡◌, refl, sym, subst, ◌∙◌, ◌==◌, List, length, map, Bool, true, ◌&&◌, ap}
use Rattle.std.proofs.lemmas.Bool.{and_parts}
use Rattle.std.specs.Bool.{beq}
use Rattle.std.specs.List.{zip}
use Rattle.std.specs.Prelude.{IfOk, Result}
use Rattle.xt_shapes.specs.declared.leaves.Ext.{Ext}
use Rattle.xt_shapes.specs.Kinds.{same_ext}
use Rattle.xt_shapes.specs.Lists.{all}
use Rattle.xt_shapes.specs.Shape.{Shape, structure, union}
use Rattle.xcdr_model.specs.Equivalence.{same_shape, same_head, same_case_head, same_members, same_cases}
use Rattle.object_formats.specs.Objects.{Identifier}
use Rattle.type_object.specs.Pools.{Texts}
use Rattle.pair_memo.specs.declared.nodes.nodes.Node.{Node}
use Rattle.pair_memo.specs.declared.nodes.parts.Part.{Part}
use Rattle.pair_memo.specs.declared.nodes.parts.Arm.{Arm}
use Rattle.pair_memo.specs.nodes.Seen as seen
use Rattle.pair_memo.specs.nodes.Seen.{See, members_in, cases_in}
use Rattle.pair_memo.specs.nodes.Views.{part_view, arm_view, parts_in, arms_in, node_shape}
use Rattle.pair_judge.specs.Beside.{pair, same_pair}
use Rattle.pair_judge.proofs.Beside.{walked}

says_as : {E : Type 0} (answer : Result Bool E) (v w : Bool) → v ≡ w → IfOk answer (λ b. b ≡ v) → IfOk answer (λ b. b ≡ w)
says_as answer v w is h = subst (λ (x : Bool). IfOk answer (λ b. b ≡ x)) is h

both : {X : Type 0} (f : X → X → Bool) (a b c d : X) → a ≡ c → b ≡ d → f a b ≡ f c d
both f a b c d p q = ap (λ x. f x b) p ∙ ap (λ x. f c x) q

abbrev walk : {A H : Type 0} → See → (H → H → Bool) → (A → H × Identifier) → List A → List A → Bool
walk see alike view ps qs = (length ps == length qs) && all (same_pair see) (map (pair alike view) (zip ps qs))

pub structures_same : {E : Type 0} (answer : Result Bool E) (see : See) (e e2 : Ext) (ps qs : List Part) (xs ys : List seen.Part) → same_ext e e2 ≡ true → map part_view ps ≡ xs → map part_view qs ≡ ys
    → IfOk answer (λ b. b ≡ walk see same_head part_view ps qs) → IfOk answer (λ b. b ≡ same_shape (structure e (members_in see xs)) (structure e2 (members_in see ys)))
structures_same answer see e e2 ps qs xs ys p f g h =
    let are_members = walked same_head part_view see (λ ms ns. same_members (parts_in see ms) (parts_in see ns)) refl (λ y ys. refl) (λ x xs. refl) (λ x y xs ys. refl) ps qs in
    let are_seen = both (λ ms ns. same_members (members_in see ms) (members_in see ns)) (map part_view ps) (map part_view qs) xs ys f g in
    says_as answer _ _ (are_members ∙ are_seen ∙ sym (ap (λ b. b && same_members (members_in see xs) (members_in see ys)) p)) h

pub unions_same : {E : Type 0} (answer : Result Bool E) (see : See) (e e2 : Ext) (k k2 : Bool) (d d2 : Shape) (ps qs : List Arm) (xs ys : List seen.Arm) → (same_ext e e2 && beq k k2) ≡ true → same_shape d d2 ≡ true → map arm_view ps ≡ xs → map arm_view qs ≡ ys
    → IfOk answer (λ b. b ≡ walk see same_case_head arm_view ps qs) → IfOk answer (λ b. b ≡ same_shape (union e k d (cases_in see xs)) (union e2 k2 d2 (cases_in see ys)))
unions_same answer see e e2 k k2 d d2 ps qs xs ys p q f g h =
    let are_cases = walked same_case_head arm_view see (λ cs ds. same_cases (arms_in see cs) (arms_in see ds)) refl (λ y ys. refl) (λ x xs. refl) (λ x y xs ys. refl) ps qs in
    let are_seen = both (λ cs ds. same_cases (cases_in see cs) (cases_in see ds)) (map arm_view ps) (map arm_view qs) xs ys f g in
    let kinds = and_parts (same_ext e e2) (beq k k2) p in
    let same : Bool = same_cases (cases_in see xs) (cases_in see ys) in
    says_as answer _ _ (are_cases ∙ are_seen ∙ sym (ap (λ b. b && (beq k k2 && (same_shape d d2 && same))) kinds.0 ∙ ap (λ b. b && (same_shape d d2 && same)) kinds.1 ∙ ap (λ b. b && same) q)) h

pub at_nodes : {E : Type 0} (answer : Result Bool E) (pool : Texts) (l r l2 r2 : Node) → l ≡ l2 → r ≡ r2 → IfOk answer (λ b. b ≡ same_shape (node_shape pool l2) (node_shape pool r2)) → IfOk answer (λ b. b ≡ same_shape (node_shape pool l) (node_shape pool r))
at_nodes answer pool l r l2 r2 e f h = says_as answer _ _ (sym (both (λ m n. same_shape (node_shape pool m) (node_shape pool n)) l r l2 r2 e f)) h
