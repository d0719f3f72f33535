-- Tests on all labels, case by case, and on a label by the kind of the discriminator.
use Rattle.std.proofs.Common.{◌≡◌, refl, ap, ◌∙◌, sym, ℕ, ℤ, Some, None, Bool, true, false, ◌==◌, length, rules, tests, ◌&&◌, ◌||◌, List, [], ◌∷◌, ◌++◌, map}
use Rattle.xt_shapes.specs.declared.leaves.Ext.{Ext}
use Rattle.xt_shapes.specs.declared.leaves.Primitive.{Primitive}
use Rattle.std.specs.Ordering.{int_eq}
use Rattle.node_rules.specs.distinct.InBlocks.{holds_one}
use Rattle.xt_shapes.specs.Lists.{all, has}
use Rattle.xt_shapes.specs.Shape.{Literal, Shape, prim, str, enumeration, bitmask, sequence, array, map_of, structure, union}
use Rattle.xt_shapes.specs.Kinds.{as_enum, as_prim}
use Rattle.xt_shapes.specs.Select.{is_literal}
use Rattle.xt_shapes.specs.Typing.{has_type, of_prim}
use Rattle.xt_shapes.specs.NodeRules.{is_discriminator}
use Rattle.node_rules.specs.Rules.{is_value}

and_assoc : (a b c : Bool) → (a && (b && c)) ≡ ((a && b) && c)
and_assoc true b c = refl
and_assoc false b c = refl

pub all_append : {A : Type 0} (p : A → Bool) (xs ys : List A) → all p (xs ++ ys) ≡ (all p xs && all p ys)
all_append p [] ys = refl
all_append p (x ∷ xs) ys = ap (λ b. p x && b) (all_append p xs ys) ∙ and_assoc (p x) (all p xs) (all p ys)

-- the values of an enumeration are its literals'
pub enum_values : (t : Shape) (parts : Ext × ℕ × List Literal) (ls : List ℤ) → Some parts ≡ as_enum t → all (is_literal parts.2) ls ≡ all (is_value t) ls
unfolding has_type
enum_values (enumeration ext bits literals) parts ls is =
    let same : parts ≡ (ext, bits, literals) = cc in
    ap (λ x. all (is_literal x.2) ls) same
enum_values (prim p) parts ls is = absurd (cc)
enum_values (str bound) parts ls is = absurd (cc)
enum_values (bitmask bits flags) parts ls is = absurd (cc)
enum_values (sequence bound tc t) parts ls is = absurd (cc)
enum_values (array dims tc t) parts ls is = absurd (cc)
enum_values (map_of bound kc k vc v) parts ls is = absurd (cc)
enum_values (structure ext ms) parts ls is = absurd (cc)
enum_values (union ext key disc cs) parts ls is = absurd (cc)

all_same : {A : Type 0} (p q : A → Bool) (ls : List A) → ((x : A) → p x ≡ q x) → all p ls ≡ all q ls
all_same p q [] same = refl
all_same p q (x ∷ xs) same = rw (same x, all_same p q xs same) refl

mapped_has : {A B : Type 0} (f : A → B) (p : B → Bool) (xs : List A) → has p (map f xs) ≡ has (λ x. p (f x)) xs
mapped_has f p [] = refl
mapped_has f p (x ∷ xs) = ap (λ b. p (f x) || b) (mapped_has f p xs)

-- numbers among the values of literals are literals
pub among_values : (literals : List Literal) (ls : List ℤ) → all (holds_one (map (λ l. l.value) literals)) ls ≡ all (is_literal literals) ls
among_values literals ls = all_same (holds_one (map (λ l. l.value) literals)) (is_literal literals) ls (λ n. mapped_has (λ l. l.value) (λ held. int_eq held n) literals)

-- those of a primitive that is no float are its numbers
pub prim_values : (t : Shape) (p : Primitive) (ls : List ℤ) → Some p ≡ as_prim t → true ≡ is_discriminator t → all (of_prim p) ls ≡ all (is_value t) ls
unfolding has_type
prim_values (prim q) p ls is fixed =
    let same : p ≡ q = cc in
    let holds : is_discriminator (prim q) ≡ true = cc in
    all_same (of_prim p) (is_value (prim q)) ls (λ x. rw (holds, same) refl)
prim_values (str bound) p ls is fixed = absurd (cc)
prim_values (enumeration ext bits literals) p ls is fixed = absurd (cc)
prim_values (bitmask bits flags) p ls is fixed = absurd (cc)
prim_values (sequence bound tc t) p ls is fixed = absurd (cc)
prim_values (array dims tc t) p ls is fixed = absurd (cc)
prim_values (map_of bound kc k vc v) p ls is fixed = absurd (cc)
prim_values (structure ext ms) p ls is fixed = absurd (cc)
prim_values (union ext key disc cs) p ls is fixed = absurd (cc)

none_pass : {A : Type 0} (p : A → Bool) (ls : List A) → ((x : A) → p x ≡ false) → all p ls ≡ (length ls == 0)
none_pass p [] same = refl
none_pass p (x ∷ xs) same = rw (same x) (search (rules, tests))

-- another type is no discriminator
pub no_values : (t : Shape) (ls : List ℤ) → false ≡ is_discriminator t → (length ls == 0) ≡ all (is_value t) ls
no_values t ls is = sym (none_pass (is_value t) ls (λ x. rw (← is) refl))

pub other_is_none : (t : Shape) → None ≡ as_enum t → None ≡ as_prim t → false ≡ is_discriminator t
other_is_none (prim q) e p = absurd (cc)
other_is_none (enumeration ext bits literals) e p = absurd (cc)
other_is_none (str bound) e p = refl
other_is_none (bitmask bits flags) e p = refl
other_is_none (sequence bound tc t) e p = refl
other_is_none (array dims tc t) e p = refl
other_is_none (map_of bound kc k vc v) e p = refl
other_is_none (structure ext ms) e p = refl
other_is_none (union ext key disc cs) e p = refl
