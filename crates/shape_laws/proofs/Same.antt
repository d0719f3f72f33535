-- The test of equal types decides equality.
use Rattle.std.proofs.Common.{◌≡◌, ℕ, zero, suc, ℤ, Bool, true, false, ◌&&◌, List, [], ◌∷◌, Option, Some, None, refl, sym, ap, ap₂, ◌∙◌, ◌==◌}
use Rattle.std.proofs.lemmas.Bool.{and_parts, and_from, eqb-true, eq-eqb}
use Rattle.std.proofs.lemmas.Bool.Decides.{Decides-int_eq}
use Rattle.std.specs.Bool.{beq}
use Rattle.std.specs.Ordering.{int_eq}
use Rattle.xt_shapes.specs.declared.leaves.Ext.{Ext}
use Rattle.xt_shapes.specs.declared.leaves.Ext.TheVariants.{Final, Appendable, Mutable}
use Rattle.xt_shapes.specs.declared.leaves.Primitive.{Primitive}
use Rattle.xt_shapes.specs.declared.leaves.Primitive.TheVariants.{Boolean, Byte, Int8, Uint8, Int16, Uint16, Int32, Uint32, Int64, Uint64, Float32, Float64, Char8}
use Rattle.xt_shapes.specs.declared.leaves.Try.{Try}
use Rattle.xt_shapes.specs.declared.leaves.Try.TheVariants.{Discard, UseDefault, Trim}
use Rattle.xt_shapes.specs.Kinds.{prim_code, same_prim, ext_code, same_ext, as_prim, as_str, as_enum, as_mask, as_sequence, as_array, as_map, as_structure, as_union}
use Rattle.xt_shapes.specs.Lists.{is_some_and}
use Rattle.xt_shapes.specs.Shape.{Literal, Flag, Head, CaseHead, Shape, prim, str, enumeration, bitmask, sequence, array, map_of, structure, union, Members, no_members, member, Cases, no_cases, one_case}
use Rattle.xcdr_model.specs.Equivalence.{each_pair, same_number, same_dims, try_code, same_try, same_literal, same_flag, same_head, same_case_head, same_shape, same_members, same_cases}
use Rattle.shape_laws.proofs.Rules.{left, right, beq_same}

-- ---- names of the field

abbrev prim_of : ℕ → Primitive
prim_of (suc zero) = Boolean
prim_of (suc (suc zero)) = Byte
prim_of (suc (suc (suc zero))) = Int8
prim_of (suc (suc (suc (suc zero)))) = Uint8
prim_of (suc (suc (suc (suc (suc zero))))) = Int16
prim_of (suc (suc (suc (suc (suc (suc zero)))))) = Uint16
prim_of (suc (suc (suc (suc (suc (suc (suc zero))))))) = Int32
prim_of (suc (suc (suc (suc (suc (suc (suc (suc zero)))))))) = Uint32
prim_of (suc (suc (suc (suc (suc (suc (suc (suc (suc zero))))))))) = Int64
prim_of (suc (suc (suc (suc (suc (suc (suc (suc (suc (suc zero)))))))))) = Uint64
prim_of (suc (suc (suc (suc (suc (suc (suc (suc (suc (suc (suc zero))))))))))) = Float32
prim_of (suc (suc (suc (suc (suc (suc (suc (suc (suc (suc (suc (suc zero)))))))))))) = Float64
prim_of (suc (suc (suc (suc (suc (suc (suc (suc (suc (suc (suc (suc (suc zero))))))))))))) = Char8
prim_of _ = Boolean

prim_back : (p : Primitive) → prim_of (prim_code p) ≡ p
prim_back Boolean = refl
prim_back Byte = refl
prim_back Int8 = refl
prim_back Uint8 = refl
prim_back Int16 = refl
prim_back Uint16 = refl
prim_back Int32 = refl
prim_back Uint32 = refl
prim_back Int64 = refl
prim_back Uint64 = refl
prim_back Float32 = refl
prim_back Float64 = refl
prim_back Char8 = refl

pub same_prim_is : (p q : Primitive) → same_prim p q ≡ true → p ≡ q
same_prim_is p q e = sym (prim_back p) ∙ ap prim_of (eqb-true (prim_code p) (prim_code q) e) ∙ prim_back q

abbrev ext_of : ℕ → Ext
ext_of zero = Final
ext_of (suc zero) = Appendable
ext_of (suc (suc n)) = Mutable

ext_back : (e : Ext) → ext_of (ext_code e) ≡ e
ext_back Final = refl
ext_back Appendable = refl
ext_back Mutable = refl

pub same_ext_is : (a b : Ext) → same_ext a b ≡ true → a ≡ b
same_ext_is a b e = sym (ext_back a) ∙ ap ext_of (eqb-true (ext_code a) (ext_code b) e) ∙ ext_back b

abbrev try_of : ℕ → Try
try_of zero = Discard
try_of (suc zero) = UseDefault
try_of (suc (suc n)) = Trim

try_back : (e : Try) → try_of (try_code e) ≡ e
try_back Discard = refl
try_back UseDefault = refl
try_back Trim = refl

same_try_is : (a b : Try) → same_try a b ≡ true → a ≡ b
same_try_is a b e = sym (try_back a) ∙ ap try_of (eqb-true (try_code a) (try_code b) e) ∙ try_back b

pub beq_self : (b : Bool) → beq b b ≡ true
beq_self true = refl
beq_self false = refl

-- ---- lists and records

each_is : {A : Type 0} (f : A → A → Bool) → ((x y : A) → f x y ≡ true → x ≡ y) → (xs ys : List A) → each_pair f xs ys ≡ true → xs ≡ ys
each_is f d [] [] e = refl
each_is f d [] (y ∷ ys) e = absurd cc
each_is f d (x ∷ xs) [] e = absurd cc
each_is f d (x ∷ xs) (y ∷ ys) e = ap₂ (λ a as'. a ∷ as') (d x y (left (f x y) (each_pair f xs ys) e)) (each_is f d xs ys (right (f x y) (each_pair f xs ys) e))

each_self : {A : Type 0} (f : A → A → Bool) → ((x : A) → f x x ≡ true) → (xs : List A) → each_pair f xs xs ≡ true
each_self f d [] = refl
each_self f d (x ∷ xs) = and_from (f x x) (each_pair f xs xs) (d x) (each_self f d xs)

same_int_is : (x y : ℤ) → int_eq x y ≡ true → x ≡ y
same_int_is x y e = (Decides-int_eq x y).0 e

int_self : (x : ℤ) → int_eq x x ≡ true
int_self x = (Decides-int_eq x x).1 refl

literal_is : (a b : Literal) → same_literal a b ≡ true → a ≡ b
literal_is a b e =
    let p = and_parts (a.hash == b.hash) (int_eq a.value b.value && beq a.is_default b.is_default) e in
    let q = and_parts (int_eq a.value b.value) (beq a.is_default b.is_default) p.1 in
    let e1 = eqb-true a.hash b.hash p.0 in
    let e2 = same_int_is a.value b.value q.0 in
    let e3 = beq_same a.is_default b.is_default q.1 in
    λ i. record { hash = e1 i; value = e2 i; is_default = e3 i }

literal_self : (a : Literal) → same_literal a a ≡ true
literal_self a = and_from (a.hash == a.hash) (int_eq a.value a.value && beq a.is_default a.is_default) (eq-eqb a.hash a.hash refl) (and_from (int_eq a.value a.value) (beq a.is_default a.is_default) (int_self a.value) (beq_self a.is_default))

flag_is : (a b : Flag) → same_flag a b ≡ true → a ≡ b
flag_is a b e =
    let p = and_parts (a.hash == b.hash) (a.position == b.position) e in
    let e1 = eqb-true a.hash b.hash p.0 in
    let e2 = eqb-true a.position b.position p.1 in
    λ i. record { hash = e1 i; position = e2 i }

flag_self : (a : Flag) → same_flag a a ≡ true
flag_self a = and_from (a.hash == a.hash) (a.position == a.position) (eq-eqb a.hash a.hash refl) (eq-eqb a.position a.position refl)

try_self : (a : Try) → same_try a a ≡ true
try_self a = eq-eqb (try_code a) (try_code a) refl

head_is : (a b : Head) → same_head a b ≡ true → a ≡ b
head_is a b e =
    let p1 = and_parts _ _ e in
    let p2 = and_parts _ _ p1.1 in
    let p3 = and_parts _ _ p2.1 in
    let p4 = and_parts _ _ p3.1 in
    let p5 = and_parts _ _ p4.1 in
    let e1 = eqb-true a.id b.id p1.0 in
    let e2 = eqb-true a.hash b.hash p2.0 in
    let e3 = same_try_is a.tc b.tc p3.0 in
    let e4 = beq_same a.optional b.optional p4.0 in
    let e5 = beq_same a.must_understand b.must_understand p5.0 in
    let e6 = beq_same a.key b.key p5.1 in
    λ i. record { id = e1 i; hash = e2 i; tc = e3 i; optional = e4 i; must_understand = e5 i; key = e6 i }

head_self : (a : Head) → same_head a a ≡ true
head_self a = and_from _ _ (eq-eqb a.id a.id refl) (and_from _ _ (eq-eqb a.hash a.hash refl) (and_from _ _ (try_self a.tc) (and_from _ _ (beq_self a.optional) (and_from _ _ (beq_self a.must_understand) (beq_self a.key)))))

case_head_is : (a b : CaseHead) → same_case_head a b ≡ true → a ≡ b
case_head_is a b e =
    let p1 = and_parts _ _ e in
    let p2 = and_parts _ _ p1.1 in
    let p3 = and_parts _ _ p2.1 in
    let p4 = and_parts _ _ p3.1 in
    let e1 = eqb-true a.id b.id p1.0 in
    let e2 = eqb-true a.hash b.hash p2.0 in
    let e3 = same_try_is a.tc b.tc p3.0 in
    let e4 = each_is int_eq same_int_is a.labels b.labels p4.0 in
    let e5 = beq_same a.is_default b.is_default p4.1 in
    λ i. record { id = e1 i; hash = e2 i; tc = e3 i; labels = e4 i; is_default = e5 i }

case_head_self : (a : CaseHead) → same_case_head a a ≡ true
case_head_self a = and_from _ _ (eq-eqb a.id a.id refl) (and_from _ _ (eq-eqb a.hash a.hash refl) (and_from _ _ (try_self a.tc) (and_from _ _ (each_self int_eq int_self a.labels) (beq_self a.is_default))))

pub same_dims_is : (xs ys : List ℕ) → same_dims xs ys ≡ true → xs ≡ ys
same_dims_is xs ys e = each_is same_number (λ x y z. eqb-true x y z) xs ys e

pub dims_self : (xs : List ℕ) → same_dims xs xs ≡ true
dims_self xs = each_self same_number (λ x. eq-eqb x x refl) xs

-- ---- the kinds

pub prim_at : (u : Shape) (p : Primitive) → as_prim u ≡ Some p → u ≡ prim p
prim_at (prim q) p e = let z : q ≡ p = cc in ap prim z
prim_at _ p e = absurd cc

pub str_at : (u : Shape) (b : ℕ) → as_str u ≡ Some b → u ≡ str b
str_at (str a) b e = let z : a ≡ b = cc in ap str z
str_at _ b e = absurd cc

some_of : {A : Type 0} (o : Option A) (f : A → Bool) → is_some_and o f ≡ true → (x : A) × (o ≡ Some x) × (f x ≡ true)
some_of None f e = absurd cc
some_of (Some x) f e = (x, refl, e)

pub enum_at : (u : Shape) (x : Ext × ℕ × List Literal) → as_enum u ≡ Some x → u ≡ enumeration x.0 x.1 x.2
enum_at (enumeration e bits ls) x d = ap (λ (o : Option (Ext × ℕ × List Literal)). of_enum o) d
  where
    of_enum : Option (Ext × ℕ × List Literal) → Shape
    of_enum None = str 0
    of_enum (Some y) = enumeration y.0 y.1 y.2
enum_at _ x d = absurd cc

pub mask_at : (u : Shape) (x : ℕ × List Flag) → as_mask u ≡ Some x → u ≡ bitmask x.0 x.1
mask_at (bitmask a fs) x e = ap made e
  where
    made : Option (ℕ × List Flag) → Shape
    made None = str 0
    made (Some y) = bitmask y.0 y.1
mask_at _ x e = absurd cc

pub sequence_at : (u : Shape) (x : ℕ × Try × Shape) → as_sequence u ≡ Some x → u ≡ sequence x.0 x.1 x.2
sequence_at (sequence a c t) x e = ap made e
  where
    made : Option (ℕ × Try × Shape) → Shape
    made None = str 0
    made (Some y) = sequence y.0 y.1 y.2
sequence_at _ x e = absurd cc

pub array_at : (u : Shape) (x : List ℕ × Try × Shape) → as_array u ≡ Some x → u ≡ array x.0 x.1 x.2
array_at (array a c t) x e = ap made e
  where
    made : Option (List ℕ × Try × Shape) → Shape
    made None = str 0
    made (Some y) = array y.0 y.1 y.2
array_at _ x e = absurd cc

pub map_at : (u : Shape) (x : ℕ × Try × Shape × Try × Shape) → as_map u ≡ Some x → u ≡ map_of x.0 x.1 x.2 x.3 x.4
map_at (map_of b c k d t) x e = ap made e
  where
    made : Option (ℕ × Try × Shape × Try × Shape) → Shape
    made None = str 0
    made (Some y) = map_of y.0 y.1 y.2 y.3 y.4
map_at _ x e = absurd cc

pub structure_at : (u : Shape) (x : Ext × Members) → as_structure u ≡ Some x → u ≡ structure x.0 x.1
structure_at (structure a ms) x e = ap made e
  where
    made : Option (Ext × Members) → Shape
    made None = str 0
    made (Some y) = structure y.0 y.1
structure_at _ x e = absurd cc

pub union_at : (u : Shape) (x : Ext × Bool × Shape × Cases) → as_union u ≡ Some x → u ≡ union x.0 x.1 x.2 x.3
union_at (union a k d cs) x e = ap made e
  where
    made : Option (Ext × Bool × Shape × Cases) → Shape
    made None = str 0
    made (Some y) = union y.0 y.1 y.2 y.3
union_at _ x e = absurd cc

mutual
  pub same_is : (t u : Shape) → same_shape t u ≡ true → t ≡ u
  same_is (prim p) u e = let x = some_of (as_prim u) (λ q. same_prim p q) e in ap prim (same_prim_is p x.0 x.2) ∙ sym (prim_at u x.0 x.1)
  same_is (str a) u e = let x = some_of (as_str u) (λ b. a == b) e in ap str (eqb-true a x.0 x.2) ∙ sym (str_at u x.0 x.1)
  same_is (enumeration k bits ls) u e =
      let x = some_of (as_enum u) (λ y. same_ext k y.0 && ((bits == y.1) && each_pair same_literal ls y.2)) e in
      let p = and_parts (same_ext k x.0.0) ((bits == x.0.1) && each_pair same_literal ls x.0.2) x.2 in
      let q = and_parts (bits == x.0.1) (each_pair same_literal ls x.0.2) p.1 in
      let e1 = same_ext_is k x.0.0 p.0 in
      let e2 = eqb-true bits x.0.1 q.0 in
      let e3 = each_is same_literal literal_is ls x.0.2 q.1 in
      ap₂ (λ (a : Ext) (b : ℕ). enumeration a b ls) e1 e2 ∙ ap (enumeration x.0.0 x.0.1) e3 ∙ sym (enum_at u x.0 x.1)
  same_is (bitmask bits fs) u e =
      let x = some_of (as_mask u) (λ y. (bits == y.0) && each_pair same_flag fs y.1) e in
      let p = and_parts (bits == x.0.0) (each_pair same_flag fs x.0.1) x.2 in
      ap₂ bitmask (eqb-true bits x.0.0 p.0) (each_is same_flag flag_is fs x.0.1 p.1) ∙ sym (mask_at u x.0 x.1)
  same_is (sequence a tc t) u e =
      let x = some_of (as_sequence u) (λ y. (a == y.0) && (same_try tc y.1 && same_shape t y.2)) e in
      let p = and_parts (a == x.0.0) (same_try tc x.0.1 && same_shape t x.0.2) x.2 in
      let q = and_parts (same_try tc x.0.1) (same_shape t x.0.2) p.1 in
      ap₂ (λ (y : ℕ) (z : Try). sequence y z t) (eqb-true a x.0.0 p.0) (same_try_is tc x.0.1 q.0) ∙ ap (sequence x.0.0 x.0.1) (same_is t x.0.2 q.1) ∙ sym (sequence_at u x.0 x.1)
  same_is (array ds tc t) u e =
      let x = some_of (as_array u) (λ y. same_dims ds y.0 && (same_try tc y.1 && same_shape t y.2)) e in
      let p = and_parts (same_dims ds x.0.0) (same_try tc x.0.1 && same_shape t x.0.2) x.2 in
      let q = and_parts (same_try tc x.0.1) (same_shape t x.0.2) p.1 in
      ap₂ (λ (y : List ℕ) (z : Try). array y z t) (same_dims_is ds x.0.0 p.0) (same_try_is tc x.0.1 q.0) ∙ ap (array x.0.0 x.0.1) (same_is t x.0.2 q.1) ∙ sym (array_at u x.0 x.1)
  same_is (map_of a kc k vc t) u e =
      let x = some_of (as_map u) (λ y. (a == y.0) && ((same_try kc y.1 && same_shape k y.2) && (same_try vc y.3 && same_shape t y.4))) e in
      let p = and_parts (a == x.0.0) ((same_try kc x.0.1 && same_shape k x.0.2) && (same_try vc x.0.3 && same_shape t x.0.4)) x.2 in
      let q = and_parts (same_try kc x.0.1 && same_shape k x.0.2) (same_try vc x.0.3 && same_shape t x.0.4) p.1 in
      let q1 = and_parts (same_try kc x.0.1) (same_shape k x.0.2) q.0 in
      let q2 = and_parts (same_try vc x.0.3) (same_shape t x.0.4) q.1 in
      ap₂ (λ (y : ℕ) (z : Try). map_of y z k vc t) (eqb-true a x.0.0 p.0) (same_try_is kc x.0.1 q1.0) ∙ ap₂ (λ (y : Shape) (z : Try). map_of x.0.0 x.0.1 y z t) (same_is k x.0.2 q1.1) (same_try_is vc x.0.3 q2.0)
      ∙ ap (map_of x.0.0 x.0.1 x.0.2 x.0.3) (same_is t x.0.4 q2.1) ∙ sym (map_at u x.0 x.1)
  same_is (structure e ms) u h =
      let x = some_of (as_structure u) (λ y. same_ext e y.0 && same_members ms y.1) h in
      let p = and_parts (same_ext e x.0.0) (same_members ms x.0.1) x.2 in
      ap₂ structure (same_ext_is e x.0.0 p.0) (same_members_is ms x.0.1 p.1) ∙ sym (structure_at u x.0 x.1)
  same_is (union e key d cs) u h =
      let x = some_of (as_union u) (λ y. same_ext e y.0 && (beq key y.1 && (same_shape d y.2 && same_cases cs y.3))) h in
      let p = and_parts (same_ext e x.0.0) (beq key x.0.1 && (same_shape d x.0.2 && same_cases cs x.0.3)) x.2 in
      let q = and_parts (beq key x.0.1) (same_shape d x.0.2 && same_cases cs x.0.3) p.1 in
      let r = and_parts (same_shape d x.0.2) (same_cases cs x.0.3) q.1 in
      ap₂ (λ (a : Ext) (b : Bool). union a b d cs) (same_ext_is e x.0.0 p.0) (beq_same key x.0.1 q.0) ∙ ap₂ (union x.0.0 x.0.1) (same_is d x.0.2 r.0) (same_cases_is cs x.0.3 r.1) ∙ sym (union_at u x.0 x.1)

  same_members_is : (ms ns : Members) → same_members ms ns ≡ true → ms ≡ ns
  same_members_is no_members no_members e = refl
  same_members_is no_members (member h t ms) e = absurd cc
  same_members_is (member h t ms) no_members e = absurd cc
  same_members_is (member h t ms) (member h2 u ns) e =
      let p = and_parts (same_head h h2 && same_shape t u) (same_members ms ns) e in
      let q = and_parts (same_head h h2) (same_shape t u) p.0 in
      ap₂ (λ (a : Head) (b : Shape). member a b ms) (head_is h h2 q.0) (same_is t u q.1) ∙ ap (member h2 u) (same_members_is ms ns p.1)

  same_cases_is : (cs ds : Cases) → same_cases cs ds ≡ true → cs ≡ ds
  same_cases_is no_cases no_cases e = refl
  same_cases_is no_cases (one_case h t cs) e = absurd cc
  same_cases_is (one_case h t cs) no_cases e = absurd cc
  same_cases_is (one_case h t cs) (one_case h2 u ds) e =
      let p = and_parts (same_case_head h h2 && same_shape t u) (same_cases cs ds) e in
      let q = and_parts (same_case_head h h2) (same_shape t u) p.0 in
      ap₂ (λ (a : CaseHead) (b : Shape). one_case a b cs) (case_head_is h h2 q.0) (same_is t u q.1) ∙ ap (one_case h2 u) (same_cases_is cs ds p.1)

mutual
  pub shape_self : (t : Shape) → same_shape t t ≡ true
  shape_self (prim p) = eq-eqb (prim_code p) (prim_code p) refl
  shape_self (str a) = eq-eqb a a refl
  shape_self (enumeration k bits ls) = and_from _ _ (eq-eqb (ext_code k) (ext_code k) refl) (and_from _ _ (eq-eqb bits bits refl) (each_self same_literal literal_self ls))
  shape_self (bitmask bits fs) = and_from _ _ (eq-eqb bits bits refl) (each_self same_flag flag_self fs)
  shape_self (sequence a tc t) = and_from _ _ (eq-eqb a a refl) (and_from _ _ (try_self tc) (shape_self t))
  shape_self (array ds tc t) = and_from _ _ (dims_self ds) (and_from _ _ (try_self tc) (shape_self t))
  shape_self (map_of a kc k vc t) = and_from _ _ (eq-eqb a a refl) (and_from _ _ (and_from _ _ (try_self kc) (shape_self k)) (and_from _ _ (try_self vc) (shape_self t)))
  shape_self (structure x ms) = and_from _ _ (eq-eqb (ext_code x) (ext_code x) refl) (members_self ms)
  shape_self (union x key d cs) = and_from _ _ (eq-eqb (ext_code x) (ext_code x) refl) (and_from _ _ (beq_self key) (and_from _ _ (shape_self d) (cases_self cs)))

  members_self : (ms : Members) → same_members ms ms ≡ true
  members_self no_members = refl
  members_self (member h t ms) = and_from _ _ (and_from _ _ (head_self h) (shape_self t)) (members_self ms)

  cases_self : (cs : Cases) → same_cases cs cs ≡ true
  cases_self no_cases = refl
  cases_self (one_case h t cs) = and_from _ _ (and_from _ _ (case_head_self h) (shape_self t)) (cases_self cs)
