-- Equivalent types: a test of equal shapes. The minimal type of a type has no type names, and its members' names are hashed (DDS-XTypes 1.3, 7.3.4.5), which is what a shape is; that aliases are resolved is this profile's own.
use Rattle.std.specs.Prelude.{ℕ, List, [], ◌∷◌, Bool, true, false, ◌==◌, ◌&&◌}
use Rattle.std.specs.Bool.{beq}
use Rattle.std.specs.Ordering.{int_eq}
use Rattle.xt_shapes.specs.declared.leaves.Try.{Try}
use Rattle.xt_shapes.specs.declared.leaves.Try.TheVariants.{Discard, UseDefault, Trim}
use Rattle.xt_shapes.specs.Kinds.{same_prim, same_ext, as_prim, as_str, as_enum, as_mask, as_sequence, as_array, as_map, as_structure, as_union}
use Rattle.xt_shapes.specs.Lists.{is_some_and}
use Rattle.xt_shapes.specs.Shape.{Literal, Flag, Head, CaseHead, Shape, prim, str, enumeration, bitmask, sequence, array, map_of, structure, union, Members, no_members, member, Cases, no_cases, one_case}

abbrev pub try_code : Try → ℕ
try_code Discard = 0
try_code UseDefault = 1
try_code Trim = 2

abbrev pub same_try : Try → Try → Bool
same_try a b = try_code a == try_code b

-- two lists of one length, whose items agree one by one
abbrev pub each_pair : {A : Type 0} → (A → A → Bool) → List A → List A → Bool
each_pair f [] [] = true
each_pair f [] (y ∷ ys) = false
each_pair f (x ∷ xs) [] = false
each_pair f (x ∷ xs) (y ∷ ys) = f x y && each_pair f xs ys

abbrev pub same_number : ℕ → ℕ → Bool
same_number a b = a == b

abbrev pub same_dims : List ℕ → List ℕ → Bool
same_dims xs ys = each_pair same_number xs ys

abbrev pub same_literal : Literal → Literal → Bool
same_literal a b = (a.hash == b.hash) && (int_eq a.value b.value && beq a.is_default b.is_default)

abbrev pub same_flag : Flag → Flag → Bool
same_flag a b = (a.hash == b.hash) && (a.position == b.position)

abbrev pub same_head : Head → Head → Bool
same_head a b = (a.id == b.id) && ((a.hash == b.hash) && (same_try a.tc b.tc && (beq a.optional b.optional && (beq a.must_understand b.must_understand && beq a.key b.key))))

abbrev pub same_case_head : CaseHead → CaseHead → Bool
same_case_head a b = (a.id == b.id) && ((a.hash == b.hash) && (same_try a.tc b.tc && (each_pair int_eq a.labels b.labels && beq a.is_default b.is_default)))

abbrev mutual
  pub same_shape : Shape → Shape → Bool
  same_shape (prim p) u = is_some_and (as_prim u) (λ q. same_prim p q)
  same_shape (str a) u = is_some_and (as_str u) (λ b. a == b)
  same_shape (enumeration e bits ls) u = is_some_and (as_enum u) (λ x. same_ext e x.0 && ((bits == x.1) && each_pair same_literal ls x.2))
  same_shape (bitmask bits fs) u = is_some_and (as_mask u) (λ x. (bits == x.0) && each_pair same_flag fs x.1)
  same_shape (sequence a tc t) u = is_some_and (as_sequence u) (λ x. (a == x.0) && (same_try tc x.1 && same_shape t x.2))
  same_shape (array ds tc t) u = is_some_and (as_array u) (λ x. same_dims ds x.0 && (same_try tc x.1 && same_shape t x.2))
  same_shape (map_of a kc k vc t) u = is_some_and (as_map u) (λ x. (a == x.0) && ((same_try kc x.1 && same_shape k x.2) && (same_try vc x.3 && same_shape t x.4)))
  same_shape (structure e ms) u = is_some_and (as_structure u) (λ x. same_ext e x.0 && same_members ms x.1)
  same_shape (union e key d cs) u = is_some_and (as_union u) (λ x. same_ext e x.0 && (beq key x.1 && (same_shape d x.2 && same_cases cs x.3)))

  pub same_members : Members → Members → Bool
  same_members no_members no_members = true
  same_members no_members (member h t ms) = false
  same_members (member h t ms) no_members = false
  same_members (member h t ms) (member h2 u ns) = (same_head h h2 && same_shape t u) && same_members ms ns

  pub same_cases : Cases → Cases → Bool
  same_cases no_cases no_cases = true
  same_cases no_cases (one_case h t cs) = false
  same_cases (one_case h t cs) no_cases = false
  same_cases (one_case h t cs) (one_case h2 u ds) = (same_case_head h h2 && same_shape t u) && same_cases cs ds
