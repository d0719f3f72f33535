-- Which values have a type (DDS-XTypes 1.3, 7.2.2).
use Rattle.std.specs.Prelude.{ℕ, ◌^◌, ℤ, pos, negsuc, List, [], ◌∷◌, Bool, true, false, cond, not, Option, Some, None, length, nat_lt, ◌==◌, ◌&&◌, ◌||◌, bytes_eq}
use Rattle.std.specs.Ordering.{int_eq}
use Rattle.xt_shapes.specs.declared.leaves.Primitive.{Primitive}
use Rattle.xt_shapes.specs.Lists.{has, all}
use Rattle.xt_shapes.specs.Shape.{Shape, prim, str, enumeration, bitmask, sequence, array, map_of, structure, union, Members, no_members, member, Cases, no_cases, one_case, product}
use Rattle.xt_shapes.specs.Vals.{Val, int, text, listed, mapped, struct_of, union_of, Slots, no_slots, one_slot, Slot, absent, present, each_val, each_pair}
use Rattle.xt_shapes.specs.Sizes.{size, is_signed, is_boolean, half}
use Rattle.xt_shapes.specs.Select.{is_literal, select}

-- ---- a value of a kind, and what holds of its parts

abbrev pub on_int : Val → (ℤ → Bool) → Bool
on_int (int i) f = f i
on_int _ f = false

abbrev pub on_text : Val → (List ℕ → Bool) → Bool
on_text (text t) f = f t
on_text _ f = false

abbrev pub on_list : Val → (List Val → Bool) → Bool
on_list (listed vs) f = f (each_val vs)
on_list _ f = false

abbrev pub on_map : Val → (List (Val × Val) → Bool) → Bool
on_map (mapped ps) f = f (each_pair ps)
on_map _ f = false

abbrev pub on_struct : Val → (Slots → Bool) → Bool
on_struct (struct_of ss) f = f ss
on_struct _ f = false

abbrev pub on_union : Val → (ℤ → Slot → Bool) → Bool
on_union (union_of d s) f = f d s
on_union _ f = false

-- ---- numbers, texts and keys

-- a number that k octets hold
abbrev pub in_range : ℕ → Bool → ℤ → Bool
in_range k signed (pos n) = cond signed (nat_lt n (half k)) (nat_lt n (256 ^ k))
in_range k signed (negsuc n) = cond signed (nat_lt n (half k)) false

abbrev pub is_below : ℕ → ℤ → Bool
is_below limit (pos n) = nat_lt n limit
is_below limit (negsuc n) = false

abbrev pub of_prim : Primitive → ℤ → Bool
of_prim p i = cond (is_boolean p) (is_below 2 i) (in_range (size p) (is_signed p) i)

-- a bound of 0 is none
abbrev pub is_past : ℕ → ℕ → Bool
is_past bound n = not (bound == 0) && nat_lt bound n

-- octets without NUL, within the bound
abbrev pub is_text_within : ℕ → List ℕ → Bool
is_text_within bound t = not (is_past bound (length t)) && (all (λ b. nat_lt b 256) t && not (has (λ b. b == 0) t))

-- keys of maps are numbers or texts
abbrev pub same_key : Val → Val → Bool
same_key (int i) (int j) = int_eq i j
same_key (text s) (text t) = bytes_eq s t
same_key _ _ = false

-- two entries have one key
abbrev pub repeats : List (Val × Val) → Bool
repeats [] = false
repeats (x ∷ xs) = has (λ y. same_key x.0 y.0) xs || repeats xs

-- only an optional member is absent
abbrev pub of_slot : Bool → (Val → Bool) → Slot → Bool
of_slot optional f absent = optional
of_slot optional f (present w) = f w

-- a union's body is present exactly where a case is selected
abbrev pub of_body : Option ℕ → (ℕ → Val → Bool) → Slot → Bool
of_body None f absent = true
of_body None f (present w) = false
of_body (Some i) f absent = false
of_body (Some i) f (present w) = f i w

unfoldable mutual
  pub has_type : Shape → Val → Bool
  has_type (prim p) v = on_int v (of_prim p)
  has_type (str bound) v = on_text v (is_text_within bound)
  has_type (enumeration ext bits literals) v = on_int v (is_literal literals)
  has_type (bitmask bits flags) v = on_int v (is_below (2 ^ bits))
  has_type (sequence bound tc t) v = on_list v (λ xs. not (is_past bound (length xs)) && all (λ w. has_type t w) xs)
  -- row-major order
  has_type (array dims tc t) v = on_list v (λ xs. (length xs == product dims) && all (λ w. has_type t w) xs)
  has_type (map_of bound kc k vc t) v = on_map v (λ xs. (not (is_past bound (length xs)) && not (repeats xs)) && all (λ e. has_type k e.0 && has_type t e.1) xs)
  has_type (structure ext ms) v = on_struct v (λ ss. have_types ms ss)
  has_type (union ext key disc cs) v = on_union v (λ d s. has_type disc (int d) && of_body (select cs d) (λ i w. case_type cs i w) s)

  -- one slot for each member
  pub have_types : Members → Slots → Bool
  have_types no_members no_slots = true
  have_types no_members (one_slot s ss) = false
  have_types (member h t ms) no_slots = false
  have_types (member h t ms) (one_slot s ss) = of_slot h.optional (λ w. has_type t w) s && have_types ms ss

  -- a value of the case with that id
  pub case_type : Cases → ℕ → Val → Bool
  case_type no_cases i w = false
  case_type (one_case h t cs) i w = cond (h.id == i) (has_type t w) (case_type cs i w)
