-- The default value of a type (DDS-XTypes 1.3, 7.2.2.4.4: members that have no value).
use Rattle.std.specs.Prelude.{ℤ, pos, List, [], ◌∷◌, Option, Some, None, cond, replicate}
use Rattle.xt_shapes.specs.Shape.{Literal, Shape, prim, str, enumeration, bitmask, sequence, array, map_of, structure, union, Members, no_members, member, Cases, no_cases, one_case, product}
use Rattle.xt_shapes.specs.Vals.{Val, int, text, listed, mapped, struct_of, union_of, no_vals, no_pairs, Slots, no_slots, one_slot, absent, present, vals_of}

-- the value of the first marked literal
abbrev pub marked : List Literal → Option ℤ
marked [] = None
marked (l ∷ ls) = cond l.is_default (Some l.value) (marked ls)

abbrev pub first_value : List Literal → ℤ
first_value [] = pos 0
first_value (l ∷ ls) = l.value

abbrev pub int_or : Option ℤ → ℤ → ℤ
int_or None d = d
int_or (Some i) d = i

-- what the first label gives, or else the next
abbrev pub by_label : List ℤ → (ℤ → Val) → Val → Val
by_label [] f next = next
by_label (l ∷ ls) f next = f l

abbrev mutual
  pub default_of : Shape → Val
  default_of (prim p) = int (pos 0)
  default_of (str bound) = text []
  -- the marked literal, else the first
  default_of (enumeration ext bits literals) = int (int_or (marked literals) (first_value literals))
  default_of (bitmask bits flags) = int (pos 0)
  default_of (sequence bound tc t) = listed no_vals
  default_of (array dims tc t) = listed (vals_of (replicate (product dims) (default_of t)))
  default_of (map_of bound kc k vc v) = mapped no_pairs
  default_of (structure ext ms) = struct_of (default_slots ms)
  default_of (union ext key disc cs) = default_union cs

  -- an optional member is absent
  pub default_slots : Members → Slots
  default_slots no_members = no_slots
  default_slots (member h t ms) = one_slot (cond h.optional absent (present (default_of t))) (default_slots ms)

  -- the first declared label, with its case's default (this profile's own)
  pub default_union : Cases → Val
  default_union no_cases = union_of (pos 0) absent
  default_union (one_case h t cs) = by_label h.labels (λ l. union_of l (present (default_of t))) (default_union cs)
