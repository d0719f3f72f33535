-- The members of a structure by their ids (this profile's own).
use Rattle.std.specs.Prelude.{◌≡◌, ℕ}
use Rattle.std.specs.BTreeMap.{get}
use Rattle.std.specs.Ordering.{nat_cmp}
use Rattle.xt_shapes.specs.Shape.{Members}
use Rattle.xcdr_steps.specs.reading.Indices.{index_of}
use Rattle.xcdr_steps.specs.declared.index.index.MemberIndex.{MemberIndex}

-- each id has the index of the first member with it, and no other id has one
abbrev pub IsIndexOf : Members → MemberIndex → Type 0
IsIndexOf ms index = (id : ℕ) → get nat_cmp index.by_id id ≡ index_of ms id
