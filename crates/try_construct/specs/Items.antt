-- The items of a sequence or an array, gathered as they come (DDS-XTypes 1.3, 7.2.2.7; the steps are own).
use Rattle.std.specs.Prelude.{ℕ, cond, ◌||◌, List, Option, Some, None, map}
use Rattle.std.specs.Option.{option_map}
use Rattle.xt_shapes.specs.declared.leaves.Try.{Try}
use Rattle.xt_shapes.specs.Vals.{Val, Slot as Body, absent, present, listed, vals_of}
use Rattle.type_trees.specs.View.{val}
use Rattle.xcdr_model.specs.Projection.{Part, settled, within}
use Rattle.try_construct.specs.declared.items.Items.{Items}
use Rattle.settled_parts.specs.declared.part.Settled.{Settled}
use Rattle.settled_parts.specs.Parts.{settled_of}
use Rattle.try_construct.specs.Gathering.{Gathered, and_part, and_parts, one_more}

-- the items so far
abbrev pub items_of : Items → Gathered Val
items_of x = record { kept = cond x.failed None (Some (map val x.values)); past = x.past; unseen = x.unseen }

-- an item more, settled by the element's setting
abbrev pub and_item : ℕ → Try → Val → Gathered Val → Part → Gathered Val
and_item bound tc d g x = and_part bound g (settled tc d (λ v. v) x.0) x.1

-- the value in a slot
abbrev pub value_in : Option Body → Option Val
value_in None = None
value_in (Some absent) = None
value_in (Some (present v)) = Some v

-- a settled item more, where there is room
abbrev pub and_settled : Gathered Val → Settled → Gathered Val
and_settled g s = record { kept = one_more g.kept (value_in (settled_of s).0); past = g.past; unseen = g.unseen || s.unseen }

-- the collection of the items
abbrev pub whole_of : Gathered Val → Part
whole_of g = (within g.past (option_map (λ vs. listed (vals_of vs)) g.kept), g.unseen)

-- the collection of the items so far and of those that are still to come
abbrev pub items_then : ℕ → Try → Val → Gathered Val → List Part → Part
items_then bound tc d g xs = whole_of (and_parts bound (λ x. settled tc d (λ v. v) x.0) (λ x. x.1) g xs)
