-- The entries of a map, gathered as they come (DDS-XTypes 1.3, 7.2.2.7; the steps are own).
use Rattle.std.specs.Prelude.{ℕ, cond, ◌||◌, List, Option, Some, None, map}
use Rattle.xt_shapes.specs.declared.leaves.Try.{Try}
use Rattle.xt_shapes.specs.Vals.{Val}
use Rattle.type_trees.specs.View.{pair_val}
use Rattle.xcdr_model.specs.Projection.{Part, both, settled, within, then_entries}
use Rattle.try_construct.specs.declared.entries.Entries.{Entries}
use Rattle.settled_parts.specs.declared.part.Settled.{Settled}
use Rattle.settled_parts.specs.Parts.{settled_of}
use Rattle.try_construct.specs.Gathering.{Gathered, and_part, and_parts, one_more}
use Rattle.try_construct.specs.Items.{value_in}

-- the entries so far
abbrev pub entries_of : Entries → Gathered (Val × Val)
entries_of x = record { kept = cond x.failed None (Some (map pair_val x.pairs)); past = x.past; unseen = x.unseen }

abbrev pub pair_up : Option Val → Option Val → Option (Val × Val)
pair_up k v = both (λ x y. (x, y)) k v

-- an entry more, its key and its value settled by the map's settings
abbrev pub and_entry : ℕ → Try → Val → Try → Val → Gathered (Val × Val) → Part × Part → Gathered (Val × Val)
and_entry bound kc kd vc vd g x = and_part bound g (pair_up (settled kc kd (λ v. v) x.0.0) (settled vc vd (λ v. v) x.1.0)) (x.0.1 || x.1.1)

-- a settled entry more, where there is room
abbrev pub and_pair : Gathered (Val × Val) → Settled → Settled → Gathered (Val × Val)
and_pair g k v = record { kept = one_more g.kept (pair_up (value_in (settled_of k).0) (value_in (settled_of v).0)); past = g.past; unseen = g.unseen || (k.unseen || v.unseen) }

-- the map of the entries; keys that became equal make it fail
abbrev pub whole_of : Gathered (Val × Val) → Part
whole_of g = (within g.past (then_entries g.kept), g.unseen)

-- the map of the entries so far and of those that are still to come
abbrev pub entries_then : ℕ → Try → Val → Try → Val → Gathered (Val × Val) → List (Part × Part) → Part
entries_then bound kc kd vc vd g xs = whole_of (and_parts bound (λ x. pair_up (settled kc kd (λ v. v) x.0.0) (settled vc vd (λ v. v) x.1.0)) (λ x. x.0.1 || x.1.1) g xs)
