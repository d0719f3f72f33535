-- The members of a structure's JSON, by positions that are listed under their names (this profile's own).
use Rattle.std.specs.Prelude.{ℕ, List, [], ◌∷◌, Option, Some, slice_get}
use Rattle.std.specs.Borrow.{Bor}
use Rattle.serde_json.specs.Data as json
use Rattle.serde_json.specs.Data.{Data}
use Rattle.type_trees.specs.declared.types.Member.{Member}
use Rattle.type_trees.specs.declared.values.Slot.{Slot}
use Rattle.type_trees.specs.Trees.{Tree}
use Rattle.xt_shapes.specs.Vals.{Slot as Body, absent, present}
use Rattle.type_trees.specs.View.{member_tree, body_val}
use Rattle.json_values.specs.Names.{name_text}
use Rattle.json_values.specs.Written.{data_of, put_slot}

abbrev pub slot_data : Tree → Body → Data
slot_data t absent = json.null
slot_data t (present v) = data_of t v

abbrev pub both_data : Option Member → Option Slot → Data
both_data (Some m) (Some s) = slot_data (member_tree m).1 (body_val s)
both_data _ _ = json.null

abbrev pub at_data : List Member → List Slot → ℕ → Data
at_data ms ss at = both_data (slice_get ms at) (slice_get ss at)

abbrev pub entries_data : List Member → List Slot → List (Bor (List ℕ) × ℕ) → json.Members
entries_data ms ss [] = json.no_members
entries_data ms ss (e ∷ es) = json.member e.0.now (at_data ms ss e.1) (entries_data ms ss es)

-- a slot that is present goes under its member's name
abbrev pub put_both : Option Member → Option Slot → json.Members → json.Members
put_both (Some m) (Some s) found = put_slot (name_text (member_tree m).0.name) (data_of (member_tree m).1) (body_val s) found
put_both _ _ found = found

abbrev pub put_at : List Member → List Slot → ℕ → json.Members → json.Members
put_at ms ss at found = put_both (slice_get ms at) (slice_get ss at) found
