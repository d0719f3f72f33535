-- A JSON value, level by level.
use Rattle.std.proofs.Common.{length, List, ◌≡◌, Bool, String, Global, Vec, BTreeMap, string_bytes, rules}
use Rattle.serde_json.specs.Data.{null, boolean, number, string, array, object}
use Rattle.serde_json.specs.Events.{items_len}
use Rattle.serde_json.proofs.Views.{items_len-items_view}
use Rattle.serde_json.specs.View.{view, number_view, items_view, members_view}
use Rattle.serde_json.specs.declared.number.Number.{Number}
use Rattle.serde_json.specs.declared.value.Value.{Value, the_lemmas}
use Rattle.serde_json.specs.declared.value.Value as v

pub view_null : view v.Null ≡ null
view_null = search (rules, the_lemmas)

pub view_bool : (b : Bool) → view (v.Bool b) ≡ boolean b
view_bool b = search (rules, the_lemmas)

pub view_number : (n : Number) → view (v.Number n) ≡ number (number_view n)
view_number n = search (rules, the_lemmas)

pub view_string : (s : String Global) → view (v.String s) ≡ string (string_bytes s)
view_string s = search (rules, the_lemmas)

pub view_array : (ds : Vec Value Global) → view (v.Array ds) ≡ array (items_view ds.items)
view_array ds = search (rules, the_lemmas)

pub view_object : (ms : BTreeMap (String Global) Value) → view (v.Object ms) ≡ object (members_view ms.entries)
view_object ms = search (rules, the_lemmas)

pub ruleset data_rules = (view_null, view_bool, view_number, view_string, view_array, view_object)

pub items_len_is : (ds : List Value) → items_len (items_view ds) ≡ length ds
items_len_is ds = items_len-items_view ds
