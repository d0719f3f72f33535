-- The front of a bundle: its leading records of types (this profile's own).
use Rattle.std.specs.Prelude.{ℕ, ◌+◌, Bool, true, false, List, [], ◌∷◌, length, Option, Some, None, Result, Ok, Err, nat_lt, if◌then◌else◌, codes}
use Rattle.xt_io.specs.declared.Kind.{Kind}
use Rattle.xt_io.specs.declared.Kind.TheVariants.{Object, Sample, Idl, Json, Note}
use Rattle.xt_io.specs.declared.Item.{Item}
use Rattle.xt_io.specs.declared.RecordFault.{RecordFault}
use Rattle.xt_io.specs.declared.RecordFault.TheVariants.{ReadFault, Truncated, UnknownKind, TooLong, TooMany, OutOfMemory}
use Rattle.xt_io.specs.Bundles.{Bundle, nothing, only_fault}
use Rattle.tool_runs.specs.output.Texts.{bundle_text}
use Rattle.tool_runs.specs.output.Outputs.{Refusal, ◌>>=◌, bundle_refusal, broken, misplaced, same_kind}

abbrev pub is_front : Kind → Bool
is_front Object = true
is_front Idl = true
is_front Sample = false
is_front Json = false
is_front Note = false

-- A record that is cut or too long begins the body where its kind is no front's.
abbrev pub begins_body : RecordFault → Bool
begins_body (Truncated at kind) = if is_front kind then false else true
begins_body (TooLong at kind n) = if is_front kind then false else true
begins_body (UnknownKind at octet) = false
begins_body (TooMany at) = false
begins_body ReadFault = false
begins_body OutOfMemory = false

-- The records of the front, and the body: all from the first record of another kind on.
pub record Front : Type 0 where
  pub records : List Item
  pub body : Bundle

abbrev pub with_record : Item → Front → Front
with_record item front = record { records = item ∷ front.records; body = front.body }

abbrev pub no_front : Bundle → Front
no_front body = record { records = []; body = body }

-- the octets of payload that a front may have in all
abbrev pub most_octets : ℕ
most_octets = 67108864

-- the record that passes the sum is too long
abbrev pub if_within : ℕ → Item → Result Front Refusal → Result Front Refusal
if_within total item more = if nat_lt most_octets total then Err (bundle_refusal (bundle_text item.at (codes "too-long"))) else more >>= λ front. Ok (with_record item front)

-- The front of the records, where so many octets of payload came before.
unfoldable pub front_from : ℕ → List Item → Option RecordFault → Result Front Refusal
front_from total [] None = Ok (no_front nothing)
front_from total [] (Some fault) = if begins_body fault then Ok (no_front (only_fault fault)) else Err (broken fault)
front_from total (item ∷ items) end =
    if is_front item.kind then if_within (total + length item.payload) item (front_from (total + length item.payload) items end)
    else Ok (no_front (record { items = item ∷ items; end = end }))

abbrev pub front_of : ℕ → Bundle → Result Front Refusal
front_of total bundle = front_from total bundle.items bundle.end

-- A command without a body reads the rest of its input, in which Notes alone have a place.
unfoldable pub closed_from : List Item → Option RecordFault → Result (Unit {0}) Refusal
closed_from [] None = Ok tt
closed_from [] (Some fault) = Err (broken fault)
closed_from (item ∷ items) end = if same_kind item.kind Note then closed_from items end else Err (misplaced item)

abbrev pub closed : Bundle → Result (Unit {0}) Refusal
closed bundle = closed_from bundle.items bundle.end
