-- What a fetch and a push come to, as records and lines (own).
use Rattle.std.specs.Prelude.{ℕ, List, [], ◌∷◌, ◌++◌, map, Option, Some, None, Result, Ok, Err, codes}
use Rattle.hex.specs.Hex.{encode_lower}
use Rattle.xt_io.specs.declared.Kind.TheVariants.{Object}
use Rattle.xt_io.specs.Records.{record_octets}
use Rattle.type_trees.specs.declared.types.HashId.{HashId}
use Rattle.type_trees.specs.Ids.{id_text}
use Rattle.type_lookup.specs.declared.messages.messages.Fetched.{Fetched}
use Rattle.lookup_fetch.specs.declared.faults.FetchFault.{FetchFault}
use Rattle.lookup_fetch.specs.declared.faults.FetchFault.TheVariants as fetch
use Rattle.type_mirror.specs.declared.told.told.Told.{Told}
use Rattle.type_mirror.specs.declared.told.told.What.{What}
use Rattle.type_mirror.specs.declared.told.told.What.TheVariants.{Added, Known, Clash, Full}
use Rattle.type_mirror.specs.declared.told.told.PushFault.{PushFault}
use Rattle.type_mirror.specs.declared.told.told.PushFault.TheVariants as push
use Rattle.tool_runs.specs.declared.output.ending.Cause.TheVariants as causes
use Rattle.tool_runs.specs.declared.output.ending.Style.TheVariants.{Lines, Records}
use Rattle.tool_runs.specs.output.Outputs.{Output, Refusal, refused}
use Rattle.tool_runs.specs.Commands.{only}
use Rattle.tool_nets.specs.Nets.{net_fault}

-- what a peer sent was refused
abbrev pub refused_peer : List ℕ → Refusal
refused_peer text = record { text = text; cause = causes.Fetch }

-- ---- a fetch: an Object record for each object, in order

abbrev pub object_record : Fetched → List ℕ
object_record object = record_octets Object object.octets

abbrev pub wrong_hash_text : HashId → HashId → List ℕ
wrong_hash_text id other = codes "fetch wrong-hash " ++ (id_text id ++ 32 ∷ id_text other)

abbrev pub not_served_text : HashId → List ℕ
not_served_text id = codes "fetch not-served " ++ id_text id

-- what a fetch comes to; nothing, where memory was wanting
abbrev pub fetch_output : Result (List Fetched) FetchFault → Option Output
fetch_output (Ok objects) = Some (only (map object_record objects))
fetch_output (Err fetch.LinkFault) = Some (refused Records net_fault)
fetch_output (Err fetch.BadReply) = Some (refused Records (refused_peer (codes "fetch bad-reply")))
fetch_output (Err (fetch.WrongHash id other)) = Some (refused Records (refused_peer (wrong_hash_text id other)))
fetch_output (Err (fetch.NotServed id)) = Some (refused Records (refused_peer (not_served_text id)))
fetch_output (Err fetch.TooMany) = Some (refused Records (refused_peer (codes "fetch too-many")))
fetch_output (Err fetch.OutOfMemory) = None

-- ---- a push: a line for each object, in order

abbrev pub what_text : What → List ℕ
what_text Added = codes "added"
what_text Known = codes "known"
what_text (Clash octets) = codes "clash " ++ encode_lower octets
what_text Full = codes "full"

abbrev pub told_line : Told → List ℕ
told_line told = id_text told.id ++ 32 ∷ (what_text told.what ++ 10 ∷ [])

-- what a push comes to; nothing, where memory was wanting
abbrev pub push_output : Result (List Told) PushFault → Option Output
push_output (Ok told) = Some (only (map told_line told))
push_output (Err push.LinkFault) = Some (refused Lines net_fault)
push_output (Err push.BadReply) = Some (refused Lines (refused_peer (codes "mirror bad-reply")))
push_output (Err push.OutOfMemory) = None
