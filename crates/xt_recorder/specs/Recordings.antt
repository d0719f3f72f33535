-- A recording: the objects of a type, the Note of its stream, and samples (this profile's own).
use Rattle.std.specs.Prelude.{ℕ, zero, suc, List, [], ◌∷◌, ◌++◌, length, cond, Option, Some, None}
use Rattle.xt_shapes.specs.declared.leaves.Rep.{Rep}
use Rattle.type_trees.specs.declared.types.HashId.{HashId}
use Rattle.object_formats.specs.Objects.{Object}
use Rattle.type_object.specs.Pools.{Texts, found, object_at}
use Rattle.type_object.specs.References.{is_among, note, references}
use Rattle.xt_io.specs.declared.Kind.TheVariants.{Object as Objects, Note}
use Rattle.xt_io.specs.Records.{record_octets}
use Rattle.xt_recorder.specs.Streams.{stream_text}

-- ---- an identifier and all that it refers to

abbrev pub referred : Option Object → List HashId
referred None = []
referred (Some object) = references object

abbrev pub each : (List HashId → HashId → List HashId) → List HashId → List HashId → List HashId
each one listed [] = listed
each one listed (id ∷ ids) = each one (one listed id) ids

-- An identifier behind those that are listed: first what it refers to, in the order of its text, and then itself. One that is listed
-- already is not listed again. So many levels are followed.
unfoldable pub listed_at : ℕ → Texts → List HashId → HashId → List HashId
listed_at zero pool listed id = listed
listed_at (suc levels) pool listed id = cond (is_among id listed) listed (note (each (listed_at levels pool) listed (referred (object_at id pool))) id)

-- Where the identifier resolves, none is met inside itself, so there are no more levels than texts.
abbrev pub closed : Texts → HashId → List HashId
closed pool id = listed_at (length pool) pool [] id

-- ---- records

abbrev pub object_record : Option (List ℕ) → List ℕ
object_record None = []
object_record (Some text) = record_octets Objects text

abbrev pub object_records : Texts → List HashId → List ℕ
object_records pool [] = []
object_records pool (id ∷ ids) = object_record (found id pool) ++ object_records pool ids

-- the objects, and the Note of the stream
abbrev pub opening : Texts → HashId → Rep → List ℕ
opening pool id rep = object_records pool (closed pool id) ++ record_octets Note (stream_text id rep)
