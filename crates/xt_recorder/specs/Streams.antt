-- The Note that says the type and the representation of the samples after it: `stream ID REP` (this profile's own).
use Rattle.std.specs.Prelude.{ℕ, List, ◌∷◌, ◌++◌, take, drop, Option, Some, None, if◌then◌else◌, codes}
use Rattle.std.specs.Str.{bytes_eq}
use Rattle.xt_shapes.specs.declared.leaves.Rep.{Rep}
use Rattle.xt_shapes.specs.declared.leaves.Rep.TheVariants.{Xcdr1, Xcdr2}
use Rattle.type_trees.specs.declared.types.HashId.{HashId}
use Rattle.type_trees.specs.Ids.{id_text, id_of_digits}

abbrev pub rep_text : Rep → List ℕ
rep_text Xcdr1 = codes "xcdr1"
rep_text Xcdr2 = codes "xcdr2"

-- the payload of the Note: 43 octets
abbrev pub stream_text : HashId → Rep → List ℕ
stream_text id rep = codes "stream " ++ id_text id ++ 32 ∷ rep_text rep

abbrev pub rep_of : List ℕ → Option Rep
rep_of text = if bytes_eq text (codes "xcdr1") then Some Xcdr1 else if bytes_eq text (codes "xcdr2") then Some Xcdr2 else None

-- the two parts, where the payload is their text
abbrev pub told_by : List ℕ → Option HashId → Option Rep → Option (HashId × Rep)
told_by payload None rep = None
told_by payload (Some id) None = None
told_by payload (Some id) (Some rep) = if bytes_eq payload (stream_text id rep) then Some (id, rep) else None

-- the identifier and the representation, where the payload is exactly a stream's text
abbrev pub stream_of : List ℕ → Option (HashId × Rep)
stream_of payload = told_by payload (id_of_digits (take 30 (drop 7 payload))) (rep_of (drop 38 payload))
