-- What a change of types breaks: version after version, for each structure and union what its readers and writers come to (this profile's own).
use Rattle.std.specs.Prelude.{ℕ, ◌+◌, Bool, true, false, not, ◌&&◌, ◌||◌, List, [], ◌∷◌, ◌++◌, map, Option, Some, None, Result, Ok, if◌then◌else◌, codes}
use Rattle.std.specs.Fmt.{decimal}
use Rattle.xt_io.specs.declared.Item.{Item}
use Rattle.xt_shapes.specs.declared.leaves.Rep.{Rep}
use Rattle.type_trees.specs.Trees.{Tree, prim, str, enumeration, bitmask, sequence, array, map_of, structure, union, alias}
use Rattle.type_trees.specs.Bridge.{shape}
use Rattle.type_trees.specs.samples.Tops.{is_top}
use Rattle.xcdr_model.specs.declared.verdict.Policy.{Policy}
use Rattle.xcdr_model.specs.Failure.{First, first_failure}
use Rattle.idl_types.specs.State as idl_types
use Rattle.tool_runs.specs.declared.output.ending.Cause.TheVariants.{No}
use Rattle.tool_runs.specs.declared.output.ending.Ending.{Ending}
use Rattle.tool_runs.specs.declared.output.ending.Ending.TheVariants.{Done, Refused}
use Rattle.tool_runs.specs.output.Outputs.{Output, Refusal, ◌>>=◌}
use Rattle.tool_samples.specs.lines.Lines.{no_text}
use Rattle.tool_types.specs.Types.{Declared, types, object, declare}
use Rattle.tool_types.specs.names.Names.{type_by_name}

-- ---- versions

-- A version of the types: the number of its record, and what its text declares.
pub record Version : Type 0 where
  pub number : ℕ
  pub types : idl_types.Declared

-- the versions among records that are numbered from k; objects are none
abbrev pub versions : ℕ → List Declared → List Version
versions k [] = []
versions k (types ts ∷ ds) = record { number = k; types = ts } ∷ versions (k + 1) ds
versions k (object id name ∷ ds) = versions (k + 1) ds

-- ---- types that are compared

-- whether a structure or union is marked as nested, behind aliases
abbrev pub is_nested : Tree → Bool
is_nested (structure h ms) = h.nested
is_nested (union h disc cs) = h.nested
is_nested (alias name t) = is_nested t
is_nested (prim p) = false
is_nested (str bound) = false
is_nested (enumeration name ext bits literals) = false
is_nested (bitmask name bits flags) = false
is_nested (sequence bound tc t) = false
is_nested (array dims tc t) = false
is_nested (map_of bound kc k vc v) = false

-- behind aliases a structure or union that samples may have at the top
abbrev pub is_compared : Tree → Bool
is_compared t = is_top (shape t) && not (is_nested t)

-- ---- what becomes of a type

-- Whether the newer version reads the older's samples, and the older the newer's, or the first rule that fails; or a version alone has the type.
pub data Change : Type 0 where
  backward : First → Change
  forward : First → Change
  gone : Change
  new : Change

-- in the version of this number, of the type of this name
pub record Finding : Type 0 where
  pub number : ℕ
  pub name : List ℕ
  pub change : Change

abbrev pub both_ways : Policy → Rep → Tree → Tree → List Change
both_ways q r newer older = backward (first_failure q r (shape newer) (shape older)) ∷ forward (first_failure q r (shape older) (shape newer)) ∷ []

-- what becomes of a type where the newer version has this under its name
abbrev pub became : Policy → Rep → Tree → Option Tree → List Change
became q r older None = gone ∷ []
became q r older (Some newer) = if is_top (shape newer) then both_ways q r newer older else gone ∷ []

abbrev pub found : ℕ → List ℕ → List Change → List Finding
found k name [] = []
found k name (c ∷ cs) = record { number = k; name = name; change = c } ∷ found k name cs

-- of each of these, one after another
abbrev pub each : {A : Type 0} → (A → List Finding) → List A → List Finding
each f [] = []
each f (x ∷ xs) = f x ++ each f xs

-- of a type of the older version
abbrev pub of_older : Policy → Rep → Version → List ℕ × Tree → List Finding
of_older q r newer t = if is_compared t.1 then found newer.number t.0 (became q r t.1 (type_by_name t.0 newer.types)) else []

abbrev pub appeared : Option Tree → List Change
appeared None = new ∷ []
appeared (Some older) = []

-- of a type of the newer version
abbrev pub of_newer : ℕ → idl_types.Declared → List ℕ × Tree → List Finding
of_newer k older t = if is_compared t.1 then found k t.0 (appeared (type_by_name t.0 older)) else []

-- between a version and the next
abbrev pub between : Policy → Rep → Version → Version → List Finding
between q r older newer = each (of_older q r newer) older.types ++ each (of_newer newer.number older.types) newer.types

abbrev pub behind : Policy → Rep → Version → List Version → List Finding
behind q r older [] = []
behind q r older (newer ∷ vs) = between q r older newer ++ behind q r newer vs

-- each version with the one before it
abbrev pub findings : Policy → Rep → List Version → List Finding
findings q r [] = []
findings q r (v ∷ vs) = behind q r v vs

-- ---- lines

abbrev pub verdict_text : First → List ℕ
verdict_text None = codes "yes"
verdict_text (Some failure) = no_text failure.0 failure.1

abbrev pub change_text : Change → List ℕ
change_text (backward first) = codes "backward " ++ verdict_text first
change_text (forward first) = codes "forward " ++ verdict_text first
change_text gone = codes "gone"
change_text new = codes "new"

abbrev pub finding_line : Finding → List ℕ
finding_line f = decimal f.number ++ (32 ∷ (f.name ++ (32 ∷ (change_text f.change ++ 10 ∷ []))))

abbrev pub fails : First → Bool
fails None = false
fails (Some failure) = true

-- somebody stops understanding somebody
abbrev pub breaks : Change → Bool
breaks (backward first) = fails first
breaks (forward first) = fails first
breaks gone = true
breaks new = false

abbrev pub any_breaks : List Finding → Bool
any_breaks [] = false
any_breaks (f ∷ fs) = breaks f.change || any_breaks fs

abbrev pub ending_of : Bool → Ending
ending_of true = Refused No
ending_of false = Done

-- A line for each finding; a No where one breaks something, or something before did.
abbrev pub telling : Bool → List Finding → Output
telling broke fs = record { pieces = map finding_line fs; ending = ending_of (broke || any_breaks fs) }

-- what `compare` writes for the records of a front
abbrev pub compare_output : Policy → Rep → List Item → Result Output Refusal
compare_output q r records = declare 0 [] records >>= λ front. Ok (telling false (findings q r (versions 0 front.0)))
