-- Completeness (this profile's own): where nothing is wrong with what a command is given, it ends as done; or refused for No, exactly where the
-- reader's type isn't assignable from the writer's; or for Limit, exactly where there is a key too many.
use Rattle.std.specs.Prelude.{◌≡◌, ◌≤◌, ◌<◌, ℕ, ◌⊎◌, List, [], ◌∷◌, false, length, nat_lt, Some, None, Ok}
use Rattle.xt_io.specs.declared.Kind.TheVariants.{Json, Note}
use Rattle.xt_io.specs.declared.Item.{Item}
use Rattle.xt_io.specs.Bundles.{Bundle, bundle, limit_of}
use Rattle.xt_shapes.specs.declared.leaves.Rep.{Rep}
use Rattle.xt_shapes.specs.Vals.{Val}
use Rattle.type_trees.specs.Trees.{Tree}
use Rattle.type_trees.specs.Bridge.{shape}
use Rattle.type_object.specs.Pools.{Texts}
use Rattle.xcdr_model.specs.Assignable.{Assignable}
use Rattle.xcdr_model.specs.SampleSpelling.{sample_size}
use Rattle.json_values.specs.Read.{read_as}
use Rattle.xt_recorder.specs.Replays.{replay as replay_of}
use Rattle.key_instances.specs.kept.Kept.{keys_of}
use Rattle.tool_runs.specs.declared.output.ending.Ending.{Ending}
use Rattle.tool_runs.specs.declared.output.ending.Ending.TheVariants.{Done, Refused}
use Rattle.tool_runs.specs.declared.output.ending.Cause.TheVariants.{No, Limit}
use Rattle.tool_runs.specs.front.Fronts.{front_of, closed}
use Rattle.tool_types.specs.Types.{Declared, declare}
use Rattle.tool_types.specs.names.Names.{pair_named, top_named}
use Rattle.tool_words.specs.Words.{Pair, Command, compile, judge, read, write, convert, show, wrap, instances, keep, replay, make, compare, command_of}
use Rattle.tool_samples.specs.lines.Lines.{most_octets}
use Rattle.tool_samples.specs.instances.Instancing.{most_keys}
use Rattle.tool_samples.specs.instances.Laws.{puts_of}
use Rattle.tool_verdicts.specs.Versions.{any_breaks, ending_of, findings, versions}
use Rattle.xt_tool.specs.Headline.{AreSamples}
use Rattle.xt_tool.specs.Output.{output_of}

-- ---- what a command is given

-- The front has no fault, its records declare these types, and behind it stands this body.
pub record Given (octets : List ℕ) (types : List Declared × Texts) (body : Bundle) : Type 0 where
  pub records : List Item
  pub opens : front_of 0 (bundle octets) ≡ Ok (record { records = records; body = body })
  pub declares : declare 0 [] records ≡ Ok types

-- The body holds samples and Notes to its end.
pub record HoldsSamples (body : Bundle) : Type 0 where
  pub samples : AreSamples body.items
  pub whole : body.end ≡ None

-- The record is a value of the type in JSON, and its sample isn't too large.
pub record IsValue (rep : Rep) (t : Tree) (item : Item) : Type 0 where
  pub kind : item.kind ≡ Json
  pub value : Val
  pub reads : read_as t item.payload ≡ Ok value
  pub fits : nat_lt most_octets (sample_size rep (shape t) value) ≡ false

abbrev pub AreValues : Rep → Tree → List Item → Type 0
AreValues rep t [] = Unit {0}
AreValues rep t (item ∷ items) = (IsValue rep t item ⊎ (item.kind ≡ Note)) × AreValues rep t items

-- The body holds values and Notes to its end.
pub record HoldsValues (rep : Rep) (t : Tree) (body : Bundle) : Type 0 where
  pub values : AreValues rep t body.items
  pub whole : body.end ≡ None

-- The body is whole, and none of its records is refused.
pub record IsReplayed (t : Tree) (pool : Texts) (body : Bundle) : Type 0 where
  pub taken : (replay_of t pool body.items).1 ≡ None
  pub whole : body.end ≡ None

-- ---- how it ends

-- The reader's type, which comes first, is assignable from the writer's.
abbrev pub Fits : Pair → Tree × Tree → Type 0
Fits pair both = Assignable pair.policy pair.rep (shape both.0) (shape both.1)

pub record ByVerdict (pair : Pair) (both : Tree × Tree) (ending : Ending) : Type 0 where
  pub yes : Fits pair both → ending ≡ Done
  pub no : (Fits pair both → ⊥) → ending ≡ Refused No

-- the same where so many keys come
pub record ByKeys (pair : Pair) (both : Tree × Tree) (keys : ℕ) (ending : Ending) : Type 0 where
  pub few : Fits pair both → keys ≤ most_keys → ending ≡ Done
  pub many : Fits pair both → most_keys < keys → ending ≡ Refused Limit
  pub no : (Fits pair both → ⊥) → ending ≡ Refused No

-- a command that asks nothing of its types
abbrev pub Lists : List ℕ → Ending → Type 0
Lists octets ending = (types : List Declared × Texts) (body : Bundle) → Given octets types body → closed body ≡ Ok tt → ending ≡ Done

-- one that reads samples of a pair
abbrev pub Samples : Pair → List ℕ → Ending → Type 0
Samples pair octets ending = (types : List Declared × Texts) (body : Bundle) (both : Tree × Tree) → Given octets types body → pair_named pair.reader pair.writer types ≡ Ok both → HoldsSamples body → ByVerdict pair both ending

-- Names are found and mean structures or unions, and behind the front stands what the command takes.
abbrev pub Completes : Command → List ℕ → Ending → Type 0
Completes compile octets ending = Lists octets ending
Completes show octets ending = Lists octets ending
Completes (judge pair) octets ending = (types : List Declared × Texts) (body : Bundle) (both : Tree × Tree) → Given octets types body → pair_named pair.reader pair.writer types ≡ Ok both → closed body ≡ Ok tt → ByVerdict pair both ending
Completes (read pair) octets ending = Samples pair octets ending
Completes (convert pair to) octets ending = Samples pair octets ending
Completes (write r rep) octets ending = (types : List Declared × Texts) (body : Bundle) (t : Tree) → Given octets types body → top_named r types ≡ Ok t → HoldsValues rep t body → ending ≡ Done
Completes (keep r rep) octets ending = (types : List Declared × Texts) (body : Bundle) (t : Tree) → Given octets types body → top_named r types ≡ Ok t → HoldsSamples body → ending ≡ Done
Completes (instances pair depth) octets ending = (types : List Declared × Texts) (body : Bundle) (both : Tree × Tree) → Given octets types body → pair_named pair.reader pair.writer types ≡ Ok both → HoldsSamples body → ByKeys pair both (length (keys_of [] (puts_of pair.rep both.0 body.items))) ending
Completes (replay r) octets ending = (types : List Declared × Texts) (body : Bundle) (t : Tree) → Given octets types body → top_named r types ≡ Ok t → IsReplayed t types.1 body → ending ≡ Done
Completes (compare rep policy) octets ending = (types : List Declared × Texts) (body : Bundle) → Given octets types body → closed body ≡ Ok tt → ending ≡ ending_of (any_breaks (findings policy rep (versions 0 types.0)))
Completes (wrap kind) octets ending = length octets ≤ limit_of kind → ending ≡ Done
Completes (make seed count) octets ending = ending ≡ Done

abbrev pub Completeness : Type 0
Completeness = (words : List (List ℕ)) (octets : List ℕ) (command : Command) → command_of words ≡ Some command → Completes command octets (output_of words octets).ending
