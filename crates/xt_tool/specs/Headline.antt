-- The headline (this profile's own): where the reader's type is assignable from the writer's, the line of each sample that spells a value of the
-- writer's type is that of the value's projection; where it isn't, one line names the first rule that fails.
use Rattle.std.specs.Prelude.{◌≡◌, ℕ, ◌⊎◌, List, [], ◌∷◌, ◌++◌, map, Some, None, Ok, if◌then◌else◌}
use Rattle.xt_io.specs.declared.Kind.TheVariants.{Sample, Note}
use Rattle.xt_io.specs.declared.Item.{Item}
use Rattle.xt_io.specs.Bundles.{bundle}
use Rattle.xt_shapes.specs.declared.leaves.Step.{Step}
use Rattle.xt_shapes.specs.Vals.{Val}
use Rattle.type_trees.specs.Trees.{Tree}
use Rattle.type_trees.specs.Bridge.{shape}
use Rattle.type_object.specs.Pools.{Texts}
use Rattle.xcdr_model.specs.declared.verdict.Rule.{Rule}
use Rattle.xcdr_model.specs.Assignable.{Assignable}
use Rattle.xcdr_model.specs.Failure.{first_failure}
use Rattle.xcdr_model.specs.Samples.{projection}
use Rattle.xcdr_model.specs.SampleSpelling.{IsSample}
use Rattle.tool_runs.specs.declared.output.ending.Ending.TheVariants as endings
use Rattle.tool_runs.specs.declared.output.ending.Ending.TheVariants.{Done}
use Rattle.tool_runs.specs.declared.output.ending.Cause.TheVariants.{No}
use Rattle.tool_runs.specs.output.Outputs.{Output, same_kind}
use Rattle.tool_runs.specs.front.Fronts.{Front, front_of}
use Rattle.tool_types.specs.Types.{Declared, declare}
use Rattle.tool_types.specs.names.Names.{pair_named}
use Rattle.tool_words.specs.Words.{Pair, read, command_of}
use Rattle.tool_samples.specs.lines.Lines.{no_text, outcome_line, sample_line}
use Rattle.xt_tool.specs.Output.{output_of}

-- Each record is a sample or a Note.
abbrev pub AreSamples : List Item → Type 0
AreSamples [] = Unit {0}
AreSamples (item ∷ items) = ((item.kind ≡ Sample) ⊎ (item.kind ≡ Note)) × AreSamples items

-- the payloads of the samples, in order
abbrev pub samples_in : List Item → List (List ℕ)
samples_in [] = []
samples_in (item ∷ items) = if same_kind item.kind Sample then item.payload ∷ samples_in items else samples_in items

-- What `read` is run on: the words ask it, the front has no fault, its records declare types, both names are found and mean tops, and the
-- body holds samples and Notes to its end.
pub record Reads (words : List (List ℕ)) (octets : List ℕ) (pair : Pair) (reader writer : Tree) (payloads : List (List ℕ)) : Type 0 where
  pub words_are : command_of words ≡ Some (read pair)
  pub front : Front
  pub opens : front_of 0 (bundle octets) ≡ Ok front
  pub types : List Declared × Texts
  pub declares : declare 0 [] front.records ≡ Ok types
  pub named : pair_named pair.reader pair.writer types ≡ Ok (reader, writer)
  pub samples : AreSamples front.body.items
  pub whole : front.body.end ≡ None
  pub payloads_are : payloads ≡ samples_in front.body.items

-- Where the reader's type is assignable: a line for each sample, in order, which is that of the reader's type alone, and for each value of
-- the writer's type that the sample spells that of its projection.
pub record Lines (pair : Pair) (reader writer : Tree) (payloads : List (List ℕ)) (output : Output) : Type 0 where
  pub lines : output ≡ record { pieces = map (sample_line pair.rep reader) payloads; ending = Done }
  pub projected : (payload : List ℕ) (v : Val) → IsSample pair.rep (shape writer) v payload → sample_line pair.rep reader payload ≡ outcome_line reader (Ok (projection (shape reader) (shape writer) v))

abbrev pub Headline : Type 0
Headline = (words : List (List ℕ)) (octets : List ℕ) (pair : Pair) (reader writer : Tree) (payloads : List (List ℕ)) → Reads words octets pair reader writer payloads
    → Assignable pair.policy pair.rep (shape reader) (shape writer) → Lines pair reader writer payloads (output_of words octets)

-- Where it isn't: one line, with the first rule that fails and its path.
abbrev pub Refused : Type 0
Refused = (words : List (List ℕ)) (octets : List ℕ) (pair : Pair) (reader writer : Tree) (payloads : List (List ℕ)) → Reads words octets pair reader writer payloads → (Assignable pair.policy pair.rep (shape reader) (shape writer) → ⊥)
    → (failure : Rule × List Step) × (first_failure pair.policy pair.rep (shape reader) (shape writer) ≡ Some failure) × (output_of words octets ≡ record { pieces = (no_text failure.0 failure.1 ++ 10 ∷ []) ∷ []; ending = endings.Refused No })
