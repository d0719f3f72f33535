-- The headline, from the definitions and the laws of the judge and the codecs.
use Rattle.std.proofs.Common.{◌≡◌, ℕ, ◌+◌, List, [], ◌∷◌, map, length, ◌⊎◌, inl, inr, None, Result, Ok, refl, sym, ap, ◌∙◌}
use Rattle.std.specs.declared.option.Option.{Option}
use Rattle.xt_io.specs.declared.Kind.{Kind}
use Rattle.xt_io.specs.declared.Kind.TheVariants.{Sample, Note}
use Rattle.xt_io.specs.declared.Item.{Item}
use Rattle.xt_io.specs.Bundles.{Bundle}
use Rattle.xt_shapes.specs.declared.leaves.Rep.{Rep}
use Rattle.type_trees.specs.Trees.{Tree}
use Rattle.type_trees.specs.Bridge.{shape}
use Rattle.type_rules.specs.Laws.{ShapeKeepsRules}
use Rattle.type_object.specs.Pools.{Texts}
use Rattle.xcdr_model.specs.declared.malformed.Fault.{Fault}
use Rattle.xcdr_model.specs.Failure.{First, first_failure}
use Rattle.xcdr_model.specs.Samples.{Outcome}
use Rattle.shape_laws.specs.Verdicts.{ExactlyOne, Judged}
use Rattle.shape_laws.specs.Soundness.{CrossSample}
use Rattle.tool_runs.specs.declared.output.ending.Ending.TheVariants.{Done}
use Rattle.tool_runs.specs.declared.output.ending.Style.TheVariants as styles
use Rattle.tool_runs.specs.output.Outputs.{Output, Refusal, ◌>>=◌, unless_refused, finished, after_turn, run, run_over, taking}
use Rattle.tool_runs.specs.front.Fronts.{Front}
use Rattle.tool_runs.specs.Commands.{body_behind}
use Rattle.tool_types.specs.Types.{Declared}
use Rattle.tool_words.specs.Words.{Command, Pair}
use Rattle.tool_samples.specs.lines.Lines.{judged, outcome_line, sample_line, unless_failed, read_turn}
use Rattle.tool_verdicts.specs.Verdicts.{NamedAreValid, assignable}
use Rattle.tool_commands.specs.Commands.{read_lines}
use Rattle.xt_tool.specs.Output.{asked, output_of}
use Rattle.xt_tool.specs.Headline.{AreSamples, samples_in, Reads, Headline, Refused}

-- ---- a line for each sample

abbrev lines_of : Rep → Tree → List Item → Output
lines_of rep t items = record { pieces = map (sample_line rep t) (samples_in items); ending = Done }

one_turn : (rep : Rep) (t : Tree) (k : ℕ) (kind : Kind) (at : ℕ) (payload : List ℕ) (items : List Item) → (kind ≡ Sample) ⊎ (kind ≡ Note)
    → after_turn styles.Lines (taking Sample (read_turn rep t) k (record { kind = kind; at = at; payload = payload }) tt) (λ (u : Unit {0}). lines_of rep t items) ≡ lines_of rep t (record { kind = kind; at = at; payload = payload } ∷ items)
one_turn rep t k Sample at payload items is = refl
one_turn rep t k Note at payload items is = refl
one_turn rep t k Kind.Object at payload items is = elim is [ inl e ↦ absurd cc | inr e ↦ absurd cc ]
one_turn rep t k Kind.Idl at payload items is = elim is [ inl e ↦ absurd cc | inr e ↦ absurd cc ]
one_turn rep t k Kind.Json at payload items is = elim is [ inl e ↦ absurd cc | inr e ↦ absurd cc ]

run_lines : (rep : Rep) (t : Tree) (k : ℕ) (items : List Item) → AreSamples items → run_over styles.Lines (taking Sample (read_turn rep t)) (λ (u : Unit {0}). finished) tt k items None ≡ lines_of rep t items
unfolding run_over
run_lines rep t k [] are = refl
run_lines rep t k (item ∷ items) are =
    ap (λ (o : Output). after_turn styles.Lines (taking Sample (read_turn rep t) k item tt) (λ (u : Unit {0}). o)) (run_lines rep t (k + 1) items are.1) ∙ one_turn rep t k item.kind item.at item.payload items are.0

body_lines : (rep : Rep) (t : Tree) (k : ℕ) (body : Bundle) → AreSamples body.items → body.end ≡ None → run styles.Lines (taking Sample (read_turn rep t)) (λ (u : Unit {0}). finished) tt k body ≡ lines_of rep t body.items
body_lines rep t k body are whole = ap (λ end. run_over styles.Lines (taking Sample (read_turn rep t)) (λ (u : Unit {0}). finished) tt k body.items end) whole ∙ run_lines rep t k body.items are

-- ---- the verdict

-- what the front and the verdict leave
abbrev with_type : Rep → Front → Result Tree Refusal → Result Output Refusal
with_type rep front found =
    let write : Result (ℕ → Bundle → Output) Refusal = found >>= λ t. Ok (λ (k : ℕ) (body : Bundle). run styles.Lines (taking Sample (read_turn rep t)) (λ (u : Unit {0}). finished) tt k body) in
    write >>= λ w. Ok (w (length front.records) front.body)

abbrev found_by : Pair → Result (Tree × Tree) Refusal → Result Tree Refusal
found_by pair both = both >>= λ ts. judged pair.policy pair.rep ts.0 ts.1 >>= λ u. Ok ts.0

abbrev from_declared : Pair → Front → Result (List Declared × Texts) Refusal → Output
from_declared pair front declared = unless_refused styles.Lines (with_type pair.rep front (declared >>= λ types. assignable pair types))

to_verdict : (words : List (List ℕ)) (octets : List ℕ) (pair : Pair) (reader writer : Tree) (payloads : List (List ℕ)) (reads : Reads words octets pair reader writer payloads)
    → output_of words octets ≡ unless_refused styles.Lines (with_type pair.rep reads.front (judged pair.policy pair.rep reader writer >>= λ u. Ok reader))
to_verdict words octets pair reader writer payloads reads =
    ap (λ (c : Option Command). asked c octets) reads.words_are
    ∙ ap (λ (f : Result Front Refusal). unless_refused styles.Lines (f >>= body_behind (read_lines pair))) reads.opens
    ∙ ap (from_declared pair reads.front) reads.declares
    ∙ ap (λ (p : Result (Tree × Tree) Refusal). unless_refused styles.Lines (with_type pair.rep reads.front (found_by pair p))) reads.named

pub headline : ShapeKeepsRules → NamedAreValid → Judged → CrossSample → Headline
headline kept named law cross words octets pair reader writer payloads reads fits =
    let valid = named reads.front.records reads.types pair.reader pair.writer reader writer reads.declares reads.named in
    let reader_rules = kept reader valid.0 in
    let writer_rules = kept writer valid.1 in
    let none : first_failure pair.policy pair.rep (shape reader) (shape writer) ≡ None = (law pair.policy pair.rep (shape reader) (shape writer) reader_rules).1 fits in
    record {
      lines = to_verdict words octets pair reader writer payloads reads
          ∙ ap (λ (f : First). unless_refused styles.Lines (with_type pair.rep reads.front (unless_failed f >>= λ u. Ok reader))) none
          ∙ body_lines pair.rep reader (length reads.front.records) reads.front.body reads.samples reads.whole
          ∙ ap (λ (ps : List (List ℕ)). let made : Output = record { pieces = map (sample_line pair.rep reader) ps; ending = Done } in made) (sym reads.payloads_are);
      projected = λ payload v spells. ap (λ (r : Result Outcome Fault). outcome_line reader r) (cross pair.policy pair.rep (shape reader) (shape writer) v payload reader_rules writer_rules (inr fits) spells);
    }

pub refused : ShapeKeepsRules → NamedAreValid → ExactlyOne → Refused
refused kept named law words octets pair reader writer payloads reads not =
    let valid = named reads.front.records reads.types pair.reader pair.writer reader writer reads.declares reads.named in
    elim (law pair.policy pair.rep (shape reader) (shape writer) (kept reader valid.0)).some [
      | inl fits ↦ absurd (not fits)
      | inr found ↦ (found.0, found.1, to_verdict words octets pair reader writer payloads reads ∙ ap (λ (f : First). unless_refused styles.Lines (with_type pair.rep reads.front (unless_failed f >>= λ u. Ok reader))) found.1)
    ]
