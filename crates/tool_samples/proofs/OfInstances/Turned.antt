-- A sample that was kept or passed over, or whose key is one too many.
use Rattle.std.proofs.Common.{◌≡◌, ℕ, ◌-◌, ◌≤◌, Bool, true, false, if◌then◌else◌, List, [], Some, Result, Ok, Err, IsErrOf, IsTrue, nat_lt, length, take, refl, sym, ap, ap₂, ◌∙◌, subst, arith}
use Rattle.std.proofs.Math.Seq.{take-length}
use Rattle.std.specs.declared.option.Option.{Option}
use Rattle.std.proofs.KnownBytes.{Appends-nil}
use Rattle.xt_shapes.specs.declared.leaves.Rep.{Rep}
use Rattle.xt_shapes.specs.Lists.{all}
use Rattle.xt_shapes.specs.NodeRules.{rules_hold}
use Rattle.xt_shapes.specs.Shape.{Shape}
use Rattle.xt_shapes.specs.Vals.{Val}
use Rattle.xt_shapes.specs.Weight.{weight}
use Rattle.type_trees.specs.Trees.{Tree}
use Rattle.type_trees.specs.Bridge.{shape}
use Rattle.shape_laws.specs.KeyLaws.{KeyOctetsBound}
use Rattle.shape_laws.specs.Readings.{SampleTyped}
use Rattle.xt_wire.specs.declared.cursor.faults.DecodeFault.{DecodeFault}
use Rattle.xt_wire.specs.declared.cursor.faults.DecodeFault.TheVariants.{Malformed}
use Rattle.xt_wire.specs.cursor.Standing.{Standing}
use Rattle.xt_wire.specs.cursor.Decoding.{spot, Answers, Decodes}
use Rattle.xt_wire.specs.cursor.Slices.{at_start}
use Rattle.xcdr_samples.specs.frames.Frames.{over_region}
use Rattle.xcdr_model.specs.declared.malformed.Fault.{Fault}
use Rattle.xcdr_model.specs.declared.malformed.Why.{Why}
use Rattle.xcdr_model.specs.Reading.{Spot}
use Rattle.xcdr_model.specs.Samples.{Outcome, sample, discarded, must_understand, read_sample}
use Rattle.xcdr_samples.specs.Samples.{sample_outcome}
use Rattle.key_instances.specs.kept.Kept.{Instances, put, is_full}
use Rattle.tool_runs.specs.declared.output.ending.Style.{Style}
use Rattle.tool_runs.specs.declared.output.halt.Halt.{Halt}
use Rattle.tool_runs.specs.declared.output.halt.Halt.TheVariants as halts
use Rattle.tool_runs.specs.declared.output.stop.Stop.{Stop}
use Rattle.tool_runs.specs.declared.output.stop.Stop.TheVariants as stops
use Rattle.tool_runs.specs.output.Outputs.{Output, Refusal, Turn, goes_on, over, after_pieces, after_turn, refused}
use Rattle.tool_runs.specs.output.Runs.{Leads, Refuses, Steps}
use Rattle.tool_runs.proofs.OfOutput.Written.{stops_here}
use Rattle.tool_samples.specs.instances.Holding.{HasKeyRead, value_read}
use Rattle.tool_samples.specs.instances.Instancing.{most_keys, full, put_turn, outcome_turn, payload_turn}
use Rattle.tool_samples.specs.instances.Keeping.{HasKey, Keeps}

-- ---- what was read of a payload in memory

all_of : (payload : List ℕ) → (spot (at_start payload) payload).rest ≡ payload
all_of payload =
    let whole : length payload - 0 ≡ length payload = omega arith in
    ap (λ (n : ℕ). take n payload) whole ∙ take-length payload

told : {T : Type 0} (view : T → Outcome) (rep : Rep) (t : Shape) (payload : List ℕ) {a b : Standing} (result : Result T DecodeFault) → a ≡ at_start payload → Decodes view (sample_outcome rep t) a b result
    → Answers view (at_start payload) b payload (over_region (spot (at_start payload) payload) (read_sample rep t payload)) result
told view rep t payload {a} {b} result start d =
    let e = subst (λ (c : Standing). Decodes view (sample_outcome rep t) c b result) start d in
    subst (λ (xs : List ℕ). Answers view (at_start payload) b payload (over_region (spot (at_start payload) payload) (read_sample rep t xs)) result) (all_of payload) (e.told payload refl)

is_outcome : {T : Type 0} (view : T → Outcome) (q : Result Outcome Fault) (s : Spot) (a b : Standing) (xs : List ℕ) (x : T) → Answers view a b xs (over_region s q) (Ok x) → q ≡ Ok (view x)
is_outcome view (Ok y) s a b xs x p = ap (λ (z : Outcome). Ok z) (sym p.value)
is_outcome view (Err f) s a b xs x p = absurd p

-- it came to this
pub was_read : {T : Type 0} (view : T → Outcome) (rep : Rep) (t : Shape) (payload : List ℕ) {a b : Standing} (x : T) → a ≡ at_start payload → Decodes view (sample_outcome rep t) a b (Ok x) → read_sample rep t payload ≡ Ok (view x)
was_read view rep t payload {a} {b} x start d = is_outcome view (read_sample rep t payload) (spot (at_start payload) payload) (at_start payload) b payload x (told view rep t payload (Ok x) start d)

over_fault : {T : Type 0} (view : T → Outcome) (depth : ℕ) (t : Tree) (cache : Instances) (q : Result Outcome Fault) (s : Spot) (a b : Standing) (xs : List ℕ) (at : ℕ) (why : Why) → Answers {T = T} view a b xs (over_region s q) (Err (Malformed at why)) → Keeps (outcome_turn depth t cache q) cache (Ok tt)
over_fault view depth t cache (Ok y) s a b xs at why p = absurd p
over_fault view depth t cache (Err f) s a b xs at why p = (refl, refl)

-- it was malformed
pub passed_over : {T : Type 0} (view : T → Outcome) (depth : ℕ) (rep : Rep) (t : Tree) (cache : Instances) (payload : List ℕ) {a b : Standing} (at : ℕ) (why : Why) → a ≡ at_start payload → Decodes {T = T} view (sample_outcome rep (shape t)) a b (Err (Malformed at why)) → Keeps (payload_turn depth rep t cache payload) cache (Ok tt)
passed_over {T} view depth rep t cache payload {a} {b} at why start d =
    over_fault view depth t cache (read_sample rep (shape t) payload) (spot (at_start payload) payload) (at_start payload) b payload at why (told view rep (shape t) payload (Err (Malformed at why)) start d)

-- ---- its key

pub key_of : (rep : Rep) (t : Shape) (payload : List ℕ) (x : Outcome) → SampleTyped → KeyOctetsBound → IsTrue (rules_hold t) → weight t ≤ 65536 → IsTrue (all (λ c. nat_lt c 256) payload) → length payload ≤ 1048576 → read_sample rep t payload ≡ Ok x → HasKey t x
key_of rep t payload (sample v) typed bound rules light octets few read =
    let most = bound rep t payload v rules octets read in
    (typed rep t payload v rules octets read, omega (arith, most, light, few))
key_of rep t payload discarded typed bound rules light octets few read = tt
key_of rep t payload must_understand typed bound rules light octets few read = tt

pub has_key : {T : Type 0} (view : T → Outcome) (rep : Rep) (t : Shape) (payload : List ℕ) {a b : Standing} (x : T) → SampleTyped → KeyOctetsBound → IsTrue (rules_hold t) → weight t ≤ 65536 → IsTrue (all (λ c. nat_lt c 256) payload) → length payload ≤ 1048576
    → a ≡ at_start payload → Decodes view (sample_outcome rep t) a b (Ok x) → HasKey t (view x)
has_key view rep t payload x typed bound rules light octets few start d = key_of rep t payload (view x) typed bound rules light octets few (was_read view rep t payload x start d)

-- ---- its turn

pub put_went : (depth : ℕ) (es now : Instances) (key : List ℕ) (v : Val) → (IsTrue (is_full most_keys es key) → ⊥) → now ≡ put depth es key v → Keeps (put_turn depth es key v) now (Ok tt)
put_went depth es now key v room is = by (is_full most_keys es key) room
  where
    by : (b : Bool) → (b ≡ true → ⊥) → Keeps (if b then over full else goes_on [] (put depth es key v)) now (Ok tt)
    by true room = absurd (room refl)
    by false room = (refl, sym is)

refused_so : (said : Refusal) (now : Instances) (stop : Stop) → Refuses said stop → Keeps (over said) now (Err stop)
refused_so said now (stops.Refused r) p = p
refused_so said now (stops.Halted halt) p = p

-- a key too many
pub put_refused : (depth : ℕ) (es now : Instances) (key : List ℕ) (v : Val) (stop : Stop) → IsTrue (is_full most_keys es key) → Refuses full stop → Keeps (put_turn depth es key v) now (Err stop)
put_refused depth es now key v stop many said = by (is_full most_keys es key) many
  where
    by : (b : Bool) → b ≡ true → Keeps (if b then over full else goes_on [] (put depth es key v)) now (Err stop)
    by true e = refused_so full now stop said
    by false e = absurd cc

-- the octets of a sample that has a value, under the value's key
pub octets_kept : (depth : ℕ) (rep : Rep) (t : Tree) (es now : Instances) (payload key : List ℕ) (result : Result (Unit {0}) Stop) → HasKeyRead rep (shape t) payload key → Keeps (put_turn depth es key (value_read (read_sample rep (shape t) payload))) now result
    → Keeps (payload_turn depth rep t es payload) now result
octets_kept depth rep t es now payload key result (v, read, is) p =
    let by_value = subst (λ (q : Result Outcome Fault). Keeps (put_turn depth es key (value_read q)) now result) read p in
    let by_key = subst (λ (k : List ℕ). Keeps (put_turn depth es k v) now result) is by_value in
    subst (λ (q : Result Outcome Fault). Keeps (outcome_turn depth t es q) now result) (sym read) by_key

-- memory was wanting
pub none_kept : (turn : Turn Instances) (now : Instances) → Keeps turn now (Err (stops.Halted halts.OutOfMemory))
none_kept (goes_on pieces next) now = refl
none_kept (over said) now = refl

no_halt : (halt : Halt) → halt ≡ halts.OutOfMemory → (let r : Result (Unit {0}) Stop = Err (stops.Halted halt) in r) ≡ Err (stops.Halted halts.ReadFault) → ⊥
no_halt halts.ReadFault p e = cc
no_halt halts.WriteFault p e = cc
no_halt halts.OutOfMemory p e = cc

pub no_read_fault : (turn : Turn Instances) (now : Instances) (result : Result (Unit {0}) Stop) → Keeps turn now result → IsErrOf result (stops.Halted halts.ReadFault) → ⊥
no_read_fault turn now (Ok u) p e = cc
no_read_fault turn now (Err (stops.Refused r)) p e = cc
no_read_fault (goes_on pieces next) now (Err (stops.Halted halt)) p e = no_halt halt p e
no_read_fault (over said) now (Err (stops.Halted halt)) p e = no_halt halt p e

same_pieces : (pieces : List (List ℕ)) (next now : Instances) (more : Instances → Output) (a : Option (List ℕ)) → pieces ≡ [] → next ≡ now → Leads (Some (after_pieces pieces (more next))) (Some (more now)) a a
same_pieces pieces next now more a p q = ([], ap₂ (λ (l : List (List ℕ)) (s : Instances). after_pieces l (more s)) p q, Appends-nil a)

-- its turn is done
pub kept_on : (style : Style) (turn : Turn Instances) (more : Instances → Output) (now : Instances) (result : Result (Unit {0}) Stop) (a : Option (List ℕ)) → Keeps turn now result → Steps style (Some (after_turn style turn more)) (Some (more now)) result a a
kept_on style (goes_on pieces next) more now (Ok u) a p = same_pieces pieces next now more a p.0 p.1
kept_on style (goes_on pieces next) more now (Err (stops.Refused r)) a p = absurd p
kept_on style (goes_on pieces next) more now (Err (stops.Halted halt)) a p = stops_here (Some (after_turn style (goes_on pieces next) more)) halt a
kept_on style (over said) more now (Ok u) a p = absurd p
kept_on style (over said) more now (Err (stops.Refused r)) a p = ([], ap (refused style) (sym p), Appends-nil a)
kept_on style (over said) more now (Err (stops.Halted halt)) a p = stops_here (Some (refused style said)) halt a
