-- Records that are replayed, one after another.
use Rattle.std.proofs.Common.{◌≡◌, refl, sym, ap, ◌∙◌, subst, ℕ, ◌+◌, Bool, true, false, if◌then◌else◌, List, [], ◌∷◌, None, Some, Result, Ok, Err}
use Rattle.std.specs.declared.option.Option.{Option}
use Rattle.xt_io.specs.declared.Item.{Item}
use Rattle.xt_io.specs.declared.Kind.{Kind}
use Rattle.xt_io.specs.declared.Kind.TheVariants.{Sample}
use Rattle.xt_io.specs.Bundles.{Bundle, before_bundle}
use Rattle.xt_shapes.specs.declared.leaves.Rep.{Rep}
use Rattle.type_trees.specs.Trees.{Tree}
use Rattle.type_trees.specs.Bridge.{shape}
use Rattle.xcdr_model.specs.declared.malformed.Fault.{Fault}
use Rattle.xcdr_model.specs.Samples.{Outcome, read_sample}
use Rattle.type_object.specs.declared.pool.PoolFault.TheVariants as P
use Rattle.type_object.specs.Pools as pools
use Rattle.object_walks.specs.declared.resolving.ResolveFault.TheVariants as R
use Rattle.object_walks.specs.Resolving as walks
use Rattle.xt_recorder.specs.declared.replayed.ReplayFault.{ReplayFault}
use Rattle.xt_recorder.specs.declared.replayed.ReplayFault.TheVariants as faults
use Rattle.xt_recorder.specs.Answers as answers
use Rattle.xt_recorder.specs.Replays as replays
use Rattle.xt_recorder.specs.Replays.{State, Stream, Step, Answer, nothing, misplaced, not_added, unresolved, no_top, read_in, sample_answer, sample_taken, taken, taken_as}
use Rattle.tool_runs.specs.declared.output.ending.Style.TheVariants.{Lines}
use Rattle.tool_runs.specs.declared.output.halt.Halt.TheVariants as halts
use Rattle.tool_runs.specs.declared.output.stop.Stop.{Stop}
use Rattle.tool_runs.specs.declared.output.stop.Stop.TheVariants as stops
use Rattle.tool_runs.specs.output.Outputs.{Output, after_pieces, after_turn, run_over}
use Rattle.tool_runs.specs.output.Runs.{Steps, Refuses}
use Rattle.tool_runs.proofs.OfOutput.Turning.{refuses_here}
use Rattle.tool_runs.proofs.OfOutput.Written.{stops_here}
use Rattle.tool_samples.specs.lines.Lines.{outcome_line, sample_line}
use Rattle.tool_types.specs.names.Names as names
use Rattle.tool_commands.specs.recordings.Replaying.{answer_lines, replay_refusal, stepped, replay_turn, replayed}
use Rattle.tool_commands.specs.recordings.Stopping.{ReplayStops}

-- ---- one record

-- its lines were written
pub stepped_on : (t u : Tree) (k : ℕ) (item : Item) (step : Step) (answer : Answer) (now : State) (more : State → Output) (result : Result (Unit {0}) Stop) (old new : Option (List ℕ)) → step ≡ Ok (answer, now) → u ≡ t
    → Steps Lines (Some (after_pieces (answer_lines u answer) (more now))) (Some (more now)) result old new → Steps Lines (Some (after_turn Lines (stepped t k item step) more)) (Some (more now)) result old new
stepped_on t u k item step answer now more result old new is same p =
    let so = subst (λ (v : Tree). Steps Lines (Some (after_pieces (answer_lines v answer) (more now))) (Some (more now)) result old new) same p in
    subst (λ (x : Step). Steps Lines (Some (after_turn Lines (stepped t k item x) more)) (Some (more now)) result old new) (sym is) so

-- a sample that is read has one line, and leaves the state as it is
answer_line : (t : Tree) (read : Result Outcome Fault) → answer_lines t (sample_answer read) ≡ outcome_line t read ∷ []
answer_line t (Ok outcome) = refl
answer_line t (Err fault) = refl

read_so : (t : Tree) (s : State) (rep of : Rep) (yes : Bool) (payload : List ℕ) → (if yes then Some of else None) ≡ Some rep
    → (let step : Step = if yes then Ok (sample_answer (read_sample of (shape t) payload), s) else Ok (nothing, s) in step) ≡ Ok (sample_answer (read_sample rep (shape t) payload), s)
read_so t s rep of true payload e = let same : of ≡ rep = cc in ap (λ (r : Rep). Ok (sample_answer (read_sample r (shape t) payload), s)) same
read_so t s rep of false payload e = absurd cc

read_taken : (t : Tree) (s : State) (rep : Rep) (stream : Option Stream) (payload : List ℕ) → read_in stream ≡ Some rep → sample_taken t s stream payload ≡ Ok (sample_answer (read_sample rep (shape t) payload), s)
read_taken t s rep None payload e = absurd cc
read_taken t s rep (Some st) payload e = read_so t s rep st.rep st.yes payload e

pub sample_stepped : (t : Tree) (k : ℕ) (item : Item) (s : State) (rep : Rep) (more : State → Output) (result : Result (Unit {0}) Stop) (old new : Option (List ℕ)) → item.kind ≡ Sample → read_in s.stream ≡ Some rep
    → Steps Lines (Some (after_pieces (sample_line rep t item.payload ∷ []) (more s))) (Some (more s)) result old new → Steps Lines (Some (after_turn Lines (replay_turn t k item s) more)) (Some (more s)) result old new
sample_stepped t k item s rep more result old new kind reads p =
    let read : Result Outcome Fault = read_sample rep (shape t) item.payload in
    let step : taken t s item ≡ Ok (sample_answer read, s) = ap (λ (i : Kind). taken_as i t s item.payload) kind ∙ read_taken t s rep s.stream item.payload reads in
    let lines = subst (λ (l : List (List ℕ)). Steps Lines (Some (after_pieces l (more s))) (Some (more s)) result old new) (sym (answer_line t read)) p in
    stepped_on t t k item (taken t s item) (sample_answer read) s more result old new step refl lines

refused_so : (t : Tree) (k : ℕ) (item : Item) (step : Step) (more : State → Output) (rest : Option Output) (why : replays.Refusal) (stop : Stop) (a : Option (List ℕ)) → step ≡ Err why → Refuses (replay_refusal k item why) stop
    → Steps {T = Unit {0}} Lines (Some (after_turn Lines (stepped t k item step) more)) rest (Err stop) a a
refused_so t k item step more rest why stop a is p = refuses_here (Unit {0}) Lines (after_turn Lines (stepped t k item step) more) rest (replay_refusal k item why) stop a (ap (λ (x : Step). after_turn Lines (stepped t k item x) more) is) p

not_added_so : (step : Step) (why said : pools.Refusal) → step ≡ Err (not_added why) → (let r : Result pools.Texts pools.Refusal = Err why in r) ≡ Err said → step ≡ Err (not_added said)
not_added_so step why said is e = let same : why ≡ said = cc in is ∙ ap (λ (x : pools.Refusal). Err (not_added x)) same

unresolved_so : (step : Step) (why said : walks.Refusal) → step ≡ Err (unresolved why) → (let r : Result pools.Texts walks.Refusal = Err why in r) ≡ Err said → step ≡ Err (unresolved said)
unresolved_so step why said is e = let same : why ≡ said = cc in is ∙ ap (λ (x : walks.Refusal). Err (unresolved x)) same

-- it is refused
pub step_refused : (t : Tree) (k : ℕ) (item : Item) (step : Step) (more : State → Output) (rest : Option Output) (fault : ReplayFault) (stop : Stop) (a : Option (List ℕ)) → answers.Refuses fault step → ReplayStops k item fault stop
    → Steps {T = Unit {0}} Lines (Some (after_turn Lines (stepped t k item step) more)) rest (Err stop) a a
step_refused t k item step more rest faults.Misplaced stop a p q = refused_so t k item step more rest misplaced stop a p q
step_refused t k item step more rest (faults.Pool (P.Object fault)) stop a p q = refused_so t k item step more rest (not_added (pools.no_object fault)) stop a (not_added_so step p.0 (pools.no_object fault) p.2 p.1) q
step_refused t k item step more rest (faults.Pool (P.Clash id)) stop a p q = refused_so t k item step more rest (not_added (pools.clash id)) stop a (not_added_so step p.0 (pools.clash id) p.2 p.1) q
step_refused t k item step more rest (faults.Pool P.Full) stop a p q = refused_so t k item step more rest (not_added pools.full) stop a (not_added_so step p.0 pools.full p.2 p.1) q
step_refused t k item step more rest (faults.Pool P.OutOfMemory) stop a p q = absurd p
step_refused t k item step more rest (faults.Resolve (R.Missing id)) stop a p q = refused_so t k item step more rest (unresolved (walks.missing id)) stop a (unresolved_so step p.0 (walks.missing id) p.2 p.1) q
step_refused t k item step more rest (faults.Resolve (R.Recursive id)) stop a p q = refused_so t k item step more rest (unresolved (walks.recursive id)) stop a (unresolved_so step p.0 (walks.recursive id) p.2 p.1) q
step_refused t k item step more rest (faults.Resolve (R.Invalid id fault)) stop a p q =
    refused_so t k item step more rest (unresolved (walks.invalid id fault.rule fault.node)) stop a (unresolved_so step p.0 (walks.invalid id fault.rule fault.node) p.2 p.1) q
step_refused t k item step more rest (faults.Resolve R.OutOfMemory) stop a p q = absurd p
step_refused t k item step more rest (faults.Top id) stop a p q = refused_so t k item step more rest (no_top id) stop a p q
step_refused t k item step more rest faults.OutOfMemory stop a p q = rw q (stops_here (Some (after_turn Lines (stepped t k item step) more)) halts.OutOfMemory a)

-- ---- a record and those behind it

next_record : (t : Tree) (s : State) (k : ℕ) (item : Item) (more : Bundle) → replayed t s k (before_bundle item more) ≡ after_turn Lines (replay_turn t k item s) (λ next. replayed t next (k + 1) more)
unfolding run_over
next_record t s k item more = refl

-- it was taken
pub record_stepped : (t u : Tree) (s now : State) (k : ℕ) (item : Item) (more : Bundle) (result : Result (Unit {0}) Stop) (old new : Option (List ℕ)) → u ≡ t → ((rest : State → Output) → Steps Lines (Some (after_turn Lines (replay_turn t k item s) rest)) (Some (rest now)) result old new)
    → Steps Lines (Some (replayed t s k (before_bundle item more))) (Some (replayed u now (k + 1) more)) result old new
record_stepped t u s now k item more result old new same p =
    let rest : State → Output = λ next. replayed t next (k + 1) more in
    let step = subst (λ (v : Tree). Steps Lines (Some (after_turn Lines (replay_turn t k item s) rest)) (Some (replayed v now (k + 1) more)) result old new) (sym same) (p rest) in
    subst (λ (o : Output). Steps Lines (Some o) (Some (replayed u now (k + 1) more)) result old new) (sym (next_record t s k item more)) step
