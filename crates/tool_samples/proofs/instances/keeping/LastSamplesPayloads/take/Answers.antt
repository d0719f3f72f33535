use Rattle.std.proofs.Common.{ℕ, ◌+◌, List, Some, sym, subst}
use Rattle.xt_io.specs.declared.Item.{Item}
use Rattle.xt_io.specs.declared.Kind.TheVariants.{Sample}
use Rattle.xt_io.specs.Bundles.{before_bundle, item_of}
use Rattle.type_trees.specs.View.{tree}
use Rattle.key_instances.specs.kept.Kept.{Instances}
use Rattle.tool_samples.specs.instances.Holding.{held_val, kept_in, shown_as}
use Rattle.tool_runs.specs.declared.output.ending.Style.TheVariants.{Lines}
use Rattle.tool_runs.specs.output.Outputs.{Output, Turn}
use Rattle.tool_runs.specs.output.Runs.{Steps}
use Rattle.tool_runs.proofs.OfOutput.Turning.{run_at_taken}
use Rattle.tool_samples.specs.instances.Instancing.{instances_turn, instances_end, instances_body, payload_turn}
use Rattle.tool_samples.proofs.OfInstances.Turned.{kept_on}
use Rattle.tool_samples.proofs.instances.keeping.LastSamplesPayloads.take.Goals as goal

pub returns-clause-steps : goal.returns-clause-steps
returns-clause-steps g c more =
    let self = c.args.self.now in
    let depth = self.cache.depth in
    let rep = self.rep in
    let t = tree self.ty in
    let es = kept_in self in
    let now = shown_as (held_val rep t) c.put_sample.new.cache in
    let result = c.put_sample.result in
    let a = g.K.Sink.taken c.args._sink.now in
    let take_one : ℕ → Item → Instances → Turn Instances = instances_turn depth rep t in
    let rest : Instances → Output = λ next. instances_body depth rep t next (c.args._number + 1) more in
    let turn : List ℕ → Turn Instances = λ octets. payload_turn depth rep t es octets in
    let steps = kept_on Lines (turn c.args.payload.now) rest now result a c.put_sample.ensures.put in
    let taken = subst (λ (o : Output). Steps Lines (Some o) (Some (rest now)) result a a) (sym (run_at_taken Lines Sample take_one (instances_end t) es c.args._number (item_of c.args._head c.args.payload.now) more c.requires.taken)) steps in
    subst (λ (d : ℕ). Steps Lines (Some (instances_body depth rep t es c.args._number (before_bundle (item_of c.args._head c.args.payload.now) more))) (Some (instances_body d rep t now (c.args._number + 1) more)) result a a) (sym c.put_sample.ensures.depth) taken
