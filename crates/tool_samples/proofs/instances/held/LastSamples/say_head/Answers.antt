use Rattle.std.proofs.Common.{ℕ, List, sym, ap, ◌∙◌, arith}
use Rattle.std.specs.Prelude.{slice_get}
use Rattle.type_trees.specs.View.{tree}
use Rattle.key_instances.proofs.Mapped.{count_of_shown, key_of_shown, length_shown}
use Rattle.tool_runs.specs.declared.output.ending.Style.TheVariants.{Lines}
use Rattle.tool_samples.specs.instances.Holding.{held_val, kept_in}
use Rattle.tool_samples.specs.instances.Instancing.{head_at, instance_line}
use Rattle.tool_samples.proofs.OfInstances.Lined.{head_said}
use Rattle.tool_samples.proofs.instances.held.LastSamples.say_head.Goals as goal

pub key_at-requires : goal.key_at-requires
key_at-requires g c =
    let self = c.args.self.now in
    omega (arith, c.requires, length_shown (held_val self.rep (tree self.ty)) self.cache.entries)

pub count_at-requires : goal.count_at-requires
count_at-requires g c =
    let self = c.args.self.now in
    omega (arith, c.requires, length_shown (held_val self.rep (tree self.ty)) self.cache.entries)

pub returns-in-Ok-clause-steps : goal.returns-in-Ok-clause-steps
returns-in-Ok-clause-steps g c rest =
    let self = c.args.self.now in
    let t = tree self.ty in
    let f = held_val self.rep t in
    let es = kept_in self in
    let at = c.args.at in
    let line = ap (λ (k : List ℕ). instance_line t k c.count_at.result) c.octets-key.ensures in
    let key = c.key_at.ensures ∙ sym (key_of_shown f self.cache.entries at) in
    let count = c.count_at.ensures ∙ sym (count_of_shown f self.cache.entries at) in
    let said = head_said t es at c.key_at.result.now c.count_at.result key count in
    c.say_pieces.ensures.steps Lines (head_at t (slice_get es at)) rest (c.octets.ensures ∙ c.in-Ok.ensures ∙ line ∙ said)
