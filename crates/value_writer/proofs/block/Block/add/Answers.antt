use Rattle.std.proofs.Common.{rules, ap, ◌∙◌, ◌++◌, ◌≤◌, take, ◌≡◌, length, ℕ, List}
use Rattle.value_writer.proofs.Blocks.{number_added}
use Rattle.value_writer.proofs.block.Block.add.Goals as goal

pub returns : goal.returns
returns c =
    let view : take c.self.inside.count c.self.inside.octets ≡ c.args.self.now = c.self.view_is in
    let within : c.self.inside.count ≤ length c.self.inside.octets = search rules in
    let copied : c.copy_from_slice.new.self ≡ c.args.octets.now = search rules in
    number_added c.self.inside.count c.args.size 16 _ c.self.inside.octets c.copy_from_slice.new.self c.requires.size within (ap length copied ∙ search rules)
    ∙ ap (λ (l : List ℕ). take c.self.inside.count c.self.inside.octets ++ take c.args.size l) copied
    ∙ ap (λ (l : List ℕ). l ++ take c.args.size c.args.octets.now) view
