use Rattle.std.proofs.Common.{rules, ap, ◌∙◌, ◌++◌, ◌≤◌, take, arith, ◌≡◌, length, ℕ, List}
use Rattle.xcdr_model.specs.Numbers.{low_octets}
use Rattle.xt_wire.proofs.OfNumbers.UnitSteps.{unit_small}
use Rattle.value_writer.proofs.Blocks.{number_added, low_part}
use Rattle.value_writer.proofs.block.Block.add_low.Goals as goal

pub returns : goal.returns
returns c =
    let n = c.args.number in
    let size = c.args.size in
    let view : take c.self.inside.count c.self.inside.octets ≡ c.args.self.now = c.self.view_is in
    let within : c.self.inside.count ≤ length c.self.inside.octets = search rules in
    let small : size ≤ 8 = unit_small size c.requires.size in
    let long : length c.write_u64.new.buf ≡ 8 = search rules in
    let front : take size c.write_u64.new.buf ≡ low_octets size n = low_part size n c.write_u64.new.buf _ c.requires.size c.write_u64.ensures in
    number_added c.self.inside.count size 8 _ c.self.inside.octets c.write_u64.new.buf small within long
    ∙ ap (λ (l : List ℕ). take c.self.inside.count c.self.inside.octets ++ l) front
    ∙ ap (λ (l : List ℕ). l ++ low_octets size n) view
