use Rattle.std.proofs.Common.{◌++◌, ◌∙◌, ap, List, ℕ, length, take, arith}
use Rattle.std.proofs.lemmas.List.{length-take-le}
use Rattle.packed_json.proofs.Rows.{first_added}
use Rattle.packed_json.proofs.block.Block.add_first.Goals as goal

pub returns : goal.returns
returns c =
    let all = c.self.inside.octets in
    let held = length-take-le c.self.inside.count all (omega (arith, c.self.told, c.self.inside.in_range)) in
    let same = c.copy_from_slice.ensures.after in
    first_added c.self.inside.count (length c.args.octets.now) c.args.count c.args.self.now all c.copy_from_slice.new.self c.self.view_is (omega (arith, c.self.told, c.requires.room, held, ap length c.self.view_is)) (ap length same) c.requires.some ∙ ap (λ (l : List ℕ). c.args.self.now ++ take c.args.count l) same
