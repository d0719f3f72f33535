use Rattle.std.proofs.Common.{rules, ◌≡◌, w64, to_z, of_z}
use Rattle.node_rules.proofs.OfDistinct.Appended.{found, missed}
use Rattle.node_rules.proofs.distinct.blocks.holds.Goals as goal

pub returns-in-Ok : goal.returns-in-Ok
returns-in-Ok c =
    let same : to_z w64 (of_z w64 c.args.number) ≡ c.args.number = search rules in
    rw (← same) (found c.args.block.now (to_z w64 (of_z w64 c.args.number)) c.in-Ok.field-0 c.in-Ok.ensures.bound c.in-Ok.ensures.ok)

pub returns-in-Err : goal.returns-in-Err
returns-in-Err c =
    let same : to_z w64 (of_z w64 c.args.number) ≡ c.args.number = search rules in
    rw (← same) (missed c.args.block.now (to_z w64 (of_z w64 c.args.number)) c.in-Err.field-0 c.requires c.in-Err.ensures.position)
