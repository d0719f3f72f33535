use Rattle.std.proofs.Common.{sym, subst, arith}
use Rattle.type_trees.specs.View.{tree}
use Rattle.type_object.specs.Pools.{Texts}
use Rattle.xt_recorder.specs.Judged.{IsSo}
use Rattle.xt_recorder.proofs.Growing.{still_judged_as}
use Rattle.xt_recorder.proofs.Kept.{still}
use Rattle.xt_recorder.proofs.replayer.Replayer.add.Goals as goal

pub invariant_of-self : goal.invariant_of-self
invariant_of-self c =
    let reader = tree c.args.self.now.reader in
    record {
      valid = c.args.self.now.valid;
      known = λ x e. still_judged_as reader c.args.self.now.pool c.add-added.new.self c.args.payload.now c.add-added.result c.add-added.ensures.ok c.add-added.ensures.unchanged x (c.args.self.now.known x e);
      so = λ x e. absurd (cc e);
    }

pub invariant_of-self-else-len-count : goal.invariant_of-self-else-len-count
invariant_of-self-else-len-count c =
    let pool = c.args.self.now.pool in
    let new = c.add-added.new.self in
    let reader = tree c.args.self.now.reader in
    let same = still pool new c.args.payload.now c.add-added.result c.add-added.ensures.ok c.add-added.ensures.unchanged (omega (arith, c.if-len-count.false, c.len.ensures.count, c.len-count.ensures.count)) in
    record {
      valid = c.args.self.now.valid;
      known = λ x e. still_judged_as reader pool new c.args.payload.now c.add-added.result c.add-added.ensures.ok c.add-added.ensures.unchanged x (c.args.self.now.known x e);
      so = λ x e. subst (λ (p : Texts). IsSo reader p x) (sym same) (c.args.self.now.so x e);
    }
