use Rattle.std.proofs.Common.{◌∙◌, sym}
use Rattle.type_trees.specs.Ids.{same_id}
use Rattle.lookup_fetch.proofs.TakingIn.{fault_not_asked, fault_again, fault_misnamed, fault_refused, fault_kept, held_kept, negated, affirmed}
use Rattle.lookup_fetch.proofs.replies.take_object.Goals as goal

pub returns-then-not-contains-clause-fault : goal.returns-then-not-contains-clause-fault
returns-then-not-contains-clause-fault c = fault_not_asked c.args.asked.now c.args.before.now c.args.object.now (sym c.contains.ensures ∙ c.if-not-contains.true)

pub returns-then-contains-clause-fault : goal.returns-then-contains-clause-fault
returns-then-contains-clause-fault c = fault_again c.args.asked.now c.args.before.now c.args.object.now (sym c.contains.ensures ∙ c.if-not-contains.false) (sym c.contains-2.ensures ∙ c.if-contains.true)

pub returns-then-ne-clause-fault : goal.returns-then-ne-clause-fault
returns-then-ne-clause-fault c =
    let other = negated (same_id c.args.object.now.id c.named-got.result) (sym c.ne.ensures ∙ c.if-ne.true) in
    fault_misnamed c.args.asked.now c.args.before.now c.args.held.now c.args.object.now c.octets-octets.result.now c.named-got.result c.octets-octets.ensures c.named-got.ensures (sym c.contains.ensures ∙ c.if-not-contains.false) (sym c.contains-2.ensures ∙ c.if-contains.false) c.misnamed.result other c.misnamed.ensures

pub returns-in-Ok-clause-good : goal.returns-in-Ok-clause-good
returns-in-Ok-clause-good c =
    let own = affirmed (same_id c.args.object.now.id c.named-got.result) (sym c.ne.ensures ∙ c.if-ne.false) in
    fault_kept c.args.asked.now c.args.before.now c.args.held.now c.args.object.now c.octets-octets.result.now c.named-got.result c.octets-octets.ensures c.named-got.ensures (sym c.contains.ensures ∙ c.if-not-contains.false) (sym c.contains-2.ensures ∙ c.if-contains.false) own c.in-Ok.ensures.read

pub returns-in-Ok-clause-held : goal.returns-in-Ok-clause-held
returns-in-Ok-clause-held c =
    let own = affirmed (same_id c.args.object.now.id c.named-got.result) (sym c.ne.ensures ∙ c.if-ne.false) in
    held_kept c.args.asked.now c.args.before.now c.args.held.now c.args.object.now c.octets-octets.result.now c.named-got.result c.octets-octets.ensures c.named-got.ensures (sym c.contains.ensures ∙ c.if-not-contains.false) (sym c.contains-2.ensures ∙ c.if-contains.false) own c.requires _ _ c.in-Ok.ensures.read c.in-Ok.ensures.ok

pub returns-in-Err-Object-clause-fault : goal.returns-in-Err-Object-clause-fault
returns-in-Err-Object-clause-fault c =
    let own = affirmed (same_id c.args.object.now.id c.named-got.result) (sym c.ne.ensures ∙ c.if-ne.false) in
    fault_refused c.args.asked.now c.args.before.now c.args.held.now c.args.object.now c.octets-octets.result.now c.named-got.result c.octets-octets.ensures c.named-got.ensures (sym c.contains.ensures ∙ c.if-not-contains.false) (sym c.contains-2.ensures ∙ c.if-contains.false) own c.requires _ (rw c.in-Err-Object.field-0-is at c.in-Err-Object.ensures.err)
