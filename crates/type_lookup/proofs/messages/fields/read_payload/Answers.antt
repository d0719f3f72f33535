use Rattle.std.proofs.Common.{◌≡◌, List, [], ℕ, Err, subst, arith, get_or, Fits, w8}
use Rattle.std.proofs.lemmas.Result.{err_from_is_err_and}
use Rattle.type_lookup.specs.messages.Fields.{Reads, message_at, got}
use Rattle.type_lookup.specs.messages.Spelling.{AreOctets}
use Rattle.type_lookup.proofs.OfMessages.Limits.{message_limits}
use Rattle.type_lookup.proofs.OfMessages.Payloads.{payload-stopped, payload-longer, payload-whole}
use Rattle.type_lookup.proofs.messages.fields.read_payload.Goals as goal

-- the octets of a slice
octets_are : (octets : List ℕ) → ((i : ℕ) → Fits w8 (get_or octets i 0)) → AreOctets octets
octets_are octets fits i = let h = fits i in omega (arith, h)

pub returns-in_err-message-clause-read : goal.returns-in_err-message-clause-read
returns-in_err-message-clause-read c =
    let p = err_from_is_err_and c.from_residual.result c.from_residual.ensures.1 in
    let read = subst (λ (o : List ℕ). Reads (message_at o) (Err c.in_err-message.field-0.0) c.message.new.self.rest.now) c.new-fields.ensures c.in_err-message.ensures in
    rw (p.1, p.2) (payload-stopped _ c.message.new.self.rest.now _ c.in_err-message.field-0.0 read)

pub returns-then-fields-gt0-clause-read : goal.returns-then-fields-gt0-clause-read
returns-then-fields-gt0-clause-read c =
    let read = subst (λ (o : List ℕ). message_at o ≡ got c.in_ok-message.message c.message.new.self.rest.now) c.new-fields.ensures c.in_ok-message.ensures in
    rw c.bad.ensures (payload-longer _ _ _ read c.if-fields-gt0.true)

pub returns-clause-read : goal.returns-clause-read
returns-clause-read c =
    let read = subst (λ (o : List ℕ). message_at o ≡ got c.in_ok-message.message c.message.new.self.rest.now) c.new-fields.ensures c.in_ok-message.ensures in
    payload-whole _ _ _ read (omega (arith, c.if-fields-gt0.false))

pub returns-clause-limits : goal.returns-clause-limits
returns-clause-limits c = (message_limits c.args.octets.now [] c.in_ok-message.message (octets_are c.args.octets.now c.type_inv.octets) (returns-clause-read c)).0

pub returns-clause-spelled : goal.returns-clause-spelled
returns-clause-spelled c = (message_limits c.args.octets.now [] c.in_ok-message.message (octets_are c.args.octets.now c.type_inv.octets) (returns-clause-read c)).1
