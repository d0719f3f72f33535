use Rattle.std.proofs.Common.{Err, codes, subst, sym}
use Rattle.type_mirror.specs.declared.told.told.PushFault.{PushFault}
use Rattle.tool_nets.specs.clients.Lines.{push_output}
use Rattle.tool_nets.specs.clients.Saying.{Says}
use Rattle.tool_nets.proofs.clients.mirroring.refuse_push.Goals as goal

pub returns-in-BadReply-clause-says : goal.returns-in-BadReply-clause-says
returns-in-BadReply-clause-says g c =
    subst (λ (f : PushFault). Says (push_output (Err f)) c.refuse_peer.result (g.K.Sink.taken c.args.sink.now) (g.K.Sink.taken c.refuse_peer.new.sink)) (sym c.in-BadReply.is) (c.refuse_peer.ensures.ends (codes "mirror bad-reply") c.bad_reply.ensures)
