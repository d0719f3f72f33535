use Rattle.std.proofs.Common.{ℕ, List, Err, ap, ◌∙◌, subst, codes}
use Rattle.std.specs.Io.KnownBytes.{Appends}
use Rattle.xt_io.specs.Outside.{AppendsPrefix, Rose}
use Rattle.tool_runs.specs.declared.output.ending.Style.{Style}
use Rattle.tool_runs.specs.declared.output.halt.Halt.{Halt}
use Rattle.tool_runs.specs.output.Outputs.{last_piece}
use Rattle.tool_nets.specs.Nets.{EndsIn, net_of}
use Rattle.tool_words.specs.View.{net_view}
use Rattle.xt_tool.specs.Nets.{Allowed, net_style}
use Rattle.xt_tool.proofs.NetEnds.{tells, tells_part}
use Rattle.xt_tool.proofs.peers.answer_over_net.Goals as goal

pub returns-in-Ok-write_whole-clause-net : goal.returns-in-Ok-write_whole-clause-net
returns-in-Ok-write_whole-clause-net g c =
    let asked = net_view c.args.asked in
    let now = c.run_net.new.net in
    let net = net_of (g.N.Net.faults c.args.net.now) (g.N.Net.faults now) (g.N.Net.address now) (g.N.Net.heard now) (g.N.Net.held now) in
    let allows = Allowed asked (g.S.Source.left c.args.input.now) net in
    let old = g.K.Sink.taken c.args.output.now in
    let mid = g.K.Sink.taken c.run_net.new.output in
    let new = g.K.Sink.taken c.write_whole.new.sink in
    let said = codes "read-fault" in
    let ran = subst (λ (e : Halt). EndsIn allows (Err e) old mid) c.in-Err-ReadFault.field-0-is c.in-Err-ReadFault.ensures.output in
    let last = c.read_fault.ensures ∙ ap (λ (s : Style). last_piece s said) c.net_style-style.ensures in
    tells allows (last_piece (net_style asked) said) (Rose (g.S.Source.faults c.args.input.now) (g.S.Source.faults c.run_net.new.input)) old mid new ran (subst (λ (l : List ℕ). Appends mid new l) last c.in-Ok-write_whole.ensures.whole)

pub returns-in-Err-clause-net : goal.returns-in-Err-clause-net
returns-in-Err-clause-net g c =
    let asked = net_view c.args.asked in
    let now = c.run_net.new.net in
    let net = net_of (g.N.Net.faults c.args.net.now) (g.N.Net.faults now) (g.N.Net.address now) (g.N.Net.heard now) (g.N.Net.held now) in
    let allows = Allowed asked (g.S.Source.left c.args.input.now) net in
    let old = g.K.Sink.taken c.args.output.now in
    let mid = g.K.Sink.taken c.run_net.new.output in
    let new = g.K.Sink.taken c.write_whole.new.sink in
    let said = codes "read-fault" in
    let ran = subst (λ (e : Halt). EndsIn allows (Err e) old mid) c.in-Err-ReadFault.field-0-is c.in-Err-ReadFault.ensures.output in
    let last = c.read_fault.ensures ∙ ap (λ (s : Style). last_piece s said) c.net_style-style.ensures in
    let rose = c.in-Err-ReadFault.ensures.halts.read (ap (λ (e : Halt). Err e) c.in-Err-ReadFault.field-0-is) in
    tells_part allows (last_piece (net_style asked) said) _ old mid new ran (subst (λ (l : List ℕ). AppendsPrefix mid new l) last c.in-Err.ensures.prefix) rose
