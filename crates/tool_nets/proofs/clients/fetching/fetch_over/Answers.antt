use Rattle.tool_nets.specs.Nets.{net_of}
use Rattle.tool_nets.proofs.OfClients.Heard.{fetch_came, told_on}
use Rattle.tool_nets.proofs.clients.fetching.fetch_over.Goals as goal

pub returns-clause-came : goal.returns-clause-came
returns-clause-came g c =
    let before = g.N.Net.faults c.args.net.now in
    let between = c.connect.new.self in
    let after = c.end_link.new.self in
    let net = net_of before (g.N.Net.faults after) (g.N.Net.address after) (g.N.Net.heard after) (g.N.Net.held after) in
    let link = c.in-Ok.link in
    let asked = c.fetch-came.new.link in
    let address = told_on (g.N.Net.address between) (g.N.Net.address after) c.args.to.now c.in-Ok.ensures.address c.end_link.ensures.address in
    fetch_came c.args.to.now net (g.N.Net.faults between) (g.N.L.Link.faults link) (g.N.L.Link.faults asked) (g.N.L.Link.got link) (g.N.L.Link.got asked) (g.N.L.Link.left link) (g.N.L.Link.left asked) (g.N.L.Link.taken link) (g.N.L.Link.taken asked)
    c.in-Ok.ensures.link c.in-Ok.ensures.cause.later address c.end_link.ensures.heard c.end_link.ensures.rises c.args.id c.fetch-came.result c.fetch-came.ensures.fetches c.fetch-came.ensures.own c.fetch-came.ensures.cause
