use Rattle.std.proofs.Common.{rules, ◌∷◌, ◌++◌, ◌∙◌, [], ap, sym, subst}
use Rattle.pg_cluster.specs.Clients.{OpensMore}
use Rattle.pg_cluster.proofs.Opening.{opens_none, opens_one}
use Rattle.pg_cluster.proofs.runs.open_ports.Goals as goal

pub loop-init : goal.loop-init
loop-init c = (search rules, subst (OpensMore c.args.clients.now.items c.args.clients.now.items) (sym c.new-ports.ensures.items) (opens_none c.args.clients.now.items))

pub loop-preserved : goal.loop-preserved
loop-preserved c =
    let old = c.args.clients.now.items in
    let clients = c.loop.clients.items in
    let ports = c.loop.ports.items in
    let client = c.in_ok-client.client in
    let port = c.in_ok-client.port in
    let more = c.push_reserved.ensures.items ∙ ap (λ cs. cs ++ client ∷ []) c.reserve.ensures.items in
    let others = c.push_reserved-in-loop.ensures.items ∙ ap (λ ps. ps ++ port ∷ []) c.reserve-in-loop.ensures.items in (
      search rules,
      subst (λ cs. OpensMore old cs c.push_reserved-in-loop.new.self.items) (sym more)
          (subst (OpensMore old (clients ++ client ∷ [])) (sym others) (opens_one old clients ports client port c.loop.invariant.1 c.in_ok-client.ensures)),
    )
