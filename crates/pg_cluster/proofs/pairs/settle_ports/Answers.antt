use Rattle.std.proofs.Common.{arith, ◌≡◌, ◌<◌, length}
use Rattle.pg_cluster.proofs.SettlingPorts.{ports_more, clients_more, meets_more}
use Rattle.pg_cluster.proofs.pairs.settle_ports.Goals as goal

pub loop-place-preserved : goal.loop-place-preserved
loop-place-preserved c =
    let was = c.loop-place.invariant in
    let ports = c.args.ports.now.items in
    let ports2 = c.loop-place.ports.items in
    let clients = c.args.clients.now.items in
    let clients2 = c.loop-place.clients.items in
    let place = c.loop-place.place in
    let count : length ports2 ≡ length ports = was.0.len in
    let test = c.loop-place-test.true in
    let told = c.len-place-end.ensures in
    let low : place < length ports2 = omega arith in
    let client = c.index_mut.result.now in
    let port = c.index_mut-in-loop-place.result.now in
    let client_is = c.index_mut.ensures.value in
    let port_is = c.index_mut-in-loop-place.ensures.value in
    let looked = c.ports_together.ensures in (
      ports_more ports ports2 clients clients2 c.requires was.0 was.1 place low client port client_is port_is _ looked.port,
      clients_more ports ports2 clients clients2 c.requires was.0 was.1 place low client port client_is port_is _ looked.client,
      meets_more ports ports2 clients clients2 c.requires was.0 was.1 place low client port client_is port_is looked.meets was.2,
    )
